use Prim.Native.Nat.{◌-◌}
use lib.ListN.{length, drop}
use native.Mathlib.Omega.{arith}
use Rattle.server_text.specs.Fields.{string_in, last_of, bare_in, payload_in}
use Rattle.server_text.proofs.LineLaws.{builds-most}
use Rattle.server_text.proofs.fields.payload_at.Goals as goal

pub returns-in-Numbered : goal.returns-in-Numbered
unfolding payload_in
returns-in-Numbered c =
    rw c.in-Numbered.is c.numbered_fields.ensures

pub returns-in-Quoted : goal.returns-in-Quoted
unfolding payload_in
returns-in-Quoted c =
    let A = c.args in
    let f = c.last_string in
    rw c.in-Quoted.is
    (builds-most (last_of (string_in (drop A.at A.line.now))) (length A.line.now - A.at) (length A.line.now)
    A.buf.now A.to f.result f.new.buf f.ensures (omega arith))

pub returns-in-Keyed : goal.returns-in-Keyed
unfolding payload_in
returns-in-Keyed c =
    rw c.in-Keyed.is c.keyed_fields.ensures

pub returns-in-Bare : goal.returns-in-Bare
unfolding payload_in
returns-in-Bare c =
    let A = c.args in
    rw c.in-Bare.is
    (builds-most (bare_in (drop A.at A.line.now)) 0 (length A.line.now) A.buf.now A.to
    c.no_fields.result A.buf.now (c.no_fields.ensures A.buf.now A.to) (omega arith))
