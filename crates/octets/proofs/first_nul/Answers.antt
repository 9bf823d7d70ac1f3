use Rattle.std.proofs.Common.{arith}
use Rattle.octets.proofs.Nul.{first_nul-within, clear_blocks-within, nul_found, nul_none}
use Rattle.octets.proofs.first_nul.Goals as goal

pub slice_bounds-nul_position-count : goal.slice_bounds-nul_position-count
slice_bounds-nul_position-count c =
    let s = c.args.s.now in
    let n = c.clear_blocks-clear in
    omega (arith, first_nul-within s, clear_blocks-within s n.result n.ensures)

pub slice_bounds-nul_position-start : goal.slice_bounds-nul_position-start
slice_bounds-nul_position-start c =
    let s = c.args.s.now in
    let n = c.clear_blocks-clear in
    omega (arith, first_nul-within s, clear_blocks-within s n.result n.ensures)

pub returns-in-Some : goal.returns-in-Some
returns-in-Some c =
    let s = c.args.s.now in
    let n = c.clear_blocks-clear in
    let p = c.nul_position in
    nul_found s n.result (clear_blocks-within s n.result n.ensures) p.result p.ensures c.in-Some.i c.in-Some.is

pub returns-in-None : goal.returns-in-None
returns-in-None c =
    let s = c.args.s.now in
    let n = c.clear_blocks-clear in
    let p = c.nul_position in
    nul_none s n.result (clear_blocks-within s n.result n.ensures) p.result p.ensures c.in-None.is
