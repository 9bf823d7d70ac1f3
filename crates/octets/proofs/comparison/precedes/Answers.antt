use Rattle.std.proofs.Common.{◌+◌, ◌-◌, sym, ap₂, ◌∙◌, arith}
use lib.Dec.{ltb}
use Rattle.octets.specs.Octets.{Bounded}
use Rattle.octets.proofs.Words.{both, take-le, take-word-same, before-word-other, before-length}
use Rattle.octets.proofs.comparison.precedes.Goals as goal

pub returns-then-n-lt8 : goal.returns-then-n-lt8
returns-then-n-lt8 c = c.bytes_precede.ensures

pub returns-then-x-y : goal.returns-then-x-y
returns-then-x-y c =
    let A = c.args in
    let L = c.loop-i in
    let p : Bounded A.a.now = λ i. omega (arith, c.type_inv.a i) in
    let q : Bounded A.b.now = λ i. omega (arith, c.type_inv.b i) in
    let h = both 8 A.a.now A.b.now L.i (omega arith) (omega arith) p q in
    ap₂ ltb c.number_at-x.ensures.value c.number_at-y.ensures.value
    ∙ sym (before-word-other h L.invariant (λ e. c.if-x-y.true (omega arith)))

pub loop-i-preserved : goal.loop-i-preserved
loop-i-preserved c =
    let A = c.args in
    let L = c.loop-i in
    let p : Bounded A.a.now = λ i. omega (arith, c.type_inv.a i) in
    let q : Bounded A.b.now = λ i. omega (arith, c.type_inv.b i) in
    let h = both 8 A.a.now A.b.now L.i (omega arith) (omega arith) p q in
    take-word-same h L.invariant (omega arith)

pub returns-then-x-y-2 : goal.returns-then-x-y-2
returns-then-x-y-2 c =
    let A = c.args in
    let L = c.loop-i in
    let last = c.min-n.result - 8 in
    let p : Bounded A.a.now = λ i. omega (arith, c.type_inv.a i) in
    let q : Bounded A.b.now = λ i. omega (arith, c.type_inv.b i) in
    let h = both 8 A.a.now A.b.now last (omega arith) (omega arith) p q in
    let f = take-le A.a.now A.b.now L.i last (omega arith) L.invariant in
    sym (before-length A.a.now A.b.now (last + 8) (omega arith) (take-word-same h f (omega arith)))

pub returns : goal.returns
returns c =
    let A = c.args in
    let L = c.loop-i in
    let last = c.min-n.result - 8 in
    let p : Bounded A.a.now = λ i. omega (arith, c.type_inv.a i) in
    let q : Bounded A.b.now = λ i. omega (arith, c.type_inv.b i) in
    let h = both 8 A.a.now A.b.now last (omega arith) (omega arith) p q in
    let f = take-le A.a.now A.b.now L.i last (omega arith) L.invariant in
    ap₂ ltb c.number_at-x-2.ensures.value c.number_at-y-2.ensures.value
    ∙ sym (before-word-other h f (λ e. c.if-x-y-2.false (omega arith)))
