use Rattle.play_trace.specs.Bytes.{numbers-from}
use native.Mathlib.Omega.{arith}
use Rattle.play_trace.proofs.numbers_at.Goals as goal

-- src/lib.rt:79:1
pub returns : goal.returns
returns c = numbers-from c.args.trace.now c.args.at
    c.requires
    (λ i. omega (arith, c.type_inv.trace i)) c.from-b0.ensures
    c.from-b1.ensures
    c.from-b2.ensures
    c.from-b3.ensures c.from-b4.ensures
    c.from-b5.ensures c.from-b6.ensures
