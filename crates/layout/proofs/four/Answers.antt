use native.Mathlib.Omega.{arith}
use Rattle.layout.proofs.Number.{number-four}
use Rattle.layout.proofs.four.Goals as goal

pub returns : goal.returns
returns c = let e = number-four c.args.bytes.now c.args.at in let a = c.two.ensures in let b = c.two-2.ensures in let p = a.is in
    let q = b.is in let x = a.small in let y = b.small in record { is = omega arith; small = omega arith }
