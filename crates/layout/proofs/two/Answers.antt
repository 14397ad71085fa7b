use native.Mathlib.Omega.{arith}
use Rattle.layout.proofs.Number.{number-two}
use Rattle.layout.proofs.two.Goals as goal

pub returns : goal.returns
returns c = let e = number-two c.args.bytes.now c.args.at (omega arith) in let p = c.from.ensures in let q = c.from-2.ensures in
    record { is = omega arith; small = omega arith }
