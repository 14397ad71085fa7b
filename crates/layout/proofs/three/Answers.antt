use native.Mathlib.Omega.{arith}
use Rattle.layout.proofs.Number.{number-three}
use Rattle.layout.proofs.three.Goals as goal

pub returns : goal.returns
returns c = let e = number-three c.args.bytes.now c.args.at (omega arith) in
    let p = c.two.ensures.is in let q = c.from.ensures in omega arith
