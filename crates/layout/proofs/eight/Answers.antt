use native.Mathlib.Omega.{arith}
use Rattle.layout.proofs.Number.{number-eight}
use Rattle.layout.proofs.eight.Goals as goal

pub returns : goal.returns
returns c = let e = number-eight c.args.bytes.now c.args.at in
    let p = c.four.ensures.is in let q = c.four-2.ensures.is in record { is = omega arith; bytes = λ j. (c.type_inv.bytes j).fits }
