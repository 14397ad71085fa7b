use native.Mathlib.Omega.{arith}
use lib.Pow.{pow_pos}
use Rattle.space.proofs.Clear.{shl_wide}
use Rattle.space.proofs.Masks.{mask-coded}
use Rattle.space.proofs.mask.Goals as goal

pub overflow_sub-result : goal.overflow_sub-result
overflow_sub-result c = let e = shl_wide c.args.n (omega arith) in let q = pow_pos c.args.n in omega arith

pub returns : goal.returns
returns c = mask-coded c.args.u c.args.n c.requires
