use Rattle.space.proofs.Clear.{shl_wide, set_all}
use lib.Pow.{pow_pos}
use lib.Dec.{eqb}
use Prim.Native.Nat.{ℕ, ◌%◌, ◌-◌}
use mathlib.Core.Path.{ap, ◌∙◌}
use native.Mathlib.Omega.{arith}
use Rattle.space.proofs.all_set.Goals as goal

pub nonzero_rem-result : goal.nonzero_rem-result
nonzero_rem-result c = let e = shl_wide c.args.bits c.requires.0 in let p = pow_pos c.args.bits in omega arith

pub overflow_sub-result : goal.overflow_sub-result
overflow_sub-result c = let e = shl_wide c.args.bits c.requires.0 in let p = pow_pos c.args.bits in omega arith

pub returns : goal.returns
returns c = ap (λ (k : ℕ). eqb (c.args.byte % k) (k - 1)) (shl_wide c.args.bits c.requires.0) ∙ set_all c.args.bits c.args.byte c.requires.0
    c.requires.1
