use Rattle.space.proofs.Clear.{shl_wide}
use Rattle.free_space.proofs.GatPass.{bits-clear, bits-set, longer-few, ended-few}
use lib.Pow.{pow_pos}
use mathlib.Core.Path.{ap, sym, ◌∙◌}
use native.Mathlib.Omega.{arith}
use Prim.Native.Nat.{ℕ, ◌%◌, ◌-◌}
use Rattle.free_space.proofs.block.Goals as goal

pub nonzero_rem-low : goal.nonzero_rem-low
nonzero_rem-low c = let w = shl_wide c.args.units c.requires.2 in omega (arith, w, pow_pos c.args.units)

pub returns-then-low-eq0 : goal.returns-then-low-eq0
returns-then-low-eq0 c = let a = c.args in let w = shl_wide a.units c.requires.2 in
    record {
      is = c.longer.ensures ∙ bits-clear a.units a.byte a.p (ap (λ (k : ℕ). a.byte % k) (sym w) ∙ c.if-low-eq0.true);
      few = longer-few _ _ _ c.longer.ensures;
    }

pub overflow_sub-all : goal.overflow_sub-all
overflow_sub-all c = let w = shl_wide c.args.units c.requires.2 in omega (arith, w, pow_pos c.args.units)

pub returns-then-low-all : goal.returns-then-low-all
returns-then-low-all c = let a' = c.args in let p = c.requires in let a = a' in let w = shl_wide a.units p.2 in
    record {
      is = c.ended.ensures ∙ bits-set a.units a.byte a.p p.1
          (ap (λ (k : ℕ). a.byte % k) (sym w) ∙ c.if-low-all.true ∙ ap (λ (k : ℕ). k - 1) w);
      few = ended-few _ _ _ c.ended.ensures;
    }
