use Rattle.play_trace.proofs.Found.{name-bytes}
use lib.ListN.{take, drop}
use Prim.Native.Nat.{ℕ, ◌+◌, ◌-◌}
use native.Mathlib.Omega.{arith}
use mathlib.Core.Path.{◌≡◌, refl, ap, ◌∙◌}
use Rattle.play_trace.proofs.eleven_at.Goals as goal

-- src/lib.rt:321:1
pub returns : goal.returns
returns c = let d = c.args.trace.now in let at = c.args.at in let e : at + 11 - at ≡ 11 = omega arith in
    c.copy_from_slice.ensures.after ∙ ap (λ (n : ℕ). take n (drop at d)) e ∙ name-bytes d 11 at _ c.requires (λ i. omega (arith, c.type_inv.trace i)) refl
