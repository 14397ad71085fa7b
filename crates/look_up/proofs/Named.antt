-- What goes out beside the number of a call by name, on a disk whose check answered c.
use mathlib.Core.Path.{◌≡◌, refl, sym, ap, ◌∙◌}
use mathlib.Core.List.{List}
use Prim.Native.Nat.{ℕ}
use native.Mathlib.Omega.{arith}
use Rattle.meaning.specs.Names.{comes_in}
use Rattle.meaning.specs.Refusal.{placed, carried}
use Rattle.meaning.specs.Refusals.{check, bad_at, name_refusal}
use Rattle.meaning.specs.declared.Geometry.{Geometry}
use Rattle.meaning.specs.declared.Refusal.{Refusal}
use Rattle.laws.specs.Carried.{carried-own, carried_first, carried-second, carried-apart}
use Rattle.passed.proofs.Checked.{handed}

module _ (g : Geometry) (d n : List ℕ) {c : Refusal} (p : c ≡ check g d) where
  number_is : c.number ≡ (check g d).number
  number_is = ap {B = ℕ} (λ (x : Refusal). x.number) p

  -- the check's own refusal
  pub by-own : c ≡ name_refusal g d n c.number
  by-own = p ∙ sym (carried_first (check g d) (bad_at n) number_is)

  -- 3, with the place of the first bad byte
  pub by_place : {k : ℕ} {r : Refusal} → c.number ≡ 0 → r ≡ placed 3 k → k ≡ (comes_in n).place → r ≡ name_refusal g d n 3
  by_place z e q = e ∙ ap (placed 3) q ∙ sym (carried-second (check g d) (bad_at n) (λ w. omega (arith, w, number_is, z)) ∙ carried-own (bad_at n) refl)

  -- any other number
  pub by_number : {r : Refusal} (k : ℕ) → (k ≡ 3 → ⊥) → r ≡ carried c k → r ≡ name_refusal g d n k
  by_number k z e = handed g d k p e ∙ sym (carried-apart (check g d) (bad_at n) z)
