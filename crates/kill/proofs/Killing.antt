-- What a kill answers and leaves, refused and accepted.
use mathlib.Core.Path.{◌≡◌, ap, ◌∙◌}
use mathlib.Core.List.{List, [], ◌∷◌}
use mathlib.Core.Bool.{Bool}
use Prim.Native.Nat.{ℕ}
use borrow.Author.Tests.{ne_eqb}
use Rattle.meaning.specs.Refusals.{first, refusal, handle_refusals, protected}
use Rattle.meaning.specs.Handles.{in_range}
use Rattle.meaning.specs.Kill.{kill_refusals, killed, kill}
use Rattle.meaning.specs.declared.Geometry.{Geometry}
use Rattle.meaning.specs.declared.Handle.{Handle}
use Rattle.meaning.specs.declared.Answer.{Answer}
use Rattle.meaning.specs.declared.Refusal.{Refusal}

module _ (g : Geometry) (d : List ℕ) (h : Handle) where
  -- the number of a kill is that of a changing call at level 1
  pub by-range : {ranged : Bool} {n : ℕ} → ranged ≡ in_range g h → n ≡ first (handle_refusals g d h ranged (protected g d 1 h ∷ [])) → n ≡ first
      (kill_refusals g d h)
  by-range r e = e ∙ ap (λ (t : Bool). first (handle_refusals g d h t (protected g d 1 h ∷ []))) r

  pub refused : {n : ℕ} {c : Refusal} → c ≡ refusal g d n → n ≡ first (kill_refusals g d h) → (n ≡ 0 → ⊥)
      → ◌≡◌ {A = Answer × List ℕ} (record { refusal = c; handle = h }, d) (kill g d h)
  unfolding kill
  refused {n} q e z = rw (← e, ne_eqb n 0 z, q)

  pub accepted : {d' : List ℕ} {n : ℕ} {c : Refusal} → c ≡ refusal g d 0 → n ≡ first (kill_refusals g d h) → n ≡ 0 → d' ≡ killed g d h.slot
      → ◌≡◌ {A = Answer × List ℕ} (record { refusal = c; handle = h }, d') (kill g d h)
  unfolding kill
  accepted q e z f = rw (← e, z, f, q)
