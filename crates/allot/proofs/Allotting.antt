-- What an allot answers and leaves, refused before the growth and by it, and accepted.
use mathlib.Core.Path.{◌≡◌, refl, sym, ap, ◌∙◌}
use mathlib.Core.List.{List, [], ◌∷◌}
use mathlib.Core.Bool.{Bool, cond}
use Prim.Native.Nat.{ℕ, ◌+◌, ◌/◌}
use lib.Dec.{ltb}
use borrow.Author.Tests.{ne_eqb}
use Rattle.meaning.specs.Lists.{all}
use Rattle.meaning.specs.Layout.{granule_sectors, sector_numbers}
use Rattle.meaning.specs.Refusals.{first, accepted, refusal, handle_refusals, protected, cannot_grow}
use Rattle.meaning.specs.Handles.{in_range}
use Rattle.meaning.specs.Growth.{with_granules, lacking}
use Rattle.meaning.specs.Allot.{allot_refusals, to_allot, allot}
use Rattle.meaning.specs.declared.Geometry.{Geometry}
use Rattle.meaning.specs.declared.Handle.{Handle}
use Rattle.meaning.specs.declared.Answer.{Answer}
use Rattle.meaning.specs.declared.Refusal.{Refusal}
use Rattle.passed.proofs.Checked.{handle-stop, handle-then}

module _ (g : Geometry) (d : List ℕ) (h : Handle) (k : ℕ) {ranged : Bool} (r : ranged ≡ all (in_range g h ∷ ltb k (sector_numbers g) ∷ [])) where
  pub refused : {n : ℕ} {c : Refusal} → c ≡ refusal g d n → n ≡ first (handle_refusals g d h ranged (protected g d 4 h ∷ [])) → (n ≡ 0 → ⊥) → ◌≡◌
      {A = Answer × List ℕ} (record { refusal = c; handle = h }, d) (allot g d h k)
  unfolding allot
  refused {n} y e z =
      let q : n ≡ first (allot_refusals g d h k)
      = handle-stop g d h ranged (protected g d 4 h ∷ []) (cannot_grow g d h.slot (to_allot g d h k)) e z
      ∙ ap (λ (t : Bool). first (handle_refusals g d h t (protected g d 4 h ∷ cannot_grow g d h.slot (to_allot g d h k)))) r in
      rw (← q, ne_eqb n 0 z, y)

  pub grew : {n m w : ℕ} {d' : List ℕ} {c : Refusal} → w ≡ granule_sectors g → c ≡ refusal g d m → n ≡ first
      (handle_refusals g d h ranged (protected g d 4 h ∷ [])) → n ≡ 0 → m ≡ first (cannot_grow g d h.slot (lacking g d h.slot (k / w + 1)))
      → d' ≡ cond (accepted m) (with_granules g d h.slot (lacking g d h.slot (k / w + 1))) d → ◌≡◌ {A = Answer × List ℕ}
      (record { refusal = c; handle = h }, d') (allot g d h k)
  unfolding allot
  grew {n} {m} {w} {d'} p y e z f v =
      let u : lacking g d h.slot (k / w + 1) ≡ to_allot g d h k = ap (λ (s : ℕ). lacking g d h.slot (k / s + 1)) p in
      let q : m ≡ first (allot_refusals g d h k)
      = f ∙ ap (λ (x : ℕ). first (cannot_grow g d h.slot x)) u ∙ sym
      (handle-then g d h ranged (protected g d 4 h ∷ []) (cannot_grow g d h.slot (to_allot g d h k)) refl e z)
      ∙ ap (λ (t : Bool). first (handle_refusals g d h t (protected g d 4 h ∷ cannot_grow g d h.slot (to_allot g d h k)))) r in
      rw (← q, v ∙ ap (λ (x : ℕ). cond (accepted m) (with_granules g d h.slot x) d) u, y)
