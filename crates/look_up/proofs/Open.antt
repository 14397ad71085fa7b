-- Open's answers.
use mathlib.Core.Path.{◌≡◌, ap, ◌∙◌}
use mathlib.Core.List.{List, [], ◌∷◌}
use mathlib.Core.Bool.{Bool, not}
use Prim.Native.Nat.{ℕ}
use borrow.Author.Tests.{ne_eqb}
use Rattle.meaning.specs.Lists.{first_or}
use Rattle.meaning.specs.Names.{fold}
use Rattle.meaning.specs.Refusals.{first, name_refusal}
use Rattle.meaning.specs.Handles.{no_handle}
use Rattle.meaning.specs.LookUp.{named, slot_of}
use Rattle.meaning.specs.Open.{admits, opened_at, open_refusals, open'}
use Rattle.meaning.specs.declared.Geometry.{Geometry}
use Rattle.meaning.specs.declared.Handle.{Handle}
use Rattle.meaning.specs.declared.Answer.{Answer}
use Rattle.meaning.specs.declared.Refusal.{Refusal}

module _ (g : Geometry) (d n : List ℕ) (len : ℕ) (checking : Bool) (code : ℕ) where
  pub slot-found : {s : ℕ} → named g d n ≡ s ∷ [] → slot_of g d n ≡ s
  unfolding first_or
  slot-found e = ap (first_or 0) e

  -- test 5, at the slot that was found
  pub admitted : {s : ℕ} {b : Bool} → named g d n ≡ s ∷ [] → admits g d s checking code ≡ b → not (admits g d (slot_of g d n) checking code) ≡ not b
  admitted e h = ap (λ (t : ℕ). not (admits g d t checking code)) (slot-found e) ∙ ap not h

-- of the name that came in: the file is that of its fold
module _ (g : Geometry) (d n : List ℕ) (len : ℕ) (checking : Bool) (code : ℕ) where
  pub open-refused : {no : ℕ} {c : Refusal} {r : Answer} → c ≡ name_refusal g d n no → r ≡ record { refusal = c; handle = no_handle }
      → no ≡ first (open_refusals g d n len checking code) → (no ≡ 0 → ⊥) → r ≡ open' g d n len checking code
  unfolding open'
  open-refused {no} q f e z = rw (← e, ne_eqb no 0 z, f, q)

  pub open-accepted : {s : ℕ} {h : Handle} {c : Refusal} → c ≡ name_refusal g d n 0 → h ≡ opened_at g d s (fold n) len checking code
      → 0 ≡ first (open_refusals g d n len checking code) → named g d (fold n) ≡ s ∷ []
      → ◌≡◌ {A = Answer} (record { refusal = c; handle = h }) (open' g d n len checking code)
  unfolding open'
  open-accepted y f e q = rw (← e, slot-found g d (fold n) len checking code q, f, y)
