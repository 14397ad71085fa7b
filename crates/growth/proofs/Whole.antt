-- Growth is whole or refused: the number, and what is left of the disk.
use mathlib.Core.Path.{◌≡◌, refl, ap, sym, ◌∙◌}
use mathlib.Core.Bool.{Bool, true, false, cond}
use mathlib.Core.List.{List, [], ◌∷◌}
use Prim.Native.Nat.{ℕ, ◌+◌, ◌-◌, ◌*◌, ◌≤◌, ◌<◌}
use native.Mathlib.Omega.{arith}
use lib.ListN.{length}
use lib.Dec.{ltb}
use borrow.Author.Tests.{lt-ltb, le-ltb}
use Rattle.meaning.specs.Lists.{all}
use Rattle.meaning.specs.Entries.{no_growth}
use Rattle.meaning.specs.Chain.{owned}
use Rattle.meaning.specs.Free.{free_granules}
use Rattle.meaning.specs.Growth.{tail, Grown, grown, no_slot, grow_by, growth, or_else, fails, disk_or, with_granules, lacking}
use Rattle.meaning.specs.Refusals.{first, accepted, cannot_grow}
use Rattle.meaning.specs.declared.Geometry.{Geometry}
use Rattle.lists.specs.Members
use Rattle.laws.specs.Steps.{Ready}
use Rattle.layout.specs.Room.{Room}
use Rattle.lists.specs.Tests.{first-hit, first-skip, first-none, all_yes, all-no, all_none}
use Rattle.growth.proofs.Growing.{grow-done, not_stuck}
use Rattle.growth.specs.Choose.{choice_by}

module _ (g : Geometry) (d : List ℕ) (p : ℕ) where
  -- the number r and the disk d' of a growth by k granules
  abbrev pub Whole : ℕ → ℕ → List ℕ → Type 0
  Whole k r d' = (r ≡ first (cannot_grow g d p k)) × (d' ≡ cond (accepted r) (with_granules g d p k) d)

  abbrev By : Bool → ℕ → Grown
  By lowest k = grow_by g p (choice_by g lowest) k d

  by_first : (k : ℕ) → fails (By true k) ≡ false → growth g p k d ≡ By true k
  unfolding growth or_else fails
  by_first k e = go (By true k) e
    where
      go : (t : Grown) → fails t ≡ false → or_else t (By false k) ≡ t
      go (grown x) e = refl
      go no_slot e = absurd (let z : ◌≡◌ {A = ℕ} 0 1 = cc in let v : ⊥ = omega arith in v)

  by-second : (k : ℕ) → fails (By true k) ≡ true → growth g p k d ≡ By false k
  unfolding growth or_else fails
  by-second k e = go (By true k) e
    where
      go : (t : Grown) → fails t ≡ true → or_else t (By false k) ≡ By false k
      go (grown x) e = absurd (let z : ◌≡◌ {A = ℕ} 0 1 = cc in let v : ⊥ = omega arith in v)
      go no_slot e = refl

  larger-is : (k : ℕ) (d' : List ℕ) → growth g p k d ≡ grown d' → with_granules g d p k ≡ d'
  unfolding disk_or
  larger-is k d' e = rw e

  no-eleven : (k : ℕ) → no_growth g d p ≡ false → all (no_growth g d p ∷ ltb 0 k ∷ []) ≡ false
  no-eleven k e = all-no e _

  none-eleven : (k : ℕ) → k ≤ 0 → (b : Bool) → all (b ∷ ltb 0 k ∷ []) ≡ false
  none-eleven k h true = all_yes refl _ ∙ all-no (le-ltb 0 k h) _
  none-eleven k h false = all-no refl _

  pub whole-none : (k : ℕ) → k ≤ 0 → Whole k 0 d
  whole-none k h =
      let z = grow-done g p true k d h in
      let e = by_first k (ap fails z ∙ not_stuck g p true d) ∙ z in (
        sym (first-skip (none-eleven k h (no_growth g d p)) 11 _ ∙ first-skip (le-ltb (length (free_granules g d)) k (omega arith)) 9 _
            ∙ first-skip (ap fails e ∙ not_stuck g p true d) 8 [] ∙ first-none),
        sym (larger-is k d e),
      )

  pub whole-eleven : (k : ℕ) → 0 < k → no_growth g d p ≡ true → Whole k 11 d
  whole-eleven k h e = (sym (first-hit (all_yes e _ ∙ all_yes (lt-ltb 0 k h) _ ∙ all_none) 11 _), refl)

  pub whole-nine : (k : ℕ) → no_growth g d p ≡ false → ltb (length (free_granules g d)) k ≡ true → Whole k 9 d
  whole-nine k e f = (sym (first-skip (no-eleven k e) 11 _ ∙ first-hit f 9 _), refl)

  pub whole-eight : (k : ℕ) → no_growth g d p ≡ false → ltb (length (free_granules g d)) k ≡ false → fails (By true k) ≡ true → fails (By false k) ≡ true →
      Whole k 8 d
  whole-eight k e f w v = (sym (first-skip (no-eleven k e) 11 _ ∙ first-skip f 9 _ ∙ first-hit (ap fails (by-second k w) ∙ v) 8 []), refl)

  whole-grown : (k : ℕ) {d' : List ℕ} {t : Grown} → no_growth g d p ≡ false → ltb (length (free_granules g d)) k ≡ false → growth g p k d ≡ t → fails t ≡ false
      → d' ≡ disk_or d t → Whole k 0 d'
  whole-grown k e f o w q = (
    sym (first-skip (no-eleven k e) 11 _ ∙ first-skip f 9 _ ∙ first-skip (ap fails o ∙ w) 8 [] ∙ first-none),
    q ∙ ap (disk_or d)
        (sym o),
  )

  pub whole-first : (k : ℕ) {d₁ d' : List ℕ} → no_growth g d p ≡ false → ltb (length (free_granules g d)) k ≡ false → fails (By true k) ≡ false
      → d₁ ≡ d → d' ≡ disk_or d₁ (grow_by g p (choice_by g true) k d₁) → Whole k 0 d'
  whole-first k e f w o q = whole-grown k e f (by_first k w) w (q ∙ ap (λ (m : List ℕ). disk_or m (grow_by g p (choice_by g true) k m)) o)

  pub whole-second : (k : ℕ) {d₁ d' : List ℕ} → no_growth g d p ≡ false → ltb (length (free_granules g d)) k ≡ false → fails (By true k) ≡ true
      → fails (By false k) ≡ false → d₁ ≡ d → d' ≡ disk_or d₁ (grow_by g p (choice_by g false) k d₁) → Whole k 0 d'
  whole-second k e f w v o q = whole-grown k e f (by-second k w) v (q ∙ ap (λ (m : List ℕ). disk_or m (grow_by g p (choice_by g false) k m)) o)

  -- what the growth asks of the disk, after one on paper has left it as it was
  pub again : {e k : ℕ} {d₁ : List ℕ} → d₁ ≡ d → Ready g d p → e ≡ tail g p d → k ≤ length (free_granules g d) → Ready g d₁ p × (e ≡ tail g p d₁) ×
      (k ≤ length (free_granules g d₁))
  again o y e h = rw o (y, e, h)

  pub again-fails : (lowest : Bool) (k : ℕ) {d₁ : List ℕ} → d₁ ≡ d → fails (By lowest k) ≡ false → ◌≡◌ {A = Bool} true true → fails
      (grow_by g p (choice_by g lowest) k d₁) ≡ false
  again-fails lowest k o e b = rw o e

  -- what is lacking, from the number of granules counted
  pub lacks : {n : ℕ} (wanted : ℕ) → n ≡ length (owned g d p) → wanted - n ≡ lacking g d p wanted
  lacks {n} wanted e = ap (λ (m : ℕ). wanted - m) e

  -- what the growth on paper asks
  pub on-paper : (lowest : Bool) {e k : ℕ} → Ready g d p → e ≡ tail g p d → k ≤ length (free_granules g d)
      → Ready g d p × (e ≡ tail g p d) × (k ≤ length (free_granules g d)) × (◌≡◌ {A = Bool} false true → fails (grow_by g p (choice_by g lowest) k d) ≡ false)
  on-paper lowest y e h = (y, e, h, λ b. absurd (Members.false-no (sym b) (Members.true-T {b = true} refl)))

  -- a number found on the disk that a growth on paper left
  pub second-number : (k : ℕ) {d₁ : List ℕ} {f b : Bool} → d₁ ≡ d → f ≡ fails (grow_by g p (choice_by g false) k d₁) → f ≡ b → fails (By false k) ≡ b
  second-number k o e z = sym (ap (λ (x : List ℕ). fails (grow_by g p (choice_by g false) k x)) o) ∙ sym e ∙ z

-- the GAT lies on the disk
pub gat-inside : (g : Geometry) (d : List ℕ) → Room g d → 256 * g.start + 192 ≤ length d
gat-inside g d r = let a = r.directory in let b = r.ten in let c = r.long in omega arith
