-- What an accepted growth leaves, for the call that asked for it.
use mathlib.Core.Path.{◌≡◌, refl, ap, sym, ◌∙◌, subst}
use mathlib.Core.Bool.{Bool, true, false, cond}
use mathlib.Core.List.{List, [], ◌∷◌}
use Prim.Native.Nat.{ℕ, zero, suc, ◌+◌, ◌≤◌}
use native.Mathlib.Omega.{arith}
use lib.ListN.{length, length-append}
use borrow.Author.Tests.{ltb-false}
use Rattle.meaning.specs.Lists.{count}
use Rattle.lists.specs.Members.{length-count}
use Rattle.meaning.specs.Layout.{granules}
use Rattle.meaning.specs.Chain.{owned}
use Rattle.meaning.specs.Free.{free_granules}
use Rattle.meaning.specs.Growth.{take_at, Grown, grown, no_slot, grow_by, growth, and_then, or_else, fails, disk_or, with_granules}
use Rattle.meaning.specs.Refusals.{first, accepted, cannot_grow}
use Rattle.meaning.specs.declared.Geometry.{Geometry}
use Rattle.lists.specs.Members
use Rattle.lists.specs.Counting
use Rattle.laws.specs.Change
use Rattle.laws.specs.Longer
use Rattle.laws.specs.TakeOne
use Rattle.laws.specs.Steps.{Ready, take-ready}
use Rattle.lists.specs.Tests.{first-at}
use Rattle.growth.specs.Choose.{choice_by}
use Rattle.growth.proofs.Step
use Rattle.growth.proofs.Growing.{chooses}

module _ (g : Geometry) (p : ℕ) where
  pub record More (d d' : List ℕ) (k : ℕ) : Type 0 where
    pub ready : Ready g d' p
    pub many : length (owned g d' p) ≡ length (owned g d p) + k

  by-ready : (lowest : Bool) (k : ℕ) (d d' : List ℕ) → Ready g d p → k ≤ length (free_granules g d) → grow_by g p (choice_by g lowest) k d ≡ grown d'
      → More d d' k
  unfolding grow_by and_then
  by-ready lowest zero d d' y h q = let r : d ≡ d' = cc in subst (λ (l : List ℕ). More d l 0) r (record { ready = y; many = omega arith })
  by-ready lowest (suc k) d d' y h q = go (take_at g p (choice_by g lowest d) d) refl q (λ d₁ y₁ l. by-ready lowest k d₁ d' y₁ l)
    where
      go : (t : Grown) → take_at g p (choice_by g lowest d) d ≡ t → and_then t (grow_by g p (choice_by g lowest) k) ≡ grown d'
          → ((d₁ : List ℕ) → Ready g d₁ p → k ≤ length (free_granules g d₁) → grow_by g p (choice_by g lowest) k d₁ ≡ grown d' → More d₁ d' k) → More d d'
          (suc k)
      go (grown d₁) e q ih =
          let c = Step.sound' g d p y in let f = Step.file' g d p y in
          let n = chooses g p lowest d (omega arith) in
          let w = TakeOne.take-at g d c (Step.fits' g d p y) p f (Step.user' g d p y) (choice_by g lowest d) n d₁ e in
          let r = take-ready g d p y (choice_by g lowest d) n d₁ e in
          let m = ih d₁ r.0 (omega (arith, Longer.grown-free g d d₁ c p f w.which w.longer)) q in
          let n : length (owned g d₁ p) ≡ length (owned g d p) + 1 = ap (λ (l : List ℕ). length l) r.1.1 ∙ length-append (owned g d p) (r.1.0 ∷ []) in
          record { ready = m.ready; many = omega (arith, m.many) }
      go no_slot e q ih = absurd (let z : ◌≡◌ {A = ℕ} 0 1 = cc in let v : ⊥ = omega arith in v)

  grow-ready : (k : ℕ) (d d' : List ℕ) → Ready g d p → k ≤ length (free_granules g d) → growth g p k d ≡ grown d' → More d d' k
  unfolding growth or_else
  grow-ready k d d' y h q = go (grow_by g p (choice_by g true) k d) refl q
    where
      go : (t : Grown) → grow_by g p (choice_by g true) k d ≡ t → or_else t (grow_by g p (choice_by g false) k d) ≡ grown d' → More d d' k
      go (grown d₁) e q = by-ready true k d d' y h (e ∙ q)
      go no_slot e q = by-ready false k d d' y h q

  not-fails : (z : List ℕ) (t : Grown) → fails t ≡ false → t ≡ grown (disk_or z t)
  unfolding fails disk_or
  not-fails z (grown d) f = refl
  not-fails z no_slot f = absurd (let y : ◌≡◌ {A = ℕ} 0 1 = cc in let v : ⊥ = omega arith in v)

  pub larger-ready : {d d' : List ℕ} (k : ℕ) {n : ℕ} → Ready g d p → n ≡ first (cannot_grow g d p k) → n ≡ 0 → d' ≡ cond (accepted n) (with_granules g d p k) d
      → More d d' k
  larger-ready {d} {d'} k {n} y e z q =
      let t : (j : ℕ) → _ = λ j. first-at (cannot_grow g d p k) (sym e ∙ z) refl j in
      let w : d' ≡ with_granules g d p k = q ∙ ap (λ (j : ℕ). cond (accepted j) (with_granules g d p k) d) z in
      rw w (grow-ready k d (with_granules g d p k) y (ltb-false (length (free_granules g d)) k (t 1)) (not-fails d (growth g p k d) (t 2)))

  -- no file owns more granules than the disk has
  pub owned-most : {d : List ℕ} → Ready g d p → length (owned g d p) ≤ granules g
  owned-most {d} y =
      let c = Step.sound' g d p y in let f = Step.file' g d p y in
      let h = Counting.pigeonhole {xs = count 0 (granules g)} (owned g d p) (Members.count-distinct 0 (granules g)) (c.single p f)
      (λ n i. Members.in_count n 0 (granules g) (omega arith) (omega (arith, Change.owned-lt g d c p n f i))) in
      omega (arith, length-count 0 (granules g))
