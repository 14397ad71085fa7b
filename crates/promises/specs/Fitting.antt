-- Number 8 (02 §13): a growth finds no slot exactly where no choice fits.
use Rattle.std.specs.Prelude.{◌≡◌, ◌↔◌, ◌⊎◌, Bool, not, length, T}
use Rattle.std.proofs.Math.Path.{refl, ap}
use Rattle.std.proofs.Common.{sym, ◌∙◌, subst, inl, arith}
use mathlib.Core.List.{List}
use Prim.Native.Nat.{ℕ, zero, suc, ◌≤◌}
use Rattle.meaning.specs.Layout.{granules}
use Rattle.meaning.specs.Bits.{bit}
use Rattle.meaning.specs.Entries.{system}
use Rattle.meaning.specs.Free.{free_granules, lowest_free, longest_free}
use Rattle.meaning.specs.Growth
use Rattle.meaning.specs.Growth.{take_at, grow, grow_by, growth}
use Rattle.meaning.specs.Choice.{Free, Choice, view, NothingFits}
use Rattle.meaning.specs.declared.Geometry.{Geometry}
use Rattle.laws.specs.Facts.{Sound, IsFile}
use Rattle.laws.specs.Places
use Rattle.laws.specs.Change
use Rattle.laws.specs.Longer
use Rattle.laws.specs.TakeOne
use Rattle.promises.specs.Grow
use Rattle.promises.specs.Grow.{Chooses}
use Rattle.laws_choice.specs.Words
use Rattle.laws_choice.specs.Words.{Step, Second, CanLengthen}
use Rattle.laws_choice.specs.Stretches
use Rattle.laws_choice.specs.Theorem
use Rattle.laws_choice.specs.Theorem.{AnyRule, SecondRule}
use Rattle.laws_choice.specs.View

-- `Theorem` has a `Grown` of its own, over any kind of disk. (Where the product's takes its place, this goes.)
conv : Growth.Grown → Theorem.Grown (List ℕ)
conv (Growth.grown d) = Theorem.grown d
conv Growth.no_slot = Theorem.no_slot

conv-grown : (t : Growth.Grown) (d : List ℕ) → conv t ≡ Theorem.grown d → t ≡ Growth.grown d
unfolding conv
conv-grown (Growth.grown d₁) d e = let q : d₁ ≡ d = cc in ap Growth.grown q
conv-grown Growth.no_slot d e = absurd (let z : ◌≡◌ {A = ℕ} 0 1 = cc in omega arith)

conv-none : (t : Growth.Grown) → conv t ≡ Theorem.no_slot → t ≡ Growth.no_slot
unfolding conv
conv-none (Growth.grown d₁) e = absurd (let z : ◌≡◌ {A = ℕ} 0 1 = cc in omega arith)
conv-none Growth.no_slot e = refl

module _ (g : Geometry) (p : ℕ) where
  -- what is known of a disk while k granules more are wanted for the file at slot p: refusals 1, 2, 6, 7 and 9 are passed
  pub record KnownFile (k : ℕ) (d : List ℕ) : Type 0 where
    pub sound : Sound g d
    pub fits : Places.Fits g d
    pub file : IsFile g d p
    pub user : T (not (system g d p))
    pub enough : k ≤ length (free_granules g d)

  abbrev lowest : List ℕ → ℕ
  lowest = lowest_free g

  abbrev longest : List ℕ → ℕ
  longest = longest_free g

  lowest-chooses : Chooses g lowest
  lowest-chooses = TakeOne.first-free g

  longest-chooses : Chooses g longest
  longest-chooses = Grow.longest-chooses g

  module _ (choice : List ℕ → ℕ) (chooses : Chooses g choice) where
    abbrev one : List ℕ → Theorem.Grown (List ℕ)
    one d = conv (take_at g p (choice d) d)

    conv-grow : (k : ℕ) (d : List ℕ) → conv (grow_by g p choice k d) ≡ Theorem.grow one k d
    unfolding Growth.grow_by conv Theorem.grow Growth.and_then Theorem.and_then
    conv-grow zero d = refl
    conv-grow (suc k) d = go (take_at g p (choice d) d) (conv-grow k)
      where
        go : (t : Growth.Grown) → ((d₁ : List ℕ) → conv (grow_by g p choice k d₁) ≡ Theorem.grow one k d₁) → conv (Growth.and_then t (grow_by g p choice k)) ≡
            Theorem.and_then (conv t) (Theorem.grow one k)
        go (Growth.grown d₁) ih = ih d₁
        go Growth.no_slot ih = refl

    known_next : (k : ℕ) (d d' : List ℕ) → KnownFile (suc k) d → take_at g p (choice d) d ≡ Growth.grown d' → KnownFile k d'
    known_next k d d' o e =
        let w = TakeOne.take-at g d o.sound o.fits p o.file o.user (choice d) (chooses d (omega (arith, o.enough))) d' e in
        record {
          sound = Change.changed g d d' o.sound p w.change;
          fits = Places.as_long o.fits w.long;
          file = w.file;
          user = subst (λ (b : Bool). T (not b)) (sym (ap (bit 6) (w.longer.low 0 (omega arith)))) o.user;
          enough = omega (arith, o.enough, Longer.grown-free g d d' o.sound p o.file w.which w.longer);
        }

    step : (d d' : List ℕ) (c : Sound g d) (w : Places.Fits g d) (f : IsFile g d p) (t : Growth.Grown) → t ≡ Growth.grown d' → View.Took g d c w p f
        (choice d) t
        → Step 32 (granules g) (view g p d) (view g p d')
    step d d' c w f t e (View.Took.longer l h) = Words.Step.longer (subst (λ (x : List ℕ). Words.Lengthens 32 (granules g) (view g p d) (view g p x)) (cc) h)
    step d d' c w f t e (View.Took.starts a h) = Words.Step.starts (choice d)
        (subst (λ (x : List ℕ). Words.Starts 32 (granules g) (view g p d) (view g p x) (choice d)) (cc) h)
    step d d' c w f t e (View.Took.none a r) = absurd (let z : ◌≡◌ {A = ℕ} 0 1 = cc in omega arith)

    -- whatever the choice, it is a rule
    is-rule : AnyRule 32 (granules g) (view g p) KnownFile one
    is-rule = record {
      goes = λ k d d' o e.
          let q = conv-grown (take_at g p (choice d) d) d' e in
          let h = chooses d (omega (arith, o.enough)) in (
            known_next k d d' o q,
            step d d' o.sound o.fits o.file (take_at g p (choice d) d) q
                (View.took g d o.sound o.fits p o.file (choice d) h.0 h.1),
          );
    }

  second-step : (d d' : List ℕ) (c : Sound g d) (w : Places.Fits g d) (f : IsFile g d p) (t : Growth.Grown) → t ≡ Growth.grown d' → View.Took g d c w p f
      (longest d) t
      → Second 32 (granules g) (view g p d) (view g p d')
  second-step d d' c w f t e (View.Took.longer l h) = Words.Second.longer
      (subst (λ (x : List ℕ). Words.Lengthens 32 (granules g) (view g p d) (view g p x)) (cc) h)
  second-step d d' c w f t e (View.Took.starts a h) =
      Words.Second.starts (longest d) (λ x. a (View.can-says g p d x)) (Stretches.low-end (granules g) (view g p d))
      (subst (λ (x : List ℕ). Words.Starts 32 (granules g) (view g p d) (view g p x) (longest d)) (cc) h)
  second-step d d' c w f t e (View.Took.none a r) = absurd (let z : ◌≡◌ {A = ℕ} 0 1 = cc in omega arith)

  second-stops : (d : List ℕ) (c : Sound g d) (w : Places.Fits g d) (f : IsFile g d p) (t : Growth.Grown) → t ≡ Growth.no_slot → View.Took g d c w p f
      (longest d) t
      → (CanLengthen 32 (granules g) (view g p d) → ⊥) × (((view g p d).room ≡ 0) ⊎ ((n : ℕ) → Free (granules g) (view g p d) n → ⊥))
  second-stops d c w f t e (View.Took.longer l h) = absurd (let z : ◌≡◌ {A = ℕ} 0 1 = cc in omega arith)
  second-stops d c w f t e (View.Took.starts a h) = absurd (let z : ◌≡◌ {A = ℕ} 0 1 = cc in omega arith)
  second-stops d c w f t e (View.Took.none a r) = ((λ x. a (View.can-says g p d x)), inl r)

  is-second : SecondRule 32 (granules g) (view g p) KnownFile (one longest longest-chooses)
  is-second = record {
    stands = λ k d o. View.stands g p d o.sound o.file;
    goes = λ k d d' o e.
        let q = conv-grown (take_at g p (longest d) d) d' e in
        let h = longest-chooses d (omega (arith, o.enough)) in (
          known_next longest longest-chooses k d d' o q,
          second-step d d' o.sound o.fits o.file (take_at g p (longest d) d) q
              (View.took g d o.sound o.fits p o.file (longest d) h.0 h.1),
        );
    stops = λ k d o e.
        let h = longest-chooses d (omega (arith, o.enough)) in
        second-stops d o.sound o.fits o.file (take_at g p (longest d) d) (conv-none (take_at g p (longest d) d) e)
        (View.took g d o.sound o.fits p o.file (longest d) h.0 h.1);
  }

-- The theorems -----------------------------------------------------------------------------------------------------------

module _ (g : Geometry) (p k : ℕ) (d : List ℕ) (o : KnownFile g p k d) where
  abbrev Fitting : Type 0
  Fitting = Choice 32 (granules g) (view g p d) k

  -- what 01's growth took is a choice
  pub first-choice : (d' : List ℕ) → grow g p k d ≡ Growth.grown d' → Fitting
  unfolding conv
  first-choice d' e =
      Theorem.any-choice 32 (granules g) (view g p) (KnownFile g p) (one g p (lowest g p) (lowest-chooses g p)) (omega arith)
      (is-rule g p (lowest g p) (lowest-chooses g p)) k d d' o
      (sym (conv-grow g p (lowest g p) (lowest-chooses g p) k d) ∙ ap conv e)

  -- the second finds no slot exactly if no choice fits
  pub second-iff : (grow_by g p (longest g p) k d ≡ Growth.no_slot) ↔ NothingFits g d p k
  unfolding conv
  second-iff = (
    λ e. both.0 (sym (conv-grow g p (longest g p) (longest-chooses g p) k d) ∙ ap conv e),
    λ n. conv-none (grow_by g p (longest g p) k d) (conv-grow g p (longest g p) (longest-chooses g p) k d ∙ both.1 n),
  )
    where
      both : (Theorem.grow (one g p (longest g p) (longest-chooses g p)) k d ≡ Theorem.no_slot) ↔ (Fitting → ⊥)
      both = Theorem.stuck-iff 32 (granules g) (view g p) (KnownFile g p) (one g p (longest g p) (longest-chooses g p)) (omega arith) (is-second g p) k d o

  apart : (x : List ℕ) → Growth.grown x ≡ Growth.no_slot → ⊥
  apart x e = let z : ◌≡◌ {A = ℕ} 0 1 = cc in omega arith

  -- 8 means that no choice fits
  pub growth-iff : (growth g p k d ≡ Growth.no_slot) ↔ NothingFits g d p k
  growth-iff = (λ e. fore (grow g p k d) refl e, λ n. back (grow g p k d) refl n)
    where
      fore : (t : Growth.Grown) → grow g p k d ≡ t → growth g p k d ≡ Growth.no_slot → Fitting → ⊥
      fore (Growth.grown d') q e = absurd (apart d' (sym (Grow.keeps-first g k d d' p q) ∙ e))
      fore Growth.no_slot q e = second-iff.0 (sym (Grow.else-second g k d p q) ∙ e)

      back : (t : Growth.Grown) → grow g p k d ≡ t → (Fitting → ⊥) → growth g p k d ≡ Growth.no_slot
      back (Growth.grown d') q n = absurd (n (first-choice d' q))
      back Growth.no_slot q n = Grow.else-second g k d p q ∙ second-iff.1 n
