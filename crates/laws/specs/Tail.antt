-- A file whose last entry alone changed in its pairs, so that it owns one granule more at its end
use Rattle.std.specs.Prelude.{◌≡◌, refl, ◌≢◌, ◌⊎◌, not, List, [], ◌∷◌, ◌++◌, ℕ, ◌/◌, ◌<◌, T}
use Rattle.std.proofs.Common.{ap, sym, ◌∙◌, inl, inr, append_assoc, arith, length-append}
use Rattle.meaning.specs.Layout.{byte, taken, granules, directory_granules, granule_bytes}
use Rattle.meaning.specs.Entries.{system, entry_granules}
use Rattle.meaning.specs.Chain.{owned}
use Rattle.meaning.specs.Growth.{tail}
use Rattle.meaning.specs.declared.Geometry.{Geometry}
use Rattle.lists.specs.Members
use Rattle.lists.specs.Members.{In}
use Rattle.laws.specs.Facts
use Rattle.laws.specs.Facts.{Sound}
use Rattle.laws.specs.Change
use Rattle.laws.specs.AtTail
use Rattle.laws.specs.AtTail.{AtTail}
use Rattle.laws.specs.Longer

pub record Grows (g : Geometry) (d d' : List ℕ) (p m : ℕ) : Type 0 where
  pub at : AtTail g d d' p
  pub more : entry_granules g d' (tail g p d) ≡ entry_granules g d (tail g p d) ++ (m ∷ [])
  pub inside : m < granules g
  pub free : T (taken g d m) → ⊥
  pub set' : T (taken g d' m)
  pub keeps : (n : ℕ) → n < granules g → n ≢ m → taken g d' n ≡ taken g d n
  pub same : (i : ℕ) → (In (i / granule_bytes g) (directory_granules g d) → ⊥) → byte d' i ≡ byte d i

module _ (g : Geometry) (d d' : List ℕ) (c : Sound g d) (p : ℕ) (f : Facts.IsFile g d p) (m : ℕ) (h : Grows g d d' p m) where
  pub grows-owned : owned g d' p ≡ owned g d p ++ (m ∷ [])
  grows-owned =
      AtTail.owned-is g d d' c p f h.at ∙ ap (λ (l : List ℕ). AtTail.earlier g d d' c p f h.at ++ l) h.more
      ∙ sym (append_assoc (AtTail.earlier g d d' c p f h.at) (entry_granules g d (tail g p d)) (m ∷ []))
      ∙ ap (λ (l : List ℕ). l ++ (m ∷ [])) (sym (AtTail.owned-was g d d' c p f h.at))

  -- the granules owned before are not m
  not_new : (n : ℕ) → In n (owned g d p) → n ≢ m
  not_new n i q = h.free (rw q at (Change.owned-taken g d c p n f i))

  old-same : (n : ℕ) → In n (owned g d p) → taken g d' n ≡ taken g d n
  old-same n i = h.keeps n (Change.owned-lt g d c p n f i) (not_new n i)

  -- a granule owned now was owned before, or is m
  which : (n : ℕ) → In n (owned g d' p) → In n (owned g d p) ⊎ (n ≡ m)
  which n i = Members.snoc-in (owned g d p) (rw grows-owned at i)

  pub grows-change : T (not (system g d p)) → Change.Change g d d' p
  grows-change = AtTail.tail-change g d d' c p f h.at (record {
    last = λ n j. taken' n (Members.snoc-in (entry_granules g d (tail g p d)) (rw h.more at j));
    before = λ x n i q j. old-same n (Change.granule-owned g d c p x n i j);
    fits = rw (grows-owned, length-append) (omega (arith, (Change.filed-at g d c p f).fits));
    off = λ u n i j. outside u n j (which n i);
    single = rw grows-owned (Members.snoc-distinct (c.single p f) (λ i. not_new m i refl));
    keeps = λ n l a b. h.keeps n l (λ q. b (rw (grows-owned, q) (Members.in-append-r (owned g d p) Members.In.here)));
    freed = λ n i a. absurd (a (rw grows-owned (Members.in-append-l (m ∷ []) i)));
    fresh = λ n i a. new n (which n i) a;
  })
    where
      taken' : (n : ℕ) → In n (entry_granules g d (tail g p d)) ⊎ (n ≡ m) → T (taken g d' n)
      taken' n (inl j) = let o = Change.granule-owned g d c p (tail g p d) n (Change.tail-in g d c p f) j in
          rw (old-same n o) (Change.owned-taken g d c p n f o)
      taken' n (inr q) = rw q h.set'

      outside : T (not (system g d p)) → (n : ℕ) → In n (directory_granules g d) → In n (owned g d p) ⊎ (n ≡ m) → ⊥
      outside u n j (inl i) = (Change.filed-at g d c p f).off u n i j
      outside u n j (inr q) = h.free (rw q at (c.directory n j))

      new : (n : ℕ) → In n (owned g d p) ⊎ (n ≡ m) → (In n (owned g d p) → ⊥) → T (taken g d n) → ⊥
      new n (inl i) a = absurd (a i)
      new n (inr q) a = rw q h.free

  pub grows-longer : Longer.Longer g d d' p m
  grows-longer = record {
    more = grows-owned;
    low = AtTail.low g d d' c p f h.at;
    inside = h.inside;
    free = h.free;
    set' = h.set';
    keeps = h.keeps;
    same = h.same;
  }
