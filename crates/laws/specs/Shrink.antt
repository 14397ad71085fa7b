-- A file whose last entry alone changed in its pairs, so that it lost the last of its granules
use Rattle.std.specs.Prelude.{◌≡◌, ◌≢◌, ◌⊎◌, not, List, [], ◌∷◌, ◌++◌, ℕ, ◌+◌, ◌*◌, ◌/◌, ◌≤◌, ◌<◌, length, T}
use Rattle.std.proofs.Common.{ap, sym, ◌∙◌, subst, inl, inr, append_assoc, arith, length-append}
use Rattle.meaning.specs.Layout.{byte, taken, granules, directory_granules, granule_bytes}
use Rattle.meaning.specs.Entries.{system, entry_granules, size_of}
use Rattle.meaning.specs.Chain.{chain, owned}
use Rattle.meaning.specs.Growth.{tail}
use Rattle.meaning.specs.declared.Geometry.{Geometry}
use Rattle.lists.specs.Members
use Rattle.lists.specs.Members.{In, Distinct}
use Rattle.laws.specs.Facts
use Rattle.laws.specs.Facts.{Sound}
use Rattle.laws.specs.Frame
use Rattle.laws.specs.Change
use Rattle.laws.specs.AtTail
use Rattle.laws.specs.AtTail.{AtTail}
use Rattle.laws.specs.Shorter

pub record Shrinks (g : Geometry) (d d' : List ℕ) (p m : ℕ) : Type 0 where
  pub at : AtTail g d d' p
  pub less : entry_granules g d (tail g p d) ≡ entry_granules g d' (tail g p d) ++ (m ∷ [])
  pub freed : T (taken g d' m) → ⊥
  pub keeps : (n : ℕ) → n < granules g → n ≢ m → taken g d' n ≡ taken g d n
  pub same : (i : ℕ) → (In (i / granule_bytes g) (directory_granules g d) → ⊥) → byte d' i ≡ byte d i
  pub room : size_of g d p + granule_bytes g ≤ granule_bytes g * length (owned g d p)

module _ (g : Geometry) (d d' : List ℕ) (c : Sound g d) (p : ℕ) (f : Facts.IsFile g d p) (m : ℕ) (h : Shrinks g d d' p m) where
  pub shrinks-owned : owned g d p ≡ owned g d' p ++ (m ∷ [])
  shrinks-owned =
      AtTail.owned-was g d d' c p f h.at ∙ ap (λ (l : List ℕ). AtTail.earlier g d d' c p f h.at ++ l) h.less
      ∙ sym (append_assoc (AtTail.earlier g d d' c p f h.at) (entry_granules g d' (tail g p d)) (m ∷ []))
      ∙ ap (λ (l : List ℕ). l ++ (m ∷ [])) (sym (AtTail.owned-is g d d' c p f h.at))

  m-once : In m (owned g d' p) → ⊥
  m-once i = Members.distinct_apart (m ∷ []) (subst Distinct shrinks-owned (c.single p f)) i Members.In.here

  in-old : (n : ℕ) → In n (owned g d' p) → In n (owned g d p)
  in-old n i = rw shrinks-owned (Members.in-append-l (m ∷ []) i)

  -- the granules still owned are not m
  old-same : (n : ℕ) → In n (owned g d' p) → taken g d' n ≡ taken g d n
  old-same n i = h.keeps n (Change.owned-lt g d c p n f (in-old n i)) (λ q. m-once (rw q at i))

  entry-owned : (x n : ℕ) → In x (chain g d p) → In n (entry_granules g d' x) → In n (owned g d' p)
  unfolding owned
  entry-owned x n i j = Members.in-each (entry_granules g d') {xs = chain g d' p} (rw (AtTail.chain-stays g d d' c p f h.at) i) j

  room' : size_of g d p ≤ granule_bytes g * length (owned g d' p)
  room' = omega (arith, h.room, ap (granule_bytes g *◌) (ap length shrinks-owned ∙ length-append (owned g d' p) (m ∷ [])))

  pub shrinks-change : T (not (system g d p)) → Change.Change g d d' p
  shrinks-change = AtTail.tail-change g d d' c p f h.at (record {
    last = λ n j. let o = entry-owned (tail g p d) n (Change.tail-in g d c p f) j in rw (old-same n o) (Change.owned-taken g d c p n f (in-old n o));
    before = λ x n i q j. old-same n (entry-owned x n i (rw (Frame.entry_granules-eq g d d' x (h.at.agrees x (Change.members g d c p x f i).slot q)) j));
    fits = room';
    off = λ u n i. (Change.filed-at g d c p f).off u n (in-old n i);
    single = Members.distinct-l (owned g d' p) (m ∷ []) (subst Distinct shrinks-owned (c.single p f));
    keeps = λ n l a b. h.keeps n l (λ q. a (rw (q, shrinks-owned) (Members.in-append-r (owned g d' p) Members.In.here)));
    freed = λ n i a. gone n (Members.snoc-in (owned g d' p) (rw shrinks-owned at i)) a;
    fresh = λ n i a. absurd (a (in-old n i));
  })
    where
      gone : (n : ℕ) → In n (owned g d' p) ⊎ (n ≡ m) → (In n (owned g d' p) → ⊥) → T (taken g d' n) → ⊥
      gone n (inl i) a = absurd (a i)
      gone n (inr q) a = rw q h.freed

  pub shrinks-shorter : Shorter.Shorter g d d' p m
  shrinks-shorter = record { less = shrinks-owned; low = AtTail.low g d d' c p f h.at; freed = h.freed; keeps = h.keeps; same = h.same; room = room' }
