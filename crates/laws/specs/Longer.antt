-- A file that owns one granule more at its end: its bytes are as they were
use Rattle.std.specs.Prelude.{◌≡◌, ◌≢◌, List, [], ◌∷◌, ◌++◌, ℕ, suc, ◌*◌, ◌/◌, ◌<◌, T}
use Rattle.std.proofs.Math.Path.{ap}
use Rattle.std.proofs.Common.{sym, ◌∙◌, arith}
use Rattle.std.proofs.Math.Bool.{not}
use Rattle.std.proofs.Math.Numerals.{add-one}
use Rattle.std.proofs.Math.ListN.{length, length-append, get_or-append}
use Rattle.meaning.specs.Lists.{count}
use Rattle.meaning.specs.Layout.{byte, taken, field, granules, directory_granules, granule_bytes}
use Rattle.lists.specs.Sizes
use Rattle.meaning.specs.Entries.{system, size_of}
use Rattle.meaning.specs.Chain.{owned, place}
use Rattle.meaning.specs.Free.{free_granules}
use Rattle.meaning.specs.Plain.{File, file_at}
use Rattle.meaning.specs.declared.Geometry.{Geometry}
use Rattle.lists.specs.Members
use Rattle.lists.specs.Members.{In}
use Rattle.lists.specs.Counting
use Rattle.laws.specs.Facts
use Rattle.laws.specs.Facts.{Sound}
use Rattle.laws.specs.Change
use Rattle.laws.specs.Others
use Rattle.laws.specs.Words.{words}

pub record Longer (g : Geometry) (d d' : List ℕ) (p m : ℕ) : Type 0 where
  pub more : owned g d' p ≡ owned g d p ++ (m ∷ [])
  pub low : (k : ℕ) → k < 0x16 → field g d' p k ≡ field g d p k
  pub inside : m < granules g
  pub free : T (taken g d m) → ⊥
  pub set' : T (taken g d' m)
  pub keeps : (n : ℕ) → n < granules g → n ≢ m → taken g d' n ≡ taken g d n
  pub same : (i : ℕ) → (In (i / granule_bytes g) (directory_granules g d) → ⊥) → byte d' i ≡ byte d i

module _ (g : Geometry) (d d' : List ℕ) (c : Sound g d) (p : ℕ) (f : Facts.IsFile g d p) (m : ℕ) (h : Longer g d d' p m) where
  size_same : size_of g d' p ≡ size_of g d p
  unfolding words
  size_same = rw (h.low 3 (omega arith), h.low 0x14 (omega arith), h.low 0x15 (omega arith))

  -- the file itself: one granule more, and nothing else
  grown-place : (i : ℕ) → i < granule_bytes g * length (owned g d p) → place g d' p i ≡ place g d p i
  unfolding place
  grown-place i b = rw (h.more, get_or-append (owned g d p) (m ∷ []) 0 (i / granule_bytes g) (Sizes.width-lt (Sizes.bytes_pos g) i _ b))

  grown-bytes : T (not (system g d p)) → (file_at g d' p).bytes ≡ (file_at g d p).bytes
  unfolding file_at words
  grown-bytes u = rw size_same (Members.map-eq _ _ (count 0 (size_of g d p)) (λ i j. one i (omega (arith, Members.count-in i 0 (size_of g d p) j))))
    where
      one : (i : ℕ) → i < size_of g d p → byte d' (place g d' p i) ≡ byte d (place g d p i)
      one i b =
          let l : i < granule_bytes g * length (owned g d p) = omega (arith, (Change.filed-at g d c p f).fits) in
          rw (grown-place i l) (h.same (place g d p i) ((Change.filed-at g d c p f).off u _ (Others.place_in g d p i l)))

  pub grown-file : T (not (system g d p)) → file_at g d' p ≡ record
      { attributes = (file_at g d p).attributes; granules = suc (file_at g d p).granules; bytes = (file_at g d p).bytes }
  unfolding file_at
  grown-file u = λ i. record {
    attributes = Members.map-eq (field g d' p) (field g d p) (0 ∷ 1 ∷ 2 ∷ 4 ∷ count 0x10 4) (λ k j. h.low k (Others.attribute-low k j)) i;
    granules = (ap length h.more ∙ length-append (owned g d p) (m ∷ []) ∙ add-one (length (owned g d p))) i;
    bytes = grown-bytes u i;
  }

  -- one free granule less
  pub grown-free : length (free_granules g d) ≡ suc (length (free_granules g d'))
  unfolding free_granules
  grown-free = Counting.one_less (λ n. not (taken g d' n)) (λ n. not (taken g d n))
      (Members.in_count m 0 (granules g) (omega arith) (omega (arith, h.inside))) (Members.count-distinct 0 (granules g))
      (ap not (Members.T_true {b = taken g d' m} h.set')) (ap not (Members.no_false {b = taken g d m} h.free))
      (λ x i n. ap not (sym (h.keeps x (omega (arith, Members.count-in x 0 (granules g) i)) n)))
