-- A file that lost the last of its granules: its bytes are as they were
use Rattle.std.specs.Prelude.{◌≡◌, ◌≢◌, List, [], ◌∷◌, ◌++◌, ℕ, suc, ◌*◌, ◌/◌, ◌≤◌, ◌<◌, T}
use Rattle.std.proofs.Math.Path.{ap, sym}
use Rattle.std.proofs.Common.{◌∙◌, arith}
use Rattle.std.proofs.Math.Bool.{not}
use Rattle.std.proofs.Math.Numerals.{add-one}
use Rattle.std.proofs.Math.ListN.{length, length-append, get_or-append}
use Rattle.meaning.specs.Lists.{count}
use Rattle.meaning.specs.Layout.{byte, taken, field, granules, directory_granules, granule_bytes}
use Rattle.lists.specs.Sizes
use Rattle.meaning.specs.Entries.{system, size_of}
use Rattle.meaning.specs.Chain.{owned, place}
use Rattle.meaning.specs.Free.{free_granules}
use Rattle.meaning.specs.Plain.{File, file_at}
use Rattle.meaning.specs.declared.Geometry.{Geometry}
use Rattle.lists.specs.Members
use Rattle.lists.specs.Members.{In}
use Rattle.lists.specs.Counting
use Rattle.laws.specs.Facts
use Rattle.laws.specs.Facts.{Sound}
use Rattle.laws.specs.Change
use Rattle.laws.specs.Others
use Rattle.laws.specs.Words.{words}

pub record Shorter (g : Geometry) (d d' : List ℕ) (p m : ℕ) : Type 0 where
  pub less : owned g d p ≡ owned g d' p ++ (m ∷ [])
  pub low : (k : ℕ) → k < 0x16 → field g d' p k ≡ field g d p k
  pub freed : T (taken g d' m) → ⊥
  pub keeps : (n : ℕ) → n < granules g → n ≢ m → taken g d' n ≡ taken g d n
  pub same : (i : ℕ) → (In (i / granule_bytes g) (directory_granules g d) → ⊥) → byte d' i ≡ byte d i
  pub room : size_of g d p ≤ granule_bytes g * length (owned g d' p)

module _ (g : Geometry) (d d' : List ℕ) (c : Sound g d) (p : ℕ) (f : Facts.IsFile g d p) (m : ℕ) (h : Shorter g d d' p m) where
  pub m-in : In m (owned g d p)
  m-in = rw h.less (Members.in-append-r (owned g d' p) Members.In.here)

  pub size_same : size_of g d' p ≡ size_of g d p
  unfolding words
  size_same = rw (h.low 3 (omega arith), h.low 0x14 (omega arith), h.low 0x15 (omega arith))

  shrunk-place : (i : ℕ) → i < granule_bytes g * length (owned g d' p) → place g d' p i ≡ place g d p i
  unfolding place
  shrunk-place i b = rw (h.less, get_or-append (owned g d' p) (m ∷ []) 0 (i / granule_bytes g) (Sizes.width-lt (Sizes.bytes_pos g) i _ b))

  shrunk-bytes : T (not (system g d p)) → (file_at g d' p).bytes ≡ (file_at g d p).bytes
  unfolding file_at words
  shrunk-bytes u = rw size_same (Members.map-eq _ _ (count 0 (size_of g d p)) (λ i j. one i (omega (arith, Members.count-in i 0 (size_of g d p) j))))
    where
      one : (i : ℕ) → i < size_of g d p → byte d' (place g d' p i) ≡ byte d (place g d p i)
      one i b =
          rw (shrunk-place i (omega (arith, h.room))) (h.same (place g d p i)
          ((Change.filed-at g d c p f).off u _ (Others.place_in g d p i (omega (arith, (Change.filed-at g d c p f).fits)))))

  pub shrunk-file : T (not (system g d p)) → file_at g d p ≡ record
      { attributes = (file_at g d' p).attributes; granules = suc (file_at g d' p).granules; bytes = (file_at g d' p).bytes }
  unfolding file_at
  shrunk-file u = λ i. record {
    attributes = sym (Members.map-eq (field g d' p) (field g d p) (0 ∷ 1 ∷ 2 ∷ 4 ∷ count 0x10 4) (λ k j. h.low k (Others.attribute-low k j))) i;
    granules = (ap length h.less ∙ length-append (owned g d' p) (m ∷ []) ∙ add-one (length (owned g d' p))) i;
    bytes = sym (shrunk-bytes u) i;
  }

  -- one free granule more
  pub shrunk-free : length (free_granules g d') ≡ suc (length (free_granules g d))
  unfolding free_granules
  shrunk-free = Counting.one_less (λ n. not (taken g d n)) (λ n. not (taken g d' n))
      (Members.in_count m 0 (granules g) (omega arith) (omega (arith, Change.owned-lt g d c p m f m-in))) (Members.count-distinct 0 (granules g))
      (ap not (Members.T_true {b = taken g d m} (Change.owned-taken g d c p m f m-in))) (ap not (Members.no_false {b = taken g d' m} h.freed))
      (λ x i n. ap not (h.keeps x (omega (arith, Members.count-in x 0 (granules g) i)) n))
