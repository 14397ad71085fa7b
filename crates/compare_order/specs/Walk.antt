-- The walk over the names of two disks, rising: what a step of it is given and gives.
use Rattle.std.specs.Prelude.{◌≡◌, true, false, List, [], ◌∷◌, ℕ, ◌+◌, ◌<◌, ◌≤◌}
use Rattle.meaning.specs.Lists.{keep}
use Rattle.meaning.specs.Entries.{name_of}
use Rattle.meaning.specs.Plain.{Found, found, nothing, file_at, plain}
use Rattle.meaning.specs.declared.Geometry.{Geometry}
use Rattle.differences.specs.Compare.{before, merged}
use Rattle.compare_order.specs.declared.Pair.{Pair}
use Rattle.compare_order.specs.declared.Pair.TheVariants.{First, Second, Both}
use Rattle.compare_order.specs.Whole.{StartsFile}
use Rattle.compare_order.specs.Table.{Reached}

-- how many files of the first disk's table were met after a pair, i of them before it: one more, unless the pair is of the second disk alone
abbrev pub met_first : Pair → ℕ → ℕ
met_first (First s) i = i + 1
met_first (Second t) i = i
met_first (Both s t) i = i + 1

-- the same of the second disk's table
abbrev pub met_second : Pair → ℕ → ℕ
met_second (First s) j = j
met_second (Second t) j = j + 1
met_second (Both s t) j = j + 1

module _ (g : Geometry) (d : List ℕ) where
  -- of the files below slot s the one with the least name after `last` is at `best`; 256: none of them has a name after it
  pub record Least (last : List ℕ) (s best : ℕ) : Type 0 where
    pub low : best ≤ 256
    pub none : best ≡ 256 → (p : ℕ) → p < s → StartsFile g d p → before last (name_of g d p) ≡ false
    pub is : best < 256 → StartsFile g d best
    pub after : best < 256 → before last (name_of g d best) ≡ true
    pub least : best < 256 → (p : ℕ) → p < s → StartsFile g d p → before last (name_of g d p) ≡ true → before (name_of g d p) (name_of g d best) ≡ false

module _ (g : Geometry) (d : List ℕ) (h : Geometry) (e : List ℕ) where
  -- the names of either disk after `last`
  unfoldable pub later : List ℕ → List (List ℕ)
  later last = keep (before last) (merged g d h e)

  -- the name that a pair stands for, and what stands under it
  unfoldable pub name_at : Pair → List ℕ
  name_at (First s) = name_of g d s
  name_at (Second t) = name_of h e t
  name_at (Both s t) = name_of g d s

  unfoldable pub on_first : Pair → Found
  on_first (First s) = found (file_at g d s)
  on_first (Second t) = nothing
  on_first (Both s t) = found (file_at g d s)

  unfoldable pub on_second : Pair → Found
  on_second (First s) = nothing
  on_second (Second t) = found (file_at h e t)
  on_second (Both s t) = found (file_at h e t)

  -- the slots that a pair names are those of files
  abbrev pub Files : Pair → Type 0
  Files (First s) = StartsFile g d s
  Files (Second t) = StartsFile h e t
  Files (Both s t) = StartsFile g d s × StartsFile h e t

  -- the pair stands for the next name after `last`
  pub record NextPair (last : List ℕ) (p : Pair) : Type 0 where
    pub files : Files p
    pub ahead : later last ≡ name_at p ∷ later (name_at p)
    pub first' : plain g d (name_at p) ≡ on_first p
    pub second' : plain h e (name_at p) ≡ on_second p

  module _ (o : List ℕ) (n i : ℕ) (o' : List ℕ) (m j : ℕ) where
    -- where i files were met in the first disk's table, and j in the second's: there is no next name
    pub record MergesNone : Type 0 where
      pub ended : (last : List ℕ) → Reached g d o n i last → Reached h e o' m j last → later last ≡ []

    -- the pair is the next one there
    pub record Merges (p : Pair) : Type 0 where
      pub next : (last : List ℕ) → Reached g d o n i last → Reached h e o' m j last → NextPair last p
      pub first' : (last : List ℕ) → Reached g d o n i last → Reached h e o' m j last → Reached g d o n (met_first p i) (name_at p)
      pub second' : (last : List ℕ) → Reached g d o n i last → Reached h e o' m j last → Reached h e o' m (met_second p j) (name_at p)
