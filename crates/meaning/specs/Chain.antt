-- A file as a chain of entries, the granules that it owns, and where its bytes lie.
use Rattle.std.specs.Prelude.{ℕ, zero, suc, ◌+◌, ◌-◌, ◌*◌, ◌/◌, ◌%◌, cond, List, [], ◌∷◌, eqb, length, get_or}
use Rattle.meaning.specs.Lists.{each, keep, last_or}
use Rattle.meaning.specs.Layout.{slots, granule_bytes}
use Rattle.meaning.specs.Entries.{runs, marker, link, entry_granules, in_use_primary}
use Rattle.meaning.specs.declared.Geometry.{Geometry}

-- which of the granules owned holds byte i of a file, counted from 0
abbrev pub granule_of : Geometry → ℕ → ℕ
granule_of g i = i / granule_bytes g

module _ (g : Geometry) (d : List ℕ) where
  -- An entry hands on to its marker, and the marker to the next entry.
  unfoldable pub chain_from : ℕ → ℕ → List ℕ
  chain_from zero s = []
  chain_from (suc left) s = s ∷ cond (eqb (marker g d s) 0xfe) (chain_from left (link g d s)) []

  -- the entries of the file at slot s; no chain is longer than the number of slots
  unfoldable pub chain : ℕ → List ℕ
  chain s = chain_from (length (slots g d)) s

  -- the granules that a file owns, in the order of its bytes
  unfoldable pub owned : ℕ → List ℕ
  owned s = each (entry_granules g d) (chain s)

  -- the slots of the files, rising
  unfoldable pub files : List ℕ
  files = keep (in_use_primary g d) (slots g d)

  -- where byte i of the file at slot s lies in the image
  unfoldable pub place : ℕ → ℕ → ℕ
  place s i = granule_bytes g * get_or (owned s) (granule_of g i) 0 + i % granule_bytes g

-- the last entry of the file at slot p
abbrev pub tail : Geometry → ℕ → List ℕ → ℕ
tail g p d = last_or p (chain g d p)

-- the last pair of the file at slot p, where there is one: its entry and its place in it
abbrev pub last_pair : Geometry → ℕ → List ℕ → ℕ × ℕ
last_pair g p d = let e = tail g p d in (e, runs g d e - 1)
