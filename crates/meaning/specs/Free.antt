-- What is free: granules, and slots for a new entry (01, Calls); and which granules are taken that no file owns.
use Rattle.std.specs.Prelude.{ℕ, Bool, not, cond, ◌&&◌, List, [], ◌∷◌, ltb, eqb}
use Rattle.meaning.specs.Lists.{count, keep, each, has, all, first_or}
use Rattle.meaning.specs.Stretch.{low_end}
use Rattle.meaning.specs.Layout.{taken, granules, is_slot, row, sector, hit}
use Rattle.meaning.specs.Chain.{owned, files}
use Rattle.meaning.specs.declared.Geometry.{Geometry}

module _ (g : Geometry) where
  -- the free granules, rising: the clear GAT bits in range
  unfoldable pub free_granules : List ℕ → List ℕ
  free_granules d = keep (λ n. not (taken g d n)) (count 0 (granules g))

  -- "the lowest free one"; 0 where none is free, and no answer hangs on that
  abbrev pub lowest_free : List ℕ → ℕ
  lowest_free d = first_or 0 (free_granules d)

  -- the lowest one of the longest free stretch, the lower of two as long (02 §13); 0 where none is free, and no answer hangs on that
  abbrev pub longest_free : List ℕ → ℕ
  longest_free d = low_end (taken g d) (count 0 (granules g))

  -- On a system disk rows 0 to 3 with s 0 to 7 are kept for system files. On a data disk only slots 00H and 01H are kept (02, §4).
  unfoldable pub kept : ℕ → Bool
  kept s = cond g.system (all (ltb (row s) 4 ∷ ltb (sector s) 8 ∷ [])) (ltb s 2)

  -- Kept slots are never permitted.
  unfoldable pub permitted : List ℕ → ℕ → Bool
  permitted d s = all (is_slot g d s ∷ not (kept s) ∷ [])

  -- of those with HIT byte 0
  unfoldable pub free_slot : List ℕ → ℕ → Bool
  free_slot d s = all (permitted d s ∷ eqb (hit g d s) 0 ∷ [])

  -- the free permitted slots, rising
  unfoldable pub free_slots : List ℕ → List ℕ
  free_slots d = keep (free_slot d) (count 0 256)

  -- A set granule in no run is reserved.
  unfoldable pub reserved : List ℕ → List ℕ
  reserved d = keep (λ n. taken g d n && not (has (each (owned g d) (files g d)) n)) (count 0 (granules g))
