-- The tests of one slot (02 §2), as the functions here make them.
use Rattle.std.specs.Prelude.{Bool, cond, ◌&&◌, ◌||◌, List, [], ◌∷◌, ℕ, ◌+◌, eqb, ltb, leb, length}
use Rattle.meaning.specs.Lists.{count, every, has, keep, all, first_or}
use Rattle.meaning.specs.Layout.{granules, is_slot, slots}
use Rattle.meaning.specs.Entries.{in_use, in_use_primary, runs, block, link, first_unit, run_start, run_length}
use Rattle.meaning.specs.Consistent.{follows_by}
use Rattle.meaning.specs.Fault.{hands_on, walked}
use Rattle.meaning.specs.declared.Geometry.{Geometry}
use Rattle.fault_kinds.specs.Reach.{reach}
use Rattle.fault_kinds.specs.Overlap.{overlaps, runs_meet, entries_meet}

module _ (g : Geometry) (d : List ℕ) where
  -- pair k is a run, or stands after the last and starts with FFH
  abbrev pub pair_holds : ℕ → ℕ → Bool
  pair_holds s k = ltb k (runs g d s) || eqb (block g d s k) 0xff

  -- a file starts at slot p, and its walk meets x
  unfoldable pub starts_to : ℕ → ℕ → Bool
  starts_to x p = all (is_slot g d p ∷ in_use_primary g d p ∷ has (reach g d (length (slots g d)) p) x ∷ [])

  -- the first file, by rising slot number, whose walk meets x; 256 where there is none
  unfoldable pub first_file : ℕ → ℕ
  first_file x = first_or 256 (keep (starts_to x) (count 0 256))

  -- a walk comes from slot b to x
  unfoldable pub leads : ℕ → ℕ → Bool
  leads x b = all (is_slot g d b ∷ eqb (link g d b) x ∷ hands_on g d b ∷ has (walked g d) b ∷ [])

  -- 0 where no walk comes from slot b to x; else 1 where x follows b, 2 where it does not
  unfoldable pub tally : ℕ → ℕ → ℕ
  tally x b = cond (leads x b) (cond (follows_by g d 0x90 b x) 1 2) 0

  -- an extension that n walks were found to come to, and those from each of bs on: it must follow all of them, and there must be one
  abbrev pub good_from : ℕ → ℕ → List ℕ → Bool
  good_from x n bs = all (eqb (n + length bs) 1 ∷ every (λ b. follows_by g d 0x90 b x) bs ∷ [])

  -- run k lies on the disk, its first unit is below units per block
  abbrev pub run_holds : ℕ → ℕ → Bool
  run_holds s k = all (ltb (first_unit g d s k) g.units ∷ leb (run_start g d s k + run_length g d s k) (granules g) ∷ [])

  -- run k of s has a granule among the m from b on
  unfoldable pub run_in : ℕ → ℕ → ℕ → ℕ → Bool
  run_in b m s k = overlaps (run_start g d s k) (run_length g d s k) b m

  -- run l comes before run k, and they have a granule in common
  abbrev pub earlier : ℕ → ℕ → ℕ → Bool
  earlier s k l = ltb l k && runs_meet g d s k s l

  -- the entry of slot t, in use, has a granule in common with that of s
  unfoldable pub shares : ℕ → ℕ → Bool
  shares s t = all (is_slot g d t ∷ in_use g d t ∷ entries_meet g d s t ∷ [])
