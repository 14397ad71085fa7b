-- A consistent disk (01), in two parts. First what must hold of one entry, of one file's count, or of the directory: these tests are what the
-- calls stand on, through `Fault`, which says what is wrong and where, and `BringBack`, which asks the same of a killed file. Then, below its
-- own heading, 01's paragraph as a whole.
use Rattle.std.specs.Prelude.{ℕ, ◌+◌, ◌*◌, Bool, true, not, ◌&&◌, ◌||◌, List, [], ◌∷◌, leb, ltb, eqb, length}
use Rattle.std.specs.Bool.{beq}
use Rattle.meaning.specs.Lists.{count, every, each, has, keep, distinct, same, all, any}
use Rattle.meaning.specs.Layout
use Rattle.meaning.specs.Names
use Rattle.meaning.specs.Bits
use Rattle.meaning.specs.Entries
use Rattle.meaning.specs.Chain
use Rattle.meaning.specs.declared.Geometry.{Geometry}

-- The tests of one entry, one file, the directory ------------------------------------------------------------------------------

-- n = 0 only with e = 0
abbrev pub count_holds : ℕ → ℕ → Bool
count_holds n e = not (eqb n 0) || eqb e 0

module _ (g : Geometry) (d : List ℕ) where
  -- The 1FH byte is allowed and the directory fits the image.
  unfoldable pub length_holds : Bool
  length_holds = all (has (0 ∷ 5 ∷ 10 ∷ 15 ∷ 20 ∷ []) (Layout.above_ten g d) ∷ leb (g.start + Layout.directory_sectors g d) (Layout.sectors g) ∷ [])

  -- Directory granules are set in the GAT.
  abbrev pub directory_taken : Bool
  directory_taken = every (Layout.taken g d) (Layout.directory_granules g d)

  -- A slot's HIT byte is nonzero exactly if its entry is in use.
  unfoldable pub hit_holds : ℕ → Bool
  hit_holds s = beq (not (eqb (Layout.hit g d s) 0)) (Entries.in_use g d s)

  -- Names of in-use primary entries are well formed; bit 5 is zero.
  unfoldable pub name_holds : ℕ → Bool
  name_holds p = Names.well_formed (Entries.name_of g d p) && not (Bits.bit 5 (Layout.field g d p 0))

  -- After an FFH block every later pair of that entry starts with FFH.
  unfoldable pub pairs_hold : ℕ → Bool
  pairs_hold s = every (λ k. ltb k (Entries.runs g d s) || eqb (Entries.block g d s k) 0xff) (count 0 4)

  -- x follows s as an extension with these flags: so stands its byte 00 (90H of one in use, 80H of one killed); it points back, and has at
  -- least one run
  unfoldable pub follows_by : ℕ → ℕ → ℕ → Bool
  follows_by flags s x = all (Layout.is_slot g d x ∷ eqb (Layout.field g d x 0) flags ∷ eqb (Layout.field g d x 1) s ∷ leb 1 (Entries.runs g d x) ∷ [])

  -- Markers are FEH or FFH. Each FEH link leads to such an extension. Each entry before the last of a chain has four runs.
  unfoldable pub link_holds_by : ℕ → ℕ → Bool
  link_holds_by flags s =
      any (eqb (Entries.marker g d s) 0xff
      ∷ all (eqb (Entries.marker g d s) 0xfe ∷ follows_by flags s (Entries.link g d s) ∷ eqb (Entries.runs g d s) 4 ∷ []) ∷ [])

  -- Runs lie on the disk, their first unit is below units per block.
  unfoldable pub runs_hold : ℕ → Bool
  runs_hold s =
      every (λ k. all (ltb (Entries.first_unit g d s k) g.units
      ∷ leb (Entries.run_start g d s k + Entries.run_length g d s k) (Layout.granules g) ∷ []))
      (count 0 (Entries.runs g d s))

  -- their GAT bits are set
  unfoldable pub gat_holds : ℕ → Bool
  gat_holds s = every (Layout.taken g d) (Entries.entry_granules g d s)

  -- n = 0 only with e = 0; the size fits the granules owned.
  unfoldable pub size_holds : ℕ → Bool
  size_holds p =
      all (count_holds (Entries.sector_count g d p) (Entries.end_byte g d p)
      ∷ leb (Entries.size_of g d p) (Layout.granule_bytes g * length (Chain.owned g d p)) ∷ [])

-- 01's paragraph as a whole ----------------------------------------------------------------------------------------------------
-- No call's answer is said by what follows: 2 is told as 21 to 30, by `Fault`. It is 01's sentences once more, with the chains of files in the
-- place of walks that stop at what is wrong, and the promises speak of it. That a disk is consistent exactly where it has no fault is proved
-- (promises: OldTwo).
module _ (g : Geometry) (d : List ℕ) where
  -- an entry in use; an in-use extension has byte 00 equal to 90H
  abbrev pub entry_holds : ℕ → Bool
  entry_holds s = all (pairs_hold g d s ∷ link_holds_by g d 0x90 s ∷ runs_hold g d s ∷ gat_holds g d s ∷ [])

  unfoldable pub slot_holds : ℕ → Bool
  slot_holds s = all (hit_holds g d s ∷ any (not (Entries.in_use g d s) ∷ entry_holds s ∷ []) ∷ [])

  -- HIT bytes equal the hashes. An extension's HIT byte is its file's hash.
  unfoldable pub hash_holds : ℕ → Bool
  hash_holds p = every (λ s. eqb (Layout.hit g d s) (Names.hash (Entries.name_of g d p))) (Chain.chain g d p)

  -- Directory granules are in no run of a file without the system flag.
  unfoldable pub off_directory : ℕ → Bool
  off_directory p = any (Entries.system g d p ∷ every (λ n. not (has (Layout.directory_granules g d) n)) (Chain.owned g d p) ∷ [])

  unfoldable pub file_holds : ℕ → Bool
  file_holds p = all (name_holds g d p ∷ hash_holds p ∷ size_holds g d p ∷ off_directory p ∷ [])

  -- names differ
  unfoldable pub names_differ : List ℕ → Bool
  names_differ [] = true
  names_differ (p ∷ ps) = every (λ q. not (same (Entries.name_of g d p) (Entries.name_of g d q))) ps && names_differ ps

  -- every entry that some file's chain meets, file by file
  unfoldable pub met : List ℕ
  met = each (Chain.chain g d) (Chain.files g d)

  -- Each in-use extension belongs to exactly one file's chain: no chain meets an entry twice, and every entry in use is met.
  abbrev pub met_once : Bool
  met_once = distinct met

  abbrev pub all_met : Bool
  all_met = every (has met) (keep (Entries.in_use g d) (Layout.slots g d))

  -- No granule is in two runs.
  abbrev pub granules_once : Bool
  granules_once = distinct (each (Chain.owned g d) (Chain.files g d))

  unfoldable pub consistent : Bool
  consistent =
      all (length_holds g d
      ∷ every slot_holds (Layout.slots g d)
      ∷ every file_holds (Chain.files g d)
      ∷ names_differ (Chain.files g d)
      ∷ met_once ∷ all_met ∷ granules_once ∷ directory_taken g d ∷ [])
