-- What the check tests of a slot and of a list of slots, by two maps: one number a granule, one number a slot.
use Rattle.std.specs.Prelude.{◌≡◌, Bool, true, not, cond, ◌&&◌, List, [], ◌∷◌, ℕ, ◌*◌, ◌/◌, eqb, leb, length}
use Rattle.meaning.specs.Lists.{every, each, all, any}
use Rattle.meaning.specs.Bits.{bit}
use Rattle.meaning.specs.Layout.{field, hit, slots, directory_sectors, granule_sectors, round_up}
use Rattle.meaning.specs.Names.{hash, well_formed}
use Rattle.meaning.specs.Entries.{in_use_primary, name_of, sector_count, end_byte}
use Rattle.meaning.specs.Chain.{chain, owned}
use Rattle.meaning.specs.Consistent.{hit_holds, count_holds}
use Rattle.meaning.specs.declared.Geometry.{Geometry}
use Rattle.check_map.specs.Marks.{marked, allows}
use Rattle.check_map.specs.Owners.{Window}
use Rattle.check_map.specs.Eight.{Spans}
use Rattle.check_walk.specs.Walk.{chain_holds}

-- what a granule must stand at to be open to a file with these flags
unfoldable pub least : ℕ → ℕ
least flags = cond (bit 6 flags) 1 2

abbrev pub least_of : Geometry → List ℕ → ℕ → ℕ
least_of g d s = least (field g d s 0)

unfoldable pub name_fits : Geometry → List ℕ → ℕ → ℕ → Bool
name_fits g d h s = all (well_formed (name_of g d s) ∷ eqb h (hash (name_of g d s)) ∷ [])

-- a file, but for what the maps say: bit 5, the name, the sizes, the chain
unfoldable pub file_fits : Geometry → List ℕ → ℕ → Bool
file_fits g d p =
    all (not (bit 5 (field g d p 0)) ∷ name_fits g d (hit g d p) p ∷ count_holds (sector_count g d p) (end_byte g d p)
    ∷ chain_holds g d (hit g d p) (length (slots g d)) p ∷ leb (sector_count g d p) (granule_sectors g * length (owned g d p)) ∷ [])

unfoldable pub slot_fits : Geometry → List ℕ → ℕ → Bool
slot_fits g d s = all (hit_holds g d s ∷ any (not (in_use_primary g d s) ∷ file_fits g d s ∷ []) ∷ [])

-- the entries and the granules of the file that starts at a slot; none where none starts
unfoldable pub chain_of : Geometry → List ℕ → ℕ → List ℕ
chain_of g d s = cond (in_use_primary g d s) (chain g d s) []

unfoldable pub owned_of : Geometry → List ℕ → ℕ → List ℕ
owned_of g d s = cond (in_use_primary g d s) (owned g d s) []

-- slot after slot, the places that f gives are open in the map, and are taken off it
unfoldable pub opens : List ℕ → (ℕ → ℕ) → (ℕ → List ℕ) → List ℕ → Bool
opens m low f [] = true
opens m low f (s ∷ ss) = allows m (low s) 0 (f s) && opens (marked m 0 (f s)) low f ss

abbrev pub one : ℕ → ℕ
one s = 1

unfoldable pub slots_fit : Geometry → List ℕ → List ℕ → List ℕ → List ℕ → Bool
slots_fit g d m met ss = all (every (slot_fits g d) ss ∷ opens m (least_of g d) (owned_of g d) ss ∷ opens met one (chain_of g d) ss ∷ [])

-- what the check of one file says, to which granules are open that stand at `low` or above, and of some slots; if it holds, both maps are marked
pub record FileSeen (g : Geometry) (d : List ℕ) (p low : ℕ) (m m' met met' : List ℕ) (r : Bool) : Type 0 where
  pub answer : r ≡ all (file_fits g d p ∷ allows m low 0 (owned g d p) ∷ allows met 1 0 (chain g d p) ∷ [])
  pub map : r ≡ true → m' ≡ marked m 0 (owned g d p)
  pub meets : r ≡ true → met' ≡ marked met 0 (chain g d p)

pub record Seen (g : Geometry) (d ss m m' met met' : List ℕ) (r : Bool) : Type 0 where
  pub answer : r ≡ slots_fit g d m met ss
  pub map : r ≡ true → m' ≡ marked m 0 (each (owned_of g d) ss)
  pub meets : r ≡ true → met' ≡ marked met 0 (each (chain_of g d) ss)

-- `bits` has the directory's granules, as they stand in the eight bytes of the owner map from `from` on
pub record Directory (g : Geometry) (d : List ℕ) (from bits : ℕ) : Type 0 where
  pub spans : Spans g.units (g.start / granule_sectors g) (round_up (directory_sectors g d) (granule_sectors g)) from
  pub window : Window g.units (g.start / granule_sectors g) (round_up (directory_sectors g d) (granule_sectors g)) from bits
