-- What the walk along a chain tests, and what it leaves in the maps.
use Rattle.std.specs.Prelude.{◌≡◌, Bool, true, false, not, cond, List, [], ◌∷◌, ℕ, zero, suc, ◌+◌, ◌*◌, ◌≤◌, eqb, ltb, leb, length, Option}
use Rattle.std.specs.Prelude.{is_some, IfSome}
use Rattle.meaning.specs.Lists.{each, all, any}
use Rattle.meaning.specs.Layout.{granules, field, hit, is_slot, entry_at, granule_sectors}
use Rattle.meaning.specs.Entries.{runs, block, first_unit, run_start, run_length, run_granules, entry_granules, marker, link}
use Rattle.meaning.specs.Consistent.{pairs_hold, runs_hold}
use Rattle.meaning.specs.declared.Geometry.{Geometry}
use Rattle.layout.specs.Room.{Slot}
use Rattle.check_map.specs.Marks.{marked, allows}
use Rattle.check_walk.specs.declared.Pairs.{Pairs}

-- the entry of slot s is at `at`
pub record Place (g : Geometry) (d : List ℕ) (s at : ℕ) : Type 0 where
  pub slot : Slot g d s
  pub is : at ≡ entry_at g s

abbrev pub runs_of : Geometry → List ℕ → ℕ → ℕ
runs_of g d s = runs g d s

-- pair k is no run
abbrev pub unused : Geometry → List ℕ → ℕ → ℕ → Bool
unused g d s k = eqb (block g d s k) 0xff

-- Run k lies on the disk, its first unit is below units per block.
abbrev pub run_holds : Geometry → List ℕ → ℕ → ℕ → Bool
run_holds g d s k = all (ltb (first_unit g d s k) g.units ∷ leb (run_start g d s k + run_length g d s k) (granules g) ∷ [])

-- a run that was taken
pub record RunTaken (g : Geometry) (d : List ℕ) (s k : ℕ) (m m' : List ℕ) (r : ℕ) : Type 0 where
  pub small : r ≤ 32
  pub length-is : r ≡ run_length g d s k
  pub map : m' ≡ marked m 0 (run_granules g d s k)

-- run k, taken if it lies on the disk and its granules are open
pub record TakesRun (g : Geometry) (d : List ℕ) (s k least : ℕ) (m m' : List ℕ) (r : Option ℕ) : Type 0 where
  pub answer : is_some r ≡ all (run_holds g d s k ∷ allows m least 0 (run_granules g d s k) ∷ [])
  pub taken : IfSome r (RunTaken g d s k m m')

-- what an entry by itself must hold, with the map m
abbrev pub entry_fits : Geometry → List ℕ → ℕ → ℕ → List ℕ → Bool
entry_fits g d s least m = all (pairs_hold g d s ∷ runs_hold g d s ∷ allows m least 0 (entry_granules g d s) ∷ [])

-- an entry that was taken
pub record PairsTaken (g : Geometry) (d : List ℕ) (s : ℕ) (m m' : List ℕ) (p : Pairs) : Type 0 where
  pub few : p.granules ≤ 128
  pub runs-is : p.runs ≡ runs g d s
  pub granules-is : p.granules ≡ length (entry_granules g d s)
  pub map : m' ≡ marked m 0 (entry_granules g d s)

-- an entry, taken if it is as it must be
pub record Entered (g : Geometry) (d : List ℕ) (s least : ℕ) (m m' : List ℕ) (r : Option Pairs) : Type 0 where
  pub answer : is_some r ≡ entry_fits g d s least m
  pub taken : IfSome r (PairsTaken g d s m m')

-- An entry leads on: its marker is FEH, it has four runs, and the link is an extension, in use, that points back, has a run, and has the
-- file's HIT byte h.
unfoldable pub goes_on : Geometry → List ℕ → ℕ → ℕ → Bool
goes_on g d h s =
    let t = link g d s in
    all (eqb (marker g d s) 0xfe ∷ eqb (runs g d s) 4 ∷ is_slot g d t ∷ eqb (field g d t 0) 0x90 ∷ eqb (field g d t 1) s
    ∷ not (eqb (block g d t 0) 0xff) ∷ eqb (hit g d t) h ∷ [])

-- The marker ends the chain, or leads on to a rest that holds.
unfoldable pub marker_holds : Geometry → List ℕ → ℕ → ℕ → Bool → Bool
marker_holds g d h s rest = any (eqb (marker g d s) 0xff ∷ all (goes_on g d h s ∷ rest ∷ []) ∷ [])

-- every entry of the chain from s on holds, and there are at most `left`
unfoldable pub chain_holds : Geometry → List ℕ → ℕ → ℕ → ℕ → Bool
chain_holds g d h zero s = false
chain_holds g d h (suc left) s = all (pairs_hold g d s ∷ runs_hold g d s ∷ marker_holds g d h s (chain_holds g d h left (link g d s)) ∷ [])

-- the entries after s: none, or the rest where the marker is FEH
unfoldable pub onward : Geometry → List ℕ → ℕ → List ℕ → List ℕ
onward g d s cs = cond (eqb (marker g d s) 0xfe) cs []

-- the granules of some entries
abbrev pub granules_of : Geometry → List ℕ → List ℕ → List ℕ
granules_of g d cs = each (entry_granules g d) cs

-- What a walk along the entries cs says: they hold, their granules are open to the file and in no run so far, none was met before, and the
-- sector count fits. If so, it has marked both maps.
pub record Walked (g : Geometry) (d : List ℕ) (least sectors owned : ℕ) (right : Bool) (cs m m' met met' : List ℕ) (r : Bool) : Type 0 where
  pub answer : r ≡ all (right ∷ allows m least 0 (granules_of g d cs) ∷ allows met 1 0 cs ∷ leb sectors
      (granule_sectors g * (owned + length (granules_of g d cs))) ∷ [])
  pub map : r ≡ true → m' ≡ marked m 0 (granules_of g d cs)
  pub meets : r ≡ true → met' ≡ marked met 0 cs
