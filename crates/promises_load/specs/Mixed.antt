-- Demand 3 with load reads among the calls, as it is stated: a load read leaves the disk as it is, and its handle where the file's next record ends. So
-- a list with load reads runs as the list that has, in the place of each, a setting of the position; what it tells hangs on its own list alone.
--
-- A system file's bytes are not compared (the directory may itself be a file), and where a load read leaves its handle hangs on the file's bytes.
-- So load reads of system files are left out.
use Rattle.std.specs.Prelude.{ℕ, ◌≡◌, ◌≢◌, not, true, List, [], ◌∷◌, ◌++◌, T, ltb, length, take, drop}
use Rattle.meaning.specs.Names.{fold}
use Rattle.meaning.specs.Layout.{fits_geometry}
use Rattle.meaning.specs.Consistent.{consistent}
use Rattle.meaning.specs.Plain.{File, Found, found, nothing, plain, is_system}
use Rattle.meaning.specs.declared.Geometry.{Geometry}
use Rattle.together.specs.Statement.{Name, Step, moves, Side, handle_at, with_moved, Grip, Turn, World, start, next, after, Taken, Accepted, Agree}
use Rattle.together.specs.State.{FileState, grip_at, effect}
use Rattle.together.proofs.Interleavings.{state_in, swap}
use Rattle.load.specs.Records.{record_from}
use Rattle.load.specs.Load.{load_record}
use Rattle.load.specs.declared.Loaded.{Loaded}
use Rattle.load.specs.declared.NextRecord.{NextRecord}

-- a call of the list, or a load read by its handle of that place, into a buffer that holds these bytes
pub data Asks : Type 0 where
  calls : Step → Asks
  loads : ℕ → List ℕ → Asks

pub data Move : Type 0 where
  one : Asks → Move
  two : Asks → Move

-- the two lists, each in its own order, laid into one
pub data Mixed : List Asks → List Asks → List Move → Type 0 where
  none : Mixed [] [] []
  left : {x : Asks} {xs ys : List Asks} {zs : List Move} → Mixed xs ys zs → Mixed (x ∷ xs) ys (one x ∷ zs)
  right : {x : Asks} {xs ys : List Asks} {zs : List Move} → Mixed xs ys zs → Mixed xs (x ∷ ys) (two x ∷ zs)

-- what a load read told: kind, address, and the buffer that it left
pub record Tale : Type 0 where
  pub kind : ℕ
  pub address : ℕ
  pub buffer : List ℕ

abbrev pub tale_of : Loaded × List ℕ → Tale
tale_of r = record { kind = r.0.kind; address = r.0.address; buffer = r.1 }

-- the world of demand 3, and what each list was told by its load reads
pub record ReadingWorld : Type 0 where
  pub world : World
  pub first : List Tale
  pub second : List Tale

abbrev pub begin : List ℕ → ReadingWorld
begin d = record { world = start d; first = []; second = [] }

abbrev pub loading : Geometry → List ℕ → Side → ℕ → List ℕ → Loaded × List ℕ
loading g d s i b = load_record g d (handle_at s.handles i) b

-- the file of that name, folded as it comes in, is no system file
abbrev pub User : Geometry → Name → List ℕ → Type 0
User g n d = (f : File) → plain g d (fold n) ≡ found f → T (not (is_system f))

-- a load read names a handle that its list has, is accepted, and is of no system file
abbrev pub Loads : Geometry → Name → List ℕ → Side → ℕ → List ℕ → Type 0
Loads g n d s i b = T (ltb i (length s.handles)) × ((loading g d s i b).0.refusal.number ≡ 0) × User g n d

module _ (g : Geometry) (a b : Name) where
  abbrev pub onward : ReadingWorld → Move → ReadingWorld
  onward r (one (calls c)) = record { world = next g a b r.world (Turn.one c); first = r.first; second = r.second }
  onward r (two (calls c)) = record { world = next g a b r.world (Turn.two c); first = r.first; second = r.second }
  onward r (one (loads i x)) =
      let w = r.world in let l = loading g w.disk w.first i x in
      record {
        world = record { disk = w.disk; first = with_moved w.first i l.0.handle; second = w.second };
        first = r.first ++ (tale_of l ∷ []);
        second = r.second;
      }
  onward r (two (loads i x)) =
      let w = r.world in let l = loading g w.disk w.second i x in
      record {
        world = record { disk = w.disk; first = w.first; second = with_moved w.second i l.0.handle };
        first = r.first;
        second = r.second ++ (tale_of l ∷ []);
      }

  abbrev pub at_end : ReadingWorld → List Move → ReadingWorld
  at_end r [] = r
  at_end r (z ∷ zs) = at_end (onward r z) zs

  abbrev pub Admits : ReadingWorld → Move → Type 0
  Admits r (one (calls c)) = Taken g a b r.world (Turn.one c)
  Admits r (two (calls c)) = Taken g a b r.world (Turn.two c)
  Admits r (one (loads i x)) = Loads g a r.world.disk r.world.first i x
  Admits r (two (loads i x)) = Loads g b r.world.disk r.world.second i x

  abbrev pub AllAdmitted : ReadingWorld → List Move → Type 0
  AllAdmitted r [] = Unit {0}
  AllAdmitted r (z ∷ zs) = Admits r z × AllAdmitted (onward r z) zs

-- the next record of what stands under a name, from a handle's position on
unfoldable pub next_in : Found → Grip → NextRecord
next_in nothing k = record_from [] k.at
next_in (found f) k = record_from f.bytes k.at

-- the step that a load read runs as: its handle's position is set to the place behind the record
abbrev pub without : FileState → Asks → Step
without o (calls c) = c
without o (loads i x) = moves i (next_in o.file (grip_at o i)).next

-- a list without its load reads
abbrev pub stripped : Geometry → Name → List Asks → FileState → List Step
stripped g n [] o = []
stripped g n (x ∷ xs) o = without o x ∷ stripped g n xs (effect g (fold n) (without o x) o)

-- an interleaving without its load reads
module _ (g : Geometry) (a b : Name) where
  abbrev pub turn_of : World → Move → Turn
  turn_of w (one x) = Turn.one (without (state_in g a w) x)
  turn_of w (two x) = Turn.two (without (state_in g b (swap w)) x)

  abbrev pub stripped_all : World → List Move → List Turn
  stripped_all w [] = []
  stripped_all w (z ∷ zs) = turn_of w z ∷ stripped_all (next g a b w (turn_of w z)) zs

-- Any two interleavings in which every call is accepted, and every load read is of no system file, agree as demand 3 says of the lists without
-- their load reads; and each list was told the same by its load reads.
pub record AgreeLoading (g : Geometry) (a b : Name) (d : List ℕ) (xs ys : List Asks) (zs : List Move) (r r' : ReadingWorld) : Type 0 where
  pub agree : Agree g a b d (stripped g a xs (state_in g a (start d))) (stripped g b ys (state_in g b (swap (start d))))
      (stripped_all g a b (start d) zs) r.world r'.world
  pub told : (r.first ≡ r'.first) × (r.second ≡ r'.second)

abbrev pub Demand3Loading : Type 0
Demand3Loading =
    (g : Geometry) (a b : Name) → fold a ≢ fold b → (d : List ℕ) → fits_geometry g d ≡ true → consistent g d ≡ true
    → (xs ys : List Asks) (zs zs' : List Move) → Mixed xs ys zs → Mixed xs ys zs'
    → AllAdmitted g a b (begin d) zs → AllAdmitted g a b (begin d) zs'
    → AgreeLoading g a b d xs ys zs (at_end g a b (begin d) zs) (at_end g a b (begin d) zs')
