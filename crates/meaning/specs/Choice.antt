-- What number 8 of a growth means (02 §13): "Number 8 must then mean that no choice of free granules whatever, taken in runs after the file's
-- present runs (the last of which may be lengthened), fits the pairs and permitted slots left." Nothing here knows of a rule by which granules
-- are chosen; that 8 is given exactly then is proved (promises: Fitting).
use Rattle.std.specs.Prelude.{ℕ, zero, suc, ◌+◌, ◌-◌, ◌*◌, ◌≤◌, ◌<◌, ◌≡◌, Bool, false, List, [], ◌∷◌, ◌++◌, length}
use Rattle.meaning.specs.Lists.{count, In, Distinct}
use Rattle.meaning.specs.Layout.{taken, granules}
use Rattle.meaning.specs.Entries.{runs, run_start, run_length}
use Rattle.meaning.specs.Chain.{last_pair}
use Rattle.meaning.specs.Free.{free_slots}
use Rattle.meaning.specs.declared.Geometry.{Geometry}

-- What is seen of a disk ---------------------------------------------------------------------------------------------------

-- a run: granules with consecutive numbers, the first of them and how many
pub record Run : Type 0 where
  pub first : ℕ
  pub many : ℕ

-- the last of the file's present runs
pub data Last : Type 0 where
  no_run : Last
  last_run : Run → Last

-- which granules are taken, the file's last run, and how many further runs there is place for
pub record State : Type 0 where
  pub taken : ℕ → Bool
  pub last : Last
  pub room : ℕ

-- "the pairs and permitted slots left": those left of the last entry's four pairs, and four for each free permitted slot
abbrev pub room_of : ℕ → ℕ → ℕ
room_of pairs slots = 4 - pairs + 4 * slots

-- the last run, of so many
abbrev pub last_of : ℕ → ℕ → ℕ → Last
last_of zero first many = no_run
last_of (suc k) first many = last_run (record { first = first; many = many })

-- what is seen of a disk for the file at slot p: the GAT bits, and the runs of the file's last entry
abbrev pub view : Geometry → ℕ → List ℕ → State
view g p d =
    let w = last_pair g p d in
    record {
      taken = taken g d;
      last = last_of (runs g d w.0) (run_start g d w.0 w.1) (run_length g d w.0 w.1);
      room = room_of (runs g d w.0) (length (free_slots g d));
    }

-- A choice -----------------------------------------------------------------------------------------------------------------

-- the granule just after the last run, where there is a run
abbrev pub after : Last → ℕ
after no_run = 0
after (last_run r) = r.first + r.many

-- how many granules the last run may be lengthened by: up to the limit, and by none without a run
abbrev pub spare : ℕ → Last → ℕ
spare limit no_run = 0
spare limit (last_run r) = limit - r.many

-- all granules of some runs
abbrev pub granules_of : List Run → List ℕ
granules_of [] = []
granules_of (r ∷ rs) = count r.first r.many ++ granules_of rs

module _ (granules : ℕ) where
  -- the granule exists and is free
  pub record Free (v : State) (n : ℕ) : Type 0 where
    pub inside : n < granules
    pub clear : v.taken n ≡ false

  -- these are k granules: all free, none twice
  pub record Granules (v : State) (ns : List ℕ) (k : ℕ) : Type 0 where
    pub free : (n : ℕ) → In n ns → Free v n
    pub once : Distinct ns
    pub many : length ns ≡ k

-- each run has from 1 to limit granules
abbrev pub Sized : ℕ → List Run → Type 0
Sized limit [] = Unit {0}
Sized limit (r ∷ rs) = (1 ≤ r.many) × (r.many ≤ limit) × Sized limit rs

-- limit is the most granules that a run may have, granules how many the disk has
module _ (limit granules : ℕ) where
  -- the last run lengthened by x granules, and further runs: k granules in all
  pub record ChoiceFits (v : State) (x : ℕ) (rs : List Run) (k : ℕ) : Type 0 where
    pub within : x ≤ spare limit v.last
    pub sized : Sized limit rs
    pub few : length rs ≤ v.room
    pub chosen : Granules granules v (count (after v.last) x ++ granules_of rs) k

  -- a choice of k granules that fits: a lengthening and a list of runs
  pub record Choice (v : State) (k : ℕ) : Type 0 where
    pub longer : ℕ
    pub runs : List Run
    pub fits : ChoiceFits v longer runs k

-- Number 8 -----------------------------------------------------------------------------------------------------------------

-- no choice of so many granules fits, for the file at slot p; a run has 32 granules at the most
abbrev pub NothingFits : Geometry → List ℕ → ℕ → ℕ → Type 0
NothingFits g d p more = Choice 32 (granules g) (view g p d) more → ⊥
