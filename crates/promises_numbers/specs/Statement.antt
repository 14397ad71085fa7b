-- Refusal numbers (01's table, and 02's 21 to 30 in 2's place): whatever the image and whatever the call, its number is 0 or one of the few
-- that the table names for it, in the table's order. When each is given is demand 2's (`promises: Promises.table`); the list of numbers here
-- is that table's. Nothing is proved here: `Kept` has the theorem.
use Rattle.std.specs.Prelude.{◌≡◌, List, [], ◌∷◌, ◌++◌, ℕ}
use Rattle.meaning.specs.Lists.{In}
use Rattle.meaning.specs.Refusals.{fault_numbers}
use Rattle.meaning.specs.Calls.{Call, number}
use Rattle.meaning.specs.Calls.Call.{checks, looks_up, opens, creates, reads, reads_sector, writes, allots, trims, kills, lists, counts, measures}
use Rattle.meaning.specs.declared.Geometry.{Geometry}
use Rattle.promises.specs.Promises.{Table, table}

-- 1 "geometry or image length not as above", 2 "disk not consistent", told as 21 to 30: of every call but free space
abbrev pub of_disk : List ℕ → List ℕ
of_disk rest = 1 ∷ (fault_numbers ++ rest)

-- 12 "out of range", 7 "handle stale": of every call with a handle
abbrev pub of_handle : List ℕ → List ℕ
of_handle rest = of_disk (12 ∷ 7 ∷ rest)

-- the numbers of a call
abbrev pub numbers : Call → List ℕ
numbers checks = of_disk []
numbers (looks_up n) = of_disk (3 ∷ 4 ∷ [])
numbers (opens n len checking code) = of_disk (12 ∷ 3 ∷ 4 ∷ 5 ∷ [])
numbers (creates n f checking) = of_disk (12 ∷ 3 ∷ 5 ∷ 8 ∷ [])
numbers (reads a h b) = of_handle (6 ∷ 10 ∷ [])
numbers (reads_sector h k) = of_handle (6 ∷ 10 ∷ [])
numbers (writes a m h b) = of_handle (6 ∷ 11 ∷ 9 ∷ 8 ∷ [])
numbers (allots h k) = of_handle (6 ∷ 11 ∷ 9 ∷ 8 ∷ [])
numbers (trims h) = of_handle (6 ∷ [])
numbers (kills h) = of_handle (6 ∷ [])
numbers (lists i) = of_disk []
numbers counts = of_disk []
numbers measures = 1 ∷ []

-- the numbers of a table's rows
abbrev pub rows_of : Table → List ℕ
rows_of [] = []
rows_of (r ∷ rs) = r.0 ∷ rows_of rs

pub record Numbered (g : Geometry) (d : List ℕ) (c : Call) : Type 0 where
  pub one_of : In (number g d c) (0 ∷ numbers c)
  pub table' : rows_of (table g d c) ≡ numbers c

abbrev pub EveryNumber : Type 0
EveryNumber = (g : Geometry) (d : List ℕ) (c : Call) → Numbered g d c
