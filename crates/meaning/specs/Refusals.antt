-- Refusal numbers, in order of test (01). Each call has one list of them, in the table's order; its number is the first that holds.
use Rattle.std.specs.Prelude.{ℕ, Bool, not, List, [], ◌∷◌, ◌++◌, map, leb, ltb, eqb, length}
use Rattle.meaning.specs.Lists.{count, all, any}
use Rattle.meaning.specs.Layout
use Rattle.meaning.specs.Names
use Rattle.meaning.specs.Entries
use Rattle.meaning.specs.Refusal.{placed, carried, carried_two}
use Rattle.meaning.specs.Fault
use Rattle.meaning.specs.Free
use Rattle.meaning.specs.Growth
use Rattle.meaning.specs.Handles
use Rattle.meaning.specs.declared.Geometry.{Geometry}
use Rattle.meaning.specs.declared.Handle.{Handle}
use Rattle.meaning.specs.declared.NewFile.{NewFile}
use Rattle.meaning.specs.declared.Refusal.{Refusal}
-- Where several apply, the first in the table is returned and no other; 0 where none does: the call is accepted.
unfoldable pub use Rattle.meaning.specs.Lists.{first}

abbrev pub accepted : ℕ → Bool
accepted n = eqb n 0

-- 12: position, length, level, date or sector out of range. Of a handle, `Handles.in_range`; of what create is given: day 0 to 31, month and
-- year offset 0 to 15, record length
unfoldable pub new_in_range : NewFile → Bool
new_in_range f = all (leb f.day 31 ∷ leb f.month 15 ∷ leb f.year 15 ∷ Handles.good_length f.len ∷ [])

-- 3: name not well formed (calls by name)
abbrev pub bad_name : List ℕ → ℕ × Bool
bad_name n = (3, not (Names.well_formed (Names.comes_in n).name))

-- "Refusals: 3 now carries a place, 0 to 10" (02 §7): that of the name's first bad byte
abbrev pub bad_at : List ℕ → Refusal
bad_at n = placed 3 (Names.comes_in n).place

-- 6: level over 5 for reading
abbrev pub not_for_reading : Handle → ℕ × Bool
not_for_reading h = (6, ltb 5 h.level)

-- the numbers of faults: 21 to 30
abbrev pub fault_numbers : List ℕ
fault_numbers = count 21 10

-- each of these, where the number is that one
abbrev pub by_number : ℕ → List ℕ → List (ℕ × Bool)
by_number n ks = map (λ k. (k, eqb n k)) ks

module _ (g : Geometry) (d : List ℕ) where
  -- 1: geometry or image length not as above
  abbrev pub bad_geometry : ℕ × Bool
  bad_geometry = (1, not (Layout.fits_geometry g d))

  -- 21 to 30, in 2's place (02 §2): the disk has a fault of that number
  abbrev pub fault_refusals : List (ℕ × Bool)
  fault_refusals = by_number (Fault.fault g d).number fault_numbers

  -- what every call tests first; `rest` is what it tests after
  abbrev pub disk_refusals : List (ℕ × Bool) → List (ℕ × Bool)
  disk_refusals rest = bad_geometry ∷ (fault_refusals ++ rest)

  -- Check as a call answers 0, 1 or 21 to 30, and with a fault's number its slot (02 §2).
  unfoldable pub check : Refusal
  check = carried (Fault.fault g d) (first (disk_refusals []))

  -- What a call answers whose number is n: what the check found is handed on.
  abbrev pub refusal : ℕ → Refusal
  refusal n = carried check n

  -- What a call by name answers whose number is k: that, and the place of the name's first bad byte under 3.
  abbrev pub name_refusal : List ℕ → ℕ → Refusal
  name_refusal n k = carried_two check (bad_at n) k

  -- 7: handle stale
  abbrev pub stale : Handle → ℕ × Bool
  stale h = (7, not (Handles.fresh g d h))

  -- what every call with a handle tests first; `ranged` is the call's own test 12, `rest` what it tests after
  abbrev pub handle_refusals : Handle → Bool → List (ℕ × Bool) → List (ℕ × Bool)
  handle_refusals h ranged rest = disk_refusals ((12, not ranged) ∷ stale h ∷ rest)

  -- 6: level over 4 for write, allot, trim, over 1 for kill; or write, allot, trim or kill of a system file
  abbrev pub protected : ℕ → Handle → ℕ × Bool
  protected most h = (6, any (ltb most h.level ∷ Entries.system g d h.slot ∷ []))

  -- 11: E set and more granules needed than owned. 9: more further granules needed than are free. 8: the growth finds no
  -- slot, which is to say that no choice of free granules fits the pairs and permitted slots left (02 §13; promises: Fitting). Here k
  -- further granules are needed.
  abbrev pub cannot_grow : ℕ → ℕ → List (ℕ × Bool)
  cannot_grow s k =
      (11, all (Entries.no_growth g d s ∷ ltb 0 k ∷ [])) ∷ (9, ltb (length (Free.free_granules g d)) k)
      ∷ (8, Growth.fails (Growth.growth g s k d)) ∷ []
