-- What a growth finds out before it writes: where the last run ends, the next free granule, the longest free stretch, the next free slot.
use Rattle.std.specs.Prelude.{◌≡◌, ◌⊎◌, Bool, true, false, List, ℕ, ◌+◌, ◌-◌, ◌≤◌, ◌<◌}
use Rattle.meaning.specs.Layout.{granules, taken}
use Rattle.meaning.specs.Entries.{runs, run_start, run_length}
use Rattle.meaning.specs.Free.{free_slot}
use Rattle.meaning.specs.declared.Geometry.{Geometry}
use Rattle.growth_search.specs.declared.Ending.{Ending}
use Rattle.growth_search.specs.declared.Found.{Found}

-- the runs of entry e, and where the last of them ends; without a run the next granule starts one, as after a run of 32
pub record Ends (g : Geometry) (d : List ℕ) (e : ℕ) (r : Ending) : Type 0 where
  pub many : runs g d e ≡ r.runs
  pub few : r.runs ≤ 4
  pub none : r.runs ≡ 0 → 32 ≤ r.long
  pub after : 1 ≤ r.runs → (r.after ≡ run_start g d e (r.runs - 1) + run_length g d e (r.runs - 1)) × (r.long ≡ run_length g d e (r.runs - 1))
  pub small : r.long ≤ 32

-- granule n is on the disk and clear in the GAT
pub record IsClear (g : Geometry) (d : List ℕ) (n : ℕ) (r : Bool) : Type 0 where
  pub yes : r ≡ true → (n < granules g) × (taken g d n ≡ false)
  pub no : r ≡ false → (granules g ≤ n) ⊎ (taken g d n ≡ true)

-- r granules from a on are clear in the GAT, and the next is not, where it is one of n
pub record ClearFrom (g : Geometry) (d : List ℕ) (a n r : ℕ) : Type 0 where
  pub few : r ≤ n
  pub clear : (k : ℕ) → k < r → taken g d (a + k) ≡ false
  pub ends : r < n → taken g d (a + r) ≡ true

-- granules n to n + many − 1 are on the disk and clear in the GAT
abbrev pub Stretch : Geometry → List ℕ → ℕ → ℕ → Type 0
Stretch g d n many = (k : ℕ) → n ≤ k → k < n + many → (k < granules g) × (taken g d k ≡ false)

pub record AllClear (g : Geometry) (d : List ℕ) (n many : ℕ) (r : Bool) : Type 0 where
  pub yes : r ≡ true → Stretch g d n many
  pub no : r ≡ false → Stretch g d n many → ⊥

-- r is the lowest granule from `from` on that is clear in the GAT, or the number of granules where there is none
pub record NextFree (g : Geometry) (d : List ℕ) (from r : ℕ) : Type 0 where
  pub low : from ≤ r
  pub high : r ≤ granules g
  pub passed : (n : ℕ) → from ≤ n → n < r → taken g d n ≡ true
  pub found : r < granules g → taken g d r ≡ false

-- r is the longest free stretch from `from` on, the lower of two as long; or the lowest of `most` granules, where there is one
pub record LongestFrom (g : Geometry) (d : List ℕ) (from most : ℕ) (r : Found) : Type 0 where
  pub free : Stretch g d r.low r.long
  pub longest : (i n : ℕ) → from ≤ i → Stretch g d i n → (n ≤ r.long) ⊎ (most ≤ r.long)
  pub lower : (i : ℕ) → from ≤ i → Stretch g d i r.long → r.low ≤ i

-- r is the first free slot from `from` on, or 256 where there is none
pub record NextSlot (g : Geometry) (d : List ℕ) (from r : ℕ) : Type 0 where
  pub low : from ≤ r
  pub high : r ≤ 256
  pub passed : (n : ℕ) → from ≤ n → n < r → free_slot g d n ≡ false
  pub found : r < 256 → free_slot g d r ≡ true
