-- Where a new run starts: by 01's choice, or by the second (02 §13).
use Rattle.std.specs.Prelude.{◌≡◌, Bool, true, false, cond, List, ℕ, ◌+◌, ◌*◌, ◌≤◌, ◌<◌, length, take, drop}
use Rattle.meaning.specs.Free.{lowest_free, longest_free}
use Rattle.meaning.specs.Growth.{grow_by, fails, disk_or}
use Rattle.meaning.specs.Layout.{granules, taken, most_blocks}
use Rattle.meaning.specs.declared.Geometry.{Geometry}
use Rattle.growth_search.specs.Search.{Stretch}
use Rattle.growth.specs.declared.Chosen.{Chosen}

-- the lowest free granule, or the low end of the longest free stretch
abbrev pub choice_by : Geometry → Bool → List ℕ → ℕ
choice_by g lowest d = cond lowest (lowest_free g d) (longest_free g d)

-- What is known before a new run. By 01's choice: no granule below `next` is free. By the second: no free stretch has more than `most`
-- granules, and none of so many starts below `next`.
pub record Known (g : Geometry) (d : List ℕ) (lowest : Bool) (next most : ℕ) : Type 0 where
  pub inside : next ≤ granules g
  pub none : lowest ≡ true → (n : ℕ) → n < next → taken g d n ≡ true
  pub longest : lowest ≡ false → (i n : ℕ) → Stretch g d i n → n ≤ most
  pub lower : lowest ≡ false → (i : ℕ) → Stretch g d i most → next ≤ i

-- the granule chosen, and what is known with it
pub record Picked (g : Geometry) (d : List ℕ) (lowest : Bool) (r : Chosen) : Type 0 where
  pub is : choice_by g lowest d ≡ r.at
  pub known : Known g d lowest r.at r.most

-- only the GAT's bytes of the disk differ
pub record OnlyGat (g : Geometry) (d d' : List ℕ) : Type 0 where
  pub long : length d' ≡ length d
  pub below : take (256 * g.start) d' ≡ take (256 * g.start) d
  pub behind : drop (256 * g.start + most_blocks) d' ≡ drop (256 * g.start + most_blocks) d

-- what the loop leaves of disk d: whether it found too few slots, and the grown disk where it writes; else only the GAT shows what it took
pub record Leaves (g : Geometry) (p k : ℕ) (lowest writes : Bool) (d : List ℕ) (r : Bool) (d' : List ℕ) : Type 0 where
  pub number : r ≡ fails (grow_by g p (choice_by g lowest) k d)
  pub wrote : writes ≡ true → d' ≡ disk_or d (grow_by g p (choice_by g lowest) k d)
  pub marked : writes ≡ false → OnlyGat g d d'
