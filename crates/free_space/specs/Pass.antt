-- The pass over the GAT, granule by granule.
use Rattle.std.specs.Prelude.{◌≡◌, Bool, cond, List, ℕ, zero, suc, ◌+◌, ◌*◌, ◌/◌, ◌%◌, ◌≤◌, ◌<◌, max, eqb, length}
use Rattle.meaning.specs.Layout.{byte, most_blocks, most_units}
use Rattle.meaning.specs.Free.{free_granules}
use Rattle.meaning.specs.FreeSpace.{longest}
use Rattle.meaning.specs.declared.Geometry.{Geometry}
use Rattle.free_space.specs.declared.Seen.{Seen}

-- what the pass asks: the GAT bytes of the disk's blocks lie in the image
pub record Gat (g : Geometry) (d : List ℕ) : Type 0 where
  pub blocks-high : g.blocks ≤ most_blocks
  pub units-low : 1 ≤ g.units
  pub units-high : g.units ≤ most_units
  pub inside : 256 * g.start + g.blocks ≤ length d

-- n granules more are still no more than the largest disk has
pub record RoomLeft (n : ℕ) (p : Seen) : Type 0 where
  pub few : p.free + p.here + n ≤ most_blocks * most_units

-- the stretch ends
unfoldable pub ended : Seen → Seen
ended p = record { free = p.free + p.here; here = 0; longest = max p.longest p.here }

-- n granules more, all free
abbrev pub longer : Seen → ℕ → Seen
longer p n = record { free = p.free; here = p.here + n; longest = p.longest }

-- one granule more, taken or free
unfoldable pub met : Bool → Seen → Seen
met t p = cond t (ended p) (record { free = p.free; here = p.here + 1; longest = p.longest })

-- so many of the lowest bits of a byte, from bit 0 up
unfoldable pub bits : ℕ → ℕ → Seen → Seen
bits zero x p = p
bits (suc n) x p = bits n (x / 2) (met (eqb (x % 2) 1) p)

pub record BlockPassed (units byte : ℕ) (p r : Seen) : Type 0 where
  pub is : r ≡ bits units byte p
  pub few : r.free + r.here ≤ p.free + p.here + units

-- the pass is over: its numbers are those of the disk
pub record Tells (g : Geometry) (d : List ℕ) (r : Seen) : Type 0 where
  pub free : r.free ≡ length (free_granules g d)
  pub longest' : r.longest ≡ longest g d

-- r tells whether eight blocks of eight granules from block b on are free, or all taken
pub record EightBlocks (g : Geometry) (d : List ℕ) (b r : ℕ) : Type 0 where
  pub clear : r ≡ 0 → (g.units ≡ 8) × (b + 8 ≤ g.blocks) × ((k : ℕ) → k < 8 → byte d (256 * g.start + (b + k)) ≡ 0)
  pub full : r ≡ 18446744073709551615 → (g.units ≡ 8) × (b + 8 ≤ g.blocks) × ((k : ℕ) → k < 8 → byte d (256 * g.start + (b + k)) ≡ 255)
