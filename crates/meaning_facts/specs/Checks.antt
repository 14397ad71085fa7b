-- Check: the geometry.
use Rattle.std.specs.Prelude.{◌≡◌, refl, [], ◌∷◌, ℕ}
use Rattle.meaning.specs.Layout
use Rattle.meaning.specs.Refusal.{unplaced}
use Rattle.meaning.specs.Refusals.{check}
use Rattle.meaning_table.specs.Samples.{laid, sample, opened}
use Rattle.meaning_facts.specs.Disks.{disk}

-- position 0 to 1,966,080, sector 0 to 7,679: what 192 blocks of 8 units hold
highest-position : (blocks units start : ℕ) → Layout.highest (disk blocks units start) ≡ 1966080
unfolding opened
highest-position blocks units start = refl

highest-sector : (blocks units start : ℕ) → Layout.sector_numbers (disk blocks units start) ≡ 7680
unfolding opened
highest-sector blocks units start = refl

-- "blocks 1 to 192, units per block 1 to 8"
most-units : check (disk 1 8 0) (laid 0 ((0, 0x03 ∷ []) ∷ []) 10240) ≡ unplaced 0
unfolding opened
most-units = refl

too-many-units : check (disk 1 9 0) (laid 0 ((0, 0x03 ∷ []) ∷ []) 11520) ≡ unplaced 1
unfolding opened
too-many-units = refl

no_block : check (disk 0 1 0) [] ≡ unplaced 1
unfolding opened
no_block = refl

-- "The image length must be blocks × units × 1,280 bytes exactly"
other_length : check (disk 3 4 0) (0 ∷ sample) ≡ unplaced 1
unfolding opened
other_length = refl

-- "directory start (a sector number, multiple of 5)", "at least 10 sectors must lie from the directory start to the end"
start-inside-a-granule : check (disk 4 3 3) sample ≡ unplaced 1
unfolding opened
start-inside-a-granule = refl

start-too-late : check (disk 4 3 55) sample ≡ unplaced 1
unfolding opened
start-too-late = refl

last-start : check (disk 4 3 50) sample ≡ unplaced 30
unfolding opened
last-start = refl
