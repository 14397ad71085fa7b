-- Where things are on a disk (01, Geometry and Directory layout). An image is the list of its bytes; a sector is 256 of them.
use Rattle.std.specs.Prelude.{ℕ, ◌+◌, ◌-◌, ◌*◌, ◌/◌, ◌%◌, Bool, cond, List, [], ◌∷◌, leb, ltb, eqb, length, get_or, set}
use Rattle.meaning.specs.Lists.{count, keep, all, has}
use Rattle.meaning.specs.Bits.{bit, with_bit, without_bit}
use Rattle.meaning.specs.declared.Geometry.{Geometry}

-- Geometry ----------------------------------------------------------------------------------------------------------------

-- Let the geometry state sectors per granule: 5, 10 or 20 (02, §10; 01: 5).
abbrev pub granule_sizes : List ℕ
granule_sizes = 5 ∷ 10 ∷ 20 ∷ []

-- How many sectors a granule has: as many as the geometry states. Where it states a size that is none, every call but one without a disk
-- is refused with 1; only so that no sum divides by 0 a granule has 5 there. Shut, as the next one is: what is proved of them is proved
-- from the laws of `lists: Sizes` alone, which hold of any number of sectors above 0.
unfoldable pub granule_sectors : Geometry → ℕ
granule_sectors g = cond (has granule_sizes g.granule) g.granule 5

unfoldable pub granule_bytes : Geometry → ℕ
granule_bytes g = granule_sectors g * 256

-- The caller states: blocks 1 to 192, units per block 1 to 8.
abbrev pub most_blocks : ℕ
most_blocks = 192

abbrev pub most_units : ℕ
most_units = 8

abbrev pub most_granules : ℕ
most_granules = most_blocks * most_units

-- The highest position becomes 393,216 times that number, on every image: the bytes of the largest disk (01: 1,966,080)
abbrev pub highest : Geometry → ℕ
highest g = most_granules * granule_bytes g

-- and the highest sector 1,536 times it less one: a sector number is below this (01: 0 to 7,679)
abbrev pub sector_numbers : Geometry → ℕ
sector_numbers g = most_granules * granule_sectors g

-- how many granules a disk has: granule number = block × units + unit
unfoldable pub granules : Geometry → ℕ
granules g = g.blocks * g.units

abbrev pub sectors : Geometry → ℕ
sectors g = granules g * granule_sectors g

-- Directory start: a sector number, multiple of a granule's sectors. The image length must be blocks × units × the bytes of a granule
-- exactly, and at least 10 sectors must lie from the directory start to the end; 1 covers any other size of a granule (02, §10). Refusal 1
-- is given exactly where this is false.
unfoldable pub fits_geometry : Geometry → List ℕ → Bool
fits_geometry g d =
    all (leb 1 g.blocks ∷ leb g.blocks most_blocks ∷ leb 1 g.units ∷ leb g.units most_units
    ∷ eqb (g.start % granule_sectors g) 0
    ∷ eqb (length d) (granules g * granule_bytes g)
    ∷ leb (g.start + 10) (sectors g) ∷ has granule_sizes g.granule ∷ [])

-- the sectors of a granule
abbrev pub granule_sectors_of : Geometry → ℕ → List ℕ
granule_sectors_of g n = count (n * granule_sectors g) (granule_sectors g)

-- how many things of k each hold a size: ⌈size / k⌉
abbrev pub round_up : ℕ → ℕ → ℕ
round_up size k = (size + (k - 1)) / k

-- the granules that a size needs: ⌈size / bytes of a granule⌉ (01: ⌈size/1280⌉)
abbrev pub granules_for : Geometry → ℕ → ℕ
granules_for g size = round_up size (granule_bytes g)

-- byte i of an image; 0 past its end: no answer hangs on that
abbrev pub byte : List ℕ → ℕ → ℕ
byte d i = get_or d i 0

-- GAT ---------------------------------------------------------------------------------------------------------------------

-- Sector 0, GAT: byte b, bit u stands for unit u of block b.
abbrev pub gat_at : Geometry → ℕ → ℕ
gat_at g n = 256 * g.start + n / g.units

-- A set bit means taken.
unfoldable pub taken : Geometry → List ℕ → ℕ → Bool
taken g d n = bit (n % g.units) (byte d (gat_at g n))

unfoldable pub take_granule : Geometry → List ℕ → ℕ → List ℕ
take_granule g d n = set d (gat_at g n) (with_bit (n % g.units) (byte d (gat_at g n)))

unfoldable pub free_granule : Geometry → List ℕ → ℕ → List ℕ
free_granule g d n = set d (gat_at g n) (without_bit (n % g.units) (byte d (gat_at g n)))

-- HIT ---------------------------------------------------------------------------------------------------------------------

-- Sector 1, HIT: slot number = 32 × row + s, row 0 to 7.
abbrev pub row : ℕ → ℕ
row slot = slot / 32

-- 01's s: the entry stands in directory sector s + 2
abbrev pub sector : ℕ → ℕ
sector slot = slot % 32

abbrev pub hit_at : Geometry → ℕ → ℕ
hit_at g slot = 256 * (g.start + 1) + slot

unfoldable pub hit : Geometry → List ℕ → ℕ → ℕ
hit g d slot = byte d (hit_at g slot)

-- Byte 1FH is the number of directory sectors above 10.
abbrev pub above_ten : Geometry → List ℕ → ℕ
above_ten g d = byte d (hit_at g 0x1f)

unfoldable pub directory_sectors : Geometry → List ℕ → ℕ
directory_sectors g d = 10 + above_ten g d

-- With d directory sectors, s runs from 0 to d − 3.
unfoldable pub is_slot : Geometry → List ℕ → ℕ → Bool
is_slot g d slot = all (ltb slot 256 ∷ ltb (sector slot + 2) (directory_sectors g d) ∷ [])

-- the slots of the directory, rising
unfoldable pub slots : Geometry → List ℕ → List ℕ
slots g d = keep (is_slot g d) (count 0 256)

-- Entries -----------------------------------------------------------------------------------------------------------------

-- The entry of a slot is in directory sector s + 2 at byte 32 × row.
abbrev pub entry_at : Geometry → ℕ → ℕ
entry_at g slot = 256 * (g.start + 2 + sector slot) + 32 * row slot

-- byte k of an entry
unfoldable pub field : Geometry → List ℕ → ℕ → ℕ → ℕ
field g d slot k = byte d (entry_at g slot + k)

unfoldable pub set_field : Geometry → List ℕ → ℕ → ℕ → ℕ → List ℕ
set_field g d slot k v = set d (entry_at g slot + k) v

-- the granules that the directory touches
abbrev pub directory_granules : Geometry → List ℕ → List ℕ
directory_granules g d = count (g.start / granule_sectors g) (round_up (directory_sectors g d) (granule_sectors g))
