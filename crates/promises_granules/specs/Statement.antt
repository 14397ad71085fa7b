-- What follows from the size of a granule (02 §10). `Sums`: 02's own sentences, of each of the three sizes that a geometry may state. `Old`:
-- "for 5 every answer must be the old one": where it states 5, each definition of `meaning` that asks for the size is the text of 01, with
-- 01's numbers. All others are made of these. Nothing is proved here: `Kept` has the theorems.
use Rattle.std.specs.Prelude.{◌≡◌, ◌↔◌, true, false, not, ◌||◌, List, [], ◌∷◌, ℕ, ◌+◌, ◌-◌, ◌*◌, ◌/◌, ◌%◌, ◌≤◌, ◌<◌, T, eqb, leb, length, get_or}
use Rattle.meaning.specs.Lists.{count, has, all}
use Rattle.meaning.specs.Layout.{granule_sizes, granule_bytes, granules, sectors, most_granules, highest, sector_numbers, fits_geometry, granule_sectors_of}
use Rattle.meaning.specs.Layout.{granules_for, above_ten, directory_sectors, directory_granules}
use Rattle.meaning.specs.Entries.{sector_count, end_byte, size_of}
use Rattle.meaning.specs.Chain.{owned, granule_of, place}
use Rattle.meaning.specs.Consistent.{length_holds, size_holds}
use Rattle.meaning.specs.Refusal.{unplaced}
use Rattle.meaning.specs.Refusals.{check}
use Rattle.meaning.specs.Handles.{good_length, in_range}
use Rattle.meaning.specs.Write.{to_write, size_after}
use Rattle.meaning.specs.Allot.{granules_to, to_allot}
use Rattle.meaning.specs.Trim.{surplus}
use Rattle.meaning.specs.declared.Geometry.{Geometry}
use Rattle.meaning.specs.declared.Handle.{Handle}
use Rattle.meaning.specs.declared.Mode.{Mode}

-- Any of the three sizes --------------------------------------------------------------------------------------------------------

-- sector k is one of the directory's
abbrev pub OfDirectory : Geometry → List ℕ → ℕ → Type 0
OfDirectory g d k = (g.start ≤ k) × (k < g.start + directory_sectors g d)

-- sector k is one of granule n's
abbrev pub OfGranule : Geometry → ℕ → ℕ → Type 0
OfGranule g n k = (n * g.granule ≤ k) × (k < (n + 1) * g.granule)

pub record Sums (g : Geometry) (d : List ℕ) : Type 0 where
  -- "Let the geometry state sectors per granule"
  pub sectors-of : (n : ℕ) → granule_sectors_of g n ≡ count (n * g.granule) g.granule
  pub bytes : granule_bytes g ≡ 256 * g.granule
  -- "The directory start is a multiple of it",
  pub start : fits_geometry g d ≡ true → g.start % g.granule ≡ 0
  -- "and every granule that the directory touches counts as a directory granule": such a one, and no other
  pub touched : fits_geometry g d ≡ true → (n : ℕ) → T (has (directory_granules g d) n) ↔ ((k : ℕ) × OfDirectory g d k × OfGranule g n k)
  -- "The highest position becomes 393,216 times that number, and the highest sector 1,536 times it less one, on every image."
  pub position : highest g ≡ 393216 * g.granule
  pub sector : sector_numbers g ≡ 1536 * g.granule
  -- "All sums with 5 and 1,280 in 01 change accordingly": the granules up to a sector, those that a size needs, and the place of a byte
  pub allotted : (k : ℕ) → granules_to g k ≡ k / g.granule + 1
  pub needed : (size n : ℕ) → (granules_for g size ≤ n) ↔ (size ≤ 256 * g.granule * n)
  pub placed : (s i : ℕ) → place g d s i ≡ 256 * g.granule * get_or (owned g d s) (i / (256 * g.granule)) 0 + i % (256 * g.granule)
  -- what must fit: a sector count two bytes, a position four
  pub counted : granules g ≤ most_granules → sectors g ≤ 30720
  pub positioned : highest g ≤ 7864320

abbrev pub EverySize : Type 0
EverySize = (g : Geometry) (d : List ℕ) → has granule_sizes g.granule ≡ true → Sums g d

-- "Refusals: 1 covers any other size": no call but with 1, whatever the image
abbrev pub NoOtherSize : Type 0
NoOtherSize = (g : Geometry) (d : List ℕ) → has granule_sizes g.granule ≡ false → (fits_geometry g d ≡ false) × (check g d ≡ unplaced 1)

-- Five --------------------------------------------------------------------------------------------------------------------------

pub record Old (g : Geometry) (d : List ℕ) : Type 0 where
  -- "blocks 1 to 192, units per block 1 to 8, directory start (a sector number, multiple of 5)"; "the image length must be blocks × units ×
  -- 1,280 bytes exactly, and at least 10 sectors must lie from the directory start to the end"
  pub geometry : fits_geometry g d
      ≡ all (leb 1 g.blocks ∷ leb g.blocks 192 ∷ leb 1 g.units ∷ leb g.units 8
      ∷ eqb (g.start % 5) 0
      ∷ eqb (length d) (g.blocks * g.units * 1280)
      ∷ leb (g.start + 10) (g.blocks * g.units * 5) ∷ [])
  -- "A granule is 5 sectors of 256 bytes."
  pub granule : (n : ℕ) → granule_sectors_of g n ≡ count (n * 5) 5
  pub bytes : granule_bytes g ≡ 5 * 256
  -- "The 1FH byte is allowed and the directory fits the image": on such a disk the directory's granules are its sectors by fives. On any
  -- other the check tells 21, and no answer hangs on them.
  pub length' : length_holds g d ≡ all (has (0 ∷ 5 ∷ 10 ∷ 15 ∷ 20 ∷ []) (above_ten g d) ∷ leb (g.start + directory_sectors g d) (g.blocks * g.units * 5) ∷ [])
  pub directory : length_holds g d ≡ true → directory_granules g d ≡ count (g.start / 5) (directory_sectors g d / 5)
  -- "the size fits the granules owned"
  pub fits : (p : ℕ) → size_holds g d p
      ≡ all ((not (eqb (sector_count g d p) 0) || eqb (end_byte g d p) 0) ∷ leb (size_of g d p) (1280 * length (owned g d p)) ∷ [])
  -- "Byte 1,280 is in the second granule owned."
  pub owner : (i : ℕ) → granule_of g i ≡ i / 1280
  pub placed : (s i : ℕ) → place g d s i ≡ 1280 * get_or (owned g d s) (i / 1280) 0 + i % 1280
  -- "position (0 to 1,966,080)", and "position + length over 1,966,080 in a write"; "sector 0 to 7,679"
  pub position : highest g ≡ 1966080
  pub handle : (h : Handle) → in_range g h ≡ all (leb h.at 1966080 ∷ good_length h.len ∷ leb h.level 7 ∷ [])
  pub sector : sector_numbers g ≡ 7680
  -- "A write takes exactly what the file lacks of ⌈new size/1280⌉ granules." Allot: "until ⌊k/5⌋ + 1 are owned". Trim: "keeps ⌈size/1280⌉
  -- granules".
  pub written : (m : Mode) (h : Handle) (n : ℕ) → to_write g d m h n
      ≡ (size_after m (size_of g d h.slot) (h.at + n) + 1279) / 1280 - length (owned g d h.slot)
  pub allotted : (h : Handle) (k : ℕ) → to_allot g d h k ≡ k / 5 + 1 - length (owned g d h.slot)
  pub trimmed : (s : ℕ) → surplus g d s ≡ length (owned g d s) - (size_of g d s + 1279) / 1280
  -- and in the plain list of named files (demand 2)
  pub listed : (size : ℕ) → granules_for g size ≡ (size + 1279) / 1280
  pub held : (k : ℕ) → granules_to g k ≡ k / 5 + 1

abbrev pub AtFive : Type 0
AtFive = (g : Geometry) (d : List ℕ) → g.granule ≡ 5 → Old g d
