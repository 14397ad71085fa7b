-- The worked table of 01 (marked: prove): its eight rows, a field each, as one theorem of the definitions. What a row says of a
-- number is said of that number; what it says of a disk is said of every disk, or of the whole one that Samples.antt
-- writes out.
use Rattle.std.specs.Prelude.{ℕ, ◌+◌, ◌-◌, ◌*◌, ◌%◌, ◌≡◌, refl, Bool, true, false, ◌&&◌, List, [], ◌∷◌, ltb, length, get_or}
use Rattle.std.proofs.Common.{ap, ◌∙◌, arith, add-zero}
use Rattle.meaning.specs.Lists.{count, each, keep, all}
use Rattle.meaning.specs.Layout
use Rattle.lists.specs.Sizes
use Rattle.meaning.specs.Layout.{directory_sectors, is_slot, slots}
use Rattle.meaning.specs.Names.{hash}
use Rattle.meaning.specs.Entries
use Rattle.meaning.specs.Chain
use Rattle.meaning.specs.Chain.{place}
use Rattle.meaning.specs.Consistent
use Rattle.meaning.specs.Growth
use Rattle.meaning.specs.Growth.{lengthens}
use Rattle.meaning.specs.Create
use Rattle.meaning.specs.Refusal.{unplaced, placed}
use Rattle.meaning.specs.Refusals.{check}
use Rattle.meaning_table.specs.Samples.{wide, one_pair, opened}
use Rattle.meaning.specs.declared.Geometry.{Geometry}
use Rattle.meaning.specs.declared.NewFile.{NewFile}

-- BOOT/SYS, DIR/SYS, GDOS/SYS
abbrev boot : List ℕ
boot = 0x42 ∷ 0x4f ∷ 0x4f ∷ 0x54 ∷ 0x20 ∷ 0x20 ∷ 0x20 ∷ 0x20 ∷ 0x53 ∷ 0x59 ∷ 0x53 ∷ []

abbrev dir : List ℕ
dir = 0x44 ∷ 0x49 ∷ 0x52 ∷ 0x20 ∷ 0x20 ∷ 0x20 ∷ 0x20 ∷ 0x20 ∷ 0x53 ∷ 0x59 ∷ 0x53 ∷ []

abbrev gdos : List ℕ
gdos = 0x47 ∷ 0x44 ∷ 0x4f ∷ 0x53 ∷ 0x20 ∷ 0x20 ∷ 0x20 ∷ 0x20 ∷ 0x53 ∷ 0x59 ∷ 0x53 ∷ []

-- a file made on 9 October 1983
abbrev october : ℕ → ℕ → ℕ → NewFile
october len main worker = record { day = 9; month = 10; year = 1983 - 1980; len = len; main = main; worker = worker }

-- a size is (n, e), read both ways
abbrev pub Size : ℕ → ℕ → ℕ → Type 0
Size size n e = (Entries.size_from n e ≡ size) × (Entries.sectors_for size ≡ n) × (Entries.end_byte_for size ≡ e)

pub record Rows : Type 0 where
  -- 1. BOOT/SYS hashes to A2H, DIR/SYS to C4H, GDOS/SYS to A1H.
  pub hashes : (hash boot ≡ 0xa2) × (hash dir ≡ 0xc4) × (hash gdos ≡ 0xa1)
  -- 2. Slot 25H: row 1, s 5, directory sector 7, byte 32.
  pub slot : (Layout.row 0x25 ≡ 1) × (Layout.sector 0x25 ≡ 5)
      × ((g : Geometry) → Layout.entry_at g 0x25 ≡ 256 * (g.start + 7) + 32)
  -- 3. Pair 11H 42H, 3 units per block: granules 53 to 55, sectors 265 to 279. With 2 units: inconsistent (the
  -- first unit is 2: 26, run off the disk).
  pub pair : (count (Entries.pair_start 3 0x11 0x42) (Entries.pair_length 0x42) ≡ 53 ∷ 54 ∷ 55 ∷ [])
      × ((g : Geometry) → g.granule ≡ 5 → each (Layout.granule_sectors_of g) (53 ∷ 54 ∷ 55 ∷ []) ≡ count 265 15)
      × (Chain.owned (wide 3) (one_pair 76800) 0x80 ≡ 53 ∷ 54 ∷ 55 ∷ []) × (check (wide 3) (one_pair 76800) ≡ unplaced 0)
      × (Consistent.runs_hold (wide 2) (one_pair 51200) 0x80 ≡ false) × (check (wide 2) (one_pair 51200) ≡ placed 26 0x80)
  -- 4. Sizes 0, 255, 256, 257 are (n, e) = (0, 0), (1, 255), (1, 0), (2, 1).
  pub sizes : Size 0 0 0 × Size 255 1 255 × Size 256 1 0 × Size 257 2 1
  -- 5. Byte 1,280 is in the second granule owned.
  pub granule : ((g : Geometry) → g.granule ≡ 5 → Chain.granule_of g 1279 ≡ 0) × ((g : Geometry) → g.granule ≡ 5 → Chain.granule_of g 1280 ≡ 1)
      × ((g : Geometry) → g.granule ≡ 5 → (d : List ℕ) (s : ℕ) → place g d s 1280 ≡ 1280 * get_or (Chain.owned g d s) 1 0)
  -- 6. A 32-granule run has low bits 1FH; the 33rd granule needs a new pair.
  pub run : (Entries.pair_length 0x1f ≡ 32) × ((second : ℕ) → Entries.pair_length second ≡ 32 → second % 32 ≡ 0x1f)
      × ((g : Geometry) (p : ℕ) (d : List ℕ) → Entries.run_length g d (Growth.tail g p d) (Entries.runs g d (Growth.tail g p d) - 1) ≡ 32
      → lengthens g p d ≡ false)
  -- 7. 9 October 1983: day 9, byte 02 is 3AH.
  pub date : (n : List ℕ) (len main worker : ℕ) → (get_or (Create.new_entry n (october len main worker)) 1 0 ≡ 9)
      × (get_or (Create.new_entry n (october len main worker)) 2 0 ≡ 0x3a)
  -- 8. HIT 1FH = 14H: 30 sectors, 224 slots.
  pub directory : (g : Geometry) (d : List ℕ) → Layout.above_ten g d ≡ 0x14
      → (directory_sectors g d ≡ 30) × (length (slots g d) ≡ 224)

-- the slots of a directory of so many sectors
slots_of : ℕ → List ℕ
slots_of n = keep (λ s. all (ltb s 256 ∷ ltb (Layout.sector s + 2) n ∷ [])) (count 0 256)

slots-of : (g : Geometry) (d : List ℕ) → slots g d ≡ slots_of (directory_sectors g d)
unfolding slots is_slot slots_of
slots-of g d = refl

-- where the last of four conditions fails, so do all four
last-fails : (a b c : Bool) {e : Bool} → e ≡ false → all (a ∷ b ∷ c ∷ e ∷ []) ≡ false
unfolding all
last-fails true true true q = ap (λ e. e && true) q
last-fails true true false q = refl
last-fails true false c q = refl
last-fails false b c q = refl

full-run : (g : Geometry) (p : ℕ) (d : List ℕ) → Entries.run_length g d (Growth.tail g p d) (Entries.runs g d (Growth.tail g p d) - 1) ≡ 32
    → lengthens g p d ≡ false
unfolding lengthens
full-run g p d e = last-fails _ _ _ (ap (λ n. ltb n 32) e)

second-granule : (g : Geometry) → g.granule ≡ 5 → (d : List ℕ) (s : ℕ) → place g d s 1280 ≡ 1280 * get_or (Chain.owned g d s) 1 0
unfolding place
second-granule g e d s = rw (Sizes.bytes-01 g e) (add-zero _)

pub table : Rows
unfolding opened slots_of
table = record {
  hashes = (refl, refl, refl);
  slot = (refl, refl, λ g. omega arith);
  pair = (refl, (λ g e. rw (Sizes.sectors-01 g e) refl), refl, refl, refl, refl);
  sizes = ((refl, refl, refl), (refl, refl, refl), (refl, refl, refl), (refl, refl, refl));
  granule = ((λ g e. rw (Sizes.bytes-01 g e) refl), (λ g e. rw (Sizes.bytes-01 g e) refl), second-granule);
  run = (refl, (λ second e. omega arith), full-run);
  date = λ n len main worker. (refl, refl);
  directory = λ g d e. (ap (10 +◌) e, ap length (slots-of g d ∙ ap (λ n. slots_of (10 + n)) e));
}
