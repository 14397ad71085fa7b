-- Disks with granules of 10 and of 20 sectors (02 §10), computed: what the size changes, and what it leaves.
use Rattle.std.specs.Prelude.{ℕ, ◌+◌, ◌≡◌, refl, List, [], ◌∷◌, ◌++◌, map, true, length, replicate}
use Rattle.meaning.specs.Lists.{count, each}
use Rattle.meaning.specs.Layout.{highest, sector_numbers, granule_sectors_of, directory_granules}
use Rattle.meaning.specs.Chain.{place}
use Rattle.meaning.specs.Refusal.{unplaced, placed}
use Rattle.meaning.specs.Refusals.{check}
use Rattle.meaning.specs.Read.{read_sector}
use Rattle.meaning.specs.Allot.{allot}
use Rattle.meaning.specs.Trim.{trim}
use Rattle.meaning.specs.FreeSpace.{free_space}
use Rattle.meaning_table.specs.Samples.{laid, changed, held, leer, hits, e80, opened}
use Rattle.meaning.specs.declared.Geometry.{Geometry}
use Rattle.meaning.specs.declared.Handle.{Handle}
use Rattle.meaning.specs.declared.Answer.{Answer}

-- blocks, units per block, directory start, sectors per granule
abbrev disk : ℕ → ℕ → ℕ → ℕ → Geometry
disk blocks units start granule = record { blocks = blocks; units = units; start = start; noPassword = 0; system = true; granule = granule }

-- 8 blocks of 2 units, 10 sectors per granule, the directory at the front
abbrev ten : Geometry
ten = disk 8 2 0 10

-- A directory of 15 sectors, which touches granules 0 and 1. LEER in slot 80H owns nothing and has no byte.
abbrev empty : List ℕ
empty =
    laid 0 (
    (0, 0x03 ∷ [])
    ∷ (hits + 0x1f, 0x05 ∷ [])
    ∷ (hits + 0x80, 0x70 ∷ [])
    ∷ (e80, 0x10 ∷ 0x09 ∷ 0x3a ∷ 0x00 ∷ 0x00 ∷ leer)
    ∷ (e80 + 0x10, replicate 6 0 ++ replicate 10 0xff)
    ∷ []) 40960

-- the same, and LEER owns granule 2; granules 2 and 3
abbrev one : List ℕ
one = changed empty ((1, 0x01) ∷ (e80 + 0x16, 0x01) ∷ (e80 + 0x17, 0x00) ∷ [])

abbrev two : List ℕ
two = changed empty ((1, 0x03) ∷ (e80 + 0x16, 0x01) ∷ (e80 + 0x17, 0x01) ∷ [])

-- a handle of LEER at level 0, its position as given
abbrev leer_at : ℕ → Handle
leer_at at = held 0x80 leer at 256 0

abbrev answered : ℕ → Handle → Answer
answered number h = record { refusal = unplaced number; handle = h }

-- The size itself -------------------------------------------------------------------------------------------------------------------

-- "5, 10 or 20"; "1 covers any other size"
size_none : check (disk 8 2 0 0) empty ≡ unplaced 1
unfolding opened
size_none = refl

size-between : check (disk 8 2 0 15) empty ≡ unplaced 1
unfolding opened
size-between = refl

size-other : check (disk 8 2 0 5) empty ≡ unplaced 1
unfolding opened
size-other = refl

-- "The directory start is a multiple of it"
start-by-five : check (disk 8 2 45 10) empty ≡ unplaced 1
unfolding opened
start-by-five = refl

-- "The highest position becomes 393,216 times that number, and the highest sector 1,536 times it less one, on every image"
positions : (highest ten ≡ 3932160) × (highest (disk 1 1 0 20) ≡ 7864320)
unfolding opened
positions = (refl, refl)

sectors' : (sector_numbers ten ≡ 15360) × (sector_numbers (disk 1 1 0 20) ≡ 30720)
unfolding opened
sectors' = (refl, refl)

highest-held : trim ten empty (leer_at 3932160) ≡ (answered 0 (leer_at 3932160), empty)
unfolding opened
highest-held = refl

past-the-highest : trim ten empty (leer_at 3932161) ≡ (answered 12 (leer_at 3932161), empty)
unfolding opened
past-the-highest = refl

-- The directory ---------------------------------------------------------------------------------------------------------------------

-- how many granules a directory of 10, 15, 20, 25 and 30 sectors touches
abbrev touched : ℕ → List ℕ
touched granule = map (λ above. length (directory_granules (disk 8 2 0 granule) (laid 0 ((hits + 0x1f, above ∷ []) ∷ []) 288))) (0 ∷ 5 ∷ 10 ∷ 15 ∷ 20 ∷ [])

touched-granules : (touched 5 ≡ 2 ∷ 3 ∷ 4 ∷ 5 ∷ 6 ∷ []) × (touched 10 ≡ 1 ∷ 2 ∷ 2 ∷ 3 ∷ 3 ∷ []) × (touched 20 ≡ 1 ∷ 1 ∷ 1 ∷ 2 ∷ 2 ∷ [])
unfolding opened
touched-granules = (refl, refl, refl)

-- granules 0 and 1, and 14 are free
two-of-the-directory : (directory_granules ten empty ≡ 0 ∷ 1 ∷ []) × (check ten empty ≡ unplaced 0)
    × (free_space ten empty ≡ record { refusal = unplaced 0; free = 14; longest = 14 })
unfolding opened
two-of-the-directory = (refl, refl, refl)

-- a file with granule 1, of which the directory has five sectors
in-the-directory : check ten (changed empty ((e80 + 0x16, 0x00) ∷ (e80 + 0x17, 0x20) ∷ [])) ≡ placed 30 0x80
unfolding opened
in-the-directory = refl

clear-in-the-gat : check ten (changed empty ((0, 0x01) ∷ [])) ≡ unplaced 30
unfolding opened
clear-in-the-gat = refl

-- "the directory fits the image", by sectors: one granule of 20, and 1FH = 10 or 15
abbrev single : ℕ → List ℕ
single above = laid 0 ((0, 0x01 ∷ []) ∷ (hits + 0x1f, above ∷ []) ∷ []) 5120

fits-by-sectors : (check (disk 1 1 0 20) (single 10) ≡ unplaced 0) × (check (disk 1 1 0 20) (single 15) ≡ unplaced 21)
unfolding opened
fits-by-sectors = (refl, refl)

-- Granules of a file ------------------------------------------------------------------------------------------------------------------

-- Pair 11H 42H, 3 units: granules 53 to 55
pair : (each (granule_sectors_of ten) (53 ∷ 54 ∷ 55 ∷ []) ≡ count 530 30) × (each (granule_sectors_of (disk 20 3 0 20)) (53 ∷ 54 ∷ 55 ∷ []) ≡ count 1060 60)
unfolding opened
pair = (refl, refl)

-- allot: sector 9 is in the first granule, 10 in the second; the last of the disk would be the 1,536th; 15,360 is no sector
allot-9 : allot ten empty (leer_at 0) 9 ≡ (answered 0 (leer_at 0), one)
unfolding opened
allot-9 = refl

allot-10 : allot ten empty (leer_at 0) 10 ≡ (answered 0 (leer_at 0), two)
unfolding opened
allot-10 = refl

allot-too-far : ((allot ten empty (leer_at 0) 15359).0 ≡ answered 9 (leer_at 0)) × ((allot ten empty (leer_at 0) 15360).0 ≡ answered 12 (leer_at 0))
unfolding opened
allot-too-far = (refl, refl)

-- trim: 2,560 bytes keep one granule, 2,561 two
abbrev sized : ℕ → ℕ → List ℕ → List ℕ
sized sectors end d = changed d ((e80 + 0x14, sectors) ∷ (e80 + 3, end) ∷ [])

trim-2560 : trim ten (sized 10 0 two) (leer_at 0) ≡ (answered 0 (leer_at 0), sized 10 0 one)
unfolding opened
trim-2560 = refl

trim-2561 : trim ten (sized 11 1 two) (leer_at 0) ≡ (answered 0 (leer_at 0), sized 11 1 two)
unfolding opened
trim-2561 = refl

-- byte 2,560 is in the second granule owned
second-granule : (place ten two 0x80 2559 ≡ 7679) × (place ten
    (changed two ((e80 + 0x16, 0x01) ∷ (e80 + 0x17, 0x00) ∷ (e80 + 0x18, 0x02) ∷ (e80 + 0x19, 0x20) ∷ [])) 0x80 2560 ≡ 12800)
unfolding opened
second-granule = (refl, refl)

last-sector : read_sector ten (sized 11 1 two) (leer_at 0) 10 ≡ record { refusal = unplaced 0; from = 7680; to = 7681 }
unfolding opened
last-sector = refl
