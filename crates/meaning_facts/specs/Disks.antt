-- More disks and names on which the facts compute, and short words for their answers.
use Rattle.std.specs.Prelude.{ℕ, ◌+◌, ◌-◌, ◌*◌, ◌/◌, ◌%◌, List, [], ◌∷◌, ◌++◌, map, true, false, cond, eqb, replicate}
use Rattle.meaning.specs.Lists.{count, each}
use Rattle.meaning.specs.Refusal.{unplaced}
use Rattle.meaning_table.specs.Samples.{laid, changed, leer, sample, hits, e80, ea3}
use Rattle.meaning.specs.declared.Geometry.{Geometry}
use Rattle.meaning.specs.declared.Handle.{Handle}
use Rattle.meaning.specs.declared.Answer.{Answer}

-- PULS13/DAT: its hash is C1H, as that of PULS01/DAT
abbrev pub puls13 : List ℕ
puls13 = 0x50 ∷ 0x55 ∷ 0x4c ∷ 0x53 ∷ 0x31 ∷ 0x33 ∷ 0x20 ∷ 0x20 ∷ 0x44 ∷ 0x41 ∷ 0x54 ∷ []

-- NEU: its hash is 32H
abbrev pub neu : List ℕ
neu = 0x4e ∷ 0x45 ∷ 0x55 ∷ 0x20 ∷ 0x20 ∷ 0x20 ∷ 0x20 ∷ 0x20 ∷ 0x20 ∷ 0x20 ∷ 0x20 ∷ []

-- neu, and Puls01/Dat, as a caller may give them (02 §7)
abbrev pub neu' : List ℕ
neu' = 0x6e ∷ 0x65 ∷ 0x75 ∷ 0x20 ∷ 0x20 ∷ 0x20 ∷ 0x20 ∷ 0x20 ∷ 0x20 ∷ 0x20 ∷ 0x20 ∷ []

abbrev pub mixed : List ℕ
mixed = 0x50 ∷ 0x75 ∷ 0x6c ∷ 0x73 ∷ 0x30 ∷ 0x31 ∷ 0x20 ∷ 0x20 ∷ 0x44 ∷ 0x61 ∷ 0x74 ∷ []

-- the sample disk, LEER's HIT byte lost
abbrev pub broken : List ℕ
broken = changed sample ((hits + 0x80, 0x00) ∷ [])

-- the sample disk, LEER a system file
abbrev pub flagged : List ℕ
flagged = changed sample ((e80, 0x50) ∷ [])

-- the sample disk, LEER with E; PULS01/DAT with F
abbrev pub fixed : List ℕ
fixed = changed sample ((e80 + 1, 0x49) ∷ [])

abbrev pub kept : List ℕ
kept = changed sample ((ea3 + 1, 0x89) ∷ [])

-- a call with a handle that gives this number and leaves the handle alone
abbrev pub answered : ℕ → Handle → Answer
answered number h = record { refusal = unplaced number; handle = h }

-- a geometry: blocks, units per block, directory start
abbrev pub disk : ℕ → ℕ → ℕ → Geometry
disk blocks units start = record { blocks = blocks; units = units; start = start; noPassword = 0; system = true; granule = 5 }

-- A crowded disk --------------------------------------------------------------------------------------------------------------

-- 17 blocks of 8 units
abbrev pub crowd : Geometry
crowd = record { blocks = 17; units = 8; start = 0; noPassword = 0; system = true; granule = 5 }

-- the same, stated as a data disk (02 §4)
abbrev pub crowd_of_data : Geometry
crowd_of_data = record { blocks = 17; units = 8; start = 0; noPassword = 0; system = false; granule = 5 }

-- the slot of entry i of a chain through all 32 permitted slots, row by row
abbrev slot_of : ℕ → ℕ
slot_of i = 32 * (4 + i / 8) + i % 8

-- its four pairs: granules 4i + 2 to 4i + 5, a run each
abbrev pairs_of : ℕ → List ℕ
pairs_of i = each (λ n. n / 8 ∷ 32 * (n % 8) ∷ []) (count (4 * i + 2) 4)

-- entry i: LEER's own, or an extension; the last one has no other behind it
abbrev entry_of : ℕ → List ℕ
entry_of i =
    cond (eqb i 0) (0x10 ∷ 0x00 ∷ 0x00 ∷ 0x00 ∷ 0x00 ∷ (leer ++ replicate 6 0)) (0x90 ∷ slot_of (i - 1) ∷ replicate 20 0)
    ++ (pairs_of i ++ cond (eqb i 31) (0xff ∷ 0xff ∷ []) (0xfe ∷ slot_of (i + 1) ∷ []))

-- LEER, with an entry in every permitted slot, owns granules 2 to 129, none of them in a run with another; 0, 1 and 130 are reserved, 131 to
-- 135 free
abbrev pub crowded : List ℕ
crowded =
    laid 0 (
    (0, replicate 16 0xff ++ (0x07 ∷ []))
    ∷ (hits + 0x80, replicate 8 0x70) ∷ (hits + 0xa0, replicate 8 0x70) ∷ (hits + 0xc0, replicate 8 0x70) ∷ (hits + 0xe0, replicate 8 0x70)
    ∷ map (λ s. (512 + 256 * s + 128, each (λ r. entry_of (8 * r + s)) (count 0 4))) (count 0 8)) 174080
