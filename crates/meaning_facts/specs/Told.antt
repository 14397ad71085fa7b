-- The listing, the counts and free space on whole disks; plain files.
use Rattle.std.specs.Prelude.{ℕ, ◌+◌, ◌≡◌, refl, true, List, [], ◌∷◌, ◌++◌, replicate}
use Rattle.meaning.specs.Refusal.{unplaced, placed}
use Rattle.meaning.specs.Listing.{list, counts, listing, no_file}
use Rattle.meaning.specs.FreeSpace.{free_space}
use Rattle.meaning.specs.Plain.{overwritten}
use Rattle.meaning.specs.Free.{reserved}
use Rattle.meaning_table.specs.Samples.{laid, changed, puls, leer, three, sample, e80, e81, opened}
use Rattle.meaning.specs.declared.Mode.TheVariants.{Sequential, Random}
use Rattle.meaning_facts.specs.Disks.{broken, flagged, disk}

-- Listing -----------------------------------------------------------------------------------------------------------------

list-first : list three sample 0 ≡ record { refusal = unplaced 0; more = true; name = leer; size = 1278; granules = 1 }
unfolding opened
list-first = refl

-- invisible ones are listed
list-second : list three sample 1 ≡ record { refusal = unplaced 0; more = true; name = puls; size = 257; granules = 7 }
unfolding opened
list-second = refl

no_more : list three sample 2 ≡ no_file (unplaced 0)
unfolding opened
no_more = refl

list-refused : list three broken 0 ≡ no_file (placed 22 0x80)
unfolding opened
list-refused = refl

counts-of-sample : counts three sample ≡ record { refusal = unplaced 0; files = 2; free = 2 }
unfolding opened
counts-of-sample = refl

-- "System files aren't listed or counted"
counts-of-flagged : counts three flagged ≡ record { refusal = unplaced 0; files = 1; free = 2 }
unfolding opened
counts-of-flagged = refl

counts-refused : counts three broken ≡ record { refusal = placed 22 0x80; files = 0; free = 0 }
unfolding opened
counts-refused = refl

-- free space: granules 7 and 9, which do not touch
space-of-sample : free_space three sample ≡ record { refusal = unplaced 0; free = 2; longest = 1 }
unfolding opened
space-of-sample = refl

-- a disk that is not consistent: block 2 is marked free, so granules 6 to 9 lie in a row, across blocks; the bits of no unit do not count
space-of-broken : free_space three (changed sample ((2, 0xf8) ∷ [])) ≡ record { refusal = unplaced 0; free = 4; longest = 4 }
unfolding opened
space-of-broken = refl

space-refused : free_space (disk 4 9 0) sample ≡ record { refusal = unplaced 1; free = 0; longest = 0 }
unfolding opened
space-refused = refl

-- the listing, whole: 16 blocks of 2 units, directory of 10 sectors at sector 80, granules 0, 16, 17 reserved, PULS01/DAT (257 bytes) and LEER
-- in the first two permitted slots
abbrev worked : List ℕ
worked =
    laid 0 (
    (20480, 0x03 ∷ replicate 7 0 ++ (0x03 ∷ []))
    ∷ (20480 + 0x180, 0xc1 ∷ 0x70 ∷ [])
    ∷ (20480 + e80, 0x10 ∷ 0x09 ∷ 0x3a ∷ 0x01 ∷ 0x00 ∷ (puls ++ (0 ∷ 0 ∷ 0 ∷ 0 ∷ 2 ∷ 0 ∷ 0x00 ∷ 0x20 ∷ replicate 8 0xff)))
    ∷ (20480 + e81, 0x10 ∷ 0x09 ∷ 0x3a ∷ 0x00 ∷ 0x00 ∷ (leer ++ (replicate 6 0 ++ replicate 10 0xff)))
    ∷ []) 40960

worked-listing : listing (disk 16 2 80) worked
    ≡ 0x46 ∷ 0x49 ∷ 0x4c ∷ 0x45 ∷ 0x53 ∷ 0x20 ∷ 0x32 ∷ 0x0a
    ∷ 0x50 ∷ 0x55 ∷ 0x4c ∷ 0x53 ∷ 0x30 ∷ 0x31 ∷ 0x2f ∷ 0x44 ∷ 0x41 ∷ 0x54 ∷ 0x20 ∷ 0x32 ∷ 0x35 ∷ 0x37 ∷ 0x20 ∷ 0x31 ∷ 0x0a
    ∷ 0x4c ∷ 0x45 ∷ 0x45 ∷ 0x52 ∷ 0x20 ∷ 0x30 ∷ 0x20 ∷ 0x30 ∷ 0x0a
    ∷ 0x46 ∷ 0x52 ∷ 0x45 ∷ 0x45 ∷ 0x20 ∷ 0x32 ∷ 0x38 ∷ 0x0a ∷ []
unfolding opened
worked-listing = refl

-- Plain files -------------------------------------------------------------------------------------------------------------

reserved-of-sample : reserved three sample ≡ 0 ∷ 1 ∷ []
unfolding opened
reserved-of-sample = refl

plain-shorter : overwritten Sequential (1 ∷ 2 ∷ 3 ∷ []) 1 (9 ∷ []) ≡ 1 ∷ 9 ∷ []
unfolding opened
plain-shorter = refl

plain-inside : overwritten Random (1 ∷ 2 ∷ 3 ∷ []) 1 (9 ∷ []) ≡ 1 ∷ 9 ∷ 3 ∷ []
unfolding opened
plain-inside = refl

plain-gap : overwritten Sequential (1 ∷ 2 ∷ 3 ∷ []) 5 (9 ∷ []) ≡ 1 ∷ 2 ∷ 3 ∷ 0 ∷ 0 ∷ 9 ∷ []
unfolding opened
plain-gap = refl
