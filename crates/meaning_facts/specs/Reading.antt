-- Read record, read bytes and read sector on whole disks, accepted and refused.
use Rattle.std.specs.Prelude.{◌+◌, ◌≡◌, refl, [], ◌∷◌}
use Rattle.meaning.specs.Refusal.{unplaced}
use Rattle.meaning.specs.Read.{read_record, read_bytes, read_sector}
use Rattle.meaning_table.specs.Samples.{changed, held, puls, three, sample, ea3, opened}
use Rattle.meaning_facts.specs.Disks.{answered}

-- Read record -------------------------------------------------------------------------------------------------------------

read-to-the-end : read_record three sample (held 0xa3 puls 255 2 5) (1 ∷ 2 ∷ 3 ∷ []) ≡ (answered 0 (held 0xa3 puls 257 2 5), 0x43 ∷ 0x44 ∷ 3 ∷ [])
unfolding opened
read-to-the-end = refl

-- with n as the high part of the size there would be 513 bytes
read-past-the-size : read_record three sample (held 0xa3 puls 256 2 5) (1 ∷ 2 ∷ 3 ∷ []) ≡ (answered 10 (held 0xa3 puls 256 2 5), 1 ∷ 2 ∷ 3 ∷ [])
unfolding opened
read-past-the-size = refl

read-at-level-6 : read_record three sample (held 0xa3 puls 256 2 6) (1 ∷ 2 ∷ []) ≡ (answered 6 (held 0xa3 puls 256 2 6), 1 ∷ 2 ∷ [])
unfolding opened
read-at-level-6 = refl

-- stale: no slot, a killed entry, an extension, though the last two bear the name
read-by-no-slot : read_record three sample (held 0x28 puls 0 1 0) (1 ∷ []) ≡ (answered 7 (held 0x28 puls 0 1 0), 1 ∷ [])
unfolding opened
read-by-no-slot = refl

read-by-killed : read_record three sample (held 0x82 puls 0 1 0) (1 ∷ []) ≡ (answered 7 (held 0x82 puls 0 1 0), 1 ∷ [])
unfolding opened
read-by-killed = refl

read-by-extension : read_record three sample (held 0x81 puls 0 1 0) (1 ∷ []) ≡ (answered 7 (held 0x81 puls 0 1 0), 1 ∷ [])
unfolding opened
read-by-extension = refl

-- 12 comes before 7
read-into-short-buffer : read_record three sample (held 0x82 puls 0 2 0) (1 ∷ []) ≡ (answered 12 (held 0x82 puls 0 2 0), 1 ∷ [])
unfolding opened
read-into-short-buffer = refl

-- Read bytes --------------------------------------------------------------------------------------------------------------

-- as many as the buffer holds, whatever the record length
read-bytes-to-the-end : read_bytes three sample (held 0xa3 puls 255 256 5) (1 ∷ 2 ∷ []) ≡ (answered 0 (held 0xa3 puls 257 256 5), 0x43 ∷ 0x44 ∷ [])
unfolding opened
read-bytes-to-the-end = refl

read-bytes-past-the-size : read_bytes three sample (held 0xa3 puls 255 1 5) (1 ∷ 2 ∷ 3 ∷ []) ≡ (answered 10 (held 0xa3 puls 255 1 5), 1 ∷ 2 ∷ 3 ∷ [])
unfolding opened
read-bytes-past-the-size = refl

-- none, at the size and past it
read-none-at-the-size : read_bytes three sample (held 0xa3 puls 257 1 5) [] ≡ (answered 0 (held 0xa3 puls 257 1 5), [])
unfolding opened
read-none-at-the-size = refl

read-none-past-the-size : read_bytes three sample (held 0xa3 puls 258 1 5) [] ≡ (answered 10 (held 0xa3 puls 258 1 5), [])
unfolding opened
read-none-past-the-size = refl

-- the record length is not used, but tested
read-bytes-by-no-length : read_bytes three sample (held 0xa3 puls 0 0 5) (1 ∷ []) ≡ (answered 12 (held 0xa3 puls 0 0 5), 1 ∷ [])
unfolding opened
read-bytes-by-no-length = refl

-- Read sector -------------------------------------------------------------------------------------------------------------

read-last-sector : read_sector three sample (held 0xa3 puls 0 1 5) 1 ≡ record { refusal = unplaced 0; from = 4096; to = 4097 }
unfolding opened
read-last-sector = refl

-- with 2,817 bytes sector 10 is the first of the third granule owned, granule 2
read-third-granule : read_sector three (changed sample ((ea3 + 0x14, 12) ∷ [])) (held 0xa3 puls 0 1 5) 10 ≡ record
    { refusal = unplaced 0; from = 2560; to = 2816 }
unfolding opened
read-third-granule = refl

read-no-sector : read_sector three sample (held 0xa3 puls 0 1 5) 2 ≡ record { refusal = unplaced 10; from = 0; to = 0 }
unfolding opened
read-no-sector = refl

no-sector-number : read_sector three sample (held 0xa3 puls 0 1 5) 7680 ≡ record { refusal = unplaced 12; from = 0; to = 0 }
unfolding opened
no-sector-number = refl
