-- Bring back on whole disks, accepted and refused: the answer and the whole image. The two cases that a slip would break first: a file of two
-- entries comes back byte for byte, and each number is given in its own case.
use Rattle.std.specs.Prelude.{ℕ, ◌+◌, ◌≡◌, refl, List, [], ◌∷◌, ◌++◌, replicate}
use Rattle.meaning.specs.Refusal.{unplaced}
use Rattle.meaning.specs.Kill.{kill}
use Rattle.meaning.specs.BringBack.{bring_back}
use Rattle.meaning_table.specs.Samples.{changed, written, held, puls, leer, three, sample, gaps, hits, e80, e81, e82, ea3, opened}
use Rattle.meaning.specs.declared.BroughtBack.{BroughtBack}

-- the sample disk after the kill of PULS01/DAT, an entry and an extension, granules 3, 4, 2, 5, 6, 11 and 10
abbrev pub gone : List ℕ
gone = changed sample ((0, 0x03) ∷ (1, 0x00) ∷ (2, 0xa4) ∷ (3, 0x00) ∷ (hits + 0x81, 0x00) ∷ (hits + 0xa3, 0x00) ∷ (e81, 0x80) ∷ (ea3, 0x0d) ∷ [])

-- the same after NEU, whose hash is 32H, has been created in slot 81H, where the extension was
abbrev pub again : List ℕ
again =
    written (changed gone ((hits + 0x81, 0x32) ∷ [])) e81
    (0x10 ∷ 0x09 ∷ 0x3a ∷ 0x00 ∷ 0x00 ∷ 0x4e ∷ 0x45 ∷ 0x55 ∷ replicate 8 0x20 ++ (replicate 6 0x00 ++ replicate 10 0xff))

abbrev pub refused : ℕ → BroughtBack
refused number = record { refusal = unplaced number; slots = 0; granules = 0 }

abbrev pub back : ℕ → ℕ → BroughtBack
back slots granules = record { refusal = unplaced 0; slots = slots; granules = granules }

killed-so : (kill three sample (held 0xa3 puls 0 256 1)).1 ≡ gone
unfolding opened
killed-so = refl

-- Only bit 4 and the HIT bytes of its slots and its granules' GAT bits change: the very image before the kill.
two-entries : bring_back three gone 0xa3 ≡ (back 2 7, sample)
unfolding opened
two-entries = refl

-- a file without a granule
no-granule : bring_back three (changed gaps ((hits + 0x80, 0x00) ∷ (e80, 0x00) ∷ [])) 0x80 ≡ (back 1 0, gaps)
unfolding opened
no-granule = refl

-- its contents are what those granules hold now, and an entry written since comes back as it stands
written-since : bring_back three (changed gone ((3840, 0x77) ∷ (ea3 + 2, 0x11) ∷ [])) 0xa3 ≡ (back 2 7, changed sample ((3840, 0x77) ∷ (ea3 + 2, 0x11) ∷ []))
unfolding opened
written-since = refl

-- none of its slots written since: LEER has changed, in its entry and in its granule
others-since : bring_back three (changed gone ((10240, 0x77) ∷ (e80 + 2, 0x11) ∷ [])) 0xa3 ≡ (back 2 7, changed sample ((10240, 0x77) ∷ (e80 + 2, 0x11) ∷ []))
unfolding opened
others-since = refl

-- 12: a slot the directory lacks
no_slot : bring_back three gone 0x88 ≡ (refused 12, gone)
unfolding opened
no_slot = refl

-- 17: slot in use, an extension's too
in_use : bring_back three sample 0x81 ≡ (refused 17, sample)
unfolding opened
in_use = refl

-- 6: bit 6 set, even where byte 00 says extension and bit 5 is set too
system-flag : bring_back three (changed sample ((e82, 0xef) ∷ [])) 0x82 ≡ (refused 6, changed sample ((e82, 0xef) ∷ []))
unfolding opened
system-flag = refl

-- 18: an extension's slot
extension-slot : bring_back three gone 0x81 ≡ (refused 18, gone)
unfolding opened
extension-slot = refl

-- 18: bit 5 set
bit-five : bring_back three sample 0x82 ≡ (refused 18, sample)
unfolding opened
bit-five = refl

-- 18: the extension's slot has been taken again, by NEU: the link leads to an entry in use
link-taken : bring_back three again 0xa3 ≡ (refused 18, again)
unfolding opened
link-taken = refl

-- 18: the extension points back to another slot
back-link : bring_back three (changed gone ((e81 + 1, 0xa2) ∷ [])) 0xa3 ≡ (refused 18, changed gone ((e81 + 1, 0xa2) ∷ []))
unfolding opened
back-link = refl

-- 18: a granule twice, 3, though it is free
granule-twice : bring_back three (changed gone ((e81 + 0x16, 0x01) ∷ (e81 + 0x17, 0x00) ∷ [])) 0xa3
    ≡ (refused 18, changed gone ((e81 + 0x16, 0x01) ∷ (e81 + 0x17, 0x00) ∷ []))
unfolding opened
granule-twice = refl

-- 18 before 20: a run off the disk
off-the-disk : bring_back three (changed gone ((e81 + 0x17, 0x42) ∷ (1, 0x01) ∷ [])) 0xa3 ≡ (refused 18, changed gone ((e81 + 0x17, 0x42) ∷ (1, 0x01) ∷ []))
unfolding opened
off-the-disk = refl

-- 18: 36 sectors in 7 granules
too_large : bring_back three (changed gone ((ea3 + 0x14, 0x24) ∷ [])) 0xa3 ≡ (refused 18, changed gone ((ea3 + 0x14, 0x24) ∷ []))
unfolding opened
too_large = refl

-- 19 before 20: LEER is in use, and granule 3 is taken
name-in-use : bring_back three (written (changed gone ((1, 0x01) ∷ [])) (ea3 + 5) leer) 0xa3 ≡
    (refused 19, written (changed gone ((1, 0x01) ∷ [])) (ea3 + 5) leer)
unfolding opened
name-in-use = refl

-- 20: granule 10, the last, is taken
granule-taken : bring_back three (changed gone ((3, 0x02) ∷ [])) 0xa3 ≡ (refused 20, changed gone ((3, 0x02) ∷ []))
unfolding opened
granule-taken = refl

-- 20: a granule of the directory
directory-granule : bring_back three (changed gone ((e81 + 0x16, 0x00) ∷ (e81 + 0x17, 0x00) ∷ [])) 0xa3
    ≡ (refused 20, changed gone ((e81 + 0x16, 0x00) ∷ (e81 + 0x17, 0x00) ∷ []))
unfolding opened
directory-granule = refl
