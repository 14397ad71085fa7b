-- `Stays`: a good disk of the same length, with the same granules reserved.
use Rattle.std.specs.Prelude.{ℕ, ◌+◌, ◌≡◌, refl, Bool, true, false, List, [], ◌∷◌, ◌++◌, get_or}
use Rattle.std.proofs.Common.{ap}
use Rattle.meaning_table.specs.Samples.{hits, e81, opened}
use Rattle.promises.specs.Promises.{Stays}
use Rattle.promises_controls.specs.Disks.{six, base, but, differ, byte_of}

-- a byte longer
long : Stays six base (base ++ (0 ∷ [])) → ⊥
unfolding opened
long s = differ 7681 7680 refl s.long

fits : Stays six base (base ++ (0 ∷ [])) → ⊥
unfolding opened
fits s = differ 0 1 refl (ap byte_of s.good.fits)

-- LEER's HIT byte is lost
sound : Stays six base (but ((hits + 0x81, 0x00) ∷ [])) → ⊥
unfolding opened
sound s = differ 0 1 refl (ap byte_of s.good.sound)

-- no byte
bytes : Stays six base (but ((2560, 256) ∷ [])) → ⊥
unfolding opened
bytes s = differ 0 1 refl (ap byte_of s.good.bytes)

-- granule 4 was reserved, now 5 is: as many as before
reserved : Stays six base (but ((2, 0x02) ∷ [])) → ⊥
unfolding opened
reserved s = differ 5 4 refl (ap (λ (ns : List ℕ). get_or ns 2 0) s.reserved')

-- two files own granule 2
tally : Stays six base (but ((e81 + 0x17, 0x00) ∷ [])) → ⊥
unfolding opened
tally s = differ 7 6 refl s.tally
