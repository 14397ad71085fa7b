-- Allot, trim and kill on whole disks, accepted and refused: the answer and the whole image. (A fifth run, and the kill of a chain, stand beside
-- the definitions.)
use Rattle.std.specs.Prelude.{◌+◌, ◌≡◌, refl, [], ◌∷◌, replicate}
use Rattle.meaning.specs.Layout.{hit}
use Rattle.meaning.specs.Names.{hash}
use Rattle.meaning.specs.Allot.{allot}
use Rattle.meaning.specs.Trim.{trim}
use Rattle.meaning.specs.Kill.{kill}
use Rattle.meaning_table.specs.Samples.{changed, written, held, puls, leer, three, sample, gaps, filled, hits, e80, e81, ea3, opened}
use Rattle.meaning_facts.specs.Disks.{fixed, kept, answered, crowd, crowd_of_data, crowded}

-- Allot -------------------------------------------------------------------------------------------------------------------

-- two granules more: 9, just after the last run; then 7, the lowest free one, as a new run
allot-two : allot three sample (held 0x80 leer 0 1 4) 10 ≡ (
  answered 0 (held 0x80 leer 0 1 4),
  changed sample ((2, 0xa7) ∷ (3, 0x07) ∷ (e80 + 0x17, 0x41) ∷ (e80 + 0x18, 0x02) ∷ (e80 + 0x19, 0x20) ∷ []),
)
unfolding opened
allot-two = refl

-- the last run is that of the extension
allot-in-extension : allot three sample (held 0xa3 puls 0 1 4) 35 ≡ (
  answered 0 (held 0xa3 puls 0 1 4),
  changed sample ((2, 0xa7) ∷ (e81 + 0x18, 0x02) ∷ (e81 + 0x19, 0x20) ∷ []),
)
unfolding opened
allot-in-extension = refl

-- "none if they are already"
allot-none : allot three sample (held 0xa3 puls 0 1 4) 34 ≡ (answered 0 (held 0xa3 puls 0 1 4), sample)
unfolding opened
allot-none = refl

allot-fixed : allot three fixed (held 0x80 leer 0 1 4) 5 ≡ (answered 11 (held 0x80 leer 0 1 4), fixed)
unfolding opened
allot-fixed = refl

-- 9: three granules needed, two free
allot-too-many : allot three sample (held 0x80 leer 0 1 4) 15 ≡ (answered 9 (held 0x80 leer 0 1 4), sample)
unfolding opened
allot-too-many = refl

-- 8: five granules are free, but the first of them needs an extension, and no permitted slot is free
allot-without-slot : allot crowd crowded (held 0x80 leer 0 1 4) 640 ≡ (answered 8 (held 0x80 leer 0 1 4), crowded)
unfolding opened
allot-without-slot = refl

-- stated as a data disk (02 §4), the extension goes to slot 02H
allot-on-a-data-disk : (allot crowd_of_data crowded (held 0x80 leer 0 1 4) 640).0 ≡ answered 0 (held 0x80 leer 0 1 4)
unfolding opened
allot-on-a-data-disk = refl

extension-of-a-data-disk : hit crowd_of_data (allot crowd_of_data crowded (held 0x80 leer 0 1 4) 640).1 0x02 ≡ hash leer
unfolding opened
extension-of-a-data-disk = refl

-- Trim --------------------------------------------------------------------------------------------------------------------

-- PULS01/DAT keeps granule 3 of its seven; the extension is emptied
trim-through-extension : trim three sample (held 0xa3 puls 0 1 4) ≡ (
  answered 0 (held 0xa3 puls 0 1 4),
  changed sample ((0, 0x03) ∷ (1, 0x01) ∷ (2, 0xa4) ∷ (3, 0x00) ∷ (hits + 0x81, 0x00)
      ∷ (e81, 0x80) ∷ (e81 + 0x16, 0xff) ∷ (e81 + 0x17, 0xff) ∷ (e81 + 0x1f, 0xff)
      ∷ (ea3 + 0x17, 0x00) ∷ (ea3 + 0x18, 0xff) ∷ (ea3 + 0x19, 0xff) ∷ (ea3 + 0x1a, 0xff) ∷ (ea3 + 0x1b, 0xff) ∷ (ea3 + 0x1c, 0xff) ∷ (ea3 + 0x1d, 0xff)
      ∷ (ea3 + 0x1e, 0xff) ∷ (ea3 + 0x1f, 0xff) ∷ []),
)
unfolding opened
trim-through-extension = refl

-- a file without bytes gives everything back; of the extension the dead entry stays
trim-to-nothing : trim three filled (held 0x80 leer 0 1 4) ≡ (
  answered 0 (held 0x80 leer 0 1 4),
  written (changed gaps ((e81, 0x80) ∷ (e81 + 1, 0x80) ∷ [])) (e81 + 0x16) (replicate 10 0xff),
)
unfolding opened
trim-to-nothing = refl

-- "With F set nothing changes."
trim-keeping-space : trim three kept (held 0xa3 puls 0 1 4) ≡ (answered 0 (held 0xa3 puls 0 1 4), kept)
unfolding opened
trim-keeping-space = refl

-- nothing to drop: odd bytes behind FFH stay
trim-nothing : trim three sample (held 0x80 leer 0 1 4) ≡ (answered 0 (held 0x80 leer 0 1 4), sample)
unfolding opened
trim-nothing = refl

trim-at-level-5 : trim three sample (held 0xa3 puls 0 1 5) ≡ (answered 6 (held 0xa3 puls 0 1 5), sample)
unfolding opened
trim-at-level-5 = refl

-- Kill --------------------------------------------------------------------------------------------------------------------

kill-at-level-2 : kill three sample (held 0xa3 puls 0 256 2) ≡ (answered 6 (held 0xa3 puls 0 256 2), sample)
unfolding opened
kill-at-level-2 = refl

-- killing by a stale handle: the slot's present file would go
kill-by-stale : kill three sample (held 0x80 puls 0 256 0) ≡ (answered 7 (held 0x80 puls 0 256 0), sample)
unfolding opened
kill-by-stale = refl

-- position, length and level are tested though kill uses the level alone
kill-out-of-range : kill three sample (held 0x80 leer 1966081 256 0) ≡ (answered 12 (held 0x80 leer 1966081 256 0), sample)
unfolding opened
kill-out-of-range = refl
