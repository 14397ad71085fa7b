-- Write record and write bytes on whole disks, accepted and refused: the answer and the whole image.
use Rattle.std.specs.Prelude.{ℕ, ◌+◌, ◌≡◌, refl, List, [], ◌∷◌}
use Rattle.meaning.specs.Write.{write_record, write_bytes}
use Rattle.meaning_table.specs.Samples.{changed, held, leer, three, sample, e80, opened}
use Rattle.meaning.specs.declared.Mode.TheVariants.{Sequential, Random}
use Rattle.meaning_facts.specs.Disks.{flagged, fixed, answered}

-- "Sequential: size becomes position + length, even if smaller"; no granule is given back
write-shrinks : write_record three sample Sequential (held 0x80 leer 0 1 4) (0x7f ∷ 0x7e ∷ []) ≡ (
  answered 0 (held 0x80 leer 1 1 4),
  changed sample ((e80 + 1, 0x29) ∷ (e80 + 3, 0x01) ∷ (e80 + 0x14, 0x01) ∷ (10240, 0x7f) ∷ []),
)
unfolding opened
write-shrinks = refl

-- "Random: the larger of both"
write-inside : write_record three sample Random (held 0x80 leer 0 1 4) (0x7f ∷ 0x7e ∷ []) ≡ (
  answered 0 (held 0x80 leer 1 1 4),
  changed sample ((e80 + 1, 0x29) ∷ (10240, 0x7f) ∷ []),
)
unfolding opened
write-inside = refl

-- the disk after a record at 1,281: the run is longer by granule 9, bytes 1,278 to 1,280 are zero, the size is 1,282
abbrev longer : List ℕ
longer =
    changed sample ((3, 0x07) ∷ (e80 + 1, 0x29) ∷ (e80 + 3, 0x02) ∷ (e80 + 0x14, 0x06) ∷ (e80 + 0x17, 0x41)
    ∷ (11518, 0x00) ∷ (11519, 0x00) ∷ (11520, 0x00) ∷ (11521, 0x7f) ∷ [])

write-over-a-gap : write_record three sample Random (held 0x80 leer 1281 1 4) (0x7f ∷ []) ≡ (answered 0 (held 0x80 leer 1282 1 4), longer)
unfolding opened
write-over-a-gap = refl

write-on-over-a-gap : write_record three sample Sequential (held 0x80 leer 1281 1 4) (0x7f ∷ []) ≡ (answered 0 (held 0x80 leer 1282 1 4), longer)
unfolding opened
write-on-over-a-gap = refl

write-at-level-5 : write_record three sample Random (held 0x80 leer 0 1 5) (0x7f ∷ []) ≡ (answered 6 (held 0x80 leer 0 1 5), sample)
unfolding opened
write-at-level-5 = refl

write-to-system-file : write_record three flagged Random (held 0x80 leer 0 1 0) (0x7f ∷ []) ≡ (answered 6 (held 0x80 leer 0 1 0), flagged)
unfolding opened
write-to-system-file = refl

-- 11: E set and more granules needed than owned
write-fixed : write_record three fixed Random (held 0x80 leer 1280 1 0) (0x7f ∷ []) ≡ (answered 11 (held 0x80 leer 1280 1 0), fixed)
unfolding opened
write-fixed = refl

-- "position + length over 1,966,080 in a write"; up to there the disk is too small
write-highest : write_record three sample Random (held 0x80 leer 1966079 1 0) (0x7f ∷ []) ≡ (answered 9 (held 0x80 leer 1966079 1 0), sample)
unfolding opened
write-highest = refl

write-too-high : write_record three sample Random (held 0x80 leer 1966080 1 0) (0x7f ∷ []) ≡ (answered 12 (held 0x80 leer 1966080 1 0), sample)
unfolding opened
write-too-high = refl

-- Write bytes -------------------------------------------------------------------------------------------------------------

-- as many as the buffer holds, whatever the record length
write-bytes-inside : write_bytes three sample Random (held 0x80 leer 0 256 4) (0x7f ∷ 0x7e ∷ []) ≡ (
  answered 0 (held 0x80 leer 2 256 4),
  changed sample ((e80 + 1, 0x29) ∷ (10240, 0x7f) ∷ (10241, 0x7e) ∷ []),
)
unfolding opened
write-bytes-inside = refl

-- none, sequential: the size becomes the position, smaller or larger
write-none-cuts : write_bytes three sample Sequential (held 0x80 leer 0 1 4) [] ≡ (
  answered 0 (held 0x80 leer 0 1 4),
  changed sample ((e80 + 1, 0x29) ∷ (e80 + 3, 0x00) ∷ (e80 + 0x14, 0x00) ∷ []),
)
unfolding opened
write-none-cuts = refl

write-none-over-a-gap : write_bytes three sample Sequential (held 0x80 leer 1281 1 4) [] ≡ (
  answered 0 (held 0x80 leer 1281 1 4),
  changed sample ((3, 0x07) ∷ (e80 + 1, 0x29) ∷ (e80 + 3, 0x01) ∷ (e80 + 0x14, 0x06) ∷ (e80 + 0x17, 0x41)
      ∷ (11518, 0x00) ∷ (11519, 0x00) ∷ (11520, 0x00) ∷ []),
)
unfolding opened
write-none-over-a-gap = refl

-- none, random: B is set, and nothing is cut
write-none-inside : write_bytes three sample Random (held 0x80 leer 0 1 4) [] ≡ (answered 0 (held 0x80 leer 0 1 4), changed sample ((e80 + 1, 0x29) ∷ []))
unfolding opened
write-none-inside = refl

-- none at the highest position is in range, one is not
write-none-highest : write_bytes three sample Random (held 0x80 leer 1966080 1 0) [] ≡ (answered 9 (held 0x80 leer 1966080 1 0), sample)
unfolding opened
write-none-highest = refl

write-bytes-too-high : write_bytes three sample Random (held 0x80 leer 1966080 1 0) (0x7f ∷ []) ≡ (answered 12 (held 0x80 leer 1966080 1 0), sample)
unfolding opened
write-bytes-too-high = refl
