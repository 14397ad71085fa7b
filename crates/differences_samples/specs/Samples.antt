-- Differences of small whole disks, computed. Each disk is of 12 granules, the directory at the front in granules 0 and 1.
use Rattle.std.specs.Prelude.{ℕ, ◌+◌, ◌≡◌, refl, true, false, List, [], ◌∷◌, ◌++◌, replicate}
use Rattle.meaning.specs.Refusal.{unplaced, placed, naming}
use Rattle.meaning_table.specs.Samples.{laid, changed, puls, leer, three, hits, e80, e81, gaps, filled, opened}
use Rattle.meaning.specs.declared.Geometry.{Geometry}
use Rattle.differences.specs.Compare.{before, put, rising, parting, unlike, difference, is_one, tell_first, names, merged, differences, compare, name_only}
use Rattle.differences.specs.Compare.{tells_none}

-- an entry: flags, date, end byte (the file is of one sector), name, and the pair of its granule
abbrev entry : ℕ → ℕ → ℕ → List ℕ → ℕ → ℕ → List ℕ
entry flags date end name block second =
    flags ∷ 0x09 ∷ date ∷ end ∷ 0x00 ∷ (name ++ (0x00 ∷ 0x00 ∷ 0x00 ∷ 0x00 ∷ 0x01 ∷ 0x00 ∷ block ∷ second ∷ replicate 8 0xff))

-- every granule is set in the GAT; LEER is the only file, in slot 80H, its bytes in that place
abbrev one : List ℕ → List ℕ → ℕ → List ℕ → List ℕ
one gat e at bytes = laid 0 ((0, gat) ∷ (hits + 0x80, 0x70 ∷ []) ∷ (e80, e) ∷ (at, bytes) ∷ []) 15360

abbrev full : List ℕ
full = 0x07 ∷ 0x07 ∷ 0x07 ∷ 0x07 ∷ []

-- three bytes in granule 2
abbrev abc : List ℕ
abc = one full (entry 0x10 0x3a 0x03 leer 0x00 0x40) 2560 (0x61 ∷ 0x62 ∷ 0x63 ∷ [])

-- the same in granule 3
abbrev moved : List ℕ
moved = one full (entry 0x10 0x3a 0x03 leer 0x01 0x00) 3840 (0x61 ∷ 0x62 ∷ 0x63 ∷ [])

-- the same on a disk of 6 blocks of 2 units
abbrev two : Geometry
two = record { blocks = 6; units = 2; start = 0; noPassword = 0x9999; system = true; granule = 5 }

abbrev halved : List ℕ
halved = one (replicate 6 0x03) (entry 0x10 0x3a 0x03 leer 0x01 0x00) 2560 (0x61 ∷ 0x62 ∷ 0x63 ∷ [])

-- its first two bytes; its last byte changed; another date; another flag; the system flag, and other bytes
abbrev ab : List ℕ
ab = one full (entry 0x10 0x3a 0x02 leer 0x00 0x40) 2560 (0x61 ∷ 0x62 ∷ 0x63 ∷ [])

abbrev abd : List ℕ
abd = one full (entry 0x10 0x3a 0x03 leer 0x00 0x40) 2560 (0x61 ∷ 0x62 ∷ 0x64 ∷ [])

abbrev later : List ℕ
later = one full (entry 0x10 0x3b 0x03 leer 0x00 0x40) 2560 (0x61 ∷ 0x62 ∷ 0x63 ∷ [])

abbrev hidden : List ℕ
hidden = one full (entry 0x18 0x3a 0x03 leer 0x00 0x40) 2560 (0x61 ∷ 0x62 ∷ 0x63 ∷ [])

abbrev kept : List ℕ
kept = one full (entry 0x50 0x3b 0x01 leer 0x00 0x40) 2560 (0x7a ∷ [])

-- PULS01/DAT in slot 80H, LEER in slot 81H: by slot they come the other way round
abbrev pair : List ℕ
pair =
    laid 0 ((0, full) ∷ (hits + 0x80, 0xc1 ∷ 0x70 ∷ []) ∷ (e80, entry 0x10 0x3a 0x03 puls 0x00 0x40)
    ∷ (e81, entry 0x10 0x3a 0x03 leer 0x01 0x00) ∷ (2560, 0x70 ∷ 0x71 ∷ 0x72 ∷ []) ∷ (3840, 0x61 ∷ 0x62 ∷ 0x63 ∷ []) ∷ []) 15360

-- no file; and a disk that is not consistent: its HIT byte of slot 80H stands for no entry
abbrev empty : List ℕ
empty = laid 0 ((0, full) ∷ []) 15360

abbrev bad : List ℕ
bad = laid 0 ((0, full) ∷ (hits + 0x80, 0x70 ∷ []) ∷ []) 15360

-- all definitions of `differences`, opened by one name
unfoldable seen : ℕ
unfolding opened before put rising parting unlike difference is_one tell_first names merged differences compare
seen = 0

-- Placement on disk is no difference: another granule, another geometry, five granules for none.
same-elsewhere : compare three abc three moved 0 ≡ tells_none (unplaced 0)
unfolding seen
same-elsewhere = refl

other-geometry : compare three abc two halved 0 ≡ tells_none (unplaced 0)
unfolding seen
other-geometry = refl

more-granules : compare three gaps three filled 0 ≡ tells_none (unplaced 0)
unfolding seen
more-granules = refl

-- the first byte position where contents part, or the smaller size if one is a beginning of the other
part-at-two : compare three abc three abd 0
    ≡ record { refusal = unplaced 0; kind = 3; name = leer; at = 2; contents = true; size = false; date = false; other = false }
unfolding seen
part-at-two = refl

beginning : compare three abc three ab 0
    ≡ record { refusal = unplaced 0; kind = 3; name = leer; at = 2; contents = true; size = true; date = false; other = false }
unfolding seen
beginning = refl

-- date and other attributes, contents alike: the position is their size
other-date : compare three abc three later 0
    ≡ record { refusal = unplaced 0; kind = 3; name = leer; at = 3; contents = false; size = false; date = true; other = false }
unfolding seen
other-date = refl

other-flag : compare three abc three hidden 0
    ≡ record { refusal = unplaced 0; kind = 3; name = leer; at = 3; contents = false; size = false; date = false; other = true }
unfolding seen
other-flag = refl

-- byte 01 is two things: its low five bits are the day, a part of the date; its high three are B (worked on), E and F, other attributes
abbrev worked_on : List ℕ
worked_on = changed abc ((e80 + 1, 0x29) ∷ [])

abbrev next_day : List ℕ
next_day = changed abc ((e80 + 1, 0x0a) ∷ [])

worked-on-is-no-date : compare three abc three worked_on 0
    ≡ record { refusal = unplaced 0; kind = 3; name = leer; at = 3; contents = false; size = false; date = false; other = true }
unfolding seen
worked-on-is-no-date = refl

day-is-a-date : compare three abc three next_day 0
    ≡ record { refusal = unplaced 0; kind = 3; name = leer; at = 3; contents = false; size = false; date = true; other = false }
unfolding seen
day-is-a-date = refl

both-in-one-byte : compare three worked_on three next_day 0
    ≡ record { refusal = unplaced 0; kind = 3; name = leer; at = 3; contents = false; size = false; date = true; other = true }
unfolding seen
both-in-one-byte = refl

-- A file that is a system file on either is compared by name only.
system-file : compare three abc three kept 0 ≡ tells_none (unplaced 0)
unfolding seen
system-file = refl

only-a-system-file : compare three kept three empty 0 ≡ name_only leer 1
unfolding seen
only-a-system-file = refl

-- by name, rising, not by slot; then "no more"
by-name : (compare three pair three empty 0 ≡ name_only leer 1) × (compare three pair three empty 1 ≡ name_only puls 1) ×
    (compare three pair three empty 2 ≡ tells_none (unplaced 0))
unfolding seen
by-name = (refl, refl, refl)

second-only : (compare three abc three pair 0 ≡ name_only puls 2) × (compare three abc three pair 1 ≡ tells_none (unplaced 0))
unfolding seen
second-only = (refl, refl)

-- Refusals name the image, the first's before the second's: 22, a HIT byte without an entry, and 1.
refused : (compare three bad three bad 0 ≡ tells_none (naming 1 (placed 22 0x80))) × (compare three abc three bad 0 ≡ tells_none (naming 2 (placed 22 0x80))) ×
    (compare three bad two abc 0 ≡ tells_none (naming 1 (placed 22 0x80)))
    × (compare three (0 ∷ []) three bad 0 ≡ tells_none (naming 1 (unplaced 1))) × (compare three abc three (0 ∷ []) 0 ≡ tells_none (naming 2 (unplaced 1)))
unfolding seen
refused = (refl, refl, refl, refl, refl)
