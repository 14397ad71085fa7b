-- Which entry a fault belongs to, where a walk passes and where it stops, and which of several faults is told (02 §2).
use Rattle.std.specs.Prelude.{ℕ, ◌+◌, ◌≡◌, refl, List, [], ◌∷◌}
use Rattle.meaning.specs.Fault.{fault}
use Rattle.meaning_table.specs.Samples.{changed, written, three, sample, filled, hits, e80, e81, e82, ea3, opened}
use Rattle.meaning.specs.Refusal.{placed}
use Rattle.meaning.specs.declared.Refusal.{Refusal}

-- the fault of a disk of this geometry, and its slot
abbrev Told : List ℕ → ℕ → ℕ → Type 0
Told d number slot = ◌≡◌ {A = Refusal} (fault three d) (placed number slot)

-- Walks ---------------------------------------------------------------------------------------------------------------------

-- PULS01/DAT with two extensions, the first in the higher slot: A3H leads to 82H, and 82H to 81H.
abbrev deep : List ℕ
deep =
    written (changed sample ((2, 0xa7) ∷ (3, 0x07) ∷ (hits + 0x82, 0xc1) ∷ (ea3 + 0x17, 0x00) ∷ (ea3 + 0x1b, 0x40) ∷ (ea3 + 0x1f, 0x82)
    ∷ (e82, 0x90) ∷ (e82 + 1, 0xa3) ∷ (e81 + 1, 0x82) ∷ (e81 + 0x17, 0x00) ∷ []))
    (e82 + 0x16) (0x03 ∷ 0x20 ∷ 0x02 ∷ 0x00 ∷ 0x01 ∷ 0x20 ∷ 0x02 ∷ 0x20 ∷ 0xfe ∷ 0x81 ∷ [])

three-entries : Told deep 0 256
unfolding opened
three-entries = refl

-- "A walk passes badly formed extensions": 81H, behind one, is met.
passes : Told (changed deep ((e82, 0x98) ∷ [])) 25 0x82
unfolding opened
passes = refl

-- ".. and stops at an entry with a bad marker, pairs or link": 81H, behind one, is met in no file's chain.
stops-at-marker : Told (changed deep ((e82 + 0x1e, 0x00) ∷ [])) 25 0x81
unfolding opened
stops-at-marker = refl

stops-at-pairs : Told (changed deep ((e82 + 0x1a, 0xff) ∷ [])) 25 0x81
unfolding opened
stops-at-pairs = refl

-- ".. and at a second meeting": 81H leads back to 82H, which is met twice; 81H is met once, from there.
abbrev round : List ℕ
round = written deep (e81 + 0x18) (0x01 ∷ 0x00 ∷ 0x00 ∷ 0x40 ∷ 0x01 ∷ 0x40 ∷ 0xfe ∷ 0x82 ∷ [])

met-twice : Told round 25 0x82
unfolding opened
met-twice = refl

-- "that one's hash isn't tested": met twice, badly formed (met in no file's chain: `Facts.unlinked` of meaning)
twice-hash : Told (changed round ((hits + 0x82, 0x70) ∷ [])) 25 0x82
unfolding opened
twice-hash = refl

badly-formed-hash : Told (changed sample ((e81, 0x98) ∷ (hits + 0x81, 0x70) ∷ [])) 25 0x81
unfolding opened
badly-formed-hash = refl

-- an extension's is, whose marker is bad
bad-marker-hash : Told (changed sample ((e81 + 0x1e, 0x00) ∷ (hits + 0x81, 0x70) ∷ [])) 22 0x81
unfolding opened
bad-marker-hash = refl

-- The file's hash is that of its name's bytes, as they stand: PULS@1/DAT is no name, and hashes to F9H.
bad-name-hash : Told (changed sample ((ea3 + 9, 0x40) ∷ (hits + 0xa3, 0xf9) ∷ [])) 22 0x81
unfolding opened
bad-name-hash = refl

bad-name : Told (changed sample ((ea3 + 9, 0x40) ∷ (hits + 0xa3, 0xf9) ∷ (hits + 0x81, 0xf9) ∷ [])) 23 0xa3
unfolding opened
bad-name = refl

-- Size ----------------------------------------------------------------------------------------------------------------------

-- LEER in slot 80H, with an extension in slot 81H, owns five granules, and has 26 sectors.
size-of-two : Told (changed filled ((e80 + 0x14, 26) ∷ [])) 29 0x80
unfolding opened
size-of-two = refl

-- ".. only where its chain is whole"
not-whole : Told (changed filled ((e80 + 0x14, 26) ∷ (e81, 0x98) ∷ [])) 25 0x81
unfolding opened
not-whole = refl

-- "granules counted as the pairs name them": the fifth is off the disk, and 25 sectors fit.
counted : Told (changed filled ((e80 + 0x14, 25) ∷ (e81 + 0x16, 0x04) ∷ (e81 + 0x17, 0x00) ∷ [])) 26 0x81
unfolding opened
counted = refl

-- Several faults ------------------------------------------------------------------------------------------------------------

-- "the lowest slot at fault": a granule shared with 80H in 81H, and a size in A3H
lowest-slot : Told (changed sample ((e80 + 0x16, 0x03) ∷ (e80 + 0x17, 0x20) ∷ (ea3 + 0x14, 90) ∷ [])) 28 0x81
unfolding opened
lowest-slot = refl

-- ".. and at that slot the first kind in this order" (22 before 23: `Facts.first_kind` of meaning)
name-then-chain : Told (changed sample ((e80, 0x30) ∷ (e80 + 0x1e, 0x00) ∷ [])) 23 0x80
unfolding opened
name-then-chain = refl

chain-then-run : Told (changed sample ((e80 + 0x1e, 0x00) ∷ (e80 + 0x16, 0x04) ∷ [])) 25 0x80
unfolding opened
chain-then-run = refl

gat-then-size : Told (changed sample ((2, 0xa1) ∷ (e80 + 0x14, 90) ∷ [])) 27 0x80
unfolding opened
gat-then-size = refl

shared-then-size : Told (changed sample ((ea3 + 0x18, 0x01) ∷ (ea3 + 0x19, 0x00) ∷ (ea3 + 0x14, 90) ∷ [])) 28 0xa3
unfolding opened
shared-then-size = refl

size-then-directory : Told (changed sample ((e80 + 0x16, 0x00) ∷ (e80 + 0x17, 0x20) ∷ (e80 + 0x14, 90) ∷ [])) 29 0x80
unfolding opened
size-then-directory = refl
