-- A consistent disk (01), and the same disk with one fault for each sentence, judged inconsistent; which kind of fault it is, and of which
-- slot (02 §2). Wherever 01 allows it a fault breaks its
-- own sentence and no other, so that a definition without that sentence would let it pass.
use Rattle.std.specs.Prelude.{ℕ, ◌+◌, ◌≡◌, refl, true, List, [], ◌∷◌}
use Rattle.meaning.specs.Fault.{fault}
use Rattle.meaning_table.specs.Samples.{laid, changed, three, sample, hits, e80, e81, ea3, opened}
use Rattle.meaning.specs.declared.Geometry.{Geometry}
use Rattle.meaning.specs.Refusal.{placed}
use Rattle.meaning.specs.declared.Refusal.{Refusal}

-- the fault of a disk, and its slot. Where the geometry fits, this number is the check's answer (`laws: Passed.check-number`).
abbrev Judged : Geometry → List ℕ → ℕ → ℕ → Type 0
Judged g d number slot = ◌≡◌ {A = Refusal} (fault g d) (placed number slot)

-- the sample disk with these bytes in these places is consistent; is not
abbrev Good : List (ℕ × ℕ) → Type 0
Good cs = Judged three (changed sample cs) 0 256

abbrev Bad : ℕ → ℕ → List (ℕ × ℕ) → Type 0
Bad number slot cs = Judged three (changed sample cs) number slot

consistent-sample : Good []
unfolding opened
consistent-sample = refl

-- "The 1FH byte is allowed" ..
length-not-allowed : Bad 21 256 ((hits + 0x1f, 1) ∷ (hits + 0x28, 0) ∷ [])
unfolding opened
length-not-allowed = refl

-- .. "and the directory fits the image": 4 granules hold a directory of 20 sectors, and none of 25.
abbrev whole : ℕ → List ℕ
whole above = laid 0 ((0, 0x0f ∷ 0x01 ∷ []) ∷ (hits + 0x1f, above ∷ []) ∷ []) 5120

abbrev four : Geometry
four = record { blocks = 1; units = 4; start = 0; noPassword = 0; system = true; granule = 5 }

directory-fits : Judged four (whole 10) 0 256
unfolding opened
directory-fits = refl

directory-too-long : Judged four (whole 15) 21 256
unfolding opened
directory-too-long = refl

-- "A slot's HIT byte is nonzero exactly if its entry is in use."
hit-of-no-entry : Bad 22 0x82 ((hits + 0x82, 0x70) ∷ [])
unfolding opened
hit-of-no-entry = refl

entry-without-hit : Bad 22 0x80 ((hits + 0x80, 0x00) ∷ [])
unfolding opened
entry-without-hit = refl

-- "Names of in-use primary entries are well formed": a blank inside, a byte that is not allowed, no name before the type (HIT bytes to fit)
blank-inside : Bad 23 0x80 ((e80 + 7, 0x20) ∷ (hits + 0x80, 0xba) ∷ [])
unfolding opened
blank-inside = refl

byte-not-allowed : Bad 23 0x80 ((e80 + 7, 0x40) ∷ (hits + 0x80, 0x7a) ∷ [])
unfolding opened
byte-not-allowed = refl

no_name : Bad 23 0x80 ((e80 + 5, 0x20) ∷ (e80 + 6, 0x20) ∷ (e80 + 7, 0x20) ∷ (e80 + 8, 0x20) ∷ (e80 + 13, 0x44) ∷ (e80 + 14, 0x41) ∷ (e80 + 15, 0x54) ∷ [])
unfolding opened
no_name = refl

-- "and differ"
names-alike : Bad 24 0xa3 ((hits + 0x80, 0xc1) ∷ (e80 + 5, 0x50) ∷ (e80 + 6, 0x55) ∷ (e80 + 7, 0x4c) ∷ (e80 + 8, 0x53) ∷ (e80 + 9, 0x30) ∷ (e80 + 10, 0x31)
    ∷ (e80 + 13, 0x44) ∷ (e80 + 14, 0x41) ∷ (e80 + 15, 0x54) ∷ [])
unfolding opened
names-alike = refl

-- "bit 5 is zero"
bit-five : Bad 23 0x80 ((e80, 0x30) ∷ [])
unfolding opened
bit-five = refl

-- "HIT bytes equal the hashes." An extension's HIT byte is its file's hash.
other-hash : Bad 22 0x80 ((hits + 0x80, 0xc1) ∷ [])
unfolding opened
other-hash = refl

other-hash-of-extension : Bad 22 0x81 ((hits + 0x81, 0x70) ∷ [])
unfolding opened
other-hash-of-extension = refl

-- "Each in-use extension belongs to exactly one file's chain": one more in slot 82H, as it should be, but that no entry leads to it
belongs-to-none : Bad 25 0x82 ((0, 0x07) ∷ (2, 0xa7) ∷ (hits + 0x82, 0xc1) ∷ (1152, 0x90) ∷ (1153, 0x81) ∷ (1174, 0x02) ∷ (1175, 0x20)
    ∷ (1176, 0xff) ∷ (1178, 0xff) ∷ (1180, 0xff) ∷ (1182, 0xff) ∷ [])
unfolding opened
belongs-to-none = refl

-- "has byte 00 equal to 90H"
not-90H : Bad 25 0x81 ((e81, 0x98) ∷ [])
unfolding opened
not-90H = refl

-- "points back correctly"
points-elsewhere : Bad 25 0x81 ((e81 + 1, 0x80) ∷ [])
unfolding opened
points-elsewhere = refl

-- "and has at least one run."
no_run : Bad 25 0x81 ((e81 + 0x16, 0xff) ∷ [])
unfolding opened
no_run = refl

-- "Each FEH link leads to such an extension": to place 28H, which is no slot, though an extension as it should be stands there
leads-to-no-slot : Bad 25 0xa3 ((hits + 0x81, 0x00) ∷ (e81, 0x80) ∷ (ea3 + 0x1f, 0x28) ∷ (hits + 0x28, 0xc1) ∷ (2592, 0x90) ∷ (2593, 0xa3)
    ∷ (2614, 0x03) ∷ (2615, 0x20) ∷ (2616, 0xff) ∷ (2618, 0xff) ∷ (2620, 0xff) ∷ (2622, 0xff) ∷ [])
unfolding opened
leads-to-no-slot = refl

-- "Each entry before the last of a chain has four runs"
three-runs : Bad 25 0x81 ((ea3 + 0x1c, 0xff) ∷ [])
unfolding opened
three-runs = refl

-- "markers are FEH or FFH"
other-marker : Bad 25 0x80 ((e80 + 0x1e, 0x00) ∷ [])
unfolding opened
other-marker = refl

-- "After an FFH block every later pair of that entry starts with FFH."
run-after-the-end : Bad 25 0x80 ((e80 + 0x1c, 0x02) ∷ [])
unfolding opened
run-after-the-end = refl

-- "Runs lie on the disk": granule 12 is the first behind it; its GAT bit, which is not read, is set
run-off-the-disk : Bad 26 0x80 ((e80 + 0x16, 0x04) ∷ (e80 + 0x17, 0x00) ∷ [])
unfolding opened
run-off-the-disk = refl

run-ends-off-the-disk : Bad 26 0xa3 ((ea3 + 0x1d, 0x41) ∷ [])
unfolding opened
run-ends-off-the-disk = refl

-- "their first unit is below units per block": unit 5 of block 1 would be granule 8 as well
unit-too-high : Bad 26 0x80 ((e80 + 0x16, 0x01) ∷ (e80 + 0x17, 0xa0) ∷ [])
unfolding opened
unit-too-high = refl

-- "their GAT bits are set"
granule-not-taken : Bad 27 0x80 ((2, 0xa1) ∷ [])
unfolding opened
granule-not-taken = refl

-- "and no granule is in two runs": of two files, of one
granule-of-two-files : Bad 28 0x81 ((e80 + 0x16, 0x03) ∷ (e80 + 0x17, 0x20) ∷ [])
unfolding opened
granule-of-two-files = refl

granule-twice : Bad 28 0xa3 ((ea3 + 0x18, 0x01) ∷ (ea3 + 0x19, 0x00) ∷ [])
unfolding opened
granule-twice = refl

-- "n = 0 only with e = 0"
end-without-sectors : Bad 29 0x80 ((e80 + 0x14, 0) ∷ (e80 + 3, 5) ∷ [])
unfolding opened
end-without-sectors = refl

-- "the size fits the granules owned": 1,280 bytes fit one granule, 1,281 do not
size_fits : Good ((e80 + 0x14, 5) ∷ (e80 + 3, 0) ∷ [])
unfolding opened
size_fits = refl

size-too-large : Bad 29 0x80 ((e80 + 0x14, 6) ∷ (e80 + 3, 1) ∷ [])
unfolding opened
size-too-large = refl

-- "Directory granules are set in the GAT"
directory-not-taken : Bad 30 256 ((0, 0x05) ∷ [])
unfolding opened
directory-not-taken = refl

-- "and in no run of a file without the system flag": granule 1 as LEER's run; with the flag it may be
directory-owned : Bad 30 0x80 ((e80 + 0x16, 0x00) ∷ (e80 + 0x17, 0x20) ∷ [])
unfolding opened
directory-owned = refl

directory-owned-by-system : Good ((e80, 0x50) ∷ (e80 + 0x16, 0x00) ∷ (e80 + 0x17, 0x20) ∷ [])
unfolding opened
directory-owned-by-system = refl
