-- What the worked table does not tell, of a file with an extension and of faults, computed on whole disks. The crate `facts` has more of the kind.
use Rattle.std.specs.Prelude.{ℕ, ◌+◌, ◌≡◌, refl, true, false, List, [], ◌∷◌, ◌++◌, replicate}
use Rattle.meaning.specs.Names.{fold, comes_in, no_place}
use Rattle.meaning.specs.LookUp.{look_up}
use Rattle.meaning.specs.Open.{open'}
use Rattle.meaning.specs.Create.{create}
use Rattle.meaning.specs.Allot.{allot}
use Rattle.meaning.specs.Kill.{kill}
use Rattle.meaning.specs.Refusal.{unplaced, placed}
use Rattle.meaning.specs.Refusals.{check}
use Rattle.meaning_table.specs.Samples.{changed, written, held, puls, small, leer, three, sample, gaps, filled, hits, e80, e81, e82, ea3, opened}
use Rattle.meaning.specs.declared.Refusal.{Refusal}

-- A run beyond the fourth starts an extension in the first permitted slot: the fifth pair does not reach marker and link.
fifth-run : allot three gaps (held 0x80 leer 0 256 4) 24 ≡ (record { refusal = unplaced 0; handle = held 0x80 leer 0 256 4 }, filled)
unfolding opened
fifth-run = refl

-- Kill: bit 4 of the entry and its extension, their HIT bytes and their GAT bits, nothing else.
both-entries : kill three sample (held 0xa3 puls 0 256 1) ≡ (
  record { refusal = unplaced 0; handle = held 0xa3 puls 0 256 1 },
  changed sample ((0, 0x03) ∷ (1, 0x00) ∷ (2, 0xa4) ∷ (3, 0x00) ∷ (hits + 0x81, 0x00) ∷ (hits + 0xa3, 0x00) ∷ (e81, 0x80) ∷ (ea3, 0x0d) ∷ []),
)
unfolding opened
both-entries = refl

-- What is inconsistent, and where (02 §2). The crate `faults` has a disk for each kind of fault.

-- the fault of a disk like the sample, and its slot
abbrev Told : List (ℕ × ℕ) → ℕ → ℕ → Type 0
Told cs number slot = ◌≡◌ {A = Refusal} (check three (changed sample cs)) (placed number slot)

-- For a pair of slots the higher one: LEER in slot 80H is called PULS01/DAT too.
higher-slot : Told ((hits + 0x80, 0xc1) ∷ (e80 + 5, 0x50) ∷ (e80 + 6, 0x55) ∷ (e80 + 7, 0x4c) ∷ (e80 + 8, 0x53) ∷ (e80 + 9, 0x30) ∷ (e80 + 10, 0x31)
    ∷ (e80 + 13, 0x44) ∷ (e80 + 14, 0x41) ∷ (e80 + 15, 0x54) ∷ []) 24 0xa3
unfolding opened
higher-slot = refl

-- At a slot the first kind in 02's order: a name that is not well formed, and a HIT byte that is another name's.
first_kind : Told ((e80 + 7, 0x40) ∷ []) 22 0x80
unfolding opened
first_kind = refl

-- A clear directory granule after the slots: granule 1 is clear, and the file in slot A3H has a size that does not fit.
slots-first : Told ((0, 0x05) ∷ (ea3 + 0x14, 90) ∷ []) 29 0xa3
unfolding opened
slots-first = refl

-- An extension met in no file's chain has not its hash tested.
unlinked : Told ((0, 0x07) ∷ (2, 0xa7) ∷ (hits + 0x82, 0x70) ∷ (e82, 0x90) ∷ (e82 + 1, 0x81) ∷ (e82 + 0x16, 0x02) ∷ (e82 + 0x17, 0x20)
    ∷ (e82 + 0x18, 0xff) ∷ (e82 + 0x1a, 0xff) ∷ (e82 + 0x1c, 0xff) ∷ (e82 + 0x1e, 0xff) ∷ []) 25 0x82
unfolding opened
unlinked = refl

-- Names in small letters (02 §7) ------------------------------------------------------------------------------------------------

-- 61H to 7DH are taken as 41H to 5DH: { | } fold too, and what stands before, behind and above them does not.
last-three-fold : fold (0x60 ∷ 0x61 ∷ 0x7a ∷ 0x7b ∷ 0x7c ∷ 0x7d ∷ 0x7e ∷ []) ≡ 0x60 ∷ 0x41 ∷ 0x5a ∷ 0x5b ∷ 0x5c ∷ 0x5d ∷ 0x7e ∷ []
unfolding opened
last-three-fold = refl

top-bit-stays : fold (0x20 ∷ 0x39 ∷ 0x41 ∷ 0xe1 ∷ 0xfd ∷ []) ≡ 0x20 ∷ 0x39 ∷ 0x41 ∷ 0xe1 ∷ 0xfd ∷ []
unfolding opened
top-bit-stays = refl

-- the place of the first bad byte of a name that comes in
abbrev At : List ℕ → ℕ → Type 0
At n p = (comes_in n).place ≡ p

-- name and type may each end in blanks; the type begins anew
no-bad-byte : At small no_place × At leer no_place
unfolding opened
no-bad-byte = (refl, refl)

-- A B________ and PULS01__D T: a non-blank after a blank, in the name and in the type
after-a-blank : At (0x41 ∷ 0x20 ∷ 0x42 ∷ replicate 8 0x20) 2 × At (0x50 ∷ 0x55 ∷ 0x4c ∷ 0x53 ∷ 0x30 ∷ 0x31 ∷ 0x20 ∷ 0x20 ∷ 0x44 ∷ 0x20 ∷ 0x54 ∷ []) 10
unfolding opened
after-a-blank = (refl, refl)

-- of two bad bytes the first, be it in the name or in the type
first-of-two : At (0x41 ∷ 0x2f ∷ 0x20 ∷ 0x42 ∷ 0x20 ∷ 0x20 ∷ 0x20 ∷ 0x20 ∷ 0x2e ∷ 0x20 ∷ 0x20 ∷ []) 1
unfolding opened
first-of-two = refl

-- the handle has the folded name, and the entry
handle-folded : open' three sample small 256 true 0x1234 ≡ record { refusal = unplaced 0; handle = held 0xa3 puls 0 256 0 }
unfolding opened
handle-folded = refl

entry-folded : create three gaps small (record { day = 9; month = 10; year = 3; len = 256; main = 0x1234; worker = 0x5678 }) true ≡ (
  record { refusal = unplaced 0; old = false; handle = held 0x81 puls 0 256 0 },
  changed (written gaps e81 (0x10 ∷ 0x09 ∷ 0x3a ∷ 0x00 ∷ 0x00 ∷ (puls ++ (0x34 ∷ 0x12 ∷ 0x78 ∷ 0x56 ∷ 0x00 ∷ 0x00 ∷ replicate 10 0xff))))
      ((hits + 0x81, 0xc1) ∷ []),
)
unfolding opened
entry-folded = refl

-- 3 carries the place: a/dat
place-told : look_up three sample (0x61 ∷ 0x2f ∷ 0x64 ∷ 0x61 ∷ 0x74 ∷ replicate 6 0x20) ≡ record { refusal = placed 3 1; slot = 0; compared = 0 }
unfolding opened
place-told = refl

-- "A small letter in an entry on disk is still inconsistent": LEER's first letter, with the HIT byte of the name as it then stands
small-on-disk : Told ((e80 + 5, 0x6c) ∷ (hits + 0x80, 0x71) ∷ []) 23 0x80
unfolding opened
small-on-disk = refl
