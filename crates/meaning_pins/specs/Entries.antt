-- An extension: what stood in its slot is gone; and what is wrong with a granule of its runs is told of its own slot.
use Rattle.std.specs.Prelude.{ℕ, ◌+◌, ◌≡◌, refl, List, [], ◌∷◌, replicate}
use Rattle.meaning.specs.Allot.{allot}
use Rattle.meaning.specs.Fault.{fault}
use Rattle.meaning.specs.Refusal.{unplaced, placed}
use Rattle.meaning.specs.declared.Refusal.{Refusal}
use Rattle.meaning_table.specs.Samples.{changed, written, held, leer, three, sample, gaps, filled, e81, opened}

-- "byte 00 is 90H, byte 01 the slot before it in the chain, 02 to 15 zero; a new one's unused pairs, marker and link are FFH": in a slot that
-- held a dead entry of odd bytes
over-a-dead-entry : allot three (written gaps e81 (0x45 ∷ replicate 31 0x55)) (held 0x80 leer 0 256 4) 24
    ≡ (record { refusal = unplaced 0; handle = held 0x80 leer 0 256 4 }, filled)
unfolding opened
over-a-dead-entry = refl

-- the fault of a disk like the sample, where slot 81H holds an extension of the file in A3H: granule 10 in one run
abbrev Told : List (ℕ × ℕ) → ℕ → ℕ → Type 0
Told cs number slot = ◌≡◌ {A = Refusal} (fault three (changed sample cs)) (placed number slot)

-- "A run's fault belongs to the entry that holds it": granule 10 is clear in the GAT
granule-clear : Told ((3, 0x04) ∷ []) 27 0x81
unfolding opened
granule-clear = refl

-- the run is granule 1, one of the directory's
directory-granule : Told ((e81 + 0x16, 0x00) ∷ (e81 + 0x17, 0x20) ∷ []) 30 0x81
unfolding opened
directory-granule = refl
