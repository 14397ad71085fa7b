-- `Lists`: `shown` and `rising`. They speak of the disk and its list of slots alone, no answer among it, and hold of every image by what `listed` is: so no
-- disk and no answer breaks them. What they say of the list is `ShownInOrder`, which refuses other lists.
use Rattle.std.specs.Prelude.{ℕ, ◌<◌, not, List, [], ◌∷◌, T, length, get_or}
use Rattle.std.proofs.Common.{arith}
use Rattle.meaning.specs.Listing.{listed}
use Rattle.meaning.specs.Plain.{file_at, is_system}
use Rattle.meaning.specs.declared.Geometry.{Geometry}
use Rattle.meaning.specs.declared.Listed.{Listed}
use Rattle.meaning_table.specs.Samples.{opened, e81}
use Rattle.promises.specs.Promises.{Lists}
use Rattle.promises_controls.specs.Disks.{six, base, but}

-- no system file is in it, and its slots rise
pub record ShownInOrder (g : Geometry) (d ps : List ℕ) : Type 0 where
  pub shown : (i : ℕ) → i < length ps → T (not (is_system (file_at g d (get_or ps i 0))))
  pub rising : (j i : ℕ) → j < i → i < length ps → get_or ps j 0 < get_or ps i 0

-- what is promised of every number says it of the list
pub in_order : (g : Geometry) (d : List ℕ) → ((i : ℕ) → i < length (listed g d) → (r : Listed) × Lists g d i r) → ShownInOrder g d (listed g d)
in_order g d t = record { shown = λ i l. (t i l).1.shown l; rising = λ j i a l. (t i l).1.rising j a l }

-- LEER as a system file, and in the list
system-file-listed : ShownInOrder six (but ((e81, 0x55) ∷ [])) (0x80 ∷ 0x81 ∷ []) → ⊥
unfolding opened
system-file-listed r = r.shown 1 (omega arith)

-- LEER before PULS01/DAT
falling : ShownInOrder six base (0x81 ∷ 0x80 ∷ []) → ⊥
falling r = omega (arith, r.rising 0 1 (omega arith) (omega arith))
