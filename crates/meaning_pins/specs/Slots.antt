-- Slots of a directory of more than ten sectors (01): there s runs beyond 7, and of rows 0 to 3 the slots with s 8 and above are permitted on a
-- system disk too. A file in slot 08H is made, found, read and killed.
use Rattle.std.specs.Prelude.{ℕ, ◌+◌, ◌*◌, ◌≡◌, refl, true, false, cond, List, [], ◌∷◌, ◌++◌, ltb, replicate}
use Rattle.meaning.specs.Lists.{count, each}
use Rattle.meaning.specs.Refusal.{unplaced}
use Rattle.meaning.specs.Free.{free_slots}
use Rattle.meaning.specs.LookUp.{look_up}
use Rattle.meaning.specs.Create.{create}
use Rattle.meaning.specs.Read.{read_record}
use Rattle.meaning.specs.Kill.{kill}
use Rattle.meaning.specs.declared.Geometry.{Geometry}
use Rattle.meaning_table.specs.Samples.{laid, changed, held, leer, three, hits, opened}

-- where the entry of slot 08H is: row 0, sector 8 + 2
abbrev e08 : ℕ
e08 = 2560

-- no file; a directory of 15 sectors, in granules 0 to 2
abbrev fifteen : List ℕ
fifteen = laid 0 ((0, 0x07 ∷ []) ∷ (hits + 0x1f, 5 ∷ []) ∷ []) 15360

-- the same with LEER in slot 08H: two bytes, in granule 3
abbrev in_eight : List ℕ
in_eight =
    laid 0 ((0, 0x07 ∷ 0x01 ∷ []) ∷ (hits + 0x08, 0x70 ∷ []) ∷ (hits + 0x1f, 5 ∷ [])
    ∷ (e08, 0x10 ∷ 0x09 ∷ 0x3a ∷ 0x02 ∷ 0x00 ∷ (leer ++ (replicate 4 0 ++ (0x01 ∷ 0x00 ∷ 0x01 ∷ 0x00 ∷ replicate 8 0xff))))
    ∷ (3840, 0x61 ∷ 0x62 ∷ []) ∷ []) 15360

-- "On a system disk rows 0 to 3 with s 0 to 7 are kept": of 15 sectors s runs from 0 to 12, of 30 from 0 to 27
abbrev permitted_of : ℕ → List ℕ
permitted_of last = each (λ r. cond (ltb r 4) (count (32 * r + 8) (last + 1)) (count (32 * r) (last + 9))) (count 0 8)

slots-of-fifteen : free_slots three fifteen ≡ permitted_of 4
unfolding opened
slots-of-fifteen = refl

slots-of-thirty : free_slots three (changed fifteen ((hits + 0x1f, 20) ∷ [])) ≡ permitted_of 19
unfolding opened
slots-of-thirty = refl

-- the first permitted slot is 08H
create-in-eight : create three fifteen leer (record { day = 9; month = 10; year = 3; len = 256; main = 0; worker = 0 }) true ≡ (
  record { refusal = unplaced 0; old = false; handle = held 0x08 leer 0 256 0 },
  laid 0 ((0, 0x07 ∷ []) ∷ (hits + 0x08, 0x70 ∷ []) ∷ (hits + 0x1f, 5 ∷ [])
      ∷ (e08, 0x10 ∷ 0x09 ∷ 0x3a ∷ 0x00 ∷ 0x00 ∷ (leer ++ (replicate 6 0 ++ replicate 10 0xff))) ∷ []) 15360,
)
unfolding opened
create-in-eight = refl

found-in-eight : look_up three in_eight leer ≡ record { refusal = unplaced 0; slot = 0x08; compared = 1 }
unfolding opened
found-in-eight = refl

read-in-eight : read_record three in_eight (held 0x08 leer 0 2 0) (0x00 ∷ 0x00 ∷ 0x33 ∷ [])
    ≡ (record { refusal = unplaced 0; handle = held 0x08 leer 2 2 0 }, 0x61 ∷ 0x62 ∷ 0x33 ∷ [])
unfolding opened
read-in-eight = refl

kill-in-eight : kill three in_eight (held 0x08 leer 0 256 0)
    ≡ (record { refusal = unplaced 0; handle = held 0x08 leer 0 256 0 }, changed in_eight ((1, 0x00) ∷ (hits + 0x08, 0x00) ∷ (e08, 0x00) ∷ []))
unfolding opened
kill-in-eight = refl
