-- A run of 31 granules becomes one of 32, and the next granule is a new pair (01: 1 to 32 granules; the worked table's row 6).
use Rattle.std.specs.Prelude.{ℕ, ◌+◌, ◌≡◌, refl, true, List, [], ◌∷◌, ◌++◌, replicate}
use Rattle.meaning.specs.Allot.{allot}
use Rattle.meaning.specs.Refusal.{unplaced}
use Rattle.meaning.specs.declared.Geometry.{Geometry}
use Rattle.meaning_table.specs.Samples.{laid, changed, held, leer, hits, e80, opened}

-- 5 blocks of 7 units
abbrev seven : Geometry
seven = record { blocks = 5; units = 7; start = 0; noPassword = 0; system = true; granule = 5 }

-- LEER in slot 80H owns granules 2 to 32, and has no byte; 33 and 34, the last two, are free
abbrev long : List ℕ
long =
    laid 0 ((0, replicate 4 0x7f ++ (0x1f ∷ []))
    ∷ (hits + 0x80, 0x70 ∷ [])
    ∷ (e80, 0x10 ∷ 0x09 ∷ 0x3a ∷ 0x00 ∷ 0x00 ∷ (leer ++ (replicate 6 0 ++ (0x00 ∷ 0x5e ∷ replicate 8 0xff)))) ∷ []) 44800

-- 32 granules hold sector 155, 33 sector 160
up-to-32 : allot seven long (held 0x80 leer 0 256 0) 155
    ≡ (record { refusal = unplaced 0; handle = held 0x80 leer 0 256 0 }, changed long ((4, 0x3f) ∷ (e80 + 0x17, 0x5f) ∷ []))
unfolding opened
up-to-32 = refl

then-a-new-pair : allot seven long (held 0x80 leer 0 256 0) 160 ≡ (
  record { refusal = unplaced 0; handle = held 0x80 leer 0 256 0 },
  changed long ((4, 0x7f) ∷ (e80 + 0x17, 0x5f) ∷ (e80 + 0x18, 0x04) ∷ (e80 + 0x19, 0xc0) ∷ []),
)
unfolding opened
then-a-new-pair = refl
