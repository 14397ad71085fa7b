-- The listing in one call, computed on a small disk.
use Rattle.std.specs.Prelude.{ℕ, ◌≡◌, refl, List, [], ◌∷◌, ◌++◌, replicate}
use Rattle.meaning.specs.Refusal.{unplaced, placed}
use Rattle.meaning_table.specs.Samples.{changed, puls, leer, three, sample, e80, opened}
use Rattle.list_rows.specs.Rows.{row, told_from, rows_from, list_from}
use Rattle.list_rows.specs.declared.Rows.{Rows}

-- the rows of the two files that are listed: LEER at slot 0x80, 1,278 bytes in one granule; PULS01/DAT at slot 0xa3, 257 bytes in seven
abbrev leer_row : List ℕ
leer_row = leer ++ (0x80 ∷ 0xfe ∷ 0x04 ∷ 0 ∷ 0 ∷ 1 ∷ 0 ∷ 0 ∷ 0 ∷ [])

abbrev puls_row : List ℕ
puls_row = puls ++ (0xa3 ∷ 0x01 ∷ 0x01 ∷ 0 ∷ 0 ∷ 7 ∷ 0 ∷ 0 ∷ 0 ∷ [])

abbrev told : ℕ → Rows
told n = record { refusal = unplaced 0; told = n }

-- both fit; the five bytes behind them stay as they stood
both-rows : list_from three sample 0 (replicate 45 7) ≡ (told 2, leer_row ++ (puls_row ++ replicate 5 7))
unfolding opened row told_from rows_from list_from
both-rows = refl

-- one whole row fits 39 bytes
one-row : list_from three sample 0 (replicate 39 7) ≡ (told 1, leer_row ++ replicate 19 7)
unfolding opened row told_from rows_from list_from
one-row = refl

from-the-second : list_from three sample 1 (replicate 20 7) ≡ (told 1, puls_row)
unfolding opened row told_from rows_from list_from
from-the-second = refl

-- "past the last file `told` is 0 and accepted"
past-the-last : list_from three sample 2 (replicate 20 7) ≡ (told 0, replicate 20 7)
unfolding opened row told_from rows_from list_from
past-the-last = refl

-- "a table under 20 bytes is 12, past the last file too"
too_short : list_from three sample 2 (replicate 19 7) ≡ (record { refusal = unplaced 12; told = 0 }, replicate 19 7)
unfolding opened row told_from rows_from list_from
too_short = refl

-- a fault goes before it: the HIT byte of slot 0x80 is 0
a-fault-first : list_from three (changed sample ((0x180, 0) ∷ [])) 0 [] ≡ (record { refusal = placed 22 0x80; told = 0 }, [])
unfolding opened row told_from rows_from list_from
a-fault-first = refl
