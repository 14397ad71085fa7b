-- A load file read whole and cut (02 §12: "The union of records equals reading the file whole and cutting it").
use Rattle.std.specs.Prelude.{ℕ, zero, suc, ◌+◌, ◌-◌, ◌*◌, not, cond, List, [], ◌∷◌, ltb, eqb, length, get_or, take, drop}
use Rattle.load.specs.Records.{data_code, start_code, is_code, data_bytes, follows, bad_count, unknown_code, file_ends, wrong_count}

-- "one record at a time with address and bytes"
pub record Record : Type 0 where
  pub address : ℕ
  pub bytes : List ℕ

-- how a load file ends: by a start address, or by a number with its byte position
pub data End : Type 0 where
  starts : (address : ℕ) → End
  breaks : (number position : ℕ) → End

-- the records of a load file, and its end
pub record Pieces : Type 0 where
  pub records : List Record
  pub end : End

abbrev pub ending : End → Pieces
ending e = record { records = []; end = e }

unfoldable pub onto : Record → Pieces → Pieces
onto r c = record { records = r ∷ c.records; end = c.end }

-- two bytes, low byte first
abbrev pub two : List ℕ → ℕ
two xs = get_or xs 0 0 + 256 * get_or xs 1 0

-- A record's or comment's code and count are cut off; `xs` is what is left of the file, from place i on. `more` cuts the rest.
module _ (more : ℕ → List ℕ → Pieces) where
  unfoldable pub cut_whole : ℕ → ℕ → ℕ → List ℕ → Pieces
  cut_whole c n i xs =
      let rest = follows c n in
      cond (eqb c data_code) (onto (record { address = two xs; bytes = take (data_bytes n) (drop 2 xs) }) (more (i + rest) (drop rest xs)))
      (cond (eqb c start_code) (ending (starts (two xs))) (more (i + rest) (drop rest xs)))

  unfoldable pub cut_behind : ℕ → ℕ → ℕ → List ℕ → Pieces
  cut_behind c n i xs =
      cond (bad_count c n) (ending (breaks wrong_count (i - 1)))
      (cond (ltb (length xs) (follows c n)) (ending (breaks file_ends (i + length xs))) (cut_whole c n i xs))

  -- the bytes from place i on, the code first
  unfoldable pub cut_one : ℕ → List ℕ → Pieces
  cut_one i [] = ending (breaks file_ends i)
  cut_one i (c ∷ []) = cond (is_code c) (ending (breaks file_ends (i + 1))) (ending (breaks unknown_code i))
  cut_one i (c ∷ n ∷ xs) = cond (is_code c) (cut_behind c n (i + 2) xs) (ending (breaks unknown_code i))

-- the bytes from place i on, cut into n records and comments at the most
unfoldable pub cut_from : ℕ → ℕ → List ℕ → Pieces
cut_from zero i xs = ending (breaks file_ends i)
cut_from (suc n) i xs = cut_one (cut_from n) i xs

-- a record has two bytes at the least, so one more than there are bytes is enough
unfoldable pub cut : List ℕ → Pieces
cut bs = cut_from (suc (length bs)) 0 bs
