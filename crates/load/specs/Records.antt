-- Load files (02 §12): what stands at a place of a file's bytes, and the next record from a place on.
use Rattle.std.specs.Prelude.{ℕ, zero, suc, ◌+◌, ◌-◌, ◌*◌, Bool, not, cond, List, [], ◌∷◌, leb, ltb, eqb, length, get_or}
use Rattle.meaning.specs.Lists.{all, any, first}
use Rattle.meaning.specs.Refusals.{accepted}
use Rattle.load.specs.declared.Item.{Item}
use Rattle.load.specs.declared.NextRecord.{NextRecord}

-- "code 01, a count, a two-byte address, …; 02 with a start address ends it; 05 is a comment and is skipped"
abbrev pub data_code : ℕ
data_code = 1

abbrev pub start_code : ℕ
start_code = 2

abbrev pub comment_code : ℕ
comment_code = 5

unfoldable pub is_code : ℕ → Bool
is_code c = any (eqb c data_code ∷ eqb c start_code ∷ eqb c comment_code ∷ [])

-- "the count less two data bytes"; "Counts 0 and 1 in code 01 mean 254 and 255 data bytes"
unfoldable pub data_bytes : ℕ → ℕ
data_bytes n = cond (ltb n 2) (254 + n) (n - 2)

-- How many bytes follow code and count: a two-byte address and the data; a start address; "A comment's count is its number of bytes."
unfoldable pub follows : ℕ → ℕ → ℕ
follows c n = cond (eqb c data_code) (2 + data_bytes n) (cond (eqb c start_code) 2 n)

-- "Code 02 must have count 2."
unfoldable pub bad_count : ℕ → ℕ → Bool
bad_count c n = all (eqb c start_code ∷ not (eqb n 2) ∷ [])

-- "31 unknown code, 32 file ends inside a record or before a start address, 33 bad count"
abbrev pub unknown_code : ℕ
unknown_code = 31

abbrev pub file_ends : ℕ
file_ends = 32

abbrev pub wrong_count : ℕ
wrong_count = 33

-- the bytes of a file
module _ (bs : List ℕ) where
  abbrev pub size : ℕ
  size = length bs

  abbrev pub code_at : ℕ → ℕ
  code_at i = get_or bs i 0

  -- the count stands behind its code
  abbrev pub count_at : ℕ → ℕ
  count_at i = get_or bs (i + 1) 0

  -- "a two-byte address, low byte first", behind the count
  abbrev pub address_at : ℕ → ℕ
  address_at i = get_or bs (i + 2) 0 + 256 * get_or bs (i + 3) 0

  -- where the record or comment at place i ends
  abbrev pub end_of : ℕ → ℕ
  end_of i = i + 2 + follows (code_at i) (count_at i)

  -- "The first in file order is told": of what stands at place i the code, then whether the count is there, whether it is good, whether the rest
  -- is there
  abbrev pub item_refusals : ℕ → List (ℕ × Bool)
  item_refusals i =
      (file_ends, leb size i) ∷ (unknown_code, not (is_code (code_at i))) ∷ (file_ends, leb size (i + 1))
      ∷ (wrong_count, bad_count (code_at i) (count_at i)) ∷ (file_ends, ltb size (end_of i)) ∷ []

  -- "each with its byte position (32: the file's size)": 31 that of the code, 33 that of the count
  unfoldable pub position_of : ℕ → ℕ → ℕ
  position_of i n = cond (eqb n unknown_code) i (cond (eqb n file_ends) size (cond (eqb n wrong_count) (i + 1) 0))

  -- what stands at place i
  unfoldable pub item_at : ℕ → Item
  item_at i =
      let no = first (item_refusals i) in
      record {
        number = no;
        position = position_of i no;
        code = cond (accepted no) (code_at i) 0;
        rest = cond (accepted no) (follows (code_at i) (count_at i)) 0;
      }

  -- a whole comment
  abbrev pub is_comment : Item → Bool
  is_comment x = eqb x.code comment_code

  -- the place behind the comments that stand from place i on, of which no more than n are passed: "05 is a comment and is skipped"
  unfoldable pub past : ℕ → ℕ → ℕ
  past zero i = i
  past (suc n) i = cond (is_comment (item_at i)) (past n (i + 2 + (item_at i).rest)) i

  -- what stands at place p, told to who asked at place i. The place moves only with a data record.
  unfoldable pub told_at : ℕ → ℕ → NextRecord
  told_at i p =
      let x = item_at p in
      record {
        number = x.number;
        position = x.position;
        kind = x.code;
        address = cond (accepted x.number) (address_at p) 0;
        from = p + 4;
        count = x.rest - 2;
        next = cond (eqb x.code data_code) (p + 2 + x.rest) i;
      }

  -- the next record from place i on; a comment has two bytes at the least, so there are no more comments than bytes
  unfoldable pub record_from : ℕ → NextRecord
  record_from i = told_at i (past size i)
