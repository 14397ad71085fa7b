-- How many bytes a read or a write is of: a record of the handle's length (01), or all that the buffer holds (read bytes, write bytes).
use Rattle.std.specs.Prelude.{ℕ, List, length}

pub data Amount : Type 0 where
  one_record : Amount
  whole_buffer : Amount

-- of a handle with that record length, and that buffer
abbrev pub how_many : Amount → ℕ → List ℕ → ℕ
how_many one_record len b = len
how_many whole_buffer len b = length b
