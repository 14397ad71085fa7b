-- A short name: the second half of its eight bytes is blank.
use Rattle.std.specs.Prelude.{Bool, List, ℕ, eqb, get_or}
use Rattle.meaning.specs.Lists.{count, every}

abbrev pub four_blanks : List ℕ → Bool
four_blanks n = every (λ i. eqb (get_or n i 0) 0x20) (count 4 4)
