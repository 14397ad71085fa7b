-- What putting bytes into a lent buffer leaves, and the first and the last line of the listing.
use Rattle.std.specs.Prelude.{◌≡◌, Bool, true, false, List, [], ◌∷◌, ◌++◌, ℕ, ◌+◌, ◌≤◌, length}
use Rattle.std.proofs.Common.{append_assoc}
use Rattle.std.proofs.lemmas.List.Edits.{sets}
use Rattle.meaning.specs.Lists.{each}
use Rattle.meaning.specs.Entries
use Rattle.meaning.specs.Chain
use Rattle.meaning.specs.Free
use Rattle.meaning.specs.Listing.{decimal, line, listed, listing}
use Rattle.meaning.specs.declared.Geometry.{Geometry}

-- these bytes, so many at the most, stand at the place, everything else as it was; `end` is the place after them
pub record Put (most : ℕ) (before : List ℕ) (at : ℕ) (bytes after : List ℕ) (end : ℕ) : Type 0 where
  pub is : after ≡ sets before at bytes
  pub past : end ≡ at + length bytes
  pub fits : length bytes ≤ most

-- no byte is there
unfoldable pub none : List ℕ → Bool
none [] = true
none (x ∷ xs) = false

-- "FILES " and the number of files, "FREE " and the number of free granules; one line feed after each line
unfoldable pub files_line : ℕ → List ℕ
files_line n = (0x46 ∷ 0x49 ∷ 0x4c ∷ 0x45 ∷ 0x53 ∷ 0x20 ∷ decimal n) ++ (0x0a ∷ [])

unfoldable pub free_line : ℕ → List ℕ
free_line n = (0x46 ∷ 0x52 ∷ 0x45 ∷ 0x45 ∷ 0x20 ∷ decimal n) ++ (0x0a ∷ [])

-- the listing is made of these lines
pub listing-lines : (g : Geometry) (d : List ℕ)
    → listing g d
    ≡ files_line (length (listed g d))
    ++ each (λ p. line (Entries.name_of g d p) (Entries.size_of g d p) (length (Chain.owned g d p))) (listed g d)
    ++ free_line (length (Free.free_granules g d))
unfolding listing files_line free_line
listing-lines g d =
    append_assoc
    (files_line (length (listed g d))
    ++ each (λ p. line (Entries.name_of g d p) (Entries.size_of g d p) (length (Chain.owned g d p))) (listed g d))
    (0x46 ∷ 0x52 ∷ 0x45 ∷ 0x45 ∷ 0x20 ∷ decimal (length (Free.free_granules g d)))
    (0x0a ∷ [])
