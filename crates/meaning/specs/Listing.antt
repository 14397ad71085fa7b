-- The listing (01): one file a call, by number from 0, then "no more"; the counts FILES and FREE; and the text.
use Rattle.std.specs.Prelude.{ℕ, zero, suc, ◌+◌, ◌/◌, ◌%◌, Bool, true, false, not, cond, List, [], ◌∷◌, ◌++◌, ltb, eqb, length, replicate, take, drop}
use Rattle.meaning.specs.Lists.{keep, each}
use Rattle.meaning.specs.Entries
use Rattle.meaning.specs.Chain
use Rattle.meaning.specs.Free
use Rattle.meaning.specs.Refusal.{unplaced}
use Rattle.meaning.specs.Refusals
use Rattle.meaning.specs.declared.Geometry.{Geometry}
use Rattle.meaning.specs.declared.Listed.{Listed}
use Rattle.meaning.specs.declared.Counts.{Counts}
use Rattle.meaning.specs.declared.Refusal.{Refusal}

-- nothing is told of a file: a refusal, or "no more", which is accepted
abbrev pub no_file : Refusal → Listed
no_file c = record { refusal = c; more = false; name = replicate 11 0; size = 0; granules = 0 }

module _ (g : Geometry) (d : List ℕ) where
  -- System files aren't listed or counted, invisible ones are.
  unfoldable pub shown : ℕ → Bool
  shown p = not (Entries.system g d p)

  -- order by slot
  unfoldable pub listed : List ℕ
  listed = keep shown (Chain.files g d)

  -- the first of these files: name, size, granules owned
  unfoldable pub tell_first : List ℕ → Listed
  tell_first [] = no_file (unplaced 0)
  tell_first (p ∷ ps) =
      record { refusal = unplaced 0; more = true; name = Entries.name_of g d p; size = Entries.size_of g d p; granules = length (Chain.owned g d p) }

  -- The library tells one file a call, by number from 0, then "no more".
  unfoldable pub list : ℕ → Listed
  list i = let c = Refusals.check g d in cond (Refusals.accepted c.number) (tell_first (drop i listed)) (no_file c)

  -- FILES, and FREE: the number of clear GAT bits in range
  unfoldable pub counts : Counts
  counts =
      let c = Refusals.check g d in
      record {
        refusal = c;
        files = cond (Refusals.accepted c.number) (length listed) 0;
        free = cond (Refusals.accepted c.number) (length (Free.free_granules g d)) 0;
      }

-- The text ----------------------------------------------------------------------------------------------------------------

-- a number in decimal digits, so many at the most
unfoldable pub digits : ℕ → ℕ → List ℕ
digits zero n = []
digits (suc most) n = cond (ltb n 10) ((0x30 + n) ∷ []) (digits most (n / 10) ++ ((0x30 + n % 10) ∷ []))

abbrev pub decimal : ℕ → List ℕ
decimal n = digits 20 n

-- a name or a type without the blanks that pad it
abbrev pub stripped : List ℕ → List ℕ
stripped n = keep (λ x. not (eqb x 0x20)) n

-- name, a slash and the type if there is one
unfoldable pub slashed : List ℕ → List ℕ
slashed [] = []
slashed (x ∷ xs) = 0x2f ∷ x ∷ xs

abbrev pub name_text : List ℕ → List ℕ
name_text n = stripped (take 8 n) ++ slashed (stripped (drop 8 n))

-- a line holds name, size, granules owned; one line feed after each line
unfoldable pub line : List ℕ → ℕ → ℕ → List ℕ
line n size owned = name_text n ++ (0x20 ∷ decimal size) ++ (0x20 ∷ decimal owned) ++ (0x0a ∷ [])

-- the whole listing: FILES, a line for each file, FREE
unfoldable pub listing : Geometry → List ℕ → List ℕ
listing g d =
    (0x46 ∷ 0x49 ∷ 0x4c ∷ 0x45 ∷ 0x53 ∷ 0x20 ∷ decimal (length (listed g d))) ++ (0x0a ∷ [])
    ++ each (λ p. line (Entries.name_of g d p) (Entries.size_of g d p) (length (Chain.owned g d p))) (listed g d)
    ++ (0x46 ∷ 0x52 ∷ 0x45 ∷ 0x45 ∷ 0x20 ∷ decimal (length (Free.free_granules g d))) ++ (0x0a ∷ [])
