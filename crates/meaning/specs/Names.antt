-- Names and their hash (01, Directory layout). A name is 11 bytes: 8 of name, 3 of type.
use Rattle.std.specs.Prelude.{ℕ, ◌+◌, ◌-◌, ◌*◌, ◌/◌, ◌%◌, Bool, true, cond, ◌&&◌, ◌||◌, List, [], ◌∷◌, map, leb, ltb, eqb, length, get_or, take, drop}
use Rattle.std.specs.Int.Bits.{bit_xor}
use Rattle.meaning.specs.Lists.{every, through, all}
use Rattle.meaning.specs.declared.Incoming.{Incoming}

-- allowed bytes 30H to 39H and 41H to 5DH
abbrev pub letter : ℕ → Bool
letter x = (leb 0x30 x && leb x 0x39) || (leb 0x41 x && leb x 0x5d)

-- each padded right with 20H
abbrev pub padded : List ℕ → Bool
padded [] = true
padded (x ∷ xs) = cond (letter x) (padded xs) (every (eqb 0x20) (x ∷ xs))

-- Names, given as 11 bytes: 1 to 8, type 0 to 3. This is the test of a name on disk, where nothing is folded: "a small letter in an entry on
-- disk is still inconsistent" (02 §7).
unfoldable pub well_formed : List ℕ → Bool
well_formed n = all (eqb (length n) 11 ∷ letter (get_or n 0 0) ∷ padded (take 8 n) ∷ padded (drop 8 n) ∷ [])

-- A name that comes in ----------------------------------------------------------------------------------------------------

-- "Codes 61H to 7DH are taken as 41H to 5DH when a name comes in" (02 §7): 29 codes, the last three of them { | }
abbrev pub fold_byte : ℕ → ℕ
fold_byte x = cond (leb 0x61 x && leb x 0x7d) (x - 0x20) x

-- the name that a call goes on with: nothing after it knows the bytes that came in
unfoldable pub fold : List ℕ → List ℕ
fold n = map fold_byte n

-- how many bytes stand before the first that is not 20H
unfoldable pub blanks : List ℕ → ℕ
blanks [] = 0
blanks (x ∷ xs) = cond (eqb 0x20 x) (1 + blanks xs) 0

-- how many bytes of a name, or of its type, stand before the first that keeps it from being padded right with 20H
unfoldable pub good : List ℕ → ℕ
good [] = 0
good (x ∷ xs) = cond (letter x) (1 + good xs) (blanks (x ∷ xs))

-- where no byte is bad
abbrev pub no_place : ℕ
no_place = 11

-- the place of the first byte that keeps a name from being well formed ("a blank at place 0 is bad, and a non-blank after a blank in name or
-- type"); 0 where it has not 11 bytes
unfoldable pub bad_place : List ℕ → ℕ
bad_place n = let k = good (take 8 n) in cond (eqb (length n) 11 && letter (get_or n 0 0)) (cond (ltb k 8) k (8 + good (drop 8 n))) 0

-- "the name check now hands back the folded name, or the place of the first bad byte" (02 §7). Look up, open and create go on with the name.
abbrev pub comes_in : List ℕ → Incoming
comes_in n = record { place = bad_place (fold n); name = fold n }

-- rotate left by one within 8 bits
abbrev pub rotate : ℕ → ℕ
rotate x = x * 2 % 256 + x / 128

-- exclusive-or it in, then rotate
abbrev pub mix : ℕ → ℕ → ℕ
mix h x = rotate (bit_xor h x)

-- start at 0; for each of the 11 name and type bytes, exclusive-or it in, then rotate left by one; a final 0 becomes 1
unfoldable pub hash : List ℕ → ℕ
hash n = let h = through mix 0 n in cond (eqb h 0) 1 h
