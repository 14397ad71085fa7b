-- Small words on lists that the other files use. Nothing here knows of a disk.
-- A sentence that names several conditions is `all` or `any` of them, written out as a list. A condition on each member of a
-- list is `every`, on some member of it `some`. `&&` joins two that are read in one breath.
use Rattle.std.specs.Prelude.{ℕ, zero, suc, ◌+◌, Bool, true, false, not, cond, ◌&&◌, ◌||◌, List, [], ◌∷◌, ◌++◌, eqb}

-- n numbers, rising from i
abbrev pub count : ℕ → ℕ → List ℕ
count i zero = []
count i (suc n) = i ∷ count (i + 1) n

-- every one of these holds
unfoldable pub all : List Bool → Bool
all [] = true
all (b ∷ bs) = b && all bs

-- some one of these holds
unfoldable pub any : List Bool → Bool
any [] = false
any (b ∷ bs) = b || any bs

-- of numbered cases the number of the first that holds, 0 where none does
unfoldable pub first : List (ℕ × Bool) → ℕ
first [] = 0
first (c ∷ cs) = cond c.1 c.0 (first cs)

module _ {A : Type 0} where
  abbrev pub every : (A → Bool) → List A → Bool
  every p [] = true
  every p (x ∷ xs) = p x && every p xs

  abbrev pub some : (A → Bool) → List A → Bool
  some p [] = false
  some p (x ∷ xs) = p x || some p xs

  -- those of a list that pass, in its order
  abbrev pub keep : (A → Bool) → List A → List A
  keep p [] = []
  keep p (x ∷ xs) = cond (p x) (x ∷ keep p xs) (keep p xs)

  -- f of each, one after the other
  abbrev pub each : (ℕ → List A) → List ℕ → List A
  each f [] = []
  each f (x ∷ xs) = f x ++ each f xs

  -- f done n times, from x on
  abbrev pub times : ℕ → (A → A) → A → A
  times zero f x = x
  times (suc n) f x = times n f (f x)

  -- f done with each of a list in turn, from x on
  abbrev pub through : (A → ℕ → A) → A → List ℕ → A
  through f x [] = x
  through f x (n ∷ ns) = through f (f x n) ns

abbrev pub has : List ℕ → ℕ → Bool
has xs x = some (eqb x) xs

-- none stands twice
abbrev pub distinct : List ℕ → Bool
distinct [] = true
distinct (x ∷ xs) = not (has xs x) && distinct xs

-- the two lists are equal
abbrev pub same : List ℕ → List ℕ → Bool
same [] [] = true
same [] (y ∷ ys) = false
same (x ∷ xs) [] = false
same (x ∷ xs) (y ∷ ys) = eqb x y && same xs ys

-- the first of a list, the last of a list; z where it is empty
unfoldable pub first_or : ℕ → List ℕ → ℕ
first_or z [] = z
first_or z (x ∷ xs) = x

unfoldable pub last_or : ℕ → List ℕ → ℕ
last_or z [] = z
last_or z (x ∷ xs) = last_or x xs

-- Statements, whose tests are `has` and `distinct` (lists: Members) ------------------------------------------------------------

-- x is one of them
pub data In (x : ℕ) : List ℕ → Type 0 where
  here : {xs : List ℕ} → In x (x ∷ xs)
  there : {y : ℕ} {xs : List ℕ} → In x xs → In x (y ∷ xs)

-- none stands twice
pub data Distinct : List ℕ → Type 0 where
  done : Distinct []
  fresh : {x : ℕ} {xs : List ℕ} → (In x xs → ⊥) → Distinct xs → Distinct (x ∷ xs)
