-- A map of numbers in which places are marked.
use Rattle.std.specs.Prelude.{◌≡◌, List, [], ◌∷◌, Bool, true, ◌&&◌, ℕ, leb, get_or, set}

-- m with v at each of the places
unfoldable pub marked : List ℕ → ℕ → List ℕ → List ℕ
marked m v [] = m
marked m v (n ∷ ns) = marked (set m n v) v ns

-- each of the places stands at `least` or above when it is its turn
unfoldable pub allows : List ℕ → ℕ → ℕ → List ℕ → Bool
allows m least v [] = true
allows m least v (n ∷ ns) = leb least (get_or m n 0) && allows (set m n v) least v ns

-- what a function that marks places ensures: it says whether they allow it, and if so has marked them
pub record MarksPlaces (m : List ℕ) (least v : ℕ) (ns m' : List ℕ) (r : Bool) : Type 0 where
  pub answer : r ≡ allows m least v ns
  pub map : r ≡ true → m' ≡ marked m v ns
