-- Free stretches: free granules with consecutive numbers, across blocks (02 §5, §13). `taken` says which granules are not free.
use Rattle.std.specs.Prelude.{ℕ, suc, max, Bool, cond, List, [], ◌∷◌, leb}

module _ (taken : ℕ → Bool) where
  -- how many granules at the front of a list are free, up to the first that is taken
  unfoldable pub stretch : List ℕ → ℕ
  stretch [] = 0
  stretch (n ∷ ns) = cond (taken n) 0 (suc (stretch ns))

  -- the longest of the stretches that start at some member of a list
  unfoldable pub longest_in : List ℕ → ℕ
  longest_in [] = 0
  longest_in (n ∷ ns) = max (stretch (n ∷ ns)) (longest_in ns)

  -- the first member at which so long a stretch starts
  unfoldable pub low_end : List ℕ → ℕ
  low_end [] = 0
  low_end (n ∷ ns) = cond (leb (longest_in ns) (stretch (n ∷ ns))) n (low_end ns)
