-- What the tests of two files of one name make.
use Rattle.std.specs.Prelude.{Bool, cond, not, [], ◌∷◌, ℕ, eqb}
use Rattle.meaning.specs.Lists.{all, any}

-- two contents differ that part at `at` and have those sizes
unfoldable pub contents_differ : ℕ → ℕ → ℕ → Bool
contents_differ at n m = not (all (eqb n m ∷ eqb at n ∷ []))

-- 3 where something differs
unfoldable pub kind_of : Bool → Bool → Bool → Bool → ℕ
kind_of a b c d = cond (any (a ∷ b ∷ c ∷ d ∷ [])) 3 0
