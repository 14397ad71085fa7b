-- Entries written down in a list, whose runs lie on the disk.
use Rattle.std.specs.Prelude.{List, [], ◌∷◌, ◌++◌, ℕ, zero, suc, ◌<◌, ◌≤◌, get_or}
use Rattle.meaning.specs.declared.Geometry.{Geometry}
use Rattle.space.specs.OnDisk.{RunsOnDisk}

-- the first n of a list
unfoldable pub first_of : List ℕ → ℕ → List ℕ
first_of es zero = []
first_of es (suc n) = first_of es n ++ (get_or es n 0 ∷ [])

-- the first n of es are slots whose runs lie on the disk
pub record Listed (g : Geometry) (d es : List ℕ) (n : ℕ) : Type 0 where
  pub few : n ≤ 256
  pub entry : (j : ℕ) → j < n → RunsOnDisk g d (get_or es j 0)
