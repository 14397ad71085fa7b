-- What is handed back of a name that comes in.
use Rattle.std.specs.Prelude.{◌≡◌, List, ℕ, replicate}
use Rattle.meaning.specs.Names.{comes_in, no_place}
use Rattle.meaning.specs.declared.Incoming.{Incoming}

-- the name; or the place of its first bad byte, and eleven zeros
pub record Hands (n : List ℕ) (r : Incoming) : Type 0 where
  pub place : r.place ≡ (comes_in n).place
  pub name : (comes_in n).place ≡ no_place → r.name ≡ (comes_in n).name
  pub none : ((comes_in n).place ≡ no_place → ⊥) → r.name ≡ replicate 11 0
