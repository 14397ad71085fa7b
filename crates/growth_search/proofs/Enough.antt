-- Whether enough granules are free, while they are counted from the last block on.
use mathlib.Core.Path.{◌≡◌, ap, sym, subst}
use mathlib.Core.Bool.{false}
use mathlib.Core.List.{List}
use Prim.Native.Nat.{ℕ, ◌≤◌}
use native.Mathlib.Omega.{arith}
use lib.Dec.{ltb}
use lib.ListN.{length}
use borrow.Author.Tests.{le-ltb}
use Rattle.meaning.specs.Free.{free_granules}
use Rattle.meaning.specs.declared.Geometry.{Geometry}
use Rattle.space.proofs.Clear.{Freed, freed-end}

module _ (g : Geometry) (d : List ℕ) {b n : ℕ} (f : Freed g d b n) where
  -- the blocks that are left do not matter any more
  pub enough : {k : ℕ} → k ≤ n → false ≡ ltb (length (free_granules g d)) k
  enough {k} h = sym (le-ltb (length (free_granules g d)) k (let r = f.rest in omega arith))

  -- no block is left
  pub fewer : (k : ℕ) → b ≡ 0 → ltb n k ≡ ltb (length (free_granules g d)) k
  fewer k z = ap (λ (m : ℕ). ltb m k) (freed-end g d (subst (λ (j : ℕ). Freed g d j n) z f))
