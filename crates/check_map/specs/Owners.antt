-- The owner map (02, §8): one bit a granule, laid out as the GAT is, a byte a block.
use Rattle.std.specs.Prelude.{◌≡◌, ◌⊎◌, List, map, Bool, true, false, cond, ℕ, ◌+◌, ◌-◌, ◌*◌, ◌/◌, ◌%◌, ◌≤◌, ◌<◌, get_or}
use Rattle.meaning.specs.Bits.{digit}
use Rattle.meaning.specs.Lists.{count, has}
use Rattle.meaning.specs.Layout.{granules, taken, directory_granules}
use Rattle.meaning.specs.declared.Geometry.{Geometry}

-- 1 where granule n is shut: its GAT bit is clear, or a run holds it already
unfoldable pub shut : ℕ → List ℕ → ℕ → ℕ
shut units m n = digit (get_or m (n / units) 0) (n % units)

-- n granules from a on are taken: whether all were open, and if so they are shut and no other granule is changed
pub record TakesStretch (units : ℕ) (m : List ℕ) (a n : ℕ) (m' : List ℕ) (r : Bool) : Type 0 where
  pub yes' : r ≡ true → (i : ℕ) → i < n → shut units m (a + i) ≡ 0
  pub back : ((i : ℕ) → i < n → shut units m (a + i) ≡ 0) → r ≡ true
  pub inside : r ≡ true → (i : ℕ) → i < n → shut units m' (a + i) ≡ 1
  pub outside : r ≡ true → (q : ℕ) → (q < a) ⊎ (a + n ≤ q) → shut units m' q ≡ shut units m q

-- the map says of each granule what the GAT says: it is open if its bit is set
pub record GatMap (g : Geometry) (d m : List ℕ) : Type 0 where
  pub opens : (n : ℕ) → n < granules g → taken g d n ≡ true → shut g.units m n ≡ 0
  pub shuts : (n : ℕ) → n < granules g → taken g d n ≡ false → shut g.units m n ≡ 1

-- what an open granule stands at: 1 in the directory, which is open to system files only, and 2 elsewhere
unfoldable pub weight : Geometry → List ℕ → ℕ → ℕ
weight g d n = cond (has (directory_granules g d) n) 1 2

-- the map as one number a granule, 0 where it is shut
unfoldable pub standing : Geometry → List ℕ → List ℕ → List ℕ
standing g d m = map (λ n. (1 - shut g.units m n) * weight g d n) (count 0 (granules g))

-- w has a bit for each of n granules from a on, where it stands in the eight bytes of the map from `at` on, and no other
pub record Window (units a n at w : ℕ) : Type 0 where
  pub inside : (k : ℕ) → a ≤ k → k < a + n → digit w (8 * (k / units - at) + k % units) ≡ 1
  pub outside : (u : ℕ) → digit w u ≡ 1 → (k : ℕ) × (a ≤ k) × (k < a + n) × (u ≡ 8 * (k / units - at) + k % units)
