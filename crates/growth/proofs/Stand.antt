-- Where the growth of a file stands, in the numbers that the code carries along.
use mathlib.Core.Path.{◌≡◌}
use mathlib.Core.Bool.{false}
use mathlib.Core.List.{List}
use Prim.Native.Nat.{ℕ, ◌+◌, ◌-◌, ◌≤◌, ◌<◌}
use Rattle.meaning.specs.Entries.{runs, run_start, run_length}
use Rattle.meaning.specs.Growth.{tail, lengthens}
use Rattle.meaning.specs.declared.Geometry.{Geometry}
use Rattle.laws.specs.Steps.{Ready}

-- The last entry is at slot e and has r runs. Where l is below 32 there is a last run, of l granules, and it ends before granule a; else the
-- next granule starts a run.
pub record Stand (g : Geometry) (p : ℕ) (d : List ℕ) (e r a l : ℕ) : Type 0 where
  pub ready : Ready g d p
  pub last : tail g p d ≡ e
  pub many : runs g d e ≡ r
  pub after : l < 32 → (1 ≤ r) × (a ≡ run_start g d e (r - 1) + run_length g d e (r - 1)) × (l ≡ run_length g d e (r - 1))
  pub full : 32 ≤ l → lengthens g p d ≡ false
