-- How many slots of a row are kept: the first ones.
use Rattle.std.specs.Prelude.{◌≡◌, ℕ, ◌/◌, ◌%◌, ◌≤◌, ltb}
use Rattle.meaning.specs.Free.{kept}
use Rattle.meaning.specs.declared.Geometry.{Geometry}

pub record Keeps (g : Geometry) (row r : ℕ) : Type 0 where
  pub few : r ≤ 8
  pub first : (s : ℕ) → s / 32 ≡ row → kept g s ≡ ltb (s % 32) r
