-- Where a growth may write.
use Rattle.std.specs.Prelude.{ℕ, ◌+◌, ◌/◌, ◌≤◌, ◌<◌}
use Rattle.meaning.specs.Layout.{entry_at, most_blocks, most_units}
use Rattle.meaning.specs.declared.Geometry.{Geometry}

-- an entry, the GAT byte of granule n and what is written of them lie in an image of so many bytes
pub record Inside (g : Geometry) (bytes e n : ℕ) : Type 0 where
  pub entry : entry_at g e + 32 ≤ bytes
  pub units-low : 1 ≤ g.units
  pub units-high : g.units ≤ most_units
  pub block : n / g.units < most_blocks
