-- An entry whose granules can be taken or given back.
use Rattle.std.specs.Prelude.{List, ℕ, ◌+◌, ◌<◌, ◌≤◌}
use Rattle.meaning.specs.Layout.{granules}
use Rattle.meaning.specs.Entries.{runs, run_start, run_length}
use Rattle.meaning.specs.declared.Geometry.{Geometry}
use Rattle.layout.specs.Room.{Slot}

-- a slot of the directory whose entry's runs lie on the disk
pub record RunsOnDisk (g : Geometry) (d : List ℕ) (s : ℕ) : Type 0 where
  pub slot : Slot g d s
  pub run : (k : ℕ) → k < runs g d s → run_start g d s k + run_length g d s k ≤ granules g
