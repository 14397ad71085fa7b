-- A disk whose check answered 0, and where a file starts.
use Rattle.std.specs.Prelude.{◌≡◌, true, List, ℕ}
use Rattle.meaning.specs.Entries.{in_use_primary}
use Rattle.meaning.specs.declared.Geometry.{Geometry}
use Rattle.laws.specs.Facts as facts
use Rattle.layout.specs.Room.{Slot}
use Rattle.seek.specs.Seek.{Walkable}

module _ (g : Geometry) (d : List ℕ) where
  -- a disk whose check answered 0
  pub record WholeDisk : Type 0 where
    pub sound : Walkable g d
    pub holds : facts.Sound g d

  -- a file starts at slot s
  pub record StartsFile (s : ℕ) : Type 0 where
    pub slot : Slot g d s
    pub first' : in_use_primary g d s ≡ true
