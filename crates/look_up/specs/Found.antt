-- What the search for a name gives.
use Rattle.std.specs.Prelude.{◌≡◌, IfSome, List, ℕ}
use Rattle.std.specs.Option.{option_to_list}
use Rattle.meaning.specs.LookUp.{named, compared_in, candidates}
use Rattle.meaning.specs.declared.Geometry.{Geometry}
use Rattle.layout.specs.Room.{Slot}
use Rattle.look_up.specs.declared.Found.{Found}

pub record Finds (g : Geometry) (d n : List ℕ) (r : Found) : Type 0 where
  pub slot : named g d n ≡ option_to_list r.slot
  pub compared : r.compared ≡ compared_in g d n (candidates g d n)
  pub held : IfSome r.slot (Slot g d)
