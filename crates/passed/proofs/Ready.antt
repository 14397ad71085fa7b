-- Where theorems and code meet: what a call by a handle has passed (`Ready`, which laws.Steps keeps through every step of a growth or
-- a trim) gives what the walks ask (`Walkable`, `Used` of seek).
use mathlib.Core.List.{List}
use Prim.Native.Nat.{ℕ}
use Rattle.meaning.specs.Entries.{in_use}
use Rattle.meaning.specs.declared.Geometry.{Geometry}
use Rattle.laws.specs.Steps.{Ready}
use Rattle.lists.specs.Tests.{and_l}
use Rattle.layout.proofs.HasRoom.{slot-of}
use Rattle.seek.specs.Seek.{Walkable, Used}
use Rattle.seek.proofs.IsWalkable.{sound}

pub walks : (g : Geometry) (d : List ℕ) (p : ℕ) → Ready g d p → Walkable g d × Used g d p
walks g d p r = (sound g d r.fits r.sound, record { slot = slot-of g d p r.slot; used = and_l (in_use g d p) _ r.first })
