-- What the tests of the call give.
use Rattle.std.specs.Prelude.{◌≡◌, ◌≢◌, List, ℕ, ◌<◌}
use Rattle.meaning.specs.Names.{hash}
use Rattle.meaning.specs.Entries.{name_of}
use Rattle.meaning.specs.Chain.{chain}
use Rattle.meaning.specs.Refusals.{first, refusal}
use Rattle.meaning.specs.BringBack
use Rattle.meaning.specs.declared.Geometry.{Geometry}
use Rattle.meaning.specs.declared.Refusal.{Refusal}
use Rattle.layout.specs.Room.{Room}
use Rattle.bring_back.specs.declared.Planned.{Planned}
use Rattle.back_chain.specs.Line.{Written}

-- The call is accepted: all that it writes.
pub record Plans (g : Geometry) (d : List ℕ) (s : ℕ) (es : List ℕ) (r : Planned) : Type 0 where
  pub number_is : 0 ≡ first (BringBack.bring_back_refusals g d s)
  pub room : Room g d
  pub written : Written g d (chain g d s) es r.slots r.granules
  pub hash-is : r.hash ≡ hash (name_of g d s)
  pub small : r.hash < 256

-- The call is refused, and this is told.
pub record Refuses (g : Geometry) (d : List ℕ) (s : ℕ) (r : Refusal) : Type 0 where
  pub told : r ≡ refusal g d (first (BringBack.bring_back_refusals g d s))
  pub refused : first (BringBack.bring_back_refusals g d s) ≢ 0
