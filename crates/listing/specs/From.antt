-- The listed files from a slot on.
use Rattle.std.specs.Prelude.{◌≡◌, List, ◌∷◌, ℕ, ◌+◌, ◌-◌, ◌<◌, ◌≤◌}
use Rattle.meaning.specs.Lists.{count, keep}
use Rattle.meaning.specs.Layout.{is_slot}
use Rattle.meaning.specs.Entries.{in_use_primary}
use Rattle.meaning.specs.Listing.{shown}
use Rattle.meaning.specs.declared.Geometry.{Geometry}
use Rattle.seek.specs.Seek.{Used}

module _ (g : Geometry) (d : List ℕ) where
  -- those that start at slot s or past it
  unfoldable pub listed_from : ℕ → List ℕ
  listed_from s = keep (shown g d) (keep (in_use_primary g d) (keep (is_slot g d) (count s (256 - s))))

  -- the first of them starts at slot r
  pub record NextListed (s r : ℕ) : Type 0 where
    pub past : s ≤ r
    pub low : r < 256
    pub used : Used g d r
    pub ahead : listed_from s ≡ r ∷ listed_from (r + 1)
