-- Free space without walking the directory (02 §5): "Give the number, and the longest free stretch, from the GAT sector alone."
use Rattle.std.specs.Prelude.{ℕ, Bool, cond, List, [], ◌∷◌, length}
use Rattle.meaning.specs.Lists.{count}
use Rattle.meaning.specs.Layout.{taken, granules}
use Rattle.meaning.specs.Stretch
use Rattle.meaning.specs.Free.{free_granules}
use Rattle.meaning.specs.Refusal.{unplaced}
use Rattle.meaning.specs.Refusals
use Rattle.meaning.specs.declared.Geometry.{Geometry}
use Rattle.meaning.specs.declared.Space.{Space}

module _ (g : Geometry) (d : List ℕ) where
  -- the stretches of this disk
  abbrev pub stretch : List ℕ → ℕ
  stretch = Stretch.stretch (taken g d)

  abbrev pub longest_in : List ℕ → ℕ
  longest_in = Stretch.longest_in (taken g d)

  -- the longest free stretch: free granules with consecutive numbers, across blocks
  abbrev pub longest : ℕ
  longest = longest_in (count 0 (granules g))

  -- Refusals: 1 only. So there is an answer on any image of the right length, be it consistent or not.
  abbrev pub space_refusals : List (ℕ × Bool)
  space_refusals = Refusals.bad_geometry g d ∷ []

  -- the number of free granules ("it only counts clear bits in range"), and the longest free stretch
  unfoldable pub free_space : Space
  free_space =
      let no = Refusals.first space_refusals in
      record {
        refusal = unplaced no;
        free = cond (Refusals.accepted no) (length (free_granules g d)) 0;
        longest = cond (Refusals.accepted no) longest 0;
      }
