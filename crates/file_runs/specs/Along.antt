-- A file gone along run by run: which of its bytes lie beside one another, and what of it is ahead.
use Rattle.std.specs.Prelude.{◌≡◌, List, [], ◌++◌, ℕ, zero, suc, ◌+◌, ◌-◌, ◌*◌, ◌≤◌, ◌<◌, length}
use Rattle.meaning.specs.Lists.{count, each}
use Rattle.meaning.specs.Layout.{granule_bytes}
use Rattle.meaning.specs.Entries.{runs, run_granules, entry_granules}
use Rattle.meaning.specs.Chain.{owned, place}
use Rattle.meaning.specs.declared.Geometry.{Geometry}
use Rattle.seek.specs.Seek.{Used, onward}
use Rattle.file_runs.specs.declared.FileRun.{FileRun}

module _ (g : Geometry) (d : List ℕ) where
  -- the granules from pair k of the entry at slot s on, of so many entries at the most
  unfoldable pub ahead : ℕ → ℕ → ℕ → List ℕ
  ahead zero s k = []
  ahead (suc left) s k = each (run_granules g d s) (count k (runs g d s - k)) ++ each (entry_granules g d) (onward g d left s)

  -- the granules of bytes 0 to `to` of the file at slot s are past, and those are ahead
  pub record Past (s to slot pair left : ℕ) : Type 0 where
    pub past : List ℕ
    pub whole : owned g d s ≡ past ++ ahead left slot pair
    pub to' : to ≡ granule_bytes g * length past
    pub used : Used g d slot
    pub few : pair ≤ 4

  -- c is a run of the file at slot s
  pub record Along (s : ℕ) (c : FileRun) : Type 0 where
    pub rest : Past s c.to c.slot c.pair c.left
    pub here : (i : ℕ) → c.from ≤ i → i < c.to → place g d s i ≡ c.at + (i - c.from)
    pub inside : c.at + (c.to - c.from) ≤ length d
