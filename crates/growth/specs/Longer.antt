-- A run that gets longer by several granules at once.
use Rattle.std.specs.Prelude.{◌≡◌, ◌⊎◌, Bool, true, false, cond, List, ℕ, ◌+◌, ◌≤◌, ◌<◌}
use Rattle.meaning.specs.Lists.{count, through}
use Rattle.meaning.specs.Layout.{granules, taken, take_granule, field, set_field}
use Rattle.meaning.specs.declared.Geometry.{Geometry}

-- m granules from a on taken, and byte i of the entry at slot e higher by m where it writes
abbrev pub longer : Geometry → Bool → ℕ → ℕ → ℕ → ℕ → List ℕ → List ℕ
longer g writes e i a m d =
    let t = through (take_granule g) d (count a m) in
    cond writes (set_field g t e i (field g d e i + m)) t

-- r of `left` granules lengthen at once a run of `long` that ends before granule `after`; where none does, the run is full or the next granule is
-- past the disk or taken
pub record Further (g : Geometry) (d : List ℕ) (after long left r : ℕ) : Type 0 where
  pub few : r ≤ left
  pub short : 0 < r → long + r ≤ 32
  pub inside : 0 < r → after + r ≤ granules g
  pub clear : (k : ℕ) → k < r → taken g d (after + k) ≡ false
  pub none : 0 < left → r ≡ 0 → (32 ≤ long) ⊎ ((granules g ≤ after) ⊎ (taken g d after ≡ true))
