-- What the walk along a file asks of a disk, and what a step of it gives.
use Rattle.std.specs.Prelude.{◌≡◌, true, cond, List, [], ℕ, ◌+◌, ◌-◌, ◌*◌, ◌<◌, ◌≤◌, length, get_or, eqb, Result, MatchResult}
use Rattle.meaning.specs.Layout.{granules, granule_bytes}
use Rattle.meaning.specs.Entries.{in_use, in_use_primary, marker, link, runs, run_start, run_length, size_of}
use Rattle.meaning.specs.Chain.{chain_from, owned}
use Rattle.meaning.specs.declared.Geometry.{Geometry}
use Rattle.layout.specs.Room.{Room, Slot}

-- an entry in use, at a slot that the directory has
pub record Used (g : Geometry) (d : List ℕ) (s : ℕ) : Type 0 where
  pub slot : Slot g d s
  pub used : in_use g d s ≡ true

-- what of a consistent disk the walk uses
pub record Walkable (g : Geometry) (d : List ℕ) : Type 0 where
  pub room : Room g d
  pub next : (s : ℕ) → Used g d s → marker g d s ≡ 0xfe → Used g d (link g d s)
  pub run : (s k : ℕ) → Used g d s → k < runs g d s → run_start g d s k + run_length g d s k ≤ granules g
  pub size : (s : ℕ) → Slot g d s → in_use_primary g d s ≡ true → size_of g d s ≤ granule_bytes g * length (owned g d s)

-- the entries after the one at slot s
abbrev pub onward : Geometry → List ℕ → ℕ → ℕ → List ℕ
onward g d left s = cond (eqb (marker g d s) 0xfe) (chain_from g d left (link g d s)) []

-- element k of a list, or how far past its end k is
abbrev pub Sought : List ℕ → ℕ → Result ℕ ℕ → Type 0
Sought xs k r = MatchResult r (λ n. (k < length xs) × (n ≡ get_or xs k 0) × (n ≤ k + 2080)) (λ past. (length xs ≤ k) × (past ≡ k - length xs))
