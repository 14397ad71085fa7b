-- A number a slot: its HIT byte at first, 0 once a chain has met it.
use Rattle.std.specs.Prelude.{◌≡◌, Bool, List, ℕ, ◌<◌, eqb, length, get_or}
use Rattle.meaning.specs.Layout.{hit}
use Rattle.meaning.specs.declared.Geometry.{Geometry}

-- each slot stands at its HIT byte, which is 0 where it is not in use
pub record HitCopied (g : Geometry) (d met : List ℕ) : Type 0 where
  pub long : length met ≡ 256
  pub is : (s : ℕ) → s < 256 → get_or met s 0 ≡ hit g d s

-- a slot was met, or is not in use: 0 stands in the map
abbrev pub met_at : List ℕ → ℕ → Bool
met_at met s = eqb (get_or met s 0) 0
