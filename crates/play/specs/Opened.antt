-- A fresh open, checking off: the handle, or the number of the refusal.
use Rattle.std.specs.Prelude.{◌≡◌, ℕ, false, List, MatchResult}
use Rattle.std.proofs.Common.{Result}
use Rattle.meaning.specs.Open.{open'}
use Rattle.meaning.specs.declared.Geometry.{Geometry}
use Rattle.meaning.specs.declared.Handle.{Handle}

abbrev pub Opened : Geometry → List ℕ → List ℕ → ℕ → Result Handle ℕ → Type 0
Opened g d n len r = let a = open' g d n len false 0 in
    MatchResult r (λ h. (h ≡ a.handle) × (a.refusal.number ≡ 0)) (λ k. (k ≡ a.refusal.number) × (k ≡ 0 → ⊥))
