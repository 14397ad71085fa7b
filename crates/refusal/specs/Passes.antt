-- What a call's tests answer: Ok where no number holds, n being the first that does, else the refusal that is told; c is what the check
-- answered.
use Rattle.std.specs.Prelude.{◌≡◌, ℕ, MatchResult}
use Rattle.std.proofs.Common.{Result}
use Rattle.meaning.specs.Refusal.{carried}
use Rattle.meaning.specs.declared.Refusal.{Refusal}

abbrev pub Passes : Refusal → ℕ → Result (Unit {0}) Refusal → Type 0
Passes c n r = MatchResult r (λ _. n ≡ 0) (λ e. (e ≡ carried c n) × (n ≡ 0 → ⊥))
