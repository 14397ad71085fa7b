use Prim.Native.Nat.{ℕ}
use mathlib.Core.Path.{ap, sym, ◌∙◌}
use Rattle.meaning.specs.declared.Refusal.{Refusal}
use Rattle.refusal.specs.Short.{short}
use Rattle.genie.proofs.HandsBack.{short-is}
use Rattle.genie.proofs.short.Goals as goal

pub returns : goal.returns
returns c = let the-short = c.short-c in let the-check = c.check in let e = the-short.ensures ∙ ap short the-check.ensures ∙ sym (short-is _ _) in (
  ap {B = ℕ} (λ (c : Refusal). c.number) e,
  ap {B = ℕ} (λ
      (c : Refusal). c.at) e,
)
