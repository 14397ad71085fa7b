use Rattle.lists.specs.Tests.{all_yes, all-no, all_one}
use native.Mathlib.Omega.{arith}
use mathlib.Core.Path.{sym, ap, ◌∙◌}
use Prim.Native.Nat.{ℕ}
use lib.ListN.{take, drop}
use Rattle.meaning.specs.Lists.{same}
use Rattle.layout.proofs.OneStep.{name-at}
use Rattle.meaning.specs.LookUp.{carries}
use Rattle.look_up.proofs.carries.Goals as goal

pub returns-else-primary : goal.returns-else-primary
unfolding carries
returns-else-primary c = c.if-primary.false ∙ sym (all-no (sym c.primary.ensures ∙ c.if-primary.false) _)

pub returns-then-primary : goal.returns-then-primary
unfolding carries
returns-then-primary c = let a = c.args in sym (all_yes (sym c.primary.ensures ∙ c.if-primary.true) _ ∙ all_one _ ∙
    name-at a.disk.now.g a.disk.now.image.now a.name.now a.s (omega arith) ∙
    ap (λ (x : ℕ). same (take 11 (drop x a.disk.now.image.now)) a.name.now) (sym c.name_at.ensures) ∙ sym c.same_name.ensures)
