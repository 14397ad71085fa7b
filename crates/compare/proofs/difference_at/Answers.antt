use mathlib.Core.Bool.{Bool, false, ◌||◌}
use mathlib.Core.Path.{◌≡◌, sym, ap, ◌∙◌}
use Rattle.differences.specs.Order.{never}
use Rattle.meaning.specs.Entries.{system}
use Rattle.compare.proofs.Under.{diff-first, diff-second, diff-system, diff-unlike, diff-at}
use Rattle.compare.proofs.difference_at.Goals as goal
use Rattle.compare.proofs.difference_at.Goals.{then-system, else-system}

pub returns-in-First : goal.returns-in-First
returns-in-First c = diff-at _ _ _ _ c.in-First.is (c.name_only.ensures ∙ diff-first _ _ _ _ _)

pub returns-in-Second : goal.returns-in-Second
returns-in-Second c = diff-at _ _ _ _ c.in-Second.is (c.name_only-in-Second.ensures ∙ diff-second _ _ _ _ _)

pub returns-then-system-2 : goal.returns-then-system-2
returns-then-system-2 c = let a = c.args in diff-at _ _ _ _ c.in-Both.is (diff-system _ _ _ _ _ _
    (elim c.if-system.branch [
      | then-system w ↦ ap (λ (b : Bool). b || system a.second.now.g a.second.now.image.now c.in-Both.t) (sym c.system.ensures ∙ w.if-system.true)
      | else-system w ↦ λ i. (sym c.system.ensures ∙ w.if-system.false) i || (sym w.system-else-system.ensures ∙ sym w.value-is ∙ c.if-system-2.true) i
    ]) c.name_only-then-system-2.ensures)

pub returns-else-system-2 : goal.returns-else-system-2
returns-else-system-2 c = let a = c.args in diff-at _ _ _ _ c.in-Both.is (diff-unlike _ _ _ _ _ _
    (elim c.if-system.branch as (λ w. (system a.first.now.g a.first.now.image.now c.in-Both.s
    || system a.second.now.g a.second.now.image.now c.in-Both.t) ≡ false) [
      | then-system w ↦ never (sym w.if-system.true ∙ sym w.value-is ∙ c.if-system-2.false)
      | else-system w ↦ λ i. (sym c.system.ensures ∙ w.if-system.false) i || (sym w.system-else-system.ensures ∙ sym w.value-is ∙ c.if-system-2.false) i
    ]) c.unlike.ensures)
