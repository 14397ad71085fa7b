use Rattle.write.proofs.Calls.{after-sequential, after-random}
use Rattle.meaning.specs.declared.Mode.{Mode}
use Rattle.meaning.specs.Write.{size_after}
use mathlib.Core.Path.{ap, sym, ◌∙◌}
use Rattle.write.proofs.size_after.Goals as goal

pub returns-in-Sequential : goal.returns-in-Sequential
returns-in-Sequential c = sym (ap (λ (m : Mode). size_after m c.args.old c.args.end) c.in-Sequential.is ∙ after-sequential _ _)

pub returns-in-Random : goal.returns-in-Random
returns-in-Random c = c.max.ensures ∙ sym (ap (λ (m : Mode). size_after m c.args.old c.args.end) c.in-Random.is ∙ after-random _ _)
