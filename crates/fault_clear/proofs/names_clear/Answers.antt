use Rattle.fault_clear.proofs.Passes.{names-all, names-none}
use mathlib.Core.Path.{sym, ◌∙◌}
use Rattle.fault_clear.proofs.names_clear.Goals as goal

pub returns-then-names_differ : goal.returns-then-names_differ
returns-then-names_differ c = names-all _ _ (sym c.names_differ.ensures ∙ c.if-names_differ.true)

pub returns-else-names_differ : goal.returns-else-names_differ
returns-else-names_differ c = names-none _ _
