use Rattle.free_space.proofs.GatPass.{met-taken, met-free}
use mathlib.Core.Path.{◌∙◌}
use Rattle.free_space.proofs.met.Goals as goal

pub returns-then-taken : goal.returns-then-taken
returns-then-taken c = c.ended.ensures ∙ met-taken _ c.if-taken.true

pub returns-else-taken : goal.returns-else-taken
returns-else-taken c = c.longer.ensures ∙ met-free _ c.if-taken.false
