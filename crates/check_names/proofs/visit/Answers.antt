use mathlib.Core.Path.{sym, ◌∙◌}
use Rattle.check_names.proofs.Buckets.{visit-other, visit-file}
use Rattle.check_names.proofs.visit.Goals as goal

pub returns-then-not-primary_at : goal.returns-then-not-primary_at
returns-then-not-primary_at c = visit-other _ _ _ _ _ c.requires.2 c.requires.0.low c.primary_at.ensures c.if-not-primary_at.true

pub joins-requires : goal.joins-requires
joins-requires c = (c.requires.0, c.requires.1, sym c.primary_at.ensures ∙ c.if-not-primary_at.false, c.requires.2.lists)

pub returns-else-not-primary_at : goal.returns-else-not-primary_at
returns-else-not-primary_at c = visit-file _ _ _ _ _ _ _ c.requires.2 c.requires.0 c.primary_at.ensures c.if-not-primary_at.false c.joins.ensures
