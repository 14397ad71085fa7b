use mathlib.Core.Path.{◌∙◌}
use Rattle.compare_attributes.proofs.Attributes.{date-first, date-second}
use Rattle.compare_attributes.proofs.dates_differ.Goals as goal

pub returns-then-differs_at : goal.returns-then-differs_at
returns-then-differs_at c = c.if-differs_at.true ∙ date-first _ _ _ _ _ _ c.differs_at.ensures c.if-differs_at.true

pub returns-else-differs_at : goal.returns-else-differs_at
returns-else-differs_at c = date-second _ _ _ _ _ _ _ _ c.differs_at.ensures c.if-differs_at.false c.field.ensures.is
    c.field-else-differs_at.ensures.is
