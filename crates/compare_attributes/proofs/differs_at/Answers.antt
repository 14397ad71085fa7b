use Rattle.compare_attributes.proofs.Attributes.{differs-is}
use Rattle.compare_attributes.proofs.differs_at.Goals as goal

pub returns : goal.returns
returns c = differs-is _ _ _ _ _ _ _ c.field.ensures.is c.field-2.ensures.is
