use Rattle.space.proofs.Masks.{bits-set, bits-clear}
use Rattle.space.proofs.put_bits.Goals as goal

pub returns-then-set : goal.returns-then-set
returns-then-set c = bits-set c.args.byte c.args.u c.args.n c.requires.0
    c.requires.1 c.mask-bits.ensures.is c.if-set.true

pub returns-else-set : goal.returns-else-set
returns-else-set c = bits-clear c.args.byte c.args.u c.args.n c.requires.0
    c.requires.1 c.mask-bits.ensures.is c.if-set.false
