use Rattle.std.proofs.Common.{arith}
use Rattle.std.proofs.lemmas.Grind.{common_steps}
use Rattle.meaning.specs.Lists.{all, any}
use Rattle.meaning.specs.Fault.{shared_fault}
use Rattle.fault_kinds.specs.Overlap.{twice-is}
use Rattle.fault_kinds.proofs.Bridge.{below-is}
use Rattle.fault_kinds.proofs.shared_fault.Goals as goal

pub returns-then-twice : goal.returns-then-twice
unfolding shared_fault all any
returns-then-twice c = let d = c.args.disk.now in let s = c.args.s in
    grind (arith, common_steps, twice-is d.g d.image.now s, below-is d.g d.image.now s c.requires.low)

pub returns-else-twice : goal.returns-else-twice
unfolding shared_fault all any
returns-else-twice c = let d = c.args.disk.now in let s = c.args.s in
    grind (arith, common_steps, twice-is d.g d.image.now s, below-is d.g d.image.now s c.requires.low)

pub returns-else-flag : goal.returns-else-flag
unfolding shared_fault all any
returns-else-flag c = let d = c.args.disk.now in let s = c.args.s in
    grind (arith, common_steps, twice-is d.g d.image.now s, below-is d.g d.image.now s c.requires.low)
