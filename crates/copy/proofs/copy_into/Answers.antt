use native.Mathlib.Omega.{arith}
use mathlib.Core.Path.{◌∙◌}
use lib.ListN.{length-set}
use Rattle.copy.proofs.OneByOne.{over-again, over-all}
use Rattle.copy.proofs.copy_into.Goals as goal

pub loop-i-preserved : goal.loop-i-preserved
loop-i-preserved c = (
  over-again _ _ _ _ c.loop-i.invariant.0 (omega arith) c.requires,
  omega arith,
  simp length-set
      c.loop-i.invariant.2,
)

pub returns : goal.returns
returns c = c.loop-i.invariant.0 ∙ over-all _ _ _ (omega arith) c.loop-i.invariant.1
