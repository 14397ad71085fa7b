use Rattle.compare_bytes.proofs.Contents.{same_start, same-on, same_end}
use Rattle.compare_bytes.proofs.equal.Goals as goal

pub loop-i-init : goal.loop-i-init
loop-i-init c = same_start _ _

pub loop-i-preserved : goal.loop-i-preserved
loop-i-preserved c = let l = c.loop-i in let p = c.requires in same-on _ _ p c.loop-i-test.true l.invariant

pub returns : goal.returns
returns c = same_end _ _ c.requires c.loop-i-test.false c.loop-i.invariant
