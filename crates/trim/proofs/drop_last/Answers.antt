use Rattle.trim.proofs.Trimming.{dropping-start, dropping-then, dropping-end}
use Rattle.trim.proofs.drop_last.Goals as goal

pub loop-rest-init : goal.loop-rest-init
loop-rest-init c = dropping-start _ _ c.requires

pub drop_run-rest-requires : goal.drop_run-rest-requires
drop_run-rest-requires c = (c.loop-rest.invariant.last, c.loop-rest-test.true)

pub loop-rest-smaller : goal.loop-rest-smaller
loop-rest-smaller c = c.drop_run-rest.ensures.1

pub loop-rest-preserved : goal.loop-rest-preserved
loop-rest-preserved c = let l = c.loop-rest in dropping-then _ _ l.invariant c.drop_run-rest.ensures.0

pub shape_of-image : goal.shape_of-image
shape_of-image c = c.loop-rest.invariant.long

pub returns : goal.returns
returns c = dropping-end _ _ c.loop-rest.invariant c.loop-rest-test.false
