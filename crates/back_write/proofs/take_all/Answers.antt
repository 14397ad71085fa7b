use Rattle.back_taken.proofs.Steps.{all-steps, first-all}
use Rattle.back_write.proofs.Done.{done_end}
use Rattle.back_write.proofs.Frame.{taking-start, taking-entry}
use Rattle.back_taken.proofs.OnDisk.{same-on-disk}
use Rattle.seek.proofs.Frame.{same-room}
use Rattle.meaning.specs.Lists.{each, through}
use mathlib.Core.Path.{ap, ◌∙◌}
use Rattle.back_write.proofs.take_all.Goals as goal

pub loop-s-init : goal.loop-s-init
loop-s-init c = taking-start _ _ _ (all-steps _ _)

pub take_entry-requires : goal.take_entry-requires
take_entry-requires c = let l = c.loop-s.invariant in let p = c.requires in
    (same-room _ _ _ p.0 l.same, same-on-disk _ p.0 l.same (p.1.entry _ c.loop-s-test.true))

pub loop-s-preserved : goal.loop-s-preserved
loop-s-preserved c = let p = c.requires in taking-entry _ p.0 p.1 c.loop-s.invariant c.loop-s-test.true c.take_entry.ensures

pub shape_of-image : goal.shape_of-image
shape_of-image c = c.loop-s.invariant.same.long

pub returns : goal.returns
returns c = done_end c.loop-s.invariant.done c.loop-s-test.false ∙ ap (through _ _) (ap (each _) (first-all _))
