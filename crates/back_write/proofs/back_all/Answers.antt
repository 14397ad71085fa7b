use Rattle.back_taken.proofs.Steps.{first-all}
use Rattle.back_write.proofs.Done.{done_end}
use Rattle.back_write.proofs.Frame.{backing-start, backing-more}
use Rattle.space.proofs.Folds.{kept-room, kept_slot}
use Rattle.meaning.specs.Lists.{through}
use mathlib.Core.Path.{ap, ◌∙◌}
use Rattle.back_write.proofs.back_all.Goals as goal

pub loop-back-init : goal.loop-back-init
loop-back-init c = backing-start _ _ _ _ _

pub back_entry-requires : goal.back_entry-requires
back_entry-requires c = let l = c.loop-back.invariant in let p = c.requires in
    (kept-room _ p.0 l.kept, kept_slot _ l.kept (p.1.entry _ c.loop-back-test.true).slot, p.2)

pub loop-back-preserved : goal.loop-back-preserved
loop-back-preserved c = let p = c.requires in backing-more _ p.0 p.1 c.loop-back.invariant c.loop-back-test.true c.back_entry.ensures

pub shape_of-image : goal.shape_of-image
shape_of-image c = c.loop-back.invariant.kept.long

pub returns : goal.returns
returns c = done_end c.loop-back.invariant.done c.loop-back-test.false ∙ ap (through _ _) (first-all _)
