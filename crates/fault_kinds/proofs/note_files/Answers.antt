use Rattle.fault_kinds.proofs.Noting.{walking-end}
use Rattle.fault_kinds.proofs.note_files.Goals as goal

pub loop-p-init : goal.loop-p-init
loop-p-init c = c.requires

pub loop-p-preserved : goal.loop-p-preserved
loop-p-preserved c = c.note_file.ensures

pub returns : goal.returns
returns c = walking-end _ _ _ c.loop-p-test.false c.loop-p.invariant
