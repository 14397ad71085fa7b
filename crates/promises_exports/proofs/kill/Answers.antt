use Rattle.promises_exports.proofs.FromContract.{killed}
use Rattle.promises_exports.proofs.kill.Goals as goal

-- src/lib.rt:295:1
pub returns : goal.returns
returns c = let a = c.args in killed a.g a.image.now a.handle.now c.genie_kill.ensures
