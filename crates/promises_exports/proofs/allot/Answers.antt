use Rattle.promises_exports.proofs.FromContract.{allotted}
use Rattle.promises_exports.proofs.allot.Goals as goal

-- src/lib.rt:260:1
pub returns : goal.returns
returns c = let a = c.args in allotted a.g a.image.now a.handle.now a.k c.genie_allot.ensures
