use Rattle.promises_exports.proofs.FromContract.{checked}
use Rattle.promises_exports.proofs.check.Goals as goal

-- src/lib.rt:19:1
pub returns : goal.returns
returns c = let a = c.args in checked a.g a.image.now c.genie_check.ensures
