use Rattle.promises_exports.proofs.FromContract.{counted}
use Rattle.promises_exports.proofs.count.Goals as goal

-- src/lib.rt:342:1
pub returns : goal.returns
returns c = let a = c.args in counted a.g a.image.now c.genie_count.ensures
