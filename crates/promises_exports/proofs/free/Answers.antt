use Rattle.promises_exports.proofs.FromContract.{measured}
use Rattle.promises_exports.proofs.free.Goals as goal

-- src/lib.rt:366:1
pub returns : goal.returns
returns c = let a = c.args in measured a.g a.image.now c.genie_free.ensures
