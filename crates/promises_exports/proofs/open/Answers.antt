use Rattle.promises_exports.proofs.FromContract.{opened}
use Rattle.promises_exports.proofs.open.Goals as goal

-- src/lib.rt:63:1
pub returns : goal.returns
returns c = let a = c.args in opened a.g a.image.now a.name.now a.length a.checking a.code a.handle.now c.genie_open.ensures
