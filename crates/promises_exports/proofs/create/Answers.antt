use Rattle.promises_exports.proofs.FromContract.{created}
use Rattle.promises_exports.proofs.create.Goals as goal

-- src/lib.rt:95:1
pub returns : goal.returns
returns c = let a = c.args in created a.g a.image.now a.name.now a.f a.checking a.handle.now c.genie_create.ensures
