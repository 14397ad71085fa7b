use Rattle.promises_exports.proofs.FromContract.{trimmed}
use Rattle.promises_exports.proofs.trim.Goals as goal

-- src/lib.rt:278:1
pub returns : goal.returns
returns c = let a = c.args in trimmed a.g a.image.now a.handle.now c.genie_trim.ensures
