use Rattle.promises_exports.proofs.FromContract.{listed}
use Rattle.promises_exports.proofs.list.Goals as goal

-- src/lib.rt:312:1
pub returns : goal.returns
returns c = let a = c.args in listed a.g a.image.now a.number a.name.now c.genie_list.ensures
