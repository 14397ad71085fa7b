use Rattle.promises_exports.specs.Others.{ListedFrom}
use Rattle.promises_exports.specs.OthersKept.{listed-from}
use Rattle.promises_exports.proofs.FromContract.{of-answer}
use Rattle.promises_exports.proofs.list_from.Goals as goal

-- src/lib.rt:445:1
pub returns : goal.returns
returns c = let a = c.args in of-answer (ListedFrom a.g a.image.now a.number a.table.now) c.genie_list_from.ensures
    (listed-from a.g a.image.now a.number a.table.now)
