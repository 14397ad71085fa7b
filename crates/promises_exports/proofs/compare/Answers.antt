use Rattle.promises_exports.specs.Others.{ComparedWith}
use Rattle.promises_exports.specs.OthersKept.{compared-with}
use Rattle.promises_exports.proofs.FromContract.{of-answer}
use Rattle.promises_exports.proofs.compare.Goals as goal

-- src/lib.rt:470:1
pub returns : goal.returns
returns c = let a = c.args in of-answer (ComparedWith a.g a.first.now a.h a.second.now a.number a.name.now) c.genie_compare.ensures
    (compared-with a.g a.first.now a.h a.second.now a.number a.name.now)
