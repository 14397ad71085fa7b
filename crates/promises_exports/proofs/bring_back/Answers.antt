use Rattle.promises_exports.specs.Others.{BroughtBackBy}
use Rattle.promises_exports.specs.OthersKept.{brought-back}
use Rattle.promises_exports.proofs.FromContract.{of-answer}
use Rattle.promises_exports.proofs.bring_back.Goals as goal

-- src/lib.rt:390:1
pub returns : goal.returns
returns c = let a = c.args in of-answer (BroughtBackBy a.g a.image.now a.slot) c.genie_bring_back.ensures (brought-back a.g a.image.now a.slot)
