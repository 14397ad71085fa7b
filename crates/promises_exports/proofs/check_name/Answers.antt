use Rattle.promises_exports.specs.Others.{NameChecked}
use Rattle.promises_exports.specs.OthersKept.{name-checked}
use Rattle.promises_exports.proofs.FromContract.{of-answer}
use Rattle.promises_exports.proofs.check_name.Goals as goal

-- src/lib.rt:384:1
pub returns : goal.returns
returns c = let a = c.args in of-answer (NameChecked a.name.now a.folded.now) c.genie_name.ensures (name-checked a.name.now a.folded.now)
