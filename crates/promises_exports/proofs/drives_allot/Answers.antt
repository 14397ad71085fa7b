use Rattle.drives.specs.Pair.{pair}
use Rattle.promises_exports.specs.Others.{AllottedOn}
use Rattle.promises_exports.specs.DrivesKept.{allotted-on}
use Rattle.promises_exports.proofs.FromContract.{of-answer}
use Rattle.promises_exports.proofs.drives_allot.Goals as goal

-- src/lib.rt:801:1
pub returns : goal.returns
returns c = let a = c.args in let p = pair a.g0 a.image0.now a.g1 a.image1.now in
    of-answer (AllottedOn p a.handle.now a.k) c.genie_drives_allot.ensures (allotted-on p a.handle.now a.k)
