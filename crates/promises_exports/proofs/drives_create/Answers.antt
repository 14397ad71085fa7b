use Rattle.drives.specs.Pair.{pair}
use Rattle.promises_exports.specs.Others.{CreatedOn}
use Rattle.promises_exports.specs.DrivesKept.{created-on}
use Rattle.promises_exports.proofs.FromContract.{of-answer}
use Rattle.promises_exports.proofs.drives_create.Goals as goal

-- src/lib.rt:636:1
pub returns : goal.returns
returns c = let a = c.args in let p = pair a.g0 a.image0.now a.g1 a.image1.now in
    of-answer (CreatedOn p a.numbered a.drive a.name.now a.f a.checking a.handle.now)
    c.genie_drives_create.ensures
    (created-on p a.numbered a.drive a.name.now a.f a.checking a.handle.now)
