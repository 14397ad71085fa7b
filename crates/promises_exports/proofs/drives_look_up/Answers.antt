use Rattle.drives.specs.Pair.{pair}
use Rattle.promises_exports.specs.Others.{LookedUpOn}
use Rattle.promises_exports.specs.DrivesKept.{looked-up-on}
use Rattle.promises_exports.proofs.FromContract.{of-answer}
use Rattle.promises_exports.proofs.drives_look_up.Goals as goal

-- src/lib.rt:544:1
pub returns : goal.returns
returns c = let a = c.args in let p = pair a.g0 a.image0.now a.g1 a.image1.now in
    of-answer (LookedUpOn p a.numbered a.drive a.name.now) c.genie_drives_look_up.ensures
    (looked-up-on p a.numbered a.drive a.name.now)
