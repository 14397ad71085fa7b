use Rattle.drives.specs.Pair.{pair}
use Rattle.promises_exports.specs.Others.{KilledOn}
use Rattle.promises_exports.specs.DrivesKept.{killed-on}
use Rattle.promises_exports.proofs.FromContract.{of-answer}
use Rattle.promises_exports.proofs.drives_kill.Goals as goal

-- src/lib.rt:869:1
pub returns : goal.returns
returns c = let a = c.args in let p = pair a.g0 a.image0.now a.g1 a.image1.now in
    of-answer (KilledOn p a.handle.now) c.genie_drives_kill.ensures (killed-on p a.handle.now)
