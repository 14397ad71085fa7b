use Rattle.drives.specs.Pair.{pair}
use Rattle.promises_exports.specs.Others.{OpenedOn}
use Rattle.promises_exports.specs.DrivesKept.{opened-on}
use Rattle.promises_exports.proofs.FromContract.{of-answer}
use Rattle.promises_exports.proofs.drives_open.Goals as goal

-- src/lib.rt:589:1
pub returns : goal.returns
returns c = let a = c.args in let p = pair a.g0 a.image0.now a.g1 a.image1.now in
    of-answer (OpenedOn p a.numbered a.drive a.name.now a.length a.checking a.code a.handle.now)
    c.genie_drives_open.ensures (opened-on p a.numbered a.drive a.name.now a.length a.checking a.code
    a.handle.now)
