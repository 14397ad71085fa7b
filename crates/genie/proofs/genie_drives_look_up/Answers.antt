use Rattle.drives.specs.Pair.{pair}
use Rattle.meaning.specs.declared.Geometry.{Geometry}
use Rattle.genie.specs.Drives.{drives_look_up}
use Rattle.genie.proofs.Drives.{at-drives, looked}
use Rattle.genie.proofs.genie_drives_look_up.Goals as goal

pub returns : goal.returns
returns c =
    let a = c.args in
    let the-geometry = c.geometry-g0 in
    let the-geometry2 = c.geometry-g1 in
    let the-look-up = c.look_up-found in
    let the-fault-drive = c.fault_drive in
    at-drives (λ (g h : Geometry). drives_look_up (pair g a.image0.now h a.image1.now) a.numbered a.drive a.name.now)
    the-geometry.ensures the-geometry2.ensures (looked the-look-up.result the-fault-drive.ensures c.slot_told.ensures
    c.place_of.ensures the-look-up.ensures)
