use mathlib.Core.Path.{ap, ◌∙◌}
use Rattle.drives.specs.declared.DriveHandle.{DriveHandle}
use Rattle.drives.specs.ByHandle.{kill}
use Rattle.drives.specs.Pair.{pair}
use Rattle.meaning.specs.declared.Geometry.{Geometry}
use Rattle.genie.specs.Drives.{drives_kill}
use Rattle.genie.proofs.Drives.{at-drives, changing}
use Rattle.genie.proofs.genie_drives_kill.Goals as goal

pub returns : goal.returns
returns c =
    let a = c.args in
    let the-geometry = c.geometry-g0 in
    let the-geometry2 = c.geometry-g1 in
    let the-handle-of = c.handle_of-h in
    let the-kill = c.kill-a in
    let p = (pair the-geometry.result a.image0.now the-geometry2.result a.image1.now) in
    at-drives (λ (g h : Geometry). drives_kill
    (pair g a.image0.now h a.image1.now) a.handle.now) the-geometry.ensures the-geometry2.ensures (changing the-kill.result
    the-kill.new.image0 the-kill.new.image1 c.fault_drive.ensures (the-kill.ensures ∙ ap (λ (x : DriveHandle). kill p x)
    the-handle-of.ensures))
