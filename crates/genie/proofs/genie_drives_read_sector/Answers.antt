use mathlib.Core.Path.{ap, ◌∙◌}
use Rattle.drives.specs.declared.DriveHandle.{DriveHandle}
use Rattle.drives.specs.ByHandle.{read_sector}
use Rattle.drives.specs.Pair.{pair}
use Rattle.meaning.specs.declared.Geometry.{Geometry}
use Rattle.genie.specs.Drives.{drives_read_sector}
use Rattle.genie.proofs.Drives.{at-drives, lying}
use Rattle.genie.proofs.genie_drives_read_sector.Goals as goal

pub returns : goal.returns
returns c =
    let a = c.args in
    let the-geometry = c.geometry-g0 in
    let the-geometry2 = c.geometry-g1 in
    let the-handle-of = c.handle_of-h in
    let p = (pair the-geometry.result a.image0.now the-geometry2.result a.image1.now) in
    at-drives (λ (g h : Geometry).
    drives_read_sector (pair g a.image0.now h a.image1.now) a.handle.now a.k) the-geometry.ensures the-geometry2.ensures (lying
    c.sector_part-part.result c.fault_drive.ensures (c.sector_part-part.ensures.is ∙ ap (λ (x : DriveHandle). read_sector p x
    a.k) the-handle-of.ensures))
