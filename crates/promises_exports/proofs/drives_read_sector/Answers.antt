use Rattle.drives.specs.Pair.{pair}
use Rattle.promises_exports.specs.Others.{SectorReadOn}
use Rattle.promises_exports.specs.DrivesKept.{sector-on}
use Rattle.promises_exports.proofs.FromContract.{of-answer}
use Rattle.promises_exports.proofs.drives_read_sector.Goals as goal

-- src/lib.rt:723:1
pub returns : goal.returns
returns c = let a = c.args in let p = pair a.g0 a.image0.now a.g1 a.image1.now in
    of-answer (SectorReadOn p a.handle.now a.k) c.genie_drives_read_sector.ensures (sector-on p a.handle.now a.k)
