use Rattle.drives.specs.Pair.{pair}
use Rattle.promises_exports.specs.Others.{WrittenOn}
use Rattle.promises_exports.specs.DrivesKept.{written_on}
use Rattle.promises_exports.proofs.FromContract.{of-answer}
use Rattle.promises_exports.proofs.drives_write_record.Goals as goal

-- src/lib.rt:764:1
pub returns : goal.returns
returns c = let a = c.args in let p = pair a.g0 a.image0.now a.g1 a.image1.now in
    of-answer (WrittenOn p a.handle.now a.sequential a.buffer.now)
    c.genie_drives_write_record.ensures
    (written_on p a.handle.now a.sequential a.buffer.now)
