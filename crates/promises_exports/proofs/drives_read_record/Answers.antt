use Rattle.drives.specs.Pair.{pair}
use Rattle.promises_exports.specs.Others.{ReadOn}
use Rattle.promises_exports.specs.DrivesKept.{read-on}
use Rattle.promises_exports.proofs.FromContract.{of-answer}
use Rattle.promises_exports.proofs.drives_read_record.Goals as goal

-- src/lib.rt:688:1
pub returns : goal.returns
returns c = let a = c.args in let p = pair a.g0 a.image0.now a.g1 a.image1.now in
    of-answer (ReadOn p a.handle.now a.buffer.now) c.genie_drives_read_record.ensures
    (read-on p a.handle.now a.buffer.now)
