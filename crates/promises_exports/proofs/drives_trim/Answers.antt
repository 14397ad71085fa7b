use Rattle.drives.specs.Pair.{pair}
use Rattle.promises_exports.specs.Others.{TrimmedOn}
use Rattle.promises_exports.specs.DrivesKept.{trimmed-on}
use Rattle.promises_exports.proofs.FromContract.{of-answer}
use Rattle.promises_exports.proofs.drives_trim.Goals as goal

-- src/lib.rt:836:1
pub returns : goal.returns
returns c = let a = c.args in let p = pair a.g0 a.image0.now a.g1 a.image1.now in
    of-answer (TrimmedOn p a.handle.now) c.genie_drives_trim.ensures (trimmed-on p a.handle.now)
