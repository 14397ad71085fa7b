use Rattle.promises_exports.proofs.FromContract.{sector-read}
use Rattle.promises_exports.proofs.read_sector.Goals as goal

-- src/lib.rt:180:1
pub returns : goal.returns
returns c = let a = c.args in sector-read a.g a.image.now a.handle.now a.k c.genie_read_sector.ensures
