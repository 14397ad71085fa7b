use Rattle.promises_exports.proofs.FromContract.{bytes-written}
use Rattle.promises_exports.proofs.write_bytes.Goals as goal

-- src/lib.rt:234:1
pub returns : goal.returns
returns c = let a = c.args in bytes-written a.g a.image.now a.handle.now a.sequential a.buffer.now c.genie_write_bytes.ensures
