use Rattle.promises_exports.proofs.FromContract.{bytes_read}
use Rattle.promises_exports.proofs.read_bytes.Goals as goal

-- src/lib.rt:156:1
pub returns : goal.returns
returns c = let a = c.args in bytes_read a.g a.image.now a.handle.now a.buffer.now c.genie_read_bytes.ensures
