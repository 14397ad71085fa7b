use Rattle.promises_exports.proofs.FromContract.{record-read}
use Rattle.promises_exports.proofs.read_record.Goals as goal

-- src/lib.rt:132:1
pub returns : goal.returns
returns c = let a = c.args in record-read a.g a.image.now a.handle.now a.buffer.now c.genie_read_record.ensures
