use Rattle.promises_exports.proofs.FromContract.{record-written}
use Rattle.promises_exports.proofs.write_record.Goals as goal

-- src/lib.rt:208:1
pub returns : goal.returns
returns c = let a = c.args in record-written a.g a.image.now a.handle.now a.sequential a.buffer.now c.genie_write_record.ensures
