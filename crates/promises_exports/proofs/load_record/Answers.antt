use Rattle.promises_exports.specs.Others.{RecordLoaded}
use Rattle.promises_exports.specs.OthersKept.{record-loaded}
use Rattle.promises_exports.proofs.FromContract.{of-answer}
use Rattle.promises_exports.proofs.load_record.Goals as goal

-- src/lib.rt:511:1
pub returns : goal.returns
returns c = let a = c.args in of-answer (RecordLoaded a.g a.image.now a.handle.now a.buffer.now) c.genie_load_record.ensures
    (record-loaded a.g a.image.now a.handle.now a.buffer.now)
