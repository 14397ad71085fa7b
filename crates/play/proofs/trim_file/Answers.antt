use Rattle.play.proofs.OneCall.{open-refused, open_made, trim-is}
use Rattle.play.proofs.trim_file.Goals as goal

pub returns-in-Err : goal.returns-in-Err
returns-in-Err c = open-refused _ _ _ _ _ c.in-Err.ensures

pub returns-in-Ok : goal.returns-in-Ok
returns-in-Ok c = open_made _ _ _ _ _ c.in-Ok.ensures (trim-is _ _ _ c.trim_checked.ensures)
