use Rattle.play.proofs.OneCall.{open-refused, open_made, kill-is}
use Rattle.play.proofs.kill_file.Goals as goal

pub returns-in-Err : goal.returns-in-Err
returns-in-Err c = open-refused _ _ _ _ _ c.in-Err.ensures

pub returns-in-Ok : goal.returns-in-Ok
returns-in-Ok c = open_made _ _ _ _ _ c.in-Ok.ensures (kill-is _ _ _ c.kill_checked.ensures)
