use Rattle.play.proofs.OneCall.{open-refused, open_made, allot-is}
use Rattle.play.proofs.allot_to.Goals as goal

pub returns-in-Err : goal.returns-in-Err
returns-in-Err c = open-refused _ _ _ _ _ c.in-Err.ensures

pub returns-in-Ok : goal.returns-in-Ok
returns-in-Ok c = open_made _ _ _ _ _ c.in-Ok.ensures (allot-is _ _ _ _ c.allot_checked.ensures)
