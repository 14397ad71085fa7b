use Rattle.play.proofs.OneCall.{open-refused, open_made, write-is}
use Rattle.play.proofs.write_fill.Goals as goal

pub returns-in-Err : goal.returns-in-Err
returns-in-Err c = open-refused _ _ _ _ _ c.in-Err.ensures

pub returns : goal.returns
returns c = open_made _ _ _ _ _ c.in-Ok.ensures (write-is _ _ _ _ _ c.write_checked.ensures)
