use Rattle.play.proofs.OneCall.{open-refused, open_made, read_is}
use Rattle.play.proofs.read_through.Goals as goal

pub returns-in-Err : goal.returns-in-Err
returns-in-Err c = open-refused _ _ _ _ _ c.in-Err.ensures

pub returns : goal.returns
returns c = open_made _ _ _ _ _ c.in-Ok.ensures (read_is _ _ _ _ c.read_checked.ensures)
