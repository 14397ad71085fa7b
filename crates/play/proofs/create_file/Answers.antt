use Rattle.play.proofs.OneCall.{create-is}
use Rattle.play.proofs.create_file.Goals as goal

pub returns : goal.returns
returns c = create-is _ _ _ _ c.create_checked.ensures
