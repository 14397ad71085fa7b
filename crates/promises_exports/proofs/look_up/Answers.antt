use Rattle.promises_exports.proofs.FromContract.{looked-up}
use Rattle.promises_exports.proofs.look_up.Goals as goal

-- src/lib.rt:35:1
pub returns : goal.returns
returns c = let a = c.args in looked-up a.g a.image.now a.name.now c.genie_look_up.ensures
