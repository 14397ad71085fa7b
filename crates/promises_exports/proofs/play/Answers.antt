use Rattle.promises_exports.specs.Others.{PlayedBack}
use Rattle.promises_exports.specs.OthersKept.{played-back}
use Rattle.promises_exports.proofs.FromContract.{of-answer}
use Rattle.promises_exports.proofs.play.Goals as goal

-- src/lib.rt:415:1
pub returns : goal.returns
returns c = let a = c.args in of-answer (PlayedBack a.g a.image.now a.trace.now a.results.now) c.genie_play.ensures
    (played-back a.g a.image.now a.trace.now a.results.now)
