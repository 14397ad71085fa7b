use mathlib.Core.Path.{ap}
use Rattle.meaning.specs.declared.Geometry.{Geometry}
use Rattle.genie.specs.Exports.{plays, exported_play}
use Rattle.genie.proofs.HandsBack.{at-disk}
use Rattle.genie.proofs.genie_play.Goals as goal

pub returns : goal.returns
returns c =
    let a = c.args in
    let the-geometry = c.geometry-g in
    let the-play = c.play-p in
    at-disk (λ (g : Geometry). exported_play g a.image.now a.trace.now a.results.now) the-geometry.ensures (ap plays the-play.ensures)
