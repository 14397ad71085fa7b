use mathlib.Core.Path.{ap}
use Rattle.meaning.specs.declared.Geometry.{Geometry}
use Rattle.genie.specs.Exports.{numbers, exported_count}
use Rattle.genie.proofs.HandsBack.{at-disk}
use Rattle.genie.proofs.genie_count.Goals as goal

pub returns : goal.returns
returns c =
    let a = c.args in
    let the-geometry = c.geometry-g in
    let the-counts = c.counts-c in
    at-disk (λ (g : Geometry). exported_count g a.image.now) the-geometry.ensures (ap numbers the-counts.ensures)
