use mathlib.Core.Path.{ap}
use Rattle.meaning.specs.declared.Geometry.{Geometry}
use Rattle.genie.specs.Exports.{spaces, exported_free}
use Rattle.genie.proofs.HandsBack.{at-disk}
use Rattle.genie.proofs.genie_free.Goals as goal

pub returns : goal.returns
returns c =
    let a = c.args in
    let the-geometry = c.geometry-g in
    let the-free-space = c.free_space-s in
    at-disk (λ (g : Geometry). exported_free g a.image.now) the-geometry.ensures (ap spaces the-free-space.ensures)
