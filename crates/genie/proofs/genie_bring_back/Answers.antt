use mathlib.Core.Path.{ap}
use Rattle.meaning.specs.declared.Geometry.{Geometry}
use Rattle.genie.specs.Exports.{brings, exported_bring_back}
use Rattle.genie.proofs.HandsBack.{at-disk}
use Rattle.genie.proofs.genie_bring_back.Goals as goal

pub returns : goal.returns
returns c =
    let a = c.args in
    let the-geometry = c.geometry-g in
    let the-bring-back = c.bring_back-b in
    at-disk (λ (g : Geometry). exported_bring_back g a.image.now a.slot) the-geometry.ensures (ap brings the-bring-back.ensures)
