use Rattle.genie.proofs.HandsBack.{at-disk, looked}
use Rattle.genie.specs.Exports.{exported_look_up}
use Rattle.meaning.specs.declared.Geometry.{Geometry}
use Rattle.genie.proofs.genie_look_up.Goals as goal

pub returns : goal.returns
returns c = let a = c.args in at-disk (λ (g : Geometry). exported_look_up g a.image.now a.name.now) c.geometry-g.ensures (looked
    c.look_up-l.result c.slot_told.ensures c.place_of.ensures c.look_up-l.ensures)
