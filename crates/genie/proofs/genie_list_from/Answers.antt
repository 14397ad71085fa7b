use mathlib.Core.Path.{ap}
use Rattle.meaning.specs.declared.Geometry.{Geometry}
use Rattle.genie.specs.Table.{tells_rows, exported_list_from}
use Rattle.genie.proofs.HandsBack.{at-disk}
use Rattle.genie.proofs.genie_list_from.Goals as goal

pub returns : goal.returns
returns c =
    let a = c.args in
    let the-geometry = c.geometry-g in
    let the-list-from = c.list_from-r in
    at-disk (λ (g : Geometry). exported_list_from g a.image.now a.number a.table.now) the-geometry.ensures
    (ap tells_rows the-list-from.ensures)
