use native.Mathlib.Omega.{arith}
use mathlib.Core.Path.{ap, ◌∙◌}
use lib.Seq.{sets, take_all}
use Rattle.entry.proofs.EntryTests.{name-long}
use Rattle.listing.proofs.Rows.{row_put, numbers-are}
use Rattle.listing.proofs.put_row.Goals as goal

pub returns : goal.returns
returns c = let name = c.name_of-name in let a = c.args in let l = name-long a.disk.now.g a.disk.now.image.now a.s name.ensures in
    row_put a.disk.now.g a.disk.now.image.now a.table.now a.to a.s (take_all 11 name.result (omega arith) ∙ name.ensures)
    c.size_of.ensures.is c.measure.ensures.many c.put_part.ensures
    (c.put_part-2.ensures ∙ ap (sets _ _) (numbers-are a.s _ _ c.requires.1.slot.low c.to_le_bytes-size.ensures c.to_le_bytes-granules.ensures))
