use native.Mathlib.Omega.{arith}
use Rattle.growth_search.proofs.ClearFrom.{counted-low, units-count}
use Rattle.growth_search.proofs.units_clear.Goals as goal

pub overflow_cast-result : goal.overflow_cast-result
overflow_cast-result c = let q = counted-low c.args.u c.args.n c.gat_byte-x.result in omega arith

pub returns : goal.returns
returns c = let a = c.args in let disk = a.disk.now in units-count disk.g disk.image.now a.b a.u a.n c.requires.1 disk.room.units-high c.gat_byte-x.ensures.is
    c.gat_byte-x.ensures.small
