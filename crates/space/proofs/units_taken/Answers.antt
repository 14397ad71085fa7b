use Rattle.space.proofs.Looks.{units-some}
use Rattle.space.proofs.units_taken.Goals as goal

pub returns : goal.returns
returns c = let a = c.args in let disk = a.disk.now in units-some disk.g disk.image.now a.b a.u a.n c.requires.1
    disk.room.units-high c.gat_byte.ensures.is c.gat_byte.ensures.small c.mask.ensures.is
