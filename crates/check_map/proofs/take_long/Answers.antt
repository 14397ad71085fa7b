use Rattle.check_map.proofs.take_long.Goals as goal

pub take_stretch-requires : goal.take_stretch-requires
take_stretch-requires c = let p = (rw c.if-units-eq8.true at c.requires) in (p.0, p.2, p.3, p.4)

pub returns-then-units-eq8 : goal.returns-then-units-eq8
returns-then-units-eq8 c = rw c.if-units-eq8.true c.take_stretch.ensures
