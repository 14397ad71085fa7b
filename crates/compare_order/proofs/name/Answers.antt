use Rattle.compare_order.proofs.Names.{placed-name}
use Rattle.compare_order.proofs.name.Goals as goal

pub returns : goal.returns
returns c = placed-name _ _ _ (c.args.disk.now.room, c.requires) c.name_at-p.ensures
