use Rattle.check_whole.proofs.Directory.{directory-on-map}
use Rattle.check_map.proofs.Window.{base-at, base-spans}
use Rattle.lists.specs.Sizes.{touched-few}
use Rattle.check_whole.proofs.directory_from.Goals as goal

pub returns : goal.returns
returns c = let p = c.args.disk.now.room in
    base-spans c.args.disk.now.g.units _ _ (base-at _ (rw (← c.granule_sectors.ensures.is) c.min.ensures)) p.units-low
    (touched-few _ _ p.thirty) (directory-on-map _ _ p)
