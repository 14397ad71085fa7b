use native.Mathlib.Omega.{arith}
use Rattle.lists.specs.Sizes.{bytes-are}
use Rattle.layout.proofs.granule_bytes.Goals as goal

pub returns : goal.returns
returns c = let w = c.granule_sectors.ensures in
    record { is = omega (arith, bytes-are c.args.g, w.is); some = omega (arith, w.some); few = omega (arith, w.few) }
