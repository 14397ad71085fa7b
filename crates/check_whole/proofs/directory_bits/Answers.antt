use Rattle.check_whole.proofs.Directory.{on-map-at, spans-at, window-at}
use mathlib.Core.Path.{refl}
use native.Mathlib.Omega.{arith}
use Rattle.check_whole.proofs.directory_bits.Goals as goal

pub directory_bits-requires : goal.directory_bits-requires
directory_bits-requires c = let r = c.args.disk.now.room in let e = c.directory_granules.ensures.is in let z = c.directory_granules.ensures.small in (
  r.units-low,
  r.units-high,
  omega arith,
  on-map-at _ _ (rw (← c.granule_sectors.ensures.is) refl) e r,
  spans-at _ _ (rw (← c.granule_sectors.ensures.is) refl) e c.requires,
)

pub returns : goal.returns
returns c = record {
  spans = c.requires;
  window = window-at _ _ (rw (← c.granule_sectors.ensures.is) refl) c.directory_granules.ensures.is c.directory_bits.ensures;
}
