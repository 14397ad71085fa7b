use Rattle.promises_exports.specs.SectorLent.{SectorLent, sector-lent}
use Rattle.promises_exports.proofs.FromContract.{of-answer}
use Rattle.promises_exports.proofs.sector.Goals as goal

-- src/lib.rt:903:1
pub returns : goal.returns
returns c = let a = c.args in record {
  what = of-answer (SectorLent a.g a.image.now a.h a.k) c.read_sector.ensures.what (sector-lent a.g a.image.now a.h a.k);
  place_at = c.read_sector.ensures.place_at;
}
