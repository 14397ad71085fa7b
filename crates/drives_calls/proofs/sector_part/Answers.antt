use Rattle.std.proofs.Common.{arith}
use Rattle.drives.specs.Pair.{pair}
use Rattle.drives_calls.proofs.OnDrive.{part-0, part-1, part_none, lies-0, lies-1, lies-none}
use Rattle.drives_calls.proofs.sector_part.Goals as goal

pub returns-in-0 : goal.returns-in-0
returns-in-0 c = let a = c.args in let p = pair a.g0 a.image0.now a.g1 a.image1.now in record {
  is = part-0 p a.h a.k c.in-0.is c.part_on.ensures
      c.sector_part.ensures.is;
  lies = lies-0 p a.h a.k c.part_on.ensures c.sector_part.ensures.lies;
}

pub returns-in-1 : goal.returns-in-1
returns-in-1 c = let a = c.args in let p = pair a.g0 a.image0.now a.g1 a.image1.now in record {
  is = part-1 p a.h a.k (λ z. let e = c.in-1.is in omega (arith, z, e)) c.in-1.is
      c.part_on-in-1.ensures c.sector_part-in-1.ensures.is;
  lies = lies-1 p a.h a.k c.part_on-in-1.ensures
      c.sector_part-in-1.ensures.is c.sector_part-in-1.ensures.lies;
}

pub returns-in_default : goal.returns-in_default
returns-in_default c = let a = c.args in let p = pair a.g0 a.image0.now a.g1 a.image1.now in record {
  is = part_none p a.h a.k (λ z. let e = c.in_default in omega (arith, z, e)) (λ z. let e = c.in_default in omega (arith, z, e))
      c.no_part.ensures c.no_such_drive.ensures;
  lies = lies-none p a.h a.k c.no_part.ensures;
}
