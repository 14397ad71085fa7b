use Prim.Native.Nat.{◌<◌, ◌/◌, ◌^◌}
use Rattle.lists.specs.Sizes.{width-lt}
use mathlib.Core.Path.{refl}
use native.Mathlib.Omega.{arith}
use Rattle.growth.proofs.Handed.{ready}
use Rattle.allot.proofs.Allotting.{refused, grew}
use Rattle.passed.proofs.Checked.{handed}
use Rattle.allot.proofs.allot_checked.Goals as goal

pub returns-in-Err : goal.returns-in-Err
returns-in-Err c = let e = c.in-Err.ensures in refused _ _ _ _ c.sector_ranged-ranged.ensures (handed _ _ _ c.requires e.0) refl e.1

pub overflow_add-k : goal.overflow_add-k
overflow_add-k c = let w = c.granule_sectors-w in let q : c.args.k / w.result < 2 ^ 63 = width-lt (omega (arith, w.ensures.some))
    c.args.k (2 ^ 63) (omega (arith, w.ensures.some)) in
    omega arith

pub grow-requires : goal.grow-requires
grow-requires c = let a = c.args in ready a.g a.image.now a.h c.sector_ranged-ranged.result 4 refl c.in_default.ensures

pub returns-in-Err-grow : goal.returns-in-Err-grow
returns-in-Err-grow c = let e = c.in-Err-grow.ensures in
    grew _ _ _ _ c.sector_ranged-ranged.ensures c.granule_sectors-w.ensures.is
    (handed _ _ _ c.requires c.after.ensures) refl c.in_default.ensures e.0 e.1

pub returns : goal.returns
returns c = let e = c.in_default-grow.ensures in
    grew _ _ _ _ c.sector_ranged-ranged.ensures c.granule_sectors-w.ensures.is (handed _ _ _ c.requires c.accepted.ensures) refl
    c.in_default.ensures e.0 e.1
