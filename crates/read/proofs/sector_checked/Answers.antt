use Rattle.read.proofs.ReadParts.{sector, sector-refused, sector-accepted, sector-lies}
use mathlib.Core.Path.{refl}
use native.Mathlib.Omega.{arith}
use Rattle.passed.proofs.Checked.{handed}
use Rattle.read.proofs.sector_checked.Goals as goal

pub returns-in-Err : goal.returns-in-Err
returns-in-Err c = let e = c.in-Err.ensures in record {
  is = sector-refused _ _ _ _ (handed _ _ _ c.requires e.0) refl e.1;
  lies = record { forward = omega arith; inside = omega arith };
}

pub overflow_mul-k : goal.overflow_mul-k
overflow_mul-k c = let a = c.args in let q = sector a.g a.image.now a.h a.k refl c.in_default.ensures in let l = q.low in omega arith

pub invariant_of-disk : goal.invariant_of-disk
invariant_of-disk c = let a = c.args in record { room = (sector a.g a.image.now a.h a.k refl c.in_default.ensures).file.sound.room }

pub place-from-requires : goal.place-from-requires
place-from-requires c = let a = c.args in let q = sector a.g a.image.now a.h a.k refl c.in_default.ensures in let l = q.low in
    (q.file.sound, q.file.used, omega arith)

pub sector_bytes-requires : goal.sector_bytes-requires
sector_bytes-requires c = let a = c.args in let q = sector a.g a.image.now a.h a.k refl c.in_default.ensures in let l = q.low in
    (q.file.used.slot, q.held, omega arith)

pub overflow_add-result : goal.overflow_add-result
overflow_add-result c = let a = c.args in let q = sector a.g a.image.now a.h a.k refl c.in_default.ensures in
    let l = sector-lies a.g a.image.now a.h a.k q c.sector_bytes.ensures.0 c.sector_bytes.ensures.1 in
    omega (arith, c.place-from.ensures)

pub returns : goal.returns
returns c = let a = c.args in let q = sector a.g a.image.now a.h a.k refl c.in_default.ensures in
    let l = sector-lies a.g a.image.now a.h a.k q c.sector_bytes.ensures.0 c.sector_bytes.ensures.1 in record {
      is = sector-accepted _ _ _ _ (handed _ _ 0 c.requires c.accepted.ensures)
          refl c.in_default.ensures c.place-from.ensures
          c.sector_bytes.ensures.0;
      lies = record { forward = omega arith; inside = omega (arith, c.place-from.ensures) };
    }
