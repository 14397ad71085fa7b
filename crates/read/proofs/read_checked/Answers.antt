use native.Mathlib.Omega.{arith}
use Rattle.read.proofs.ReadParts.{refused, accepted, allowed}
use mathlib.Core.Path.{refl}
use Rattle.passed.proofs.Checked.{handed}
use Rattle.read.proofs.read_checked.Goals as goal

pub returns-in-Err : goal.returns-in-Err
returns-in-Err c = let e = c.in-Err.ensures in refused _ _ _ _ _ (handed _ _ _ c.requires e.0) refl e.1

pub invariant_of-read_bytes : goal.invariant_of-read_bytes
invariant_of-read_bytes c = record { room = (allowed _ _ _ _ _ c.in_default.ensures).file.sound.room }

pub read_bytes-requires : goal.read_bytes-requires
read_bytes-requires c = let q = allowed _ _ _ _ _ c.in_default.ensures in (q.file, q.within, q.fits)

pub overflow_add-result : goal.overflow_add-result
overflow_add-result c = let q = allowed _ _ _ _ _ c.in_default.ensures in let o = q.within.high in omega arith

pub returns : goal.returns
returns c = accepted _ _ _ _ _ (handed _ _ 0 c.requires c.accepted.ensures) refl c.in_default.ensures
    c.read_bytes.ensures
