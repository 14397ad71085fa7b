use Rattle.meaning.specs.Refusal.{carried}
use Rattle.refusal.proofs.Numbers.{not-zero}
use Rattle.write.proofs.Calls.{refused, not-grown, written, fit, stores, sized, old-fits, size_is, number_is, image-is, sizes-low, old-owned}
use Rattle.growth.proofs.Handed.{ready}
use Rattle.passed.proofs.Checked.{passed, checked-room, handed}
use Rattle.meaning.specs.Refusals.{protected}
use Prim.Native.Nat.{ℕ, ◌+◌}
use mathlib.Core.List.{[], ◌∷◌}
use mathlib.Core.Path.{refl, ap, ◌∙◌}
use native.Mathlib.Omega.{arith}
use Rattle.write.proofs.write_checked.Goals as goal

pub returns-in-Err : goal.returns-in-Err
returns-in-Err c = let a = c.args in let e = c.in-Err.ensures in
    refused a.g a.image.now a.mode a.h a.n a.buffer.now c.write_ranged-ranged.ensures (handed _ _ _ c.requires e.0) refl e.1

pub invariant_of-size_of : goal.invariant_of-size_of
invariant_of-size_of c = let a = c.args in
    let w = passed a.g a.image.now a.h c.write_ranged-ranged.result (protected a.g a.image.now 4 a.h ∷ []) refl refl c.in_default.ensures in
    record { room = checked-room _ _ w.disk }

pub size_of-old-requires : goal.size_of-old-requires
size_of-old-requires c = let a = c.args in
    (passed a.g a.image.now a.h c.write_ranged-ranged.result (protected a.g a.image.now 4 a.h ∷ []) refl refl c.in_default.ensures).slot

pub overflow_add-end : goal.overflow_add-end
overflow_add-end c = let args = c.args in let the-write-ranged = c.write_ranged-ranged in
    let f = fit args.g args.image.now args.mode args.h args.n args.buffer.now the-write-ranged.ensures refl c.in_default.ensures in
    let a = f.ends in
    omega arith

pub grow_to-requires : goal.grow_to-requires
grow_to-requires c = let args = c.args in let the-write-ranged = c.write_ranged-ranged in
    let the-size-of = c.size_of-old in
    let y = ready args.g args.image.now args.h the-write-ranged.result 4 refl c.in_default.ensures in
    let f = fit args.g args.image.now args.mode args.h args.n args.buffer.now the-write-ranged.ensures refl c.in_default.ensures in
    let a = f.ends in
    let b = the-size-of.ensures.small in
    let z = sizes-low args.mode the-size-of.result (args.h.at + args.n) in
    let s = c.size_after-size.ensures in (y, old-owned args.g args.image.now args.h.slot y the-size-of.ensures.is, b, omega arith)

pub returns-in-Err-grow_to : goal.returns-in-Err-grow_to
returns-in-Err-grow_to c = let a = c.args in let ranged = c.write_ranged-ranged.ensures in let e = c.in-Err-grow_to.ensures in
    let s = size_is a.g a.image.now a.mode a.h a.n a.buffer.now ranged c.size_of-old.ensures.is c.size_after-size.ensures in
    not-grown a.g a.image.now a.mode a.h a.n a.buffer.now ranged
    (handed _ _ _ c.requires c.after.ensures) refl c.in_default.ensures
    (number_is a.g a.image.now a.mode a.h a.n a.buffer.now ranged s e.0) (not-zero _)
    (image-is a.g a.image.now a.mode a.h a.n a.buffer.now ranged _ s e.1)

pub put_record-requires : goal.put_record-requires
put_record-requires c = let a = c.args in let the-write-ranged = c.write_ranged-ranged in let the-size-of = c.size_of-old in
    let the-size-after = c.size_after-size in
    let the-grow-to = c.in_default-grow_to in let s = size_is a.g a.image.now a.mode a.h a.n a.buffer.now the-write-ranged.ensures the-size-of.ensures.is
    the-size-after.ensures in
    let y = ready a.g a.image.now a.h the-write-ranged.result 4 refl c.in_default.ensures in
    let f = fit a.g a.image.now a.mode a.h a.n a.buffer.now the-write-ranged.ensures refl c.in_default.ensures
    in
    let w = stores a.g a.image.now a.mode a.h a.n a.buffer.now the-write-ranged.ensures y f (number_is a.g a.image.now
    a.mode a.h a.n a.buffer.now the-write-ranged.ensures s the-grow-to.ensures.0) refl (image-is a.g
    a.image.now a.mode a.h a.n a.buffer.now the-write-ranged.ensures 0 s the-grow-to.ensures.1) s in (
      w.file,
      w.apart,
      w.owns,
      old-fits a.g a.image.now a.mode a.h a.n a.buffer.now the-write-ranged.ensures
          the-size-of.ensures.is w,
      the-size-of.ensures.small,
      f.room,
    )

pub put_size-requires : goal.put_size-requires
put_size-requires c = let a = c.args in let the-write-ranged = c.write_ranged-ranged in let the-size-of = c.size_of-old in
    let the-size-after = c.size_after-size in
    let the-grow-to = c.in_default-grow_to in
    let s = size_is a.g a.image.now a.mode a.h a.n a.buffer.now the-write-ranged.ensures the-size-of.ensures.is
    the-size-after.ensures in
    let y = ready a.g a.image.now a.h the-write-ranged.result 4 refl c.in_default.ensures in
    let f = fit a.g a.image.now a.mode a.h a.n a.buffer.now the-write-ranged.ensures refl c.in_default.ensures
    in
    let w = stores a.g a.image.now a.mode a.h a.n a.buffer.now the-write-ranged.ensures y f (number_is a.g a.image.now
    a.mode a.h a.n a.buffer.now the-write-ranged.ensures s the-grow-to.ensures.0) refl (image-is a.g a.image.now
    a.mode a.h a.n a.buffer.now the-write-ranged.ensures 0 s the-grow-to.ensures.1) s in
    sized a.g a.image.now a.mode a.h a.n a.buffer.now the-write-ranged.ensures _ _ _ _ _ w
    c.put_record.ensures

pub returns : goal.returns
returns c = let a = c.args in let the-write-ranged = c.write_ranged-ranged in let the-size-of = c.size_of-old in
    let the-size-after = c.size_after-size in let p = c.requires in
    let the-grow-to = c.in_default-grow_to in let the-put-record = c.put_record in
    let s = size_is a.g a.image.now a.mode a.h a.n a.buffer.now the-write-ranged.ensures the-size-of.ensures.is
    the-size-after.ensures in
    written a.g a.image.now a.mode a.h a.n a.buffer.now the-write-ranged.ensures (handed _ _ 0 p c.accepted.ensures)
    the-size-of.ensures.is refl c.in_default.ensures (number_is a.g a.image.now a.mode a.h a.n a.buffer.now
    the-write-ranged.ensures s the-grow-to.ensures.0) refl (image-is a.g a.image.now a.mode a.h a.n a.buffer.now
    the-write-ranged.ensures 0 s the-grow-to.ensures.1) s the-put-record.ensures
    c.put_size.ensures
