use mathlib.Core.Path.{refl}
use Rattle.load_record.proofs.Call.{refused-first, has_room, low, room, program, refused-own, handed_out}
use Rattle.load_record.proofs.Bytes.{long}
use Rattle.passed.proofs.Checked.{handed}
use native.Mathlib.Omega.{arith}
use Rattle.load_record.proofs.load_checked.Goals as goal

pub returns-in-Err : goal.returns-in-Err
returns-in-Err c = let e = c.in-Err.ensures in refused-first _ _ _ _ c.load_ranged-ranged.ensures refl (handed _ _ _ c.requires e.0) e.1

pub invariant_of-disk : goal.invariant_of-disk
invariant_of-disk c = let a = c.args in
    record { room = (has_room a.g a.image.now a.h a.buffer.now c.load_ranged-ranged.ensures refl c.in_default.ensures).0 }

pub size_of-size-requires : goal.size_of-size-requires
size_of-size-requires c = let a = c.args in
    (has_room a.g a.image.now a.h a.buffer.now c.load_ranged-ranged.ensures refl c.in_default.ensures).1

pub next_record-r-requires : goal.next_record-r-requires
next_record-r-requires c = let a = c.args in (
  program a.g a.image.now a.h a.buffer.now c.load_ranged-ranged.ensures refl c.in_default.ensures c.size_of-size.ensures.is c.size_of-size.ensures.small,
  low a.g a.image.now a.h a.buffer.now
      c.load_ranged-ranged.ensures refl c.in_default.ensures,
)

pub returns-then-r-ne0 : goal.returns-then-r-ne0
returns-then-r-ne0 c = let next-record = c.next_record-r in
    let load-ranged = c.load_ranged-ranged in let p = c.requires in
    refused-own _ _ _ _ load-ranged.ensures refl c.in_default.ensures next-record.ensures.is (handed _ _ _ p c.carried.ensures)
    c.if-r-ne0.true

pub hand_out-requires : goal.hand_out-requires
hand_out-requires c = let a = c.args in let p = program a.g a.image.now a.h a.buffer.now c.load_ranged-ranged.ensures
    refl c.in_default.ensures
    c.size_of-size.ensures.is c.size_of-size.ensures.small in
    let f = c.next_record-r.ensures in (
      p,
      omega (arith, f.inside c.if-r-ne0.false, long _ _ _ p),
      f.few,
      room a.g a.image.now a.h a.buffer.now
          c.load_ranged-ranged.ensures
          refl c.in_default.ensures,
    )

pub returns : goal.returns
returns c = let hand-out = c.hand_out in let if2 = c.if-r-ne0 in let next-record = c.next_record-r in
    let load-ranged = c.load_ranged-ranged in let p = c.requires in
    handed_out _ _ _ _ load-ranged.ensures refl c.in_default.ensures next-record.ensures.is (handed _ _ 0 p c.accepted.ensures)
    if2.false hand-out.ensures
