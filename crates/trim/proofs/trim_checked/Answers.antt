use mathlib.Core.Path.{refl}
use native.Mathlib.Omega.{arith}
use Rattle.passed.proofs.Ready.{walks}
use Rattle.passed.proofs.Checked.{handed}
use Rattle.trim.proofs.Trimming.{by-range, trim-ready, trim-reads, needs-owned, trim-last, refused, kept, trimmed}
use Rattle.trim.proofs.trim_checked.Goals as goal
use Rattle.trim.proofs.trim_checked.Goals.{then-not-is_set, else-not-is_set}

pub returns-in-Err : goal.returns-in-Err
returns-in-Err c = let e = c.in-Err.ensures in
    refused _ _ _ (handed _ _ _ c.requires e.0) (by-range _ _ _ c.in_range-ranged.ensures refl) e.1

pub invariant_of-disk : goal.invariant_of-disk
invariant_of-disk c = let a = c.args in
    record { room = (trim-reads a.g a.image.now a.h (trim-ready a.g a.image.now a.h c.in_range-ranged.result refl c.in_default.ensures)).0 }

pub field-keeps-requires : goal.field-keeps-requires
field-keeps-requires c = let a = c.args in let r = trim-reads a.g a.image.now a.h
    (trim-ready a.g a.image.now a.h c.in_range-ranged.result refl c.in_default.ensures) in
    (r.1, omega arith)

pub size_of-requires : goal.size_of-requires
size_of-requires c = let a = c.args in
    (trim-reads a.g a.image.now a.h (trim-ready a.g a.image.now a.h c.in_range-ranged.result refl c.in_default.ensures)).1

pub granules_for-needed-requires : goal.granules_for-needed-requires
granules_for-needed-requires c = omega (arith, c.size_of.ensures.small)

pub measure-extent-requires : goal.measure-extent-requires
measure-extent-requires c = let a = c.args in walks a.g a.image.now a.h.slot
    (trim-ready a.g a.image.now a.h c.in_range-ranged.result
    refl c.in_default.ensures)

pub overflow_sub-extent : goal.overflow_sub-extent
overflow_sub-extent c = let a = c.args in needs-owned a.g a.image.now a.h
    (trim-ready a.g a.image.now a.h
    c.in_range-ranged.result
    refl c.in_default.ensures) c.measure-extent.ensures.many
    c.size_of.ensures.is c.granules_for-needed.ensures

pub drop_last-requires : goal.drop_last-requires
drop_last-requires c = let granules-for = c.granules_for-needed in let size-of = c.size_of in
    let in-range = c.in_range-ranged in let a = c.args in trim-last a.g a.image.now a.h
    (trim-ready a.g a.image.now a.h
    in-range.result
    refl c.in_default.ensures) c.measure-extent.ensures.last
    c.measure-extent.ensures.many size-of.ensures.is
    granules-for.ensures

pub returns : goal.returns
returns c = elim c.if-not-is_set.branch [
  | then-not-is_set w ↦ rw w.image-is (trimmed _ _ _ (handed _ _ 0 c.requires c.accepted.ensures) (by-range _ _ _ c.in_range-ranged.ensures refl)
      c.in_default.ensures c.field-keeps.ensures.is c.is_set.ensures w.if-not-is_set.true
      w.measure-extent.ensures.many w.size_of.ensures.is w.granules_for-needed.ensures w.drop_last.ensures)
  | else-not-is_set w ↦ rw w.image-is (kept _ _ _ (handed _ _ 0 c.requires c.accepted.ensures) (by-range _ _ _ c.in_range-ranged.ensures refl)
      c.in_default.ensures c.field-keeps.ensures.is c.is_set.ensures w.if-not-is_set.false)
]
