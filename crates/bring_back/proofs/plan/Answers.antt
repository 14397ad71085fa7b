use mathlib.Core.Path.{sym, ap, ◌∙◌}
use native.Mathlib.Omega.{arith}
use Rattle.entry.proofs.EntryTests.{name-long}
use Rattle.meaning.specs.Names.{hash}
use Rattle.lists.specs.Tests.{is-false, is-true}
use Rattle.layout.proofs.HasRoom.{slot-of}
use Rattle.passed.proofs.Checked.{checked, checked-room, handed, handed-on}
use Rattle.bring_back.proofs.Call.{refuses, at-check, at_slot, at-use, at-system, at-whole}
use Rattle.bring_back.proofs.Call.{at_name, at-taken, at_none, name_told, taken_is, slice-listed, written-fits}
use Rattle.bring_back.proofs.plan.Goals as goal

pub returns-then-checked-ne0 : goal.returns-then-checked-ne0
returns-then-checked-ne0 c = refuses _ _ _ (handed-on _ _ c.requires.0) (at-check _ _ _ c.requires.0 c.if-checked-ne0.true) c.if-checked-ne0.true

pub invariant_of-disk : goal.invariant_of-disk
invariant_of-disk c = record { room = checked-room _ _ (checked _ _ c.requires.0 c.if-checked-ne0.false) }

pub returns-then-not-is_slot : goal.returns-then-not-is_slot
returns-then-not-is_slot c = refuses _ _ _ (handed _ _ _ c.requires.0 c.after.ensures)
    (at_slot _ _ _ c.requires.0 c.if-checked-ne0.false (is-false c.is_slot.ensures c.if-not-is_slot.true)) (λ
    z. omega arith)

pub flag-requires : goal.flag-requires
flag-requires c = (slot-of _ _ _ (is-true c.is_slot.ensures c.if-not-is_slot.false), omega arith)

pub returns-then-flag : goal.returns-then-flag
returns-then-flag c = refuses _ _ _ (handed _ _ _ c.requires.0 c.after-then-flag.ensures)
    (at-use _ _ _ c.requires.0 c.if-checked-ne0.false (is-true c.is_slot.ensures c.if-not-is_slot.false)
    (sym c.flag.ensures ∙ c.if-flag.true))
    (λ z. omega arith)

pub flag-requires-2 : goal.flag-requires-2
flag-requires-2 c = (slot-of _ _ _ (is-true c.is_slot.ensures c.if-not-is_slot.false), omega arith)

pub returns-then-flag-2 : goal.returns-then-flag-2
returns-then-flag-2 c = refuses _ _ _ (handed _ _ _ c.requires.0 c.after-then-flag-2.ensures)
    (at-system _ _ _ c.requires.0 c.if-checked-ne0.false (is-true c.is_slot.ensures c.if-not-is_slot.false)
    (sym c.flag.ensures ∙ c.if-flag.false)
    (sym c.flag-2.ensures ∙ c.if-flag-2.true)) (λ z. omega arith)

pub whole-requires : goal.whole-requires
whole-requires c = (slot-of _ _ _ (is-true c.is_slot.ensures c.if-not-is_slot.false), c.requires.1)

pub returns-in-None : goal.returns-in-None
returns-in-None c = refuses _ _ _ (handed _ _ _ c.requires.0 c.after-in-None.ensures)
    (at-whole _ _ _ c.requires.0 c.if-checked-ne0.false (is-true c.is_slot.ensures c.if-not-is_slot.false)
    (sym c.flag.ensures ∙ c.if-flag.false)
    (sym c.flag-2.ensures ∙ c.if-flag-2.false) (sym c.in-None.ensures.answer)) (λ z.
    omega arith)

pub name_of-name-requires : goal.name_of-name-requires
name_of-name-requires c = slot-of _ _ _ (is-true c.is_slot.ensures c.if-not-is_slot.false)

pub find-requires : goal.find-requires
find-requires c = name-long c.args.g c.args.image.now c.args.s c.name_of-name.ensures

pub returns-then-is_some : goal.returns-then-is_some
returns-then-is_some c = refuses _ _ _ (handed _ _ _ c.requires.0 c.after-then-is_some.ensures)
    (at_name _ _ _ c.requires.0 c.if-checked-ne0.false (is-true c.is_slot.ensures c.if-not-is_slot.false) (sym
    c.flag.ensures ∙ c.if-flag.false) (sym c.flag-2.ensures ∙ c.if-flag-2.false) (sym c.in-Some.ensures.answer)
    (sym (name_told _ _ _ c.name_of-name.ensures c.find.ensures) ∙ sym c.is_some.ensures ∙ c.if-is_some.true)) (λ z. omega
    arith)

pub any_taken-requires : goal.any_taken-requires
any_taken-requires c = slice-listed c.in-Some.ensures.written.listed (written-fits _ _ _ c.in-Some.ensures.written c.whole.array_long)

pub returns-then-any_taken : goal.returns-then-any_taken
returns-then-any_taken c = refuses _ _ _ (handed _ _ _ c.requires.0 c.after-then-any_taken.ensures)
    (at-taken _ _ _ c.requires.0 c.if-checked-ne0.false (is-true c.is_slot.ensures c.if-not-is_slot.false) (sym
    c.flag.ensures ∙ c.if-flag.false) (sym c.flag-2.ensures ∙ c.if-flag-2.false) (sym c.in-Some.ensures.answer)
    (sym (name_told _ _ _ c.name_of-name.ensures c.find.ensures) ∙ sym c.is_some.ensures ∙ c.if-is_some.false)
    (sym (taken_is _ _ _ c.in-Some.ensures.written (written-fits _ _ _ c.in-Some.ensures.written c.whole.array_long)) ∙ sym c.any_taken.ensures ∙
    c.if-any_taken.true)) (λ z. omega arith)

pub returns : goal.returns
returns c = record {
  number_is = at_none _ _ _ c.requires.0 c.if-checked-ne0.false (is-true c.is_slot.ensures c.if-not-is_slot.false) (sym c.flag.ensures ∙
      c.if-flag.false) (sym c.flag-2.ensures ∙ c.if-flag-2.false) (sym c.in-Some.ensures.answer)
      (sym (name_told _ _ _ c.name_of-name.ensures c.find.ensures) ∙ sym c.is_some.ensures ∙ c.if-is_some.false)
      (sym (taken_is _ _ _ c.in-Some.ensures.written (written-fits _ _ _ c.in-Some.ensures.written c.whole.array_long)) ∙
      sym c.any_taken.ensures ∙ c.if-any_taken.false);
  room = checked-room _ _ (checked _ _ c.requires.0 c.if-checked-ne0.false);
  written = c.in-Some.ensures.written;
  hash-is = c.hash.ensures.is ∙ ap hash c.name_of-name.ensures;
  small = c.hash.ensures.small;
}
