use native.Mathlib.Omega.{arith}
use mathlib.Core.Path.{sym, ap, ◌∙◌}
use Prim.Native.Nat.{ℕ}
use lib.ListN.{take, drop}
use Rattle.meaning.specs.Lists.{same}
use Rattle.layout.proofs.HasRoom.{slot-of}
use Rattle.lists.specs.Tests.{all_yes, all-no, all_one, not-both}
use Rattle.layout.proofs.OneStep.{name-at}
use Rattle.meaning.specs.Handles.{fresh}
use borrow.Author.Rules.{rules}
use Rattle.handle.proofs.fresh.Goals as goal
use Rattle.handle.proofs.fresh.Goals.{then-is_slot, else-is_slot}

pub primary-requires : goal.primary-requires
primary-requires c = (slot-of _ _ _ (sym c.is_slot.ensures ∙ c.if-is_slot.true))

pub name_at-requires : goal.name_at-requires
name_at-requires c = elim c.if-is_slot.branch [
  | then-is_slot w ↦ let q = slot-of _ _ _ (sym c.is_slot.ensures ∙ w.if-is_slot.true) in omega arith
  | else-is_slot w ↦ not-both c.if-primary.true (w.value-is ∙ w.if-is_slot.false)
]

pub same_name-requires : goal.same_name-requires
same_name-requires c = elim c.if-is_slot.branch [
  | then-is_slot w ↦ let q = slot-of _ _ _ (sym c.is_slot.ensures ∙ w.if-is_slot.true) in (omega arith, search rules)
  | else-is_slot w ↦ not-both c.if-primary.true (w.value-is ∙ w.if-is_slot.false)
]

pub returns-then-primary : goal.returns-then-primary
unfolding fresh
returns-then-primary c = elim c.if-is_slot.branch [
  | then-is_slot w ↦
      let there = sym c.is_slot.ensures ∙ w.if-is_slot.true in
      let a = c.args in let q = slot-of _ _ _ there in
      sym (all_yes there _ ∙ all_yes (sym w.primary.ensures ∙ sym w.value-is ∙ c.if-primary.true) _ ∙ all_one _ ∙
      name-at a.disk.now.g a.disk.now.image.now a.h.name a.h.slot (omega arith) ∙
      ap (λ (x : ℕ). same (take 11 (drop x a.disk.now.image.now)) a.h.name) (sym c.name_at.ensures) ∙ sym c.same_name.ensures)
  | else-is_slot w ↦ not-both c.if-primary.true (w.value-is ∙ w.if-is_slot.false)
]

pub returns-else-primary : goal.returns-else-primary
unfolding fresh
returns-else-primary c = elim c.if-is_slot.branch [
  | then-is_slot w ↦
      c.if-primary.false ∙ sym (all_yes (sym c.is_slot.ensures ∙ w.if-is_slot.true) _ ∙ all-no (sym w.primary.ensures ∙ sym w.value-is ∙ c.if-primary.false) _)
  | else-is_slot w ↦ c.if-primary.false ∙ sym (all-no (sym c.is_slot.ensures ∙ w.if-is_slot.false) _)
]
