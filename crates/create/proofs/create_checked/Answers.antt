use native.Mathlib.Omega.{arith}
use mathlib.Core.Path.{◌∙◌, ap}
use mathlib.Core.List.{List}
use lib.ListN.{length}
use Rattle.name_spelling.proofs.Comes.{hands-bad, hands-good, hands-name}
use Rattle.meaning.specs.Open.{opened_at}
use Rattle.meaning.specs.Create.{with_entry}
use Rattle.layout.proofs.HasRoom.{entry-fits}
use Rattle.lists.specs.Tests.{is-false, is-true}
use Rattle.layout.proofs.OneStep.{well-length}
use Rattle.passed.proofs.Checked.{checked, checked-room}
use Rattle.look_up.proofs.Named.{by-own, by_place, by_number}
use Rattle.look_up.proofs.Search.{finds-as, finds-none, finds-one, finds-slot}
use Rattle.create.proofs.Creating.{by-check, by_code, by_name, by-range, by-slot, is-new, is-old, made, opened, slot-none, slot-some, told}
use Prim.Native.Nat.{ℕ}
use Rattle.create.proofs.create_checked.Goals as goal

pub returns-then-checked-ne0 : goal.returns-then-checked-ne0
returns-then-checked-ne0 c = let p = c.requires in
    told _ _ _ _ _ (by-own _ _ _ p) c.refused.ensures (by-check _ _ _ _ _ p c.if-checked-ne0.true) c.if-checked-ne0.true

pub returns-then-not-in_range : goal.returns-then-not-in_range
returns-then-not-in_range c = told _ _ _ _ _ (by_number _ _ _ c.requires 12 (λ z. omega arith) c.after.ensures)
    c.refused-then-not-in_range.ensures (by-range _ _ _ _ _ c.requires c.if-checked-ne0.false
    (is-false c.in_range.ensures c.if-not-in_range.true)) (λ z. omega arith)

pub returns-then-n-ne-NO_PLACE : goal.returns-then-n-ne-NO_PLACE
returns-then-n-ne-NO_PLACE c = told _ _ _ _ _
    (by_place _ _ _ c.requires
    c.if-checked-ne0.false c.refusal_at.ensures c.incoming-n.ensures.place)
    c.refused-then-n-ne-NO_PLACE.ensures
    (by_name _ _ _ _ _ c.requires
    c.if-checked-ne0.false
    (is-true c.in_range.ensures c.if-not-in_range.false)
    (hands-bad c.incoming-n.ensures c.if-n-ne-NO_PLACE.true)) (λ z. omega arith)

pub invariant_of-disk : goal.invariant_of-disk
invariant_of-disk c = record { room = checked-room _ _ (checked _ _ c.requires c.if-checked-ne0.false) }

pub find-requires : goal.find-requires
find-requires c = let if3 = c.if-n-ne-NO_PLACE in let incoming = c.incoming-n in
    ap length (hands-name incoming.ensures if3.false) ∙ well-length _ (hands-good incoming.ensures if3.false)

pub admits-requires : goal.admits-requires
admits-requires c = finds-slot _ _ _ c.find.ensures c.in-Some.is

pub returns-then-not-admits : goal.returns-then-not-admits
returns-then-not-admits c = told _ _ _ _ _
    (by_number _ _ _ c.requires 5 (λ z. omega arith) c.after-then-not-admits.ensures) c.refused-then-not-admits.ensures
    (by_code _ _ _ _ _ c.requires c.if-checked-ne0.false
    (is-true c.in_range.ensures
    c.if-not-in_range.false)
    (hands-good c.incoming-n.ensures
    c.if-n-ne-NO_PLACE.false)
    (finds-one _ _ _ (finds-as _ _ _
    (hands-name c.incoming-n.ensures
    c.if-n-ne-NO_PLACE.false)
    c.find.ensures) c.in-Some.is)
    (is-false c.admits.ensures c.if-not-admits.true)) (λ z. omega arith)

pub opened_at-requires : goal.opened_at-requires
opened_at-requires c = let find = c.find in let if3 = c.if-n-ne-NO_PLACE in let incoming = c.incoming-n in (
  finds-slot _ _ _ find.ensures c.in-Some.is,
  (ap length (hands-name incoming.ensures if3.false) ∙ well-length _ (hands-good incoming.ensures if3.false)),
)

pub returns-in-Some : goal.returns-in-Some
returns-in-Some c = let e = finds-one _ _ _
    (finds-as _ _ _ (hands-name c.incoming-n.ensures c.if-n-ne-NO_PLACE.false) c.find.ensures)
    c.in-Some.is in
    opened _ _ _ _ _ (by_number _ _ _
    c.requires 0 (λ z. omega arith) c.accepted.ensures)
    (is-old _ _ _ _ _ c.requires
    c.if-checked-ne0.false (is-true c.in_range.ensures c.if-not-in_range.false)
    (hands-good c.incoming-n.ensures c.if-n-ne-NO_PLACE.false) e (is-true c.admits.ensures
    c.if-not-admits.false)) e
    (c.opened_at.ensures ∙ ap (λ (m : List ℕ). opened_at
    c.args.g
    c.args.image.now
    c.in-Some.slot m
    c.args.f.len
    c.args.checking
    c.args.f.main)
    (hands-name c.incoming-n.ensures c.if-n-ne-NO_PLACE.false))

pub returns-in-None : goal.returns-in-None
returns-in-None c = told _ _ _ _ _
    (by_number _ _ _ c.requires 8 (λ z. omega arith) c.after-in-None.ensures) c.refused-in-None.ensures
    (by-slot _ _ _ _ _ c.requires c.if-checked-ne0.false
    (is-true c.in_range.ensures
    c.if-not-in_range.false)
    (hands-good c.incoming-n.ensures
    c.if-n-ne-NO_PLACE.false)
    (finds-none _ _ _ (finds-as _ _ _
    (hands-name c.incoming-n.ensures
    c.if-n-ne-NO_PLACE.false)
    c.find.ensures) c.in_default.is)
    (slot-none _ _ c.in-None.ensures)) (λ z. omega arith)

pub put_entry-requires : goal.put_entry-requires
put_entry-requires c = let if3 = c.if-n-ne-NO_PLACE in
    let incoming = c.incoming-n in let if2 = c.if-not-in_range in let in-range = c.in_range in let a = c.args in
    let w = slot-some a.g a.image.now c.in-Some-first_free_slot.ensures in (
      entry-fits a.g a.image.now c.in-Some-first_free_slot.x
          (checked-room a.g a.image.now (checked a.g a.image.now
          c.requires c.if-checked-ne0.false)) w.2,
      w.2.low,
      (ap length (hands-name incoming.ensures if3.false) ∙ well-length _
          (hands-good incoming.ensures
          if3.false)),
      is-true
          in-range.ensures
          if2.false,
    )

pub returns : goal.returns
returns c = let a = c.args in let w = slot-some a.g a.image.now c.in-Some-first_free_slot.ensures in
    let e = finds-none _ _ _ (finds-as _ _ _
    (hands-name c.incoming-n.ensures c.if-n-ne-NO_PLACE.false)
    c.find.ensures)
    c.in_default.is in
    made _ _ _ _ _ (by_number _ _ _
    c.requires 0 (λ z. omega arith) c.accepted-2.ensures)
    (is-new _ _ _ _ _ c.requires
    c.if-checked-ne0.false
    (is-true c.in_range.ensures
    c.if-not-in_range.false) (hands-good c.incoming-n.ensures
    c.if-n-ne-NO_PLACE.false) e w.1) e w.0
    (hands-name c.incoming-n.ensures c.if-n-ne-NO_PLACE.false) (c.put_entry.ensures ∙ ap
    (λ (m : List ℕ). with_entry c.args.g
    c.args.image.now
    c.in-Some-first_free_slot.x m
    c.args.f)
    (hands-name c.incoming-n.ensures c.if-n-ne-NO_PLACE.false))
