use Rattle.look_up.proofs.Open.{admitted, open-accepted, open-refused}
use Rattle.look_up.proofs.Search.{finds-as, finds-none, finds-one, finds-slot}
use Rattle.look_up.proofs.Named.{by-own, by_place, by_number}
use Rattle.name_spelling.proofs.Comes.{hands-bad, hands-good, hands-name}
use Rattle.passed.proofs.Checked.{check-stop, check-then, checked, checked-room}
use Rattle.layout.proofs.OneStep.{well-length}
use Rattle.lists.specs.Tests.{first-hit, first-none, first-skip, is-false, is-true, not-no, not_yes}
use Rattle.meaning.specs.Open.{opened_at}
use lib.Dec.{eqb}
use lib.ListN.{length}
use native.Mathlib.Omega.{arith}
use mathlib.Core.List.{List}
use mathlib.Core.Path.{◌∙◌, ap, sym}
use Prim.Native.Nat.{ℕ}
use Rattle.look_up.proofs.open_checked.Goals as goal

pub returns-then-checked-ne0 : goal.returns-then-checked-ne0
returns-then-checked-ne0 c = let p = c.requires in
    open-refused _ _ _ _ _ _ (by-own _ _ _ p) c.refused.ensures (check-stop _ _ _ p c.if-checked-ne0.true) c.if-checked-ne0.true

pub returns-then-not-good_length : goal.returns-then-not-good_length
returns-then-not-good_length c = open-refused _ _ _ _ _ _ (by_number _ _ _ c.requires 12 (λ z. omega arith) c.after.ensures)
    c.refused-then-not-good_length.ensures
    (sym (check-then _ _ _ c.requires c.if-checked-ne0.false ∙ first-hit
    (not-no (is-false c.good_length.ensures c.if-not-good_length.true)) _ _)) (λ z. omega arith)

pub returns-then-n-ne-NO_PLACE : goal.returns-then-n-ne-NO_PLACE
returns-then-n-ne-NO_PLACE c = open-refused _ _ _ _ _ _ (by_place _ _ _ c.requires
    c.if-checked-ne0.false c.refusal_at.ensures c.incoming-n.ensures.place)
    c.refused-then-n-ne-NO_PLACE.ensures
    (sym (check-then _ _ _ c.requires
    c.if-checked-ne0.false ∙ first-skip
    (not_yes (is-true c.good_length.ensures c.if-not-good_length.false)) _ _ ∙ first-hit
    (not-no (hands-bad c.incoming-n.ensures c.if-n-ne-NO_PLACE.true)) _ _))
    (λ z. omega arith)

pub invariant_of-disk : goal.invariant_of-disk
invariant_of-disk c = record { room = checked-room _ _ (checked _ _ c.requires c.if-checked-ne0.false) }

pub find-requires : goal.find-requires
find-requires c = let if3 = c.if-n-ne-NO_PLACE in let incoming = c.incoming-n in
    ap length (hands-name incoming.ensures if3.false) ∙ well-length _ (hands-good incoming.ensures if3.false)

pub returns-in-None : goal.returns-in-None
returns-in-None c = let e = finds-none _ _ _ (finds-as _ _ _
    (hands-name c.incoming-n.ensures
    c.if-n-ne-NO_PLACE.false) c.find.ensures) c.in-None.is in
    open-refused _ _ _ _ _ _ (by_number _ _ _
    c.requires 4 (λ z. omega arith)
    c.after-in-None.ensures) c.refused-in-None.ensures
    (sym (check-then _ _ _ c.requires
    c.if-checked-ne0.false ∙ first-skip
    (not_yes (is-true c.good_length.ensures
    c.if-not-good_length.false)) _ _ ∙ first-skip
    (not_yes (hands-good c.incoming-n.ensures
    c.if-n-ne-NO_PLACE.false)) _ _
    ∙ first-hit (ap (λ (l : List ℕ). eqb (length l) 0) e) _ _)) (λ z. omega arith)

pub admits-requires : goal.admits-requires
admits-requires c = finds-slot _ _ _ c.find.ensures c.in-Some.is

pub returns-then-not-admits : goal.returns-then-not-admits
returns-then-not-admits c = let e = finds-one _ _ _ (finds-as _ _ _
    (hands-name c.incoming-n.ensures
    c.if-n-ne-NO_PLACE.false) c.find.ensures)
    c.in-Some.is in
    open-refused _ _ _ _ _ _ (by_number _ _ _
    c.requires 5
    (λ z. omega arith) c.after-then-not-admits.ensures) c.refused-then-not-admits.ensures
    (sym (check-then _ _ _ c.requires c.if-checked-ne0.false ∙ first-skip
    (not_yes (is-true c.good_length.ensures
    c.if-not-good_length.false)) _ _ ∙ first-skip
    (not_yes (hands-good c.incoming-n.ensures
    c.if-n-ne-NO_PLACE.false)) _ _
    ∙ first-skip (ap (λ (l : List ℕ). eqb (length l) 0) e) _ _ ∙ first-hit
    (admitted _ _ _ c.args.len _ _ e (is-false c.admits.ensures c.if-not-admits.true)) _ _)) (λ z. omega arith)

pub opened_at-requires : goal.opened_at-requires
opened_at-requires c = let find = c.find in let if3 = c.if-n-ne-NO_PLACE in let incoming = c.incoming-n in (
  finds-slot _ _ _ find.ensures c.in-Some.is,
  (ap length (hands-name incoming.ensures if3.false) ∙ well-length _ (hands-good incoming.ensures if3.false)),
)

pub returns : goal.returns
returns c = let a = c.args in let e = finds-one _ _ _ (finds-as _ _ _
    (hands-name c.incoming-n.ensures
    c.if-n-ne-NO_PLACE.false)
    c.find.ensures)
    c.in-Some.is in
    open-accepted _ _ _ _ _ _ (by_number _ _ _
    c.requires 0 (λ z. omega arith) c.accepted.ensures)
    (c.opened_at.ensures ∙ ap (λ (m : List ℕ). opened_at a.g a.image.now
    c.in-Some.slot m a.len a.checking a.code)
    (hands-name c.incoming-n.ensures
    c.if-n-ne-NO_PLACE.false))
    (sym (check-then _ _ _ c.requires
    c.if-checked-ne0.false
    ∙ first-skip (not_yes (is-true c.good_length.ensures c.if-not-good_length.false)) _ _ ∙ first-skip
    (not_yes (hands-good c.incoming-n.ensures c.if-n-ne-NO_PLACE.false)) _ _
    ∙ first-skip (ap (λ (l : List ℕ). eqb (length l) 0) e) _ _ ∙ first-skip
    (admitted _ _ _ a.len _ _ e
    (is-true c.admits.ensures c.if-not-admits.false)) _ _ ∙
    first-none)) e
