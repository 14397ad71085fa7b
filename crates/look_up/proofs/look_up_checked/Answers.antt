use Rattle.look_up.proofs.Search.{finds-as, finds-none, finds-one, told, told-stop}
use Rattle.look_up.proofs.Named.{by_place, by_number}
use Rattle.name_spelling.proofs.Comes.{hands-bad, hands-good, hands-name}
use Rattle.passed.proofs.Checked.{check-then, checked, checked-room}
use Rattle.layout.proofs.OneStep.{well-length}
use Rattle.lists.specs.Tests.{first-hit, first-none, first-skip, not-no, not_yes}
use Rattle.meaning.specs.Lists.{first_or}
use lib.Dec.{eqb}
use lib.ListN.{length}
use native.Mathlib.Omega.{arith}
use mathlib.Core.List.{List}
use mathlib.Core.Path.{◌∙◌, ap, refl, sym}
use Prim.Native.Nat.{ℕ}
use Rattle.look_up.proofs.look_up_checked.Goals as goal

pub returns-then-checked-ne0 : goal.returns-then-checked-ne0
returns-then-checked-ne0 c = let p = c.requires in told-stop _ _ _ p c.if-checked-ne0.true

pub returns-then-n-ne-NO_PLACE : goal.returns-then-n-ne-NO_PLACE
returns-then-n-ne-NO_PLACE c = let if1 = c.if-checked-ne0 in let p = c.requires in
    told _ _ _ (by_place _ _ _ p if1.false c.refusal_at.ensures c.incoming-n.ensures.place)
    (sym (check-then _ _ _ p if1.false ∙ first-hit (not-no (hands-bad c.incoming-n.ensures c.if-n-ne-NO_PLACE.true)) _ _)) refl refl

pub invariant_of-find : goal.invariant_of-find
invariant_of-find c = record { room = checked-room _ _ (checked _ _ c.requires c.if-checked-ne0.false) }

pub find-f-requires : goal.find-f-requires
find-f-requires c = let if2 = c.if-n-ne-NO_PLACE in let incoming = c.incoming-n in
    ap length (hands-name incoming.ensures if2.false) ∙ well-length _ (hands-good incoming.ensures if2.false)

pub returns-in-None : goal.returns-in-None
returns-in-None c = let f = finds-as _ _ _
    (hands-name c.incoming-n.ensures
    c.if-n-ne-NO_PLACE.false) c.find-f.ensures in
    let e = finds-none _ _ _ f c.in-None.is in
    told _ _ _ (by_number _ _ _ c.requires 4
    (λ z. omega arith) c.after.ensures)
    (sym (check-then _ _ _ c.requires
    c.if-checked-ne0.false ∙ first-skip
    (not_yes (hands-good c.incoming-n.ensures
    c.if-n-ne-NO_PLACE.false)) _ _ ∙ first-hit (ap (λ (l : List ℕ). eqb (length l) 0) e) _ _))
    refl (sym f.compared)

pub returns : goal.returns
unfolding first_or
returns c = let f = finds-as _ _ _
    (hands-name c.incoming-n.ensures
    c.if-n-ne-NO_PLACE.false) c.find-f.ensures in
    let e = finds-one _ _ _ f c.in-Some.is in
    told _ _ _ (by_number _ _ _ c.requires 0
    (λ z. omega arith) c.accepted.ensures)
    (sym (check-then _ _ _ c.requires
    c.if-checked-ne0.false ∙ first-skip
    (not_yes (hands-good c.incoming-n.ensures
    c.if-n-ne-NO_PLACE.false)) _ _ ∙ first-skip (ap (λ (l : List ℕ). eqb (length l) 0) e) _ _ ∙ first-none))
    (ap (first_or 0) e) (sym f.compared)
