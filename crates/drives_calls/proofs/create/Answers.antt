use native.Mathlib.Omega.{arith}
use mathlib.Core.Path.{ap, sym, ◌∙◌}
use Rattle.drives.specs.ByName.{not_created}
use Rattle.drives.specs.Pair.{pair}
use Rattle.drives_calls.proofs.Named.{tested-is, first-passed, takes-1, created-0, created-1}
use Rattle.drives_calls.proofs.Named.{create-0, create-1, create-none, create-stopped, create-passed}
use Rattle.drives_calls.proofs.create.Goals as goal

pub returns-in-0 : goal.returns-in-0
returns-in-0 c =
    let a = c.args in
    let the-if1 = c.if-numbered in
    let the-create = c.create in
    create-0 _ _ _ _ _ _ the-if1.true c.in-0.is (created-0 (pair a.g0 a.image0.now a.g1 a.image1.now) _ _ _
    c.created_on.ensures the-create.ensures)

pub returns-in-1 : goal.returns-in-1
returns-in-1 c =
    let a = c.args in
    let the-if1 = c.if-numbered in
    let the-create2 = c.create-in-1 in
    create-1 _ _ _ _ _ _ the-if1.true (λ z. let e = c.in-1.is in omega (arith, z, e)) c.in-1.is (created-1 (pair a.g0 a.image0.now a.g1 a.image1.now) _ _
    _ c.created_on-in-1.ensures the-create2.ensures)

pub returns-in_default : goal.returns-in_default
returns-in_default c =
    let a = c.args in
    let the-if1 = c.if-numbered in
    let e = c.not_created.ensures ∙ ap not_created c.no_such_drive.ensures in
    create-none _ _ _ _ _ _ the-if1.true
    (λ z. let e = c.in_default in omega (arith, z, e)) (λ z. let e = c.in_default in omega (arith, z, e)) (λ i. (e i, a.image0.now, a.image1.now))

pub returns-then-checked-ne0 : goal.returns-then-checked-ne0
returns-then-checked-ne0 c =
    let a = c.args in
    let the-if1 = c.if-numbered in
    let the-check = c.check-checked0 in
    let the-check2 = c.check-checked1 in
    let the-of-both = c.of_both-checked in
    create-stopped _ _ _ _ _ _ the-if1.false (tested-is _ the-of-both.ensures the-check.ensures the-check2.ensures)
    c.if-checked-ne0.true (λ i. (c.not_created-then-checked-ne0.ensures i, a.image0.now, a.image1.now))

pub takes-requires : goal.takes-requires
takes-requires c =
    let the-check = c.check-checked0 in
    let the-check2 = c.check-checked1 in
    let the-of-both = c.of_both-checked in
    let the-if4 = c.if-checked-ne0 in
    (the-check.ensures, first-passed _ _ the-of-both.ensures the-if4.false, the-check2.ensures)

pub returns-then-takes-eq0 : goal.returns-then-takes-eq0
returns-then-takes-eq0 c =
    let a = c.args in
    let the-if1 = c.if-numbered in
    let the-check = c.check-checked0 in
    let the-check2 = c.check-checked1 in
    let the-of-both = c.of_both-checked in
    let the-if4 = c.if-checked-ne0 in
    let the-takes = c.takes in
    let the-if5 = c.if-takes-eq0 in
    let the-create-checked = c.create_checked in
    create-passed _ _ _ _ _ _ the-if1.false (tested-is _ the-of-both.ensures the-check.ensures the-check2.ensures) 0 the-if4.false
    (sym the-if5.true ∙ the-takes.ensures) (created-0 (pair a.g0 a.image0.now a.g1 a.image1.now) _ _ _
    c.created_on-then-takes-eq0.ensures the-create-checked.ensures)

pub returns : goal.returns
returns c =
    let a = c.args in
    let the-if1 = c.if-numbered in
    let the-check = c.check-checked0 in
    let the-check2 = c.check-checked1 in
    let the-of-both = c.of_both-checked in
    let the-if4 = c.if-checked-ne0 in
    let the-takes = c.takes in
    let the-if5 = c.if-takes-eq0 in
    let the-create-checked2 = c.create_checked-2 in
    create-passed _ _ _ _ _ _ the-if1.false (tested-is _ the-of-both.ensures the-check.ensures the-check2.ensures) 1 the-if4.false
    (sym (takes-1 _ _ (λ w. the-if5.false (the-takes.ensures ∙ w)))) (created-1 (pair a.g0 a.image0.now a.g1 a.image1.now) _ _ _
    c.created_on-2.ensures the-create-checked2.ensures)
