use native.Mathlib.Omega.{arith}
use Rattle.drives_calls.proofs.Named.{tested-is, few, sought-0, sought-1, look-0, look-1, look_none, look-stopped, look-passed}
use Rattle.drives_calls.proofs.look_up.Goals as goal

pub looked_up_on-requires : goal.looked_up_on-requires
looked_up_on-requires c = (omega arith, few _ _ _ c.look_up.ensures)

pub returns-in-0 : goal.returns-in-0
returns-in-0 c =
    let the-if1 = c.if-numbered in
    look-0 _ _ _ _ the-if1.true c.in-0.is c.look_up.ensures c.looked_up_on.ensures

pub looked_up_on-requires-in-1 : goal.looked_up_on-requires-in-1
looked_up_on-requires-in-1 c = (omega arith, few _ _ _ c.look_up-in-1.ensures)

pub returns-in-1 : goal.returns-in-1
returns-in-1 c =
    let the-if1 = c.if-numbered in
    look-1 _ _ _ _ the-if1.true (λ z. let e = c.in-1.is in omega (arith, z, e)) c.in-1.is c.look_up-in-1.ensures c.looked_up_on-in-1.ensures

pub returns-in_default : goal.returns-in_default
returns-in_default c =
    let the-if1 = c.if-numbered in
    look_none _ _ _ _ the-if1.true
    (λ z. let e = c.in_default in omega (arith, z, e)) (λ z. let e = c.in_default in omega (arith, z, e)) c.no_such_drive.ensures c.not_looked_up.ensures

pub returns-then-checked-ne0 : goal.returns-then-checked-ne0
returns-then-checked-ne0 c =
    let the-if1 = c.if-numbered in
    let the-check = c.check-checked0 in
    let the-check2 = c.check-checked1 in
    let the-of-both = c.of_both-checked in
    look-stopped _ _ _ _ the-if1.false (tested-is _ the-of-both.ensures the-check.ensures the-check2.ensures) c.if-checked-ne0.true
    c.not_looked_up-then-checked-ne0.ensures

pub looked_up_on-requires-then-l0-ne4 : goal.looked_up_on-requires-then-l0-ne4
looked_up_on-requires-then-l0-ne4 c = (omega arith, few _ _ _ c.look_up_checked-l0.ensures)

pub returns-then-l0-ne4 : goal.returns-then-l0-ne4
returns-then-l0-ne4 c =
    let the-if1 = c.if-numbered in
    let the-check = c.check-checked0 in
    let the-check2 = c.check-checked1 in
    let the-of-both = c.of_both-checked in
    let the-if4 = c.if-checked-ne0 in
    let the-look-up-checked = c.look_up_checked-l0 in
    look-passed _ _ _ _ the-if1.false (tested-is _ the-of-both.ensures the-check.ensures the-check2.ensures) the-if4.false (sought-0
    _ _ the-look-up-checked.ensures c.if-l0-ne4.true c.looked_up_on-then-l0-ne4.ensures)

pub looked_up_on-requires-2 : goal.looked_up_on-requires-2
looked_up_on-requires-2 c = (few _ _ _ c.look_up_checked-l0.ensures, few _ _ _ c.look_up_checked-l1.ensures)

pub returns : goal.returns
returns c =
    let the-if1 = c.if-numbered in
    let the-check = c.check-checked0 in
    let the-check2 = c.check-checked1 in
    let the-of-both = c.of_both-checked in
    let the-if4 = c.if-checked-ne0 in
    let the-look-up-checked = c.look_up_checked-l0 in
    let the-if5 = c.if-l0-ne4 in
    look-passed _ _ _ _ the-if1.false (tested-is _ the-of-both.ensures the-check.ensures the-check2.ensures) the-if4.false (sought-1
    _ _ the-look-up-checked.ensures the-if5.false c.look_up_checked-l1.ensures c.looked_up_on-2.ensures)
