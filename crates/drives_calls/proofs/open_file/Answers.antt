use native.Mathlib.Omega.{arith}
use Rattle.drives_calls.proofs.Named.{tested-is, search-0, search-1, open-0, open-1, open_none, open-stopped, open-passed}
use Rattle.drives_calls.proofs.open_file.Goals as goal

pub returns-in-0 : goal.returns-in-0
returns-in-0 c =
    let the-if1 = c.if-numbered in
    open-0 _ _ _ _ _ _ _ the-if1.true c.in-0.is c.open_file.ensures c.opened_on.ensures

pub returns-in-1 : goal.returns-in-1
returns-in-1 c =
    let the-if1 = c.if-numbered in
    open-1 _ _ _ _ _ _ _ the-if1.true (λ z. let e = c.in-1.is in omega (arith, z, e)) c.in-1.is c.open_file-in-1.ensures c.opened_on-in-1.ensures

pub returns-in_default : goal.returns-in_default
returns-in_default c =
    let the-if1 = c.if-numbered in
    open_none _ _ _ _ _ _ _ the-if1.true
    (λ z. let e = c.in_default in omega (arith, z, e)) (λ z. let e = c.in_default in omega (arith, z, e)) c.no_such_drive.ensures c.not_opened.ensures

pub returns-then-checked-ne0 : goal.returns-then-checked-ne0
returns-then-checked-ne0 c =
    let the-if1 = c.if-numbered in
    let the-check = c.check-checked0 in
    let the-check2 = c.check-checked1 in
    let the-of-both = c.of_both-checked in
    open-stopped _ _ _ _ _ _ _ the-if1.false (tested-is _ the-of-both.ensures the-check.ensures the-check2.ensures)
    c.if-checked-ne0.true c.not_opened-then-checked-ne0.ensures

pub returns-then-found-ne4 : goal.returns-then-found-ne4
returns-then-found-ne4 c =
    let the-if1 = c.if-numbered in
    let the-check = c.check-checked0 in
    let the-check2 = c.check-checked1 in
    let the-of-both = c.of_both-checked in
    let the-if4 = c.if-checked-ne0 in
    let the-look-up-checked = c.look_up_checked-found in
    let the-if5 = c.if-found-ne4 in
    open-passed _ _ _ _ _ _ _ the-if1.false (tested-is _ the-of-both.ensures the-check.ensures the-check2.ensures) 0 the-if4.false
    (search-0 _ _ the-look-up-checked.ensures the-if5.true) c.open_checked.ensures c.opened_on-then-found-ne4.ensures

pub returns : goal.returns
returns c =
    let the-if1 = c.if-numbered in
    let the-check = c.check-checked0 in
    let the-check2 = c.check-checked1 in
    let the-of-both = c.of_both-checked in
    let the-if4 = c.if-checked-ne0 in
    let the-look-up-checked = c.look_up_checked-found in
    let the-if5 = c.if-found-ne4 in
    open-passed _ _ _ _ _ _ _ the-if1.false (tested-is _ the-of-both.ensures the-check.ensures the-check2.ensures) 1 the-if4.false
    (search-1 _ _ the-look-up-checked.ensures the-if5.false) c.open_checked-2.ensures c.opened_on-2.ensures
