use Rattle.drives_calls.proofs.Named.{takes-found-0, takes-found-1, takes-full, takes-free, room}
use Rattle.drives_calls.proofs.takes.Goals as goal

pub returns-then-first-ne4 : goal.returns-then-first-ne4
returns-then-first-ne4 c = takes-found-0 _ _ c.look_up_checked-first.ensures c.if-first-ne4.true

pub returns-then-second-ne4 : goal.returns-then-second-ne4
returns-then-second-ne4 c =
    let the-look-up-checked = c.look_up_checked-first in
    let the-if1 = c.if-first-ne4 in
    let the-look-up-checked2 = c.look_up_checked-second in
    takes-found-1 _ _ the-look-up-checked.ensures the-look-up-checked2.ensures the-if1.false c.if-second-ne4.true

pub invariant_of-first_free_slot : goal.invariant_of-first_free_slot
invariant_of-first_free_slot c = record { room = room _ _ c.requires.0 c.requires.1 }

pub returns-in-None : goal.returns-in-None
returns-in-None c =
    takes-full _ _ c.look_up_checked-first.ensures c.look_up_checked-second.ensures c.if-first-ne4.false c.if-second-ne4.false
    c.in-None.ensures

pub returns-in-Some : goal.returns-in-Some
returns-in-Some c =
    takes-free _ _ c.look_up_checked-first.ensures c.look_up_checked-second.ensures c.if-first-ne4.false c.if-second-ne4.false
    c.in-Some.ensures
