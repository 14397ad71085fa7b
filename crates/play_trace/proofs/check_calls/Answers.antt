use Rattle.play_trace.proofs.Calls.{going-first, going_on, going-bad, going_end, going-out, told}
use mathlib.Core.Path.{refl, ◌∙◌}
use Rattle.play_trace.proofs.check_calls.Goals as goal

-- src/lib.rt:240:5
pub loop-i-init : goal.loop-i-init
loop-i-init c = going-first _ _ _

-- src/lib.rt:245:13
pub returns-then-bad-lt56 : goal.returns-then-bad-lt56
returns-then-bad-lt56 c = let loop-test = c.loop-i-test in let l = c.loop-i in
    going-bad (record { place = refl; numbers = c.numbers_at-m.ensures; bad = c.bad_field-bad.ensures }) l.invariant loop-test.true
    c.if-bad-lt56.true ∙ told _ _ _ refl

-- src/lib.rt:253:13
pub returns-then-m-eq0 : goal.returns-then-m-eq0
returns-then-m-eq0 c = let bad-field = c.bad_field-bad in let numbers-at = c.numbers_at-m in let loop-test = c.loop-i-test in let l = c.loop-i in
    going_end (record { place = refl; numbers = numbers-at.ensures; bad = bad-field.ensures }) l.invariant loop-test.true c.if-bad-lt56.false
    c.if-m-eq0.true ∙ told _ _ _ refl

-- src/lib.rt:240:5
pub loop-i-preserved : goal.loop-i-preserved
loop-i-preserved c = let bad-field = c.bad_field-bad in let numbers-at = c.numbers_at-m in let loop-test = c.loop-i-test in let l = c.loop-i in
    going_on (record { place = refl; numbers = numbers-at.ensures; bad = bad-field.ensures }) l.invariant loop-test.true c.if-bad-lt56.false
    c.if-m-eq0.false

-- src/lib.rt:233:1
pub returns : goal.returns
returns c = going-out c.loop-i.invariant c.loop-i-test.false ∙ told _ _ _ refl
