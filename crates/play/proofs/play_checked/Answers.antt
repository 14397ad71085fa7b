use borrow.Author.Tests.{not-false, not-true}
use Rattle.play.proofs.Answers.{by-check, by-trace, by-room, by-calls, steps-are}
use Rattle.play.proofs.play_checked.Goals as goal

pub returns-then-checked-ne0 : goal.returns-then-checked-ne0
returns-then-checked-ne0 c = let p = c.requires in by-check _ _ _ _ p c.if-checked-ne0.true

pub returns-then-not-c : goal.returns-then-not-c
returns-then-not-c c =
    let check-trace = c.check_trace-c in
    let if1 = c.if-checked-ne0 in
    let p = c.requires in
    by-trace _ _ _ _ p if1.false check-trace.ensures (not-true _ c.if-not-c.true) c.after.ensures

pub returns-then-results-calls : goal.returns-then-results-calls
returns-then-results-calls c =
    let check-trace = c.check_trace-c in
    let if1 = c.if-checked-ne0 in
    let p = c.requires in
    by-room _ _ _ _ p if1.false check-trace.ensures (not-false _ c.if-not-c.false) c.if-results-calls.true c.after-then-results-calls.ensures

pub run-requires : goal.run-requires
run-requires c =
    let check-trace = c.check_trace-c in
    let if1 = c.if-checked-ne0 in
    let p = c.requires in
    (p, if1.false, steps-are _ check-trace.ensures, c.if-results-calls.false)

pub returns : goal.returns
returns c =
    let run = c.run in
    let if3 = c.if-results-calls in
    let if2 = c.if-not-c in
    let check-trace = c.check_trace-c in
    let if1 = c.if-checked-ne0 in
    let p = c.requires in
    by-calls _ _ _ _ p if1.false check-trace.ensures (not-false _ if2.false) if3.false run.ensures
