use Rattle.passed.proofs.Checked.{checked, checked-room, check-stop, check-then}
use Rattle.lists.specs.Tests.{first-hit, first-skip, first-none, is-false, is-true, not-no, not_yes}
use mathlib.Core.Path.{ap, ◌∙◌}
use mathlib.Core.Bool.{not}
use native.Mathlib.Omega.{arith}
use Rattle.refusal.proofs.Telling.{tells-own, tells}
use Rattle.handle.proofs.admits.Goals as goal

pub returns-then-checked-ne0 : goal.returns-then-checked-ne0
returns-then-checked-ne0 c = tells-own _ (check-stop _ _ _ c.requires c.if-checked-ne0.true) c.if-checked-ne0.true

pub returns-then-not-ranged : goal.returns-then-not-ranged
returns-then-not-ranged c = let z = c.if-checked-ne0.false in
    let t = tells _ z (check-then _ _ _ c.requires z ∙ first-hit (ap not c.if-not-ranged.true) 12 _) (λ q. omega (arith, q)) in
    (c.refusal.ensures ∙ t.0, t.1)

pub invariant_of-fresh : goal.invariant_of-fresh
invariant_of-fresh c = record { room = checked-room _ _ (checked _ _ c.requires c.if-checked-ne0.false) }

pub returns-then-not-fresh : goal.returns-then-not-fresh
returns-then-not-fresh c = let z = c.if-checked-ne0.false in
    let t = tells _ z (check-then _ _ _ c.requires z ∙ first-skip (ap not c.if-not-ranged.false) 12 _ ∙ first-hit
    (not-no (is-false c.fresh.ensures c.if-not-fresh.true)) 7 _) (λ q. omega (arith, q)) in
    (c.refusal-then-not-fresh.ensures ∙ t.0, t.1)

pub returns : goal.returns
returns c = check-then _ _ _ c.requires c.if-checked-ne0.false ∙ first-skip (ap not c.if-not-ranged.false) _ _ ∙ first-skip
    (not_yes (is-true c.fresh.ensures c.if-not-fresh.false)) _ _ ∙ first-none
