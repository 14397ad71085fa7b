use mathlib.Core.Path.{◌∙◌}
use Rattle.space.proofs.Folds.{clearing-step, clearing-stop, clearing-end}
use Rattle.space.proofs.kill_chain.Goals as goal

pub shape_of-image-then-marker-ne-HANDS_ON : goal.shape_of-image-then-marker-ne-HANDS_ON
shape_of-image-then-marker-ne-HANDS_ON c = let kill-entry = c.kill_entry in let l = c.loop in kill-entry.auto.image ∙ l.invariant.kept.long

pub returns-then-marker-ne-HANDS_ON : goal.returns-then-marker-ne-HANDS_ON
returns-then-marker-ne-HANDS_ON c = let kill-entry = c.kill_entry in let field = c.field-marker in let loop-test = c.loop-test in
    let l = c.loop in clearing-stop _ l.invariant loop-test.true kill-entry.ensures field.ensures.is c.if-marker-ne-HANDS_ON.true

pub loop-preserved : goal.loop-preserved
loop-preserved c = let kill-entry = c.kill_entry in let field2 = c.field-link in let field = c.field-marker in
    let loop-test = c.loop-test in let l = c.loop in let p = c.requires in
    clearing-step _ p.0 l.invariant loop-test.true kill-entry.ensures field.ensures.is field2.ensures.is c.if-marker-ne-HANDS_ON.false

pub returns : goal.returns
returns c = clearing-end _ c.loop.invariant c.loop-test.false
