use mathlib.Core.Path.{ap, ◌∙◌}
use Rattle.differences.specs.Compare.{tells_none}
use Rattle.compare.proofs.Telling.{whole, first-refused, second-refused, accepted'}
use Rattle.compare.proofs.compare_checked.Goals as goal

pub returns-then-checked-ne0 : goal.returns-then-checked-ne0
returns-then-checked-ne0 c = let p = c.requires in first-refused _ _ _ _ _ (c.tells_none.ensures ∙ ap tells_none c.naming.ensures) p.0 c.if-checked-ne0.true

pub returns-then-checked2-ne0 : goal.returns-then-checked2-ne0
returns-then-checked2-ne0 c =
    let if1 = c.if-checked-ne0 in
    let p = c.requires in
    second-refused _ _ _ _ _ (c.tells_none-then-checked2-ne0.ensures ∙ ap tells_none c.naming-then-checked2-ne0.ensures) p.0 if1.false p.1
    c.if-checked2-ne0.true

pub invariant_of-first : goal.invariant_of-first
invariant_of-first c = record { room = (whole _ _ c.requires.0 c.if-checked-ne0.false).sound.room }

pub invariant_of-second : goal.invariant_of-second
invariant_of-second c = record { room = (whole _ _ c.requires.1 c.if-checked2-ne0.false).sound.room }

pub told-requires : goal.told-requires
told-requires c = let p = c.requires in (whole _ _ p.0 c.if-checked-ne0.false, whole _ _ p.1 c.if-checked2-ne0.false)

pub returns : goal.returns
returns c = let if1 = c.if-checked-ne0 in let p = c.requires in accepted' _ _ _ _ _ c.told.ensures p.0 if1.false p.1 c.if-checked2-ne0.false
