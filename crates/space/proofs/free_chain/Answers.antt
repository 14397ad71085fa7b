use native.Mathlib.Omega.{arith}
use mathlib.Core.Path.{◌∙◌}
use Rattle.seek.proofs.Frame.{same-room, same-slot, same-sound, same-used, same-field}
use Rattle.space.proofs.Folds.{unchaining-step, unchaining-stop, unchaining-end, unchained-same}
use Rattle.space.proofs.free_chain.Goals as goal

pub free_entry-requires : goal.free_entry-requires
free_entry-requires c = let p = c.requires in (
  same-sound _ _ _ p.0 c.loop.invariant.same,
  same-used _ _ _ p.0.room c.loop.invariant.same
      c.loop.invariant.used,
)

pub invariant_of-disk : goal.invariant_of-disk
invariant_of-disk c = record { room = same-room _ _ _ c.requires.0.room (unchained-same _ c.requires.0 c.loop.invariant c.free_entry.ensures) }

pub field-requires : goal.field-requires
field-requires c = let e = unchained-same _ c.requires.0
    c.loop.invariant c.free_entry.ensures in (
      same-slot _ _ _
          c.requires.0.room e
          c.loop.invariant.used.slot,
      omega arith,
    )

pub shape_of-image-then-field-ne-HANDS_ON : goal.shape_of-image-then-field-ne-HANDS_ON
shape_of-image-then-field-ne-HANDS_ON c = let free-entry = c.free_entry in let l = c.loop in let p = c.requires in
    (unchained-same _ p.0 l.invariant free-entry.ensures).long

pub returns-then-field-ne-HANDS_ON : goal.returns-then-field-ne-HANDS_ON
returns-then-field-ne-HANDS_ON c = let e = unchained-same _ c.requires.0
    c.loop.invariant c.free_entry.ensures in
    unchaining-stop _ c.requires.0
    c.loop.invariant
    c.loop-test.true c.free_entry.ensures
    (c.field.ensures.is ∙ same-field _ _ _ c.requires.0.room e
    _ 0x1e c.loop.invariant.used.slot (omega arith)) c.if-field-ne-HANDS_ON.true

pub field-at-requires : goal.field-at-requires
field-at-requires c = let e = unchained-same _ c.requires.0
    c.loop.invariant
    c.free_entry.ensures in (
      same-slot _ _ _
          c.requires.0.room e
          c.loop.invariant.used.slot,
      omega arith,
    )

pub loop-preserved : goal.loop-preserved
loop-preserved c = let e = unchained-same _ c.requires.0
    c.loop.invariant
    c.free_entry.ensures in
    unchaining-step _ c.requires.0
    c.loop.invariant
    c.loop-test.true
    c.free_entry.ensures
    (c.field.ensures.is ∙ same-field _ _ _
    c.requires.0.room e _ 0x1e
    c.loop.invariant.used.slot (omega arith))
    c.if-field-ne-HANDS_ON.false (c.field-at.ensures.is ∙ same-field _ _ _
    c.requires.0.room e _ 0x1f
    c.loop.invariant.used.slot (omega arith))

pub returns : goal.returns
returns c = unchaining-end _ c.loop.invariant c.loop-test.false
