use native.Mathlib.Omega.{arith}
use Rattle.std.specs.Option.{option_to_list}
use Rattle.space.proofs.First.{none-step, none_kept, none_row, slot-free, slot-used, slots-first, slots-none}
use Rattle.meaning.specs.Free.{free_slot}
use mathlib.Core.Path.{refl, sym, ap, ◌∙◌}
use Rattle.space.proofs.first_free_slot.Goals as goal

pub rows-init : goal.rows-init
rows-init c = (refl, λ k h. absurd (omega arith))

pub loop-s-init : goal.loop-s-init
loop-s-init c = (c.rows.invariant.0, none_kept _ _ c.rows.invariant.1 c.kept_columns-s.ensures)

pub loop-s-preserved : goal.loop-s-preserved
loop-s-preserved c =
    let a = c.args in (
      c.loop-s.invariant.0,
      none-step (free_slot a.disk.now.g a.disk.now.image.now) _ c.loop-s.invariant.1
          (slot-used a.disk.now.g a.disk.now.image.now _ (λ z. c.if-hit-eq0.false (c.hit.ensures.is ∙ z))) (omega arith),
    )

pub rows-preserved : goal.rows-preserved
rows-preserved c =
    (c.loop-s.invariant.0, none_row _ _ c.rows-test.true c.columns-n.ensures.is c.loop-s-test.false refl c.loop-s.invariant.1)

pub returns-then-hit-eq0 : goal.returns-then-hit-eq0
returns-then-hit-eq0 c =
    let a = c.args in
    let e = c.columns-n.ensures.is in
    let t = c.args.disk.now.room.thirty in
    slots-first a.disk.now.g a.disk.now.image.now _ (omega arith) c.loop-s.invariant.1
    (slot-free a.disk.now.g a.disk.now.image.now _ _ c.kept_columns-s.ensures c.rows-test.true (omega arith) t c.loop-s.auto.s
    (sym c.hit.ensures.is ∙ c.if-hit-eq0.true))

pub returns-after-rows : goal.returns-after-rows
returns-after-rows c =
    ap option_to_list c.rows.invariant.0 ∙ slots-none c.args.disk.now.g c.args.disk.now.image.now (λ k h. c.rows.invariant.1 k (omega arith))
