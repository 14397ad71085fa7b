use native.Mathlib.Omega.{arith}
use mathlib.Core.Path.{refl, ◌∙◌}
use Prim.Native.Nat.{◌+◌, ◌*◌, ◌/◌, ◌%◌}
use Rattle.seek.proofs.Frame.{same-room, same-slot, same-field}
use Rattle.seek.proofs.SeekSteps.{pairs_start, pairs-stop, pairs-step, pairs_end}
use Rattle.space.proofs.Folds.{by-runs-start, by-runs-step, by-runs-end}
use Rattle.space.proofs.mark_entry.Goals as goal

pub loop-j-init : goal.loop-j-init
loop-j-init c = (pairs_start _ _ _, by-runs-start _ _ _ _ refl)

pub invariant_of-disk : goal.invariant_of-disk
invariant_of-disk c = record { room = same-room _ _ _ c.requires.0 c.loop-j.invariant.1.same }

pub field-block-requires : goal.field-block-requires
field-block-requires c = (same-slot _ _ _ c.requires.0 c.loop-j.invariant.1.same c.requires.1.slot, omega arith)

pub returns-then-block-eq-ENDS : goal.returns-then-block-eq-ENDS
returns-then-block-eq-ENDS c = let i = c.loop-j.invariant in
    let p = c.field-block.ensures.is ∙ same-field _ _ _ c.requires.0 i.1.same _ (0x16 + 2 * c.loop-j.j) c.requires.1.slot (omega arith) in
    by-runs-end _ i.1 (pairs-stop _ _ i.0 c.loop-j-test.true p c.if-block-eq-ENDS.true)

pub field-second-requires : goal.field-second-requires
field-second-requires c = (same-slot _ _ _ c.requires.0 c.loop-j.invariant.1.same c.requires.1.slot, omega arith)

pub mark_run-requires : goal.mark_run-requires
mark_run-requires c = let r = c.requires.0 in let i = c.loop-j.invariant in let k = c.loop-j.j in
    let p = c.field-block.ensures.is ∙ same-field _ _ _ r i.1.same _ (0x16 + 2 * k) c.requires.1.slot (omega arith) in
    let q = c.field-second.ensures.is ∙ same-field _ _ _ r i.1.same _ (0x17 + 2 * k) c.requires.1.slot (omega arith) in
    let l = c.requires.1.run k (pairs-step _ _ i.0 c.loop-j-test.true p c.if-block-eq-ENDS.false).1 in
    (same-room _ _ _ r i.1.same, rw (p, q) l)

pub loop-j-preserved : goal.loop-j-preserved
loop-j-preserved c = let r = c.requires.0 in let i = c.loop-j.invariant in let k = c.loop-j.j in
    let p = c.field-block.ensures.is ∙ same-field _ _ _ r i.1.same _ (0x16 + 2 * k) c.requires.1.slot (omega arith) in
    let q = c.field-second.ensures.is ∙ same-field _ _ _ r i.1.same _ (0x17 + 2 * k) c.requires.1.slot (omega arith) in
    let w = pairs-step _ _ i.0 c.loop-j-test.true p c.if-block-eq-ENDS.false in
    let l = c.requires.1.run k w.1 in (
      w.0,
      by-runs-step _ {a = c.field-block.result * c.args.g.units + c.field-second.result / 32} {len = 1 + c.field-second.result % 32} r i.1 w.1
          (rw (p, q) refl) (rw q refl) (rw (p, q) l) c.mark_run.ensures,
    )

pub returns : goal.returns
returns c = by-runs-end _ c.loop-j.invariant.1 (pairs_end _ _ c.loop-j.invariant.0 c.loop-j-test.false)
