use Rattle.compare_order.proofs.Sorting.{halving-up, halving-down}
use Rattle.meaning.specs.Entries.{name_of}
use Rattle.differences.specs.Compare.{before}
use mathlib.Core.Path.{sym, ap, ◌∙◌}
use native.Mathlib.Omega.{arith}
use Prim.Native.Nat.{ℕ}
use Rattle.compare_order.proofs.place_for.Goals as goal

pub loop-low-preserved-then-slot_before : goal.loop-low-preserved-then-slot_before
loop-low-preserved-then-slot_before c =
    let loop-test = c.loop-low-test in
    let l = c.loop-low in
    let a = c.args in
    let p = c.requires in
    halving-up _ _ _ _ _ _ _ _ p.2 l.invariant (omega (arith, l.invariant.between, loop-test.true)) (omega (arith, l.invariant.between, loop-test.true))
    (sym (ap (λ (x : ℕ). before (name_of a.disk.now.g a.disk.now.image.now x) (name_of a.disk.now.g a.disk.now.image.now a.s)) c.from.ensures) ∙ sym
    c.slot_before.ensures ∙ c.if-slot_before.true)

pub loop-low-preserved : goal.loop-low-preserved
loop-low-preserved c =
    let loop-test = c.loop-low-test in
    let l = c.loop-low in
    let a = c.args in
    let p = c.requires in
    halving-down _ _ _ _ _ _ _ _ p.2 l.invariant (omega (arith, l.invariant.between, loop-test.true)) (omega (arith, l.invariant.between, loop-test.true)) p.0
    p.1 (sym (ap (λ (x : ℕ). before (name_of a.disk.now.g a.disk.now.image.now x) (name_of a.disk.now.g a.disk.now.image.now a.s)) c.from.ensures) ∙
    sym c.slot_before.ensures ∙ c.if-slot_before.false)
