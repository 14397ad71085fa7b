use native.Mathlib.Omega.{arith}
use borrow.Author.Tests.{eq-eqb, ne_eqb}
use Prim.Native.Nat.{ℕ}
use mathlib.Core.Path.{sym, ◌∙◌, subst}
use Rattle.look_up.proofs.Pass.{row-start, row-slot, row_here, row_next, row-past, row-after}
use Rattle.look_up.proofs.Search.{Finding, finding-start, finding-past, finding-other, finding-miss, finding-hit, finding-end, finding-count}
use Rattle.look_up.proofs.find.Goals as goal
use Rattle.look_up.proofs.find.Goals.{then-hit-h+else-carries, else-hit-h}

pub loop-row-init : goal.loop-row-init
loop-row-init c = (omega arith, finding-start _ _ _)

pub loop-s-init : goal.loop-s-init
loop-s-init c = let e = c.columns-columns.ensures.is in let t = c.args.disk.now.room.thirty in
    (row-start _ _ c.loop-row-test.true (omega arith), c.loop-row.invariant.0, c.loop-row.invariant.1)

pub hit-requires : goal.hit-requires
hit-requires c = row-slot c.loop-s.invariant.0 (let z = c.loop-s-test.true in omega arith)

pub overflow_add-compared : goal.overflow_add-compared
overflow_add-compared c = let r = row-slot c.loop-s.invariant.0 (let z = c.loop-s-test.true in omega arith) in
    let q = c.loop-s.invariant.1 in omega arith

pub carries-requires : goal.carries-requires
carries-requires c = let e = c.columns-columns.ensures.is in let h = row_here c.loop-s.invariant.0 c.loop-s-test.true in (
  record
      { low = row-slot c.loop-s.invariant.0 (let z = c.loop-s-test.true in omega arith); held = omega arith },
  c.requires,
)

pub returns-then-carries : goal.returns-then-carries
returns-then-carries c = finding-hit _ _ _ (row-slot c.loop-s.invariant.0
    (let z = c.loop-s-test.true in omega arith))
    c.columns-columns.ensures.is
    (row_here c.loop-s.invariant.0 c.loop-s-test.true)
    (eq-eqb _ _ (sym c.hit.ensures.is ∙ c.if-hit-h.true ∙
    c.hash-h.ensures.is)) (sym c.carries.ensures ∙ c.if-carries.true)
    c.loop-s.invariant.2

pub loop-s-preserved : goal.loop-s-preserved
loop-s-preserved c = let e = c.columns-columns.ensures.is in let l = row-slot c.loop-s.invariant.0 (let z = c.loop-s-test.true in omega arith) in
    let h = row_here c.loop-s.invariant.0 c.loop-s-test.true in let q = c.loop-s.invariant.1 in let f = c.loop-s.invariant.2 in elim c.if-hit-h.branch [
      | then-hit-h+else-carries w ↦ (
        row_next c.loop-s.invariant.0 c.loop-s-test.true,
        omega (arith, w.compared-is),
        finding-count _ _ _ w.compared-is
            (finding-miss _ _ _ l e h (eq-eqb _ _
            (sym c.hit.ensures.is ∙ w.if-hit-h.true ∙ c.hash-h.ensures.is))
            (sym w.carries.ensures ∙ w.if-carries.false) f),
      )
      | else-hit-h w ↦ (
        row_next c.loop-s.invariant.0 c.loop-s-test.true,
        omega (arith, w.compared-is),
        finding-count _ _ _ w.compared-is
            (finding-other _ _ _ l e h (ne_eqb _ _
            (λ q. w.if-hit-h.false (c.hit.ensures.is ∙ q ∙ sym c.hash-h.ensures.is))) f),
      )
    ]

pub loop-row-preserved : goal.loop-row-preserved
loop-row-preserved c = let i = c.loop-s.invariant.0 in let a = i.ends in let b = i.few in let q = c.loop-s.invariant.1 in let r = c.loop-row-test.true in (
  omega arith,
  subst (λ (k : ℕ). Finding c.args.disk.now.g
      c.args.disk.now.image.now
      c.args.name.now k c.loop-s.compared)
      (row-after i c.loop-s-test.false) (finding-past _ _ _ (row-slot i a) c.columns-columns.ensures.is
      (row-past i c.loop-s-test.false) c.loop-s.invariant.2),
)

pub returns : goal.returns
returns c = finding-end _ _ _ (omega arith) c.loop-row.invariant.1
