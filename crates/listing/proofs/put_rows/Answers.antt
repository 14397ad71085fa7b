use mathlib.Core.Path.{refl, ◌∙◌}
use native.Mathlib.Omega.{arith}
use Rattle.listing.proofs.Rows.{rowing_start, rowing-room, rowing-same, rowing-over, rowing-put, rowing-full, rowing-end}
use Rattle.listing.proofs.put_rows.Goals as goal
use Rattle.listing.proofs.put_rows.Goals.{then-left-eq0+else-table-n, else-left-eq0}

pub loop-s-init : goal.loop-s-init
loop-s-init c = (omega arith, rowing_start _ _ _ _)

pub returns-then-table-n : goal.returns-then-table-n
returns-then-table-n c =
    let r = c.loop-s.invariant.1 in rowing-full _ _ (let l = rowing-room _ _ r in let f = c.if-table-n.true in omega arith) r

pub loop-s-preserved : goal.loop-s-preserved
loop-s-preserved c =
    let x = c.in-Some.ensures in
    let a = x.past in
    let m = c.loop-s.invariant.0 in
    let r = c.loop-s.invariant.1 in
    elim c.if-left-eq0.branch [
      | then-left-eq0+else-table-n w ↦ (
        omega (arith, w.n-is),
        let l = rowing-room _ _ r in
            let f = w.if-table-n.false in
            rowing-same _ _ w.left-is w.n-is refl (rowing-put _ _ x w.if-left-eq0.true (omega arith) (w.table-is ∙ w.put_row.ensures) r),
      )
      | else-left-eq0 w ↦ (omega (arith, w.n-is), rowing-same _ _ w.left-is w.n-is w.table-is (rowing-over _ _ x _ w.if-left-eq0.false r))
    ]

pub returns : goal.returns
returns c = rowing-end _ _ c.in_default.ensures c.loop-s.invariant.1
