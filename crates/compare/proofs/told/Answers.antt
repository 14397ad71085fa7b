use Rattle.compare.proofs.Telling.{table, both-start, both-files, both_end, both-here, both-more, both-no, met-first, met-second}
use Rattle.compare_order.specs.Walk.{met_first, met_second}
use Rattle.compare_order.specs.declared.Pair.{Pair}
use Rattle.differences.specs.Compare.{tells_none}
use mathlib.Core.Path.{sym, ap, ◌∙◌}
use native.Mathlib.Omega.{arith}
use Rattle.compare.proofs.told.Goals as goal
use Rattle.compare.proofs.told.Goals.{then-x-ne0+else-left-eq0, else-x-ne0}

pub loop-p-init : goal.loop-p-init
loop-p-init c =
    let p = c.requires in both-start _ _ _ _ _ _ _ _ _ p.0 p.1 (table _ _ _ _ c.sort-n.ensures) (table _ _ _ _ c.sort-m.ensures)

pub difference_at-x-requires : goal.difference_at-x-requires
difference_at-x-requires c =
    let p = c.requires in (p.0, p.1, both-files _ _ _ _ _ _ _ _ _ _ _ _ c.loop-p.invariant _ c.in-Some.ensures)

pub returns-then-left-eq0 : goal.returns-then-left-eq0
returns-then-left-eq0 c =
    both-here _ _ _ _ _ _ _ _ _ _ _ _ c.loop-p.invariant _ c.in-Some.ensures c.difference_at-x.ensures c.if-x-ne0.true c.if-left-eq0.true

pub returns : goal.returns
returns c =
    c.tells_none.ensures ∙ ap tells_none c.none.ensures ∙ both_end _ _ _ _ _ _ _ _ _ _ _ _ c.loop-p.invariant c.in_default.ensures

pub loop-p-smaller-in-First : goal.loop-p-smaller-in-First
loop-p-smaller-in-First c =
    let e = ap (λ (q : Pair). met_first q c.loop-p.i) (sym c.in-First.is) in
    let f = met-first _ _ _ _ _ _ _ _ _ _ _ _ c.loop-p.invariant _ c.in-Some.ensures in
    let a = (table _ _ _ _ c.sort-n.ensures).few in
    omega (arith, e, f, a)

pub loop-p-preserved-in-First : goal.loop-p-preserved-in-First
loop-p-preserved-in-First c =
    let e = ap (λ (q : Pair). met_first q c.loop-p.i) (sym c.in-First.is) in
    let f = ap (λ (q : Pair). met_second q c.loop-p.j) (sym c.in-First.is) in
    elim c.if-x-ne0.branch [
      | then-x-ne0+else-left-eq0 w ↦ both-more _ _ _ _ _ _ _ _ _ _ _ _ c.loop-p.invariant _ c.in-Some.ensures c.difference_at-x.ensures _ _ _
          w.if-x-ne0.true w.if-left-eq0.false w.left-is e f
      | else-x-ne0 w ↦ both-no _ _ _ _ _ _ _ _ _ _ _ _ c.loop-p.invariant _ c.in-Some.ensures c.difference_at-x.ensures _ _ _
          w.if-x-ne0.false w.left-is e f
    ]

pub loop-p-smaller-in-Second : goal.loop-p-smaller-in-Second
loop-p-smaller-in-Second c =
    let e' = ap (λ (q : Pair). met_second q c.loop-p.j) (sym c.in-Second.is) in
    let f' = met-second _ _ _ _ _ _ _ _ _ _ _ _ c.loop-p.invariant _ c.in-Some.ensures in
    let b = (table _ _ _ _ c.sort-m.ensures).few in
    omega (arith, e', f', b)

pub loop-p-preserved-in-Second : goal.loop-p-preserved-in-Second
loop-p-preserved-in-Second c =
    let e = ap (λ (q : Pair). met_first q c.loop-p.i) (sym c.in-Second.is) in
    let f = ap (λ (q : Pair). met_second q c.loop-p.j) (sym c.in-Second.is) in
    elim c.if-x-ne0.branch [
      | then-x-ne0+else-left-eq0 w ↦ both-more _ _ _ _ _ _ _ _ _ _ _ _ c.loop-p.invariant _ c.in-Some.ensures c.difference_at-x.ensures _ _ _
          w.if-x-ne0.true w.if-left-eq0.false w.left-is e f
      | else-x-ne0 w ↦ both-no _ _ _ _ _ _ _ _ _ _ _ _ c.loop-p.invariant _ c.in-Some.ensures c.difference_at-x.ensures _ _ _
          w.if-x-ne0.false w.left-is e f
    ]

pub loop-p-smaller : goal.loop-p-smaller
loop-p-smaller c =
    let e = ap (λ (q : Pair). met_first q c.loop-p.i) (sym c.in-Both.is) in
    let f = met-first _ _ _ _ _ _ _ _ _ _ _ _ c.loop-p.invariant _ c.in-Some.ensures in
    let a = (table _ _ _ _ c.sort-n.ensures).few in
    let e' = ap (λ (q : Pair). met_second q c.loop-p.j) (sym c.in-Both.is) in
    let f' = met-second _ _ _ _ _ _ _ _ _ _ _ _ c.loop-p.invariant _ c.in-Some.ensures in
    let b = (table _ _ _ _ c.sort-m.ensures).few in
    omega (arith, e, f, a, e', f', b)

pub loop-p-preserved : goal.loop-p-preserved
loop-p-preserved c =
    let e = ap (λ (q : Pair). met_first q c.loop-p.i) (sym c.in-Both.is) in
    let f = ap (λ (q : Pair). met_second q c.loop-p.j) (sym c.in-Both.is) in
    elim c.if-x-ne0.branch [
      | then-x-ne0+else-left-eq0 w ↦ both-more _ _ _ _ _ _ _ _ _ _ _ _ c.loop-p.invariant _ c.in-Some.ensures c.difference_at-x.ensures _ _ _
          w.if-x-ne0.true w.if-left-eq0.false w.left-is e f
      | else-x-ne0 w ↦ both-no _ _ _ _ _ _ _ _ _ _ _ _ c.loop-p.invariant _ c.in-Some.ensures c.difference_at-x.ensures _ _ _
          w.if-x-ne0.false w.left-is e f
    ]
