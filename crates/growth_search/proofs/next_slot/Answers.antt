use Rattle.growth_search.proofs.Search.{looking-start, looking-step, looking-found, looking-end}
use Rattle.space.proofs.First.{slot-open, slot-past, slot_kept, slot-used, keeps-yes, keeps-no}
use mathlib.Core.Path.{refl, sym, ◌∙◌}
use native.Mathlib.Omega.{arith}
use Rattle.growth_search.proofs.next_slot.Goals as goal
use Rattle.growth_search.proofs.next_slot.Goals.{else-hit-eq0-via-then-hit-eq0+then-s-n+else-kept_columns-s, else-hit-eq0-via-then-hit-eq0+else-s-n}
use Rattle.growth_search.proofs.next_slot.Goals.{else-hit-eq0-via-else-hit-eq0}

pub loop-s-init : goal.loop-s-init
loop-s-init c = looking-start _ _ c.requires

pub returns-then-kept_columns-s : goal.returns-then-kept_columns-s
returns-then-kept_columns-s c = let e = c.columns-n.ensures.is in (
  looking-found _ _ c.loop-s.invariant
      (slot-open _ _ _ c.loop-s-test.true (let w = c.if-s-n.true in omega arith)
      (keeps-no c.kept_columns.ensures _ refl c.if-kept_columns-s.true)
      (sym c.hit.ensures.is ∙ c.if-hit-eq0.true)),
  c.loop-s-test.true,
)

pub loop-s-preserved : goal.loop-s-preserved
loop-s-preserved c = let e = c.columns-n.ensures.is in looking-step _ _ c.loop-s.invariant c.loop-s-test.true (elim c.else-hit-eq0.branch [
  | else-hit-eq0-via-then-hit-eq0+then-s-n+else-kept_columns-s w ↦ slot_kept _ _ _ (keeps-yes w.kept_columns.ensures _ refl w.if-kept_columns-s.false)
  | else-hit-eq0-via-then-hit-eq0+else-s-n w ↦ let a = w.if-s-n.false in slot-past _ _ _ c.loop-s-test.true (omega arith)
  | else-hit-eq0-via-else-hit-eq0 w ↦ slot-used _ _ _ (λ q. w.if-hit-eq0.false (c.hit.ensures.is ∙ q))
])

pub returns : goal.returns
returns c = looking-end _ _ c.loop-s.invariant c.loop-s-test.false
