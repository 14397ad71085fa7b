use Rattle.check_walk.proofs.WalkSteps.{walked_on}
use Rattle.check_walk.proofs.WalkSteps.{goes-slot-of, walked_none, walked-again, walked-entry-no, walked-entry}
use Rattle.check_walk.proofs.WalkSteps.{walked_end, walked_stop}
use Rattle.lists.specs.Tests.{is-false, is-true}
use mathlib.Core.Path.{refl}
use native.Mathlib.Omega.{arith}
use Rattle.check_walk.proofs.+entry_walk_marker_walk.Goals.{entry_walk-then-left-eq0-via-then-left-eq0}
use Rattle.check_walk.proofs.+entry_walk_marker_walk.Goals.{entry_walk-then-left-eq0-via-else-left-eq0+then-met-s-eq0}
use Rattle.check_walk.proofs.+entry_walk_marker_walk.Goals as goal

pub entry_walk-returns-then-left-eq0 : goal.entry_walk-returns-then-left-eq0
entry_walk-returns-then-left-eq0 t c = elim c.then-left-eq0.branch [
  | entry_walk-then-left-eq0-via-then-left-eq0 w ↦ walked_none _ _ _ _ w.if-left-eq0.true
  | entry_walk-then-left-eq0-via-else-left-eq0+then-met-s-eq0 w ↦ walked-again _ _ _ w.if-left-eq0.false (omega arith)
]

pub entry_walk-returns-in-None : goal.entry_walk-returns-in-None
entry_walk-returns-in-None t c = walked-entry-no _ _ _ _ c.if-left-eq0.false c.in-None.ensures

pub entry_walk-returns-then-field_at-eq-ENDS : goal.entry_walk-returns-then-field_at-eq-ENDS
entry_walk-returns-then-field_at-eq-ENDS t c = walked-entry _ _ _ _ c.if-left-eq0.false (omega arith) c.in-Some.ensures
    (walked_end _ _ _ _ _ _ c.granule_sectors.ensures.is c.field_at.ensures.is c.if-field_at-eq-ENDS.true)

pub entry_walk-returns : goal.entry_walk-returns
entry_walk-returns t c = walked-entry _ _ _ _ c.if-left-eq0.false (omega arith) c.in-Some.ensures c.marker_walk.ensures

pub marker_walk-returns-then-not-goes_on : goal.marker_walk-returns-then-not-goes_on
marker_walk-returns-then-not-goes_on t c = walked_stop _ _ _ _ _ refl c.requires.3 (is-false c.goes_on.ensures c.if-not-goes_on.true)

pub marker_walk-entry_at-to-requires : goal.marker_walk-entry_at-to-requires
marker_walk-entry_at-to-requires t c = goes-slot-of _ _ _ _ (is-true c.goes_on.ensures c.if-not-goes_on.false) c.field_at-t.ensures.is

pub marker_walk-entry_walk-requires : goal.marker_walk-entry_walk-requires
marker_walk-entry_walk-requires t c = (omega arith, (c.entry_at-to.ensures, omega arith))

pub marker_walk-returns : goal.marker_walk-returns
marker_walk-returns t c = walked_on _ _ _ _ _ refl c.requires.3 (is-true c.goes_on.ensures c.if-not-goes_on.false) c.field_at-t.ensures.is
    c.entry_walk.ensures
