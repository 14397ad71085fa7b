use Rattle.compare_order.proofs.Sorting.{order-part, goes-part, order-skip, order-more}
use Rattle.lists.specs.Tests.{is-false, is-true}
use native.Mathlib.Omega.{arith}
use mathlib.Core.Path.{◌∙◌}
use Rattle.compare_order.proofs.visit.Goals as goal

pub returns-then-not-primary : goal.returns-then-not-primary
returns-then-not-primary c = let p = c.requires in (order-skip _ _ _ _ _ (is-false c.primary.ensures c.if-not-primary.true) p.2, p.3)

pub place_for-i-requires : goal.place_for-i-requires
place_for-i-requires c = let p = c.requires in (
  p.0,
  record { slot = p.1; first' = is-true c.primary.ensures c.if-not-primary.false },
  order-part _ _ _ _ _ (omega (arith, p.1.low, p.2.few, p.3)) p.2,
)

pub returns : goal.returns
returns c = let p = c.requires in (
  order-more _ _ _ _ _ _ _ p.2 (record { slot = p.1; first' = is-true c.primary.ensures c.if-not-primary.false })
      (goes-part _ _ _ _ _ _ (omega (arith, p.1.low, p.2.few, p.3)) c.place_for-i.ensures) c.put_at.ensures,
  c.put_at.ensures.long ∙ p.3,
)
