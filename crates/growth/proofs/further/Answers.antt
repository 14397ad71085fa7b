use Rattle.growth.proofs.Longer.{none-full, none-past, some-clear}
use native.Mathlib.Omega.{arith}
use Rattle.growth.proofs.further.Goals as goal

pub returns-then-long-ge-MOST_RUN : goal.returns-then-long-ge-MOST_RUN
returns-then-long-ge-MOST_RUN c = none-full _ _ _ _ _ c.if-long-ge-MOST_RUN.true

pub returns-then-total-after : goal.returns-then-total-after
returns-then-total-after c = none-past _ _ _ _ _ (let t = c.granules-total.ensures.0 in omega arith)

pub clear_from-requires : goal.clear_from-requires
clear_from-requires c = let t = c.granules-total.ensures.0 in omega arith

pub returns : goal.returns
returns c = let t = c.granules-total.ensures.0 in
    some-clear _ _ _ _ _ c.if-long-ge-MOST_RUN.false (omega arith) (omega arith) (omega arith) (omega arith)
    (λ z. omega arith) c.clear_from.ensures
