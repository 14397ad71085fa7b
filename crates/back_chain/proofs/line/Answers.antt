use lib.ListN.{length-set}
use mathlib.Core.Path.{◌≡◌, ◌∙◌}
use Rattle.back_chain.proofs.Chain.{lining-start, lining-bad, lining-stop, lining-more, lining-end}
use native.Mathlib.Omega.{arith}
use Rattle.back_chain.proofs.line.Goals as goal

pub loop-n-init : goal.loop-n-init
loop-n-init c = (c.requires.2, lining-start _ _ _ _ _ c.requires.0)

pub visit-requires : goal.visit-requires
visit-requires c = c.loop-n.invariant.1.slot

pub returns-in_err-granules : goal.returns-in_err-granules
returns-in_err-granules c = rw c.from_residual.ensures
    (lining-bad _ _ c.args.disk.now.room c.loop-n.invariant.1 (omega arith) c.in_err-granules.ensures)

pub overflow_add-granules : goal.overflow_add-granules
overflow_add-granules c = let a = c.loop-n.invariant.1.small in let b = c.in_ok-granules.ensures.visited.few in omega arith

pub field-requires : goal.field-requires
field-requires c = (c.loop-n.invariant.1.slot, omega arith)

pub returns-then-field-eq-ENDS : goal.returns-then-field-eq-ENDS
returns-then-field-eq-ENDS c = lining-stop _ _ c.loop-n.invariant.1
    (let q = c.loop-n.invariant.0 in omega arith)
    (omega arith)
    c.requires.1
    c.in_ok-granules.ensures c.field.ensures.is c.if-field-eq-ENDS.true

pub field-at-requires : goal.field-at-requires
field-at-requires c = (c.loop-n.invariant.1.slot, omega arith)

pub loop-n-preserved : goal.loop-n-preserved
loop-n-preserved c = (
  length-set c.loop-n.entries
      c.loop-n.n
      c.loop-n.at ∙ c.loop-n.invariant.0,
  lining-more _ _ c.loop-n.invariant.1
      (let q = c.loop-n.invariant.0 in omega arith)
      (omega arith)
      c.in_ok-granules.ensures
      c.field.ensures.is
      c.if-field-eq-ENDS.false c.field-at.ensures.is,
)

pub returns : goal.returns
returns c = let e : c.loop-n.n ≡ c.args.most = omega arith in lining-end _ _ (rw e at c.loop-n.invariant.1) (omega arith) c.requires.1
