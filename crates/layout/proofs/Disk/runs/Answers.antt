use native.Mathlib.Omega.{arith}
use mathlib.Core.Path.{◌≡◌, refl, sym, ◌∙◌}
use borrow.Author.Tests.{eq-eqb, ne_eqb}
use Rattle.meaning.specs.Entries.{runs}
use Rattle.layout.proofs.OneStep.{runs-more, runs_none}
use Rattle.lists.specs.Ranges.{left-more}
use Rattle.layout.proofs.Disk.runs.Goals as goal

pub loop-k-init : goal.loop-k-init
unfolding runs
loop-k-init c = refl

pub returns-then-field-eq-ENDS : goal.returns-then-field-eq-ENDS
returns-then-field-eq-ENDS c = record {
  is = sym (c.loop-k.invariant ∙ simp
      (left-more c.loop-k-test.true, runs-more, sym c.field.ensures.is, eq-eqb _ _ c.if-field-eq-ENDS.true));
  small = omega arith;
}

pub loop-k-preserved : goal.loop-k-preserved
loop-k-preserved c = c.loop-k.invariant ∙ simp
    (left-more c.loop-k-test.true, runs-more, sym c.field.ensures.is, ne_eqb _ _ c.if-field-eq-ENDS.false)

pub returns : goal.returns
returns c = let e : c.loop-k.k ≡ 4 = omega arith in record { is = sym (c.loop-k.invariant ∙ simp (e, runs_none)); small = omega arith }
