use Rattle.write.proofs.Calls.{in_reach}
use Rattle.lists.specs.Tests.{all_yes, all-no, all_one, not-both}
use borrow.Author.Tests.{leb-true, leb-false, lt-leb, le-leb}
use mathlib.Core.Path.{◌≡◌, sym, ◌∙◌}
use mathlib.Core.Bool.{true, false}
use Prim.Native.Nat.{◌+◌}
use lib.Dec.{leb}
use Rattle.meaning.specs.Layout.{highest}
use native.Mathlib.Omega.{arith}
use Rattle.write.proofs.write_ranged.Goals as goal
use Rattle.write.proofs.write_ranged.Goals.{then-in_range, else-in_range}

pub overflow_sub-highest : goal.overflow_sub-highest
overflow_sub-highest c = let a = c.args in omega (arith, c.highest.ensures.is, in_reach a.g a.h (sym c.in_range.ensures ∙ c.if-in_range.true))

pub returns-then-n-highest : goal.returns-then-n-highest
returns-then-n-highest c = let a = c.args in elim c.if-in_range.branch [
  | then-in_range w ↦
      let fits = sym c.in_range.ensures ∙ w.if-in_range.true in
      let low = in_reach a.g a.h fits in let top = w.highest.ensures.is in let end = a.h.at + a.n in
      let few = leb-true _ _ (sym w.value-is ∙ c.if-n-highest.true) in
      let near : leb end (highest a.g) ≡ true = le-leb end (highest a.g) (omega (arith, top, few, low)) in
      sym (all_yes fits _ ∙ all_yes near _ ∙ all_one _)
  | else-in_range w ↦ not-both c.if-n-highest.true (w.value-is ∙ w.if-in_range.false)
]

pub returns-else-n-highest : goal.returns-else-n-highest
returns-else-n-highest c = let a = c.args in elim c.if-in_range.branch [
  | then-in_range w ↦
      let fits = sym c.in_range.ensures ∙ w.if-in_range.true in
      let low = in_reach a.g a.h fits in let top = w.highest.ensures.is in let end = a.h.at + a.n in
      let many = leb-false _ _ (sym w.value-is ∙ c.if-n-highest.false) in
      let far : leb end (highest a.g) ≡ false = lt-leb end (highest a.g) (omega (arith, top, many, low)) in
      c.if-n-highest.false ∙ sym (all_yes fits _ ∙ all-no far _)
  | else-in_range w ↦ c.if-n-highest.false ∙ sym (all-no (sym c.in_range.ensures ∙ w.if-in_range.false) _)
]
