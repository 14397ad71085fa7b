use native.Mathlib.Omega.{arith}
use borrow.Author.Tests.{eq-eqb, ne_eqb}
use mathlib.Core.Path.{sym, ◌∙◌}
use Rattle.layout.proofs.Number.{name-numbers}
use Rattle.layout.proofs.same_name.Goals as goal

pub returns-then-eight : goal.returns-then-eight
returns-then-eight c = sym (name-numbers c.args.image.now
    c.args.name.now c.args.at
    (omega arith) c.requires.1
    (λ i. omega (arith, c.shared_slice_known-1.given i))
    (λ i. omega (arith, c.shared_slice_known-2-1.given i)) ∙ simp (
      ← c.eight.ensures.is,
      ← c.eight-2.ensures.is,
      ← c.three.ensures,
      ← c.three-then-eight.ensures,
      eq-eqb _ _ c.if-eight.true,
    ))

pub returns-else-eight : goal.returns-else-eight
returns-else-eight c = ne_eqb _ _ c.if-eight.false ∙ sym (name-numbers c.args.image.now c.args.name.now
    c.args.at (omega arith) c.requires.1
    (λ i. omega (arith, c.shared_slice_known-1.given i))
    (λ i. omega (arith, c.shared_slice_known-2-1.given i)) ∙ simp
    (← c.eight.ensures.is, ← c.eight-2.ensures.is, ne_eqb _ _ c.if-eight.false))
