use mathlib.Core.Path.{sym, ◌∙◌}
use borrow.Author.Tests.{ne_eqb}
use Rattle.name_hash.proofs.Mixing.{ends_same, ends-other, ends-zero}
use Rattle.name_hash.proofs.hashes_to.Goals as goal

pub returns-then-m-h : goal.returns-then-m-h
returns-then-m-h c = let a = c.args in ends_same a.name.now a.h (sym c.mixed.ensures ∙ sym c.from-m.ensures ∙ c.if-m-h.true)

pub returns-then-m-eq0 : goal.returns-then-m-eq0
returns-then-m-eq0 c = let a = c.args in ends-zero a.name.now a.h (sym c.mixed.ensures ∙ sym c.from-m.ensures ∙ c.if-m-eq0.true)

pub returns-else-m-eq0 : goal.returns-else-m-eq0
returns-else-m-eq0 c = let mixed = c.mixed in let a = c.args in
    ne_eqb _ _ c.if-m-eq0.false ∙ ends-other a.name.now a.h (λ q. c.if-m-h.false (c.from-m.ensures ∙ mixed.ensures ∙ q))
    (λ q. c.if-m-eq0.false (c.from-m.ensures ∙ mixed.ensures ∙ q))
