use native.Mathlib.Omega.{arith}
use mathlib.Core.Path.{sym}
use borrow.Author.Tests.{eq-eqb, ne_eqb}
use Rattle.meaning.specs.Entries.{size_of}
use Rattle.layout.proofs.Disk.size_of.Goals as goal

pub returns-in-0 : goal.returns-in-0
unfolding size_of
returns-in-0 c = record {
  is = simp (sym c.field.ensures.is, eq-eqb _ _ c.in-0.is, sym c.word-n.ensures.is);
  small = omega arith;
}

pub returns-in_default : goal.returns-in_default
unfolding size_of
returns-in_default c = record {
  is = simp (sym c.field.ensures.is, ne_eqb c.field.result 0 (λ e. omega (arith, e)), sym c.word-n.ensures.is, c.saturating_sub.ensures);
  small = omega arith;
}
