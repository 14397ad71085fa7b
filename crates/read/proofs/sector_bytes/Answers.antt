use native.Mathlib.Omega.{arith}
use Rattle.read.proofs.ReadParts.{bytes-before, bytes_whole, bytes-last}
use mathlib.Core.Path.{sym, ◌∙◌}
use Rattle.read.proofs.sector_bytes.Goals as goal

pub returns-then-k-word : goal.returns-then-k-word
returns-then-k-word c = let a = c.args in
    (bytes-before a.disk.now.g a.disk.now.image.now a.s a.k (λ q. c.if-k-word.true (q ∙ sym c.word.ensures.is)), omega arith)

pub returns-in-0 : goal.returns-in-0
returns-in-0 c = let a = c.args in (
  bytes_whole a.disk.now.g a.disk.now.image.now a.s a.k (c.if-k-word.false ∙ c.word.ensures.is)
      (sym c.field.ensures.is ∙ c.in-0.is),
  omega arith,
)

pub returns-in_default : goal.returns-in_default
returns-in_default c = let a = c.args in (
  c.field.ensures.is ∙ bytes-last a.disk.now.g a.disk.now.image.now a.s a.k (c.if-k-word.false ∙ c.word.ensures.is) (λ q. omega (arith, q, c.field.ensures.is)),
  omega arith,
)
