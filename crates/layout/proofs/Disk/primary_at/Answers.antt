use Rattle.lists.specs.Tests.{is-false, is-true}
use Rattle.layout.proofs.OneStep.{flags-at}
use mathlib.Core.Path.{sym}
use Rattle.layout.proofs.Disk.primary_at.Goals as goal

pub returns-then-is_set : goal.returns-then-is_set
returns-then-is_set c = let a = c.args in let f = flags-at a.self.now.g a.self.now.image.now a.s
    c.requires.1 c.from-f.ensures in simp (
      sym f,
      is-true c.is_set.ensures c.if-is_set.true,
      c.is_set-then-is_set.ensures,
    )

pub returns-else-is_set : goal.returns-else-is_set
returns-else-is_set c = let a = c.args in let f = flags-at a.self.now.g a.self.now.image.now a.s
    c.requires.1 c.from-f.ensures in simp (
      sym f,
      is-false c.is_set.ensures c.if-is_set.false,
      c.if-is_set.false,
    )
