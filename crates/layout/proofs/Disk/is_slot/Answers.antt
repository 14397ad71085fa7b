use mathlib.Core.Bool.{and-true}
use Rattle.meaning.specs.Layout.{is_slot}
use Rattle.meaning.specs.Lists.{all}
use borrow.Author.Tests.{le-ltb, lt-ltb}
use Rattle.layout.proofs.Disk.is_slot.Goals as goal

pub returns-then-s-lt256 : goal.returns-then-s-lt256
unfolding is_slot all
returns-then-s-lt256 c = simp (lt-ltb _ _ c.if-s-lt256.true, c.directory_sectors.ensures, and-true)

pub returns-else-s-lt256 : goal.returns-else-s-lt256
unfolding is_slot all
returns-else-s-lt256 c = simp (le-ltb _ _ c.if-s-lt256.false)
