use mathlib.Core.Path.{sym, ◌∙◌}
use Prim.Native.Nat.{◌%◌}
use borrow.Author.Tests.{eq-eqb, ne_eqb}
use Rattle.lists.specs.Tests.{all-no, all_yes, all_one}
use Rattle.space.proofs.Clear.{block-every}
use Rattle.space.proofs.block_taken.Goals as goal

pub returns-then-n-disk-eq0 : goal.returns-then-n-disk-eq0
returns-then-n-disk-eq0 c = let a = c.args in let whole = c.if-n-disk-eq0.true in
    c.all_set.ensures ∙ block-every a.disk.now.g a.disk.now.image.now a.n c.args.disk.now.room.units-low whole c.gat_byte.ensures.is
    ∙ sym (all_yes (eq-eqb (a.n % a.disk.now.g.units) 0 whole) _ ∙ all_one _)

pub returns-else-n-disk-eq0 : goal.returns-else-n-disk-eq0
returns-else-n-disk-eq0 c = let e = ne_eqb (c.args.n % c.args.disk.now.g.units) 0 c.if-n-disk-eq0.false in e ∙ sym (all-no e _)
