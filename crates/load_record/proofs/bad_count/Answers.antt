use Rattle.load.specs.Records.{bad_count}
use mathlib.Core.Path.{sym, ◌∙◌}
use borrow.Author.Tests.{eq-eqb, ne_eqb}
use Rattle.lists.specs.Tests.{all-no, all_yes, all_one}
use Rattle.load_record.proofs.bad_count.Goals as goal

pub returns-then-c-eq-START : goal.returns-then-c-eq-START
unfolding bad_count
returns-then-c-eq-START c = sym (all_yes (eq-eqb _ _ c.if-c-eq-START.true) _ ∙ all_one _)

pub returns-else-c-eq-START : goal.returns-else-c-eq-START
unfolding bad_count
returns-else-c-eq-START c = let e = ne_eqb _ _ c.if-c-eq-START.false in e ∙ sym (all-no e _)
