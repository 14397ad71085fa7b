use Rattle.lists.specs.Tests.{is-false, is-true}
use Rattle.meaning.specs.Lists.{every}
use Rattle.check_met.specs.Met.{met_at}
use Rattle.check_met.proofs.SlotMap.{rows_are, rows_step, rows-stop, rows_end}
use mathlib.Core.Path.{refl, ap, ◌∙◌}
use native.Mathlib.Omega.{arith}
use Rattle.check_met.proofs.all_met.Goals as goal

pub loop-row-init : goal.loop-row-init
loop-row-init c = record { rest = refl }

pub row_met-requires : goal.row_met-requires
row_met-requires c = (omega arith, omega arith)

pub returns-then-not-row_met : goal.returns-then-not-row_met
returns-then-not-row_met c = let l = c.loop-row in let directory-sectors = c.directory_sectors-columns in let a = c.args in let p = c.args.disk.now.room in
    rows-stop l.invariant c.loop-row-test.true (is-false c.row_met.ensures c.if-not-row_met.true) ∙ ap (every (met_at a.met.now))
    (rows_are _ _ p directory-sectors.ensures)

pub loop-row-preserved : goal.loop-row-preserved
loop-row-preserved c = rows_step c.loop-row.invariant c.loop-row-test.true (is-true c.row_met.ensures c.if-not-row_met.false)

pub returns : goal.returns
returns c = let a = c.args in let p = c.args.disk.now.room in rows_end c.loop-row.invariant c.loop-row-test.false ∙ ap (every (met_at a.met.now)) (rows_are _ _
    p c.directory_sectors-columns.ensures)
