use Rattle.meaning.specs.Refusal.{unplaced}
use mathlib.Core.Path.{ap}
use mathlib.Core.Path.{refl, ◌∙◌}
use Rattle.lists.specs.Tests.{is-false, is-true}
use Rattle.fault_diagnosis.proofs.AllSlots.{directory-in, clear-no, clear-yes}
use Rattle.fault_diagnosis.proofs.after_slots.Goals as goal

pub all_taken-requires : goal.all_taken-requires
all_taken-requires c = directory-in _ _ (rw (← c.granule_sectors.ensures.is) refl) c.directory_granules-n.ensures.is c.args.disk.now.room

pub returns-then-all_taken : goal.returns-then-all_taken
returns-then-all_taken c =
    c.none.ensures ∙ clear-yes _ _ (rw (← c.granule_sectors.ensures.is) refl) c.directory_granules-n.ensures.is
    (is-true c.all_taken.ensures c.if-all_taken.true)

pub returns-else-all_taken : goal.returns-else-all_taken
returns-else-all_taken c = c.unplaced.ensures ∙ ap unplaced c.number.ensures
    ∙ clear-no _ _ (rw (← c.granule_sectors.ensures.is) refl) c.directory_granules-n.ensures.is (is-false c.all_taken.ensures c.if-all_taken.false)
