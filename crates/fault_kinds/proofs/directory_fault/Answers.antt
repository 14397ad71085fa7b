use Rattle.fault_kinds.proofs.Bridge.{directory-by}
use Rattle.meaning.specs.Entries.{system}
use Rattle.std.proofs.Common.{refl, ◌/◌}
use Rattle.std.proofs.Common.{arith, ap}
use Rattle.std.proofs.lemmas.Grind.{common_steps}
use Rattle.meaning.specs.Lists.{all, any}
use Rattle.meaning.specs.Fault.{directory_fault}
use Rattle.fault_kinds.proofs.directory_fault.Goals as goal

pub returns-then-not-flag : goal.returns-then-not-flag
unfolding directory_fault all any
returns-then-not-flag c = let d = c.args.disk.now in grind (
  arith,
  common_steps,
  directory-by d.g d.image.now c.args.s {b = d.g.start / c.granule_sectors.result} {m = c.directory_granules-m.result} d.room
      (rw (← c.granule_sectors.ensures.is) refl) c.directory_granules-m.ensures.is,
  ap (system d.g d.image.now) c.file_of-p.ensures.0,
)

pub returns-else-not-flag : goal.returns-else-not-flag
unfolding directory_fault all any
returns-else-not-flag c = let d = c.args.disk.now in grind (arith, common_steps, ap (system d.g d.image.now) c.file_of-p.ensures.0)
