use Rattle.extent.proofs.Measuring.{Measuring}
use Prim.Native.Nat.{◌-◌, ◌*◌}
use Rattle.meaning.specs.Layout.{directory_sectors}
use Rattle.extent.proofs.measure.Given as goal

abbrev pub invariant-loop : goal.invariant-loop
invariant-loop l = Measuring l.disk.g l.disk.image.now l.s (8 * (directory_sectors l.disk.g l.disk.image.now - 2)) l.at l.last l.owned l.counter
