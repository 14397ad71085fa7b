-- The theorem to the type of `Statement`.
use Rattle.laws.specs.Passed
use Rattle.promises_fault.specs.Statement.{EveryFault}
use Rattle.promises_fault.specs.Told
use Rattle.promises_fault.specs.Handed

-- the fault, whatever the image
pub every-fault : EveryFault
every-fault g d = record {
  told = Told.tells g d;
  one = Told.tells-one g d;
  checked = Passed.check-fault g d;
  handed = Handed.handed g d;
  back = Handed.back g d;
}
