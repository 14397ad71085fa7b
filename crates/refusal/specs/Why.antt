-- The numbers of the tables of refusals, by what each is given for. (The faults of a disk, 22 to 30, are told by their kinds.)
use Rattle.std.specs.Prelude.{ℕ}
use Rattle.std.proofs.Common.{Result, Ok, Err}
use Rattle.refusal.specs.declared.Why.{Why}
use Rattle.refusal.specs.declared.Why.TheVariants.{WrongGeometry, NotWellFormed, NotFound, WrongCode, NotAllowed, Stale, TooFewSlots, TooFewGranules}
use Rattle.refusal.specs.declared.Why.TheVariants.{PastSize, NoGrowth, OutOfRange, BadTrace, NoRoom}
use Rattle.refusal.specs.declared.Why.TheVariants.{NoDrive, InUse, NothingWhole, NameInUse, GranuleTaken, DirectoryLength}

abbrev pub number : Why → ℕ
number WrongGeometry = 1
number NotWellFormed = 3
number NotFound = 4
number WrongCode = 5
number NotAllowed = 6
number Stale = 7
number TooFewSlots = 8
number TooFewGranules = 9
number PastSize = 10
number NoGrowth = 11
number OutOfRange = 12
number BadTrace = 14
number NoRoom = 15
number NoDrive = 16
number InUse = 17
number NothingWhole = 18
number NameInUse = 19
number GranuleTaken = 20
number DirectoryLength = 21

-- 0 where nothing is refused
abbrev pub number_of : Result (Unit {0}) Why → ℕ
number_of (Ok _) = 0
number_of (Err why) = number why
