-- Nothing is refused under 0.
use mathlib.Core.Path.{◌≡◌}
use Prim.Native.Nat.{ℕ}
use native.Mathlib.Omega.{arith}
use Rattle.refusal.specs.declared.Why.{Why}
use Rattle.refusal.specs.declared.Why.TheVariants.{WrongGeometry, NotWellFormed, NotFound, WrongCode, NotAllowed, Stale, TooFewSlots, TooFewGranules}
use Rattle.refusal.specs.declared.Why.TheVariants.{PastSize, NoGrowth, OutOfRange, BadTrace, NoRoom}
use Rattle.refusal.specs.declared.Why.TheVariants.{NoDrive, InUse, NothingWhole, NameInUse, GranuleTaken, DirectoryLength}
use Rattle.refusal.specs.Why.{number}

pub not-zero : (why : Why) → number why ≡ 0 → ⊥
not-zero WrongGeometry q = omega arith
not-zero NotWellFormed q = omega arith
not-zero NotFound q = omega arith
not-zero WrongCode q = omega arith
not-zero NotAllowed q = omega arith
not-zero Stale q = omega arith
not-zero TooFewSlots q = omega arith
not-zero TooFewGranules q = omega arith
not-zero PastSize q = omega arith
not-zero NoGrowth q = omega arith
not-zero OutOfRange q = omega arith
not-zero BadTrace q = omega arith
not-zero NoRoom q = omega arith
not-zero NoDrive q = omega arith
not-zero InUse q = omega arith
not-zero NothingWhole q = omega arith
not-zero NameInUse q = omega arith
not-zero GranuleTaken q = omega arith
not-zero DirectoryLength q = omega arith
