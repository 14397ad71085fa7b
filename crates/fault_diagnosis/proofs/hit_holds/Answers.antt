use Rattle.std.proofs.Common.{refl}
use Rattle.meaning.specs.Lists.{all, any}
use Rattle.meaning.specs.Consistent.{hit_holds}
use Rattle.fault_diagnosis.proofs.hit_holds.Goals as goal

pub returns : goal.returns
unfolding hit_holds all any
returns c = let a = c.args in rw (← c.hit.ensures.is, ← c.flag.ensures) refl
