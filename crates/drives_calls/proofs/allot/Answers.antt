use Rattle.std.proofs.Common.{arith}
use Rattle.drives.specs.ByHandle.{allot_on, allot}
use Rattle.drives.specs.Pair.{pair}
use Rattle.drives_calls.proofs.OnDrive.{changed-0, changed-1, unchanged}
use Rattle.drives_calls.proofs.allot.Goals as goal

pub returns-in-0 : goal.returns-in-0
unfolding allot
returns-in-0 c =
    let a = c.args in
    let the-allot = c.allot in
    let p = pair a.g0 a.image0.now a.g1 a.image1.now in
    changed-0 p a.h (allot_on p a.h a.k) c.in-0.is
    c.answered.ensures the-allot.ensures

pub returns-in-1 : goal.returns-in-1
unfolding allot
returns-in-1 c =
    let a = c.args in
    let the-allot2 = c.allot-in-1 in
    let p = pair a.g0 a.image0.now a.g1 a.image1.now in
    changed-1 p a.h (allot_on p a.h a.k) (λ z. let e = c.in-1.is in omega (arith, z, e))
    c.in-1.is c.answered-in-1.ensures the-allot2.ensures

pub returns-in_default : goal.returns-in_default
unfolding allot
returns-in_default c = let a = c.args in let p = pair a.g0 a.image0.now a.g1 a.image1.now in unchanged p a.h (allot_on p a.h a.k)
    (λ z. let e = c.in_default in omega (arith, z, e))
    (λ z. let e = c.in_default in omega (arith, z, e)) c.unheld.ensures
