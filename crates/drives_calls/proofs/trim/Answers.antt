use Rattle.std.proofs.Common.{arith}
use Rattle.drives.specs.ByHandle.{trim_on, trim}
use Rattle.drives.specs.Pair.{pair}
use Rattle.drives_calls.proofs.OnDrive.{changed-0, changed-1, unchanged}
use Rattle.drives_calls.proofs.trim.Goals as goal

pub returns-in-0 : goal.returns-in-0
unfolding trim
returns-in-0 c =
    let a = c.args in
    let the-trim = c.trim in
    let p = pair a.g0 a.image0.now a.g1 a.image1.now in
    changed-0 p a.h (trim_on p a.h) c.in-0.is c.answered.ensures
    the-trim.ensures

pub returns-in-1 : goal.returns-in-1
unfolding trim
returns-in-1 c =
    let a = c.args in
    let the-trim2 = c.trim-in-1 in
    let p = pair a.g0 a.image0.now a.g1 a.image1.now in
    changed-1 p a.h (trim_on p a.h) (λ z. let e = c.in-1.is in omega (arith, z, e)) c.in-1.is
    c.answered-in-1.ensures the-trim2.ensures

pub returns-in_default : goal.returns-in_default
unfolding trim
returns-in_default c =
    let a = c.args in
    let p = pair a.g0 a.image0.now a.g1 a.image1.now in
    unchanged p a.h (trim_on p a.h) (λ z. let e = c.in_default in omega (arith, z, e)) (λ z. let e = c.in_default in omega (arith, z, e))
    c.unheld.ensures
