use Prim.Native.Nat.{ℕ}
use lib.ListN.{length-replicate}
use Rattle.bring_back.proofs.Call.{refused, accepted, listed_then, taken-same, slice-listed, written-fits}
use Rattle.seek.proofs.Frame.{same-room}
use Rattle.passed.proofs.Checked.{handed}
use Rattle.bring_back.proofs.bring_back_checked.Goals as goal

pub plan-requires : goal.plan-requires
plan-requires c = (c.requires, length-replicate {A = ℕ} 256 0)

pub returns-in-Err : goal.returns-in-Err
returns-in-Err c = refused _ _ _ c.in-Err.ensures

pub take_all-requires : goal.take_all-requires
take_all-requires c =
    let p = c.in-Ok.ensures in
    (p.room, slice-listed p.written.listed (written-fits _ _ _ p.written c.plan.array_long))

pub back_all-requires : goal.back_all-requires
back_all-requires c =
    let p = c.in-Ok.ensures in
    let h = written-fits _ _ _ p.written c.plan.array_long in
    let e = taken-same _ _ _ p.room p.written h c.take_all.ensures in
    (same-room _ _ _ p.room e, slice-listed (listed_then _ _ _ p.room p.written e) h, p.small)

pub returns : goal.returns
returns c =
    let p = c.in-Ok.ensures in
    accepted _ _ _ (handed _ _ 0 c.requires c.accepted.ensures) p (written-fits _ _ _ p.written c.plan.array_long) c.take_all.ensures c.back_all.ensures
