use Rattle.free_space.proofs.Octets.{eight-clear, eight-full}
use Rattle.free_space.proofs.GatPass.{ended-few, going_start, going_step, going_end}
use native.Mathlib.Omega.{arith}
use Rattle.free_space.proofs.pass.Goals as goal

pub loop-b-init : goal.loop-b-init
loop-b-init c = (omega arith, omega arith, going_start _ _)

pub loop-b-preserved-in-0-1 : goal.loop-b-preserved-in-0-1
loop-b-preserved-in-0-1 c = let l = c.loop-b in let p = c.requires in let x = c.in-Some-eq0 in let w = (x.ensures.clear x.field-0-test).1 in (
  w,
  rw c.longer-seen.ensures (omega (arith, l.invariant.1)),
  rw c.longer-seen.ensures (eight-clear _ _ p.units-low _ _ x.ensures l.invariant.2 x.field-0-test),
)

pub loop-b-preserved-in-18446744073709551615-1 : goal.loop-b-preserved-in-18446744073709551615-1
loop-b-preserved-in-18446744073709551615-1 c =
    let l = c.loop-b in
    let p = c.requires in
    let x = c.in-Some-eq18446744073709551615 in
    let w = (x.ensures.full x.field-0-test).1 in (
      w,
      omega (arith, l.invariant.1, ended-few 0 _ _ c.ended-seen.ensures),
      rw c.ended-seen.ensures (eight-full _ _ p.units-low _ _ x.ensures l.invariant.2 x.field-0-test),
    )

pub loop-b-preserved : goal.loop-b-preserved
loop-b-preserved c = let if1 = c.loop-b-test in let l = c.loop-b in let p = c.requires in (
  omega (arith, if1.true),
  omega (arith, l.invariant.1, c.block-seen.ensures.few, p.units-high),
  going_step _ _ p.units-low l.invariant.2 if1.true c.gat_byte.ensures.is c.block-seen.ensures.is,
)

pub returns : goal.returns
returns c = let l = c.loop-b in going_end _ _ l.invariant.2 c.loop-b-test.false c.ended.ensures
