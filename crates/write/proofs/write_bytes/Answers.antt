use Rattle.write.proofs.Parts.{storing-start, bytes-step, stored}
use Rattle.read.proofs.ReadParts.{place-fits, owned-part}
use Rattle.seek.proofs.Frame.{same-sound, same-used, same_place}
use lib.ListN.{take}
use Prim.Native.Nat.{ℕ, ◌+◌, ◌≤◌}
use mathlib.Core.Path.{◌≡◌, ◌∙◌, ap}
use native.Mathlib.Omega.{arith}
use Rattle.write.proofs.write_bytes.Goals as goal

-- src/lib.rt:28:5
pub loop-done-init : goal.loop-done-init
loop-done-init c = (omega arith, storing-start _ _ _ _)

-- src/lib.rt:29:34
pub overflow_add-i : goal.overflow_add-i
overflow_add-i c = let h = c.requires.2.high in omega (arith, c.loop-done.invariant.0)

-- src/lib.rt:30:42
pub overflow_add-i-in-loop-done : goal.overflow_add-i-in-loop-done
overflow_add-i-in-loop-done c = let h = c.requires.2.high in omega (arith, c.loop-done.invariant.0)

pub invariant_of-place : goal.invariant_of-place
invariant_of-place c = let p = c.requires.0.sound in record { room = (same-sound _ _ _ p c.loop-done.invariant.1.same).room }

-- src/lib.rt:30:13
pub place-p-requires : goal.place-p-requires
place-p-requires c = let p = c.requires in let loop = c.loop-done in let h = p.2.high in
    let l = loop.invariant.0 in (
      same-sound _ _ _ p.0.sound loop.invariant.1.same,
      same-used _ _ _ p.0.sound.room loop.invariant.1.same p.0.used,
      omega (
        arith,
        c.loop-done-test.true,
      ),
    )

-- src/lib.rt:31:9
pub put_part-requires : goal.put_part-requires
put_part-requires c = let the-part-of = c.part_of-m in let args = c.args in let loop = c.loop-done in let p = c.requires in let q = the-part-of.ensures in
    let a = args in
    let l = place-fits a.g a.image.now a.s (a.i + loop.done) the-part-of.result p.0 (owned-part _ _ loop.done the-part-of.result
    p.2 q.1 (omega (arith, q.2, loop.invariant.0))) q.0 in
    let e = c.place-p.ensures ∙ same_place a.g a.image.now loop.image p.0.sound loop.invariant.1.same a.s (a.i + loop.done)
    p.0.used in
    (omega (arith, l, e, loop.invariant.1.same.long), omega (arith, q.2, loop.invariant.0, p.3))

-- src/lib.rt:32:9
pub overflow_add-done : goal.overflow_add-done
overflow_add-done c = let the-part-of = c.part_of-m in let l = c.loop-done in let q = the-part-of.ensures in
    omega (arith, q.2, l.invariant.0)

-- src/lib.rt:28:5
pub loop-done-smaller : goal.loop-done-smaller
loop-done-smaller c = let q = c.part_of-m.ensures in omega (arith, q.1, q.2)

-- src/lib.rt:28:5
pub loop-done-preserved : goal.loop-done-preserved
loop-done-preserved c = let the-part-of = c.part_of-m in let args = c.args in let l = c.loop-done in let p = c.requires in
    let the-place = c.place-p in let q = the-part-of.ensures in
    let a = args in
    let b : l.done + the-part-of.result ≤ a.n = omega (arith, q.2, l.invariant.0) in (
      b,
      bytes-step _ _ l.done the-part-of.result p.0 p.1 (owned-part _ _ l.done the-part-of.result p.2 q.1 b) q.0
          (the-place.ensures ∙ same_place a.g a.image.now l.image p.0.sound l.invariant.1.same a.s (a.i + l.done) p.0.used)
          a.src.now
          (omega (arith, b, p.3)) l.invariant.1 c.put_part.ensures,
    )

-- src/lib.rt:23:1
pub shape_of-image : goal.shape_of-image
shape_of-image c = c.loop-done.invariant.1.same.long

-- src/lib.rt:23:1
pub returns : goal.returns
returns c = let l = c.loop-done in let a = c.args in let e : l.done ≡ a.n = omega (arith, l.invariant.0, c.loop-done-test.false) in
    l.invariant.1.is ∙ ap (λ (k : ℕ). stored a.g a.image.now a.s a.i (take k a.src.now)) e
