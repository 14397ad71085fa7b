use Rattle.read.proofs.ReadParts.{reading-start, reading_step, reading-end, owned-part}
use mathlib.Core.Path.{refl}
use borrow.Author.Rules.{rules}
use native.Mathlib.Omega.{arith}
use Rattle.read.proofs.read_bytes.Goals as goal

pub loop-done-init : goal.loop-done-init
loop-done-init c = (omega arith, refl, reading-start _ _ _ _ _)

pub overflow_add-i : goal.overflow_add-i
overflow_add-i c = let h = c.requires.1.high in omega (arith, c.loop-done.invariant.0)

pub overflow_add-i-in-loop-done : goal.overflow_add-i-in-loop-done
overflow_add-i-in-loop-done c = let h = c.requires.1.high in omega (arith, c.loop-done.invariant.0)

pub read_part-requires : goal.read_part-requires
read_part-requires c = let the-part-of = c.part_of-m in let p = c.requires in let l = c.loop-done in let q = the-part-of.ensures in (
  p.0,
  owned-part _ _ l.done the-part-of.result p.1 q.1 (omega (arith, q.2, l.invariant.0)),
  q.0,
  omega (
    arith,
    q.2,
    l.invariant.0,
    l.invariant.1,
    p.2,
  ),
)

pub overflow_add-done : goal.overflow_add-done
overflow_add-done c = let q = c.part_of-m.ensures in omega (arith, q.2, c.loop-done.invariant.0)

pub loop-done-smaller : goal.loop-done-smaller
loop-done-smaller c = let q = c.part_of-m.ensures in omega (arith, q.1, q.2)

pub loop-done-preserved : goal.loop-done-preserved
loop-done-preserved c = let the-part-of = c.part_of-m in let l = c.loop-done in let q = the-part-of.ensures in
    (omega (arith, q.2, l.invariant.0), search rules, reading_step _ _ the-part-of.result l.invariant.2 c.read_part.ensures)

pub shape_of-buffer : goal.shape_of-buffer
shape_of-buffer c = c.loop-done.invariant.1

pub returns : goal.returns
returns c = let p = c.requires in reading-end _ _ c.loop-done.invariant.2 c.loop-done.invariant.0 c.loop-done-test.false p.2
