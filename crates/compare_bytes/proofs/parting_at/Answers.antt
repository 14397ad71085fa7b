use Rattle.compare_bytes.proofs.Contents.{least-first, least-second, least-other, used, owned-byte, run_fits, run_is, matches-start, matches-on}
use Rattle.compare_bytes.proofs.Contents.{matches-stop, matches-end}
use Rattle.read.proofs.ReadParts.{length-fetch}
use lib.ListN.{length}
use mathlib.Core.Path.{sym, ap, ◌∙◌}
use native.Mathlib.Omega.{arith}
use Rattle.compare_bytes.proofs.parting_at.Goals as goal

pub begin-a-requires : goal.begin-a-requires
begin-a-requires c = let p = c.requires in (p.0.sound, used _ _ _ p.2)

pub begin-b-requires : goal.begin-b-requires
begin-b-requires c = let p = c.requires in (p.1.sound, used _ _ _ p.3)

pub loop-i-init : goal.loop-i-init
loop-i-init c = (
  matches-start _ _ _ _ _ _ _ _ _,
  c.begin-a.ensures.0,
  omega (arith, c.begin-a.ensures.1),
  omega arith,
  c.begin-b.ensures.0,
  omega (arith, c.begin-b.ensures.1),
  omega arith,
)

pub reach-a-requires : goal.reach-a-requires
reach-a-requires c = let least = c.min-end in let a = c.args in let p = c.requires in (
  p.0.sound,
  c.loop-i.invariant.1,
  c.loop-i.invariant.2,
  c.loop-i.invariant.3,
  owned-byte _ _ _ c.loop-i.i a.n p.0 p.2 p.4
      (omega (arith, (least-first _ _ least.ensures), c.loop-i-test.true)),
  omega (arith, (least-first _ _ least.ensures), p.6, c.loop-i-test.true),
)

pub reach-b-requires : goal.reach-b-requires
reach-b-requires c = let l = c.loop-i in let least = c.min-end in let a = c.args in let p = c.requires in (
  p.1.sound,
  l.invariant.4,
  l.invariant.5,
  l.invariant.6,
  owned-byte _ _ _ l.i a.m p.1 p.3 p.5
      (omega (arith, (least-second _ _ least.ensures), c.loop-i-test.true)),
  omega (arith, (least-second _ _ least.ensures), p.7, c.loop-i-test.true),
)

pub overflow_sub-a : goal.overflow_sub-a
overflow_sub-a c = omega (arith, c.reach-a.ensures.2)

pub overflow_sub-b : goal.overflow_sub-b
overflow_sub-b c = omega (arith, c.reach-b.ensures.2)

pub overflow_sub-end : goal.overflow_sub-end
overflow_sub-end c = let loop-test = c.loop-i-test in omega (arith, loop-test.true)

pub part-len-requires : goal.part-len-requires
part-len-requires c =
    let reach = c.reach-a in
    let loop-test = c.loop-i-test in
    (omega (arith, reach.ensures.2), omega (arith, c.reach-b.ensures.2), omega (arith, loop-test.true))

pub overflow_sub-p : goal.overflow_sub-p
overflow_sub-p c = let reach = c.reach-a in omega (arith, reach.ensures.1)

pub overflow_add-p : goal.overflow_add-p
overflow_add-p c =
    let reach = c.reach-a in
    let p = c.requires in
    omega (arith, reach.ensures.0.inside, reach.ensures.1, reach.ensures.2, p.0.sound.room.long, p.0.sound.room.far)

pub overflow_sub-q : goal.overflow_sub-q
overflow_sub-q c = let reach2 = c.reach-b in omega (arith, reach2.ensures.1)

pub overflow_add-q : goal.overflow_add-q
overflow_add-q c =
    let reach2 = c.reach-b in
    let p = c.requires in
    omega (arith, reach2.ensures.0.inside, reach2.ensures.1, reach2.ensures.2, p.1.sound.room.long, p.1.sound.room.far)

pub overflow_add-pe : goal.overflow_add-pe
overflow_add-pe c = let part = c.part-len in let reach = c.reach-a in let l = c.loop-i in let a = c.args in let p = c.requires in omega (
  arith,
  (run_fits a.first.now.g a.first.now.image.now a.s l.i part.result reach.ensures.0 reach.ensures.1
      (omega (arith, part.ensures.1, reach.ensures.2))),
  p.0.sound.room.long,
  p.0.sound.room.far,
)

pub overflow_add-qe : goal.overflow_add-qe
overflow_add-qe c = let part = c.part-len in let reach2 = c.reach-b in let l = c.loop-i in let a = c.args in let p = c.requires in omega (
  arith,
  (run_fits a.second.now.g a.second.now.image.now a.t l.i part.result reach2.ensures.0 reach2.ensures.1
      (omega (arith, part.ensures.2, reach2.ensures.2))),
  p.1.sound.room.long,
  p.1.sound.room.far,
)

pub slice_bounds-alike-count : goal.slice_bounds-alike-count
slice_bounds-alike-count c = omega arith

pub slice_bounds-alike-start : goal.slice_bounds-alike-start
slice_bounds-alike-start c = omega arith

pub slice_bounds-alike-end : goal.slice_bounds-alike-end
slice_bounds-alike-end c =
    let part = c.part-len in
    let reach = c.reach-a in
    let l = c.loop-i in
    let a = c.args in
    (run_fits a.first.now.g a.first.now.image.now a.s l.i part.result reach.ensures.0 reach.ensures.1
    (omega (arith, part.ensures.1, reach.ensures.2)))

pub slice_bounds-alike-count-in-loop-i : goal.slice_bounds-alike-count-in-loop-i
slice_bounds-alike-count-in-loop-i c = omega arith

pub slice_bounds-alike-start-in-loop-i : goal.slice_bounds-alike-start-in-loop-i
slice_bounds-alike-start-in-loop-i c = omega arith

pub slice_bounds-alike-end-in-loop-i : goal.slice_bounds-alike-end-in-loop-i
slice_bounds-alike-end-in-loop-i c =
    let part = c.part-len in
    let reach2 = c.reach-b in
    let l = c.loop-i in
    let a = c.args in
    (run_fits a.second.now.g a.second.now.image.now a.t l.i part.result reach2.ensures.0 reach2.ensures.1
    (omega (arith, part.ensures.2, reach2.ensures.2)))

pub alike-c-requires : goal.alike-c-requires
alike-c-requires c =
    let part = c.part-len in
    let reach2 = c.reach-b in
    let reach = c.reach-a in
    let l = c.loop-i in
    let a = c.args in
    ap length (run_is a.first.now.g a.first.now.image.now a.s l.i part.result reach.ensures.0 reach.ensures.1
    (omega (arith, part.ensures.1, reach.ensures.2))) ∙ length-fetch a.first.now.g a.first.now.image.now a.s l.i part.result
    ∙ sym (ap length (run_is a.second.now.g a.second.now.image.now a.t l.i part.result reach2.ensures.0 reach2.ensures.1
    (omega (arith, part.ensures.2, reach2.ensures.2))) ∙ length-fetch a.second.now.g a.second.now.image.now a.t l.i part.result)

pub overflow_add-result : goal.overflow_add-result
overflow_add-result c =
    let part = c.part-len in
    let reach = c.reach-a in
    let loop-test = c.loop-i-test in
    let l = c.loop-i in
    let least = c.min-end in
    let a = c.args in
    let p = c.requires in
    omega (
      arith,
      c.alike-c.ensures.1,
      (least-first _ _ least.ensures),
      p.6,
      loop-test.true,
      (run_fits a.first.now.g a.first.now.image.now a.s l.i part.result reach.ensures.0 reach.ensures.1
          (omega (arith, part.ensures.1, reach.ensures.2))),
      p.0.sound.room.long,
      p.0.sound.room.far,
      ap length
          (run_is a.first.now.g a.first.now.image.now a.s l.i part.result reach.ensures.0 reach.ensures.1
          (omega (arith, part.ensures.1, reach.ensures.2))) ∙ length-fetch a.first.now.g a.first.now.image.now a.s l.i part.result,
    )

pub returns-then-c-len : goal.returns-then-c-len
returns-then-c-len c =
    let part = c.part-len in
    let reach2 = c.reach-b in
    let reach = c.reach-a in
    let loop-test = c.loop-i-test in
    let l = c.loop-i in
    let least = c.min-end in
    let a = c.args in
    matches-stop _ _ _ _ _ _ _ _ _ l.i part.result (least-first _ _ least.ensures) (least-second _ _ least.ensures)
    (omega (arith, part.ensures.3, loop-test.true))
    (run_is a.first.now.g a.first.now.image.now a.s l.i part.result reach.ensures.0 reach.ensures.1
    (omega (arith, part.ensures.1, reach.ensures.2)))
    (run_is a.second.now.g a.second.now.image.now a.t l.i part.result reach2.ensures.0 reach2.ensures.1
    (omega (arith, part.ensures.2, reach2.ensures.2))) c.alike-c.ensures.0 c.if-c-len.true l.invariant.0

pub overflow_add-i : goal.overflow_add-i
overflow_add-i c =
    let part = c.part-len in
    let loop-test = c.loop-i-test in
    let least = c.min-end in
    let p = c.requires in
    omega (arith, part.ensures.3, (least-first _ _ least.ensures), p.6, loop-test.true)

pub loop-i-smaller : goal.loop-i-smaller
loop-i-smaller c = let part = c.part-len in let loop-test = c.loop-i-test in omega (arith, part.ensures.0, part.ensures.3, loop-test.true)

pub loop-i-preserved : goal.loop-i-preserved
loop-i-preserved c =
    let part = c.part-len in
    let reach2 = c.reach-b in
    let reach = c.reach-a in
    let loop-test = c.loop-i-test in
    let l = c.loop-i in
    let least = c.min-end in
    let a = c.args in (
      matches-on _ _ _ _ _ _ _ _ _ l.i part.result (least-first _ _ least.ensures) (least-second _ _ least.ensures)
          (omega (arith, part.ensures.3, loop-test.true))
          (run_is a.first.now.g a.first.now.image.now a.s l.i part.result reach.ensures.0 reach.ensures.1
          (omega (arith, part.ensures.1, reach.ensures.2)))
          (run_is a.second.now.g a.second.now.image.now a.t l.i part.result reach2.ensures.0 reach2.ensures.1
          (omega (arith, part.ensures.2, reach2.ensures.2))) c.alike-c.ensures.0 c.if-c-len.false l.invariant.0,
      reach.ensures.0,
      omega (arith, reach.ensures.1),
      omega (arith, part.ensures.1, reach.ensures.2),
      reach2.ensures.0,
      omega (arith, reach2.ensures.1),
      omega (arith, part.ensures.2, reach2.ensures.2),
    )

pub returns : goal.returns
returns c = let least = c.min-end in matches-end _ _ _ _ _ _ _ _ _ (least-first _ _ least.ensures) (least-second _ _ least.ensures)
    (least-other _ _ least.ensures) c.loop-i-test.false c.loop-i.invariant.0
