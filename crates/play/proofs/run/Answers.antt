use Rattle.play.proofs.Loop.{good-disk, still, playing-first, playing-on, playing-last}
use Rattle.promises_trace.specs.Promises.{step_fits}
use Rattle.play_trace.specs.declared.Step.{Step}
use Rattle.play_trace.specs.Reading.{read_trace, names_of}
use lib.ListN.{length}
use native.Mathlib.Omega.{arith}
use Prim.Native.Nat.{◌<◌}
use mathlib.Core.Path.{sym, subst}
use Rattle.play.proofs.run.Goals as goal

pub loop-i-init : goal.loop-i-init
loop-i-init c = playing-first _ _ _ _ _
    (good-disk _ _ c.requires.0 c.requires.1 (λ i. (c.slice_known-1.given i).fits))

pub step_at-s-requires : goal.step_at-s-requires
step_at-s-requires c = omega (arith, c.requires.2, c.loop-i-test.true)

pub name_at-name-requires : goal.name_at-name-requires
name_at-name-requires c = let a = c.args in subst (λ (s : Step). s.file < length (names_of (read_trace a.bytes.now))) (sym c.step_at-s.ensures)
    (step_fits a.bytes.now c.loop-i.i
    (omega (arith, c.requires.2, c.loop-i-test.true))).file

pub make-requires : goal.make-requires
make-requires c = let l = c.loop-i in let p = c.requires in still _ _ _ p.0 p.1 l.invariant.good

pub bounds-results-i : goal.bounds-results-i
bounds-results-i c = omega (
  arith,
  c.requires.3,
  c.loop-i-test.true,
  c.loop-i.invariant.room,
)

pub loop-i-preserved : goal.loop-i-preserved
loop-i-preserved c =
    let name-at = c.name_at-name in
    let step-at = c.step_at-s in
    let loop-test = c.loop-i-test in
    let l = c.loop-i in
    let p = c.requires in
    playing-on _ l.invariant loop-test.true p.2 p.3 step-at.ensures name-at.ensures c.make.ensures

pub shape_of-image : goal.shape_of-image
shape_of-image c = c.loop-i.invariant.long

pub shape_of-results : goal.shape_of-results
shape_of-results c = c.loop-i.invariant.room

pub returns : goal.returns
returns c = let p = c.requires in playing-last _ c.loop-i.invariant c.loop-i-test.false p.2
