use Rattle.play_trace.proofs.Found.{step-bytes}
use Rattle.play_trace.specs.Reading.{numbers_at}
use Rattle.play_trace.specs.Steps.{step_of}
use Rattle.play_trace.specs.Bits.{bits}
use native.Mathlib.Omega.{arith}
use Prim.Native.Nat.{ℕ, ◌+◌, ◌*◌}
use mathlib.Core.Path.{◌≡◌, sym, ap, ◌∙◌}
use Rattle.play_trace.proofs.step_at.Goals as goal

-- src/lib.rt:316:22
pub bounds-trace-0 : goal.bounds-trace-0
bounds-trace-0 c = (step-bytes c.args.trace.now c.args.i c.requires).some

-- src/lib.rt:317:48
pub overflow_mul-i : goal.overflow_mul-i
overflow_mul-i c = let s = step-bytes c.args.trace.now c.args.i c.requires in
    omega (arith, s.inside)

-- src/lib.rt:317:31
pub overflow_add-names-2 : goal.overflow_add-names-2
overflow_add-names-2 c = let s = step-bytes c.args.trace.now c.args.i c.requires in
    let w : c.from-names.result ≡ s.n = c.from-names.ensures ∙ s.count (omega (arith, c.from-names.ensures)) in
    omega (arith, w, s.inside)

-- src/lib.rt:317:13
pub numbers_at-requires : goal.numbers_at-requires
numbers_at-requires c = let s = step-bytes c.args.trace.now c.args.i
    c.requires in
    let w : c.from-names.result ≡ s.n = c.from-names.ensures ∙ s.count (omega (arith, c.from-names.ensures)) in
    omega (arith, w, s.inside)

-- src/lib.rt:312:1
pub returns : goal.returns
returns c = let s = step-bytes c.args.trace.now c.args.i
    c.requires in
    let w : c.from-names.result ≡ s.n = c.from-names.ensures ∙ s.count
    (omega (arith, c.from-names.ensures)) in
    c.step_of.ensures ∙ ap step_of (c.numbers_at.ensures ∙ ap
    (λ (x : ℕ). numbers_at (bits c.args.trace.now)
    (8 * (1 + 11 * x + 7 * c.args.i))) w) ∙ sym s.step
