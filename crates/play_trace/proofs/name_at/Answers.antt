use Rattle.play_trace.proofs.Found.{name-all}
use Rattle.play_trace.specs.Reading.{fields_from}
use Rattle.play_trace.specs.Bits.{bits}
use native.Mathlib.Omega.{arith}
use Prim.Native.Nat.{ℕ, ◌+◌, ◌*◌}
use mathlib.Core.Path.{◌≡◌, sym, ap, ◌∙◌}
use Rattle.play_trace.proofs.name_at.Goals as goal

-- src/lib.rt:345:26
pub overflow_mul-k : goal.overflow_mul-k
overflow_mul-k c = let s = name-all c.args.trace.now c.args.k c.requires in omega (arith, s.inside)

-- src/lib.rt:345:22
pub overflow_add-k : goal.overflow_add-k
overflow_add-k c = let s = name-all c.args.trace.now c.args.k c.requires in omega (arith, s.inside)

-- src/lib.rt:345:5
pub eleven_at-requires : goal.eleven_at-requires
eleven_at-requires c = let s = name-all c.args.trace.now c.args.k c.requires in omega (arith, s.inside)

-- src/lib.rt:341:1
pub returns : goal.returns
returns c = let s = name-all c.args.trace.now c.args.k c.requires in
    let k = c.args.k in let e : 8 * (1 + 11 * k) ≡ 8 + 88 * k = omega arith in
    c.eleven_at.ensures ∙ ap (λ (p : ℕ). fields_from (bits c.args.trace.now) p 8 11) e ∙ sym s.name
