use Rattle.meaning.specs.Layout.{set_field}
use Prim.Native.Nat.{ℕ, ◌+◌, ◌-◌, ◌*◌}
use mathlib.Core.Path.{ap, ◌∙◌}
use native.Mathlib.Omega.{arith}
use Rattle.trim.proofs.shorten.Goals as goal

pub overflow_sub-second : goal.overflow_sub-second
overflow_sub-second c = let e = c.entry_byte-second.ensures.is in let p = c.requires.2 in omega arith

pub returns : goal.returns
returns c = let a = c.args in c.set_field.ensures
    ∙ ap (λ (v : ℕ). set_field a.g a.image.now a.e (0x17 + 2 * a.k) (v - c.args.m))
    c.entry_byte-second.ensures.is
