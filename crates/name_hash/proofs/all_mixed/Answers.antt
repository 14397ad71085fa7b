use native.Mathlib.Omega.{arith}
use mathlib.Core.Path.{refl, sym, ap, ◌∙◌}
use Prim.Native.Nat.{ℕ, ◌+◌}
use lib.ListN.{drop, drop_of_length-le}
use Rattle.meaning.specs.Names.{mix}
use Rattle.meaning.specs.Lists.{through}
use Rattle.name_hash.proofs.Mixing.{through-more}
use Rattle.name_hash.proofs.all_mixed.Goals as goal

pub loop-b-init : goal.loop-b-init
loop-b-init c = refl

pub loop-b-preserved : goal.loop-b-preserved
loop-b-preserved c = c.loop-b.invariant ∙ through-more c.args.bytes.now c.loop-b.h c.loop-b.b-index (omega arith)
    ∙ ap (λ (k : ℕ). through mix k (drop (c.loop-b.b-index + 1) c.args.bytes.now)) (sym c.turned-h.ensures)

pub returns : goal.returns
returns c = sym (c.loop-b.invariant ∙ ap (through mix c.loop-b.h) (drop_of_length-le c.args.bytes.now {i = c.loop-b.b-index} (omega arith)))
