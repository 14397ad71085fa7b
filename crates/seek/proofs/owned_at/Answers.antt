use native.Mathlib.Omega.{arith}
use Prim.Native.Nat.{ℕ}
use lib.ListN.{get_or}
use mathlib.Core.Path.{ap, sym, ◌∙◌}
use Rattle.meaning.specs.Lists.{each}
use Rattle.meaning.specs.Chain.{owned, chain, chain_from}
use Rattle.meaning.specs.Entries.{entry_granules}
use Rattle.seek.proofs.SeekSteps.{slots_length}
use Rattle.seek.proofs.owned_at.Goals as goal

pub returns : goal.returns
unfolding owned chain
returns c = let a = c.args in let g = a.disk.now.g in let d = a.disk.now.image.now in (
  c.entry_walk.ensures.0 ∙ ap (λ (n : ℕ). get_or (each (entry_granules g d) (chain_from g d n a.s)) a.k 0)
      (c.slots.ensures.is ∙ sym (slots_length g d (omega arith) (omega arith))),
  c.entry_walk.ensures.1,
)
