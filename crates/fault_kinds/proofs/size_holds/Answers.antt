use Rattle.meaning.specs.Entries.{entry_granules}
use Rattle.meaning.specs.Chain.{owned}
use Rattle.meaning.specs.Lists.{each}
use lib.ListN.{length}
use Prim.Native.Nat.{ℕ}
use mathlib.Core.Path.{ap, ◌∙◌}
use mathlib.Core.List.{List}
use Rattle.fault_kinds.proofs.size_holds.Goals as goal

pub size_holds-requires : goal.size_holds-requires
unfolding owned
size_holds-requires c = (
  c.requires.0,
  c.count_from-c.ensures.small,
  c.count_from-c.ensures.is ∙ ap
      (λ (l : List ℕ). length (each (entry_granules c.args.disk.now.g c.args.disk.now.image.now) l)) c.requires.2,
)
