use Rattle.back_write.proofs.Frame.{TakingBack}
use Rattle.back_taken.specs.Listed.{first_of}
use Rattle.meaning.specs.Entries.{entry_granules}
use Rattle.meaning.specs.Lists.{each}
use lib.ListN.{length}
use Rattle.back_write.proofs.take_all.Given as goal

abbrev pub invariant-loop-s : goal.invariant-loop-s
invariant-loop-s l = TakingBack l.g l.initial.image (λ k. each (entry_granules l.g l.initial.image) (first_of l.entries k)) l.image l.s-index (length l.entries)
