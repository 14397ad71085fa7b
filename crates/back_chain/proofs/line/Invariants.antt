use lib.ListN.{length}
use mathlib.Core.Path.{◌≡◌}
use Rattle.back_chain.proofs.Chain.{Lining}
use Rattle.check_map.specs.Owners.{standing}
use Rattle.back_chain.proofs.line.Given as goal

abbrev pub invariant-loop-n : goal.invariant-loop-n
invariant-loop-n l = (length l.entries ≡ 256) × Lining l.disk.g l.disk.image.now l.most l.s l.entries
    (standing l.disk.g l.disk.image.now l.map) l.met l.at l.n l.granules
