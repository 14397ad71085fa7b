use native.Mathlib.Omega.{arith}
use Rattle.listing.proofs.Files.{counting-start}
use Rattle.listing.proofs.files_count.Goals as goal

pub loop-s-init : goal.loop-s-init
loop-s-init c = (omega arith, counting-start _ _)
