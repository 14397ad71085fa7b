use mathlib.Core.Path.{◌≡◌}
use lib.ListN.{drop}
use Rattle.meaning.specs.Names.{mix}
use Rattle.meaning.specs.Lists.{through}
use Rattle.name_hash.proofs.all_mixed.Given as goal

abbrev pub invariant-loop-b : goal.invariant-loop-b
invariant-loop-b l = through mix 0 l.bytes ≡ through mix l.h (drop l.b-index l.bytes)
