use Rattle.listing_text.specs.Put.{Put}
use Rattle.meaning.specs.Listing.{stripped}
use lib.ListN.{length, take}
use mathlib.Core.Path.{◌≡◌}
use Rattle.listing_text.proofs.put_stripped.Given as goal

abbrev pub invariant-loop-b : goal.invariant-loop-b
invariant-loop-b l = (Put l.b-index l.initial.to l.at (stripped (take l.b-index l.part)) l.to l.e) × (length l.to ≡ length l.initial.to)
