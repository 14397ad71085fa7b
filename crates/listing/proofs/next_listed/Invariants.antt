use mathlib.Core.Path.{◌≡◌}
use Prim.Native.Nat.{◌-◌, ◌*◌, ◌/◌, ◌≤◌, ◌<◌}
use Rattle.meaning.specs.Layout.{entry_at}
use Rattle.listing.specs.From.{listed_from}
use Rattle.listing.proofs.next_listed.Given as goal

abbrev pub invariant-loop-s : goal.invariant-loop-s
invariant-loop-s l = let g = l.disk.g in let d = l.disk.image.now in (l.from ≤ l.s) × (listed_from g d l.from ≡ listed_from g d l.s)

abbrev pub decreases-loop-s : goal.decreases-loop-s
decreases-loop-s l = 256 - l.s

abbrev pub invariant-loop-s-2 : goal.invariant-loop-s-2
invariant-loop-s-2 l = let g = l.disk.g in let d = l.disk.image.now in
    (l.from ≤ l.s) × (listed_from g d l.from ≡ listed_from g d l.s) × (l.s < 256) × (l.row ≡ 32 * (l.s / 32)) × (l.at ≡ entry_at g l.s)

abbrev pub decreases-loop-s-2 : goal.decreases-loop-s-2
decreases-loop-s-2 l = l.end - l.s
