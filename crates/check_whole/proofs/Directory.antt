-- The directory lies on the owner map, in at most six granules.
use mathlib.Core.Path.{◌≡◌}
use mathlib.Core.List.{List}
use Prim.Native.Nat.{ℕ, ◌+◌, ◌*◌, ◌/◌, ◌≤◌}
use Rattle.meaning.specs.Layout.{directory_sectors, granule_sectors, most_blocks, round_up, granules}
use Rattle.lists.specs.Sizes
use Rattle.meaning.specs.declared.Geometry.{Geometry}
use Rattle.layout.specs.Room.{Room}
use Rattle.check_map.specs.Owners.{Window}
use Rattle.check_map.specs.Eight.{Spans}
use Rattle.check_walk.proofs.WalkSteps.{on-map}

pub directory-on-map : (g : Geometry) (d : List ℕ) → Room g d
    → g.start / granule_sectors g + round_up (directory_sectors g d) (granule_sectors g) ≤ most_blocks *
    g.units
directory-on-map g d room = on-map g d (g.start / granule_sectors g + round_up (directory_sectors g d) (granule_sectors g)) room
    (Sizes.touched-inside (Sizes.sectors-pos g) g.start (directory_sectors g d) (granules g) room.directory)

-- the code's numbers for the directory's first granule and how many it touches
module _ (g : Geometry) (d : List ℕ) {a n : ℕ} (e : a ≡ g.start / granule_sectors g) (f : n ≡ round_up (directory_sectors g d) (granule_sectors g)) where
  pub on-map-at : Room g d → a + n ≤ most_blocks * g.units
  on-map-at room = rw (e, f) (directory-on-map g d room)

  pub spans-at : {from : ℕ} → Spans g.units (g.start / granule_sectors g) (round_up (directory_sectors g d) (granule_sectors g)) from → Spans g.units a n
      from
  spans-at s = rw (e, f) s

  pub window-at : {from bits : ℕ} → Window g.units a n from bits → Window g.units (g.start / granule_sectors g)
      (round_up (directory_sectors g d) (granule_sectors g)) from bits
  window-at w = rw (e, f) at w
