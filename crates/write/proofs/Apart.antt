-- On a consistent disk a file without the system flag is apart from the directory.
use mathlib.Core.Logic.{⊎_elim, ◌⊎◌, inl, inr}
use mathlib.Core.List.{List}
use mathlib.Core.Path.{ap}
use mathlib.Core.Bool.{not}
use Prim.Native.Nat.{ℕ, ◌+◌, ◌*◌, ◌/◌, ◌≤◌, suc}
use native.Mathlib.Omega.{arith}
use native.Mathlib.Nat.{mul-le-mul_left}
use lib.ListN.{get_or}
use Rattle.meaning.specs.Layout.{directory_sectors, directory_granules, granule_sectors, granule_bytes, round_up}
use Rattle.lists.specs.Sizes
use Rattle.meaning.specs.Chain.{owned}
use Rattle.meaning.specs.declared.Geometry.{Geometry}
use Rattle.laws.specs.Change
use Rattle.laws.specs.Facts
use Rattle.lists.specs.Members.{In, in_count, true-T}
use Rattle.laws.specs.Others.{get_or-in}
use Rattle.laws.specs.Places
use Rattle.laws.specs.Steps.{Ready}
use Rattle.lists.specs.Tests.{le-or-lt}
use Rattle.write.specs.Apart.{Apart}

module _ (g : Geometry) (d : List ℕ) (s : ℕ) (r : Ready g d s) where
  sound : Facts.Sound g d
  sound = Facts.sound g d r.sound

  -- a granule that is none of the directory's lies before it or behind it
  before-or-behind : (n : ℕ) → (In n (directory_granules g d) → ⊥)
      → (granule_bytes g * n + granule_bytes g ≤ 256 * g.start) ⊎ (256 * (g.start + directory_sectors g d) ≤ granule_bytes g * n)
  unfolding directory_sectors
  before-or-behind n z =
      let a = (Places.fits g d (true-T r.fits)).start-at in
      let b = (Sizes.split (Sizes.sectors-pos g) g.start).is in
      let c = Sizes.round-holds (Sizes.sectors-pos g) (directory_sectors g d) in
      ⊎_elim
      (λ p.
      ⊎_elim (λ q. inr (rw (Sizes.bytes-are g)
      (omega (
        arith,
        mul-le-mul_left {m = g.start / granule_sectors g + round_up (directory_sectors g d) (granule_sectors g)} {n = n} (granule_sectors g)
            q,
      )))) (λ q. absurd (z (in_count n (g.start / granule_sectors g) (round_up (directory_sectors g d) (granule_sectors g)) p q)))
      (le-or-lt (g.start / granule_sectors g + round_up (directory_sectors g d) (granule_sectors g)) n))
      (λ p. inl (rw (Sizes.bytes-are g) (omega (arith, mul-le-mul_left {m = suc n} {n = g.start / granule_sectors g} (granule_sectors g) p))))
      (le-or-lt (g.start / granule_sectors g) n)

  pub is-apart : Apart g d s
  is-apart =
      let f = Change.filed-at g d sound s (record { slot = true-T r.slot; primary' = true-T r.first }) in
      record { apart = λ k l. before-or-behind (get_or (owned g d s) k 0) (f.off (true-T (ap not r.user)) _ (get_or-in (owned g d s) k l)) }
