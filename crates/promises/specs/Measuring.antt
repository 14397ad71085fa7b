-- Free space: how many granules are free, and the longest free stretch, from the GAT alone
use Rattle.std.specs.Prelude.{◌≡◌, ◌≢◌, true, List, ℕ, ◌<◌, length}
use Rattle.std.proofs.Math.Path.{refl, ap}
use Rattle.std.proofs.Common.{sym, ◌∙◌, arith}
use Rattle.std.proofs.Math.Bool.{not}
use Rattle.meaning.specs.Lists.{count}
use Rattle.meaning.specs.Layout.{fits_geometry, granules, taken}
use Rattle.meaning.specs.Consistent.{consistent}
use Rattle.meaning.specs.Free.{free_granules}
use Rattle.meaning.specs.Refusals.{first}
use Rattle.meaning.specs.Listing
use Rattle.meaning.specs.FreeSpace.{longest, space_refusals, free_space}
use Rattle.meaning.specs.declared.Geometry.{Geometry}
use Rattle.lists.specs.Members
use Rattle.laws.specs.Facts
use Rattle.laws.specs.Tally
use Rattle.laws.specs.Stretches
use Rattle.laws.specs.Passed.{passed, yes-T, check-none}
use Rattle.promises.specs.Promises.{Measured}
use Rattle.promises.specs.Passing

module _ (g : Geometry) (d : List ℕ) where
  -- accepted: the two numbers
  module _ (e : (free_space g d).refusal.number ≡ 0) where
    free-is : (free_space g d).free ≡ length (free_granules g d)
    unfolding free_space
    free-is = rw e

    longest-is : (free_space g d).longest ≡ longest g d
    unfolding free_space
    longest-is = rw e

    fits : fits_geometry g d ≡ true
    unfolding free_space
    fits = Members.T_true (yes-T (fits_geometry g d) (passed 1 _ _ (omega arith) e).0)

    counts-free : consistent g d ≡ true → (Listing.counts g d).free ≡ length (free_granules g d)
    unfolding Listing.counts
    counts-free c = rw (check-none g d fits c) refl

    pub measure-serves : Measured g d (free_space g d)
    measure-serves =
        let there = Stretches.longest-there g d (granules g) 0 in
        record {
          clear = free-is;
          tally = λ c. omega (arith, Tally.tally g d (Facts.sound g d c), free-is);
          listing = λ c. counts-free c ∙ sym free-is;
          first = there.0;
          stretch = record { inside = omega (arith, there.1, longest-is); clear = λ k a b. there.2 k a (omega (arith, longest-is)) };
          none-longer = λ a n s. omega (arith, Stretches.none-longer g d (granules g) 0 a n (omega arith) (omega (arith, s.inside)) s.clear, longest-is);
        }

  pub measure-refuses : (free_space g d).refusal.number ≢ 0 → ((free_space g d).free ≡ 0) × ((free_space g d).longest ≡ 0)
  unfolding free_space
  measure-refuses k = (Passing.other-case (first (space_refusals g d)) _ 0 k, Passing.other-case (first (space_refusals g d)) _ 0 k)

module _ (g : Geometry) (d d' : List ℕ) (long : length d' ≡ length d) (same : (n : ℕ) → n < granules g → taken g d' n ≡ taken g d n) where
  fits-same : fits_geometry g d' ≡ fits_geometry g d
  unfolding fits_geometry
  fits-same = rw long

  free-same : free_granules g d' ≡ free_granules g d
  unfolding free_granules
  free-same = Members.keep-eq _ _ (count 0 (granules g)) (λ n i. ap not (same n (omega (arith, Members.count-in n 0 (granules g) i))))

  pub alone : free_space g d' ≡ free_space g d
  unfolding free_space
  alone = rw (fits-same, free-same, Stretches.longest-same g d d' (granules g) 0 (granules g) (omega arith) same) refl
