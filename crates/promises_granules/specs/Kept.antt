-- The theorems of `Statement`, from the laws of any width (`lists: Sizes`) and from what the geometry states.
use Rattle.std.specs.Prelude.{◌≡◌, ◌↔◌, Bool, true, false, not, ◌&&◌, ◌||◌, List, [], ◌∷◌, ℕ, ◌+◌, ◌-◌, ◌*◌, ◌/◌, ◌%◌, ◌≤◌, ◌<◌, T, eqb, leb, length}
use Rattle.std.proofs.Math.Path.{refl, ap}
use Rattle.std.proofs.Common.{sym, ◌∙◌, subst, arith, mul-le-mul_left}
use Rattle.std.proofs.Math.Nat.{mul-sub, lt_of_mul-lt-mul_left}
use Rattle.std.proofs.Math.ListN.{get_or}
use Rattle.meaning.specs.Lists.{count, has, all, first}
use Rattle.meaning.specs.Layout.{granule_sizes, granule_sectors, granule_bytes, granules, fits_geometry, granules_for, round_up, above_ten, directory_sectors}
use Rattle.meaning.specs.Layout.{directory_granules}
use Rattle.lists.specs.Sizes
use Rattle.meaning.specs.Entries.{sector_count, end_byte, size_of}
use Rattle.meaning.specs.Chain.{owned, place}
use Rattle.meaning.specs.Consistent.{length_holds, size_holds}
use Rattle.meaning.specs.Refusals.{check}
use Rattle.meaning.specs.Handles.{good_length, in_range}
use Rattle.meaning.specs.Write.{size_after}
use Rattle.meaning.specs.declared.Geometry.{Geometry}
use Rattle.meaning.specs.declared.Handle.{Handle}
use Rattle.meaning.specs.declared.Mode.{Mode}
use Rattle.lists.specs.Members
use Rattle.lists.specs.Members.{In}
use Rattle.laws.specs.Places
use Rattle.laws.specs.Passed
use Rattle.promises_granules.specs.Statement.{OfDirectory, OfGranule, Sums, EverySize, NoOtherSize, Old, AtFive}

is_T : {b : Bool} → b ≡ true → T b
is_T e = rw e tt

-- Any width: n things from a width's start on lie in the widths that they touch ------------------------------------------------------

-- what `touched` says of a width w, of n of them, and of D things from `start` on
abbrev Touched : ℕ → ℕ → ℕ → ℕ → Type 0
Touched w start D n = (k : ℕ) × ((start ≤ k) × (k < start + D)) × ((n * w ≤ k) × (k < (n + 1) * w))

touches : {w : ℕ} → 0 < w → (start D n : ℕ) → start % w ≡ 0 → In n (count (start / w) (round_up D w)) → Touched w start D n
touches {w} p start D n e i =
    let m = Members.count-in n (start / w) (round_up D w) i in
    let a : w * (start / w) ≡ start = omega (arith, (Sizes.split p start).is) in
    let b : w * (start / w) ≤ w * n = mul-le-mul_left w m.0 in
    let c : w * (n - start / w) < D = Sizes.round-more p D (n - start / w) (omega (arith, m)) in
    let l : w * (n - start / w) ≡ w * n - w * (start / w) = mul-sub w n (start / w) in
    (n * w, (omega arith, omega arith), (omega arith, omega arith))

is-touched : {w : ℕ} → 0 < w → (start D n : ℕ) → start % w ≡ 0 → Touched w start D n → In n (count (start / w) (round_up D w))
is-touched {w} p start D n e (k, o, h) =
    let a : w * (start / w) ≡ start = omega (arith, (Sizes.split p start).is) in
    let b : start / w < n + 1 = Sizes.width-lt p start (n + 1) (omega (arith, o, h)) in
    let c : w * n < w * (start / w + round_up D w) = omega (arith, o, h, Sizes.round-holds p D) in
    let l : n < start / w + round_up D w = lt_of_mul-lt-mul_left w c in
    Members.in_count n (start / w) (round_up D w) (omega arith) l

-- The three sizes ---------------------------------------------------------------------------------------------------------------------

module _ (g : Geometry) (d : List ℕ) (h : has granule_sizes g.granule ≡ true) where
  stated : granule_sectors g ≡ g.granule
  stated = Sizes.sectors-stated g h

  wide : granule_bytes g ≡ 256 * g.granule
  wide = Sizes.bytes-are g ∙ ap (256 *◌) stated

  starts : fits_geometry g d ≡ true → g.start % granule_sectors g ≡ 0
  starts e = (Places.fits g d (is_T e)).start-at

  touched-by : fits_geometry g d ≡ true → (n : ℕ) → T (has (directory_granules g d) n) ↔ ((k : ℕ) × OfDirectory g d k × OfGranule g n k)
  touched-by e n =
      let D = directory_sectors g d in
      let p = Sizes.sectors-pos g in
      let of : ℕ → Type 0 = λ w. Touched w g.start D n in (
        λ t. subst of stated (touches p g.start D n (starts e) (Members.has_in n (directory_granules g d) t)),
        λ x. Members.in-has (is-touched p g.start D n (starts e) (subst of (sym stated) x)),
      )

  needs : (size n : ℕ) → (granules_for g size ≤ n) ↔ (size ≤ 256 * g.granule * n)
  needs size n =
      let w : granule_bytes g * n ≡ 256 * g.granule * n = ap (◌* n) wide in (
        λ l. omega (arith, w, Sizes.round-fits (Sizes.bytes_pos g) size n l),
        λ l. Sizes.round-least (Sizes.bytes_pos g) size n (omega (arith, w, l)),
      )

  places : (s i : ℕ) → place g d s i ≡ 256 * g.granule * get_or (owned g d s) (i / (256 * g.granule)) 0 + i % (256 * g.granule)
  unfolding place
  places s i = ap (λ (w : ℕ). w * get_or (owned g d s) (i / w) 0 + i % w) wide

  sums : Sums g d
  sums = record {
    sectors-of = λ n. ap (λ (w : ℕ). count (n * w) w) stated;
    bytes = wide;
    start = λ e. ap (λ (w : ℕ). g.start % w) (sym stated) ∙ starts e;
    touched = touched-by;
    position = omega (arith, wide);
    sector = omega (arith, stated);
    allotted = λ k. ap (λ (w : ℕ). k / w + 1) stated;
    needed = needs;
    placed = places;
    counted = Sizes.sectors-low g;
    positioned = omega (arith, wide, stated, Sizes.sectors-most g);
  }

pub every-size : EverySize
every-size g d h = sums g d h

-- Any other size ------------------------------------------------------------------------------------------------------------------------

ruleset parts = (Members.and_l, Members.and_r)

sized : (g : Geometry) (d : List ℕ) → T (fits_geometry g d) → T (has granule_sizes g.granule)
unfolding fits_geometry all
sized g d t = search parts depth 9

unsized : (g : Geometry) (d : List ℕ) → has granule_sizes g.granule ≡ false → fits_geometry g d ≡ false
unsized g d h = go (fits_geometry g d) (sized g d)
  where
    go : (b : Bool) → (T b → T (has granule_sizes g.granule)) → b ≡ false
    go true f = absurd (rw h at f tt)
    go false f = refl

pub no-other-size : NoOtherSize
no-other-size g d h = (unsized g d h, Passed.check-one g d (unsized g d h))

-- Five ------------------------------------------------------------------------------------------------------------------------------------

-- a directory by fives is whole granules
fives : (g : Geometry) (d : List ℕ) → length_holds g d ≡ true → (directory_sectors g d + 4) / 5 ≡ directory_sectors g d / 5
unfolding directory_sectors
fives g d e = omega (arith, (Places.dir g d (is_T e)).fives)

module _ (g : Geometry) (d : List ℕ) (e : g.granule ≡ 5) where
  five : granule_sectors g ≡ 5
  five = Sizes.sectors-01 g e

  bytes' : granule_bytes g ≡ 1280
  bytes' = Sizes.bytes-01 g e

  geometry' : fits_geometry g d
      ≡ all (leb 1 g.blocks ∷ leb g.blocks 192 ∷ leb 1 g.units ∷ leb g.units 8
      ∷ eqb (g.start % 5) 0
      ∷ eqb (length d) (g.blocks * g.units * 1280)
      ∷ leb (g.start + 10) (g.blocks * g.units * 5) ∷ [])
  unfolding fits_geometry granules all
  geometry' = rw (five, bytes', e) refl

  length'' : length_holds g d
      ≡ all (has (0 ∷ 5 ∷ 10 ∷ 15 ∷ 20 ∷ []) (above_ten g d) ∷ leb (g.start + directory_sectors g d) (g.blocks * g.units * 5) ∷ [])
  unfolding length_holds granules
  length'' = rw five refl

  directory' : length_holds g d ≡ true → directory_granules g d ≡ count (g.start / 5) (directory_sectors g d / 5)
  directory' l = ap (λ (w : ℕ). count (g.start / w) ((directory_sectors g d + (w - 1)) / w)) five ∙ ap (count (g.start / 5)) (fives g d l)

  fits' : (p : ℕ) → size_holds g d p
      ≡ all ((not (eqb (sector_count g d p) 0) || eqb (end_byte g d p) 0) ∷ leb (size_of g d p) (1280 * length (owned g d p)) ∷ [])
  unfolding size_holds
  fits' p = rw bytes' refl

  placed' : (s i : ℕ) → place g d s i ≡ 1280 * get_or (owned g d s) (i / 1280) 0 + i % 1280
  unfolding place
  placed' s i = rw bytes' refl

  handle' : (h : Handle) → in_range g h ≡ all (leb h.at 1966080 ∷ good_length h.len ∷ leb h.level 7 ∷ [])
  unfolding in_range
  handle' h = rw bytes' refl

  old : Old g d
  old = record {
    geometry = geometry';
    granule = λ n. ap (λ (w : ℕ). count (n * w) w) five;
    bytes = bytes';
    length' = length'';
    directory = directory';
    fits = fits';
    owner = λ i. ap (i /◌) bytes';
    placed = placed';
    position = omega (arith, bytes');
    handle = handle';
    sector = omega (arith, five);
    written = λ m h n. rw bytes' refl;
    allotted = λ h k. rw five refl;
    trimmed = λ s. rw bytes' refl;
    listed = λ size. rw bytes' refl;
    held = λ k. rw five refl;
  }

pub at_five : AtFive
at_five g d e = old g d e
