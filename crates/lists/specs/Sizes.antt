-- What is known of the size of a granule. First the laws of any width w above 0: nothing here knows how many sectors a granule has. Then
-- the facts of a geometry's granule by which these laws are used: no other law of a disk opens its definition.
use Rattle.std.specs.Prelude.{ℕ, ◌+◌, ◌-◌, ◌*◌, ◌/◌, ◌%◌, ◌≤◌, ◌<◌, ◌≡◌, refl, ◌⊎◌, Bool, true, false, cond, eqb}
use Rattle.std.proofs.Common.{ap, sym, ◌∙◌, inl, inr, eqb-true, arith, add-zero, mod-lt, div-lt_iff_lt-mul, le-div_iff_mul-le, mod-eq_of_lt}
use Rattle.std.proofs.Common.{mul-le-mul, mul-le-mul_left, mul-pos}
use Rattle.std.proofs.Math.Nat.{div-add-mod, mul-add-div, mul-add-mod_self_left, div-eq_of_lt, mul-sub, div-le_of_le-mul, le_of_mul-le-mul_left}
use Rattle.std.proofs.Math.Nat.{lt_of_mul-lt-mul_left}
use Rattle.meaning.specs.Lists.{has}
use Rattle.meaning.specs.Layout.{granule_sizes, granule_sectors, granule_bytes, granules, sectors, most_granules, highest, sector_numbers, round_up}
use Rattle.meaning.specs.Layout.{granules_for}
use Rattle.meaning.specs.declared.Geometry.{Geometry}

-- Any width ---------------------------------------------------------------------------------------------------------------

-- a number is so many widths and a rest
pub record Split (w i : ℕ) : Type 0 where
  pub is : w * (i / w) + i % w ≡ i
  pub rest : i % w < w

pub split : {w : ℕ} → 0 < w → (i : ℕ) → Split w i
split {w} p i = record { is = div-add-mod i w; rest = mod-lt i p }

pub width-lt : {w : ℕ} → 0 < w → (i n : ℕ) → i < w * n → i / w < n
width-lt {w} p i n h = (div-lt_iff_lt-mul p).1 (omega arith)

pub lt-width : {w : ℕ} → 0 < w → (i n : ℕ) → i / w < n → i < w * n
lt-width {w} p i n h = omega (arith, (div-lt_iff_lt-mul {k = w} {x = i} {y = n} p).0 h)

pub width-le : {w : ℕ} → 0 < w → (i n : ℕ) → w * n ≤ i → n ≤ i / w
width-le {w} p i n h = (le-div_iff_mul-le p).1 (omega arith)

pub le-width : {w : ℕ} → 0 < w → (i n : ℕ) → n ≤ i / w → w * n ≤ i
le-width {w} p i n h = omega (arith, (le-div_iff_mul-le {k = w} {x = n} {y = i} p).0 h)

-- place r in width n, taken apart again
pub at_width : {w : ℕ} → (n r : ℕ) → r < w → (w * n + r) / w ≡ n
at_width {w} n r h = mul-add-div {m = w} (omega arith) n r ∙ omega (arith, div-eq_of_lt h)

pub at_rest : {w : ℕ} → (n r : ℕ) → r < w → (w * n + r) % w ≡ r
at_rest {w} n r h = mul-add-mod_self_left w n r ∙ mod-eq_of_lt h

-- two places are one only in one width and at one rest
pub same_width : {w : ℕ} → (m n a b : ℕ) → a < w → b < w → w * m + a ≡ w * n + b → (m ≡ n) × (a ≡ b)
same_width {w} m n a b h k e =
    let q : m ≡ n = sym (at_width m a h) ∙ ap (λ (i : ℕ). i / w) e ∙ at_width n b k in
    let r : a ≡ b = sym (at_rest m a h) ∙ ap (λ (i : ℕ). i % w) e ∙ at_rest n b k in
    (q, r)

-- ⌈size/w⌉ against ≤
pub round-holds : {w : ℕ} → 0 < w → (size : ℕ) → size ≤ w * round_up size w
round-holds {w} p size = omega (arith, split p (size + (w - 1)))

pub round-least : {w : ℕ} → 0 < w → (size n : ℕ) → size ≤ w * n → round_up size w ≤ n
round-least {w} p size n h =
    let k : w * round_up size w < w * (n + 1) = omega (arith, split p (size + (w - 1))) in
    omega (arith, lt_of_mul-lt-mul_left w k)

pub round-some : {w : ℕ} → 0 < w → (size : ℕ) → 0 < size → 1 ≤ round_up size w
round-some {w} p size h = width-le p (size + (w - 1)) 1 (omega arith)

pub round-more : {w : ℕ} → 0 < w → (size n : ℕ) → n < round_up size w → w * n < size
round-more {w} p size n h =
    let k = mul-le-mul_left w h in
    omega (arith, split p (size + (w - 1)))

-- The granule of a geometry -----------------------------------------------------------------------------------------------

-- the three sizes; every fact of a granule's sectors that is not a law of any width is seen here, case by case
pub sectors-are : (g : Geometry) → (granule_sectors g ≡ 5) ⊎ ((granule_sectors g ≡ 10) ⊎ (granule_sectors g ≡ 20))
unfolding granule_sectors
sectors-are g = go g.granule (eqb g.granule 5) (eqb g.granule 10) (eqb g.granule 20) refl refl refl
  where
    go : (n : ℕ) (a b c : Bool) → eqb n 5 ≡ a → eqb n 10 ≡ b → eqb n 20 ≡ c
        → (cond (has granule_sizes n) n 5 ≡ 5) ⊎ ((cond (has granule_sizes n) n 5 ≡ 10) ⊎ (cond (has granule_sizes n) n 5 ≡ 20))
    go n true b c p q r = let e : n ≡ 5 = eqb-true _ _ p in inl (rw e refl)
    go n false true c p q r = let e : n ≡ 10 = eqb-true _ _ q in inr (inl (rw e refl))
    go n false false true p q r = let e : n ≡ 20 = eqb-true _ _ r in inr (inr (rw e refl))
    go n false false false p q r = inl (rw (p, q, r) refl)

pub sectors-least : (g : Geometry) → 5 ≤ granule_sectors g
sectors-least g = go (sectors-are g)
  where
    go : (granule_sectors g ≡ 5) ⊎ ((granule_sectors g ≡ 10) ⊎ (granule_sectors g ≡ 20)) → 5 ≤ granule_sectors g
    go (inl e) = omega arith
    go (inr (inl e)) = omega arith
    go (inr (inr e)) = omega arith

pub sectors-pos : (g : Geometry) → 0 < granule_sectors g
sectors-pos g = omega (arith, sectors-least g)

pub sectors-most : (g : Geometry) → granule_sectors g ≤ 20
sectors-most g = go (sectors-are g)
  where
    go : (granule_sectors g ≡ 5) ⊎ ((granule_sectors g ≡ 10) ⊎ (granule_sectors g ≡ 20)) → granule_sectors g ≤ 20
    go (inl e) = omega arith
    go (inr (inl e)) = omega arith
    go (inr (inr e)) = omega arith

pub bytes-are : (g : Geometry) → granule_bytes g ≡ 256 * granule_sectors g
unfolding granule_bytes
bytes-are g = omega arith

pub bytes_pos : (g : Geometry) → 0 < granule_bytes g
bytes_pos g = omega (arith, bytes-are g, sectors-pos g)

-- a granule has the sectors that the geometry states, where it states a size that is one; 5 is 01's
pub sectors-stated : (g : Geometry) → has granule_sizes g.granule ≡ true → granule_sectors g ≡ g.granule
unfolding granule_sectors
sectors-stated g h = rw h refl

pub sectors-01 : (g : Geometry) → g.granule ≡ 5 → granule_sectors g ≡ 5
unfolding granule_sectors
sectors-01 g e = rw e refl

pub bytes-01 : (g : Geometry) → g.granule ≡ 5 → granule_bytes g ≡ 1280
bytes-01 g e = omega (arith, bytes-are g, sectors-01 g e)

-- a disk by its sectors
pub bytes-sectors : (g : Geometry) → granules g * granule_bytes g ≡ 256 * sectors g
bytes-sectors g = ap (granules g *◌) (bytes-are g) ∙ omega arith

-- The granules that n sectors from a granule's start on touch ------------------------------------------------------------------

pub touched-inside : {w : ℕ} → 0 < w → (start n k : ℕ) → start + n ≤ k * w → start / w + round_up n w ≤ k
touched-inside {w} p start n k h =
    let a : w * (start / w) ≤ start = omega (arith, split p start) in
    let b : start / w ≤ k = width-le' in
    let c : w * (k - start / w) ≡ w * k - w * (start / w) = mul-sub w k (start / w) in
    omega (arith, round-least p n (k - start / w) (omega (arith, a, c)))
  where
    width-le' : start / w ≤ k
    width-le' = div-le_of_le-mul w (omega arith)

-- the longest directory touches six granules at most
pub touched-few : (g : Geometry) (n : ℕ) → n ≤ 30 → round_up n (granule_sectors g) ≤ 6
touched-few g n h = round-least (sectors-pos g) n 6 (omega (arith, sectors-least g))

pub touched-from : (g : Geometry) (i start : ℕ) → 256 * start ≤ i → start / granule_sectors g ≤ i / granule_bytes g
touched-from g i start h =
    width-le (bytes_pos g) i (start / granule_sectors g)
    (rw (bytes-are g) (omega (arith, split (sectors-pos g) start)))

pub touched-to : (g : Geometry) (i start n : ℕ) → start % granule_sectors g ≡ 0 → i < 256 * (start + n)
    → i / granule_bytes g < start / granule_sectors g + round_up n (granule_sectors g)
touched-to g i start n e h =
    width-lt (bytes_pos g) i (start / granule_sectors g + round_up n (granule_sectors g))
    (rw (bytes-are g) (omega (arith, split (sectors-pos g) start, round-holds (sectors-pos g) n)))

-- One granule more or less ---------------------------------------------------------------------------------------------------

pub some-width : {w : ℕ} → 0 < w → (n : ℕ) → w ≤ w * n → 0 < n
some-width {w} p n h = le_of_mul-le-mul_left {m = 1} {n = n} {k = w} (omega arith) p

-- ⌈size/w⌉ widths or more hold the size
pub round-fits : {w : ℕ} → 0 < w → (size n : ℕ) → round_up size w ≤ n → size ≤ w * n
round-fits {w} p size n h = omega (arith, round-holds p size, mul-le-mul_left w h)

-- Byte j of sector k ----------------------------------------------------------------------------------------------------------

sector-at : (g : Geometry) (k j : ℕ) → 256 * k + j ≡ granule_bytes g * (k / granule_sectors g) + (256 * (k % granule_sectors g) + j)
sector-at g k j = rw (bytes-are g) (omega (arith, split (sectors-pos g) k))

sector-low : (g : Geometry) (k j : ℕ) → j < 256 → 256 * (k % granule_sectors g) + j < granule_bytes g
sector-low g k j h = rw (bytes-are g) (omega (arith, (split (sectors-pos g) k).rest))

pub sector-width : (g : Geometry) (k j : ℕ) → j < 256 → (256 * k + j) / granule_bytes g ≡ k / granule_sectors g
sector-width g k j h = ap (λ (i : ℕ). i / granule_bytes g) (sector-at g k j) ∙ at_width _ _ (sector-low g k j h)

pub sector-rest : (g : Geometry) (k j : ℕ) → j < 256 → (256 * k + j) % granule_bytes g ≡ 256 * (k % granule_sectors g) + j
sector-rest g k j h = ap (λ (i : ℕ). i % granule_bytes g) (sector-at g k j) ∙ at_rest _ _ (sector-low g k j h)

pub sector-start : (g : Geometry) (k : ℕ) → 256 * k / granule_bytes g ≡ k / granule_sectors g
sector-start g k = ap (λ (i : ℕ). i / granule_bytes g) (sym (add-zero (256 * k))) ∙ sector-width g k 0 (omega arith)

pub sector-begin : (g : Geometry) (k : ℕ) → 256 * k % granule_bytes g ≡ 256 * (k % granule_sectors g)
sector-begin g k = ap (λ (i : ℕ). i % granule_bytes g) (sym (add-zero (256 * k))) ∙ sector-rest g k 0 (omega arith) ∙ add-zero _

-- What a size leaves over of n widths -------------------------------------------------------------------------------------------

pub surplus-fits : {w : ℕ} → 0 < w → (size n : ℕ) → size ≤ w * n → size + w * (n - round_up size w) ≤ w * n
surplus-fits {w} p size n h =
    let a = mul-le-mul_left w (round-least p size n h) in
    omega (arith, a, round-holds p size, mul-sub w n (round_up size w))

-- room for the numbers: the sectors of the largest disk
pub sectors-low : (g : Geometry) → granules g ≤ most_granules → sectors g ≤ 30720
sectors-low g h = omega (arith, mul-le-mul h (sectors-most g))
