-- One step of each recursion at the code's numbers, and two bounds.
use mathlib.Core.Path.{◌≡◌, refl, sym, ap, ◌∙◌}
use mathlib.Core.List.{List, map}
use mathlib.Core.Bool.{Bool, true, false, cond, and-true}
use Prim.Native.Nat.{ℕ, zero, suc, ◌+◌, ◌*◌, ◌/◌, ◌%◌, ◌^◌, ◌≤◌, ◌<◌}
use native.Mathlib.Omega.{arith}
use native.Mathlib.Nat.{add-zero, mul-le-mul, mul-le-mul_right, div-lt_iff_lt-mul, div-one, div-div-eq-div-mul, pow-succ'}
use lib.ListN.{length, get_or, take, drop}
use lib.Seq.{drop-cons}
use lib.Dec.{eqb, leb}
use borrow.Author.Tests.{le-leb, lt-leb, eq-eqb, ne_eqb, eqb-true}
use Rattle.meaning.specs.Lists.{same, all, count, has}
use Rattle.meaning.specs.Layout.{granule_sizes, granules, fits_geometry, field, entry_at, granule_bytes, granule_sectors, most_blocks, most_units}
use Rattle.meaning.specs.Layout.{most_granules}
use Rattle.meaning.specs.Bits.{digit}
use Rattle.meaning.specs.Entries.{runs_from, block, name_of}
use Rattle.meaning.specs.Names.{well_formed}
use Rattle.meaning.specs.declared.Geometry.{Geometry}
use Rattle.lists.specs.Tests.{all-at, all-out}

pub below : (a b m n : ℕ) → a ≤ m → b ≤ n → a * b ≤ m * n
below a b m n p q = mul-le-mul {n₁ = a} {m₁ = b} {n₂ = m} {m₂ = n} p q

-- the GAT byte of a granule that there is
pub gat-low : (g : Geometry) (n : ℕ) → n < granules g → 1 ≤ g.units → n / g.units < g.blocks
unfolding granules
gat-low g n h u = (div-lt_iff_lt-mul {k = g.units} {x = n} {y = g.blocks} u).1 h

pub runs-more : (g : Geometry) (d : List ℕ) (s m k : ℕ) → runs_from g d s (suc m) k ≡ cond (eqb (block g d s k) 0xff) k (runs_from g d s m (k + 1))
unfolding runs_from
runs-more g d s m k = refl

pub runs_none : (g : Geometry) (d : List ℕ) (s k : ℕ) → runs_from g d s 0 k ≡ k
unfolding runs_from
runs_none g d s k = refl

-- a bit as a shift finds it
pub digit_at : (u x : ℕ) → digit x u ≡ x / 2 ^ u % 2
unfolding digit
digit_at zero x = ap (λ (y : ℕ). y % 2) (sym (div-one x))
digit_at (suc u) x =
    digit_at u (x / 2) ∙ ap (λ (y : ℕ). y % 2) (div-div-eq-div-mul x 2 (2 ^ u) ∙ ap (λ (y : ℕ). x / y) (sym (pow-succ' 2 u)))

-- the eleven bytes of a name as a part of the image
part_at : (d : List ℕ) (a i n : ℕ) → a + i + n ≤ length d → map (λ k. get_or d (a + k) 0) (count i n) ≡ take n (drop (a + i) d)
part_at d a i zero h = refl
part_at d a i (suc n) h =
    let e : suc (a + i) ≡ a + (i + 1) = omega arith in
    simp (drop-cons d (a + i) 0 (omega arith), e, part_at d a (i + 1) n (omega arith))

pub name-part : (g : Geometry) (d : List ℕ) (s : ℕ) → entry_at g s + 16 ≤ length d → name_of g d s ≡ take 11 (drop (entry_at g s + 5) d)
unfolding name_of field
name-part g d s h = part_at d (entry_at g s) 5 11 (omega arith)

-- the flags of the entry at `at`
pub flags-at : (g : Geometry) (d : List ℕ) (s : ℕ) {at r : ℕ} → at ≡ entry_at g s → r ≡ get_or d at 0 → r ≡ field g d s 0
unfolding field
flags-at g d s e q = q ∙ ap (λ (k : ℕ). get_or d k 0) (e ∙ sym (add-zero (entry_at g s)))

pub name-at : (g : Geometry) (d n : List ℕ) (s : ℕ) → entry_at g s + 16 ≤ length d → same (name_of g d s) n ≡ same (take 11 (drop (entry_at g s + 5) d)) n
unfolding name_of field
name-at g d n s h = ap (λ (l : List ℕ). same l n) (part_at d (entry_at g s) 5 11 (omega arith))

pub well-length : (n : List ℕ) → well_formed n ≡ true → length n ≡ 11
unfolding well_formed
well-length n h = eqb-true _ _ (all-at _ h 0)

-- A size that is none fails the whole test.
pub fits-size : (g : Geometry) (d : List ℕ) → has granule_sizes g.granule ≡ false → false ≡ fits_geometry g d
unfolding fits_geometry
fits-size g d f = sym (all-out _ 7 f)

-- a size that is neither 10 nor 20
pub fives : {n : ℕ} → (n ≡ 10 → ⊥) → (n ≡ 20 → ⊥) → 5 ≡ cond (has granule_sizes n) n 5
fives {n} a b = go (eqb n 5) refl
  where
    go : (t : Bool) → eqb n 5 ≡ t → 5 ≡ cond (has granule_sizes n) n 5
    go true e = let q : n ≡ 5 = eqb-true _ _ e in rw q refl
    go false e = rw (e, ne_eqb _ _ a, ne_eqb _ _ b) refl

-- The geometry's tests where those of the size, of blocks and units passed, over numbers that are the geometry's own.
module _ (g : Geometry) (d : List ℕ) (z : has granule_sizes g.granule ≡ true) (a : 1 ≤ g.blocks) (b : g.blocks ≤ most_blocks) (c : 1 ≤ g.units)
    (e : g.units ≤ most_units)
    {w : ℕ} (p : w ≡ granule_sectors g) where
  pub fits-start : (g.start % w ≡ 0 → ⊥) → false ≡ fits_geometry g d
  unfolding fits_geometry all
  fits-start f = simp (z, sym p, le-leb _ _ a, le-leb _ _ b, le-leb _ _ c, le-leb _ _ e, ne_eqb _ _ f)

  module _ (f : g.start % w ≡ 0) {n v : ℕ} (q : n ≡ granules g) (r : v ≡ granule_bytes g) where
    pub fits-length : (length d ≡ n * v → ⊥) → false ≡ fits_geometry g d
    unfolding fits_geometry all
    fits-length h = simp (z, sym p, sym q, sym r, le-leb _ _ a, le-leb _ _ b, le-leb _ _ c, le-leb _ _ e, eq-eqb _ _ f, ne_eqb _ _ h)

    pub fits-rest : length d ≡ n * v → leb (g.start + 10) (n * w) ≡ fits_geometry g d
    unfolding fits_geometry all
    fits-rest h = simp (z, sym p, sym q, sym r, le-leb _ _ a, le-leb _ _ b, le-leb _ _ c, le-leb _ _ e, eq-eqb _ _ f, eq-eqb _ _ h, and-true)

    pub fits-beyond : length d ≡ n * v → n ≤ most_granules → most_granules * w < g.start → false ≡ fits_geometry g d
    fits-beyond h k l = sym (lt-leb (g.start + 10) (n * w) (let z = mul-le-mul_right w k in omega arith)) ∙ fits-rest h
