-- The pass over the GAT is a pass over the granules, and its numbers are those of the disk.
use mathlib.Core.Path.{◌≡◌, refl, sym, ap, ◌∙◌}
use mathlib.Core.List.{List, [], ◌∷◌}
use mathlib.Core.Bool.{Bool, true, false, not}
use Prim.Native.Nat.{ℕ, zero, suc, ◌+◌, ◌-◌, ◌*◌, ◌/◌, ◌%◌, ◌^◌, ◌≤◌, ◌<◌, max}
use native.Mathlib.Omega.{arith}
use native.Mathlib.Nat.{zero-add, add-zero, sub-zero, zero-mul, div-one, div-div-eq-div-mul, pow-succ', mul_comm}
use lib.ListN.{length}
use lib.Arith.{mod-mul}
use lib.Pow.{pow_pos}
use lib.Dec.{eqb}
use borrow.Author.Tests.{leb-true, eqb-true}
use Rattle.meaning.specs.Lists.{count}
use Rattle.meaning.specs.Layout.{byte, granules, granule_bytes, granule_sectors, taken, fits_geometry}
use Rattle.lists.specs.Sizes
use Rattle.meaning.specs.Free.{free_granules}
use Rattle.meaning.specs.Stretch
use Rattle.meaning.specs.FreeSpace.{stretch, longest_in, longest, free_space}
use Rattle.meaning.specs.declared.Geometry.{Geometry}
use Rattle.meaning.specs.declared.Space.{Space}
use Rattle.meaning.specs.declared.Refusal.{Refusal}
use Rattle.meaning.specs.Refusal.{unplaced}
use Rattle.laws.specs.Stretches.{stretch-taken, stretch-free, stretch-le}
use Rattle.lists.specs.Ranges.{left-none, left-more}
use Rattle.lists.specs.Tests.{keep-yes, keep-no, all-at, first-hit, first-skip, first-none, not_yes, not-no}
use Rattle.space.specs.Clear.{free_in}
use Rattle.space.proofs.Clear.{gat_byte, taken_at, blocks_more, block-next}
use Rattle.free_space.specs.Pass.{Gat, Tells, ended, longer, met, bits}
use Rattle.free_space.specs.declared.Seen.{Seen}

-- One step ----------------------------------------------------------------------------------------------------------------

pub ended_here : (p : Seen) → p.longest < p.here → record { free = p.free + p.here; here = 0; longest = p.here } ≡ ended p
unfolding ended
ended_here p h = let e : p.here ≡ max p.longest p.here = omega arith in λ i. record { free = p.free + p.here; here = 0; longest = e i }

pub ended-before : (p : Seen) → p.here ≤ p.longest → record { free = p.free + p.here; here = 0; longest = p.longest } ≡ ended p
unfolding ended
ended-before p h = let e : p.longest ≡ max p.longest p.here = omega arith in λ i. record { free = p.free + p.here; here = 0; longest = e i }

pub met-taken : {t : Bool} (p : Seen) → t ≡ true → ended p ≡ met t p
unfolding met
met-taken p e = rw e refl

pub met-free : {t : Bool} (p : Seen) → t ≡ false → record { free = p.free; here = p.here + 1; longest = p.longest } ≡ met t p
unfolding met
met-free p e = rw e refl

-- a granule more is one more at the most
pub met-few : (t : Bool) (p q : Seen) → q ≡ met t p → q.free + q.here ≤ p.free + p.here + 1
unfolding met ended
met-few true p q e = rw e (omega arith)
met-few false p q e = rw e (omega arith)

pub longer-few : (n : ℕ) (p q : Seen) → q ≡ longer p n → q.free + q.here ≤ p.free + p.here + n
longer-few n p q e = rw e (omega arith)

pub ended-few : (n : ℕ) (p q : Seen) → q ≡ ended p → q.free + q.here ≤ p.free + p.here + n
unfolding ended
ended-few n p q e = rw e (omega arith)

-- the longest stretch where one ends, and where one goes on
max_assoc : (a b c : ℕ) → max (max a b) c ≡ max a (max b c)
max_assoc a b c = omega arith

max-taken : (l h s m : ℕ) → s ≤ m → max (max l h) (max (0 + s) m) ≡ max l (max (h + 0) (max 0 m))
max-taken l h s m le =
    let a : max (0 + s) m ≡ m = omega arith in
    let b : max h m ≡ max (h + 0) (max 0 m) = omega arith in
    ap (max (max l h)) a ∙ max_assoc l h m ∙ ap (max l) b

max-free : (l h s m : ℕ) → max l (max (h + 1 + s) m) ≡ max l (max (h + suc s) (max (suc s) m))
max-free l h s m = let a : max (h + 1 + s) m ≡ max (h + suc s) (max (suc s) m) = omega arith in ap (max l) a

-- one bit more, and none left
pub bits-more : (n k x : ℕ) (p q all : Seen) → all ≡ bits (n - k) x p → k < n → q ≡ met (eqb (x % 2) 1) p → all ≡ bits (n - (k + 1)) (x / 2) q
unfolding bits
bits-more n k x p q all e h f = e ∙ ap (λ (m : ℕ). bits m x p) (left-more h) ∙ ap (bits (n - (k + 1)) (x / 2)) (sym f)

pub bits_none : (n k x : ℕ) (p all : Seen) → all ≡ bits (n - k) x p → n ≤ k → p ≡ all
unfolding bits
bits_none n k x p all e h = sym (e ∙ ap (λ (m : ℕ). bits m x p) (left-none h))

-- A whole block -----------------------------------------------------------------------------------------------------------

-- the lowest bit, and the bits above it
low_bits : (n x : ℕ) → x % 2 ^ suc n ≡ x / 2 % 2 ^ n * 2 + x % 2
low_bits n x = ap (λ (k : ℕ). x % k) (pow-succ' 2 n ∙ mul_comm 2 (2 ^ n)) ∙ mod-mul x (pow_pos n) (omega arith)

-- all clear: the stretch goes on over them
pub bits-clear : (n x : ℕ) (p : Seen) → x % 2 ^ n ≡ 0 → record { free = p.free; here = p.here + n; longest = p.longest } ≡ bits n x p
unfolding bits met
bits-clear zero x p e = λ i. record { free = p.free; here = add-zero p.here i; longest = p.longest }
bits-clear (suc n) x p e =
    let l = low_bits n x in
    let b : x % 2 ≡ 0 = omega arith in
    let h : x / 2 % 2 ^ n ≡ 0 = omega arith in
    let q : Seen = record { free = p.free; here = p.here + 1; longest = p.longest } in
    let f : p.here + suc n ≡ p.here + 1 + n = omega arith in
    (λ i. record { free = p.free; here = f i; longest = p.longest }) ∙ bits-clear n (x / 2) q h
    ∙ ap (bits n (x / 2)) (met-free {t = eqb (x % 2) 1} p (ap (λ (k : ℕ). eqb k 1) b))

-- where no granule is free any more the stretch has ended
pub ended-again : (p : Seen) → ended (ended p) ≡ ended p
unfolding ended
ended-again p =
    let a : p.free + p.here + 0 ≡ p.free + p.here = omega arith in
    let b : max (max p.longest p.here) 0 ≡ max p.longest p.here = omega arith in
    λ i. record { free = a i; here = 0; longest = b i }

-- all of suc n bits are set: the lowest is, and so are those above it
set-low : (n x : ℕ) → x % 2 ^ suc n ≡ 2 ^ suc n - 1 → x % 2 ≡ 1
set-low n x e = omega (arith, low_bits n x, pow-succ' 2 n, e, pow_pos n)

set-high : (n x : ℕ) → x % 2 ^ suc n ≡ 2 ^ suc n - 1 → x / 2 % 2 ^ n ≡ 2 ^ n - 1
set-high n x e = omega (arith, low_bits n x, pow-succ' 2 n, e, pow_pos n)

-- all set: the stretch ends, once for all of them
pub bits-set : (n x : ℕ) (p : Seen) → 1 ≤ n → x % 2 ^ n ≡ 2 ^ n - 1 → ended p ≡ bits n x p
unfolding bits
bits-set zero x p h e = absurd (let z : ⊥ = omega arith in z)
bits-set (suc zero) x p h e = met-taken {t = eqb (x % 2) 1} p (ap (λ (k : ℕ). eqb k 1) (set-low 0 x e))
bits-set (suc (suc n)) x p h e =
    let f = met-taken {t = eqb (x % 2) 1} p (ap (λ (k : ℕ). eqb k 1) (set-low (suc n) x e)) in
    sym (ended-again p) ∙ bits-set (suc n) (x / 2) (ended p) (omega arith) (set-high (suc n) x e) ∙ ap (bits (suc n) (x / 2)) f

module _ (g : Geometry) (d : List ℕ) where
  -- Granule by granule ------------------------------------------------------------------------------------------------------

  -- n granules from i on
  unfoldable pub over : ℕ → ℕ → Seen → Seen
  over i zero p = p
  over i (suc n) p = over (i + 1) n (met (taken g d i) p)

  over-append : (i m n : ℕ) (p : Seen) → over i (m + n) p ≡ over (i + m) n (over i m p)
  unfolding over
  over-append i zero n p = ap (λ (k : ℕ). over i k p) (zero-add n) ∙ ap (λ (k : ℕ). over k n p) (sym (add-zero i))
  over-append i (suc m) n p =
      let e : suc m + n ≡ suc (m + n) = omega arith in
      let f : i + 1 + m ≡ i + suc m = omega arith in
      let q = met (taken g d i) p in
      ap (λ (k : ℕ). over i k p) e ∙ over-append (i + 1) m n q ∙ ap (λ (k : ℕ). over k n (over (i + 1) m q)) f

  free-taken : (i n : ℕ) → taken g d i ≡ true → free_in g d i (suc n) ≡ free_in g d (i + 1) n
  unfolding free_in
  free-taken i n e = ap length (keep-no (λ k. not (taken g d k)) {x = i} (ap not e) (count (i + 1) n))

  free-free : (i n : ℕ) → taken g d i ≡ false → free_in g d i (suc n) ≡ suc (free_in g d (i + 1) n)
  unfolding free_in
  free-free i n e = ap length (keep-yes (λ k. not (taken g d k)) {x = i} (ap not e) (count (i + 1) n))

  -- What the pass tells ------------------------------------------------------------------------------------------------------

  ends-free : (n i : ℕ) (p : Seen) → (ended (over i n p)).free ≡ p.free + p.here + free_in g d i n
  unfolding over ended met free_in
  ends-free zero i p = omega arith
  ends-free (suc n) i p = go (taken g d i) refl (ends-free n (i + 1))
    where
      go : (t : Bool) → taken g d i ≡ t → ((q : Seen) → (ended (over (i + 1) n q)).free ≡ q.free + q.here + free_in g d (i + 1) n)
          → (ended (over (i + 1) n (met (taken g d i) p))).free ≡ p.free + p.here + free_in g d i (suc n)
      go true e h = rw e (omega (arith, h (ended p), free-taken i n e))
      go false e h = rw e (omega (arith, h (record { free = p.free; here = p.here + 1; longest = p.longest }), free-free i n e))

  ends-longest : (n i : ℕ) (p : Seen)
      → (ended (over i n p)).longest ≡ max p.longest (max (p.here + stretch g d (count i n)) (longest_in g d (count i n)))
  unfolding over ended met Stretch.stretch Stretch.longest_in
  ends-longest zero i p = omega arith
  ends-longest (suc n) i p = go (taken g d i) refl (ends-longest n (i + 1))
    where
      rest : List ℕ
      rest = count (i + 1) n

      go : (t : Bool) → taken g d i ≡ t
          → ((q : Seen) → (ended (over (i + 1) n q)).longest ≡ max q.longest (max (q.here + stretch g d rest) (longest_in g d rest)))
          → (ended (over (i + 1) n (met (taken g d i) p))).longest
          ≡ max p.longest (max (p.here + stretch g d (i ∷ rest)) (max (stretch g d (i ∷ rest)) (longest_in g d rest)))
      go true e h =
          ap (λ (t : Bool). (ended (over (i + 1) n (met t p))).longest) e ∙ h (ended p)
          ∙ max-taken p.longest p.here (stretch g d rest) (longest_in g d rest) (stretch-le g d rest)
          ∙ ap (λ (k : ℕ). max p.longest (max (p.here + k) (max k (longest_in g d rest)))) (sym (stretch-taken g d i rest e))
      go false e h =
          ap (λ (t : Bool). (ended (over (i + 1) n (met t p))).longest) e ∙ h (record { free = p.free; here = p.here + 1; longest = p.longest })
          ∙ max-free p.longest p.here (stretch g d rest) (longest_in g d rest)
          ∙ ap (λ (k : ℕ). max p.longest (max (p.here + k) (max k (longest_in g d rest)))) (sym (stretch-free g d i rest e))

  -- Block by block ----------------------------------------------------------------------------------------------------------

  module _ (some : 1 ≤ g.units) where
    over-bits : (b u m : ℕ) (p : Seen) → u + m ≤ g.units → over (b * g.units + u) m p ≡ bits m (gat_byte g d b / 2 ^ u) p
    unfolding over bits
    over-bits b u zero p h = refl
    over-bits b u (suc m) p h =
        let x = gat_byte g d b in
        let f : b * g.units + u + 1 ≡ b * g.units + (u + 1) = omega arith in
        let s : u + 1 ≡ suc u = omega arith in
        let half : x / 2 ^ (u + 1) ≡ x / 2 ^ u / 2 = ap (λ (k : ℕ). x / 2 ^ k) s ∙ ap (λ (k : ℕ). x / k) (pow-succ' 2 u ∙ mul_comm 2 (2 ^ u)) ∙ sym
        (div-div-eq-div-mul x (2 ^ u) 2) in
        let q = met (eqb (x / 2 ^ u % 2) 1) p in
        ap (λ (t : Bool). over (b * g.units + u + 1) m (met t p)) (taken_at g d some b u (omega arith))
        ∙ ap (λ (k : ℕ). over k m q) f ∙ over-bits b (u + 1) m q (omega arith) ∙ ap (λ (k : ℕ). bits m k q) half

    over-block : (b : ℕ) (p : Seen) → over (b * g.units) g.units p ≡ bits g.units (gat_byte g d b) p
    over-block b p =
        ap (λ (k : ℕ). over k g.units p) (sym (add-zero (b * g.units))) ∙ over-bits b 0 g.units p (omega arith)
        ∙ ap (λ (k : ℕ). bits g.units k p) (div-one (gat_byte g d b))

  abbrev start : Seen
  start = record { free = 0; here = 0; longest = 0 }

  -- b blocks are done, and p was seen of them
  pub record Going (b : ℕ) (p : Seen) : Type 0 where
    pub rest : over 0 (granules g) start ≡ over (b * g.units) ((g.blocks - b) * g.units) p

  pub going_start : Going 0 start
  unfolding granules
  going_start =
      record {
        rest =
            ap (λ (k : ℕ). over k (g.blocks * g.units) start) (sym (zero-mul g.units))
            ∙ ap (λ (k : ℕ). over (0 * g.units) (k * g.units) start) (sym (sub-zero g.blocks));
      }

  pub going_step : {b x : ℕ} {p q : Seen} → 1 ≤ g.units → Going b p → b < g.blocks → x ≡ byte d (256 * g.start + b) → q ≡ bits g.units x p → Going
      (b + 1) q
  unfolding gat_byte
  going_step {b} {x} {p} {q} some s h e f =
      let units = g.units in
      let m = g.blocks - (b + 1) in
      let w : q ≡ over (b * units) units p = f ∙ ap (λ (k : ℕ). bits units k p) e ∙ sym (over-block some b p) in
      record {
        rest =
            s.rest ∙ ap (λ (k : ℕ). over (b * units) k p) (blocks_more g.blocks b units h) ∙ over-append (b * units) units (m * units) p
            ∙ ap (λ (k : ℕ). over k (m * units) (over (b * units) units p)) (block-next b units) ∙ ap (over ((b + 1) * units) (m * units)) (sym w);
      }

  pub going_end : {b : ℕ} {p r : Seen} → Going b p → g.blocks ≤ b → r ≡ ended p → Tells g d r
  unfolding over free_granules free_in
  going_end {b} {p} {r} s h e =
      let q : over 0 (granules g) start ≡ p = s.rest ∙ ap (λ (j : ℕ). over (b * g.units) (j * g.units) p) (left-none h) ∙ ap
      (λ (j : ℕ). over (b * g.units) j p) (zero-mul g.units) in
      let k : r ≡ ended (over 0 (granules g) start) = e ∙ ap ended (sym q) in
      let z = stretch-le g d (count 0 (granules g)) in
      record {
        free = ap (λ (x : Seen). x.free) k ∙ ends-free (granules g) 0 start ∙ zero-add _;
        longest' = ap (λ (x : Seen). x.longest) k ∙ ends-longest (granules g) 0 start ∙ omega arith;
      }

-- What the pass asks ------------------------------------------------------------------------------------------------------

pub gat-fits : (g : Geometry) (d : List ℕ) → fits_geometry g d ≡ true → Gat g d
unfolding fits_geometry
gat-fits g d f =
    let a = leb-true g.blocks 192 (all-at _ f 1) in
    let b = eqb-true (length d) (granules g * granule_bytes g) (all-at _ f 5) in
    let c = leb-true (g.start + 10) (granules g * granule_sectors g) (all-at _ f 6) in
    record {
      blocks-high = a;
      units-low = leb-true _ _ (all-at _ f 2);
      units-high = leb-true _ _ (all-at _ f 3);
      inside = omega (arith, Sizes.bytes-sectors g);
    }

-- Refused and accepted ----------------------------------------------------------------------------------------------------

pub space-refused : (g : Geometry) (d : List ℕ) {c : Refusal} → c ≡ unplaced 1 → fits_geometry g d ≡ false
    → ◌≡◌ {A = Space} (record { refusal = c; free = 0; longest = 0 }) (free_space g d)
unfolding free_space
space-refused g d y f = rw (first-hit {b = not (fits_geometry g d)} (not-no f) 1 [], y) refl

pub space-accepted : (g : Geometry) (d : List ℕ) {n m : ℕ} {c : Refusal} → c ≡ unplaced 0 → fits_geometry g d ≡ true → n ≡ length (free_granules g d) → m ≡
    longest g d
    → ◌≡◌ {A = Space} (record { refusal = c; free = n; longest = m }) (free_space g d)
unfolding free_space
space-accepted g d y f p q = rw (first-skip {b = not (fits_geometry g d)} (not_yes f) 1 [] ∙ first-none, p, q, y) refl
