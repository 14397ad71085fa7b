-- How many granules are clear from one on: a block's part by the lowest bit set, and block by block.
use mathlib.Core.Path.{◌≡◌, refl, sym, ap, ◌∙◌}
use mathlib.Core.Logic.{⊎_elim}
use mathlib.Core.List.{List, [], ◌∷◌}
use mathlib.Core.Bool.{Bool, true, false, not, ◌||◌}
use Prim.Native.Nat.{ℕ, ◌+◌, ◌-◌, ◌*◌, ◌/◌, ◌%◌, ◌^◌, ◌≤◌, ◌<◌}
use native.Mathlib.Omega.{arith}
use lib.Bits.{bit_or}
use lib.Count.{count_trailing_zeros, trailing_le}
use lib.Dec.{leb}
use borrow.Author.Tests.{leb-true, lt-leb}
use Rattle.meaning.specs.Lists.{all}
use Rattle.meaning.specs.Bits.{digit, bit}
use Rattle.meaning.specs.Layout.{taken, byte}
use Rattle.meaning.specs.declared.Geometry.{Geometry}
use Rattle.lists.specs.Below.{all_below, all-below}
use Rattle.lists.specs.Tests.{all-at, le-or-lt}
use Rattle.space.proofs.Blocks.{Cut, cut-start, cut_step}
use Rattle.space.proofs.Looks.{at_unit}
use Rattle.growth_search.specs.Search.{ClearFrom}

-- what the code counts of byte x, from bit u on, n bits at the most
abbrev pub counted : ℕ → ℕ → ℕ → ℕ
counted u n x = count_trailing_zeros 64 (bit_or (x / 2 ^ u) (1 * 2 ^ n % 18446744073709551616))

pub counted-low : (u n x : ℕ) → counted u n x ≤ 64
counted-low u n x = trailing_le 64 (bit_or (x / 2 ^ u) (1 * 2 ^ n % 18446744073709551616))

-- so many bits are clear, and the next is set, where it is one of the n: by computing every case
unfoldable met : ℕ → ℕ → ℕ → Bool
unfolding digit count_trailing_zeros
met u n x =
    let z = counted u n x in
    all (leb z n ∷ all_below z (λ k. not (bit (u + k) x)) ∷ (leb n z || bit (u + z) x) ∷ [])

met_all : all_below 9 (λ u. all_below (9 - u) (λ n. all_below 256 (met u n))) ≡ true
unfolding met digit count_trailing_zeros all
met_all = refl

not-false : (b : Bool) → not b ≡ true → b ≡ false
not-false false e = refl
not-false true e = sym e

or-second : (a b : Bool) → a ≡ false → (a || b) ≡ true → b ≡ true
or-second false b e f = f
or-second true true e f = refl
or-second true false e f = sym e

module _ (u n x : ℕ) (h : x < 256) (k : u + n ≤ 8) where
  every_byte : met u n x ≡ true
  every_byte =
      all-below 256 (met u n)
      (all-below (9 - u) (λ n. all_below 256 (met u n))
      (all-below 9 (λ u. all_below (9 - u) (λ n. all_below 256 (met u n))) met_all u (omega arith)) n (omega arith)) x h

  few : counted u n x ≤ n
  unfolding met
  few = leb-true _ _ (all-at _ every_byte 0)

  clear : (j : ℕ) → j < counted u n x → bit (u + j) x ≡ false
  unfolding met
  clear j q = not-false _ (all-below (counted u n x) (λ k. not (bit (u + k) x)) (all-at _ every_byte 1) j q)

  ends : counted u n x < n → bit (u + counted u n x) x ≡ true
  unfolding met
  ends q = or-second _ _ (lt-leb n (counted u n x) q) (all-at _ every_byte 2)

module _ (g : Geometry) (d : List ℕ) where
  -- one block
  pub units-count : (b u n : ℕ) {x : ℕ} → u + n ≤ g.units → g.units ≤ 8 → x ≡ byte d (256 * g.start + b) → x < 256
      → ClearFrom g d (b * g.units + u) n (counted u n x)
  units-count b u n {x} h k e l =
      let f = few u n x l (omega arith) in
      record {
        few = f;
        clear = λ j q. at j (omega arith) ∙ clear u n x l (omega arith) j q;
        ends = λ q. at (counted u n x) (omega arith) ∙ ends u n x l (omega arith) q;
      }
    where
      at : (j : ℕ) → u + j < g.units → taken g d (b * g.units + u + j) ≡ bit (u + j) x
      at j q =
          ap (taken g d) (let z : b * g.units + u + j ≡ b * g.units + (u + j) = omega arith in z) ∙ at_unit g d b (u + j) q
          ∙ ap (bit (u + j)) (sym e)

  -- all before are clear
  pub record CountingClear (a n b u left : ℕ) : Type 0 where
    pub cut : Cut g a n b u left
    pub before : (k : ℕ) → k < n - left → taken g d (a + k) ≡ false

  pub counting-start : (a n : ℕ) → 1 ≤ g.units → CountingClear a n (a / g.units) (a % g.units) n
  counting-start a n h = record { cut = cut-start g a n h; before = λ k q. absurd (let z : ⊥ = omega arith in z) }

  -- the granules of this block, and all so far
  so_far : {a n b u left m r : ℕ} → CountingClear a n b u left → ClearFrom g d (b * g.units + u) m r → (k : ℕ) → k < n - left + r → taken g d (a + k) ≡ false
  so_far {a} {n} {b} {u} {left} {m} {r} c f k h = ⊎_elim
      (λ (q : n - left ≤ k).
      let e : a + k ≡ b * g.units + u + (k - (n - left)) = let z = c.cut.last in let y = c.cut.few in omega arith in
      ap (taken g d) e ∙ f.clear (k - (n - left)) (omega arith))
      (λ (q : k < n - left). c.before k q) (le-or-lt (n - left) k)

  next_one : {a n b u left : ℕ} (r : ℕ) → CountingClear a n b u left → b * g.units + u + r ≡ a + (n - left + r)
  next_one {a} {n} {b} {u} {left} r c = let z = c.cut.last in let y = c.cut.few in omega arith

  pub counting-stop : {a n b u left r : ℕ} → CountingClear a n b u left → g.units < u + left → ClearFrom g d (b * g.units + u) (g.units - u) r → r < g.units - u
      → ClearFrom g d a n (n - left + r)
  counting-stop {a} {n} {b} {u} {left} {r} c h f q =
      record {
        few = let y = c.cut.few in omega arith;
        clear = so_far c f;
        ends = λ _. ap (taken g d) (sym (next_one r c)) ∙ f.ends q;
      }

  pub counting-step : {a n b u left r : ℕ} → CountingClear a n b u left → g.units < u + left → ClearFrom g d (b * g.units + u) (g.units - u) r → g.units -
      u ≤ r
      → CountingClear a n (b + 1) 0 (left - (g.units - u))
  counting-step {a} {n} {b} {u} {left} {r} c h f q =
      record {
        cut = cut_step g c.cut h;
        before = λ k w. so_far c f k (let y = c.cut.few in let z = c.cut.unit in omega arith);
      }

  pub counting-end : {a n b u left r : ℕ} → CountingClear a n b u left → ClearFrom g d (b * g.units + u) left r → ClearFrom g d a n (n - left + r)
  counting-end {a} {n} {b} {u} {left} {r} c f =
      record {
        few = let y = c.cut.few in let z = f.few in omega arith;
        clear = so_far c f;
        ends = λ q. ap (taken g d) (sym (next_one r c)) ∙ f.ends (let y = c.cut.few in omega arith);
      }
