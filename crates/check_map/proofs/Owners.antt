-- Taking granules of the owner map.
use mathlib.Core.Path.{◌≡◌, refl, sym, ap, ◌∙◌, subst}
use mathlib.Core.Logic.{◌⊎◌, inl, inr}
use mathlib.Core.List.{List}
use mathlib.Core.Bool.{Bool, true, false, true≢false}
use Prim.Native.Nat.{ℕ, ◌+◌, ◌-◌, ◌*◌, ◌/◌, ◌%◌, ◌^◌, ◌≤◌, ◌<◌}
use native.Mathlib.Omega.{arith}
use native.Mathlib.Nat.{one-mul, add-zero, div-add-mod', pow-le-pow_right, mul-add-div_right, mul-add-mod_self_right, div-eq_of_lt, mod-eq_of_lt, mod-lt}
use native.Mathlib.Nat.{div-lt_iff_lt-mul, add-mul, mul-le-mul}
use lib.Bits.{bit_and, bit_or, or_lt}
use lib.Dec.{eqb}
use lib.ListN.{length, get_or, set, length-set}
use lib.Seq.{get_or-set_same, get_or-set_other}
use lib.Pow.{pow_pos, shl_exact, shl_lt, ones_lt}
use borrow.Author.Tests.{eqb-true, eqb-false}
use Rattle.meaning.specs.Bits.{digit}
use Rattle.laws.specs.Bits.{digit_lt}
use Rattle.meaning.specs.Layout.{granules, taken, byte, gat_at, most_blocks}
use Rattle.meaning.specs.declared.Geometry.{Geometry}
use Rattle.layout.specs.Room.{Room}
use Rattle.lists.specs.Tests.{le-or-lt}
use Rattle.lists.specs.Below.{all_below, all-below}
use Rattle.check_map.specs.Owners.{shut, TakesStretch, GatMap}
use Rattle.check_map.proofs.Digits.{mask, clear-says, says-clear, or-in, or-out}

-- the mask as the code has it
abbrev pub coded : ℕ → ℕ → ℕ
coded n o = (1 * 2 ^ n % 18446744073709551616 - 1) * 2 ^ o % 18446744073709551616

one_shl : (n : ℕ) → n < 64 → 1 * 2 ^ n % 18446744073709551616 ≡ 2 ^ n
one_shl n h = shl_exact {a = 1} 1 n 64 (omega arith) (omega arith) ∙ one-mul (2 ^ n)

pub one-shl-pos : (n : ℕ) → n < 64 → 1 ≤ 1 * 2 ^ n % 18446744073709551616
one-shl-pos n h = let e = one_shl n h in let q = pow_pos n in omega arith

-- there is a 1 in a mask of some granules
pub one-shl-two : (n : ℕ) → 1 ≤ n → n < 64 → 2 ≤ 1 * 2 ^ n % 18446744073709551616
one-shl-two n k h = let e = one_shl n h in let q = pow-le-pow_right {n = 2} (omega arith) {i = 1} {j = n} k in omega arith

pub coded-is : (n o : ℕ) → n < 64 → o + n ≤ 64 → coded n o ≡ mask n o
coded-is n o h k =
    ap (λ (y : ℕ). (y - 1) * 2 ^ o % 18446744073709551616) (one_shl n h) ∙ shl_exact {a = 2 ^ n - 1} n o 64 (ones_lt n) (omega arith)

pub other-bit : {A : Type 0} → false ≡ true → A
other-bit e = absurd (true≢false (sym e))

-- one stretch after another
pub takes_none : {units : ℕ} {m m₁ m' : List ℕ} {a n k : ℕ} → k ≤ n → TakesStretch units m a k m₁ false → TakesStretch units m a n m' false
takes_none {units} {m} {m₁} {m'} {a} {n} {k} h t =
    record { yes' = λ e. other-bit e; back = λ b. t.back (λ i l. b i (omega arith)); inside = λ e. other-bit e; outside = λ e. other-bit e }

pub takes-then : {units : ℕ} {m m₁ m₂ : List ℕ} {a n k b l : ℕ} {r : Bool} → b ≡ a + k → k + l ≡ n → TakesStretch units m a k m₁ true → TakesStretch units m₁
    b l m₂ r →
    TakesStretch units m a n m₂ r
takes-then {units} {m} {m₁} {m₂} {a} {n} {k} {b} {l} {r} e f s t =
    record {
      yes' = λ y i h. first y i h (le-or-lt k i);
      back = λ c. t.back (λ i h. sym (keeps (b + i) (omega arith)) ∙ ap (shut units m) (let z : b + i ≡ a + (k + i) = omega arith in z) ∙ c (k + i)
          (omega arith));
      inside = λ y i h. second y i h (le-or-lt k i);
      outside = λ y q w. t.outside y q (far q w) ∙ s.outside refl q (near q w);
    }
  where
    keeps : (q : ℕ) → a + k ≤ q → shut units m q ≡ shut units m₁ q
    keeps q h = sym (s.outside refl q (inr h))

    first : r ≡ true → (i : ℕ) → i < n → (k ≤ i) ⊎ (i < k) → shut units m (a + i) ≡ 0
    first y i h (inr w) = s.yes' refl i w
    first y i h (inl w) = keeps (a + i) (omega arith) ∙ ap (shut units m₁) (let z : a + i ≡ b + (i - k) = omega arith in z) ∙ t.yes' y (i - k) (omega arith)

    second : r ≡ true → (i : ℕ) → i < n → (k ≤ i) ⊎ (i < k) → shut units m₂ (a + i) ≡ 1
    second y i h (inl w) = ap (shut units m₂) (let z : a + i ≡ b + (i - k) = omega arith in z) ∙ t.inside y (i - k) (omega arith)
    second y i h (inr w) = t.outside y (a + i) (inl (omega arith)) ∙ s.inside refl i w

    far : (q : ℕ) → (q < a) ⊎ (a + n ≤ q) → (q < b) ⊎ (b + l ≤ q)
    far q (inl w) = inl (omega arith)
    far q (inr w) = inr (omega arith)

    near : (q : ℕ) → (q < a) ⊎ (a + n ≤ q) → (q < a) ⊎ (a + k ≤ q)
    near q (inl w) = inl w
    near q (inr w) = inr (omega arith)

-- Granules of one block ------------------------------------------------------------------------------------------------------

block_of : {units : ℕ} (b u : ℕ) → u < units → (b * units + u) / units ≡ b
block_of {units} b u l = mul-add-div_right (let z : 1 ≤ units = omega arith in z) b u ∙ ap (λ (i : ℕ). b + i) (div-eq_of_lt l) ∙ add-zero b

unit-of : {units : ℕ} (b u : ℕ) → u < units → (b * units + u) % units ≡ u
unit-of {units} b u l = mul-add-mod_self_right b units u ∙ mod-eq_of_lt l

pub shut_at : (units b u : ℕ) (m : List ℕ) → u < units → shut units m (b * units + u) ≡ digit (get_or m b 0) u
unfolding shut
shut_at units b u m l =
    ap (λ (i : ℕ). digit (get_or m i 0) ((b * units + u) % units)) (block_of b u l) ∙ ap (λ (i : ℕ). digit (get_or m b 0) i) (unit-of b u l)

-- the mask stays within the block's byte
pub fits_byte : (x n o : ℕ) → x < 256 → o + n ≤ 8 → bit_or x (coded n o) < 256
fits_byte x n o h k =
    subst (λ (y : ℕ). bit_or x y < 256) (sym (coded-is n o (omega arith) (omega arith)))
    (or_lt 8 x (mask n o) h (let w = shl_lt n o (ones_lt n) in let p = pow-le-pow_right {n = 2} (omega arith) {i = n + o} {j = 8} (omega arith) in omega
    arith))

module _ (units b o n : ℕ) (m : List ℕ) (k : o + n ≤ units) (eight : units ≤ 8) where
  within : (i : ℕ) → i < n → shut units m (b * units + o + i) ≡ digit (get_or m b 0) (o + i)
  within i l = ap (shut units m) (let z : b * units + o + i ≡ b * units + (o + i) = omega arith in z) ∙ shut_at units b (o + i) m (omega arith)

  pub takes-no : {m' : List ℕ} {x : ℕ} → x ≡ get_or m b 0 → (bit_and x (coded n o) ≡ 0 → ⊥) → TakesStretch units m (b * units + o) n m' false
  takes-no {m'} {x} e f =
      record {
        yes' = λ t. other-bit t;
        back = λ c.
            absurd (f (ap (λ (y : ℕ). bit_and x y) (coded-is n o (omega arith) (omega arith)) ∙ ap (λ (y : ℕ). bit_and y (mask n o)) e
            ∙ says-clear (get_or m b 0) n o (λ i l. sym (within i l) ∙ c i l)));
        inside = λ t. other-bit t;
        outside = λ t. other-bit t;
      }

module _ (units b o n : ℕ) (m : List ℕ) (k : o + n ≤ units) (eight : units ≤ 8) (far : b < length m) {x : ℕ} (e : x ≡ get_or m b 0)
    (c : bit_and x (coded n o) ≡ 0) where
  abbrev new : List ℕ
  new = set m b (bit_or x (coded n o))

  here : get_or new b 0 ≡ bit_or (get_or m b 0) (mask n o)
  here = get_or-set_same m b (bit_or x (coded n o)) 0 far ∙ ap (λ (y : ℕ). bit_or x y) (coded-is n o (omega arith) (omega arith)) ∙ ap
      (λ (y : ℕ). bit_or y (mask n o)) e

  same_block : (q : ℕ) → q / units ≡ b → (q < b * units + o) ⊎ (b * units + o + n ≤ q) → shut units new q ≡ shut units m q
  same_block q z w = unfold shut in
      ap (λ (i : ℕ). digit (get_or new i 0) (q % units)) z ∙ ap (λ (y : ℕ). digit y (q % units)) here
      ∙ or-out (get_or m b 0) n o (q % units) (side w) ∙ ap (λ (i : ℕ). digit (get_or m i 0) (q % units)) (sym z)
    where
      split : b * units + q % units ≡ q
      split = ap (λ (i : ℕ). i * units + q % units) (sym z) ∙ div-add-mod' q units

      side : (q < b * units + o) ⊎ (b * units + o + n ≤ q) → (q % units < o) ⊎ (o + n ≤ q % units)
      side (inl h) = inl (omega (arith, split))
      side (inr h) = inr (omega (arith, split))

  other_block : (q : ℕ) → (q / units ≡ b → ⊥) → shut units new q ≡ shut units m q
  other_block q z = unfold shut in ap (λ (y : ℕ). digit y (q % units)) (get_or-set_other m b (q / units) (bit_or x (coded n o)) 0 z)

  off : (q : ℕ) → (q < b * units + o) ⊎ (b * units + o + n ≤ q) → (q / units ≤ b) ⊎ (b < q / units) → (b ≤ q / units) ⊎ (q / units < b) → shut units new q ≡
      shut units m q
  off q w (inr h) j = other_block q (λ z. omega arith)
  off q w (inl h) (inr j) = other_block q (λ z. omega arith)
  off q w (inl h) (inl j) = same_block q (omega arith) w

  pub takes-yes : TakesStretch units m (b * units + o) n new true
  takes-yes =
      record {
        yes' = λ t i l.
            within units b o n m k eight i l
            ∙ clear-says (get_or m b 0) n o i (ap (λ (y : ℕ). bit_and y (mask n o)) (sym e) ∙ ap (λ (y : ℕ). bit_and x y)
            (sym (coded-is n o (omega arith) (omega arith))) ∙ c) l;
        back = λ f. refl;
        inside = λ t i l. within units b o n new k eight i l ∙ ap (λ (y : ℕ). digit y (o + i)) here ∙ or-in (get_or m b 0) n o i l;
        outside = λ t q w. off q w (le-or-lt (q / units) b) (le-or-lt b (q / units));
      }

-- Several blocks, one after the other: all but `left` of n granules from a on are taken, and the next is unit u of block b
pub record Taking (units : ℕ) (m₀ : List ℕ) (a n : ℕ) (m : List ℕ) (b u left : ℕ) : Type 0 where
  pub some : 1 ≤ left
  pub most : left ≤ n
  pub unit : u < units
  pub place : b * units + u ≡ a + (n - left)
  pub done : TakesStretch units m₀ a (n - left) m true

pub taking-start : (units : ℕ) (m : List ℕ) (n b u : ℕ) → 1 ≤ n → u < units → Taking units m (b * units + u) n m b u n
taking-start units m n b u k l =
    record {
      some = k;
      most = omega arith;
      unit = l;
      place = omega arith;
      done =
          record {
            yes' = λ e i q. absurd (let z : ⊥ = omega arith in z);
            back = λ f. refl;
            inside = λ e i q. absurd (let z : ⊥ = omega arith in z);
            outside = λ e q w. refl;
          };
    }

-- the next granule's block is on the map
pub taking-block : {units : ℕ} {m₀ : List ℕ} {a n : ℕ} {m : List ℕ} {b u left : ℕ} → Taking units m₀ a n m b u left → a + n ≤ most_blocks * units → b <
    most_blocks
taking-block {units} {m₀} {a} {n} {m} {b} {u} {left} t h = go (le-or-lt most_blocks b)
  where
    go : (most_blocks ≤ b) ⊎ (b < most_blocks) → b < most_blocks
    go (inr l) = l
    go (inl l) =
        let q : most_blocks * units ≤ b * units = mul-le-mul {n₁ = most_blocks} {m₁ = units} {n₂ = b} {m₂ = units} l (omega arith) in
        absurd (let p = t.place in let s = t.some in let w = t.most in let z : ⊥ = omega arith in z)

pub taking_step : {units : ℕ} {m₀ : List ℕ} {a n : ℕ} {m m' : List ℕ} {b u left : ℕ} {r : Bool} → Taking units m₀ a n m b u left → units < u + left →
    TakesStretch
    units m (b * units + u) (units - u) m' r
    → r ≡ true → Taking units m₀ a n m' (b + 1) 0 (left - (units - u))
taking_step {units} {m₀} {a} {n} {m} {m'} {b} {u} {left} {r} t h w y =
    let p = t.place in
    let l = t.unit in
    let q = t.most in
    let e : (b + 1) * units ≡ b * units + 1 * units = add-mul b 1 units in
    let o : 1 * units ≡ units = one-mul units in
    record {
      some = omega arith;
      most = omega arith;
      unit = omega arith;
      place = omega arith;
      done = takes-then p (omega arith) t.done (subst (λ (c : Bool). TakesStretch units m (b * units + u) (units - u) m' c) y w);
    }

pub taking-stop : {units : ℕ} {m₀ : List ℕ} {a n : ℕ} {m m₁ m' : List ℕ} {b u left k : ℕ} {r : Bool} → Taking units m₀ a n m b u left → k ≤ left →
    TakesStretch units
    m (b * units + u) k m₁ r
    → r ≡ false → TakesStretch units m₀ a n m' false
taking-stop {units = units} {n = n} {m = m} {m₁ = m₁} {m' = m'} {b = b} {u = u} {left = left} {k = k} t h w y = takes_none
    (let q = t.most in let z : n - left + k ≤ n = omega arith in z)
    (takes-then {m₂ = m'} t.place refl t.done (takes_none (let z : k ≤ k = omega arith in z)
    (subst (λ (c : Bool). TakesStretch units m (b * units + u) k m₁ c) y w)))

pub taking-end : {units : ℕ} {m₀ : List ℕ} {a n : ℕ} {m m' : List ℕ} {b u left : ℕ} {r : Bool} → Taking units m₀ a n m b u left → TakesStretch units m
    (b * units + u) left m' r → TakesStretch units m₀ a n m' r
taking-end t w = takes-then t.place (let q = t.most in omega arith) t.done w

-- The GAT ----------------------------------------------------------------------------------------------------------------------

-- b bytes of the GAT are in the map, each turned
pub record Turning (d : List ℕ) (gat : ℕ) (m : List ℕ) (b : ℕ) : Type 0 where
  pub long : length m ≡ most_blocks
  pub few : b ≤ most_blocks
  pub bytes : (i : ℕ) → i < b → get_or m i 0 ≡ 255 - get_or d (gat + i) 0
  pub small : (i : ℕ) → i < b → get_or d (gat + i) 0 < 256

pub turning-start : (d : List ℕ) (gat : ℕ) (m : List ℕ) → length m ≡ most_blocks → Turning d gat m 0
turning-start d gat m h = record {
  long = h;
  few = omega arith;
  bytes = λ i l. absurd (let z : ⊥ = omega arith in z);
  small = λ i l. absurd
      (let z : ⊥ = omega arith in z);
}

pub turning-step : {d : List ℕ} {gat : ℕ} {m : List ℕ} {b : ℕ} → Turning d gat m b → b < most_blocks → get_or d (gat + b) 0 < 256 → Turning d gat
    (set m b (255 - get_or d (gat + b) 0)) (b + 1)
turning-step {d} {gat} {m} {b} t h k =
    record {
      long = length-set m b (255 - get_or d (gat + b) 0) ∙ t.long;
      few = omega arith;
      bytes = λ i l. at i (le-or-lt b i) l;
      small = λ i l. low i (le-or-lt b i) l;
    }
  where
    low : (i : ℕ) → (b ≤ i) ⊎ (i < b) → i < b + 1 → get_or d (gat + i) 0 < 256
    low i (inr w) l = t.small i w
    low i (inl w) l = subst (λ (j : ℕ). get_or d (gat + j) 0 < 256) (let e : b ≡ i = omega arith in e) k

    at : (i : ℕ) → (b ≤ i) ⊎ (i < b) → i < b + 1 → get_or (set m b (255 - get_or d (gat + b) 0)) i 0 ≡ 255 - get_or d (gat + i) 0
    at i (inr w) l = get_or-set_other m b i (255 - get_or d (gat + b) 0) 0 (λ z. omega arith) ∙ t.bytes i w
    at i (inl w) l =
        let e : i ≡ b = omega arith in
        ap (λ (j : ℕ). get_or (set m b (255 - get_or d (gat + b) 0)) j 0) e ∙ get_or-set_same m b (255 - get_or d (gat + b) 0) 0 (let q = t.long in omega arith)
        ∙ ap (λ (j : ℕ). 255 - get_or d (gat + j) 0) (sym e)

-- a byte's bits turned, all 256 of them computed
turned-all : all_below 256 (λ x. all_below 8 (λ u. eqb (digit (255 - x) u) (1 - digit x u))) ≡ true
unfolding digit
turned-all = refl

turned : (x u : ℕ) → x < 256 → u < 8 → digit (255 - x) u ≡ 1 - digit x u
turned x u h l = eqb-true _ _ (all-below 8 (λ u. eqb (digit (255 - x) u) (1 - digit x u))
    (all-below 256 (λ x. all_below 8 (λ u. eqb (digit (255 - x) u) (1 - digit x u))) turned-all x h) u l)

module _ (g : Geometry) (d m : List ℕ) (room : Room g d) (b : ℕ) (t : Turning d (256 * g.start) m b) (all : most_blocks ≤ b) where
  turned-at : (n : ℕ) → n < granules g → shut g.units m n ≡ 1 - digit (byte d (gat_at g n)) (n % g.units)
  unfolding shut granules
  turned-at n h =
      let l : n / g.units < g.blocks = (div-lt_iff_lt-mul {k = g.units} {x = n} {y = g.blocks} (let z = room.units-low in omega arith)).1 h in
      let u : n % g.units < g.units = mod-lt n (let z = room.units-low in omega arith) in
      ap (λ (x : ℕ). digit x (n % g.units)) (t.bytes (n / g.units) (let z = room.blocks-high in omega arith))
      ∙ turned (get_or d (256 * g.start + n / g.units) 0) (n % g.units) (t.small (n / g.units) (let z = room.blocks-high in omega arith))
      (let z = room.units-high in omega arith)

  pub turning-end : GatMap g d m
  unfolding taken
  turning-end =
      record {
        opens = λ n h e. turned-at n h ∙ ap (λ (x : ℕ). 1 - x) (eqb-true _ 1 e);
        shuts = λ n h e.
            turned-at n h
            ∙ ap (λ (x : ℕ). 1 - x) (let q = eqb-false (digit (byte d (gat_at g n)) (n % g.units)) 1 e in let v = digit_lt (byte d (gat_at g n)) (n % g.units)
            in let z : digit (byte d (gat_at g n)) (n % g.units) ≡ 0 = omega arith in z);
      }
