-- Eight bytes of the owner map as one number: its binary digits are those of the bytes.
use Rattle.std.specs.Int.{byte_at, bytes_low_first}
use Rattle.std.proofs.lemmas.List.{get_or-append_right}
use mathlib.Core.Path.{◌≡◌, refl, sym, ap, ap₂, ◌∙◌, subst}
use mathlib.Core.Logic.{◌⊎◌, inl, inr, ◌≢◌}
use mathlib.Core.List.{List, [], ◌∷◌, ◌++◌}
use mathlib.Core.Bool.{true, false}
use Prim.Native.Nat.{ℕ, zero, suc, ◌+◌, ◌-◌, ◌*◌, ◌/◌, ◌%◌, ◌^◌, ◌≤◌, ◌<◌, min, max}
use native.Mathlib.Omega.{arith}
use native.Mathlib.Decide.{ℕ_discrete}
use native.Mathlib.Nat.{add-zero, mul_assoc, mul_comm, pow-suc, min-zero, mod-lt, mul-le-mul_left, div-div-eq-div-mul, div-mul-le_self}
use native.Mathlib.Nat.{le-div_iff_mul-le, div-lt_iff_lt-mul, add-mul-div_right}
use lib.Bits.{bit_and, bit_or, and_le_l}
use lib.ListN.{length, get_or, take, drop, length-append, length-drop, get_or-append}
use lib.Seq.{get_or-take, get_or-drop, length-take-le}
use lib.Pow.{shl_exact}
use Rattle.meaning.specs.Bits.{digit}
use Rattle.laws.specs.Bits.{digit_lt}
use Rattle.lists.specs.Tests.{le-or-lt}
use Rattle.layout.specs.Number.{number}
use Rattle.check_map.specs.Owners.{shut, TakesStretch, Window}
use Rattle.check_map.specs.Eight.{PutsEight, Spans}
use Rattle.check_map.proofs.Digits.{mask, min-one, digit-zero, digit_and, digit_or, all-zero, says-clear, clear-says, or-in, or-out}
use Rattle.check_map.proofs.Owners.{coded, coded-is, other-bit}

-- the digits of a byte and a rest above it
low_part : (k x y u : ℕ) → u < k → digit (x + 2 ^ k * y) u ≡ digit x u
unfolding digit
low_part zero x y u h = absurd (let z : ⊥ = omega arith in z)
low_part (suc k) x y zero h =
    let e : 2 ^ suc k * y ≡ 2 * (2 ^ k * y) = ap (λ (p : ℕ). p * y) (pow-suc 2 k ∙ mul_comm (2 ^ k) 2) ∙ mul_assoc 2 (2 ^ k) y in omega arith
low_part (suc k) x y (suc u) h =
    let e : 2 ^ suc k * y ≡ 2 * (2 ^ k * y) = ap (λ (p : ℕ). p * y) (pow-suc 2 k ∙ mul_comm (2 ^ k) 2) ∙ mul_assoc 2 (2 ^ k) y in
    ap (λ (z : ℕ). digit z u) (let z : (x + 2 ^ suc k * y) / 2 ≡ x / 2 + 2 ^ k * y = omega arith in z) ∙ low_part k (x / 2) y u (omega arith)

byte_low : (x y u : ℕ) → u < 8 → digit (x + 256 * y) u ≡ digit x u
byte_low x y u h = low_part 8 x y u h

-- eight digits up is a division by 256
up-eight : (x v : ℕ) → digit x (v + 8) ≡ digit (x / 256) v
unfolding digit
up-eight x v =
    ap (digit x) (let z : v + 8 ≡ suc (suc (suc (suc (suc (suc (suc (suc v))))))) = omega arith in z)
    ∙ ap (λ (y : ℕ). digit y v) (let z : x / 2 / 2 / 2 / 2 / 2 / 2 / 2 / 2 ≡ x / 256 = omega arith in z)

byte_high : (x y v : ℕ) → x < 256 → digit (x + 256 * y) (v + 8) ≡ digit y v
byte_high x y v h = up-eight (x + 256 * y) v ∙ ap (λ (z : ℕ). digit z v) (let z : (x + 256 * y) / 256 ≡ y = omega arith in z)

-- byte i of a number holds its digits from 8 i on
pub byte_of : (i x v : ℕ) → v < 8 → digit (x / 256 ^ i % 256) v ≡ digit x (8 * i + v)
byte_of i x v h = cut (x / 256 ^ i) ∙ down i v
  where
    cut : (y : ℕ) → digit (y % 256) v ≡ digit y v
    cut y = sym (byte_low (y % 256) (y / 256) v h) ∙ ap (λ (z : ℕ). digit z v) (let z : y % 256 + 256 * (y / 256) ≡ y = omega arith in z)

    down : (i w : ℕ) → digit (x / 256 ^ i) w ≡ digit x (8 * i + w)
    down zero w = ap₂ (λ (y u : ℕ). digit y u) (let z : x / 1 ≡ x = omega arith in z) (let z : w ≡ 8 * 0 + w = omega arith in z)
    down (suc i) w =
        ap (λ (y : ℕ). digit y w) (ap (λ (y : ℕ). x / y) (pow-suc 256 i) ∙ sym (div-div-eq-div-mul x (256 ^ i) 256)) ∙ sym (up-eight (x / 256 ^ i) w) ∙ down i
        (w + 8)
        ∙ ap (digit x) (let z : 8 * i + (w + 8) ≡ 8 * suc i + w = omega arith in z)

-- the digits of n bytes as a number
pub number-digit : (n : ℕ) (l : List ℕ) → ((j : ℕ) → get_or l j 0 < 256) → (i v : ℕ) → i < n → v < 8 → digit (number (take n l)) (8 * i + v) ≡ digit
    (get_or l i 0) v
unfolding number
number-digit zero l b i v h k = absurd (let z : ⊥ = omega arith in z)
number-digit (suc n) [] b i v h k = digit-zero (8 * i + v) ∙ sym (digit-zero v)
number-digit (suc n) (x ∷ xs) b zero v h k = ap (digit (x + 256 * number (take n xs))) (let z : 8 * 0 + v ≡ v = omega arith in z) ∙ byte_low x
    (number (take n xs)) v k
number-digit (suc n) (x ∷ xs) b (suc i) v h k =
    ap (digit (x + 256 * number (take n xs))) (let z : 8 * suc i + v ≡ 8 * i + v + 8 = omega arith in z) ∙ byte_high x (number (take n xs)) (8 * i + v) (b 0)
    ∙ number-digit n xs (λ j. b (suc j)) i v (omega arith) k

pub number_lt : (n : ℕ) (l : List ℕ) → ((j : ℕ) → get_or l j 0 < 256) → number (take n l) < 256 ^ n
unfolding number
number_lt zero l b = omega arith
number_lt (suc n) [] b = let p = number_lt n [] b in let e = pow-suc 256 n in let z : 0 < 256 ^ suc n = omega arith in z
number_lt (suc n) (x ∷ xs) b = let p = number_lt n xs (λ j. b (suc j)) in let e = pow-suc 256 n in let q = b 0 in omega arith

-- eight bytes of the map
abbrev pub eight_of : List ℕ → ℕ → ℕ
eight_of m at = number (take 8 (drop at m))

bytes-from : (m : List ℕ) (at : ℕ) → ((j : ℕ) → get_or m j 0 < 256) → (j : ℕ) → get_or (drop at m) j 0 < 256
bytes-from m at b j = rw (get_or-drop at m j 0) (b (at + j))

pub eight-lt : (m : List ℕ) (at : ℕ) → ((j : ℕ) → get_or m j 0 < 256) → eight_of m at < 2 ^ 64
eight-lt m at b = number_lt 8 (drop at m) (bytes-from m at b)

pub eight-digit : (m : List ℕ) (at i v : ℕ) → ((j : ℕ) → get_or m j 0 < 256) → i < 8 → v < 8 → digit (eight_of m at) (8 * i + v) ≡ digit (get_or m (at + i) 0) v
eight-digit m at i v b h k = number-digit 8 (drop at m) (bytes-from m at b) i v h k ∙ ap (λ (y : ℕ). digit y v) (get_or-drop at m i 0)

-- Eight bytes stored ---------------------------------------------------------------------------------------------------------

-- the bytes of a number, lowest first
byte-is : (i x : ℕ) → byte_at i x ≡ x / 256 ^ i % 256
byte-is zero x = let z : x % 256 ≡ x / 1 % 256 = omega arith in z
byte-is (suc i) x = refl

bytes-is : (k i j x : ℕ) → j < k → get_or (bytes_low_first i k x) j 0 ≡ x / 256 ^ (i + j) % 256
bytes-is zero i j x h = absurd (let z : ⊥ = omega arith in z)
bytes-is (suc k) i zero x h = byte-is i x ∙ ap (λ (n : ℕ). x / 256 ^ n % 256) (let z : i ≡ i + 0 = omega arith in z)
bytes-is (suc k) i (suc j) x h = bytes-is k (suc i) j x (omega arith) ∙ ap (λ (n : ℕ). x / 256 ^ n % 256) (let z : suc i + j ≡ i + suc j = omega arith in z)

bytes-long : (k i x : ℕ) → length (bytes_low_first i k x) ≡ k
bytes-long zero i x = refl
bytes-long (suc k) i x = ap (λ (n : ℕ). suc n) (bytes-long k (suc i) x)

-- the bytes of x put into the map
pub eight-stored : (m : List ℕ) (at n x : ℕ) {part : List ℕ} → at + 8 ≤ length m → n ≡ 8 → part ≡ bytes_low_first 0 8 x
    → PutsEight m at x (take at m ++ (part ++ drop n (drop at m)))
eight-stored m at n x {part} h e q =
    record {
      inside = λ i k.
          get_or-append_right (take at m) (part ++ rest) at (at + i) 0 front (omega arith)
          ∙ ap (λ (j : ℕ). get_or (part ++ rest) j 0) (let z : at + i - at ≡ i = omega arith in z)
          ∙ get_or-append part rest 0 i (omega (arith, middle)) ∙ ap (λ (l : List ℕ). get_or l i 0) q ∙ bytes-is 8 0 i x k
          ∙ ap (λ (j : ℕ). x / 256 ^ j % 256) (let z : 0 + i ≡ i = omega arith in z);
      outside = λ j k. out j k;
      long =
          length-append (take at m) (part ++ rest) ∙ ap (λ (k : ℕ). length (take at m) + k) (length-append part rest)
          ∙ (let z : length (take at m) + (length part + length rest) ≡ length m = omega (arith, front, middle, behind) in z);
    }
  where
    rest : List ℕ
    rest = drop n (drop at m)

    front : length (take at m) ≡ at
    front = length-take-le at m (omega arith)

    middle : length part ≡ 8
    middle = ap {B = ℕ} length q ∙ bytes-long 8 0 x

    behind : length rest ≡ length m - at - n
    behind = length-drop n (drop at m) ∙ ap (λ (k : ℕ). k - n) (length-drop at m)

    out : (j : ℕ) → (j < at) ⊎ (at + 8 ≤ j) → get_or (take at m ++ (part ++ rest)) j 0 ≡ get_or m j 0
    out j (inl k) = get_or-append (take at m) (part ++ rest) 0 j (omega (arith, front)) ∙ get_or-take at m j 0 k
    out j (inr k) =
        get_or-append_right (take at m) (part ++ rest) at j 0 front (omega arith)
        ∙ get_or-append_right part rest 8 (j - at) 0 middle (omega arith) ∙ get_or-drop n (drop at m) (j - at - 8) 0 ∙ get_or-drop at m (n + (j - at - 8)) 0
        ∙ ap (λ (i : ℕ). get_or m i 0) (let z : at + (n + (j - at - 8)) ≡ j = omega arith in z)

-- Eight units a block: the granules stand one after the other -------------------------------------------------------------------

pub stretch-shut : (m : List ℕ) (at q : ℕ) → ((j : ℕ) → get_or m j 0 < 256) → 8 * at ≤ q → q < 8 * at + 64 → shut 8 m q ≡ digit (eight_of m at) (q - 8 * at)
unfolding shut
stretch-shut m at q b h k =
    ap (λ (y : ℕ). digit (get_or m y 0) (q % 8)) (let z : q / 8 ≡ at + (q / 8 - at) = omega arith in z) ∙ sym
    (eight-digit m at (q / 8 - at) (q % 8) b (omega arith) (omega arith))
    ∙ ap (digit (eight_of m at)) (let z : 8 * (q / 8 - at) + q % 8 ≡ q - 8 * at = omega arith in z)

pub stored-shut : (m m' : List ℕ) (at x q : ℕ) → PutsEight m at x m' → 8 * at ≤ q → q < 8 * at + 64 → shut 8 m' q ≡ digit x (q - 8 * at)
unfolding shut
stored-shut m m' at x q s h k =
    ap (λ (y : ℕ). digit (get_or m' y 0) (q % 8)) (let z : q / 8 ≡ at + (q / 8 - at) = omega arith in z)
    ∙ ap (λ (y : ℕ). digit y (q % 8)) (s.inside (q / 8 - at) (omega arith)) ∙ byte_of (q / 8 - at) x (q % 8) (omega arith)
    ∙ ap (digit x) (let z : 8 * (q / 8 - at) + q % 8 ≡ q - 8 * at = omega arith in z)

stored_other : (m m' : List ℕ) (at x q : ℕ) → PutsEight m at x m' → (q < 8 * at) ⊎ (8 * at + 64 ≤ q) → shut 8 m' q ≡ shut 8 m q
unfolding shut
stored_other m m' at x q s h = ap (λ (y : ℕ). digit y (q % 8)) (s.outside (q / 8) (far h))
  where
    far : (q < 8 * at) ⊎ (8 * at + 64 ≤ q) → (q / 8 < at) ⊎ (at + 8 ≤ q / 8)
    far (inl k) = inl (omega arith)
    far (inr k) = inr (omega arith)

-- where a stretch of n granules from a on lies in the eight bytes from `at` on
pub record InWindow (at a n o : ℕ) : Type 0 where
  pub from : a ≡ 8 * at + o
  pub room : o + n ≤ 64

-- the first of the eight bytes that are looked at for a block: its own, but for the map's last bytes
pub record Base (block at : ℕ) : Type 0 where
  pub low : at ≤ block
  pub high : at ≤ 184
  pub near : (at ≡ block) ⊎ (at ≡ 184)

pub base-at : {at : ℕ} (block : ℕ) → at ≡ min block 184 → Base block at
base-at {at} block e = record { low = omega arith; high = omega arith; near = by (le-or-lt 184 block) }
  where
    by : (184 ≤ block) ⊎ (block < 184) → (at ≡ block) ⊎ (at ≡ 184)
    by (inl h) = inr (omega arith)
    by (inr h) = inl (omega arith)

pub lies : {block at : ℕ} (unit n : ℕ) → Base block at → unit < 8 → block * 8 + unit + n ≤ 1536 → n ≤ 32 → InWindow at (block * 8 + unit) n
    (8 * (block - at) + unit)
lies {block} {at} unit n b h k l = record { from = let z = b.low in omega arith; room = go b.near }
  where
    go : (at ≡ block) ⊎ (at ≡ 184) → 8 * (block - at) + unit + n ≤ 64
    go (inl e) = omega arith
    go (inr e) = omega arith

-- some granule of the stretch is shut
pub stretch-no : (m m' : List ℕ) (at a n o : ℕ) {x : ℕ} → x ≡ eight_of m at → ((j : ℕ) → get_or m j 0 < 256) → InWindow at a n o → n < 64
    → bit_and x (coded n o)
    ≢ 0
    → TakesStretch 8 m a n m' false
stretch-no m m' at a n o {x} x-is b l h e =
    record {
      yes' = λ y. other-bit y;
      back = λ f. absurd (e (ap₂ (λ (y z : ℕ). bit_and y z) x-is (coded-is n o h l.room) ∙ says-clear (eight_of m at) n o (λ i k. at-digit i k ∙ f i k)));
      inside = λ y. other-bit y;
      outside = λ y. other-bit y;
    }
  where
    at-digit : (i : ℕ) → i < n → digit (eight_of m at) (o + i) ≡ shut 8 m (a + i)
    at-digit i k =
        let p = l.from in let r = l.room in
        ap (digit (eight_of m at)) (let z : o + i ≡ a + i - 8 * at = omega arith in z) ∙ sym (stretch-shut m at (a + i) b (omega arith) (omega arith))

-- all are open, and the mask is stored
pub stretch-yes : (m m' : List ℕ) (at a n o : ℕ) {x : ℕ} → x ≡ eight_of m at → ((j : ℕ) → get_or m j 0 < 256) → InWindow at a n o → n < 64
    → bit_and x (coded n o)
    ≡ 0
    → PutsEight m at (bit_or x (coded n o)) m' → TakesStretch 8 m a n m' true
stretch-yes m m' at a n o {x} x-is b l h e s =
    record {
      yes' = λ y i k. stretch-shut m at (a + i) b (low i) (high i k) ∙ ap (digit (eight_of m at)) (place i)
          ∙ clear-says (eight_of m at) n o i (sym (ap₂ (λ (y z : ℕ). bit_and y z) x-is same) ∙ e) k;
      back = λ f. refl;
      inside = λ y i k. stored-shut m m' at (bit_or (eight_of m at) (mask n o)) (a + i) new (low i) (high i k) ∙ ap (digit (bit_or (eight_of m at) (mask n o)))
          (place i)
          ∙ or-in (eight_of m at) n o i k;
      outside = λ y q w. out q w (le-or-lt (8 * at) q) (le-or-lt (8 * at + 64) q);
    }
  where
    same : coded n o ≡ mask n o
    same = coded-is n o h l.room

    new : PutsEight m at (bit_or (eight_of m at) (mask n o)) m'
    new = subst (λ (y : ℕ). PutsEight m at y m') (ap₂ (λ (y z : ℕ). bit_or y z) x-is same) s

    low : (i : ℕ) → 8 * at ≤ a + i
    low i = let p = l.from in omega arith

    high : (i : ℕ) → i < n → a + i < 8 * at + 64
    high i k = let p = l.from in let r = l.room in omega arith

    place : (i : ℕ) → a + i - 8 * at ≡ o + i
    place i = let p = l.from in omega arith

    under : (q : ℕ) → (q < a) ⊎ (a + n ≤ q) → 8 * at ≤ q → (q - 8 * at < o) ⊎ (o + n ≤ q - 8 * at)
    under q (inl w) k = let p = l.from in inl (omega arith)
    under q (inr w) k = let p = l.from in inr (omega arith)

    out : (q : ℕ) → (q < a) ⊎ (a + n ≤ q) → (8 * at ≤ q) ⊎ (q < 8 * at) → (8 * at + 64 ≤ q) ⊎ (q < 8 * at + 64) → shut 8 m' q ≡ shut 8 m q
    out q w (inr k) r = stored_other m m' at (bit_or (eight_of m at) (mask n o)) q new (inl k)
    out q w (inl k) (inl r) = stored_other m m' at (bit_or (eight_of m at) (mask n o)) q new (inr r)
    out q w (inl k) (inr r) =
        stored-shut m m' at (bit_or (eight_of m at) (mask n o)) q new k r ∙ or-out (eight_of m at) n o (q - 8 * at) (under q w k) ∙ sym
        (stretch-shut m at q b k r)

-- The bits of some granules in eight bytes, for any number of units a block ------------------------------------------------------------

div_mono : {a b : ℕ} (u : ℕ) → 1 ≤ u → a ≤ b → a / u ≤ b / u
div_mono {a} {b} u h k = (le-div_iff_mul-le h).1 (let z = div-mul-le_self a u in omega arith)

-- (a + j) / u is at most a / u + j
div-step : (a j u : ℕ) → 1 ≤ u → (a + j) / u ≤ a / u + j
div-step a j u h =
    let e = add-mul-div_right a j h in let q : j * 1 ≤ j * u = mul-le-mul_left j h in let z : (a + j) / u ≤ (a + j * u) / u = div_mono u h (omega arith) in
    omega arith

-- where the callers look: `at` is the first granule's block, but for the map's last bytes
pub base-spans : (units a n : ℕ) {at : ℕ} → Base (a / units) at → 1 ≤ units → n ≤ 6 → a + n ≤ 192 * units → Spans units a n at
base-spans units a n {at} b h l r = record { room = let z = b.high in omega arith; low = b.low; high = λ k s. by k s b.near }
  where
    by : (k : ℕ) → k < a + n → (at ≡ a / units) ⊎ (at ≡ 184) → k / units < at + 8
    by k s (inl e) = let p : k / units ≤ (a + n) / units = div_mono units h (omega arith) in let q = div-step a n units h in omega arith
    by k s (inr e) = let p : k / units < 192 = (div-lt_iff_lt-mul h).1 (let z : k < 192 * units = omega arith in z) in omega arith

-- the digit of granule k
abbrev pub spot : ℕ → ℕ → ℕ → ℕ
spot units at k = 8 * (k / units - at) + k % units

pub spans-from : {units a n at k : ℕ} → Spans units a n at → 1 ≤ units → a ≤ k → at ≤ k / units
spans-from {units} {a} {n} {at} {k} s h l = let z = s.low in let p : a / units ≤ k / units = div_mono units h l in omega arith

pub spot-lt : {units a n at k : ℕ} → Spans units a n at → 1 ≤ units → units ≤ 8 → k < a + n → spot units at k < 64
spot-lt {units} {a} {n} {at} {k} s h l r = let p = s.high k r in let q = mod-lt k h in omega arith

pub spans-shut : {units a n at : ℕ} (m : List ℕ) (k : ℕ) → Spans units a n at → 1 ≤ units → units ≤ 8 → ((j : ℕ) → get_or m j 0 < 256) → a ≤ k → k < a + n
    → digit (eight_of m at) (spot units at k) ≡ shut units m k
unfolding shut
spans-shut {units} {a} {n} {at} m k s h l b c r =
    let p = s.high k r in let q = mod-lt k h in let f = spans-from {k = k} s h c in
    eight-digit m at (k / units - at) (k % units) b (omega arith) (omega arith)
    ∙ ap (λ (y : ℕ). digit (get_or m y 0) (k % units)) (let z : at + (k / units - at) ≡ k / units = omega arith in z)

-- the loop that sets the bits
pub window-start : (units a at : ℕ) → Window units a (a - a) at 0
window-start units a at = record {
  inside = λ k c r. absurd (let z : ⊥ = omega arith in z);
  outside = λ u e. absurd
      (let q = digit-zero u in let z : ⊥ = omega arith in z);
}

or-keeps : (w y u : ℕ) → digit w u ≡ 1 → digit (bit_or w y) u ≡ 1
or-keeps w y u e = digit_or u w y ∙ ap (λ (z : ℕ). max z (digit y u)) e ∙ one-max (digit y u) (digit_lt y u)
  where
    one-max : (x : ℕ) → x < 2 → max 1 x ≡ 1
    one-max zero h = refl
    one-max (suc zero) h = refl
    one-max (suc (suc x)) h = absurd (let z : ⊥ = omega arith in z)

-- one bit, as the code has it
one_bit : (s : ℕ) → s < 64 → 1 * 2 ^ s % 18446744073709551616 ≡ mask 1 s
one_bit s h = shl_exact {a = 1} 1 s 64 (omega arith) (omega arith)

pub window-step : (units a at k w : ℕ) → a ≤ k → spot units at k < 64 → Window units a (k - a) at w
    → Window units a (k + 1 - a) at (bit_or w (1 * 2 ^ spot units at k % 18446744073709551616))
window-step units a at k w c h v = subst (λ (y : ℕ). Window units a (k + 1 - a) at (bit_or w y)) (sym (one_bit (spot units at k) h)) next
  where
    in' : (j : ℕ) → a ≤ j → j < a + (k + 1 - a) → (k ≤ j) ⊎ (j < k) → digit (bit_or w (mask 1 (spot units at k))) (spot units at j) ≡ 1
    in' j p r (inr l) = or-keeps w (mask 1 (spot units at k)) (spot units at j) (v.inside j p (omega arith))
    in' j p r (inl l) =
        let e : j ≡ k = omega arith in
        ap (λ (i : ℕ). digit (bit_or w (mask 1 (spot units at k))) (spot units at i)) e
        ∙ ap (digit (bit_or w (mask 1 (spot units at k)))) (sym (add-zero (spot units at k))) ∙ or-in w 1 (spot units at k) 0 (omega arith)

    old : (u : ℕ) → (j : ℕ) × (a ≤ j) × (j < a + (k - a)) × (u ≡ spot units at j) → (j : ℕ) × (a ≤ j) × (j < a + (k + 1 - a)) × (u ≡ spot units at j)
    old u (j, p, r, e) = (j, p, omega arith, e)

    out' : (u : ℕ) → digit (bit_or w (mask 1 (spot units at k))) u ≡ 1 → Dec (u ≡ spot units at k) → (j : ℕ) × (a ≤ j) × (j < a + (k + 1 - a)) ×
        (u ≡ spot units at j)
    out' u e (yes p) = (k, c, omega arith, p)
    out' u e (no p) = old u (v.outside u (sym (or-out w 1 (spot units at k) u (away (le-or-lt (spot units at k) u))) ∙ e))
      where
        away : (spot units at k ≤ u) ⊎ (u < spot units at k) → (u < spot units at k) ⊎ (spot units at k + 1 ≤ u)
        away (inr l) = inl l
        away (inl l) = inr (omega arith)

    next : Window units a (k + 1 - a) at (bit_or w (mask 1 (spot units at k)))
    next = record { inside = λ j p r. in' j p r (le-or-lt k j); outside = λ u e. out' u e (ℕ_discrete u (spot units at k)) }

pub window-end : {units a n at k w : ℕ} → a ≤ k → k ≤ a + n → a + n ≤ k → Window units a (k - a) at w → Window units a n at w
window-end {units} {a} {n} {at} {k} {w} p q r v = subst (λ (y : ℕ). Window units a y at w) (let z : k - a ≡ n = omega arith in z) v

-- What the bits under a window say of the granules ----------------------------------------------------------------------------------

same_digits : (k x y : ℕ) → x < 2 ^ k → y < 2 ^ k → ((u : ℕ) → u < k → digit x u ≡ digit y u) → x ≡ y
unfolding digit
same_digits zero x y h l f = omega arith
same_digits (suc k) x y h l f =
    let p = pow-suc 2 k in
    let a : x % 2 ≡ y % 2 = f 0 (omega arith) in
    let b : x / 2 ≡ y / 2 = same_digits k (x / 2) (y / 2) (omega arith) (omega arith) (λ u r. f (suc u) (omega arith)) in omega arith

-- a digit under a window, and one outside it
under-in : (x w u : ℕ) → digit w u ≡ 1 → digit (bit_and x w) u ≡ digit x u
under-in x w u e = digit_and u x w ∙ ap (λ (y : ℕ). min (digit x u) y) e ∙ min-one (digit x u) (digit_lt x u)

under-out : (x w u : ℕ) → digit w u ≡ 0 → digit (bit_and x w) u ≡ 0
under-out x w u e = digit_and u x w ∙ ap (λ (y : ℕ). min (digit x u) y) e ∙ min-zero (digit x u)

under-lt : (m : List ℕ) (at w : ℕ) → ((j : ℕ) → get_or m j 0 < 256) → bit_and (eight_of m at) w < 2 ^ 64
under-lt m at w b = let p = and_le_l (eight_of m at) w in let q = eight-lt m at b in omega arith

pub same-shut : {units a n at w : ℕ} (m m' : List ℕ) → Spans units a n at → 1 ≤ units → units ≤ 8 → Window units a n at w → ((j : ℕ) → get_or m j 0 < 256) →
    ((j : ℕ) → get_or m' j 0 < 256)
    → bit_and (eight_of m at) w ≡ bit_and (eight_of m' at) w → (k : ℕ) → a ≤ k → k < a + n → shut units m k ≡ shut units m' k
same-shut {units} {a} {n} {at} {w} m m' s h l v b b' e k c r =
    let i = v.inside k c r in
    sym (spans-shut m k s h l b c r) ∙ sym (under-in (eight_of m at) w (spot units at k) i) ∙ ap (λ (y : ℕ). digit y (spot units at k)) e
    ∙ under-in (eight_of m' at) w (spot units at k) i ∙ spans-shut m' k s h l b' c r

pub shut-same : {units a n at w : ℕ} (m m' : List ℕ) → Spans units a n at → 1 ≤ units → units ≤ 8 → Window units a n at w → ((j : ℕ) → get_or m j 0 < 256) →
    ((j : ℕ) → get_or m' j 0 < 256)
    → ((k : ℕ) → a ≤ k → k < a + n → shut units m k ≡ shut units m' k) → bit_and (eight_of m at) w ≡ bit_and (eight_of m' at) w
shut-same {units} {a} {n} {at} {w} m m' s h l v b b' f =
    same_digits 64 (bit_and (eight_of m at) w) (bit_and (eight_of m' at) w) (under-lt m at w b) (under-lt m' at w b') (λ u _. by u (ℕ_discrete (digit w u) 1))
  where
    here : (u : ℕ) → digit w u ≡ 1 → (k : ℕ) × (a ≤ k) × (k < a + n) × (u ≡ spot units at k) → digit (eight_of m at) u ≡ digit (eight_of m' at) u
    here u i (k, c, r, e) =
        ap (digit (eight_of m at)) e ∙ spans-shut m k s h l b c r ∙ f k c r ∙ sym (spans-shut m' k s h l b' c r) ∙ ap (digit (eight_of m' at)) (sym e)

    by : (u : ℕ) → Dec (digit w u ≡ 1) → digit (bit_and (eight_of m at) w) u ≡ digit (bit_and (eight_of m' at) w) u
    by u (yes i) = under-in (eight_of m at) w u i ∙ here u i (v.outside u i) ∙ sym (under-in (eight_of m' at) w u i)
    by u (no i) = let z : digit w u ≡ 0 = (let q = digit_lt w u in omega arith) in under-out (eight_of m at) w u z ∙ sym (under-out (eight_of m' at) w u z)

pub none-shut : {units a n at w : ℕ} (m : List ℕ) → Spans units a n at → 1 ≤ units → units ≤ 8 → Window units a n at w → ((j : ℕ) → get_or m j 0 < 256)
    → bit_and (eight_of m at) w ≡ 0 → (k : ℕ) → a ≤ k → k < a + n → shut units m k ≡ 0
none-shut {units} {a} {n} {at} {w} m s h l v b e k c r =
    sym (spans-shut m k s h l b c r) ∙ sym (under-in (eight_of m at) w (spot units at k) (v.inside k c r)) ∙ ap (λ (y : ℕ). digit y (spot units at k)) e
    ∙ digit-zero (spot units at k)

pub shut_none : {units a n at w : ℕ} (m : List ℕ) → Spans units a n at → 1 ≤ units → units ≤ 8 → Window units a n at w → ((j : ℕ) → get_or m j 0 < 256)
    → ((k : ℕ) → a ≤ k → k < a + n → shut units m k ≡ 0) → bit_and (eight_of m at) w ≡ 0
shut_none {units} {a} {n} {at} {w} m s h l v b f = all-zero 64 (bit_and (eight_of m at) w) (under-lt m at w b) (λ u _. by u (ℕ_discrete (digit w u) 1))
  where
    here : (u : ℕ) → (k : ℕ) × (a ≤ k) × (k < a + n) × (u ≡ spot units at k) → digit (eight_of m at) u ≡ 0
    here u (k, c, r, e) = ap (digit (eight_of m at)) e ∙ spans-shut m k s h l b c r ∙ f k c r

    by : (u : ℕ) → Dec (digit w u ≡ 1) → digit (bit_and (eight_of m at) w) u ≡ 0
    by u (yes i) = under-in (eight_of m at) w u i ∙ here u (v.outside u i)
    by u (no i) = under-out (eight_of m at) w u (let q = digit_lt w u in omega arith)
