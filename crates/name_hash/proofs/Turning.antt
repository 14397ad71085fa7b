-- The hash is linear: exclusive-or of two values goes through its steps. What follows: a run of bytes turns a value as often as it is long
-- and brings in what it
-- makes of 0.
use mathlib.Core.Path.{◌≡◌, refl, sym, ap, ◌∙◌, subst}
use mathlib.Core.List.{List, [], ◌∷◌}
use mathlib.Core.Bool.{Bool, true, ◌&&◌}
use Prim.Native.Nat.{ℕ, zero, suc, ◌+◌, ◌-◌, ◌*◌, ◌/◌, ◌%◌, ◌^◌, ◌≤◌, ◌<◌}
use native.Mathlib.Omega.{arith}
use native.Mathlib.Nat.{pow-suc}
use lib.Bits.{bit_xor, xor_lt, xor_shr, xor_mod, xor_block, xor_comm, xor_zero_r}
use lib.ListN.{length, get_or, replicate, drop_of_length-le}
use lib.Dec.{eqb}
use borrow.Author.Tests.{eqb-true}
use Rattle.meaning.specs.Lists.{through}
use Rattle.meaning.specs.Names.{rotate, mix}
use Rattle.std.specs.Int.{w8, rotate_left, rotate_right}
use Rattle.lists.specs.Tests.{and_l, and_r}
use Rattle.lists.specs.Below.{all_below, all-below}
use Rattle.name_hash.specs.Short.{four_blanks}
use Rattle.name_hash.proofs.Mixing.{through-more}

-- ---- exclusive-or is associative

below_power : (n : ℕ) → n < 2 ^ n
below_power zero = omega arith
below_power (suc n) = let h = below_power n in let e : 2 ^ suc n ≡ 2 ^ n * 2 = pow-suc 2 n in omega arith

bits : (x y z : ℕ) → x < 2 → y < 2 → z < 2 → bit_xor (bit_xor x y) z ≡ bit_xor x (bit_xor y z)
bits zero y z a b c = refl
bits (suc zero) zero z a b c = refl
bits (suc zero) (suc zero) zero a b c = refl
bits (suc zero) (suc zero) (suc zero) a b c = refl
bits (suc zero) (suc zero) (suc (suc z)) a b c = absurd (omega arith)
bits (suc zero) (suc (suc y)) z a b c = absurd (omega arith)
bits (suc (suc x)) y z a b c = absurd (omega arith)

halves : {a b : ℕ} → a / 2 ≡ b / 2 → a % 2 ≡ b % 2 → a ≡ b
halves p q = omega arith

assoc-below : (k a b c : ℕ) → a < 2 ^ k → bit_xor (bit_xor a b) c ≡ bit_xor a (bit_xor b c)
assoc-below zero a b c h = let e : a ≡ 0 = omega arith in rw e refl
assoc-below (suc k) a b c h =
    let e : 2 ^ suc k ≡ 2 ^ k * 2 = pow-suc 2 k in
    halves
    (xor_shr (bit_xor a b) c 1 ∙ ap (λ (x : ℕ). bit_xor x (c / 2)) (xor_shr a b 1) ∙ assoc-below k (a / 2) (b / 2) (c / 2) (omega arith)
    ∙ sym (xor_shr a (bit_xor b c) 1 ∙ ap (bit_xor (a / 2)) (xor_shr b c 1)))
    (xor_mod (bit_xor a b) c 1 ∙ ap (λ (x : ℕ). bit_xor x (c % 2)) (xor_mod a b 1) ∙ bits (a % 2) (b % 2) (c % 2) (omega arith) (omega arith) (omega arith)
    ∙ sym (xor_mod a (bit_xor b c) 1 ∙ ap (bit_xor (a % 2)) (xor_mod b c 1)))

pub xor_assoc : (a b c : ℕ) → bit_xor (bit_xor a b) c ≡ bit_xor a (bit_xor b c)
xor_assoc a b c = assoc-below a a b c (below_power a)

-- two pairs
xor-pairs : (a d x y : ℕ) → bit_xor (bit_xor (bit_xor a d) x) y ≡ bit_xor (bit_xor a x) (bit_xor d y)
xor-pairs a d x y =
    ap (λ (z : ℕ). bit_xor z y) (xor_assoc a d x ∙ ap (bit_xor a) (xor_comm d x) ∙ sym (xor_assoc a x d)) ∙ xor_assoc (bit_xor a x) d y

-- ---- turning is linear

pub rotate-lt : (x : ℕ) → x < 256 → rotate x < 256
rotate-lt x h = omega arith

as-block : (x : ℕ) → rotate x ≡ x % 128 * 2 + x / 128
as-block x = omega arith

pub rotate-xor : (a b : ℕ) → a < 256 → b < 256 → rotate (bit_xor a b) ≡ bit_xor (rotate a) (rotate b)
rotate-xor a b p q =
    as-block (bit_xor a b) ∙ ap (λ (x : ℕ). x * 2 + bit_xor a b / 128) (xor_mod a b 7) ∙ ap (λ (x : ℕ). bit_xor (a % 128) (b % 128) * 2 + x) (xor_shr a b 7)
    ∙ sym (xor_block 1 (a % 128) (b % 128) (a / 128) (b / 128) (omega arith) (omega arith))
    ∙ sym (ap (bit_xor (rotate a)) (as-block b) ∙ ap (λ (x : ℕ). bit_xor x (b % 128 * 2 + b / 128)) (as-block a))

-- turned left k times
abbrev pub turns : ℕ → ℕ → ℕ
turns zero h = h
turns (suc k) h = turns k (rotate h)

pub turns-lt : (k h : ℕ) → h < 256 → turns k h < 256
turns-lt zero h p = p
turns-lt (suc k) h p = turns-lt k (rotate h) (rotate-lt h p)

pub turns-xor : (k a b : ℕ) → a < 256 → b < 256 → turns k (bit_xor a b) ≡ bit_xor (turns k a) (turns k b)
turns-xor zero a b p q = refl
turns-xor (suc k) a b p q = ap (turns k) (rotate-xor a b p q) ∙ turns-xor k (rotate a) (rotate b) (rotate-lt a p) (rotate-lt b q)

-- as the library turns a byte
abbrev once : ℕ → Bool
once x = eqb (rotate_left w8 x 1) (rotate x)

once-all : all_below 256 once ≡ true
once-all = refl

pub one-turn : (x : ℕ) → x < 256 → rotate_left w8 x 1 ≡ rotate x
one-turn x p = eqb-true _ _ (all-below 256 once once-all x p)

-- three turns at once, and eight, which leave a byte as it was
abbrev turning : ℕ → Bool
turning h = eqb (rotate_left w8 h 3) (turns 3 h) && eqb (turns 8 h) h

turning-all : all_below 256 turning ≡ true
turning-all = refl

pub three-turns : (h : ℕ) → h < 256 → rotate_left w8 h 3 ≡ turns 3 h
three-turns h p = eqb-true _ _ (and_l _ _ (all-below 256 turning turning-all h p))

pub eight-turns : (h : ℕ) → h < 256 → turns 8 h ≡ h
eight-turns h p = eqb-true _ _ (and_r (eqb (rotate_left w8 h 3) (turns 3 h)) _ (all-below 256 turning turning-all h p))

abbrev backwards : ℕ → Bool
backwards h = eqb (rotate_right w8 h 1) (turns 7 h)

backwards-all : all_below 256 backwards ≡ true
backwards-all = refl

-- seven turns are one to the right
pub seven-turns : (h : ℕ) → h < 256 → rotate_right w8 h 1 ≡ turns 7 h
seven-turns h p = eqb-true _ _ (all-below 256 backwards backwards-all h p)

-- both as quotient and remainder reckon them
abbrev reckoned : ℕ → Bool
reckoned h = eqb (rotate_left w8 h 3) (h % 32 * 8 + h / 32) && eqb (rotate_right w8 h 1) (h % 2 * 128 + h / 2)

reckoned-all : all_below 256 reckoned ≡ true
reckoned-all = refl

pub left-reckoned : (h : ℕ) → h < 256 → rotate_left w8 h 3 ≡ h % 32 * 8 + h / 32
left-reckoned h p = eqb-true _ _ (and_l _ _ (all-below 256 reckoned reckoned-all h p))

pub right-reckoned : (h : ℕ) → h < 256 → rotate_right w8 h 1 ≡ h % 2 * 128 + h / 2
right-reckoned h p = eqb-true _ _ (and_r (eqb (rotate_left w8 h 3) (h % 32 * 8 + h / 32)) _ (all-below 256 reckoned reckoned-all h p))

-- ---- what a run does to a value

pub mix-lt : (h x : ℕ) → h < 256 → x < 256 → mix h x < 256
mix-lt h x p q = rotate-lt (bit_xor h x) (xor_lt 8 h x p q)

pub run : (h : ℕ) (l : List ℕ) → h < 256 → ((i : ℕ) → get_or l i 0 < 256) → through mix h l ≡ bit_xor (turns (length l) h) (through mix 0 l)
run h [] p b = sym (xor_zero_r h)
run h (x ∷ xs) p b =
    let q : x < 256 = b 0 in
    let bs : (i : ℕ) → get_or xs i 0 < 256 = λ i. b (suc i) in
    run (mix h x) xs (mix-lt h x p q) bs
    ∙ ap (λ (y : ℕ). bit_xor (turns (length xs) y) (through mix 0 xs)) (rotate-xor h x p q)
    ∙ ap (λ (y : ℕ). bit_xor y (through mix 0 xs)) (turns-xor (length xs) (rotate h) (rotate x) (rotate-lt h p) (rotate-lt x q))
    ∙ xor_assoc (turns (length xs) (rotate h)) (turns (length xs) (rotate x)) (through mix 0 xs)
    ∙ ap (bit_xor (turns (length xs) (rotate h))) (sym (run (rotate x) xs (rotate-lt x q) bs))

-- A run of k blanks turns a value k times and brings in one number, which depends on k alone.
pub run-of-blanks : (k h : ℕ) → h < 256 → through mix h (replicate k 0x20) ≡ bit_xor (turns k h) (through mix 0 (replicate k 0x20))
run-of-blanks k h p = run h (replicate k 0x20) p (blank k) ∙ ap (λ (m : ℕ). bit_xor (turns m h) (through mix 0 (replicate k 0x20))) (long k)
  where
    blank : (k i : ℕ) → get_or (replicate k 0x20) i 0 < 256
    blank zero i = omega arith
    blank (suc k) zero = omega arith
    blank (suc k) (suc i) = blank k i

    long : (k : ℕ) → length {A = ℕ} (replicate k 0x20) ≡ k
    long zero = refl
    long (suc k) = ap suc (long k)

-- That number: k ones turned left six times (20H turned once, twice, up to k times), for every k that a part of a name has room for.
abbrev ones : ℕ → Bool
ones k = eqb (through mix 0 (replicate k 0x20)) ((2 ^ k - 1) * 64 % 256 + (2 ^ k - 1) * 64 / 256)

ones-all : all_below 9 ones ≡ true
ones-all = refl

pub blanks-of-0 : (k : ℕ) → k ≤ 8 → through mix 0 (replicate k 0x20) ≡ (2 ^ k - 1) * 64 % 256 + (2 ^ k - 1) * 64 / 256
blanks-of-0 k l = eqb-true _ _ (all-below 9 ones ones-all k (omega arith))

-- ---- a name: its type goes in beside its first three bytes

-- c is what two runs of bytes, mixed in beside each other, have made: m the one, d the other
pub record Beside (c m d : ℕ) : Type 0 where
  pub is : c ≡ bit_xor m d
  pub one : m < 256
  pub other : d < 256

pub both-start : (x y : ℕ) {c : ℕ} → x < 256 → y < 256 → c ≡ rotate (bit_xor x y) → Beside c (mix 0 x) (mix 0 y)
both-start x y p q e = record { is = e ∙ rotate-xor x y p q; one = rotate-lt x p; other = rotate-lt y q }

pub both-more : {c m d c' : ℕ} (x y : ℕ) → Beside c m d → x < 256 → y < 256 → c' ≡ rotate (bit_xor (bit_xor c x) y) → Beside c' (mix m x) (mix d y)
both-more {c} {m} {d} x y w p q e =
    record {
      is =
          e ∙ ap (λ (z : ℕ). rotate (bit_xor (bit_xor z x) y)) w.is ∙ ap rotate (xor-pairs m d x y)
          ∙ rotate-xor (bit_xor m x) (bit_xor d y) (xor_lt 8 m x w.one p) (xor_lt 8 d y w.other q);
      one = mix-lt m x w.one p;
      other = mix-lt d y w.other q;
    }

pub one_more : {c m d c' : ℕ} (x : ℕ) → Beside c m d → x < 256 → c' ≡ rotate (bit_xor c x) → Beside c' (mix m x) (rotate d)
one_more {c} {m} {d} x w p e =
    record {
      is =
          e ∙ ap (λ (z : ℕ). rotate (bit_xor z x)) w.is ∙ ap rotate (xor_assoc m d x ∙ ap (bit_xor m) (xor_comm d x) ∙ sym (xor_assoc m x d))
          ∙ rotate-xor (bit_xor m x) d (xor_lt 8 m x w.one p) w.other;
      one = mix-lt m x w.one p;
      other = rotate-lt d w.other;
    }

-- Three bytes were turned five times too often; three turns more, and they are as they were, and what they were beside has made way for three bytes.
three-low : (x y z : ℕ) → x < 256 → y < 256 → z < 256 → through mix 0 (x ∷ y ∷ z ∷ []) < 256
three-low x y z p q r = mix-lt (mix (mix 0 x) y) z (mix-lt (mix 0 x) y (rotate-lt x p) q) r

three-run : (m x y z : ℕ) → m < 256 → x < 256 → y < 256 → z < 256
    → through mix m (x ∷ y ∷ z ∷ []) ≡ bit_xor (turns 3 m) (through mix 0 (x ∷ y ∷ z ∷ []))
three-run m x y z l p q r = run m (x ∷ y ∷ z ∷ []) l small
  where
    small : (i : ℕ) → get_or (x ∷ y ∷ z ∷ []) i 0 < 256
    small zero = p
    small (suc zero) = q
    small (suc (suc zero)) = r
    small (suc (suc (suc i))) = omega arith

pub type-last : {c m : ℕ} (x y z : ℕ) → x < 256 → y < 256 → z < 256 → Beside c m (turns 5 (through mix 0 (x ∷ y ∷ z ∷ []))) → rotate_left w8 c 3 ≡ through
    mix m (x ∷ y ∷ z ∷ [])
type-last {c} {m} x y z p q r w =
    let t = through mix 0 (x ∷ y ∷ z ∷ []) in
    let cl : c < 256 = subst (λ (k : ℕ). k < 256) (sym w.is) (xor_lt 8 m (turns 5 t) w.one w.other) in
    three-turns c cl ∙ ap (turns 3) w.is ∙ turns-xor 3 m (turns 5 t) w.one w.other ∙ ap (bit_xor (turns 3 m)) (eight-turns t (three-low x y z p q r))
    ∙ sym (three-run m x y z w.one p q r)

-- the number that four blanks bring in, turned by the type's three bytes as well
abbrev pub blanks_turned : ℕ
blanks_turned = turns 3 (through mix 0 (replicate 4 0x20))

-- The same where four blanks come between: the run of blanks turns the value four times, and brings in its number.
pub short-last : {c m : ℕ} (x y z : ℕ) → x < 256 → y < 256 → z < 256 → Beside c m (turns 1 (through mix 0 (x ∷ y ∷ z ∷ [])))
    → bit_xor (rotate_right w8 c 1) blanks_turned ≡ through mix (through mix m (replicate 4 0x20)) (x ∷ y ∷ z ∷ [])
short-last {c} {m} x y z p q r w =
    let t = through mix 0 (x ∷ y ∷ z ∷ []) in
    let k = through mix 0 (replicate 4 0x20) in
    let cl : c < 256 = subst (λ (j : ℕ). j < 256) (sym w.is) (xor_lt 8 m (turns 1 t) w.one w.other) in
    let kl : k < 256 = omega arith in
    let f : turns 4 m < 256 = turns-lt 4 m w.one in
    let b : through mix m (replicate 4 0x20) ≡ bit_xor (turns 4 m) k = run-of-blanks 4 m w.one in
    let bl : through mix m (replicate 4 0x20) < 256 = subst (λ (j : ℕ). j < 256) (sym b) (xor_lt 8 (turns 4 m) k f kl) in
    ap (λ (j : ℕ). bit_xor j blanks_turned) (seven-turns c cl ∙ ap (turns 7) w.is ∙ turns-xor 7 m (turns 1 t) w.one w.other
    ∙ ap (bit_xor (turns 7 m)) (eight-turns t (three-low x y z p q r)))
    ∙ xor_assoc (turns 7 m) t blanks_turned ∙ ap (bit_xor (turns 7 m)) (xor_comm t blanks_turned) ∙ sym (xor_assoc (turns 7 m) blanks_turned t)
    ∙ ap (λ (j : ℕ). bit_xor j t) (sym (turns-xor 3 (turns 4 m) k f kl) ∙ ap (turns 3) (sym b))
    ∙ sym (three-run (through mix m (replicate 4 0x20)) x y z bl p q r)

pub name-bytes : (n : List ℕ) → length n ≡ 11
    → through mix 0 n
    ≡ through
    mix
    (through mix 0 (get_or n 0 0 ∷ get_or n 1 0 ∷ get_or n 2 0 ∷ get_or n 3 0 ∷ get_or n 4 0 ∷ get_or n 5 0 ∷ get_or n 6 0 ∷ get_or n 7 0 ∷ []))
    (get_or n 8 0 ∷ get_or n 9 0 ∷ get_or n 10 0 ∷ [])
name-bytes n e =
    through-more n 0 0 (omega arith) ∙ through-more n _ 1 (omega arith) ∙ through-more n _ 2 (omega arith) ∙ through-more n _ 3 (omega arith)
    ∙ through-more n _ 4 (omega arith) ∙ through-more n _ 5 (omega arith) ∙ through-more n _ 6 (omega arith) ∙ through-more n _ 7 (omega arith)
    ∙ through-more n _ 8 (omega arith) ∙ through-more n _ 9 (omega arith) ∙ through-more n _ 10 (omega arith)
    ∙ ap (through mix _) (drop_of_length-le n {i = 11} (omega arith))

four_bytes : (m x y z u : ℕ) → x ≡ 0x20 → y ≡ 0x20 → z ≡ 0x20 → u ≡ 0x20 → through mix m (x ∷ y ∷ z ∷ u ∷ []) ≡ through mix m (replicate 4 0x20)
four_bytes m x y z u a b c d =
    ap (λ (k : ℕ). through mix m (k ∷ y ∷ z ∷ u ∷ [])) a ∙ ap (λ (k : ℕ). through mix m (0x20 ∷ k ∷ z ∷ u ∷ [])) b
    ∙ ap (λ (k : ℕ). through mix m (0x20 ∷ 0x20 ∷ k ∷ u ∷ [])) c ∙ ap (λ (k : ℕ). through mix m (0x20 ∷ 0x20 ∷ 0x20 ∷ k ∷ [])) d

pub short-bytes : (n : List ℕ) → length n ≡ 11 → four_blanks n ≡ true
    → through mix (through mix (through mix 0 (get_or n 0 0 ∷ get_or n 1 0 ∷ get_or n 2 0 ∷ get_or n 3 0 ∷ [])) (replicate 4 0x20))
    (get_or n 8 0 ∷ get_or n 9 0 ∷ get_or n 10 0 ∷ [])
    ≡ through mix 0 n
short-bytes n e s =
    let a4 = eqb-true (get_or n 4 0) 0x20 (and_l _ _ s) in
    let s5 = and_r (eqb (get_or n 4 0) 0x20) _ s in
    let a5 = eqb-true (get_or n 5 0) 0x20 (and_l _ _ s5) in
    let s6 = and_r (eqb (get_or n 5 0) 0x20) _ s5 in
    let a6 = eqb-true (get_or n 6 0) 0x20 (and_l _ _ s6) in
    let s7 = and_r (eqb (get_or n 6 0) 0x20) _ s6 in
    let a7 = eqb-true (get_or n 7 0) 0x20 (and_l _ _ s7) in
    let m = through mix 0 (get_or n 0 0 ∷ get_or n 1 0 ∷ get_or n 2 0 ∷ get_or n 3 0 ∷ []) in
    sym (name-bytes n e ∙ ap (λ (k : ℕ). through mix k (get_or n 8 0 ∷ get_or n 9 0 ∷ get_or n 10 0 ∷ []))
    (four_bytes m (get_or n 4 0) (get_or n 5 0) (get_or n 6 0) (get_or n 7 0) a4 a5 a6 a7))
