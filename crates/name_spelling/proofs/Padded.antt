-- Eight bytes of a name looked at together, as one number.
use mathlib.Core.Path.{◌≡◌, refl, sym, ap, ◌∙◌, subst}
use mathlib.Core.List.{List, [], ◌∷◌, map}
use mathlib.Core.Bool.{Bool, true, false, not, cond, ◌&&◌, ◌||◌, and_assoc, and-true, true≢false}
use Prim.Native.Nat.{ℕ, zero, suc, ◌+◌, ◌-◌, ◌*◌, ◌/◌, ◌%◌, ◌^◌, ◌≤◌, ◌<◌}
use native.Mathlib.Omega.{arith}
use native.Mathlib.Decide.{ℕ_discrete}
use lib.Bits.{bit_and, bit_or, and_block, or_block, and_le_r, or_zero_r, or_lt}
use lib.ListN.{length, get_or, take, drop, replicate}
use lib.Seq.{drop-cons, length-take-le}
use lib.Dec.{eqb, leb}
use borrow.Author.Tests.{eq-eqb, ne_eqb, eqb-true, leb-true, not-true}
use Rattle.meaning.specs.Lists.{every}
use Rattle.meaning.specs.Names.{letter, padded, well_formed}
use Rattle.layout.specs.Number.{number}
use Rattle.lists.specs.Tests.{and_l, and_r}
use Rattle.lists.specs.Below.{all_below, all-below}
use Rattle.name_spelling.specs.Plain.{plain}
use Rattle.name_spelling.proofs.Name.{part-more}

-- bit 7 after adding 5FH: set for what is above 20H
abbrev top : ℕ → ℕ
top x = bit_and (x + 0x5f) 0x80

top_lt : (x : ℕ) → top x < 256
top_lt x = let z = and_le_r (x + 0x5f) 0x80 in omega arith

facts : ℕ → Bool
facts x = not (letter x) || (eqb (top x) 0x80 && (not (eqb 0x20 x) && leb x 0x5d))

facts-all : all_below 256 facts ≡ true
unfolding facts
facts-all = refl

-- what a byte of a name is
data Byte (x : ℕ) : Type 0 where
  allowed : letter x ≡ true → top x ≡ 0x80 → eqb 0x20 x ≡ false → x ≤ 0x5d → Byte x
  blank : x ≡ 0x20 → Byte x

byte-is : (x : ℕ) → x < 256 → plain x ≡ true → Byte x
unfolding facts
byte-is x h e = go (eqb x 0x20) refl (letter x) refl (all-below 256 facts facts-all x h)
  where
    both : (a b c : Bool) → (a && (not b && c)) ≡ true → (a ≡ true) × (b ≡ false) × (c ≡ true)
    both true false true q = (refl, refl, refl)
    both true false false q = absurd (true≢false (sym q))
    both true true c q = absurd (true≢false (sym q))
    both false b c q = absurd (true≢false (sym q))

    go : (a : Bool) → eqb x 0x20 ≡ a → (b : Bool) → letter x ≡ b → (not (letter x) || (eqb (top x) 0x80 && (not (eqb 0x20 x) && leb x 0x5d))) ≡ true → Byte x
    go true q b r w = Byte.blank (eqb-true x 0x20 q)
    go false q true r w =
        let z = both (eqb (top x) 0x80) (eqb 0x20 x) (leb x 0x5d) (rw r at w) in
        Byte.allowed r (eqb-true (top x) 0x80 z.0) z.1 (leb-true x 0x5d z.2)
    go false q false r w = absurd (true≢false (sym e ∙ rw (q, r) refl))

-- the same byte over and over
abbrev fill : ℕ → ℕ → ℕ
fill n c = number (replicate n c)

-- all bytes at once
tops : (xs : List ℕ) → ((i : ℕ) → get_or xs i 0 < 256) → every plain xs ≡ true → bit_and (number xs + fill (length xs) 0x5f) (fill (length xs) 0x80) ≡ number
    (map top xs)
unfolding number
tops [] b e = refl
tops (x ∷ xs) b e =
    let ih = tops xs (λ i. b (suc i)) (and_r (plain x) (every plain xs) e) in
    let n = number xs in let f = fill (length xs) 0x5f in let k = fill (length xs) 0x80 in
    let q : x + 256 * n + (0x5f + 256 * f) ≡ (n + f) * 2 ^ 8 + (x + 0x5f) = omega arith in
    let r : 0x80 + 256 * k ≡ k * 2 ^ 8 + 0x80 = omega arith in
    let z : bit_and (n + f) k * 2 ^ 8 + top x ≡ top x + 256 * bit_and (n + f) k = omega arith in
    rw (q, r) (and_block 8 (n + f) k (x + 0x5f) 0x80 (low (byte-is x (b 0) (and_l (plain x) (every plain xs) e))) (omega arith) ∙ z ∙ ap
    (λ (y : ℕ). top x + 256 * y) ih)
  where
    low : Byte x → x + 0x5f < 2 ^ 8
    low (Byte.allowed p q r l) = omega arith
    low (Byte.blank e) = omega arith

-- two digits
digits : (a b r s : ℕ) → r < 256 → s < 256 → eqb (a * 2 ^ 8 + r) (s + 256 * b) ≡ (eqb r s && eqb a b)
digits a b r s h k = by (ℕ_discrete r s) (ℕ_discrete a b)
  where
    by : Dec (r ≡ s) → Dec (a ≡ b) → eqb (a * 2 ^ 8 + r) (s + 256 * b) ≡ (eqb r s && eqb a b)
    by (yes p) (yes q) = rw (eq-eqb r s p, eq-eqb a b q) (eq-eqb (a * 2 ^ 8 + r) (s + 256 * b) (omega arith))
    by (yes p) (no q) = rw (eq-eqb r s p, ne_eqb a b q) (ne_eqb (a * 2 ^ 8 + r) (s + 256 * b) (λ z. q (omega arith)))
    by (no p) q = rw (ne_eqb r s p) (ne_eqb (a * 2 ^ 8 + r) (s + 256 * b) (λ z. p (omega arith)))

-- the byte that comes next: allowed, or 20H or none
data Next (xs : List ℕ) : Type 0 where
  more : number (map top xs) % 256 ≡ 0x80 → every (eqb 0x20) xs ≡ false → Next xs
  last : number (map top xs) % 256 ≡ 0 → padded xs ≡ every (eqb 0x20) xs → Next xs

next : (xs : List ℕ) → ((i : ℕ) → get_or xs i 0 < 256) → every plain xs ≡ true → Next xs
unfolding number
next [] b e = Next.last refl refl
next (y ∷ ys) b e = by (byte-is y (b 0) (and_l (plain y) (every plain ys) e))
  where
    low : (top y + 256 * number (map top ys)) % 256 ≡ top y
    low = let h = top_lt y in omega arith

    by : Byte y → Next (y ∷ ys)
    by (Byte.allowed p q r l) = Next.more (low ∙ q) (ap (λ (t : Bool). t && every (eqb 0x20) ys) r)
    by (Byte.blank q) =
        Next.last (low ∙ ap top q) (ap (λ (t : Bool). cond t (padded ys) (every (eqb 0x20) (y ∷ ys))) (ap letter q))

-- no allowed byte after a 20H
in_order : (xs : List ℕ) → ((i : ℕ) → get_or xs i 0 < 256) → every plain xs ≡ true → eqb (bit_or (number (map top xs) / 256) (number (map top xs)))
    (number (map top xs)) ≡ padded xs
unfolding number
in_order [] b e = refl
in_order (x ∷ xs) b e =
    let t = number (map top xs) in let h = top_lt x in
    let q : (top x + 256 * t) / 256 ≡ t / 256 * 2 ^ 8 + t % 256 = omega arith in
    let r : top x + 256 * t ≡ t * 2 ^ 8 + top x = omega arith in
    ap (λ (y : ℕ). eqb (bit_or ((top x + 256 * t) / 256) y) (top x + 256 * t)) r ∙ ap (λ (y : ℕ). eqb (bit_or y (t * 2 ^ 8 + top x)) (top x + 256 * t)) q
    ∙ ap (λ (y : ℕ). eqb y (top x + 256 * t)) (or_block 8 (t / 256) t (t % 256) (top x) (omega arith) (omega arith))
    ∙ digits (bit_or (t / 256) t) t (bit_or (t % 256) (top x)) (top x) (or_lt 8 (t % 256) (top x) (omega arith) (omega arith)) (omega arith)
    ∙ ap (λ (c : Bool). eqb (bit_or (t % 256) (top x)) (top x) && c) (in_order xs (λ i. b (suc i)) (and_r (plain x) (every plain xs) e))
    ∙ by (byte-is x (b 0) (and_l (plain x) (every plain xs) e)) (next xs (λ i. b (suc i)) (and_r (plain x) (every plain xs) e))
  where
    by : Byte x → Next xs → (eqb (bit_or (number (map top xs) % 256) (top x)) (top x) && padded xs) ≡ padded (x ∷ xs)
    by (Byte.allowed p q r l) (Next.more u v) = rw (u, q, p) refl
    by (Byte.allowed p q r l) (Next.last u v) = rw (u, q, p) refl
    by (Byte.blank p) (Next.more u v) = rw (p, u, v) refl
    by (Byte.blank p) (Next.last u v) = rw (p, u, v) refl

take-low : (k : ℕ) (l : List ℕ) → ((i : ℕ) → get_or l i 0 < 256) → (i : ℕ) → get_or (take k l) i 0 < 256
take-low zero l b i = omega arith
take-low (suc k) [] b i = omega arith
take-low (suc k) (x ∷ xs) b zero = b 0
take-low (suc k) (x ∷ xs) b (suc i) = take-low k xs (λ i. b (suc i)) i

-- the same, and the first is allowed
begins : (x : ℕ) (xs : List ℕ) → ((i : ℕ) → get_or (x ∷ xs) i 0 < 256) → every plain (x ∷ xs) ≡ true
    → eqb (bit_or (bit_or (number (map top (x ∷ xs)) / 256) 0x80) (number (map top (x ∷ xs)))) (number (map top (x ∷ xs))) ≡ (letter x && padded (x ∷ xs))
unfolding number
begins x xs b e =
    let t = number (map top xs) in let h = top_lt x in
    let q : (top x + 256 * t) / 256 ≡ t / 256 * 2 ^ 8 + t % 256 = omega arith in
    let r : top x + 256 * t ≡ t * 2 ^ 8 + top x = omega arith in
    let w : 0x80 ≡ 0 * 2 ^ 8 + 0x80 = refl in
    let low : bit_or (t % 256) 0x80 < 2 ^ 8 = or_lt 8 (t % 256) 0x80 (omega arith) (omega arith) in
    ap (λ (y : ℕ). eqb (bit_or (bit_or ((top x + 256 * t) / 256) 0x80) y) (top x + 256 * t)) r
    ∙ ap (λ (y : ℕ). eqb (bit_or (bit_or y 0x80) (t * 2 ^ 8 + top x)) (top x + 256 * t)) q
    ∙ ap (λ (y : ℕ). eqb (bit_or (bit_or (t / 256 * 2 ^ 8 + t % 256) y) (t * 2 ^ 8 + top x)) (top x + 256 * t)) w
    ∙ ap (λ (y : ℕ). eqb (bit_or y (t * 2 ^ 8 + top x)) (top x + 256 * t)) (or_block 8 (t / 256) 0 (t % 256) 0x80 (omega arith) (omega arith))
    ∙ ap (λ (y : ℕ). eqb (bit_or (y * 2 ^ 8 + bit_or (t % 256) 0x80) (t * 2 ^ 8 + top x)) (top x + 256 * t)) (or_zero_r (t / 256))
    ∙ ap (λ (y : ℕ). eqb y (top x + 256 * t)) (or_block 8 (t / 256) t (bit_or (t % 256) 0x80) (top x) low (omega arith))
    ∙ digits (bit_or (t / 256) t) t (bit_or (bit_or (t % 256) 0x80) (top x)) (top x) (or_lt 8 (bit_or (t % 256) 0x80) (top x) low (omega arith)) (omega arith)
    ∙ ap (λ (c : Bool). eqb (bit_or (bit_or (t % 256) 0x80) (top x)) (top x) && c) (in_order xs (λ i. b (suc i)) (and_r (plain x) (every plain xs) e))
    ∙ by (byte-is x (b 0) (and_l (plain x) (every plain xs) e)) (next xs (λ i. b (suc i)) (and_r (plain x) (every plain xs) e))
  where
    by : Byte x → Next xs → (eqb (bit_or (bit_or (number (map top xs) % 256) 0x80) (top x)) (top x) && padded xs) ≡ (letter x && padded (x ∷ xs))
    by (Byte.allowed p q r l) (Next.more u v) = rw (u, q, p) refl
    by (Byte.allowed p q r l) (Next.last u v) = rw (u, q, p) refl
    by (Byte.blank p) (Next.more u v) = rw (p, u) refl
    by (Byte.blank p) (Next.last u v) = rw (p, u) refl

-- the first eight bytes of a name
pub eight-begins : (n : List ℕ) → length n ≡ 11 → ((i : ℕ) → get_or n i 0 < 256) → every plain (take 8 n) ≡ true
    → eqb (bit_or (bit_or (bit_and (number (take 8 n) + 0x5f5f5f5f5f5f5f5f) 0x8080808080808080 / 256) 0x80)
    (bit_and (number (take 8 n) + 0x5f5f5f5f5f5f5f5f) 0x8080808080808080))
    (bit_and (number (take 8 n) + 0x5f5f5f5f5f5f5f5f) 0x8080808080808080) ≡ (letter (get_or n 0 0) && padded (take 8 n))
eight-begins n h b e =
    let l : length (take 8 n) ≡ 8 = length-take-le 8 n (omega arith) in
    let f : fill 8 0x5f ≡ 0x5f5f5f5f5f5f5f5f = unfold number in refl in
    let g : fill 8 0x80 ≡ 0x8080808080808080 = unfold number in refl in
    let t : bit_and (number (take 8 n) + 0x5f5f5f5f5f5f5f5f) 0x8080808080808080 ≡ number (map top (take 8 n))
    = ap (λ (y : ℕ). bit_and (number (take 8 n) + y) 0x8080808080808080) (sym f) ∙ ap (λ (y : ℕ). bit_and (number (take 8 n) + fill 8 0x5f) y) (sym g)
    ∙ ap (λ (k : ℕ). bit_and (number (take 8 n) + fill k 0x5f) (fill k 0x80)) (sym l) ∙ tops (take 8 n) (take-low 8 n b) e in
    ap (λ (y : ℕ). eqb (bit_or (bit_or (y / 256) 0x80) y) y) t ∙ eight n h (take-low 8 n b) e
  where
    eight : (n : List ℕ) → length n ≡ 11 → ((i : ℕ) → get_or (take 8 n) i 0 < 256) → every plain (take 8 n) ≡ true
        → eqb (bit_or (bit_or (number (map top (take 8 n)) / 256) 0x80) (number (map top (take 8 n)))) (number (map top (take 8 n))) ≡
        (letter (get_or n 0 0) && padded (take 8 n))
    eight [] h b e = absurd (let z : ⊥ = omega arith in z)
    eight (x ∷ xs) h b e = begins x (take 7 xs) b e

-- and the sum is a number of 64 bits
below : (xs : List ℕ) → ((i : ℕ) → get_or xs i 0 < 256) → every plain xs ≡ true → number xs ≤ fill (length xs) 0x5d
unfolding number
below [] b e = omega arith
below (x ∷ xs) b e = by (byte-is x (b 0) (and_l (plain x) (every plain xs) e)) (below xs (λ i. b (suc i)) (and_r (plain x) (every plain xs) e))
  where
    by : Byte x → number xs ≤ fill (length xs) 0x5d → x + 256 * number xs ≤ 0x5d + 256 * fill (length xs) 0x5d
    by (Byte.allowed p q r l) z = omega arith
    by (Byte.blank e) z = omega arith

pub eight-room : (n : List ℕ) → length n ≡ 11 → ((i : ℕ) → get_or n i 0 < 256) → every plain (take 8 n) ≡ true → number (take 8 n) + 0x5f5f5f5f5f5f5f5f < 2 ^ 64
eight-room n h b e =
    let l : length (take 8 n) ≡ 8 = length-take-le 8 n (omega arith) in
    let f : fill 8 0x5d ≡ 0x5d5d5d5d5d5d5d5d = unfold number in refl in
    let z = below (take 8 n) (take-low 8 n b) e in
    let y : number (take 8 n) ≤ 0x5d5d5d5d5d5d5d5d = subst (λ (k : ℕ). number (take 8 n) ≤ k) (ap (λ (k : ℕ). fill k 0x5d) l ∙ f) z in
    omega arith

-- each of the eight
pub eight-each : (p : ℕ → Bool) (n : List ℕ) → length n ≡ 11 → every p (take 8 n)
    ≡ (((((((p (get_or n 0 0) && p (get_or n 1 0)) && p (get_or n 2 0)) && p (get_or n 3 0)) && p (get_or n 4 0)) && p (get_or n 5 0)) && p (get_or n 6 0)) && p
    (get_or n 7 0))
eight-each p n h =
    step 7 0 (omega arith) ∙ ap (λ (t : Bool). p (get_or n 0 0) && t) (step 6 1 (omega arith) ∙ ap (λ (t : Bool). p (get_or n 1 0) && t) (step 5 2 (omega arith)
    ∙ ap (λ (t : Bool). p (get_or n 2 0) && t) (step 4 3 (omega arith) ∙ ap (λ (t : Bool). p (get_or n 3 0) && t) (step 3 4 (omega arith)
    ∙ ap (λ (t : Bool). p (get_or n 4 0) && t) (step 2 5 (omega arith) ∙ ap (λ (t : Bool). p (get_or n 5 0) && t) (step 1 6 (omega arith)
    ∙ ap (λ (t : Bool). p (get_or n 6 0) && t) (step 0 7 (omega arith))))))))
    ∙ simp (and_assoc, and-true)
  where
    step : (k i : ℕ) → i < length n → every p (take (suc k) (drop i n)) ≡ (p (get_or n i 0) && every p (take k (drop (suc i) n)))
    step k i l = ap (λ (r : List ℕ). every p (take (suc k) r)) (drop-cons n i 0 l)

-- a part that is padded is made of allowed bytes and 20H
plain_of : (xs : List ℕ) → padded xs ≡ true → every plain xs ≡ true
plain_of [] e = refl
plain_of (x ∷ xs) e = by (λ w. plain_of xs w) (letter x) refl e
  where
    blanks : (xs : List ℕ) → every (eqb 0x20) xs ≡ true → every plain xs ≡ true
    blanks [] e = refl
    blanks (x ∷ xs) e =
        let q : x ≡ 0x20 = sym (eqb-true 0x20 x (and_l (eqb 0x20 x) (every (eqb 0x20) xs) e)) in
        ap (λ (y : ℕ). plain y && every plain xs) q ∙ blanks xs (and_r (eqb 0x20 x) (every (eqb 0x20) xs) e)

    or-true : (a : Bool) → (a || true) ≡ true
    or-true true = refl
    or-true false = refl

    by : (padded xs ≡ true → every plain xs ≡ true) → (t : Bool) → letter x ≡ t → cond t (padded xs) (every (eqb 0x20) (x ∷ xs)) ≡ true → every plain (x ∷ xs)
        ≡ true
    by ih true q w = ap (λ (t : Bool). (eqb x 0x20 || t) && every plain xs) q ∙ ap (λ (t : Bool). t && every plain xs) (or-true (eqb x 0x20)) ∙ ih w
    by ih false q w = blanks (x ∷ xs) w

pub eight-not : (n : List ℕ) {r : Bool} → r ≡ every plain (take 8 n) → not r ≡ true → padded (take 8 n) ≡ true → ⊥
eight-not n {r} e t p = true≢false (sym (plain_of (take 8 n) p) ∙ sym e ∙ not-true r t)

pub last-plain : (n : List ℕ) → length n ≡ 11 → padded (take (11 - 10) (drop 10 n)) ≡ plain (get_or n 10 0)
last-plain n h = ap padded (part-more n 11 10 (omega arith) (omega arith)) ∙ one (get_or n 10 0)
  where
    one : (x : ℕ) → padded (x ∷ []) ≡ plain x
    one x = by (letter x) (ℕ_discrete x 0x20)
      where
        by : (t : Bool) → Dec (x ≡ 0x20) → cond t true (eqb 0x20 x && true) ≡ (eqb x 0x20 || t)
        by true (yes q) = rw (eq-eqb x 0x20 q) refl
        by true (no q) = rw (ne_eqb x 0x20 q) refl
        by false (yes q) = rw (eq-eqb x 0x20 q, eq-eqb 0x20 x (sym q)) refl
        by false (no q) = rw (ne_eqb x 0x20 q, ne_eqb 0x20 x (λ z. q (sym z))) refl

-- one test of a name that does not hold
pub not-well : (n : List ℕ) → (well_formed n ≡ true → ⊥) → false ≡ well_formed n
not-well n f = by (well_formed n) refl
  where
    by : (t : Bool) → well_formed n ≡ t → false ≡ well_formed n
    by true e = absurd (f e)
    by false e = sym e
