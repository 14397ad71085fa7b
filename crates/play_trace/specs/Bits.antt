-- Bits, most significant first; and the numbers that they make.
use Rattle.std.specs.Prelude.{◌≡◌, refl, List, [], ◌∷◌, ◌++◌, ℕ, zero, suc, ◌+◌, ◌*◌, ◌/◌, ◌%◌, ◌^◌, ◌≤◌, ◌<◌, length, take, drop}
use Rattle.std.proofs.Common.{sym, ap, ◌∙◌, append_assoc, mul_left_comm, mul-le-mul_right, lt_of_lt_of_le, arith, length-append, length-take, length-drop}
use Rattle.std.proofs.Common.{take-append-drop, length-take-le, take_at, drop-drop}
use Rattle.std.proofs.Math.Nat.{pow-succ', pow-le-pow_right}
use Rattle.std.proofs.Math.Seq.{drop-nil, drop-append-add}

-- a number in w bits, the most significant first
unfoldable pub bits_of : ℕ → ℕ → List ℕ
bits_of zero v = []
bits_of (suc w) v = bits_of w (v / 2) ++ (v % 2 ∷ [])

-- the number that bits make, the most significant first
unfoldable pub number : List ℕ → ℕ
number [] = 0
number (b ∷ bs) = b * 2 ^ length bs + number bs

-- the bits of a list of bytes
unfoldable pub bits : List ℕ → List ℕ
bits [] = []
bits (b ∷ d) = bits_of 8 b ++ bits d

-- the number in the field of w bits that starts at bit p
unfoldable pub field : List ℕ → ℕ → ℕ → ℕ
field bs p w = number (take w (drop p bs))

-- n bytes of bits
unfoldable pub bytes_of : ℕ → List ℕ → List ℕ
bytes_of zero bs = []
bytes_of (suc n) bs = number (take 8 bs) ∷ bytes_of n (drop 8 bs)

-- each is a bit
abbrev pub AreBits : List ℕ → Type 0
AreBits [] = Unit
AreBits (b ∷ bs) = (b < 2) × AreBits bs

-- Laws.

pub length-bits_of : (w v : ℕ) → length (bits_of w v) ≡ w
unfolding bits_of
length-bits_of zero v = refl
length-bits_of (suc w) v = simp (length-append, length-bits_of w (v / 2)) (omega arith)

pub number-snoc : (bs : List ℕ) (b : ℕ) → number (bs ++ (b ∷ [])) ≡ 2 * number bs + b
unfolding number
number-snoc [] b = omega arith
number-snoc (a ∷ bs) b =
    let h = number-snoc bs b in
    let l : length (bs ++ (b ∷ [])) ≡ suc (length bs) = simp length-append (omega arith) in
    simp (l, pow-succ', mul_left_comm a 2 (2 ^ length bs)) (omega arith)

-- what goes into w bits comes out of them
pub there_and_back : (w v : ℕ) → v < 2 ^ w → number (bits_of w v) ≡ v
unfolding bits_of number
there_and_back zero v h = omega arith
there_and_back (suc w) v h = let ih = there_and_back w (v / 2) (omega (arith, rw pow-succ' at h)) in number-snoc (bits_of w (v / 2)) (v % 2) ∙ omega arith

-- one bit more in front
bits_of-cons : (w b x : ℕ) → b < 2 → x < 2 ^ w → bits_of (suc w) (b * 2 ^ w + x) ≡ b ∷ bits_of w x
unfolding bits_of
bits_of-cons zero b x hb hx = let e : (b * 2 ^ 0 + x) % 2 ≡ b = omega arith in ap (λ (n : ℕ). n ∷ []) e
bits_of-cons (suc w) b x hb hx =
    let p : b * 2 ^ suc w ≡ 2 * (b * 2 ^ w) = rw pow-succ' (mul_left_comm b 2 (2 ^ w)) in
    let h : (b * 2 ^ suc w + x) / 2 ≡ b * 2 ^ w + x / 2 = omega arith in
    let l : (b * 2 ^ suc w + x) % 2 ≡ x % 2 = omega arith in
    let ih = bits_of-cons w b (x / 2) hb (omega (arith, rw pow-succ' at hx)) in
    rw (h, l) (ap (λ (bs : List ℕ). bs ++ (x % 2 ∷ [])) ih)

pub number_small : (bs : List ℕ) → AreBits bs → number bs < 2 ^ length bs
unfolding number
number_small [] h = omega arith
number_small (b ∷ bs) h =
    let ih = number_small bs h.1 in
    let s : b * 2 ^ length bs ≤ 1 * 2 ^ length bs = mul-le-mul_right (2 ^ length bs) (omega arith) in
    rw pow-succ' (omega arith)

-- and the other way round
pub back-and-there : (bs : List ℕ) → AreBits bs → bits_of (length bs) (number bs) ≡ bs
unfolding bits_of number
back-and-there [] h = refl
back-and-there (b ∷ bs) h = bits_of-cons (length bs) b (number bs) h.0 (number_small bs h.1) ∙ ap (λ (x : List ℕ). b ∷ x) (back-and-there bs h.1)

-- Lists of bits.

pub bits-join : (a b : List ℕ) → AreBits a → AreBits b → AreBits (a ++ b)
bits-join [] b p q = q
bits-join (x ∷ a) b p q = (p.0, bits-join a b p.1 q)

pub bits-take : (n : ℕ) (a : List ℕ) → AreBits a → AreBits (take n a)
bits-take zero a p = tt
bits-take (suc n) [] p = tt
bits-take (suc n) (x ∷ a) p = (p.0, bits-take n a p.1)

pub bits-drop : (n : ℕ) (a : List ℕ) → AreBits a → AreBits (drop n a)
bits-drop zero a p = p
bits-drop (suc n) [] p = tt
bits-drop (suc n) (x ∷ a) p = bits-drop n a p.1

pub bits-bits_of : (w v : ℕ) → AreBits (bits_of w v)
unfolding bits_of
bits-bits_of zero v = tt
bits-bits_of (suc w) v = bits-join (bits_of w (v / 2)) (v % 2 ∷ []) (bits-bits_of w (v / 2)) (omega arith, tt)

pub bits-bits : (d : List ℕ) → AreBits (bits d)
unfolding bits
bits-bits [] = tt
bits-bits (b ∷ d) = bits-join (bits_of 8 b) (bits d) (bits-bits_of 8 b) (bits-bits d)

-- Bytes and bits.

pub length-bits : (d : List ℕ) → length (bits d) ≡ 8 * length d
unfolding bits
length-bits [] = refl
length-bits (b ∷ d) = simp (length-append, length-bits_of, length-bits d) (omega arith)

pub bits-append : (a b : List ℕ) → bits (a ++ b) ≡ bits a ++ bits b
unfolding bits
bits-append [] b = refl
bits-append (x ∷ a) b = simp (bits-append a b, append_assoc)

pub drop_bits : (k : ℕ) (d : List ℕ) → drop (8 * k) (bits d) ≡ bits (drop k d)
unfolding bits
drop_bits zero d = refl
drop_bits (suc k) [] = drop-nil (8 * suc k)
drop_bits (suc k) (b ∷ d) =
    let e : 8 * suc k ≡ length (bits_of 8 b) + 8 * k = rw length-bits_of (omega arith) in
    rw e (drop-append-add (bits_of 8 b) (bits d) (8 * k) ∙ drop_bits k d)

pub bits-bytes_of : (n : ℕ) (bs : List ℕ) → length bs ≡ 8 * n → AreBits bs → bits (bytes_of n bs) ≡ bs
unfolding bits bytes_of
bits-bytes_of zero [] l h = refl
bits-bytes_of zero (b ∷ bs) l h = absurd (let q : ⊥ = omega arith in q)
bits-bytes_of (suc n) bs l h =
    let t : length (take 8 bs) ≡ 8 = length-take-le 8 bs (omega arith) in
    let e : bits_of 8 (number (take 8 bs)) ≡ take 8 bs = ap (λ (n : ℕ). bits_of n (number (take 8 bs))) (sym t) ∙ back-and-there (take 8 bs) (bits-take 8 bs h)
    in
    let r : bits (bytes_of n (drop 8 bs)) ≡ drop 8 bs = bits-bytes_of n (drop 8 bs) (simp length-drop (omega arith)) (bits-drop 8 bs h) in
    rw (e, r) (take-append-drop 8 bs)

-- Fields.

pub field-front : (a r : List ℕ) (w : ℕ) → length a ≡ w → field (a ++ r) 0 w ≡ number a
unfolding field
field-front a r w l = rw (take_at a r w l)

pub field_past : (a r : List ℕ) (n p w : ℕ) → length a ≡ n → field (a ++ r) (n + p) w ≡ field r p w
unfolding field
field_past a r n p w l = rw (← l, drop-append-add a r p)

pub field-drop : (bs : List ℕ) (p o w : ℕ) → field (drop p bs) o w ≡ field bs (p + o) w
unfolding field
field-drop bs p o w = rw (drop-drop o p bs)

pub field-small : (bs : List ℕ) (p w : ℕ) → AreBits bs → field bs p w < 2 ^ w
unfolding field
field-small bs p w h =
    let s = number_small (take w (drop p bs)) (bits-take w (drop p bs) (bits-drop p bs h)) in
    let l : length (take w (drop p bs)) ≤ w = simp length-take (omega arith) in
    lt_of_lt_of_le s (pow-le-pow_right (omega arith) l)

pub field-bits : (bs : List ℕ) (p w : ℕ) → AreBits bs → p + w ≤ length bs → bits_of w (field bs p w) ≡ take w (drop p bs)
unfolding field
field-bits bs p w h l =
    let t : length (take w (drop p bs)) ≡ w = length-take-le w (drop p bs) (simp length-drop (omega arith)) in
    ap (λ (n : ℕ). bits_of n (number (take w (drop p bs)))) (sym t) ∙ back-and-there (take w (drop p bs)) (bits-take w (drop p bs) (bits-drop p bs h))
