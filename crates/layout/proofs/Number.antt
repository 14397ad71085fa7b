-- Bytes as one number: two parts make a whole, and equal numbers are equal bytes.
use mathlib.Core.Path.{◌≡◌, refl, sym, ap, ◌∙◌}
use mathlib.Core.List.{List, [], ◌∷◌}
use mathlib.Core.Bool.{Bool, ◌&&◌, and_assoc}
use Prim.Native.Nat.{ℕ, zero, suc, ◌+◌, ◌*◌, ◌^◌, ◌≤◌, ◌<◌}
use native.Mathlib.Omega.{arith}
use native.Mathlib.Decide.{ℕ_discrete}
use native.Mathlib.Numerals.{add-one}
use native.Mathlib.Nat.{one-mul, mul-zero, add-zero, zero-add, suc-add, mul_assoc, pow-succ'}
use lib.ListN.{length, get_or, take, drop, length-drop}
use lib.Seq.{drop-cons, drop-drop, take_all, get_or-drop}
use lib.Dec.{eqb}
use borrow.Author.Tests.{eq-eqb, ne_eqb}
use Rattle.meaning.specs.Lists.{same}
use Rattle.layout.specs.Number.{number}

pub number-two : (d : List ℕ) (at : ℕ) → at + 2 ≤ length d → number (take 2 (drop at d)) ≡ get_or d at 0 + 256 * get_or d (at + 1) 0
unfolding number
number-two d at h = simp (drop-cons d at 0 (omega arith), drop-cons d (suc at) 0 (omega arith), add-one, add-zero)

-- a part of m bytes, then a part of n
number-split : (m n : ℕ) (l : List ℕ) → number (take (m + n) l) ≡ number (take m l) + 256 ^ m * number (take n (drop m l))
unfolding number
number-split zero n l = rw (zero-add n, one-mul (number (take n l))) (sym (zero-add _))
number-split (suc m) n [] = rw (suc-add m n, none n, mul-zero (256 ^ suc m)) refl
  where
    none : (n : ℕ) → number (take n []) ≡ 0
    none zero = refl
    none (suc n) = refl
number-split (suc m) n (x ∷ xs) =
    let p = number (take n (drop m xs)) in
    let e : 256 ^ suc m * p ≡ 256 * (256 ^ m * p) = ap (λ (y : ℕ). y * p) (pow-succ' 256 m) ∙ mul_assoc 256 (256 ^ m) p in
    rw (suc-add m n, number-split m n xs, e) (omega arith)

pub number-four : (d : List ℕ) (at : ℕ) → number (take 4 (drop at d)) ≡ number (take 2 (drop at d)) + 65536 * number (take 2 (drop (at + 2) d))
number-four d at = number-split 2 2 (drop at d) ∙ ap (λ (l : List ℕ). number (take 2 (drop at d)) + 65536 * number (take 2 l)) (drop-drop 2 at d)

pub number-eight : (d : List ℕ) (at : ℕ) → number (take 8 (drop at d)) ≡ number (take 4 (drop at d)) + 4294967296 * number (take 4 (drop (at + 4) d))
number-eight d at = number-split 4 4 (drop at d) ∙ ap (λ (l : List ℕ). number (take 4 (drop at d)) + 4294967296 * number (take 4 l)) (drop-drop 4 at d)

pub number-three : (d : List ℕ) (at : ℕ) → at + 3 ≤ length d → number (take 3 (drop at d)) ≡ number (take 2 (drop at d)) + 65536 * get_or d (at + 2) 0
number-three d at h =
    number-split 2 1 (drop at d) ∙ ap (λ (l : List ℕ). number (take 2 (drop at d)) + 65536 * number (take 1 l)) (drop-drop 2 at d)
    ∙ ap (λ (y : ℕ). number (take 2 (drop at d)) + 65536 * y) one
  where
    one : number (take 1 (drop (at + 2) d)) ≡ get_or d (at + 2) 0
    one = unfold number in simp (drop-cons d (at + 2) 0 (omega arith), add-zero)

same-split : (m n : ℕ) (s t : List ℕ) → m ≤ length s → m ≤ length t
    → same (take (m + n) s) (take (m + n) t) ≡ (same (take m s) (take m t) && same (take n (drop m s)) (take n (drop m t)))
same-split zero n s t h k = rw (zero-add n) refl
same-split (suc m) n [] t h k = absurd (let z : ⊥ = omega arith in z)
same-split (suc m) n (x ∷ xs) [] h k = absurd (let z : ⊥ = omega arith in z)
same-split (suc m) n (x ∷ xs) (y ∷ ys) h k =
    rw (suc-add m n) (ap (λ (b : Bool). eqb x y && b) (same-split m n xs ys (omega arith) (omega arith)) ∙ sym
    (and_assoc (eqb x y) (same (take m xs) (take m ys)) (same (take n (drop m xs)) (take n (drop m ys)))))

-- equal numbers are equal bytes
same_number : (n : ℕ) (s t : List ℕ) → n ≤ length s → n ≤ length t → ((i : ℕ) → get_or s i 0 < 256) → ((i : ℕ) → get_or t i 0 < 256)
    → same (take n s) (take n t) ≡ eqb (number (take n s)) (number (take n t))
unfolding number
same_number zero s t h k a b = refl
same_number (suc n) [] t h k a b = absurd (let z : ⊥ = omega arith in z)
same_number (suc n) (x ∷ xs) [] h k a b = absurd (let z : ⊥ = omega arith in z)
same_number (suc n) (x ∷ xs) (y ∷ ys) h k a b = by (ℕ_discrete x y) (ℕ_discrete (number (take n xs)) (number (take n ys)))
    (same_number n xs ys (omega arith) (omega arith) (λ i. a (suc i)) (λ i. b (suc i)))
  where
    by : Dec (x ≡ y) → Dec (number (take n xs) ≡ number (take n ys)) → same (take n xs) (take n ys) ≡ eqb (number (take n xs)) (number (take n ys))
        → (eqb x y && same (take n xs) (take n ys)) ≡ eqb (x + 256 * number (take n xs)) (y + 256 * number (take n ys))
    by (yes p) (yes q) e = simp (e, eq-eqb x y p, eq-eqb _ _ q, eq-eqb (x + 256 * number (take n xs)) (y + 256 * number (take n ys)) (omega arith))
    by (yes p) (no q) e = simp (e, eq-eqb x y p, ne_eqb _ _ q, ne_eqb (x + 256 * number (take n xs)) (y + 256 * number (take n ys)) (λ z. q (omega arith)))
    by (no p) q e = simp (
      ne_eqb x y p,
      ne_eqb (x + 256 * number (take n xs)) (y + 256 * number (take n ys))
          (λ z. let u = a 0 in let v = b 0 in p (omega arith)),
    )

-- a name of eleven bytes: eight, then three
pub name-numbers : (d n : List ℕ) (at : ℕ) → at + 11 ≤ length d → length n ≡ 11 → ((i : ℕ) → get_or d i 0 < 256) → ((i : ℕ) → get_or n i 0 < 256)
    → same (take 11 (drop at d)) n
    ≡ (eqb (number (take 8 (drop at d))) (number (take 8 (drop 0 n))) && eqb (number (take 3 (drop (at + 8) d))) (number (take 3 (drop 8 n))))
name-numbers d n at h k a b =
    let l = length-drop at d in let q = length-drop (at + 8) d in let r = length-drop 8 n in
    ap (same (take 11 (drop at d))) (sym (take_all 11 n (omega arith))) ∙ same-split 8 3 (drop at d) n (omega arith) (omega arith)
    ∙ ap (λ (l : List ℕ). same (take 8 (drop at d)) (take 8 n) && same (take 3 l) (take 3 (drop 8 n))) (drop-drop 8 at d)
    ∙ simp (
      same_number 8 (drop at d) n (omega arith) (omega arith) (from d a at) b,
      same_number 3 (drop (at + 8) d) (drop 8 n) (omega arith) (omega arith)
          (from d a (at + 8)) (from n b 8),
    )
  where
    from : (s : List ℕ) → ((i : ℕ) → get_or s i 0 < 256) → (j i : ℕ) → get_or (drop j s) i 0 < 256
    from s f j i = rw (get_or-drop j s i 0) (f (j + i))
