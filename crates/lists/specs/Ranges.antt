-- The numbers from i up to n, one by one as a loop counts them, and tests over such a range.
use Rattle.std.specs.Prelude.{◌≡◌, refl, List, [], ◌∷◌, ◌++◌, Bool, true, ◌&&◌, ◌||◌, ℕ, zero, suc, ◌+◌, ◌-◌, ◌≤◌, ◌<◌, ltb}
use Rattle.std.proofs.Common.{sym, ap, ◌∙◌, arith, add-one, zero-add, lt-ltb}
use Rattle.std.proofs.Math.Bool.{and_assoc, and-true}
use Rattle.meaning.specs.Lists.{count, every, each, all}
use Rattle.lists.specs.Tests.{count-append}
use Rattle.lists.specs.Members

-- what is left of n from i on: one more, or nothing
pub left-more : {n i : ℕ} → i < n → n - i ≡ suc (n - (i + 1))
left-more h = omega arith

pub left-none : {n i : ℕ} → n ≤ i → n - i ≡ 0
left-none h = omega arith

pub count-more : {i n : ℕ} → i < n → count i (n - i) ≡ i ∷ count (i + 1) (n - (i + 1))
count-more {i} {n} h = ap (count i) (left-more h)

pub count_none : {i n : ℕ} → n ≤ i → count i (n - i) ≡ []
count_none {i} {n} h = ap (count i) (left-none h)

pub all-four : {a a' b b' c c' e e' : Bool} → a ≡ a' → b ≡ b' → c ≡ c' → e ≡ e' → all (a ∷ b ∷ c ∷ e ∷ []) ≡ all (a' ∷ b' ∷ c' ∷ e' ∷ [])
all-four p q r s = rw (p, q, r, s)

pub every-none : (p : ℕ → Bool) {i n : ℕ} → n ≤ i → every p (count i (n - i)) ≡ true
every-none p h = ap (every p) (count_none h)

-- the four places from k on, each looked at
pub every-four : (p : ℕ → Bool) (k : ℕ) → every p (count k (4 - k)) ≡ ((ltb 0 k || p 0) && ((ltb 1 k || p 1) && ((ltb 2 k || p 2) && (ltb 3 k || p 3))))
every-four p zero = simp and-true
every-four p (suc zero) = simp and-true
every-four p (suc (suc zero)) = simp and-true
every-four p (suc (suc (suc zero))) = simp and-true
every-four p (suc (suc (suc (suc k)))) =
    let n : ℕ = suc (suc (suc (suc k))) in
    every-none p {i = n} {n = 4} (omega arith) ∙ simp (lt-ltb 0 n (omega arith), lt-ltb 1 n (omega arith), lt-ltb 2 n (omega arith), lt-ltb 3 n (omega arith))

pub four-looked : (p : ℕ → Bool) (k : ℕ) {a b c e : Bool} → a ≡ (ltb 0 k || p 0) → b ≡ (ltb 1 k || p 1) → c ≡ (ltb 2 k || p 2) → e ≡ (ltb 3 k || p 3)
    → every p (count k (4 - k)) ≡ (a && (b && (c && e)))
four-looked p k q r s t = every-four p k ∙ rw (q, r, s, t) refl

pub every_append : (p : ℕ → Bool) (xs ys : List ℕ) → every p (xs ++ ys) ≡ (every p xs && every p ys)
every_append p [] ys = refl
every_append p (x ∷ xs) ys = ap (λ (b : Bool). p x && b) (every_append p xs ys) ∙ sym (and_assoc (p x) (every p xs) (every p ys))

pub every-alike : (p q : ℕ → Bool) (i n : ℕ) → ((j : ℕ) → i ≤ j → j < i + n → p j ≡ q j) → every p (count i n) ≡ every q (count i n)
every-alike p q i zero h = refl
every-alike p q i (suc n) h =
    ap (λ (b : Bool). b && every p (count (i + 1) n)) (h i (omega arith) (omega arith))
    ∙ ap (λ (b : Bool). q i && b) (every-alike p q (i + 1) n (λ j a b. h j (omega arith) (omega arith)))

pub every_true : (p : ℕ → Bool) (i n : ℕ) → ((j : ℕ) → i ≤ j → j < i + n → p j ≡ true) → every p (count i n) ≡ true
every_true p i zero h = refl
every_true p i (suc n) h =
    ap (λ (b : Bool). b && every p (count (i + 1) n)) (h i (omega arith) (omega arith))
    ∙ every_true p (i + 1) n (λ j a b. h j (omega arith) (omega arith))

-- from 0 on, cut at k
pub count_cut : {k n : ℕ} → k ≤ n → count 0 n ≡ count 0 k ++ count k (n - k)
count_cut {k} {n} h =
    let e : n ≡ k + (n - k) = omega arith in
    ap (count 0) e ∙ count-append 0 k (n - k) ∙ ap (λ (j : ℕ). count 0 k ++ count j (n - k)) (zero-add k)

pub each_snoc : (f : ℕ → List ℕ) (k : ℕ) → each f (count 0 (k + 1)) ≡ each f (count 0 k) ++ f k
each_snoc f k =
    ap (each f) (ap (count 0) (add-one k) ∙ Members.count-snoc 0 k ∙ ap (λ (j : ℕ). count 0 k ++ (j ∷ [])) (zero-add k))
    ∙ Members.each_append f (count 0 k) (k ∷ []) ∙ ap (λ (l : List ℕ). each f (count 0 k) ++ l) (Members.each-one f k)

pub every-snoc : (p : ℕ → Bool) (k : ℕ) → every p (count 0 k) ≡ true → p k ≡ true → every p (count 0 (k + 1)) ≡ true
every-snoc p k a b =
    ap (every p) (ap (count 0) (add-one k) ∙ Members.count-snoc 0 k ∙ ap (λ (j : ℕ). count 0 k ++ (j ∷ [])) (zero-add k))
    ∙ every_append p (count 0 k) (k ∷ []) ∙ rw (a, b)
