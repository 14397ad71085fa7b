-- Tests as a program makes them: `b ≡ true` and `b ≡ false`, lists of them, and the first refusal of a list. Members.antt has the same as statements.
use Rattle.std.specs.Prelude.{◌≡◌, Bool, not, cond, ◌&&◌, ◌||◌, ℕ, zero, suc, ◌+◌, ◌≤◌, ◌<◌, ◌⊎◌, get_or, eqb, ltb}
use Rattle.std.proofs.Math.Path.{refl, ap}
use Rattle.std.proofs.Common.{sym, ◌∙◌, true≢false, arith, add-zero, zero-add, inl, inr, ⊎_elim, eq-eqb, ne_eqb, ltb-true, ltb-false}
use mathlib.Core.List.{List, [], ◌∷◌, ◌++◌}
use Rattle.std.proofs.Math.Bool.{true, false, and-true, or-false}
use Rattle.std.proofs.lemmas.Bool.{not-true, not-false, eqb-false}
use Rattle.meaning.specs.Refusals.{first}
use Rattle.meaning.specs.Lists.{count, every, keep, all, any}

pub and_l : (a b : Bool) → (a && b) ≡ true → a ≡ true
and_l true b h = refl
and_l false b h = h

pub and_r : (a b : Bool) → (a && b) ≡ true → b ≡ true
and_r true b h = h
and_r false b h = absurd (let z : ◌≡◌ {A = ℕ} 0 1 = cc in let q : ⊥ = omega arith in q)

pub or_no : (a b : Bool) → (a || b) ≡ true → a ≡ false → b ≡ true
or_no true b h k = absurd (let z : ◌≡◌ {A = ℕ} 0 1 = cc in let q : ⊥ = omega arith in q)
or_no false b h k = h

-- a list of tests: one by one, and each of them
pub all-no : {b : Bool} → b ≡ false → (bs : List Bool) → all (b ∷ bs) ≡ false
unfolding all
all-no h bs = ap (λ (b : Bool). b && all bs) h

pub all_yes : {b : Bool} → b ≡ true → (bs : List Bool) → all (b ∷ bs) ≡ all bs
unfolding all
all_yes h bs = ap (λ (b : Bool). b && all bs) h

pub all_none : all [] ≡ true
unfolding all
all_none = refl

pub all-at : (bs : List Bool) → all bs ≡ true → (k : ℕ) → get_or bs k true ≡ true
unfolding all
all-at bs h k = at bs h k
  where
    at : (bs : List Bool) → all bs ≡ true → (k : ℕ) → get_or bs k true ≡ true
    at [] h k = refl
    at (b ∷ bs) h zero = and_l b (all bs) h
    at (b ∷ bs) h (suc k) = at bs (and_r b (all bs) h) k

pub not-both : {A : Type 0} {b : Bool} → b ≡ true → b ≡ false → A
not-both t f = absurd (true≢false (sym t ∙ f))

-- what a test of a number that was read says of what it was read from
pub on : {r b k : ℕ} → r ≡ b → r ≡ k → eqb b k ≡ true
on {r} {b} {k} e t = eq-eqb b k (sym e ∙ t)

pub off : {r b k : ℕ} → r ≡ b → (r ≡ k → ⊥) → eqb b k ≡ false
off {r} {b} {k} e t = ne_eqb b k (λ q. t (e ∙ q))

pub all-out : (bs : List Bool) (k : ℕ) → get_or bs k true ≡ false → all bs ≡ false
all-out bs k h = by (all bs) refl
  where
    by : (t : Bool) → all bs ≡ t → all bs ≡ false
    by true e = not-both (all-at bs e k) h
    by false e = e

pub le-or-lt : (a b : ℕ) → (a ≤ b) ⊎ (b < a)
le-or-lt a b = by (ltb b a) refl
  where
    by : (t : Bool) → ltb b a ≡ t → (a ≤ b) ⊎ (b < a)
    by true e = inr (ltb-true b a e)
    by false e = inl (ltb-false b a e)

module _ {A : Type 0} where
  pub keep-yes : (p : A → Bool) {x : A} → p x ≡ true → (xs : List A) → keep p (x ∷ xs) ≡ x ∷ keep p xs
  keep-yes p {x} h xs = ap (λ (b : Bool). cond b (x ∷ keep p xs) (keep p xs)) h

  pub keep-no : (p : A → Bool) {x : A} → p x ≡ false → (xs : List A) → keep p (x ∷ xs) ≡ keep p xs
  keep-no p {x} h xs = ap (λ (b : Bool). cond b (x ∷ keep p xs) (keep p xs)) h

pub count-append : (i m n : ℕ) → count i (m + n) ≡ count i m ++ count (i + m) n
count-append i zero n = let e : i ≡ i + 0 = omega arith in ap (count i) (zero-add n) ∙ ap (λ (k : ℕ). count k n) e
count-append i (suc m) n =
    let e : suc m + n ≡ suc (m + n) = omega arith in
    let f : i + 1 + m ≡ i + suc m = omega arith in
    ap (count i) e ∙ ap (λ (r : List ℕ). i ∷ r) (count-append (i + 1) m n ∙ ap (λ (k : ℕ). count (i + 1) m ++ count k n) f)

pub get_or-count : (i n k : ℕ) → k < n → get_or (count i n) k 0 ≡ i + k
get_or-count i zero k h = absurd (let q : ⊥ = omega arith in q)
get_or-count i (suc n) zero h = sym (add-zero i)
get_or-count i (suc n) (suc k) h = let e : i + 1 + k ≡ i + suc k = omega arith in get_or-count (i + 1) n k (omega arith) ∙ e

-- what a test `if !f(..)` says of the definition that f's contract names
pub is-no : {f a : Bool} → f ≡ a → not f ≡ true → a ≡ false
is-no {f} e t = sym e ∙ not-true f t

pub is-yes : {f a : Bool} → f ≡ a → not f ≡ false → a ≡ true
is-yes {f} e t = sym e ∙ not-false f t

-- the same where the prover has taken the `!` off
pub is-false : {f a : Bool} → f ≡ a → f ≡ false → a ≡ false
is-false e t = sym e ∙ t

pub is-true : {f a : Bool} → f ≡ a → f ≡ true → a ≡ true
is-true e t = sym e ∙ t

pub all_one : (b : Bool) → all (b ∷ []) ≡ b
unfolding all
all_one b = and-true b

-- the first refusal
pub first-hit : {b : Bool} → b ≡ true → (n : ℕ) (cs : List (ℕ × Bool)) → first ((n, b) ∷ cs) ≡ n
unfolding first
first-hit h n cs = ap (λ (b : Bool). cond b n (first cs)) h

pub first-skip : {b : Bool} → b ≡ false → (n : ℕ) (cs : List (ℕ × Bool)) → first ((n, b) ∷ cs) ≡ first cs
unfolding first
first-skip h n cs = ap (λ (b : Bool). cond b n (first cs)) h

pub first-none : first [] ≡ 0
unfolding first
first-none = refl

pub not_yes : {b : Bool} → b ≡ true → not b ≡ false
not_yes h = ap not h

pub not-no : {b : Bool} → b ≡ false → not b ≡ true
not-no h = ap not h

pub any-hit : {b : Bool} → b ≡ true → (bs : List Bool) → any (b ∷ bs) ≡ true
unfolding any
any-hit h bs = ap (λ (b : Bool). b || any bs) h

pub any-one : (b : Bool) → any (b ∷ []) ≡ b
unfolding any
any-one b = or-false b

pub any-skip : {b : Bool} → b ≡ false → (bs : List Bool) → any (b ∷ bs) ≡ any bs
unfolding any
any-skip h bs = ap (λ (b : Bool). b || any bs) h

pub any_last : (a b : Bool) → any (a ∷ b ∷ []) ≡ true → a ≡ false → b ≡ true
unfolding any
any_last a b h k = sym (or-false b) ∙ or_no a (b || false) h k

-- of refusals none of which is 0, all are out where the first is 0
pub first-at : (cs : List (ℕ × Bool)) → first cs ≡ 0 → every (λ c. not (eqb c.0 0)) cs ≡ true → (k : ℕ) → (get_or cs k (0, false)).1 ≡ false
unfolding first
first-at [] h e k = refl
first-at ((n, b) ∷ cs) h e k = by (λ q r j. first-at cs q r j) b refl k
  where
    nonzero : n ≡ 0 → ⊥
    nonzero q = eqb-false n 0 (not-true (eqb n 0) (and_l (not (eqb n 0)) (every (λ c. not (eqb c.0 0)) cs) e)) q

    by : (first cs ≡ 0 → every (λ c. not (eqb c.0 0)) cs ≡ true → (k : ℕ) → (get_or cs k (0, false)).1 ≡ false)
        → (t : Bool) → b ≡ t → (k : ℕ) → (get_or ((n, b) ∷ cs) k (0, false)).1 ≡ false
    by ih true q k = absurd (nonzero (sym (ap (λ (t : Bool). cond t n (first cs)) q) ∙ h))
    by ih false q zero = q
    by ih false q (suc k) = ih (sym (ap (λ (t : Bool). cond t n (first cs)) q) ∙ h) (and_r (not (eqb n 0)) (every (λ c. not (eqb c.0 0)) cs) e) k

module _ {A : Type 0} where
  pub every-keep : (p q : A → Bool) (xs : List A) → every p (keep q xs) ≡ true → every (λ x. any (not (q x) ∷ p x ∷ [])) xs ≡ true
  unfolding any
  every-keep p q [] h = refl
  every-keep p q (x ∷ xs) h = by (λ w. every-keep p q xs w) (q x) refl
    where
      by : (every p (keep q xs) ≡ true → every (λ x. any (not (q x) ∷ p x ∷ [])) xs ≡ true) → (t : Bool) → q x ≡ t →
          (any (not (q x) ∷ p x ∷ []) && every (λ x. any (not (q x) ∷ p x ∷ [])) xs) ≡ true
      by ih true e =
          let h' : (p x && every p (keep q xs)) ≡ true = ap (every p) (sym (keep-yes q e xs)) ∙ h in
          simp (e, and_l (p x) (every p (keep q xs)) h') (ih (and_r (p x) (every p (keep q xs)) h'))
      by ih false e =
          let h' : every p (keep q xs) ≡ true = ap (every p) (sym (keep-no q e xs)) ∙ h in
          simp e (ih h')

pub every-count : (p : ℕ → Bool) (i n k : ℕ) → every p (count i n) ≡ true → i ≤ k → k < i + n → p k ≡ true
every-count p i zero k h a b = absurd (let z : ⊥ = omega arith in z)
every-count p i (suc n) k h a b =
    ⊎_elim (λ w. every-count p (i + 1) n k (and_r (p i) (every p (count (i + 1) n)) h) (omega arith) (omega arith))
    (λ w. let e : i ≡ k = omega arith in ap p (sym e) ∙ and_l (p i) (every p (count (i + 1) n)) h) (le-or-lt (i + 1) k)
