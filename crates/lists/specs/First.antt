-- Any list of refusals: which number is the first, and what was passed
use Rattle.std.specs.Prelude.{◌≡◌, refl, ◌≢◌, ◌⊎◌, Bool, true, false, not, cond, List, [], ◌∷◌, ◌++◌, ℕ, T, eqb}
use Rattle.std.proofs.Common.{sym, inl, inr, eqb→eq}
use Rattle.meaning.specs.Refusals.{first, by_number}
use Rattle.lists.specs.Members
use Rattle.lists.specs.Members.{In}

-- a refusal that was not given does not apply
pub passed : (n : ℕ) (b : Bool) (cs : List (ℕ × Bool)) → n ≢ 0 → first ((n, b) ∷ cs) ≡ 0 → (T b → ⊥) × (first cs ≡ 0)
unfolding first
passed n true cs k e = absurd (k e)
passed n false cs k e = (λ t. t, e)

pub yes-T : (b : Bool) → (T (not b) → ⊥) → T b
yes-T true f = tt
yes-T false f = f tt

abbrev pub numbers_of : List (ℕ × Bool) → List ℕ
numbers_of [] = []
numbers_of (c ∷ cs) = c.0 ∷ numbers_of cs

-- the first is one of the list's numbers, or 0
pub first-in : (cs : List (ℕ × Bool)) → In (first cs) (0 ∷ numbers_of cs)
unfolding first
first-in [] = Members.In.here
first-in (c ∷ cs) = go c.1 (Members.in-cons (first-in cs))
  where
    go : (b : Bool) → (first cs ≡ 0) ⊎ In (first cs) (numbers_of cs) → In (cond b c.0 (first cs)) (0 ∷ c.0 ∷ numbers_of cs)
    go true i = Members.In.there Members.In.here
    go false (inl e) = Members.head_in (c.0 ∷ numbers_of cs) e
    go false (inr i) = Members.In.there (Members.In.there i)

-- rows for these numbers, where the number is one of them; where it is none
pub number-hit : (n : ℕ) (ks : List ℕ) (cs : List (ℕ × Bool)) → In n ks → first (by_number n ks ++ cs) ≡ n
unfolding first
number-hit n [] cs i = Members.none_in i
number-hit n (k ∷ ks) cs i = go (Members.decide (eqb n k)) (Members.in-cons i) (number-hit n ks cs)
  where
    go : Members.Test (eqb n k) → (n ≡ k) ⊎ In n ks → (In n ks → first (by_number n ks ++ cs) ≡ n) → cond (eqb n k) k (first (by_number n ks ++ cs)) ≡ n
    go (Members.Test.holds t) j ih = rw (Members.T_true {b = eqb n k} t) (sym (eqb→eq n k t))
    go (Members.Test.fails t) (inl e) ih = absurd (t (Members.eq-T e))
    go (Members.Test.fails t) (inr j) ih = rw (Members.no_false {b = eqb n k} t) (ih j)

pub number-miss : (n : ℕ) (ks : List ℕ) (cs : List (ℕ × Bool)) → (In n ks → ⊥) → first (by_number n ks ++ cs) ≡ first cs
unfolding first
number-miss n [] cs f = refl
number-miss n (k ∷ ks) cs f =
    rw (Members.no_false {b = eqb n k} (λ t. f (Members.head_in ks (eqb→eq n k t)))) (number-miss n ks cs (λ i. f (Members.In.there i)))
