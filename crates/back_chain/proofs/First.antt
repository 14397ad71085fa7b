-- The first of a list, one more of them written.
use mathlib.Core.Path.{◌≡◌, refl, ap, ◌∙◌}
use mathlib.Core.List.{List, [], ◌∷◌, ◌++◌}
use mathlib.Core.Logic.{◌⊎◌, inl, inr}
use Prim.Native.Nat.{ℕ, zero, suc, ◌+◌, ◌≤◌, ◌<◌}
use native.Mathlib.Omega.{arith}
use native.Mathlib.Numerals.{add-one}
use lib.ListN.{length, get_or, set, length-append}
use lib.Seq.{get_or-set_same, get_or-set_other}
use Rattle.lists.specs.Tests.{le-or-lt}
use Rattle.lists.specs.Members
use Rattle.lists.specs.Members.{In}
use Rattle.back_taken.specs.Listed.{first_of}
use Rattle.back_taken.proofs.Steps.{first-steps}

first_below : (es : List ℕ) (n v k : ℕ) → k ≤ n → first_of (set es n v) k ≡ first_of es k
unfolding first_of
first_below es n v zero h = refl
first_below es n v (suc k) h =
    ap (λ (l : List ℕ). l ++ (get_or (set es n v) k 0 ∷ [])) (first_below es n v k (omega arith))
    ∙ ap (λ (x : ℕ). first_of es k ++ (x ∷ [])) (get_or-set_other es n k v 0 (λ q. omega arith))

pub first-put : (es : List ℕ) (n v : ℕ) → n < length es → first_of (set es n v) (n + 1) ≡ first_of es n ++ (v ∷ [])
first-put es n v h =
    (first-steps (set es n v)).more n ∙ ap (λ (l : List ℕ). l ++ (get_or (set es n v) n 0 ∷ [])) (first_below es n v n (omega arith))
    ∙ ap (λ (x : ℕ). first_of es n ++ (x ∷ [])) (get_or-set_same es n v 0 h)

pub first-in : (es : List ℕ) (j n : ℕ) → j < n → In (get_or es j 0) (first_of es n)
unfolding first_of
first-in es j zero h = absurd (let z : ⊥ = omega arith in z)
first-in es j (suc n) h = by (le-or-lt n j) (first-in es j n)
  where
    by : (n ≤ j) ⊎ (j < n) → (j < n → In (get_or es j 0) (first_of es n)) → In (get_or es j 0) (first_of es n ++ (get_or es n 0 ∷ []))
    by (inl l) ih = let q : j ≡ n = omega arith in Members.in-append-r (first_of es n) (Members.head_in [] (ap (λ (k : ℕ). get_or es k 0) q))
    by (inr l) ih = Members.in-append-l (get_or es n 0 ∷ []) (ih l)

pub first-length : (es : List ℕ) (n : ℕ) → length (first_of es n) ≡ n
unfolding first_of
first-length es zero = refl
first-length es (suc n) = length-append (first_of es n) (get_or es n 0 ∷ []) ∙ ap (λ (k : ℕ). k + 1) (first-length es n) ∙ add-one n
