-- Lists that grow part by part, and what is looked for in all parts of a list.
use mathlib.Core.Path.{◌≡◌, refl, sym, ap, ◌∙◌}
use mathlib.Core.List.{List, [], ◌∷◌, ◌++◌}
use mathlib.Core.Bool.{Bool, ◌||◌}
use Prim.Native.Nat.{ℕ, zero, suc, ◌+◌, ◌≤◌, ◌<◌}
use native.Mathlib.Omega.{arith}
use native.Mathlib.Numerals.{add-one}
use lib.ListN.{get_or, length, take}
use lib.Seq.{take-suc, take-length}
use Rattle.std.specs.List.{list_any, range_with_len}
use Rattle.meaning.specs.Lists.{count, each, some}
use Rattle.lists.specs.Members
use Rattle.space.proofs.Looks.{some-append}
use Rattle.back_taken.specs.Listed.{first_of}

-- the list after k parts
pub record Steps (whole part : ℕ → List ℕ) : Type 0 where
  pub none : whole 0 ≡ []
  pub more : (k : ℕ) → whole (k + 1) ≡ whole k ++ part k

pub first-steps : (es : List ℕ) → Steps (first_of es) (λ k. get_or es k 0 ∷ [])
unfolding first_of
first-steps es = record { none = refl; more = λ k. ap (first_of es) (add-one k) }

-- the first of a list are what `take` takes; all of it, the list
pub first-take : (es : List ℕ) (n : ℕ) → n ≤ length es → first_of es n ≡ take n es
unfolding first_of
first-take es zero h = refl
first-take es (suc n) h =
    let l : n < length es = omega arith in
    ap (λ (xs : List ℕ). xs ++ (get_or es n 0 ∷ [])) (first-take es n (omega arith)) ∙ sym (take-suc es n 0 l)

pub first-all : (es : List ℕ) → first_of es (length es) ≡ es
first-all es = first-take es (length es) (omega arith) ∙ take-length es

pub all-steps : (f : ℕ → List ℕ) (es : List ℕ) → Steps (λ k. each f (first_of es k)) (λ k. f (get_or es k 0))
all-steps f es =
    record {
      none = ap (each f) (first-steps es).none;
      more =
          λ k. ap (each f) ((first-steps es).more k) ∙ Members.each_append f (first_of es k) (get_or es k 0 ∷ [])
          ∙ ap (λ (l : List ℕ). each f (first_of es k) ++ l) (Members.each-one f (get_or es k 0));
    }

-- `any` over the parts of a list finds what is in all of them together
pub found-in : (p : ℕ → Bool) (f : ℕ → List ℕ) (xs : List ℕ) → list_any (λ k. some p (f k)) xs ≡ some p (each f xs)
found-in p f [] = refl
found-in p f (x ∷ xs) = ap (λ (b : Bool). some p (f x) || b) (found-in p f xs) ∙ sym (some-append p (f x) (each f xs))

-- the numbers of a range
pub numbers : (a n : ℕ) → range_with_len a n ≡ count a n
numbers a zero = refl
numbers a (suc n) = ap (λ (l : List ℕ). a ∷ l) (numbers (a + 1) n)
