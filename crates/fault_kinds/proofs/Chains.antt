-- `all` and `any` over a range of numbers come to `every` and `some` of its numbers.
use Rattle.std.specs.Prelude.{◌≡◌, refl, List, [], ◌∷◌, Bool, true, false, ◌&&◌, ◌||◌, ℕ, zero, suc, ◌+◌, ◌-◌, ◌<◌, length}
use Rattle.std.proofs.Common.{sym, ap, ◌∙◌, arith}
use Rattle.std.proofs.iter.Yields.{nat_range_steps}
use Rattle.std.proofs.lemmas.Iterator.{cases_from_all, cases_from_any, YieldsList-from_range}
use Rattle.std.specs.Bool.{MatchBool}
use Rattle.std.specs.Fn.{Called}
use Rattle.std.specs.Iterator.{ChecksAll, ChecksAny}
use Rattle.std.specs.List.{range_with_len, AllWithin, HoldsAt}
use Rattle.std.specs.declared.ops.Range.{Range}
use denote.Param.Members.{Mut}
use Rattle.meaning.specs.Lists.{count, every, some}

numbers : (a n : ℕ) → range_with_len a n ≡ count a n
numbers a zero = refl
numbers a (suc n) = ap (λ (l : List ℕ). a ∷ l) (numbers (a + 1) n)

module _ (p : ℕ → Bool) where
  every-holds : (xs : List ℕ) → AllWithin (λ x. p x ≡ true) xs 0 (length xs) → every p xs ≡ true
  every-holds [] h = refl
  every-holds (x ∷ xs) h = rw (h 0 x (omega arith) (omega arith)) (every-holds xs (λ k d a b. h (suc k) d (omega arith) (omega arith)))

  every-fails : (xs : List ℕ) (k : ℕ) → k < length xs → HoldsAt (λ x. p x ≡ false) xs k → every p xs ≡ false
  every-fails [] k l h = elim l [ ]
  every-fails (x ∷ xs) zero l h = rw (h x)
  every-fails (x ∷ xs) (suc k) l h = rw (every-fails xs k (omega arith) h) (never (p x))
    where
      never : (b : Bool) → (b && false) ≡ false
      never true = refl
      never false = refl

  some-holds : (xs : List ℕ) (k : ℕ) → k < length xs → HoldsAt (λ x. p x ≡ true) xs k → some p xs ≡ true
  some-holds [] k l h = elim l [ ]
  some-holds (x ∷ xs) zero l h = rw (h x)
  some-holds (x ∷ xs) (suc k) l h = rw (some-holds xs k (omega arith) h) (ever (p x))
    where
      ever : (b : Bool) → (b || true) ≡ true
      ever true = refl
      ever false = refl

  some-fails : (xs : List ℕ) → AllWithin (λ x. p x ≡ false) xs 0 (length xs) → some p xs ≡ false
  some-fails [] h = refl
  some-fails (x ∷ xs) h = rw (h 0 x (omega arith) (omega arith)) (some-fails xs (λ k d a b. h (suc k) d (omega arith) (omega arith)))

module _ {F : Type 0} {g : Mut F (ℕ × Unit {0}) Bool} {a b : ℕ} {f : F} {u : Range ℕ} {r : Bool} (p : ℕ → Bool) {n : ℕ} where
  pub every-range : ChecksAll nat_range_steps g (record { start = a; end = b }) f r u → b - a ≡ n
      → ((x : ℕ) (q : F) → Called g f (x, tt) true q → (q ≡ f) × (p x ≡ true)) → ((x : ℕ) (q : F) → Called g f (x, tt) false q → p x ≡ false)
      → r ≡ every p (count a n)
  every-range h e good bad =
      by r (cases_from_all u f r (λ x. p x ≡ true) (λ x. p x ≡ false) h (YieldsList-from_range a b n refl e) good bad) ∙ ap (every p) (numbers a n)
    where
      by : (t : Bool) → MatchBool t (AllWithin (λ x. p x ≡ true) (range_with_len a n) 0 (length (range_with_len a n)))
          ((k : ℕ) × (k < length (range_with_len a n)) × HoldsAt (λ x. p x ≡ false) (range_with_len a n) k) → t ≡ every p (range_with_len a n)
      by true m = sym (every-holds p (range_with_len a n) m)
      by false m = sym (every-fails p (range_with_len a n) m.0 m.1 m.2)

  pub some-range : ChecksAny nat_range_steps g (record { start = a; end = b }) f r u → b - a ≡ n
      → ((x : ℕ) (q : F) → Called g f (x, tt) true q → p x ≡ true) → ((x : ℕ) (q : F) → Called g f (x, tt) false q → (q ≡ f) × (p x ≡ false))
      → r ≡ some p (count a n)
  some-range h e good bad =
      by r (cases_from_any u f r (λ x. p x ≡ true) (λ x. p x ≡ false) h (YieldsList-from_range a b n refl e) good bad) ∙ ap (some p) (numbers a n)
    where
      by : (t : Bool) → MatchBool t ((k : ℕ) × (k < length (range_with_len a n)) × HoldsAt (λ x. p x ≡ true) (range_with_len a n) k)
          (AllWithin (λ x. p x ≡ false) (range_with_len a n) 0 (length (range_with_len a n))) → t ≡ some p (range_with_len a n)
      by true m = sym (some-holds p (range_with_len a n) m.0 m.1 m.2)
      by false m = sym (some-fails p (range_with_len a n) m)
