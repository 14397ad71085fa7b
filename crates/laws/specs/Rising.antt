-- Lists of rising numbers, and what is kept of a list. Nothing here knows of a disk.
use Rattle.std.specs.Prelude.{◌≡◌, refl, ◌⊎◌, Bool, true, false, cond, ◌&&◌, List, [], ◌∷◌, ℕ, zero, suc, ◌+◌, ◌≤◌, ◌<◌, length, get_or}
use Rattle.std.proofs.Common.{inl, inr, arith}
use Rattle.meaning.specs.Lists.{count, keep, first_or}
use Rattle.lists.specs.Members
use Rattle.lists.specs.Members.{In}
use Rattle.laws.specs.Others.{get_or-in}

pub data Rising : List ℕ → Type 0 where
  done : Rising []
  next : {x : ℕ} {xs : List ℕ} → ((y : ℕ) → In y xs → x < y) → Rising xs → Rising (x ∷ xs)

pub count-rising : (i n : ℕ) → Rising (count i n)
count-rising i zero = done
count-rising i (suc n) = next {x = i} (λ (y : ℕ) (m : In y (count (i + 1) n)). omega (arith, Members.count-in y (i + 1) n m)) (count-rising (i + 1) n)

pub keep-rising : (p : ℕ → Bool) {xs : List ℕ} → Rising xs → Rising (keep p xs)
keep-rising p done = done
keep-rising p (next {x = x} {xs = xs} f r) = go (p x) (keep-rising p r)
  where
    go : (b : Bool) → Rising (keep p xs) → Rising (cond b (x ∷ keep p xs) (keep p xs))
    go true k = next (λ y i. f y (Members.keep-in p y xs i).0) k
    go false k = k

pub get_or-rising : {xs : List ℕ} → Rising xs → (i j : ℕ) → i < j → j < length xs → get_or xs i 0 < get_or xs j 0
get_or-rising done i j a b = absurd (omega arith)
get_or-rising (next f r) i zero a b = absurd (omega arith)
get_or-rising (next {xs = xs} f r) zero (suc j) a b = f (get_or xs j 0) (get_or-in xs j (omega arith))
get_or-rising (next f r) (suc i) (suc j) a b = get_or-rising r i j (omega arith) (omega arith)

-- the first of a rising list is its lowest
pub first-lowest : (z : ℕ) {q : ℕ} {xs : List ℕ} → Rising xs → In q xs → first_or z xs ≤ q
unfolding first_or
first-lowest z done i = Members.none_in i
first-lowest z {q} (next {x = x} {xs = xs} f r) i = go (Members.in-cons i)
  where
    go : (q ≡ x) ⊎ In q xs → x ≤ q
    go (inl e) = omega arith
    go (inr j) = omega (arith, f q j)

pub keep-keep : (p q : ℕ → Bool) (xs : List ℕ) → keep q (keep p xs) ≡ keep (λ x. p x && q x) xs
keep-keep p q [] = refl
keep-keep p q (x ∷ xs) = go (p x) (keep-keep p q xs)
  where
    go : (b : Bool) → keep q (keep p xs) ≡ keep (λ x. p x && q x) xs
        → keep q (cond b (x ∷ keep p xs) (keep p xs)) ≡ cond (b && q x) (x ∷ keep (λ x. p x && q x) xs) (keep (λ x. p x && q x) xs)
    go true e = rw e
    go false e = e

pub keep-none : (p : ℕ → Bool) (xs : List ℕ) → ((x : ℕ) → In x xs → p x ≡ false) → keep p xs ≡ []
keep-none p [] f = refl
keep-none p (x ∷ xs) f = rw (f x Members.In.here) (keep-none p xs (λ y i. f y (Members.In.there i)))

-- the place of a member
pub in-get_or : {x : ℕ} {xs : List ℕ} → In x xs → (i : ℕ) × (i < length xs) × (get_or xs i 0 ≡ x)
in-get_or Members.In.here = (0, omega arith, refl)
in-get_or (Members.In.there i) = let k = in-get_or i in (suc k.0, omega (arith, k.1), k.2)
