-- Lists as the things they hold: from the tests of `meaning` to statements (`T b`, `In`, `Distinct`), and back. Nothing here knows of a disk.
use Rattle.std.specs.Prelude.{◌≡◌, refl, ◌≢◌, ◌⊎◌, Bool, true, false, not, cond, ◌&&◌, ◌||◌, List, [], ◌∷◌, ◌++◌, map, ℕ, zero, suc, ◌+◌, ◌≤◌, ◌<◌, T}
use Rattle.std.specs.Prelude.{eqb, length, get_or}
use Rattle.std.proofs.Common.{ap, sym, ◌∙◌, subst, inl, inr, append_assoc, append-nil, add-zero, arith, eqb→eq, T_not}
use Rattle.std.proofs.Math.Decide.{ℕ_discrete}
use Rattle.std.proofs.Math.Dec.{eqb_refl, not_T}
use Rattle.meaning.specs.Lists.{count, every, keep, each, has, distinct, same, all, any, last_or}
use Rattle.meaning.specs.Lists.In.{here, there}
use Rattle.meaning.specs.Lists.Distinct.{done, fresh}
pub use Rattle.meaning.specs.Lists.{In, Distinct}

-- Tests ------------------------------------------------------------------------------------------------------------------

pub and_l : (a b : Bool) → T (a && b) → T a
and_l true b t = tt
and_l false b t = absurd t

pub and_r : (a b : Bool) → T (a && b) → T b
and_r true b t = t
and_r false b t = absurd t

pub and_i : (a b : Bool) → T a → T b → T (a && b)
and_i true b t u = u
and_i false b t u = absurd t

pub or-e : (a b : Bool) → T (a || b) → T a ⊎ T b
or-e true b t = inl tt
or-e false b t = inr t

pub or_l : (a b : Bool) → T a → T (a || b)
or_l true b t = tt
or_l false b t = absurd t

pub or_r : (a b : Bool) → T b → T (a || b)
or_r true b t = tt
or_r false b t = t

-- a test that is not false
pub or-if : (a b : Bool) → (T a → T b) → T (not a || b)
or-if true b f = f tt
or-if false b f = tt

pub if-or : (a b : Bool) → T (not a || b) → T a → T b
if-or true b t u = t
if-or false b t u = absurd u

-- The same where the meaning says `all` and `any`
pub any-e : (a b : Bool) → T (any (a ∷ b ∷ [])) → T a ⊎ T b
unfolding any
any-e true b t = inl tt
any-e false true t = inr tt
any-e false false t = absurd t

pub any-l : (a b : Bool) → T a → T (any (a ∷ b ∷ []))
unfolding any
any-l true b t = tt
any-l false b t = absurd t

pub any-r : (a b : Bool) → T b → T (any (a ∷ b ∷ []))
unfolding any
any-r true b t = tt
any-r false true t = tt
any-r false false t = absurd t

pub any-if : (a b : Bool) → (T a → T b) → T (any (not a ∷ b ∷ []))
any-if true b f = any-r false b (f tt)
any-if false b f = any-l true b tt

pub if-any : (a b : Bool) → T (any (not a ∷ b ∷ [])) → T a → T b
unfolding any
if-any true true t u = tt
if-any true false t u = absurd t
if-any false b t u = absurd u

pub all_two : (a b : Bool) → T a → T b → T (all (a ∷ b ∷ []))
unfolding all
all_two a b t u = and_i a (b && true) t (and_i b true u tt)

pub all-second : (a b : Bool) → T (all (a ∷ b ∷ [])) → T b
unfolding all
all-second a b t = and_l b true (and_r a (b && true) t)

pub true-T : {b : Bool} → b ≡ true → T b
true-T e = rw e tt

pub T_true : {b : Bool} → T b → b ≡ true
T_true {b = true} t = refl
T_true {b = false} t = absurd t

pub no_false : {b : Bool} → (T b → ⊥) → b ≡ false
no_false {b = true} f = absurd (f tt)
no_false {b = false} f = refl

pub false-no : {b : Bool} → b ≡ false → T b → ⊥
false-no e t = rw e at t

pub eq-T : {m n : ℕ} → m ≡ n → T (eqb m n)
eq-T {n = n} e = rw e (eqb_refl n)

pub both-T : {a b : Bool} → (T a → T b) → (T b → T a) → a ≡ b
both-T {a = true} {b = true} f h = refl
both-T {a = true} {b = false} f h = absurd (f tt)
both-T {a = false} {b = true} f h = absurd (h tt)
both-T {a = false} {b = false} f h = refl

pub data Test (b : Bool) : Type 0 where
  holds : T b → Test b
  fails : (T b → ⊥) → Test b

pub decide : (b : Bool) → Test b
decide true = holds tt
decide false = fails (λ t. t)

-- Members ----------------------------------------------------------------------------------------------------------------

pub head_in : {x y : ℕ} (xs : List ℕ) → x ≡ y → In x (y ∷ xs)
head_in xs e = rw e here

pub in-cons : {x y : ℕ} {xs : List ℕ} → In x (y ∷ xs) → (x ≡ y) ⊎ In x xs
in-cons here = inl refl
in-cons (there i) = inr i

abbrev Filled : List ℕ → Type 0
Filled [] = ⊥
Filled (x ∷ xs) = Unit {0}

filled : {x : ℕ} {xs : List ℕ} → In x xs → Filled xs
filled here = tt
filled (there i) = tt

pub none_in : {x : ℕ} {A : Type 0} → In x [] → A
none_in i = absurd (filled i)

pub has_in : (x : ℕ) (xs : List ℕ) → T (has xs x) → In x xs
has_in x [] t = absurd t
has_in x (y ∷ xs) t = go (or-e (eqb x y) (has xs x) t) (has_in x xs)
  where
    go : T (eqb x y) ⊎ T (has xs x) → (T (has xs x) → In x xs) → In x (y ∷ xs)
    go (inl e) r = head_in xs (eqb→eq x y e)
    go (inr e) r = there (r e)

pub in-has : {x : ℕ} {xs : List ℕ} → In x xs → T (has xs x)
in-has {x = x} (here {xs = xs}) = or_l (eqb x x) (has xs x) (eqb_refl x)
in-has {x = x} (there {y = y} {xs = xs} i) = or_r (eqb x y) (has xs x) (in-has i)

pub in? : (x : ℕ) (xs : List ℕ) → In x xs ⊎ (In x xs → ⊥)
in? x xs = go (decide (has xs x))
  where
    go : Test (has xs x) → In x xs ⊎ (In x xs → ⊥)
    go (holds t) = inl (has_in x xs t)
    go (fails f) = inr (λ i. f (in-has i))

pub every-all : (p : ℕ → Bool) {x : ℕ} {xs : List ℕ} → T (every p xs) → In x xs → T (p x)
every-all p t (here {xs = xs}) = and_l (p _) (every p xs) t
every-all p t (there {y = y} {xs = xs} i) = every-all p (and_r (p y) (every p xs) t) i

pub all-every : (p : ℕ → Bool) (xs : List ℕ) → ((x : ℕ) → In x xs → T (p x)) → T (every p xs)
all-every p [] f = tt
all-every p (y ∷ xs) f = and_i (p y) (every p xs) (f y here) (all-every p xs (λ x i. f x (there i)))

pub keep-in : (p : ℕ → Bool) (x : ℕ) (xs : List ℕ) → In x (keep p xs) → In x xs × T (p x)
keep-in p x [] i = none_in i
keep-in p x (y ∷ xs) i = go (p y) refl i (keep-in p x xs)
  where
    first : p y ≡ true → (x ≡ y) ⊎ In x (keep p xs) → (In x (keep p xs) → In x xs × T (p x)) → In x (y ∷ xs) × T (p x)
    first e (inl q) r = (head_in xs q, rw q (true-T e))
    first e (inr i) r = (there (r i).0, (r i).1)

    go : (b : Bool) → p y ≡ b → In x (cond b (y ∷ keep p xs) (keep p xs)) → (In x (keep p xs) → In x xs × T (p x)) → In x (y ∷ xs) × T (p x)
    go true e i r = first e (in-cons i) r
    go false e i r = (there (r i).0, (r i).1)

pub in-keep : (p : ℕ → Bool) {x : ℕ} {xs : List ℕ} → In x xs → T (p x) → In x (keep p xs)
in-keep p {x} (here {xs = xs}) t = rw (T_true {b = p x} t) here
in-keep p {x} (there {y = y} {xs = xs} i) t = go (p y) (in-keep p i t)
  where
    go : (b : Bool) → In x (keep p xs) → In x (cond b (y ∷ keep p xs) (keep p xs))
    go true i = there i
    go false i = i

pub length-count : (i n : ℕ) → length (count i n) ≡ n
length-count i zero = refl
length-count i (suc n) = ap suc (length-count (i + 1) n)

pub count-in : (x i n : ℕ) → In x (count i n) → (i ≤ x) × (x < i + n)
count-in x i zero m = none_in m
count-in x i (suc n) here = (omega arith, omega arith)
count-in x i (suc n) (there m) = omega (arith, count-in x (i + 1) n m)

pub in_count : (x i n : ℕ) → i ≤ x → x < i + n → In x (count i n)
in_count x i zero h l = absurd (omega arith)
in_count x i (suc n) h l = go (ℕ_discrete x i) (λ k. in_count x (i + 1) n k (omega arith))
  where
    go : Dec (x ≡ i) → (i + 1 ≤ x → In x (count (i + 1) n)) → In x (i ∷ count (i + 1) n)
    go (yes e) r = head_in _ e
    go (no d) r = there (r (omega arith))

pub append-in : (x : ℕ) (xs ys : List ℕ) → In x (xs ++ ys) → In x xs ⊎ In x ys
append-in x [] ys i = inr i
append-in x (y ∷ xs) ys here = inl here
append-in x (y ∷ xs) ys (there i) = go (append-in x xs ys i)
  where
    go : In x xs ⊎ In x ys → In x (y ∷ xs) ⊎ In x ys
    go (inl i) = inl (there i)
    go (inr i) = inr i

pub in-append-l : {x : ℕ} {xs : List ℕ} (ys : List ℕ) → In x xs → In x (xs ++ ys)
in-append-l ys here = here
in-append-l ys (there i) = there (in-append-l ys i)

pub in-append-r : {x : ℕ} (xs : List ℕ) {ys : List ℕ} → In x ys → In x (xs ++ ys)
in-append-r [] i = i
in-append-r (y ∷ xs) i = there (in-append-r xs i)

pub each_in : (f : ℕ → List ℕ) (n : ℕ) (xs : List ℕ) → In n (each f xs) → (x : ℕ) × In x xs × In n (f x)
each_in f n [] i = none_in i
each_in f n (y ∷ xs) i = go (append-in n (f y) (each f xs) i) (each_in f n xs)
  where
    go : In n (f y) ⊎ In n (each f xs) → (In n (each f xs) → (x : ℕ) × In x xs × In n (f x)) → (x : ℕ) × In x (y ∷ xs) × In n (f x)
    go (inl i) r = (y, here, i)
    go (inr i) r = let k = r i in (k.0, there k.1, k.2)

pub in-each : (f : ℕ → List ℕ) {n x : ℕ} {xs : List ℕ} → In x xs → In n (f x) → In n (each f xs)
in-each f (here {xs = xs}) i = in-append-l _ i
in-each f (there {y = y} m) i = in-append-r (f y) (in-each f m i)

pub each-eq : (f h : ℕ → List ℕ) (xs : List ℕ) → ((x : ℕ) → In x xs → f x ≡ h x) → each f xs ≡ each h xs
each-eq f h [] e = refl
each-eq f h (x ∷ xs) e = rw (e x here, each-eq f h xs (λ y i. e y (there i)))

pub map-eq : (f h : ℕ → ℕ) (xs : List ℕ) → ((x : ℕ) → In x xs → f x ≡ h x) → map f xs ≡ map h xs
map-eq f h [] e = refl
map-eq f h (x ∷ xs) e = rw (e x here, map-eq f h xs (λ y i. e y (there i)))

pub keep-eq : (p q : ℕ → Bool) (xs : List ℕ) → ((x : ℕ) → In x xs → p x ≡ q x) → keep p xs ≡ keep q xs
keep-eq p q [] e = refl
keep-eq p q (x ∷ xs) e = rw (e x here, keep-eq p q xs (λ y i. e y (there i)))

pub every-eq : (p q : ℕ → Bool) (xs : List ℕ) → ((x : ℕ) → In x xs → p x ≡ q x) → every p xs ≡ every q xs
every-eq p q [] e = refl
every-eq p q (x ∷ xs) e = rw (e x here, every-eq p q xs (λ y i. e y (there i)))

-- No number twice --------------------------------------------------------------------------------------------------------

pub distinct-says : (xs : List ℕ) → T (distinct xs) → Distinct xs
distinct-says [] t = done
distinct-says (x ∷ xs) t =
    fresh (λ i. T_not (has xs x) (and_l (not (has xs x)) (distinct xs) t) (in-has i)) (distinct-says xs (and_r (not (has xs x)) (distinct xs) t))

pub says-distinct : {xs : List ℕ} → Distinct xs → T (distinct xs)
says-distinct done = tt
says-distinct (fresh {x = x} {xs = xs} f r) = and_i (not (has xs x)) (distinct xs) (not_T (has xs x) (λ t. f (has_in x xs t))) (says-distinct r)

-- what a function gives along a count, at one place of it
pub map-count : (f : ℕ → ℕ) (i n j : ℕ) → j < n → get_or (map f (count i n)) j 0 ≡ f (i + j)
map-count f i zero j h = absurd (omega arith)
map-count f i (suc n) zero h = ap f (omega arith)
map-count f i (suc n) (suc j) h = map-count f (i + 1) n j (omega arith) ∙ ap f (omega arith)

pub count-distinct : (i n : ℕ) → Distinct (count i n)
count-distinct i zero = done
count-distinct i (suc n) = fresh (λ m. let k = count-in i (i + 1) n m in omega arith) (count-distinct (i + 1) n)

pub keep-distinct : (p : ℕ → Bool) {xs : List ℕ} → Distinct xs → Distinct (keep p xs)
keep-distinct p done = done
keep-distinct p (fresh {x = x} {xs = xs} f r) = go (p x) (keep-distinct p r)
  where
    go : (b : Bool) → Distinct (keep p xs) → Distinct (cond b (x ∷ keep p xs) (keep p xs))
    go true d = fresh (λ i. f (keep-in p x xs i).0) d
    go false d = d

pub append-distinct : {xs ys : List ℕ} → Distinct xs → Distinct ys → ((x : ℕ) → In x xs → In x ys → ⊥) → Distinct (xs ++ ys)
append-distinct done e f = e
append-distinct {ys = ys} (fresh {x = x} {xs = xs} h d) e f = fresh (λ i. go (append-in x xs ys i)) (append-distinct d e (λ y i j. f y (there i) j))
  where
    go : In x xs ⊎ In x ys → ⊥
    go (inl i) = h i
    go (inr i) = f x here i

pub distinct-l : (xs ys : List ℕ) → Distinct (xs ++ ys) → Distinct xs
distinct-l [] ys d = done
distinct-l (x ∷ xs) ys (fresh f d) = fresh (λ i. f (in-append-l ys i)) (distinct-l xs ys d)

pub distinct-r : (xs ys : List ℕ) → Distinct (xs ++ ys) → Distinct ys
distinct-r [] ys d = d
distinct-r (x ∷ xs) ys (fresh f d) = distinct-r xs ys d

first-apart : {x : ℕ} {xs : List ℕ} → Distinct (x ∷ xs) → In x xs → ⊥
first-apart (fresh f d) = f

rest-distinct : {x : ℕ} {xs : List ℕ} → Distinct (x ∷ xs) → Distinct xs
rest-distinct (fresh f d) = d

pub distinct_apart : {x : ℕ} {xs : List ℕ} (ys : List ℕ) → Distinct (xs ++ ys) → In x xs → In x ys → ⊥
distinct_apart ys d (here {xs = xs}) j = first-apart d (in-append-r xs j)
distinct_apart ys d (there {xs = xs} i) j = distinct_apart {xs = xs} ys (rest-distinct d) i j

pub each-distinct : (f : ℕ → List ℕ) {xs : List ℕ} → Distinct xs → ((x : ℕ) → In x xs → Distinct (f x))
    → ((x y n : ℕ) → In x xs → In y xs → In n (f x) → In n (f y) → x ≡ y) → Distinct (each f xs)
each-distinct f done d a = done
each-distinct f (fresh {x = x} {xs = xs} h r) d a =
    append-distinct (d x here) (each-distinct f r (λ y i. d y (there i)) (λ y z n i j. a y z n (there i) (there j)))
    (λ n i j. let k = each_in f n xs j in h (rw (a x k.0 n here (there k.1) i k.2) k.1))

pub distinct-each : (f : ℕ → List ℕ) {x : ℕ} {xs : List ℕ} → Distinct (each f xs) → In x xs → Distinct (f x)
distinct-each f (d) (here {xs = xs}) = distinct-l (f _) (each f xs) d
distinct-each f d (there {y = y} {xs = xs} i) = distinct-each f (distinct-r (f y) (each f xs) d) i

pub each-apart : (f : ℕ → List ℕ) {x y n : ℕ} {xs : List ℕ} → Distinct (each f xs) → In x xs → In y xs → In n (f x) → In n (f y) → x ≡ y
each-apart f d here here a b = refl
each-apart f {x} (d) (here {xs = xs}) (there j) a b = absurd (distinct_apart (each f xs) d a (in-each f j b))
each-apart f {y = y} d (there i) (here {xs = xs}) a b = absurd (distinct_apart (each f xs) d b (in-each f i a))
each-apart f d (there {y = z} {xs = xs} i) (there j) a b = each-apart f (distinct-r (f z) (each f xs) d) i j a b

-- All but the last, and the last ------------------------------------------------------------------------------------------

unfoldable pub front_of : ℕ → List ℕ → List ℕ
front_of x [] = []
front_of x (y ∷ ys) = x ∷ front_of y ys

unfoldable pub front : List ℕ → List ℕ
front [] = []
front (x ∷ xs) = front_of x xs

pub split-last : (x : ℕ) (xs : List ℕ) → x ∷ xs ≡ front_of x xs ++ (last_or x xs ∷ [])
unfolding front_of last_or
split-last x [] = refl
split-last x (y ∷ ys) = ap {B = List ℕ} (λ l. x ∷ l) (split-last y ys)

pub split-front : (z : ℕ) {x : ℕ} {xs : List ℕ} → In x xs → xs ≡ front xs ++ (last_or z xs ∷ [])
unfolding front last_or
split-front z (here {xs = xs}) = split-last _ xs
split-front z (there {y = y} {xs = xs} i) = split-last y xs

pub front-here : (x : ℕ) {y : ℕ} {ys : List ℕ} → In y ys → In x (front_of x ys)
unfolding front_of
front-here x here = here
front-here x (there i) = here

pub front-there : (x : ℕ) {z : ℕ} (ys : List ℕ) → In z (front ys) → In z (front_of x ys)
unfolding front front_of
front-there x [] i = none_in i
front-there x (y ∷ ys) i = there i

pub front-in : {x : ℕ} (z : ℕ) {y : ℕ} {xs : List ℕ} → In y xs → In x (front xs) → In x xs
front-in z j i = rw (split-front z j) (in-append-l _ i)

pub last-in : (z : ℕ) {y : ℕ} {xs : List ℕ} → In y xs → In (last_or z xs) xs
last-in z {xs = xs} j = subst (λ (l : List ℕ). In (last_or z xs) l) (sym (split-front z j)) (in-append-r (front xs) here)

pub front-not-last : (z : ℕ) {x y : ℕ} {xs : List ℕ} → Distinct xs → In y xs → In x (front xs) → x ≢ last_or z xs
front-not-last z {xs = xs} d j i e =
    distinct_apart (last_or z xs ∷ []) (subst Distinct (split-front z j) d) i (head_in [] e)

pub snoc-in : {x z : ℕ} (xs : List ℕ) → In x (xs ++ (z ∷ [])) → In x xs ⊎ (x ≡ z)
snoc-in {x} {z} xs i = go (append-in x xs (z ∷ []) i)
  where
    last : (x ≡ z) ⊎ In x [] → In x xs ⊎ (x ≡ z)
    last (inl e) = inr e
    last (inr j) = none_in j

    go : In x xs ⊎ In x (z ∷ []) → In x xs ⊎ (x ≡ z)
    go (inl j) = inl j
    go (inr j) = last (in-cons j)

pub snoc-distinct : {z : ℕ} {xs : List ℕ} → Distinct xs → (In z xs → ⊥) → Distinct (xs ++ (z ∷ []))
snoc-distinct {z} {xs} d n = append-distinct d (fresh (λ i. none_in i) done) (λ x i j. go x i (in-cons j))
  where
    go : (x : ℕ) → In x xs → (x ≡ z) ⊎ In x [] → ⊥
    go x i (inl e) = n (rw e at i)
    go x i (inr j) = none_in j

pub each_append : (f : ℕ → List ℕ) (xs ys : List ℕ) → each f (xs ++ ys) ≡ each f xs ++ each f ys
each_append f [] ys = refl
each_append f (x ∷ xs) ys = rw (each_append f xs ys) (sym (append_assoc (f x) (each f xs) (each f ys)))

pub each-one : (f : ℕ → List ℕ) (x : ℕ) → each f (x ∷ []) ≡ f x
each-one f x = append-nil (f x)

pub count-snoc : (i n : ℕ) → count i (suc n) ≡ count i n ++ ((i + n) ∷ [])
count-snoc i zero = rw add-zero
count-snoc i (suc n) = ap {B = List ℕ} (λ l. i ∷ l) (count-snoc (i + 1) n ∙ ap (λ (k : ℕ). count (i + 1) n ++ (k ∷ [])) (omega arith))

-- Lists alike ------------------------------------------------------------------------------------------------------------

pub same-eq : (xs ys : List ℕ) → T (same xs ys) → xs ≡ ys
same-eq [] [] t = refl
same-eq [] (y ∷ ys) t = absurd t
same-eq (x ∷ xs) [] t = absurd t
same-eq (x ∷ xs) (y ∷ ys) t = rw (eqb→eq x y (and_l (eqb x y) (same xs ys) t), same-eq xs ys (and_r (eqb x y) (same xs ys) t))

pub same_refl : (xs : List ℕ) → T (same xs xs)
same_refl [] = tt
same_refl (x ∷ xs) = and_i (eqb x x) (same xs xs) (eqb_refl x) (same_refl xs)
