-- Laws of the order of names, and of lists that rise by it.
use Rattle.std.specs.Prelude.{◌≡◌, refl, ◌⊎◌, Bool, true, false, cond, List, [], ◌∷◌, ◌++◌, map, ℕ, suc, ◌<◌, ◌≤◌, T, ltb, length}
use Rattle.std.proofs.Common.{sym, ap, subst, ◌∙◌, inl, inr, ⊎_elim, arith, ltb-true, ltb-false, lt-ltb, le-ltb, eq-eqb, ne_eqb}
use Rattle.meaning.specs.Lists.{keep, same}
use Rattle.lists.specs.Members
use Rattle.differences.specs.Compare.{before, put, rising}

-- Two bytes --------------------------------------------------------------------------------------------------------------

data Way (x y : ℕ) : Type 0 where
  less : x < y → Way x y
  equal : x ≡ y → Way x y
  more : y < x → Way x y

way : (x y : ℕ) → Way x y
way x y = by (ltb x y) refl (ltb y x) refl
  where
    by : (a : Bool) → ltb x y ≡ a → (b : Bool) → ltb y x ≡ b → Way x y
    by true e b f = less (ltb-true x y e)
    by false e true f = more (ltb-true y x f)
    by false e false f = let p = ltb-false x y e in let q = ltb-false y x f in equal (omega arith)

pub never : {A : Type 0} → true ≡ false → A
never e = absurd (let z : ◌≡◌ {A = ℕ} 0 1 = ap (λ (b : Bool). cond b 0 1) e in let q : ⊥ = omega arith in q)

-- The order --------------------------------------------------------------------------------------------------------------

pub before-less : {x y : ℕ} (xs ys : List ℕ) → x < y → before (x ∷ xs) (y ∷ ys) ≡ true
unfolding before
before-less {x} {y} xs ys h = rw (ne_eqb x y (λ q. omega arith), lt-ltb x y h)

pub before_more : {x y : ℕ} (xs ys : List ℕ) → y < x → before (x ∷ xs) (y ∷ ys) ≡ false
unfolding before
before_more {x} {y} xs ys h = rw (ne_eqb x y (λ q. omega arith), le-ltb x y (omega arith))

pub before-equal : {x y : ℕ} (xs ys : List ℕ) → x ≡ y → before (x ∷ xs) (y ∷ ys) ≡ before xs ys
unfolding before
before-equal {x} {y} xs ys h = rw (eq-eqb x y h)

before-none : (m : List ℕ) → before m [] ≡ false
unfolding before
before-none m = refl

before-some : (y : ℕ) (ys : List ℕ) → before [] (y ∷ ys) ≡ true
unfolding before
before-some y ys = refl

pub before_self : (m : List ℕ) → before m m ≡ false
before_self [] = before-none []
before_self (x ∷ xs) = before-equal xs xs refl ∙ before_self xs

pub before_back : (m n : List ℕ) → before m n ≡ true → before n m ≡ false
before_back m [] h = never (sym h ∙ before-none m)
before_back [] (y ∷ ys) h = before-none (y ∷ ys)
before_back (x ∷ xs) (y ∷ ys) h = by (λ k. before_back xs ys k) (way x y)
  where
    by : (before xs ys ≡ true → before ys xs ≡ false) → Way x y → before (y ∷ ys) (x ∷ xs) ≡ false
    by ih (less l) = before_more ys xs l
    by ih (equal e) = before-equal ys xs (sym e) ∙ ih (sym (before-equal xs ys e) ∙ h)
    by ih (more l) = never (sym h ∙ before_more xs ys l)

pub before_on : (a b c : List ℕ) → before a b ≡ true → before b c ≡ true → before a c ≡ true
before_on a b [] h k = never (sym k ∙ before-none b)
before_on a [] (z ∷ zs) h k = never (sym h ∙ before-none a)
before_on [] (y ∷ ys) (z ∷ zs) h k = before-some z zs
before_on (x ∷ xs) (y ∷ ys) (z ∷ zs) h k = by (λ p q. before_on xs ys zs p q) (way x y) (way y z)
  where
    by : (before xs ys ≡ true → before ys zs ≡ true → before xs zs ≡ true) → Way x y → Way y z → before (x ∷ xs) (z ∷ zs) ≡ true
    by ih (more l) w = never (sym h ∙ before_more xs ys l)
    by ih (less l) (more m) = never (sym k ∙ before_more ys zs m)
    by ih (equal e) (more m) = never (sym k ∙ before_more ys zs m)
    by ih (less l) (less m) = before-less xs zs (omega arith)
    by ih (less l) (equal f) = before-less xs zs (omega arith)
    by ih (equal e) (less m) = before-less xs zs (omega arith)
    by ih (equal e) (equal f) = before-equal xs zs (e ∙ f) ∙ ih (sym (before-equal xs ys e) ∙ h) (sym (before-equal ys zs f) ∙ k)

pub before-neither : (m n : List ℕ) → before m n ≡ false → before n m ≡ false → m ≡ n
before-neither [] [] h k = refl
before-neither [] (y ∷ ys) h k = never (sym (before-some y ys) ∙ h)
before-neither (x ∷ xs) [] h k = never (sym (before-some x xs) ∙ k)
before-neither (x ∷ xs) (y ∷ ys) h k = by (λ p q. before-neither xs ys p q) (way x y)
  where
    by : (before xs ys ≡ false → before ys xs ≡ false → xs ≡ ys) → Way x y → x ∷ xs ≡ y ∷ ys
    by ih (less l) = never (sym (before-less xs ys l) ∙ h)
    by ih (more l) = never (sym (before-less ys xs l) ∙ k)
    by ih (equal e) = let q = ih (sym (before-equal xs ys e) ∙ h) (sym (before-equal ys xs (sym e)) ∙ k) in λ i. e i ∷ q i

-- Members ----------------------------------------------------------------------------------------------------------------

pub data In (x : List ℕ) : List (List ℕ) → Type 0 where
  here : {xs : List (List ℕ)} → In x (x ∷ xs)
  there : {y : List ℕ} {xs : List (List ℕ)} → In x xs → In x (y ∷ xs)

pub in-here : {x y : List ℕ} (xs : List (List ℕ)) → x ≡ y → In x (y ∷ xs)
in-here {x} xs e = subst (λ (z : List ℕ). In x (z ∷ xs)) e here

abbrev Filled : List (List ℕ) → Type 0
Filled [] = ⊥
Filled (x ∷ xs) = Unit {0}

filled : {x : List ℕ} {xs : List (List ℕ)} → In x xs → Filled xs
filled here = tt
filled (there i) = tt

pub none_in : {x : List ℕ} {A : Type 0} → In x [] → A
none_in i = absurd (filled i)

pub in-or : {x y : List ℕ} {xs : List (List ℕ)} → In x (y ∷ xs) → (x ≡ y) ⊎ In x xs
in-or here = inl refl
in-or (there i) = inr i

pub in_left : {x : List ℕ} {xs : List (List ℕ)} (ys : List (List ℕ)) → In x xs → In x (xs ++ ys)
in_left ys here = here
in_left ys (there i) = there (in_left ys i)

pub in_right : {x : List ℕ} (xs : List (List ℕ)) {ys : List (List ℕ)} → In x ys → In x (xs ++ ys)
in_right [] i = i
in_right (y ∷ xs) i = there (in_right xs i)

pub in_either : {x : List ℕ} (xs : List (List ℕ)) {ys : List (List ℕ)} → In x (xs ++ ys) → In x xs ⊎ In x ys
in_either [] i = inr i
in_either (y ∷ xs) here = inl here
in_either (y ∷ xs) (there i) = ⊎_elim (λ j. inl (there j)) (λ j. inr j) (in_either xs i)

pub in_map : (f : ℕ → List ℕ) {p : ℕ} {ps : List ℕ} → Members.In p ps → In (f p) (map f ps)
in_map f Members.In.here = here
in_map f (Members.In.there i) = there (in_map f i)

pub map-in : (f : ℕ → List ℕ) {x : List ℕ} (ps : List ℕ) → In x (map f ps) → (p : ℕ) × Members.In p ps × (f p ≡ x)
map-in f [] i = none_in i
map-in f (p ∷ ps) here = (p, Members.In.here, refl)
map-in f (p ∷ ps) (there i) = let k = map-in f ps i in (k.0, Members.In.there k.1, k.2)

-- Rising -----------------------------------------------------------------------------------------------------------------

pub data Rises : List (List ℕ) → Type 0 where
  none : Rises []
  next : {n : List ℕ} {ns : List (List ℕ)} → ((m : List ℕ) → In m ns → before n m ≡ true) → Rises ns → Rises (n ∷ ns)

same-yes : (m n : List ℕ) → same m n ≡ true → m ≡ n
same-yes m n e = Members.same-eq m n (Members.true-T e)

put_same : (n m : List ℕ) (ms : List (List ℕ)) → same n m ≡ true → put n (m ∷ ms) ≡ m ∷ ms
unfolding put
put_same n m ms e = rw e

put_first : (n m : List ℕ) (ms : List (List ℕ)) → same n m ≡ false → before n m ≡ true → put n (m ∷ ms) ≡ n ∷ m ∷ ms
unfolding put
put_first n m ms e f = rw (e, f)

put_on : (n m : List ℕ) (ms : List (List ℕ)) → same n m ≡ false → before n m ≡ false → put n (m ∷ ms) ≡ m ∷ put n ms
unfolding put
put_on n m ms e f = rw (e, f)

put-none : (n : List ℕ) → put n [] ≡ n ∷ []
unfolding put
put-none n = refl

-- a name is put, and nothing else
pub put_in : (n : List ℕ) (ms : List (List ℕ)) {x : List ℕ} → In x (put n ms) → (x ≡ n) ⊎ In x ms
put_in n [] {x} i = in-or (subst (λ (l : List (List ℕ)). In x l) (put-none n) i)
put_in n (m ∷ ms) {x} i = by (λ j. put_in n ms j) (same n m) refl (before n m) refl
  where
    by : (In x (put n ms) → (x ≡ n) ⊎ In x ms) → (a : Bool) → same n m ≡ a → (b : Bool) → before n m ≡ b → (x ≡ n) ⊎ In x (m ∷ ms)
    by ih true e b f = inr (subst (λ (l : List (List ℕ)). In x l) (put_same n m ms e) i)
    by ih false e true f = in-or (subst (λ (l : List (List ℕ)). In x l) (put_first n m ms e f) i)
    by ih false e false f = ⊎_elim (λ q. inr (in-here ms q)) (λ j. ⊎_elim (λ q. inl q) (λ k. inr (there k)) (ih j))
        (in-or (subst (λ (l : List (List ℕ)). In x l) (put_on n m ms e f) i))

pub in-put : (n : List ℕ) (ms : List (List ℕ)) → In n (put n ms)
in-put n [] = subst (λ (l : List (List ℕ)). In n l) (sym (put-none n)) here
in-put n (m ∷ ms) = by (in-put n ms) (same n m) refl (before n m) refl
  where
    by : In n (put n ms) → (a : Bool) → same n m ≡ a → (b : Bool) → before n m ≡ b → In n (put n (m ∷ ms))
    by ih true e b f = subst (λ (l : List (List ℕ)). In n l) (sym (put_same n m ms e)) (in-here ms (same-yes n m e))
    by ih false e true f = subst (λ (l : List (List ℕ)). In n l) (sym (put_first n m ms e f)) here
    by ih false e false f = subst (λ (l : List (List ℕ)). In n l) (sym (put_on n m ms e f)) (there ih)

pub put_keeps : (n : List ℕ) (ms : List (List ℕ)) {x : List ℕ} → In x ms → In x (put n ms)
put_keeps n [] i = none_in i
put_keeps n (m ∷ ms) {x} i = by (λ j. put_keeps n ms j) (same n m) refl (before n m) refl
  where
    by : (In x ms → In x (put n ms)) → (a : Bool) → same n m ≡ a → (b : Bool) → before n m ≡ b → In x (put n (m ∷ ms))
    by ih true e b f = subst (λ (l : List (List ℕ)). In x l) (sym (put_same n m ms e)) i
    by ih false e true f = subst (λ (l : List (List ℕ)). In x l) (sym (put_first n m ms e f)) (there i)
    by ih false e false f = subst (λ (l : List (List ℕ)). In x l) (sym (put_on n m ms e f)) (⊎_elim (λ q. in-here (put n ms) q) (λ j. there (ih j)) (in-or i))

put-rises : (n : List ℕ) {ms : List (List ℕ)} → Rises ms → Rises (put n ms)
put-rises n none = subst Rises (sym (put-none n)) (next (λ m i. none_in i) none)
put-rises n (next {n = m} {ns = ms} h r) = by (put-rises n r) (same n m) refl (before n m) refl
  where
    by : Rises (put n ms) → (a : Bool) → same n m ≡ a → (b : Bool) → before n m ≡ b → Rises (put n (m ∷ ms))
    by ih true e b f = subst Rises (sym (put_same n m ms e)) (next h r)
    by ih false e true f =
        subst Rises (sym (put_first n m ms e f)) (next (λ x i. ⊎_elim (λ q. subst (λ (z : List ℕ). before n z ≡ true) (sym q) f)
        (λ j. before_on n m x f (h x j)) (in-or i)) (next h r))
    by ih false e false f =
        subst Rises (sym (put_on n m ms e f)) (next (λ x i. ⊎_elim (λ q. subst (λ (z : List ℕ). before m z ≡ true) (sym q) (later (before m n) refl))
        (λ j. h x j) (put_in n ms i)) ih)
      where
        later : (t : Bool) → before m n ≡ t → before m n ≡ true
        later true g = g
        later false g = never (sym (Members.T_true (subst (λ (z : List ℕ). T (same n z)) (before-neither n m f g) (Members.same_refl n))) ∙ e)

pub rising-rises : (ns : List (List ℕ)) → Rises (rising ns)
unfolding rising
rising-rises [] = none
rising-rises (n ∷ ns) = put-rises n (rising-rises ns)

pub rising-in : (ns : List (List ℕ)) {x : List ℕ} → In x (rising ns) → In x ns
unfolding rising
rising-in [] i = i
rising-in (n ∷ ns) i = ⊎_elim (λ q. in-here ns q) (λ j. there (rising-in ns j)) (put_in n (rising ns) i)

-- the same, with the name before the names
rising-keeps : {x : List ℕ} {ns : List (List ℕ)} → In x ns → In x (rising ns)
unfolding rising
rising-keeps (here {xs = ns}) = in-put _ (rising ns)
rising-keeps (there {y = n} {xs = ns} i) = put_keeps n (rising ns) (rising-keeps i)

pub in-rising : {ns : List (List ℕ)} {x : List ℕ} → In x ns → In x (rising ns)
in-rising i = rising-keeps i

put-length : (n : List ℕ) (ms : List (List ℕ)) → length (put n ms) ≤ suc (length ms)
put-length n [] = rw (put-none n) (omega arith)
put-length n (m ∷ ms) = by (put-length n ms) (same n m) refl (before n m) refl
  where
    by : length (put n ms) ≤ suc (length ms) → (a : Bool) → same n m ≡ a → (b : Bool) → before n m ≡ b → length (put n (m ∷ ms)) ≤ suc (suc (length ms))
    by ih true e b f = rw (put_same n m ms e) (omega arith)
    by ih false e true f = rw (put_first n m ms e f) (omega arith)
    by ih false e false f = rw (put_on n m ms e f) (omega arith)

pub rising-length : (ns : List (List ℕ)) → length (rising ns) ≤ length ns
unfolding rising
rising-length [] = omega arith
rising-length (n ∷ ns) = let a = rising-length ns in let b = put-length n (rising ns) in omega arith

-- What stands after a name -----------------------------------------------------------------------------------------------

module _ {A : Type 0} where
  pub keep-yes : (p : A → Bool) {x : A} → p x ≡ true → (xs : List A) → keep p (x ∷ xs) ≡ x ∷ keep p xs
  keep-yes p {x} h xs = ap (λ (b : Bool). cond b (x ∷ keep p xs) (keep p xs)) h

  pub keep-no : (p : A → Bool) {x : A} → p x ≡ false → (xs : List A) → keep p (x ∷ xs) ≡ keep p xs
  keep-no p {x} h xs = ap (λ (b : Bool). cond b (x ∷ keep p xs) (keep p xs)) h

pub keep-whole : (p : List ℕ → Bool) (xs : List (List ℕ)) → ((x : List ℕ) → In x xs → p x ≡ true) → keep p xs ≡ xs
keep-whole p [] h = refl
keep-whole p (x ∷ xs) h = keep-yes p (h x here) xs ∙ ap (λ (l : List (List ℕ)). x ∷ l) (keep-whole p xs (λ y i. h y (there i)))

pub keep-none : (p : List ℕ → Bool) (xs : List (List ℕ)) → ((x : List ℕ) → In x xs → p x ≡ false) → keep p xs ≡ []
keep-none p [] h = refl
keep-none p (x ∷ xs) h = keep-no p (h x here) xs ∙ keep-none p xs (λ y i. h y (there i))

-- the names after `last` start with the least of them, and go on with the names after that one
pub next-name : (last m : List ℕ) {ns : List (List ℕ)} → Rises ns → In m ns → before last m ≡ true
    → ((x : List ℕ) → In x ns → before last x ≡ true → before x m ≡ false) → keep (before last) ns ≡ m ∷ keep (before m) ns
next-name last m none i l h = none_in i
next-name last m (next {n = n} {ns = ns} f r) i l h = by (λ j k. next-name last m r j l k) (before last n) refl (in-or i)
  where
    by : (In m ns → ((x : List ℕ) → In x ns → before last x ≡ true → before x m ≡ false) → keep (before last) ns ≡ m ∷ keep (before m) ns)
        → (b : Bool) → before last n ≡ b → (m ≡ n) ⊎ In m ns → keep (before last) (n ∷ ns) ≡ m ∷ keep (before m) (n ∷ ns)
    by ih true e (inl q) =
        keep-yes (before last) e ns ∙ ap (λ (l : List (List ℕ)). n ∷ l) (keep-whole (before last) ns (λ x j. before_on last n x e (f x j)))
        ∙ (λ k. sym q k ∷ ns)
        ∙ ap (λ (l : List (List ℕ)). m ∷ l)
        (sym (keep-no (before m) (subst (λ (z : List ℕ). before m z ≡ false) q (before_self m)) ns ∙ keep-whole (before m) ns
        (λ x j. subst (λ (z : List ℕ). before z x ≡ true) (sym q) (f x j))))
    by ih true e (inr j) = never (sym (f m j) ∙ h n here e)
    by ih false e (inl q) = never (sym l ∙ subst (λ (z : List ℕ). before last z ≡ false) (sym q) e)
    by ih false e (inr j) =
        keep-no (before last) e ns ∙ ih j (λ x k. h x (there k))
        ∙ ap (λ (l : List (List ℕ)). m ∷ l) (sym (keep-no (before m) (before_back n m (f m j)) ns))
