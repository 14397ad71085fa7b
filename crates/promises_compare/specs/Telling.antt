-- The names under which two disks differ, rising, and the difference told of each.
use Rattle.std.specs.Prelude.{◌≡◌, refl, ◌≢◌, ◌⊎◌, Bool, true, List, [], ◌∷◌, ◌++◌, map, ℕ, zero, suc, ◌<◌, ◌≤◌, length, get_or, drop}
use Rattle.std.proofs.Common.{sym, ap, subst, ◌∙◌, inl, inr, ⊎_elim, arith}
use Rattle.std.proofs.Math.Bool.{false}
use Rattle.std.proofs.lemmas.List.{length-map}
use Rattle.meaning.specs.Refusal.{unplaced}
use Rattle.meaning.specs.Lists.{keep}
use Rattle.meaning.specs.Entries.{name_of}
use Rattle.meaning.specs.Chain.{files}
use Rattle.meaning.specs.Plain.{nothing, plain}
use Rattle.meaning.specs.declared.Geometry.{Geometry}
use Rattle.laws.specs.Facts as facts
use Rattle.laws.specs.Named as named
use Rattle.differences.specs.Compare.{before, rising, difference, is_one, tells_none, tell_first, names, merged, at', differences}
use Rattle.differences.specs.Order.{In, here, there, never, before_self, before_back, in-here, in-or, none_in, in_left, in_right, in_either, in_map, Rises}
use Rattle.differences.specs.Order.{none, next, rising-rises, rising-in, in-rising, keep-yes, keep-no}
use Rattle.differences.specs.declared.Difference.{Difference}
use Rattle.promises_compare.specs.Statement.{swapped, turned}

-- Rising lists -----------------------------------------------------------------------------------------------------------------

pub keep-in : (p : List ℕ → Bool) {x : List ℕ} (ns : List (List ℕ)) → In x (keep p ns) → In x ns × (p x ≡ true)
keep-in p [] i = none_in i
keep-in p {x} (n ∷ ns) i = by (λ j. keep-in p ns j) (p n) refl
  where
    by : (In x (keep p ns) → In x ns × (p x ≡ true)) → (b : Bool) → p n ≡ b → In x (n ∷ ns) × (p x ≡ true)
    by ih true e =
        ⊎_elim (λ q. (in-here ns q, ap p q ∙ e)) (λ j. let k = ih j in (there k.0, k.1))
        (in-or (subst (λ (l : List (List ℕ)). In x l) (keep-yes p e ns) i))
    by ih false e = let k = ih (subst (λ (l : List (List ℕ)). In x l) (keep-no p e ns) i) in (there k.0, k.1)

pub in-keep : (p : List ℕ → Bool) {x : List ℕ} (ns : List (List ℕ)) → In x ns → p x ≡ true → In x (keep p ns)
in-keep p [] i e = none_in i
in-keep p {x} (n ∷ ns) i e = by (λ j. in-keep p ns j e) (p n) refl (in-or i)
  where
    by : (In x ns → In x (keep p ns)) → (b : Bool) → p n ≡ b → (x ≡ n) ⊎ In x ns → In x (keep p (n ∷ ns))
    by ih true f (inl q) = subst (λ (l : List (List ℕ)). In x l) (sym (keep-yes p f ns)) (in-here (keep p ns) q)
    by ih true f (inr j) = subst (λ (l : List (List ℕ)). In x l) (sym (keep-yes p f ns)) (there (ih j))
    by ih false f (inl q) = never (sym e ∙ ap p q ∙ f)
    by ih false f (inr j) = subst (λ (l : List (List ℕ)). In x l) (sym (keep-no p f ns)) (ih j)

keep-rises : (p : List ℕ → Bool) {ns : List (List ℕ)} → Rises ns → Rises (keep p ns)
keep-rises p none = none
keep-rises p (next {n} {ns} h r) = by (keep-rises p r) (p n) refl
  where
    by : Rises (keep p ns) → (b : Bool) → p n ≡ b → Rises (keep p (n ∷ ns))
    by ih true e = subst Rises (sym (keep-yes p e ns)) (next (λ m i. h m (keep-in p ns i).0) ih)
    by ih false e = subst Rises (sym (keep-no p e ns)) ih

pub get_or-in : (ns : List (List ℕ)) (i : ℕ) → i < length ns → In (get_or ns i []) ns
get_or-in [] i l = absurd (let q : ⊥ = omega arith in q)
get_or-in (n ∷ ns) zero l = here
get_or-in (n ∷ ns) (suc i) l = there (get_or-in ns i (omega arith))

pub in-get_or : {x : List ℕ} (ns : List (List ℕ)) → In x ns → (i : ℕ) × (i < length ns) × (get_or ns i [] ≡ x)
in-get_or [] i = none_in i
in-get_or (n ∷ ns) here = (0, omega arith, refl)
in-get_or (n ∷ ns) (there i) = let k = in-get_or ns i in (suc k.0, let l = k.1 in omega arith, k.2)

pub get_or-rises : {ns : List (List ℕ)} → Rises ns → (i j : ℕ) → i < j → j < length ns → before (get_or ns i []) (get_or ns j []) ≡ true
get_or-rises none i j l m = absurd (let q : ⊥ = omega arith in q)
get_or-rises (next h r) i zero l m = absurd (let q : ⊥ = omega arith in q)
get_or-rises (next {n} {ns} h r) zero (suc j) l m = h (get_or ns j []) (get_or-in ns j (omega arith))
get_or-rises (next h r) (suc i) (suc j) l m = get_or-rises r i j (omega arith) (omega arith)

-- rising lists with the same members are equal
rises-same : {ns ms : List (List ℕ)} → Rises ns → Rises ms → ((x : List ℕ) → In x ns → In x ms) → ((x : List ℕ) → In x ms → In x ns) → ns ≡ ms
rises-same none none f k = refl
rises-same none (next {n} h r) f k = none_in (k n here)
rises-same (next {n} h r) none f k = none_in (f n here)
rises-same (next {n} {ns} h r) (next {n = m} {ns = ms} k s) f o =
    let e = heads (in-or (f n here)) (in-or (o m here)) in
    let q = rises-same r s (λ x i. drop-first e (f x (there i)) (h x i)) (λ x i. drop-first (sym e) (o x (there i)) (k x i)) in
    λ i. e i ∷ q i
  where
    heads : (n ≡ m) ⊎ In n ms → (m ≡ n) ⊎ In m ns → n ≡ m
    heads (inl e) w = e
    heads (inr i) (inl e) = sym e
    heads (inr i) (inr j) = never (sym (h m j) ∙ before_back m n (k n i))

    drop-first : {x y z : List ℕ} {xs : List (List ℕ)} → z ≡ y → In x (y ∷ xs) → before z x ≡ true → In x xs
    drop-first {x} {y} {z} e i l = ⊎_elim (λ q. never (sym l ∙ ap (before z) (q ∙ sym e) ∙ before_self z)) (λ j. j) (in-or i)

-- The names that differ ----------------------------------------------------------------------------------------------------------

keep-map : (p : Difference → Bool) (f : List ℕ → Difference) (ns : List (List ℕ)) → keep p (map f ns) ≡ map f (keep (λ n. p (f n)) ns)
keep-map p f [] = refl
keep-map p f (n ∷ ns) = by (keep-map p f ns) (p (f n)) refl
  where
    by : keep p (map f ns) ≡ map f (keep (λ m. p (f m)) ns) → (b : Bool) → p (f n) ≡ b → keep p (f n ∷ map f ns) ≡ map f (keep (λ m. p (f m)) (n ∷ ns))
    by ih true e = keep-yes p e (map f ns) ∙ ap (λ (l : List Difference). f n ∷ l) ih ∙ ap (map f) (sym (keep-yes (λ m. p (f m)) e ns))
    by ih false e = keep-no p e (map f ns) ∙ ih ∙ ap (map f) (sym (keep-no (λ m. p (f m)) e ns))

told_at : (f : List ℕ → Difference) (ns : List (List ℕ)) (i : ℕ) → i < length ns → tell_first (drop i (map f ns)) ≡ f (get_or ns i [])
unfolding tell_first
told_at f [] i l = absurd (let q : ⊥ = omega arith in q)
told_at f (n ∷ ns) zero l = refl
told_at f (n ∷ ns) (suc i) l = told_at f ns i (omega arith)

told-past : (xs : List Difference) (i : ℕ) → length xs ≤ i → tell_first (drop i xs) ≡ tells_none (unplaced 0)
unfolding tell_first
told-past [] zero l = refl
told-past [] (suc i) l = refl
told-past (x ∷ xs) zero l = absurd (let q : ⊥ = omega arith in q)
told-past (x ∷ xs) (suc i) l = told-past xs i (omega arith)

-- A disk's names -----------------------------------------------------------------------------------------------------------------

pub in-names : (g : Geometry) (d : List ℕ) → facts.Sound g d → (n : List ℕ) → (plain g d n ≡ nothing) ⊎ In n (names g d)
unfolding names
in-names g d c n = by (named.look g d c n)
  where
    by : ((p : ℕ) × facts.IsFile g d p × (name_of g d p ≡ n)) ⊎ ((p : ℕ) → facts.IsFile g d p → name_of g d p ≢ n) → (plain g d n ≡ nothing) ⊎ In n
        (map (name_of g d) (files g d))
    by (inl k) = inr (subst (λ (m : List ℕ). In m (map (name_of g d) (files g d))) k.2 (in_map (name_of g d) (facts.in-files g d k.0 k.1)))
    by (inr k) = inl (named.plain-none g d n k)

none-there : (n : List ℕ) → is_one (difference n nothing nothing) ≡ false
unfolding is_one difference
none-there n = refl

module _ (g : Geometry) (d : List ℕ) (g' : Geometry) (d' : List ℕ) where
  -- the names of the differences, in their order
  unfoldable pub differing : List (List ℕ)
  differing = keep (λ n. is_one (at' g d g' d' n)) (merged g d g' d')

  pub differences-are : differences g d g' d' ≡ map (at' g d g' d') differing
  unfolding differences differing
  differences-are = keep-map is_one (at' g d g' d') (merged g d g' d')

  pub many-are : length (differences g d g' d') ≡ length differing
  many-are = ap length differences-are ∙ length-map differing (at' g d g' d')

  pub differing-rises : Rises differing
  unfolding differing merged
  differing-rises = keep-rises (λ n. is_one (at' g d g' d' n)) (rising-rises (names g d ++ names g' d'))

  pub differing-in : {n : List ℕ} → In n differing → is_one (at' g d g' d' n) ≡ true
  unfolding differing
  differing-in i = (keep-in (λ n. is_one (at' g d g' d' n)) (merged g d g' d') i).1

  -- every name with a difference is among them
  pub in-differing : facts.Sound g d → facts.Sound g' d' → (n : List ℕ) → is_one (at' g d g' d' n) ≡ true → In n differing
  unfolding differing merged
  in-differing c c' n e =
      in-keep (λ m. is_one (at' g d g' d' m)) (rising (names g d ++ names g' d')) (in-rising (by (in-names g d c n) (in-names g' d' c' n))) e
    where
      nothing-there : plain g d n ≡ nothing → plain g' d' n ≡ nothing → is_one (at' g d g' d' n) ≡ false
      nothing-there p q = (λ i. is_one (difference n (p i) (q i))) ∙ none-there n

      by : (plain g d n ≡ nothing) ⊎ In n (names g d) → (plain g' d' n ≡ nothing) ⊎ In n (names g' d') → In n (names g d ++ names g' d')
      by (inr i) w = in_left (names g' d') i
      by (inl p) (inr i) = in_right (names g d) i
      by (inl p) (inl q) = never (sym e ∙ nothing-there p q)

  pub told_is : (i : ℕ) → i < length differing → tell_first (drop i (differences g d g' d')) ≡ at' g d g' d' (get_or differing i [])
  told_is i l = ap (λ (xs : List Difference). tell_first (drop i xs)) differences-are ∙ told_at (at' g d g' d') differing i l

  pub told_none : (i : ℕ) → length (differences g d g' d') ≤ i → tell_first (drop i (differences g d g' d')) ≡ tells_none (unplaced 0)
  told_none i l = told-past (differences g d g' d') i l

-- The other way round --------------------------------------------------------------------------------------------------------------

pub merged-swap : (g : Geometry) (d : List ℕ) (g' : Geometry) (d' : List ℕ) → merged g' d' g d ≡ merged g d g' d'
unfolding merged
merged-swap g d g' d' =
    rises-same (rising-rises (names g' d' ++ names g d)) (rising-rises (names g d ++ names g' d'))
    (λ x i. in-rising (turn (names g' d') (names g d) (rising-in (names g' d' ++ names g d) i)))
    (λ x i. in-rising (turn (names g d) (names g' d') (rising-in (names g d ++ names g' d') i)))
  where
    turn : {x : List ℕ} (ns ms : List (List ℕ)) → In x (ns ++ ms) → In x (ms ++ ns)
    turn ns ms i = ⊎_elim (λ j. in_right ms j) (λ j. in_left ns j) (in_either ns i)

pub map-swap : (f h : List ℕ → Difference) → ((n : List ℕ) → h n ≡ swapped (f n)) → ((x : Difference) → is_one (swapped x) ≡ is_one x) → (ns : List (List ℕ))
    → keep is_one (map h ns) ≡ map swapped (keep is_one (map f ns))
map-swap f h e k [] = refl
map-swap f h e k (n ∷ ns) = by (map-swap f h e k ns) (is_one (f n)) refl
  where
    by : keep is_one (map h ns) ≡ map swapped (keep is_one (map f ns)) → (b : Bool) → is_one (f n) ≡ b → keep is_one (h n ∷ map h ns) ≡ map swapped
        (keep is_one (f n ∷ map f ns))
    by ih true q =
        keep-yes is_one (ap is_one (e n) ∙ k (f n) ∙ q) (map h ns) ∙ (λ i. e n i ∷ ih i) ∙ ap (map swapped) (sym (keep-yes is_one q (map f ns)))
    by ih false q = keep-no is_one (ap is_one (e n) ∙ k (f n) ∙ q) (map h ns) ∙ ih ∙ ap (map swapped) (sym (keep-no is_one q (map f ns)))

pub tell-swap : (xs : List Difference) (i : ℕ) → tell_first (drop i (map swapped xs)) ≡ swapped (tell_first (drop i xs))
unfolding tell_first swapped turned
tell-swap [] zero = refl
tell-swap [] (suc i) = refl
tell-swap (x ∷ xs) zero = refl
tell-swap (x ∷ xs) (suc i) = tell-swap xs i
