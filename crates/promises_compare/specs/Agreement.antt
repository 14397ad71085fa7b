-- What stands under one name: when it is a difference, and what that says.
use Rattle.std.specs.Prelude.{◌≡◌, refl, ◌≢◌, ◌↔◌, ◌⊎◌, Bool, true, false, ◌||◌, List, [], ◌∷◌, ℕ, zero, suc, ◌/◌, ◌%◌, ◌<◌, ◌≤◌, T, eqb, length, get_or, drop}
use Rattle.std.proofs.Common.{sym, subst, ◌∙◌, inl, inr, arith, eqb-true, eq-eqb, ne_eqb}
use Rattle.std.proofs.Math.Path.{ap}
use Rattle.std.proofs.Math.Bool.{not, cond}
use Rattle.std.proofs.lemmas.Bool.{eqb-false}
use Rattle.meaning.specs.Refusal.{unplaced}
use Rattle.meaning.specs.Lists.{same, any}
use Rattle.meaning.specs.LookUp.{named}
use Rattle.meaning.specs.Plain.{is_system, File, Found, found, nothing, file_at, found_in, plain}
use Rattle.meaning.specs.declared.Geometry.{Geometry}
use Rattle.lists.specs.Members
use Rattle.differences.specs.Compare.{parting, date_of, others_of, name_only, unlike, difference, is_one}
use Rattle.differences.specs.Order.{never}
use Rattle.differences.proofs.Parting.{parting-none, parting-nothing, parting-on, parting-here, parting-swap}
use Rattle.differences.specs.declared.Difference.{Difference}
use Rattle.promises_compare.specs.Statement.{Equal, Agree, neither, by_name, equal, Parts, Unlike, Says, only_first, only_second, in_both, turned, swapped}

-- Two lists ------------------------------------------------------------------------------------------------------------------

same-yes : (xs ys : List ℕ) → same xs ys ≡ true → xs ≡ ys
same-yes xs ys e = Members.same-eq xs ys (Members.true-T e)

yes-same : (xs ys : List ℕ) → xs ≡ ys → same xs ys ≡ true
yes-same xs ys e = Members.T_true (subst (λ (l : List ℕ). T (same xs l)) e (Members.same_refl xs))

same-no : (xs ys : List ℕ) → (not (same xs ys) ≡ true) ↔ (xs ≢ ys)
same-no xs ys = (λ e q. never (sym e ∙ ap not (yes-same xs ys q)), λ f. by (same xs ys) refl f)
  where
    by : (b : Bool) → same xs ys ≡ b → xs ≢ ys → not (same xs ys) ≡ true
    by true e f = absurd (f (same-yes xs ys e))
    by false e f = ap not e

size-no : (m n : ℕ) → (not (eqb m n) ≡ true) ↔ (m ≢ n)
size-no m n = (λ e q. never (sym e ∙ ap not (eq-eqb m n q)), λ f. ap not (ne_eqb m n f))

same-swap : (xs ys : List ℕ) → same xs ys ≡ same ys xs
same-swap xs ys =
    Members.both-T {a = same xs ys} {b = same ys xs}
    (λ t. Members.true-T (yes-same ys xs (sym (Members.same-eq xs ys t)))) (λ t. Members.true-T (yes-same xs ys (sym (Members.same-eq ys xs t))))

eqb_swap : (m n : ℕ) → eqb m n ≡ eqb n m
eqb_swap m n = by (eqb m n) refl
  where
    by : (b : Bool) → eqb m n ≡ b → eqb m n ≡ eqb n m
    by true e = e ∙ sym (eq-eqb n m (sym (eqb-true m n e)))
    by false e = e ∙ sym (ne_eqb n m (λ q. eqb-false m n e (sym q)))

-- the position is the first where the contents part
pub parts : (xs ys : List ℕ) → Parts xs ys (parting xs ys)
parts [] ys = rw (parting-nothing ys) (record {
  within = (omega arith, omega arith);
  alike = λ j l. absurd (let q : ⊥ = omega arith in q);
  part = λ l. absurd
      (let q : ⊥ = omega arith in q);
})
parts (x ∷ xs) [] = rw (parting-none (x ∷ xs)) (record
    { within = (omega arith, omega arith); alike = λ j l. absurd (let q : ⊥ = omega arith in q); part = λ l m. absurd (let q : ⊥ = omega arith in q) })
parts (x ∷ xs) (y ∷ ys) = by (parts xs ys) (eqb x y) refl
  where
    by : Parts xs ys (parting xs ys) → (b : Bool) → eqb x y ≡ b → Parts (x ∷ xs) (y ∷ ys) (parting (x ∷ xs) (y ∷ ys))
    by p true e =
        let w = p.within in
        rw (parting-on x y xs ys (eqb-true x y e))
        (record { within = (omega arith, omega arith); alike = at; part = λ l m. p.part (omega arith) (omega arith) })
      where
        at : (j : ℕ) → j < suc (parting xs ys) → get_or (x ∷ xs) j 0 ≡ get_or (y ∷ ys) j 0
        at zero l = eqb-true x y e
        at (suc j) l = p.alike j (omega arith)
    by p false e =
        rw (parting-here x y xs ys (eqb-false x y e)) (record
        { within = (omega arith, omega arith); alike = λ j l. absurd (let q : ⊥ = omega arith in q); part = λ l m. eqb-false x y e })

-- Attributes -----------------------------------------------------------------------------------------------------------------

-- a list of at least three bytes is fixed by date and other attributes
three : (xs ys : List ℕ) → 3 ≤ length xs → 3 ≤ length ys → get_or xs 2 0 ≡ get_or ys 2 0 → get_or xs 1 0 % 32 ≡ get_or ys 1 0 % 32
    → get_or xs 0 0 ≡ get_or ys 0 0 → get_or xs 1 0 / 32 ≡ get_or ys 1 0 / 32 → drop 3 xs ≡ drop 3 ys → xs ≡ ys
three (x ∷ x' ∷ x'' ∷ xs) (y ∷ y' ∷ y'' ∷ ys) l m a b c e f = let z : x' ≡ y' = omega arith in λ i. c i ∷ z i ∷ a i ∷ f i
three [] ys l m a b c e f = absurd (let q : ⊥ = omega arith in q)
three (x ∷ []) ys l m a b c e f = absurd (let q : ⊥ = omega arith in q)
three (x ∷ x' ∷ []) ys l m a b c e f = absurd (let q : ⊥ = omega arith in q)
three (x ∷ x' ∷ x'' ∷ xs) [] l m a b c e f = absurd (let q : ⊥ = omega arith in q)
three (x ∷ x' ∷ x'' ∷ xs) (y ∷ []) l m a b c e f = absurd (let q : ⊥ = omega arith in q)
three (x ∷ x' ∷ x'' ∷ xs) (y ∷ y' ∷ []) l m a b c e f = absurd (let q : ⊥ = omega arith in q)

-- what a disk tells has all its attributes
pub data Told : Found → Type 0 where
  none : Told nothing
  some : {f : File} → 3 ≤ length f.attributes → Told (found f)

found-told : (g : Geometry) (d ps : List ℕ) → Told (found_in g d ps)
unfolding found_in file_at
found-told g d [] = none
found-told g d (p ∷ ps) = some {f = file_at g d p} (omega arith)

pub plain-told : (g : Geometry) (d n : List ℕ) → Told (plain g d n)
unfolding plain
plain-told g d n = found-told g d (named g d n)

head-is : {x y : ℕ} {xs ys : List ℕ} → x ∷ xs ≡ y ∷ ys → x ≡ y
head-is e = ap (λ (l : List ℕ). get_or l 0 0) e

tail-is : {x y : ℕ} {xs ys : List ℕ} → x ∷ xs ≡ y ∷ ys → xs ≡ ys
tail-is e = ap (λ (l : List ℕ). drop 1 l) e

equal-files : (f f' : File) → 3 ≤ length f.attributes → 3 ≤ length f'.attributes → f.bytes ≡ f'.bytes → date_of f ≡ date_of f' → others_of f ≡ others_of
    f' → Equal f f'
equal-files f f' l m b e o =
    record {
      attributes = three f.attributes f'.attributes l m (head-is e) (head-is (tail-is e)) (head-is o) (head-is (tail-is o))
          (tail-is (tail-is o));
      bytes = b;
    }

-- Four tests -----------------------------------------------------------------------------------------------------------------

data Four (a b c e : Bool) : Type 0 where
  none-holds : a ≡ false → b ≡ false → c ≡ false → e ≡ false → Four a b c e
  one_holds : any (a ∷ b ∷ c ∷ e ∷ []) ≡ true → Four a b c e

four : (a b c e : Bool) → Four a b c e
unfolding any
four true b c e = one_holds refl
four false true c e = one_holds refl
four false false true e = one_holds refl
four false false false true = one_holds refl
four false false false false = none-holds refl refl refl refl

no-four : {a b c e : Bool} → a ≡ false → b ≡ false → c ≡ false → e ≡ false → any (a ∷ b ∷ c ∷ e ∷ []) ≡ false
unfolding any
no-four p q r s = rw (p, q, r, s)

-- Two files ------------------------------------------------------------------------------------------------------------------

no-not : {b : Bool} → not b ≡ false → b ≡ true
no-not {b = true} e = refl
no-not {b = false} e = never e

module _ (n : List ℕ) (f f' : File) where
  abbrev tests : List Bool
  tests =
      not (same f.bytes f'.bytes) ∷ not (eqb (length f.bytes) (length f'.bytes))
      ∷ not (same (date_of f) (date_of f')) ∷ not (same (others_of f) (others_of f')) ∷ []

  kind-is : {b : Bool} → any tests ≡ b → (unlike n f f').kind ≡ cond b 3 0
  unfolding unlike
  kind-is e = ap (λ (t : Bool). cond t 3 0) e

  one-is : {b : Bool} → any tests ≡ b → is_one (unlike n f f') ≡ b
  unfolding is_one
  one-is {b = true} e = ap (λ (k : ℕ). not (eqb k 0)) (kind-is e)
  one-is {b = false} e = ap (λ (k : ℕ). not (eqb k 0)) (kind-is e)

  -- equal files are no difference, and only they
  equal-none : Equal f f' → is_one (unlike n f f') ≡ false
  equal-none q =
      one-is (no-four
      (ap not (yes-same f.bytes f'.bytes q.bytes))
      (ap not (eq-eqb (length f.bytes) (length f'.bytes) (ap length q.bytes)))
      (ap not (yes-same (date_of f) (date_of f') (ap (λ (l : List ℕ). get_or l 2 0 ∷ get_or l 1 0 % 32 ∷ []) q.attributes)))
      (ap not (yes-same (others_of f) (others_of f') (ap (λ (l : List ℕ). get_or l 0 0 ∷ get_or l 1 0 / 32 ∷ drop 3 l) q.attributes))))

  none_equal : 3 ≤ length f.attributes → 3 ≤ length f'.attributes → is_one (unlike n f f') ≡ false → Equal f f'
  none_equal l m e =
      by (four (not (same f.bytes f'.bytes)) (not (eqb (length f.bytes) (length f'.bytes))) (not (same (date_of f) (date_of f')))
      (not (same (others_of f) (others_of f'))))
    where
      by : Four (not (same f.bytes f'.bytes)) (not (eqb (length f.bytes) (length f'.bytes))) (not (same (date_of f) (date_of f')))
          (not (same (others_of f) (others_of f'))) → Equal f f'
      by (none-holds p q r s) =
          equal-files f f' l m (same-yes f.bytes f'.bytes (no-not p)) (same-yes (date_of f) (date_of f') (no-not r))
          (same-yes (others_of f) (others_of f') (no-not s))
      by (one_holds p) = never (sym (one-is p) ∙ e)

  -- what is told of two files
  unlike-says : is_system f ≡ false → is_system f' ≡ false → Unlike (unlike n f f') f f'
  unfolding unlike
  unlike-says u v =
      record {
        user = (u, v);
        position = parts f.bytes f'.bytes;
        contents = same-no f.bytes f'.bytes;
        size = size-no (length f.bytes) (length f'.bytes);
        date = same-no (date_of f) (date_of f');
        other = same-no (others_of f) (others_of f');
      }

  kind-three : is_one (unlike n f f') ≡ true → (unlike n f f').kind ≡ 3
  kind-three e = by (any tests) refl
    where
      by : (b : Bool) → any tests ≡ b → (unlike n f f').kind ≡ 3
      by true q = kind-is q
      by false q = never (sym e ∙ one-is q)

  -- one of the two is a system file, or neither is
  data Either : Type 0 where
    named-only : any (is_system f ∷ is_system f' ∷ []) ≡ true → (is_system f ≡ true) ⊎ (is_system f' ≡ true) → Either
    both-user : any (is_system f ∷ is_system f' ∷ []) ≡ false → is_system f ≡ false → is_system f' ≡ false → Either

  any-two : (a b : Bool) → is_system f ≡ a → is_system f' ≡ b → any (is_system f ∷ is_system f' ∷ []) ≡ a || (b || false)
  unfolding any
  any-two a b p q = λ i. p i || (q i || false)

  either : Either
  either = by (is_system f) refl (is_system f') refl
    where
      by : (a : Bool) → is_system f ≡ a → (b : Bool) → is_system f' ≡ b → Either
      by true p b q = named-only (any-two true b p q) (inl p)
      by false p true q = named-only (any-two false true p q) (inr q)
      by false p false q = both-user (any-two false false p q) p q

  by-name : any (is_system f ∷ is_system f' ∷ []) ≡ true → difference n (found f) (found f') ≡ name_only n 0
  unfolding difference
  by-name e = ap (λ (t : Bool). cond t (name_only n 0) (unlike n f f')) e

  by_all : any (is_system f ∷ is_system f' ∷ []) ≡ false → difference n (found f) (found f') ≡ unlike n f f'
  unfolding difference
  by_all e = ap (λ (t : Bool). cond t (name_only n 0) (unlike n f f')) e

nameless : (n : List ℕ) → is_one (name_only n 0) ≡ false
unfolding is_one
nameless n = refl

-- What stands under a name ----------------------------------------------------------------------------------------------------

first-is : (n : List ℕ) (f : File) → difference n (found f) nothing ≡ name_only n 1
unfolding difference
first-is n f = refl

second_is : (n : List ℕ) (f : File) → difference n nothing (found f) ≡ name_only n 2
unfolding difference
second_is n f = refl

neither-is : (n : List ℕ) → difference n nothing nothing ≡ name_only n 0
unfolding difference
neither-is n = refl

only_one : (n : List ℕ) {k : ℕ} → (k ≡ 0 → ⊥) → is_one (name_only n k) ≡ true
unfolding is_one
only_one n {k} z = ap not (ne_eqb k 0 z)

pub agree-none : (n : List ℕ) {a b : Found} → Agree a b → is_one (difference n a b) ≡ false
agree-none n neither = ap is_one (neither-is n) ∙ nameless n
agree-none n (by_name {f} {f'} w) = by (either n f f')
  where
    by : Either n f f' → is_one (difference n (found f) (found f')) ≡ false
    by (named-only e v) = ap is_one (by-name n f f' e) ∙ nameless n
    by (both-user e u v) = absurd (no w)
      where
        no : (is_system f ≡ true) ⊎ (is_system f' ≡ true) → ⊥
        no (inl q) = never (sym q ∙ u)
        no (inr q) = never (sym q ∙ v)
agree-none n (equal {f} {f'} w) = by (either n f f')
  where
    by : Either n f f' → is_one (difference n (found f) (found f')) ≡ false
    by (named-only e v) = ap is_one (by-name n f f' e) ∙ nameless n
    by (both-user e u v) = ap is_one (by_all n f f' e) ∙ equal-none n f f' w

pub none-agrees : (n : List ℕ) {a b : Found} → Told a → Told b → is_one (difference n a b) ≡ false → Agree a b
none-agrees n none none e = neither
none-agrees n (some {f} l) none e = never (sym (ap is_one (first-is n f) ∙ only_one n (λ q. omega arith)) ∙ e)
none-agrees n none (some {f} l) e = never (sym (ap is_one (second_is n f) ∙ only_one n (λ q. omega arith)) ∙ e)
none-agrees n (some {f} l) (some {f = f'} m) e = by (either n f f')
  where
    by : Either n f f' → Agree (found f) (found f')
    by (named-only q v) = by_name v
    by (both-user q u v) = equal (none_equal n f f' l m (sym (ap is_one (by_all n f f' q)) ∙ e))

pub says : (n : List ℕ) (a b : Found) → is_one (difference n a b) ≡ true → Says (difference n a b) a b
says n nothing nothing e = never (sym e ∙ ap is_one (neither-is n) ∙ nameless n)
says n (found f) nothing e = only_first (ap (λ (x : Difference). x.kind) (first-is n f))
says n nothing (found f) e = only_second (ap (λ (x : Difference). x.kind) (second_is n f))
says n (found f) (found f') e = by (either n f f')
  where
    by : Either n f f' → Says (difference n (found f) (found f')) (found f) (found f')
    by (named-only q v) = never (sym e ∙ ap is_one (by-name n f f' q) ∙ nameless n)
    by (both-user q u v) =
        subst (λ (x : Difference). Says x (found f) (found f')) (sym (by_all n f f' q))
        (in_both (kind-three n f f' (sym (ap is_one (by_all n f f' q)) ∙ e)) (unlike-says n f f' u v))

-- The other way round ---------------------------------------------------------------------------------------------------------

pub turned-three : (b : Bool) → cond b 3 0 ≡ turned (cond b 3 0)
unfolding turned
turned-three true = refl
turned-three false = refl

unlike-swap : (n : List ℕ) (f f' : File) → unlike n f' f ≡ swapped (unlike n f f')
unfolding unlike swapped turned
unlike-swap n f f' =
    let c = same-swap f'.bytes f.bytes in let s = eqb_swap (length f'.bytes) (length f.bytes) in
    let t = same-swap (date_of f') (date_of f) in let o = same-swap (others_of f') (others_of f) in
    λ i. record {
      refusal = unplaced 0;
      kind = ((λ j. cond (any (not (c j) ∷ not (s j) ∷ not (t j) ∷ not (o j) ∷ [])) 3 0) ∙ turned-three (any (tests n f f'))) i;
      name = n;
      at = parting-swap f'.bytes f.bytes i;
      contents = not (c i);
      size = not (s i);
      date = not (t i);
      other = not (o i);
    }

any_swap : (a b : Bool) → any (a ∷ b ∷ []) ≡ any (b ∷ a ∷ [])
unfolding any
any_swap true true = refl
any_swap true false = refl
any_swap false true = refl
any_swap false false = refl

swapped-0 : (n : List ℕ) → name_only n 0 ≡ swapped (name_only n 0)
unfolding swapped turned
swapped-0 n = refl

swapped-1 : (n : List ℕ) → name_only n 2 ≡ swapped (name_only n 1)
unfolding swapped turned
swapped-1 n = refl

swapped-2 : (n : List ℕ) → name_only n 1 ≡ swapped (name_only n 2)
unfolding swapped turned
swapped-2 n = refl

pub swap-difference : (n : List ℕ) (a b : Found) → difference n b a ≡ swapped (difference n a b)
swap-difference n nothing nothing = neither-is n ∙ swapped-0 n ∙ ap swapped (sym (neither-is n))
swap-difference n (found f) nothing = second_is n f ∙ swapped-1 n ∙ ap swapped (sym (first-is n f))
swap-difference n nothing (found f) = first-is n f ∙ swapped-2 n ∙ ap swapped (sym (second_is n f))
swap-difference n (found f) (found f') = by (either n f f')
  where
    by : Either n f f' → difference n (found f') (found f) ≡ swapped (difference n (found f) (found f'))
    by (named-only q v) = by-name n f' f (any_swap (is_system f') (is_system f) ∙ q) ∙ swapped-0 n ∙ ap swapped (sym (by-name n f f' q))
    by (both-user q u v) = by_all n f' f (any_swap (is_system f') (is_system f) ∙ q) ∙ unlike-swap n f f' ∙ ap swapped (sym (by_all n f f' q))
