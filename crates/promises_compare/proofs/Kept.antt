-- The promises of compare, proved: a theorem for each type of `Statement`.
use Rattle.std.specs.Prelude.{◌≡◌, refl, ◌⊎◌, Bool, true, false, not, cond, List, [], map, ℕ, ◌<◌, ◌≤◌, eqb, ltb, get_or, drop}
use Rattle.std.proofs.Common.{sym, ap, ◌∙◌, inl, inr, arith}
use Rattle.std.proofs.Math.Path.{subst}
use Rattle.std.proofs.Math.Decide.{ℕ_discrete}
use Rattle.std.proofs.Math.Dec.{not_T}
use borrow.Author.Tests.{eqb-true, ne_eqb, ltb-true, ltb-false}
use Rattle.meaning.specs.Lists.{keep}
use Rattle.meaning.specs.Refusal.{unplaced, naming}
use Rattle.meaning.specs.Refusals.{check}
use Rattle.meaning.specs.Plain.{is_system, Found, found, nothing, plain}
use Rattle.meaning.specs.declared.Geometry.{Geometry}
use Rattle.meaning.specs.declared.Refusal.{Refusal}
use Rattle.laws.specs.Facts as facts
use Rattle.lists.specs.Members
use Rattle.laws.specs.Passed.{check-passed}
use Rattle.together.specs.Statement as statement
use Rattle.differences.specs.Compare.{before, is_one, tells_none, tell_first, at', differences, merged, compare}
use Rattle.differences.specs.Order.{In, never, before_self}
use Rattle.differences.specs.Told.{difference-name, difference-number}
use Rattle.differences.specs.declared.Difference.{Difference}
use Rattle.promises_compare.specs.Statement.{Agree, neither, by_name, equal, Says, Both, many, Compares, Refuses, turned, swapped, EveryPair}
use Rattle.promises_compare.specs.Statement.{EveryRefusal, Swaps, Itself, Interleaved}
use Rattle.promises_compare.specs.Agreement.{plain-told, agree-none, none-agrees, says, swap-difference}
use Rattle.promises_compare.specs.Telling.{get_or-in, in-get_or, get_or-rises, differing, many-are, differing-rises, differing-in, in-differing, told_is}
use Rattle.promises_compare.specs.Telling.{told_none, merged-swap, map-swap, tell-swap}

-- a disk whose check answers 0 is consistent
sound : (g : Geometry) (d : List ℕ) → (check g d).number ≡ 0 → facts.Sound g d
sound g d e = (check-passed g d e).sound

nothing-one : is_one (tells_none (unplaced 0)) ≡ false
unfolding is_one
nothing-one = refl

module _ (g : Geometry) (d : List ℕ) (g' : Geometry) (d' : List ℕ) where
  accepted-is : Both g d g' d' → (i : ℕ) → compare g d g' d' i ≡ tell_first (drop i (differences g d g' d'))
  unfolding compare
  accepted-is b i = rw (b.first, b.second)

  -- the name that number i tells of
  named : ℕ → List ℕ
  named i = get_or (differing g d g' d') i []

  module _ (b : Both g d g' d') where
    told : (i : ℕ) → i < many g d g' d' → compare g d g' d' i ≡ at' g d g' d' (named i)
    unfolding named
    told i l = accepted-is b i ∙ told_is g d g' d' i (subst (λ (n : ℕ). i < n) (many-are g d g' d') l)

    name-is : (i : ℕ) → i < many g d g' d' → (compare g d g' d' i).name ≡ named i
    name-is i l = ap (λ (x : Difference). x.name) (told i l) ∙ difference-name (named i) (plain g d (named i)) (plain g' d' (named i))

    one : (i : ℕ) → i < many g d g' d' → is_one (at' g d g' d' (named i)) ≡ true
    unfolding named
    one i l = differing-in g d g' d' (get_or-in (differing g d g' d') i (subst (λ (n : ℕ). i < n) (many-are g d g' d') l))

    ends : (i : ℕ) → many g d g' d' ≤ i → compare g d g' d' i ≡ tells_none (unplaced 0)
    ends i l = accepted-is b i ∙ told_none g d g' d' i l

    tells : (i : ℕ) → i < many g d g' d' → Says (compare g d g' d' i) (plain g d (compare g d g' d' i).name) (plain g' d' (compare g d g' d' i).name)
    tells i l =
        subst (λ (n : List ℕ). Says (compare g d g' d' i) (plain g d n) (plain g' d' n)) (sym (name-is i l))
        (subst (λ (x : Difference). Says x (plain g d (named i)) (plain g' d' (named i))) (sym (told i l))
        (says (named i) (plain g d (named i)) (plain g' d' (named i)) (one i l)))

    not-agreed : (i : ℕ) → i < many g d g' d' → Agree (plain g d (compare g d g' d' i).name) (plain g' d' (compare g d g' d' i).name) → ⊥
    not-agreed i l a =
        never (sym (one i l) ∙ agree-none (named i) (subst (λ (n : List ℕ). Agree (plain g d n) (plain g' d' n)) (name-is i l) a))

    rises : (i j : ℕ) → i < j → j < many g d g' d' → before (compare g d g' d' i).name (compare g d g' d' j).name ≡ true
    unfolding named
    rises i j l m =
        let p = name-is i (omega arith) in let q = name-is j m in
        (λ k. before (p k) (q k)) ∙ get_or-rises (differing-rises g d g' d') i j l (subst (λ (n : ℕ). j < n) (many-are g d g' d') m)

    once : (i j : ℕ) → i < many g d g' d' → j < many g d g' d' → (compare g d g' d' i).name ≡ (compare g d g' d' j).name → i ≡ j
    once i j l m e = by (ltb i j) refl (ltb j i) refl
      where
        by : (a : Bool) → ltb i j ≡ a → (b : Bool) → ltb j i ≡ b → i ≡ j
        by true p b q = never (sym (rises i j (ltb-true i j p) m) ∙ ap (before (compare g d g' d' i).name) (sym e) ∙ before_self (compare g d g' d' i).name)
        by false p true q = never (sym (rises j i (ltb-true j i q) l) ∙ ap (before (compare g d g' d' j).name) e ∙ before_self (compare g d g' d' j).name)
        by false p false q = let x = ltb-false i j p in let y = ltb-false j i q in omega arith

    -- the name is told, or the lists agree under it
    look : (n : List ℕ) → Agree (plain g d n) (plain g' d' n) ⊎ In n (differing g d g' d')
    look n = by (is_one (at' g d g' d' n)) refl
      where
        by : (t : Bool) → is_one (at' g d g' d' n) ≡ t → Agree (plain g d n) (plain g' d' n) ⊎ In n (differing g d g' d')
        by true e = inr (in-differing g d g' d' (sound g d b.first) (sound g' d' b.second) n e)
        by false e = inl (none-agrees n (plain-told g d n) (plain-told g' d' n) e)

    at-number : (n : List ℕ) → In n (differing g d g' d') → (i : ℕ) × (i < many g d g' d') × ((compare g d g' d' i).name ≡ n)
    unfolding named
    at-number n j =
        let k = in-get_or (differing g d g' d') j in let l = subst (λ (m : ℕ). k.0 < m) (sym (many-are g d g' d')) k.1 in
        (k.0, l, name-is k.0 l ∙ k.2)

    every' : (n : List ℕ) → (Agree (plain g d n) (plain g' d' n) → ⊥) → (i : ℕ) × (i < many g d g' d') × ((compare g d g' d' i).name ≡ n)
    every' n f = by (look n)
      where
        by : Agree (plain g d n) (plain g' d' n) ⊎ In n (differing g d g' d') → (i : ℕ) × (i < many g d g' d') × ((compare g d g' d' i).name ≡ n)
        by (inl a) = absurd (f a)
        by (inr j) = at-number n j

    -- where the lists agree, nothing is told
    pub agreed : ((n : List ℕ) → Agree (plain g d n) (plain g' d' n)) → (i : ℕ) → compare g d g' d' i ≡ tells_none (unplaced 0)
    agreed f i = ends i (by (ltb i (many g d g' d')) refl)
      where
        by : (t : Bool) → ltb i (many g d g' d') ≡ t → many g d g' d' ≤ i
        by true e = absurd (not-agreed i (ltb-true i (many g d g' d') e) (f (compare g d g' d' i).name))
        by false e = ltb-false i (many g d g' d') e

    none_told : compare g d g' d' 0 ≡ tells_none (unplaced 0) → (n : List ℕ) → Agree (plain g d n) (plain g' d' n)
    none_told e n = by (look n)
      where
        by : Agree (plain g d n) (plain g' d' n) ⊎ In n (differing g d g' d') → Agree (plain g d n) (plain g' d' n)
        by (inl a) = a
        by (inr j) =
            let k = at-number n j in let l = k.1 in let z : 0 < many g d g' d' = omega arith in
            never (sym (one 0 z) ∙ ap is_one (sym (told 0 z) ∙ e) ∙ nothing-one)

    pub compares : Compares g d g' d' (many g d g' d') (compare g d g' d')
    compares =
        record {
          none = (none_told, λ f. agreed f 0);
          ends = ends;
          tells = tells;
          is_one' = λ i l. (
            ap (λ (x : Difference). x.refusal.number) (told i l) ∙ difference-number (named i) (plain g d (named i)) (plain g' d' (named i)),
            not-agreed i l,
          );
          rises = rises;
          every' = every';
          once = once;
        }

  number_of : Both g d g' d' → (i : ℕ) → (compare g d g' d' i).refusal.number ≡ 0
  number_of b i = by (ltb i (many g d g' d')) refl
    where
      by : (t : Bool) → ltb i (many g d g' d') ≡ t → (compare g d g' d' i).refusal.number ≡ 0
      by true e = ((compares b).is_one' i (ltb-true i (many g d g' d') e)).0
      by false e = ap (λ (x : Difference). x.refusal.number) (ends b i (ltb-false i (many g d g' d') e))

  pub refuses : Refuses g d g' d' (compare g d g' d')
  unfolding compare
  refuses =
      record {
        first = λ i z. rw (ne_eqb (check g d).number 0 z);
        second = λ i e z. rw (e, ne_eqb (check g' d').number 0 z);
        neither = λ i e f. number_of (record { first = e; second = f }) i;
      }

pub every-pair : EveryPair
every-pair g d g' d' b = compares g d g' d' b

pub every-refusal : EveryRefusal
every-refusal g d g' d' = refuses g d g' d'

-- Sides ----------------------------------------------------------------------------------------------------------------------

one-swapped : (x : Difference) → is_one (swapped x) ≡ is_one x
unfolding is_one swapped turned
one-swapped x = by (eqb x.kind 1) refl (eqb x.kind 2) refl
  where
    by : (a : Bool) → eqb x.kind 1 ≡ a → (b : Bool) → eqb x.kind 2 ≡ b → not (eqb (cond (eqb x.kind 1) 2 (cond (eqb x.kind 2) 1 x.kind)) 0) ≡
        not (eqb x.kind 0)
    by true p b q = let e = eqb-true x.kind 1 p in rw e
    by false p true q = let e = eqb-true x.kind 2 q in rw e
    by false p false q = rw (p, q)

differences-swap : (g : Geometry) (d : List ℕ) (g' : Geometry) (d' : List ℕ) → differences g' d' g d ≡ map swapped (differences g d g' d')
unfolding differences
differences-swap g d g' d' =
    ap (λ (ns : List (List ℕ)). keep is_one (map (at' g' d' g d) ns)) (merged-swap g d g' d')
    ∙ map-swap (at' g d g' d') (at' g' d' g d) (λ n. swap-difference n (plain g d n) (plain g' d' n)) one-swapped (merged g d g' d')

none-swapped : (c : Refusal) (image : ℕ) → swapped (tells_none (naming image c)) ≡ tells_none (naming (turned image) c)
unfolding swapped turned
none-swapped c image = refl

turned-1 : turned 1 ≡ 2
unfolding turned
turned-1 = refl

turned-2 : turned 2 ≡ 1
unfolding turned
turned-2 = refl

pub swaps : Swaps
swaps g d g' d' w i = by (ℕ_discrete (check g d).number 0) (ℕ_discrete (check g' d').number 0) w
  where
    by : Dec ((check g d).number ≡ 0) → Dec ((check g' d').number ≡ 0) → ((check g d).number ≡ 0) ⊎ ((check g' d').number ≡ 0) → compare g' d' g d i ≡ swapped
        (compare g d g' d' i)
    by (yes e) (yes f) v =
        accepted-is g' d' g d (record { first = f; second = e }) i ∙ ap (λ (xs : List Difference). tell_first (drop i xs)) (differences-swap g d g' d')
        ∙ tell-swap (differences g d g' d') i ∙ ap swapped (sym (accepted-is g d g' d' (record { first = e; second = f }) i))
    by (yes e) (no f) v =
        (refuses g' d' g d).first i f ∙ ap (λ (i : ℕ). tells_none (naming i (check g' d'))) (sym turned-2) ∙ sym (none-swapped (check g' d') 2) ∙ ap swapped
        (sym ((refuses g d g' d').second i e f))
    by (no e) (yes f) v =
        (refuses g' d' g d).second i f e ∙ ap (λ (i : ℕ). tells_none (naming i (check g d))) (sym turned-1) ∙ sym (none-swapped (check g d) 1) ∙ ap swapped
        (sym ((refuses g d g' d').first i e))
    by (no e) (no f) (inl v) = absurd (e v)
    by (no e) (no f) (inr v) = absurd (f v)

-- Disks alike ----------------------------------------------------------------------------------------------------------------

with_itself : (x : Found) → Agree x x
with_itself nothing = neither
with_itself (found f) = equal (record { attributes = refl; bytes = refl })

pub itself : Itself
itself g d e = agreed g d g d (record { first = e; second = e }) (λ n. with_itself (plain g d n))

same-agree : {x y : Found} → statement.Same x y → Agree x y
same-agree statement.Same.neither = neither
same-agree (statement.Same.both {f} {f'} a) = by (is_system f) refl
  where
    by : (t : Bool) → is_system f ≡ t → Agree (found f) (found f')
    by true e = by_name (inl e)
    by false e = equal (record { attributes = a.attributes; bytes = a.bytes (not_T (is_system f) (λ t. Members.false-no e t)) })

pub interleaved : Interleaved
interleaved g d d' e f s = agreed g d g d' (record { first = e; second = f }) (λ n. same-agree (s n))
