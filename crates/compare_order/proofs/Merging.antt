-- Two tables gone along side by side.
use mathlib.Core.Path.{◌≡◌, refl, sym, ap, subst, ◌∙◌}
use mathlib.Core.Logic.{⊎_elim}
use mathlib.Core.Bool.{Bool, true, false}
use mathlib.Core.List.{List}
use Prim.Native.Nat.{ℕ, suc, ◌+◌, ◌≤◌, ◌<◌}
use native.Mathlib.Omega.{arith}
use lib.ListN.{length, get_or}
use Rattle.std.proofs.Common.{Option, None}
use Rattle.std.specs.Option.{MatchOption}
use Rattle.std.proofs.lemmas.Option.{MatchOption-at_none}
use Rattle.meaning.specs.Entries.{name_of}
use Rattle.meaning.specs.declared.Geometry.{Geometry}
use Rattle.lists.specs.Tests.{le-or-lt}
use Rattle.differences.specs.Compare.{before}
use Rattle.differences.specs.Order.{never, before_self, before_back, before_on, before-neither}
use Rattle.compare_order.specs.Whole.{WholeDisk, StartsFile}
use Rattle.compare_order.specs.Table.{name_in, InOrder, Reached}
use Rattle.compare_order.specs.declared.Pair.TheVariants.{First, Second, Both}
use Rattle.compare_order.specs.Walk.{Least, name_at, Merges, MergesNone}
use Rattle.compare_order.proofs.Pairs.{none_left, only-first, only-second, on_both}

-- One table ---------------------------------------------------------------------------------------------------------------

module _ (g : Geometry) (d : List ℕ) (o : List ℕ) (n : ℕ) (z : InOrder g d o n 256) where
  pub reached-start : (last : List ℕ) → ((p : ℕ) → StartsFile g d p → before last (name_of g d p) ≡ true) → Reached g d o n 0 last
  reached-start last f =
      record { low = omega arith; past = λ k l. absurd (let v : ⊥ = omega arith in v); ahead = λ k l m. f (get_or o k 0) (z.file k m) }

  -- the name at place i was met
  reached-on : (i : ℕ) (x : List ℕ) → i < n → x ≡ name_in g d o i → Reached g d o n (i + 1) x
  reached-on i x l e =
      subst (λ (y : List ℕ). Reached g d o n (i + 1) y) (sym e) (record {
        low = omega arith;
        past = λ k m. ⊎_elim
            (λ q. let f : i ≡ k = omega arith in subst (λ (y : ℕ). before (name_in g d o i) (name_in g d o y) ≡ false) f (before_self (name_in g d o i)))
            (λ q. before_back (name_in g d o k) (name_in g d o i) (z.rises k i q l)) (le-or-lt i k);
        ahead = λ k m j. z.rises i k (omega arith) j;
      })

  -- a name of the other table was met that comes before the one at place i
  reached-keep : (i : ℕ) (last x : List ℕ) → Reached g d o n i last → before last x ≡ true → (i < n → before x (name_in g d o i) ≡ true) → Reached g d o n i x
  reached-keep i last x t e f =
      record {
        low = t.low;
        past = λ k l. by k l (before x (name_in g d o k)) refl;
        ahead = λ k l m. ⊎_elim
            (λ q. let v : i ≡ k = omega arith in subst (λ (y : ℕ). before x (name_in g d o y) ≡ true) v (f (omega arith)))
            (λ q. before_on x (name_in g d o i) (name_in g d o k) (f (omega arith)) (z.rises i k q m)) (le-or-lt k i);
      }
    where
      by : (k : ℕ) → k < i → (b : Bool) → before x (name_in g d o k) ≡ b → before x (name_in g d o k) ≡ false
      by k l false q = q
      by k l true q = never (sym (before_on last x (name_in g d o k) e q) ∙ t.past k l)

  -- what is read at place i: the slot there, or none
  module _ {i s : ℕ} (a : i < n → s ≡ get_or o i 0) (b : n ≤ i → s ≡ 256) where
    pub held : s < 256 → i < n
    held l = ⊎_elim (λ q. absurd (let e = b q in let v : ⊥ = omega arith in v)) (λ q. q) (le-or-lt n i)

    pub holds-slot : i < n → s < 256
    holds-slot l = let e = a l in let f = (z.file i l).slot.low in omega arith

    pub at_most : s ≤ 256
    at_most = ⊎_elim (λ q. let e = b q in omega arith) (λ q. let e = holds-slot q in omega arith) (le-or-lt n i)

    pub starts-here : s < 256 → StartsFile g d s
    starts-here l = subst (StartsFile g d) (sym (a (held l))) (z.file i (held l))

    least_at : (last : List ℕ) → Reached g d o n i last → Least g d last 256 s
    least_at last t =
        record {
          low = at_most;
          none = λ e p l st.
              let x = z.each' p l st in
              let m : x.0 < i = let v = x.1 in
              ⊎_elim (λ q. omega arith) (λ q. absurd (let w = holds-slot q in let j : ⊥ = omega arith in j)) (le-or-lt n i) in
              subst (λ (y : ℕ). before last (name_of g d y) ≡ false) x.2 (t.past x.0 m);
          is = starts-here;
          after = λ l. subst (λ (y : ℕ). before last (name_of g d y) ≡ true) (sym (a (held l))) (t.ahead i (omega arith) (held l));
          least = λ l p m st f.
              let x = z.each' p m st in let v = x.1 in
              subst (λ (y : ℕ). before (name_of g d p) (name_of g d y) ≡ false) (sym (a (held l)))
              (subst (λ (y : ℕ). before (name_of g d y) (name_in g d o i) ≡ false) x.2
              (⊎_elim
              (λ q. ⊎_elim (λ j. before_back (name_in g d o i) (name_in g d o x.0) (z.rises i x.0 j v))
              (λ j. let w : i ≡ x.0 = omega arith in
              subst (λ (y : ℕ). before (name_in g d o y) (name_in g d o i) ≡ false) w (before_self (name_in g d o i))) (le-or-lt (suc i) x.0))
              (λ q. never (sym (subst (λ (y : ℕ). before last (name_of g d y) ≡ true) (sym x.2) f) ∙ t.past x.0 q)) (le-or-lt i x.0)));
        }

-- the slot at place i is read, or none is there
pub some-at : (o : List ℕ) {n i s : ℕ} → (i < n) × (s ≡ get_or o i 0) → (i < n → s ≡ get_or o i 0) × (n ≤ i → s ≡ 256)
some-at o x = let l = x.0 in (λ m. x.1, λ m. absurd (let v : ⊥ = omega arith in v))

pub none-at : (o : List ℕ) (i : ℕ) {r : Option ℕ} → r ≡ None → MatchOption r (length o ≤ i) (λ s. (i < length o) × (s ≡ get_or o i 0))
    → (i < length o → let z : ℕ = 256 in z ≡ get_or o i 0) × (length o ≤ i → let z : ℕ = 256 in z ≡ 256)
none-at o i e x =
    let l = MatchOption-at_none (length o ≤ i) (λ s. (i < length o) × (s ≡ get_or o i 0)) e x in
    (λ m. absurd (let v : ⊥ = omega arith in v), λ m. refl)

-- Both --------------------------------------------------------------------------------------------------------------------

module _ (g : Geometry) (d : List ℕ) (h : Geometry) (e : List ℕ) (w : WholeDisk g d) (v : WholeDisk h e)
    (o : List ℕ) (n : ℕ) (o' : List ℕ) (m : ℕ) (z : InOrder g d o n 256) (y : InOrder h e o' m 256)
    {i j s t : ℕ} (a : i < n → s ≡ get_or o i 0) (b : n ≤ i → s ≡ 256) (a' : j < m → t ≡ get_or o' j 0) (b' : m ≤ j → t ≡ 256) where
  ours : (last : List ℕ) → Reached g d o n i last → Least g d last 256 s
  ours = least_at g d o n z a b

  theirs : (last : List ℕ) → Reached h e o' m j last → Least h e last 256 t
  theirs = least_at h e o' m y a' b'

  pub merges-none : s ≡ 256 → t ≡ 256 → MergesNone g d h e o n i o' m j
  merges-none p q = record { ended = λ last k l. none_left g d h e w v last (ours last k) (theirs last l) p q }

  pub merges-first : s < 256 → (t < 256 → before (name_of g d s) (name_of h e t) ≡ true) → Merges g d h e o n i o' m j (First s)
  unfolding name_at
  merges-first l f =
      record {
        next = λ last k q. only-first g d h e w v last (ours last k) (theirs last q) l f;
        first' = λ last k q. reached-on g d o n z i (name_of g d s) (held g d o n z a b l) (ap (name_of g d) (a (held g d o n z a b l)));
        second' = λ last k q. reached-keep h e o' m y j last (name_of g d s) q ((ours last k).after l)
            (λ x. subst (λ (r : ℕ). before (name_of g d s) (name_of h e r) ≡ true) (a' x) (f (holds-slot h e o' m y a' b' x)));
      }

  pub merges-second : t < 256 → (s < 256 → before (name_of h e t) (name_of g d s) ≡ true) → Merges g d h e o n i o' m j (Second t)
  unfolding name_at
  merges-second l f =
      record {
        next = λ last k q. only-second g d h e w v last (ours last k) (theirs last q) l f;
        first' = λ last k q. reached-keep g d o n z i last (name_of h e t) k ((theirs last q).after l)
            (λ x. subst (λ (r : ℕ). before (name_of h e t) (name_of g d r) ≡ true) (a x) (f (holds-slot g d o n z a b x)));
        second' = λ last k q. reached-on h e o' m y j (name_of h e t) (held h e o' m y a' b' l) (ap (name_of h e) (a' (held h e o' m y a' b' l)));
      }

  pub merges-both : s < 256 → t < 256 → before (name_of g d s) (name_of h e t) ≡ false → before (name_of h e t) (name_of g d s) ≡ false
      → Merges g d h e o n i o' m j (Both s t)
  unfolding name_at
  merges-both l x f p =
      record {
        next = λ last k q. on_both g d h e w v last (ours last k) (theirs last q) l x f p;
        first' = λ last k q. reached-on g d o n z i (name_of g d s) (held g d o n z a b l) (ap (name_of g d) (a (held g d o n z a b l)));
        second' = λ last k q. reached-on h e o' m y j (name_of g d s) (held h e o' m y a' b' x)
            (before-neither (name_of g d s) (name_of h e t) f p ∙ ap (name_of h e) (a' (held h e o' m y a' b' x)));
      }
