-- The table of the files, slot by slot: where a file goes, and what the table is then.
use mathlib.Core.Path.{◌≡◌, refl, sym, ap, subst, ◌∙◌}
use mathlib.Core.Logic.{⊎_elim}
use mathlib.Core.Bool.{Bool, true, false}
use mathlib.Core.List.{List}
use Prim.Native.Nat.{ℕ, suc, ◌+◌, ◌-◌, ◌*◌, ◌≤◌, ◌<◌}
use native.Mathlib.Omega.{arith}
use lib.ListN.{length, get_or, take}
use Rattle.std.proofs.lemmas.List.{get_or-take, length-take-le}
use Rattle.meaning.specs.Layout.{directory_sectors}
use Rattle.meaning.specs.Entries.{in_use_primary, name_of}
use Rattle.meaning.specs.declared.Geometry.{Geometry}
use Rattle.lists.specs.Tests.{le-or-lt}
use Rattle.differences.specs.Compare.{before}
use Rattle.differences.specs.Order.{never, before_on, before-neither}
use Rattle.compare_order.specs.Whole.{WholeDisk, StartsFile}
use Rattle.compare_order.specs.Table.{PutIn, name_in, InOrder, GoesTo}
use Rattle.compare_order.proofs.Pairs.{starts-file}

module _ (g : Geometry) (d : List ℕ) where
  -- no two files have one name, so one of the two comes first
  first_of : WholeDisk g d → (p q : ℕ) → StartsFile g d p → StartsFile g d q → p < q → before (name_of g d p) (name_of g d q) ≡ false
      → before (name_of g d q) (name_of g d p) ≡ true
  first_of w p q a b l f = by (before (name_of g d q) (name_of g d p)) refl
    where
      by : (t : Bool) → before (name_of g d q) (name_of g d p) ≡ t → before (name_of g d q) (name_of g d p) ≡ true
      by true e = e
      by false e =
          let z = w.holds.names p q (starts-file g d p a) (starts-file g d q b) (before-neither (name_of g d p) (name_of g d q) f e) in
          absurd (let v : ⊥ = omega arith in v)

  -- Halving ---------------------------------------------------------------------------------------------------------------

  -- below `low` names come before that of slot s, from `high` on after it
  pub record Halving (o : List ℕ) (n s low high : ℕ) : Type 0 where
    pub between : low ≤ high
    pub inside : high ≤ n
    pub earlier : (k : ℕ) → k < low → before (name_in g d o k) (name_of g d s) ≡ true
    pub later' : (k : ℕ) → high ≤ k → k < n → before (name_of g d s) (name_in g d o k) ≡ true

  pub halving-start : (o : List ℕ) (n s : ℕ) → Halving o n s 0 n
  halving-start o n s =
      record {
        between = omega arith;
        inside = omega arith;
        earlier = λ k l. absurd (let z : ⊥ = omega arith in z);
        later' = λ k l m. absurd (let z : ⊥ = omega arith in z);
      }

  module _ (o : List ℕ) (n s low high mid : ℕ) (z : InOrder g d o n s) (t : Halving o n s low high) (l : low ≤ mid) (h : mid < high) where
    pub halving-up : before (name_in g d o mid) (name_of g d s) ≡ true → Halving o n s (mid + 1) high
    halving-up e = let i = t.inside in
        record {
          between = omega arith;
          inside = t.inside;
          earlier = λ k m. ⊎_elim (λ q. let f : mid ≡ k = omega arith in subst (λ (y : ℕ). before (name_in g d o y) (name_of g d s) ≡ true) f e)
              (λ q. before_on (name_in g d o k) (name_in g d o mid) (name_of g d s) (z.rises k mid q (omega arith)) e) (le-or-lt mid k);
          later' = t.later';
        }

    pub halving-down : WholeDisk g d → StartsFile g d s → before (name_in g d o mid) (name_of g d s) ≡ false → Halving o n s low mid
    halving-down w st e = let i = t.inside in
        let f : before (name_of g d s) (name_in g d o mid) ≡ true
        = first_of w (get_or o mid 0) s (z.file mid (omega arith)) st (z.low mid (omega arith)) e in
        record {
          between = l;
          inside = omega arith;
          earlier = t.earlier;
          later' = λ k m j. ⊎_elim (λ q. let y : mid ≡ k = omega arith in subst (λ (x : ℕ). before (name_of g d s) (name_in g d o x) ≡ true) y f)
              (λ q. before_on (name_of g d s) (name_in g d o mid) (name_in g d o k) f (z.rises mid k q j)) (le-or-lt k mid);
        }

  pub halving-end : (o : List ℕ) (n s low high : ℕ) → Halving o n s low high → high ≤ low → GoesTo g d o n s low
  halving-end o n s low high t h = let b = t.between in let i = t.inside in
      record { low = omega arith; earlier = t.earlier; later' = λ k l m. t.later' k (omega arith) m }

  -- the table's first n places as a table of their own
  pub order-part : (o : List ℕ) (n s : ℕ) → n ≤ length o → InOrder g d o n s → InOrder g d (take n o) (length (take n o)) s
  order-part o n s h z = subst (λ (m : ℕ). InOrder g d (take n o) m s) (sym (length-take-le n o h)) (record {
    few = z.few;
    file = λ k l. subst (StartsFile g d) (sym (get_or-take n o k 0 l)) (z.file k l);
    low = λ k l. subst (λ (x : ℕ). x < s) (sym (get_or-take n o k 0 l)) (z.low k l);
    rises = λ i k l m. named i k (omega arith) m (z.rises i k l m);
    each' = λ p l st. let x = z.each' p l st in (x.0, x.1, get_or-take n o x.0 0 x.1 ∙ x.2);
  })
    where
      named : (i k : ℕ) → i < n → k < n → before (name_in g d o i) (name_in g d o k) ≡ true → before (name_in g d (take n o) i)
          (name_in g d (take n o) k) ≡ true
      named i k a b e = (λ j. before (name_of g d (get_or-take n o i 0 a j)) (name_of g d (get_or-take n o k 0 b j))) ∙ e

  pub goes-part : (o : List ℕ) (n s r : ℕ) → n ≤ length o → GoesTo g d (take n o) (length (take n o)) s r → GoesTo g d o n s r
  goes-part o n s r h z = let e = length-take-le n o h in let w = z.low in
      record {
        low = omega arith;
        earlier = λ k l. subst (λ (x : ℕ). before (name_of g d x) (name_of g d s) ≡ true) (get_or-take n o k 0 (omega arith)) (z.earlier k l);
        later' = λ k l m. subst (λ (x : ℕ). before (name_of g d s) (name_of g d x) ≡ true) (get_or-take n o k 0 m) (z.later' k l (omega arith));
      }

  -- One file more ---------------------------------------------------------------------------------------------------------

  pub order-start : (o : List ℕ) → InOrder g d o 0 0
  order-start o =
      record {
        few = omega arith;
        file = λ k l. absurd (let z : ⊥ = omega arith in z);
        low = λ k l. absurd (let z : ⊥ = omega arith in z);
        rises = λ i k l m. absurd (let z : ⊥ = omega arith in z);
        each' = λ p l st. absurd (let z : ⊥ = omega arith in z);
      }

  -- no file starts at the slots from s up to s'
  order-on : (o : List ℕ) (n s s' : ℕ) → s ≤ s' → ((p : ℕ) → s ≤ p → p < s' → StartsFile g d p → ⊥) → InOrder g d o n s → InOrder g d o n s'
  order-on o n s s' h f z = let w = z.few in
      record {
        few = omega arith;
        file = z.file;
        low = λ k l. let q = z.low k l in omega arith;
        rises = z.rises;
        each' = λ p l st. ⊎_elim (λ q. absurd (f p q l st)) (λ q. z.each' p q st) (le-or-lt s p);
      }

  -- a row has no slot past its columns
  pub order-past : (o : List ℕ) (n row : ℕ) {columns : ℕ} → columns ≡ directory_sectors g d - 2 → columns < 29 → InOrder g d o n (32 * row + columns)
      → InOrder g d o n (32 * (row + 1))
  order-past o n row {columns} e h =
      order-on o n (32 * row + columns) (32 * (row + 1)) (omega arith) (λ p a b st. let u = st.slot.held in let q : ⊥ = omega arith in q)

  pub order-skip : (o : List ℕ) (n s : ℕ) → in_use_primary g d s ≡ false → InOrder g d o n s → InOrder g d o n (s + 1)
  order-skip o n s e =
      order-on o n s (s + 1) (omega arith)
      (λ p a b st. let q : p ≡ s = omega arith in never (sym st.first' ∙ ap (in_use_primary g d) q ∙ e))

  module _ (o : List ℕ) (n s r : ℕ) (o' : List ℕ) (z : InOrder g d o n s) (st : StartsFile g d s) (t : GoesTo g d o n s r) (u : PutIn o n r s o') where
    -- what holds of the files that were there and of slot s holds of all that are there
    at_each : (P : ℕ → Type 0) → ((k : ℕ) → k < n → P (get_or o k 0)) → P s → (k : ℕ) → k < n + 1 → P (get_or o' k 0)
    at_each P f p k l = let w = t.low in
        ⊎_elim
        (λ q. ⊎_elim (λ x. subst P (sym (u.above k x (omega arith))) (f (k - 1) (omega arith)))
        (λ x. let e : r ≡ k = omega arith in subst P (sym u.here ∙ ap (λ (y : ℕ). get_or o' y 0) e) p) (le-or-lt (suc r) k))
        (λ q. subst P (sym (u.below k q)) (f k (omega arith))) (le-or-lt r k)

    -- the names at two places, by what was put there
    names_at : (i k x y : ℕ) → get_or o' i 0 ≡ x → get_or o' k 0 ≡ y → before (name_of g d x) (name_of g d y) ≡ true
        → before (name_in g d o' i) (name_in g d o' k) ≡ true
    names_at i k x y e f b = (λ j. before (name_of g d (e j)) (name_of g d (f j))) ∙ b

    rises-on : (i k : ℕ) → i < k → k < n + 1 → before (name_in g d o' i) (name_in g d o' k) ≡ true
    rises-on i k l m = let w = t.low in
        ⊎_elim
        (λ q. ⊎_elim
        (λ x. let a = u.above k x (omega arith) in
        ⊎_elim
        (λ v. ⊎_elim
        (λ j. names_at i k (get_or o (i - 1) 0) (get_or o (k - 1) 0) (u.above i j (omega arith)) a (z.rises (i - 1) (k - 1) (omega arith) (omega arith)))
        (λ j. let e : i ≡ r = omega arith in
        names_at i k s (get_or o (k - 1) 0) (ap (λ (y : ℕ). get_or o' y 0) e ∙ u.here) a (t.later' (k - 1) (omega arith) (omega arith))) (le-or-lt (suc r) i))
        (λ v. names_at i k (get_or o i 0) (get_or o (k - 1) 0) (u.below i v) a (z.rises i (k - 1) (omega arith) (omega arith))) (le-or-lt r i))
        (λ x. let e : k ≡ r = omega arith in
        names_at i k (get_or o i 0) s (u.below i (omega arith)) (ap (λ (y : ℕ). get_or o' y 0) e ∙ u.here) (t.earlier i (omega arith))) (le-or-lt (suc r) k))
        (λ q. names_at i k (get_or o i 0) (get_or o k 0) (u.below i (omega arith)) (u.below k q) (z.rises i k l (omega arith))) (le-or-lt r k)

    place_of : (p : ℕ) → p < s + 1 → StartsFile g d p → (k : ℕ) × (k < n + 1) × (get_or o' k 0 ≡ p)
    place_of p l f = let w = t.low in
        ⊎_elim (λ q. let e : s ≡ p = omega arith in (r, (let v : r < n + 1 = omega arith in v), u.here ∙ e))
        (λ q. let x = z.each' p q f in let y = x.1 in
        ⊎_elim
        (λ v. let e : x.0 + 1 - 1 ≡ x.0 = omega arith in
        (x.0 + 1, (let j : x.0 + 1 < n + 1 = omega arith in j), u.above (x.0 + 1) (omega arith) (omega arith) ∙ ap (λ (a : ℕ). get_or o a 0) e ∙ x.2))
        (λ v. (x.0, (let j : x.0 < n + 1 = omega arith in j), u.below x.0 v ∙ x.2)) (le-or-lt r x.0)) (le-or-lt s p)

    pub order-more : InOrder g d o' (n + 1) (s + 1)
    order-more =
        record {
          few = let w = z.few in omega arith;
          file = at_each (StartsFile g d) z.file st;
          low = at_each (λ x. x < s + 1) (λ k l. let q = z.low k l in omega arith) (omega arith);
          rises = rises-on;
          each' = place_of;
        }

  pub order-end : (o : List ℕ) (n s : ℕ) → s ≤ 256 → 256 ≤ s → InOrder g d o n s → InOrder g d o n 256
  order-end o n s h l z = let e : s ≡ 256 = omega arith in subst (λ (x : ℕ). InOrder g d o n x) e z
