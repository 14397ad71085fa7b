-- The differences by rising names, one after the other.
use mathlib.Core.Path.{◌≡◌, refl, sym, ap, subst, ◌∙◌}
use mathlib.Core.Logic.{◌⊎◌, inl, inr, ⊎_elim}
use mathlib.Core.List.{List, [], ◌∷◌, map}
use mathlib.Core.Bool.{true, false, not, ◌&&◌}
use Prim.Native.Nat.{ℕ, zero, suc, ◌-◌, ◌≤◌, ◌<◌}
use native.Mathlib.Omega.{arith}
use lib.ListN.{length, replicate, take, drop}
use lib.Seq.{drop-nil}
use lib.Dec.{T, eqb, leb, leb→le}
use borrow.Author.Tests.{ne_eqb, eq-eqb}
use Rattle.meaning.specs.Refusal.{unplaced, naming}
use Rattle.meaning.specs.declared.Refusal.{Refusal}
use Rattle.meaning.specs.Lists.{keep, all}
use Rattle.lists.specs.Members.{length-count}
use Rattle.meaning.specs.Layout.{field}
use Rattle.meaning.specs.Names.{letter, well_formed}
use Rattle.meaning.specs.Entries.{name_of}
use Rattle.meaning.specs.Refusals.{check}
use Rattle.meaning.specs.declared.Geometry.{Geometry}
use Rattle.lists.specs.Members
use Rattle.laws.specs.Facts as facts
use Rattle.laws.specs.Change as change
use Rattle.passed.proofs.Checked.{checked}
use Rattle.seek.proofs.IsWalkable.{sound}
use Rattle.differences.specs.Compare.{before, difference, is_one, tells_none, tell_first, merged, at', differences, compare}
use Rattle.differences.specs.Order.{before-less, keep-yes, keep-no, keep-whole}
use Rattle.differences.specs.declared.Difference.{Difference}
use Rattle.compare_order.specs.Whole.{WholeDisk, StartsFile}
use Rattle.compare_order.specs.Walk.{later, name_at, on_first, on_second, Files, NextPair, met_first, met_second, Merges, MergesNone}
use Rattle.compare_order.specs.declared.Pair.TheVariants.{First, Second, Both}
use Rattle.compare_order.specs.Table.{InOrder, Reached}
use Rattle.compare_order.proofs.Merging.{reached-start}
use Rattle.compare_order.proofs.Sorting.{order-part}
use Rattle.compare_order.specs.declared.Pair.{Pair}
use Rattle.compare_order.proofs.Pairs.{starts-file, merged-in}

-- a disk whose check answered 0 is whole
pub whole : (g : Geometry) (d : List ℕ) {c : Refusal} → c ≡ check g d → c.number ≡ 0 → WholeDisk g d
whole g d e z = let k = checked g d e z in record { sound = sound g d k.fits k.sound; holds = facts.sound g d k.sound }

name-length : (g : Geometry) (d : List ℕ) (s : ℕ) → length (name_of g d s) ≡ 11
unfolding name_of
name-length g d s = refl

-- the files in a sorted table's first places, as a table of their own
pub table : (g : Geometry) (d o : List ℕ) (n : ℕ) → InOrder g d o n 256 × (length o ≡ 256) → InOrder g d (take n o) (length (take n o)) 256
table g d o n z = order-part g d o n 256 (let f = z.0.few in let e = z.1 in omega arith) z.0

-- every name comes after zeros
letter-some : (x : ℕ) → T (letter x) → 0 < x
letter-some x t = go (Members.or-e (leb 0x30 x && leb x 0x39) (leb 0x41 x && leb x 0x5d) t)
  where
    go : T (leb 0x30 x && leb x 0x39) ⊎ T (leb 0x41 x && leb x 0x5d) → 0 < x
    go (inl a) = let p = leb→le 0x30 x (Members.and_l (leb 0x30 x) _ a) in omega arith
    go (inr a) = let p = leb→le 0x41 x (Members.and_l (leb 0x41 x) _ a) in omega arith

first-letter : (g : Geometry) (d : List ℕ) (p : ℕ) → T (well_formed (name_of g d p)) → 0 < field g d p 5
unfolding well_formed name_of all
first-letter g d p t = letter-some (field g d p 5) (Members.and_l (letter (field g d p 5)) _ t)

after-zeros : (g : Geometry) (d : List ℕ) → WholeDisk g d → (p : ℕ) → StartsFile g d p → before (replicate 11 0) (name_of g d p) ≡ true
unfolding name_of
after-zeros g d w p s = before-less (replicate 10 0) _ (first-letter g d p (change.filed-at g d w.holds p (starts-file g d p s)).name)

module _ (g : Geometry) (d : List ℕ) (h : Geometry) (e : List ℕ) where
  -- the differences under names after `last`
  unfoldable pub told-later : List ℕ → List Difference
  told-later last = keep is_one (map (at' g d h e) (later g d h e last))

  -- of the differences from number i on, `left` are to be passed over after `last`
  pub record TellingOn (i left : ℕ) (last : List ℕ) : Type 0 where
    pub ahead : drop i (differences g d h e) ≡ drop left (told-later last)
    pub sized : length last ≡ 11

  -- the name of a pair has eleven bytes
  name-sized : (p : Pair) → length (name_at g d h e p) ≡ 11
  unfolding name_at
  name-sized (First s) = name-length g d s
  name-sized (Second t) = name-length h e t
  name-sized (Both s t) = name-length g d s

  going_start : WholeDisk g d → WholeDisk h e → (i : ℕ) → TellingOn i i (replicate 11 0)
  unfolding told-later later differences merged
  going_start w v i =
      let x : keep (before (replicate 11 0)) (merged g d h e) ≡ merged g d h e
      = keep-whole (before (replicate 11 0)) (merged g d h e) (λ y j.
      ⊎_elim (λ q. subst (λ (z : List ℕ). before (replicate 11 0) z ≡ true) q.2 (after-zeros g d w q.0 q.1))
      (λ q. subst (λ (z : List ℕ). before (replicate 11 0) z ≡ true) q.2 (after-zeros h e v q.0 q.1)) (merged-in g d h e j)) in
      record {
        ahead = ap (λ (l : List (List ℕ)). drop i (keep is_one (map (at' g d h e) l))) (sym x);
        sized = refl;
      }

  module _ (i left : ℕ) (last n : List ℕ) (a : later g d h e last ≡ n ∷ later g d h e n) (eleven : length n ≡ 11) (t : TellingOn i left last) where
    going-no : is_one (at' g d h e n) ≡ false → TellingOn i left n
    unfolding told-later
    going-no f =
        record {
          ahead = t.ahead ∙ ap (drop left) (ap (λ (l : List (List ℕ)). keep is_one (map (at' g d h e) l)) a ∙ keep-no is_one f
              (map (at' g d h e) (later g d h e n)));
          sized = eleven;
        }

    one : is_one (at' g d h e n) ≡ true → told-later last ≡ at' g d h e n ∷ told-later n
    unfolding told-later
    one f = ap (λ (l : List (List ℕ)). keep is_one (map (at' g d h e) l)) a ∙ keep-yes is_one f (map (at' g d h e) (later g d h e n))

    going-here : is_one (at' g d h e n) ≡ true → left ≡ 0 → at' g d h e n ≡ tell_first (drop i (differences g d h e))
    unfolding tell_first
    going-here f z = sym (ap tell_first (t.ahead ∙ ap (λ (m : ℕ). drop m (told-later last)) z ∙ one f))

    going_more : is_one (at' g d h e n) ≡ true → (left ≡ 0 → ⊥) → TellingOn i (left - 1) n
    going_more f z = record { ahead = t.ahead ∙ dropped left z; sized = eleven }
      where
        dropped : (m : ℕ) → (m ≡ 0 → ⊥) → drop m (told-later last) ≡ drop (m - 1) (told-later n)
        dropped zero z = absurd (z refl)
        dropped (suc m) z = let q : m ≡ suc m - 1 = omega arith in ap (drop (suc m)) (one f) ∙ ap (λ (j : ℕ). drop j (told-later n)) q

  going_end : (i left : ℕ) (last : List ℕ) → later g d h e last ≡ [] → TellingOn i left last → tells_none (unplaced 0) ≡ tell_first
      (drop i (differences g d h e))
  unfolding tell_first told-later
  going_end i left last a t =
      sym (ap tell_first (t.ahead ∙ ap (λ (l : List (List ℕ)). drop left (keep is_one (map (at' g d h e) l))) a ∙ drop-nil left))

  -- what stands under the pair's name
  stands-there : {last : List ℕ} (p : Pair) {x : Difference} → NextPair g d h e last p → x ≡ difference (name_at g d h e p) (on_first g d h e p)
      (on_second g d h e p) → x ≡ at' g d h e (name_at g d h e p)
  stands-there p n q = q ∙ (λ i. difference (name_at g d h e p) (sym n.first' i) (sym n.second' i))

  is-one : {x y : Difference} → x ≡ y → (x.kind ≡ 0 → ⊥) → is_one y ≡ true
  unfolding is_one
  is-one {x} q z = ap (λ (w : Difference). not (eqb w.kind 0)) (sym q) ∙ ap not (ne_eqb x.kind 0 z)

  is_none : {x y : Difference} → x ≡ y → x.kind ≡ 0 → is_one y ≡ false
  unfolding is_one
  is_none {x} q z = ap (λ (w : Difference). not (eqb w.kind 0)) (sym q) ∙ ap not (eq-eqb x.kind 0 z)

  -- Two tables gone along: i files of the first were met, j of the second ----------------------------------------------------

  pub record TellingBoth (number left : ℕ) (o : List ℕ) (n i : ℕ) (o' : List ℕ) (m j : ℕ) : Type 0 where
    pub last : List ℕ
    pub telling : TellingOn number left last
    pub ours : Reached g d o n i last
    pub theirs : Reached h e o' m j last

  pub both-start : (o : List ℕ) (n : ℕ) (o' : List ℕ) (m number : ℕ) → WholeDisk g d → WholeDisk h e → InOrder g d o n 256 → InOrder h e o' m 256
      → TellingBoth number number o n 0 o' m 0
  both-start o n o' m number w v a b =
      record {
        last = replicate 11 0;
        telling = going_start w v number;
        ours = reached-start g d o n a (replicate 11 0) (after-zeros g d w);
        theirs = reached-start h e o' m b (replicate 11 0) (after-zeros h e v);
      }

  module _ (number left : ℕ) (o : List ℕ) (n i : ℕ) (o' : List ℕ) (m j : ℕ) (t : TellingBoth number left o n i o' m j) where
    pub both_end : MergesNone g d h e o n i o' m j → tells_none (unplaced 0) ≡ tell_first (drop number (differences g d h e))
    both_end q = going_end number left t.last (q.ended t.last t.ours t.theirs) t.telling

    module _ (p : Pair) (q : Merges g d h e o n i o' m j p) where
      pair : NextPair g d h e t.last p
      pair = q.next t.last t.ours t.theirs

      pub both-files : Files g d h e p
      both-files = pair.files

      -- the files that are met with the pair are files of the tables
      pub met-first : met_first p i ≤ n
      met-first = (q.first' t.last t.ours t.theirs).low

      pub met-second : met_second p j ≤ m
      met-second = (q.second' t.last t.ours t.theirs).low

      module _ {x : Difference} (f : x ≡ difference (name_at g d h e p) (on_first g d h e p) (on_second g d h e p)) where
        told-there : x ≡ at' g d h e (name_at g d h e p)
        told-there = stands-there p pair f

        pub both-here : (x.kind ≡ 0 → ⊥) → left ≡ 0 → x ≡ tell_first (drop number (differences g d h e))
        both-here y l = told-there ∙ going-here number left t.last (name_at g d h e p) pair.ahead (name-sized p) t.telling (is-one told-there y) l

        -- one name more was met, and `left` is what is to be passed over then
        on : (left' i' j' : ℕ) → i' ≡ met_first p i → j' ≡ met_second p j → TellingOn number left' (name_at g d h e p)
            → TellingBoth number left' o n i' o' m j'
        on left' i' j' a b y =
            record {
              last = name_at g d h e p;
              telling = y;
              ours = subst (λ (r : ℕ). Reached g d o n r (name_at g d h e p)) (sym a) (q.first' t.last t.ours t.theirs);
              theirs = subst (λ (r : ℕ). Reached h e o' m r (name_at g d h e p)) (sym b) (q.second' t.last t.ours t.theirs);
            }

        pub both-more : (left' i' j' : ℕ) → (x.kind ≡ 0 → ⊥) → (left ≡ 0 → ⊥) → left' ≡ left - 1 → i' ≡ met_first p i → j' ≡ met_second p j
            → TellingBoth number left' o n i' o' m j'
        both-more left' i' j' y l c a b =
            on left' i' j' a b (subst (λ (r : ℕ). TellingOn number r (name_at g d h e p)) (sym c)
            (going_more number left t.last (name_at g d h e p) pair.ahead (name-sized p) t.telling (is-one told-there y) l))

        pub both-no : (left' i' j' : ℕ) → x.kind ≡ 0 → left' ≡ left → i' ≡ met_first p i → j' ≡ met_second p j → TellingBoth number left' o n i' o' m j'
        both-no left' i' j' y c a b =
            on left' i' j' a b (subst (λ (r : ℕ). TellingOn number r (name_at g d h e p)) (sym c)
            (going-no number left t.last (name_at g d h e p) pair.ahead (name-sized p) t.telling (is_none told-there y)))

  -- refused and accepted
  pub first-refused : (i : ℕ) {c : Refusal} {r : Difference} → r ≡ tells_none (naming 1 c) → c ≡ check g d → (c.number ≡ 0 → ⊥) → r ≡ compare g d h e i
  unfolding compare
  first-refused i {c} f q z = f ∙ (rw (← q, ne_eqb c.number 0 z))

  pub second-refused : (i : ℕ) {c c' : Refusal} {r : Difference} → r ≡ tells_none (naming 2 c') → c ≡ check g d → c.number ≡ 0 → c' ≡ check h e
      → (c'.number ≡ 0 → ⊥) → r ≡ compare g d h e i
  unfolding compare
  second-refused i {c} {c'} f q z q' z' = f ∙ (rw (← q, z, ← q', ne_eqb c'.number 0 z'))

  pub accepted' : (i : ℕ) {c c' : Refusal} {r : Difference} → r ≡ tell_first (drop i (differences g d h e)) → c ≡ check g d → c.number ≡ 0
      → c' ≡ check h e → c'.number ≡ 0 → r ≡ compare g d h e i
  unfolding compare
  accepted' i f q z q' z' = f ∙ (rw (← q, z, ← q', z'))
