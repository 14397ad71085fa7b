-- The next name of either disk: which files stand under it.
use mathlib.Core.Path.{◌≡◌, refl, sym, subst, ◌∙◌}
use mathlib.Core.Logic.{◌⊎◌, inl, inr, ⊎_elim}
use mathlib.Core.List.{List, [], ◌∷◌, ◌++◌}
use mathlib.Core.Bool.{Bool, true, false}
use Prim.Native.Nat.{ℕ, ◌<◌}
use native.Mathlib.Omega.{arith}
use native.Mathlib.Decide.{ℕ_discrete}
use Rattle.meaning.specs.Entries.{name_of}
use Rattle.meaning.specs.Chain.{files}
use Rattle.meaning.specs.Plain.{found, nothing, file_at, plain}
use Rattle.meaning.specs.declared.Geometry.{Geometry}
use Rattle.lists.specs.Members.{true-T, T_true}
use Rattle.laws.specs.Facts as facts
use Rattle.laws.specs.Named as named
use Rattle.layout.proofs.HasRoom.{slot-of, slot-yes}
use Rattle.differences.specs.Compare.{before, names, merged}
use Rattle.differences.specs.Order.{In, never, before_self, before_back, before_on, before-neither, in_left, in_right, in_either, in_map, map-in}
use Rattle.differences.specs.Order.{Rises, rising-rises, rising-in, in-rising, keep-none, next-name}
use Rattle.compare_order.specs.Whole.{WholeDisk, StartsFile}
use Rattle.compare_order.specs.declared.Pair.TheVariants.{First, Second, Both}
use Rattle.compare_order.specs.Walk.{Least, later, name_at, on_first, on_second, NextPair}

-- what is not before b, which is not before c, is not before c
before-not : (a b c : List ℕ) → before a b ≡ false → before b c ≡ false → before a c ≡ false
before-not a b c h k = by (before a c) refl (before b a) refl
  where
    by : (t : Bool) → before a c ≡ t → (u : Bool) → before b a ≡ u → before a c ≡ false
    by false e u f = e
    by true e true f = never (sym (before_on b a c f e) ∙ k)
    by true e false f = never (sym (subst (λ (z : List ℕ). before z c ≡ true) (before-neither a b h f) e) ∙ k)

module _ (g : Geometry) (d : List ℕ) where
  pub starts-file : (p : ℕ) → StartsFile g d p → facts.IsFile g d p
  starts-file p s = record { slot = true-T (slot-yes g d p s.slot.low s.slot.held); primary' = true-T s.first' }

  pub file-starts : (p : ℕ) → facts.IsFile g d p → StartsFile g d p
  file-starts p f = record { slot = slot-of g d p (T_true f.slot); first' = T_true f.primary' }

  name_in : (p : ℕ) → StartsFile g d p → In (name_of g d p) (names g d)
  unfolding names
  name_in p s = in_map (name_of g d) (facts.in-files g d p (starts-file p s))

  pub in-name : {x : List ℕ} → In x (names g d) → (p : ℕ) × StartsFile g d p × (name_of g d p ≡ x)
  unfolding names
  in-name i = let k = map-in (name_of g d) (files g d) i in (k.0, file-starts k.0 (facts.files-in g d k.0 k.1), k.2)

  stands : WholeDisk g d → (p : ℕ) (n : List ℕ) → StartsFile g d p → name_of g d p ≡ n → plain g d n ≡ found (file_at g d p)
  stands w p n s e = named.plain-is g d w.holds p n (starts-file p s) e

  missing : (n : List ℕ) → ((p : ℕ) → StartsFile g d p → name_of g d p ≡ n → ⊥) → plain g d n ≡ nothing
  missing n f = named.plain-none g d n (λ p x. f p (file-starts p x))

  module _ (last : List ℕ) {s : ℕ} (k : Least g d last 256 s) where
    -- no name after `last` comes before n
    beyond : (n : List ℕ) → (s < 256 → before (name_of g d s) n ≡ false) → (p : ℕ) → StartsFile g d p → before last (name_of g d p) ≡ true → before
        (name_of g d p) n
        ≡ false
    beyond n f p st a = by (ℕ_discrete s 256)
      where
        by : Dec (s ≡ 256) → before (name_of g d p) n ≡ false
        by (yes e) = never (sym a ∙ k.none e p st.slot.low st)
        by (no e) = let w = k.low in let l : s < 256 = omega arith in before-not (name_of g d p) (name_of g d s) n (k.least l p st.slot.low st a) (f l)

    -- no file has the name n
    absent : (n : List ℕ) → before last n ≡ true → (s < 256 → before n (name_of g d s) ≡ true) → (p : ℕ) → StartsFile g d p → name_of g d p ≡ n → ⊥
    absent n a f p st q = by (ℕ_discrete s 256)
      where
        a' : before last (name_of g d p) ≡ true
        a' = subst (λ (z : List ℕ). before last z ≡ true) (sym q) a

        by : Dec (s ≡ 256) → ⊥
        by (yes e) = never (sym a' ∙ k.none e p st.slot.low st)
        by (no e) = let w = k.low in let l : s < 256 = omega arith in
            never (sym (f l) ∙ subst (λ (z : List ℕ). before z (name_of g d s) ≡ false) q (k.least l p st.slot.low st a'))

module _ (g : Geometry) (d : List ℕ) (h : Geometry) (e : List ℕ) where
  in-first : (p : ℕ) → StartsFile g d p → In (name_of g d p) (merged g d h e)
  unfolding merged
  in-first p s = in-rising (in_left (names h e) (name_in g d p s))

  in-second : (p : ℕ) → StartsFile h e p → In (name_of h e p) (merged g d h e)
  unfolding merged
  in-second p s = in-rising (in_right (names g d) (name_in h e p s))

  pub merged-in : {x : List ℕ} → In x (merged g d h e) → ((p : ℕ) × StartsFile g d p × (name_of g d p ≡ x)) ⊎ ((p : ℕ) × StartsFile h e p × (name_of h e p ≡ x))
  unfolding merged
  merged-in i = ⊎_elim (λ j. inl (in-name g d j)) (λ j. inr (in-name h e j)) (in_either (names g d) (rising-in (names g d ++ names h e) i))

  rises : Rises (merged g d h e)
  unfolding merged
  rises = rising-rises (names g d ++ names h e)

  module _ (w : WholeDisk g d) (v : WholeDisk h e) (last : List ℕ) {s t : ℕ} (a : Least g d last 256 s) (b : Least h e last 256 t) where
    goes_on : (n : List ℕ) → In n (merged g d h e) → before last n ≡ true → (s < 256 → before (name_of g d s) n ≡ false) →
        (t < 256 → before (name_of h e t) n ≡ false)
        → later g d h e last ≡ n ∷ later g d h e n
    unfolding later
    goes_on n i l f k =
        next-name last n rises i l (λ x j m.
        ⊎_elim
        (λ q. subst (λ (z : List ℕ). before z n ≡ false) q.2
        (beyond g d last a n f q.0 q.1 (subst (λ (z : List ℕ). before last z ≡ true) (sym q.2) m)))
        (λ q. subst (λ (z : List ℕ). before z n ≡ false) q.2
        (beyond h e last b n k q.0 q.1 (subst (λ (z : List ℕ). before last z ≡ true) (sym q.2) m)))
        (merged-in j))

    pub none_left : s ≡ 256 → t ≡ 256 → later g d h e last ≡ []
    unfolding later
    none_left p q = keep-none (before last) (merged g d h e) (λ x j.
        ⊎_elim (λ k. subst (λ (y : List ℕ). before last y ≡ false) k.2 (a.none p k.0 k.1.slot.low k.1))
        (λ k. subst (λ (y : List ℕ). before last y ≡ false) k.2 (b.none q k.0 k.1.slot.low k.1)) (merged-in j))

    pub only-first : s < 256 → (t < 256 → before (name_of g d s) (name_of h e t) ≡ true) → NextPair g d h e last (First s)
    unfolding name_at on_first on_second
    only-first l f =
        let n = name_of g d s in
        record {
          files = a.is l;
          ahead = goes_on n (in-first s (a.is l)) (a.after l) (λ q. before_self n) (λ q. before_back n (name_of h e t) (f q));
          first' = stands g d w s n (a.is l) refl;
          second' = missing h e n (absent h e last b n (a.after l) f);
        }

    pub only-second : t < 256 → (s < 256 → before (name_of h e t) (name_of g d s) ≡ true) → NextPair g d h e last (Second t)
    unfolding name_at on_first on_second
    only-second l f =
        let n = name_of h e t in
        record {
          files = b.is l;
          ahead = goes_on n (in-second t (b.is l)) (b.after l) (λ q. before_back n (name_of g d s) (f q)) (λ q. before_self n);
          first' = missing g d n (absent g d last a n (b.after l) f);
          second' = stands h e v t n (b.is l) refl;
        }

    pub on_both : s < 256 → t < 256 → before (name_of g d s) (name_of h e t) ≡ false → before (name_of h e t) (name_of g d s) ≡ false
        → NextPair g d h e last (Both s t)
    unfolding name_at on_first on_second
    on_both l m f k =
        let n = name_of g d s in
        record {
          files = (a.is l, b.is m);
          ahead = goes_on n (in-first s (a.is l)) (a.after l) (λ q. before_self n) (λ q. k);
          first' = stands g d w s n (a.is l) refl;
          second' = stands h e v t n (b.is m) (sym (before-neither n (name_of h e t) f k));
        }
