-- Walks of any disk (02 §2): whom they meet. Nothing here asks for a consistent disk.
use Rattle.std.specs.Prelude.{◌≡◌, ◌⊎◌, Bool, true, false, cond, length, eqb}
use Rattle.std.proofs.Math.Path.{refl}
use Rattle.std.proofs.Math.Logic.{inl, inr}
use mathlib.Core.List.{List, [], ◌∷◌}
use Prim.Native.Nat.{ℕ, zero, suc, ◌+◌}
use native.Mathlib.Omega.{arith}
use Rattle.std.proofs.Math.Dec.{T, eqb→eq}
use Rattle.meaning.specs.Lists.{has, all}
use Rattle.meaning.specs.Layout.{is_slot, slots}
use Rattle.meaning.specs.Entries.{in_use, extension, marker, link, runs}
use Rattle.meaning.specs.Chain.{chain, chain_from, files}
use Rattle.meaning.specs.Consistent.{pairs_hold}
use Rattle.meaning.specs.Fault.{used_extension, hands_on, walk_from, walk, walked}
use Rattle.meaning.specs.declared.Geometry.{Geometry}
use Rattle.lists.specs.Members
use Rattle.lists.specs.Members.{In, Distinct}
use Rattle.lists.specs.Counting
use Rattle.laws.specs.Facts
use Rattle.laws.specs.Facts.{IsFile}
use Rattle.laws.specs.Clauses.{IsUsed}

-- what a good marker FEH with its link says
pub record HandsOn (g : Geometry) (d : List ℕ) (s : ℕ) : Type 0 where
  pub pairs : T (pairs_hold g d s)
  pub marked : marker g d s ≡ 0xfe
  pub next : IsUsed g d (link g d s)
  pub extends : T (extension g d (link g d s))
  pub full : runs g d s ≡ 4

ruleset parts = (Members.and_l, Members.and_r)

module _ (g : Geometry) (d : List ℕ) where
  pub hands-says : (s : ℕ) → T (hands_on g d s) → HandsOn g d s
  unfolding hands_on used_extension all
  hands-says s t =
      let a : T (pairs_hold g d s) = search parts depth 8 in
      let b : T (eqb (marker g d s) 0xfe) = search parts depth 8 in
      let c : T (is_slot g d (link g d s)) = search parts depth 8 in
      let e : T (in_use g d (link g d s)) = search parts depth 8 in
      let f : T (extension g d (link g d s)) = search parts depth 8 in
      let h : T (eqb (runs g d s) 4) = search parts depth 8 in
      record { pairs = a; marked = eqb→eq _ _ b; next = record { slot = c; used = e }; extends = f; full = eqb→eq _ _ h }

  pub says-hands : (s : ℕ) → HandsOn g d s → T (hands_on g d s)
  unfolding hands_on used_extension all
  says-hands s h =
      let a : T (pairs_hold g d s) = h.pairs in
      let b : T (eqb (marker g d s) 0xfe) = Members.eq-T h.marked in
      let c : T (is_slot g d (link g d s)) = h.next.slot in
      let e : T (in_use g d (link g d s)) = h.next.used in
      let f : T (extension g d (link g d s)) = h.extends in
      let k : T (eqb (runs g d s) 4) = Members.eq-T h.full in
      search Members.and_i depth 8

  -- what is in a walk from s: s itself, or what the walk from its link meets
  pub walk-cons : (left : ℕ) (before : List ℕ) (s x : ℕ) → In x (walk_from g d (suc left) before s)
      → (x ≡ s) ⊎ (T (hands_on g d s) × In x (walk_from g d left (s ∷ before) (link g d s)))
  unfolding walk_from
  walk-cons left before s x i = go (has before s) (hands_on g d s) refl i
    where
      rest : List ℕ
      rest = walk_from g d left (s ∷ before) (link g d s)

      tail : (b : Bool) → hands_on g d s ≡ b → (x ≡ s) ⊎ In x (cond b rest []) → (x ≡ s) ⊎ (T (hands_on g d s) × In x rest)
      tail b e (inl q) = inl q
      tail true e (inr j) = inr (Members.true-T e, j)
      tail false e (inr j) = Members.none_in j

      go : (a b : Bool) → hands_on g d s ≡ b → In x (cond a [] (s ∷ cond b rest [])) → (x ≡ s) ⊎ (T (hands_on g d s) × In x rest)
      go true b e j = Members.none_in j
      go false b e j = tail b e (Members.in-cons j)

  -- a walk meets no entry that the chain has not
  walk_from-chain : (left : ℕ) (before : List ℕ) (s x : ℕ) → In x (walk_from g d left before s) → In x (chain_from g d left s)
  unfolding walk_from chain_from
  walk_from-chain zero before s x i = i
  walk_from-chain (suc left) before s x i = go (walk-cons left before s x i) (walk_from-chain left (s ∷ before) (link g d s) x)
    where
      rest : List ℕ
      rest = walk_from g d left (s ∷ before) (link g d s)

      go : (x ≡ s) ⊎ (T (hands_on g d s) × In x rest) → (In x rest → In x (chain_from g d left (link g d s))) → In x
          (s ∷ cond (eqb (marker g d s) 0xfe) (chain_from g d left (link g d s)) [])
      go (inl e) r = Members.head_in _ e
      go (inr j) r = rw (hands-says s j.0).marked (Members.In.there (r j.1))

  pub walk-chain : (p x : ℕ) → In x (walk g d p) → In x (chain g d p)
  unfolding walk chain
  walk-chain p x i = walk_from-chain _ [] p x i

  walk_from-used : (left : ℕ) (before : List ℕ) (s x : ℕ) → IsUsed g d s → In x (walk_from g d left before s) → IsUsed g d x
  unfolding walk_from
  walk_from-used zero before s x u i = Members.none_in i
  walk_from-used (suc left) before s x u i = go (walk-cons left before s x i) (walk_from-used left (s ∷ before) (link g d s) x)
    where
      rest : List ℕ
      rest = walk_from g d left (s ∷ before) (link g d s)

      go : (x ≡ s) ⊎ (T (hands_on g d s) × In x rest) → (IsUsed g d (link g d s) → In x rest → IsUsed g d x) → IsUsed g d x
      go (inl e) r = rw e u
      go (inr j) r = r (hands-says s j.0).next j.1

  pub file-used : (p : ℕ) → IsFile g d p → IsUsed g d p
  file-used p f = record { slot = f.slot; used = Facts.file-in-use g d p f }

  -- every entry that a walk meets is in use
  pub walk-used : (p x : ℕ) → IsFile g d p → In x (walk g d p) → IsUsed g d x
  unfolding walk
  walk-used p x f i = walk_from-used _ [] p x (file-used p f) i

  -- the slots met before: none twice, and with those left to visit as many as the directory has
  record Visited (left : ℕ) (before : List ℕ) : Type 0 where
    once : Distinct before
    known : (x : ℕ) → In x before → T (is_slot g d x)
    room : left + length before ≡ length (slots g d)

  -- A walk that comes to a slot meets it, or has met it before: the slots left to visit do not run out first.
  starts : (left : ℕ) (before : List ℕ) (s : ℕ) → Visited left before → T (is_slot g d s) → In s (walk_from g d left before s) ⊎ In s before
  unfolding walk_from
  starts zero before s v t = go (Members.in? s before)
    where
      go : In s before ⊎ (In s before → ⊥) → In s (walk_from g d 0 before s) ⊎ In s before
      go (inl i) = inr i
      go (inr n) =
          absurd (omega (
            arith,
            v.room,
            Counting.pigeonhole {xs = slots g d} (s ∷ before) (Facts.slots-distinct g d) (Members.Distinct.fresh n v.once)
                (λ y i. known y (Members.in-cons i)),
          ))
        where
          known : (y : ℕ) → (y ≡ s) ⊎ In y before → In y (slots g d)
          known y (inl e) = Facts.in-slots g d y (rw e t)
          known y (inr i) = Facts.in-slots g d y (v.known y i)
  starts (suc left) before s v t = go (Members.decide (has before s))
    where
      go : Members.Test (has before s) → In s (walk_from g d (suc left) before s) ⊎ In s before
      go (Members.Test.holds h) = inr (Members.has_in s before h)
      go (Members.Test.fails h) = inl (rw (Members.no_false {b = has before s} h) Members.In.here)

  -- one slot more
  onward : (left : ℕ) (before : List ℕ) (s : ℕ) → Visited (suc left) before → T (is_slot g d s) → (In s before → ⊥) → Visited left (s ∷ before)
  onward left before s v t n = record {
    once = Members.Distinct.fresh n v.once;
    known = λ x i. go x (Members.in-cons i);
    room = omega (arith, v.room);
  }
    where
      go : (x : ℕ) → (x ≡ s) ⊎ In x before → T (is_slot g d x)
      go x (inl e) = rw e t
      go x (inr i) = v.known x i

  -- A walk goes on from whomever it meets.
  goes : (left : ℕ) (before : List ℕ) (s b : ℕ) → Visited left before → T (is_slot g d s) → In b (walk_from g d left before s) → T (hands_on g d b)
      → In (link g d b) (walk_from g d left before s) ⊎ In (link g d b) before
  unfolding walk_from
  goes zero before s b v t i h = Members.none_in i
  goes (suc left) before s b v t i h = go (Members.decide (has before s)) (walk-cons left before s b i)
      (λ w u. starts left (s ∷ before) (link g d s) w u) (λ w u j. goes left (s ∷ before) (link g d s) b w u j h)
    where
      rest : List ℕ
      rest = walk_from g d left (s ∷ before) (link g d s)

      whole : List ℕ
      whole = cond (has before s) [] (s ∷ cond (hands_on g d s) rest [])

      put : (x : ℕ) → (T (has before s) → ⊥) → T (hands_on g d s) → In x rest ⊎ In x (s ∷ before) → In x whole ⊎ In x before
      put x n k (inl j) = inl (rw (Members.no_false {b = has before s} n, Members.T_true {b = hands_on g d s} k) (Members.In.there j))
      put x n k (inr j) = into (Members.in-cons j)
        where
          into : (x ≡ s) ⊎ In x before → In x whole ⊎ In x before
          into (inl e) = inl (rw (Members.no_false {b = has before s} n, Members.T_true {b = hands_on g d s} k) (Members.head_in _ e))
          into (inr m) = inr m

      fresh : (T (has before s) → ⊥) → Visited left (s ∷ before)
      fresh n = onward left before s v t (λ m. n (Members.in-has m))

      go : Members.Test (has before s) → (b ≡ s) ⊎ (T (hands_on g d s) × In b rest)
          → (Visited left (s ∷ before) → T (is_slot g d (link g d s)) → In (link g d s) rest ⊎ In (link g d s) (s ∷ before))
          → (Visited left (s ∷ before) → T (is_slot g d (link g d s)) → In b rest → In (link g d b) rest ⊎ In (link g d b) (s ∷ before))
          → In (link g d b) whole ⊎ In (link g d b) before
      go (Members.Test.holds m) k f r = Members.none_in (rw (Members.T_true {b = has before s} m) at i)
      go (Members.Test.fails n) (inl e) f r = put (link g d b) n (rw (← e) h) (rw e (f (fresh n) (hands-says s (rw (← e) h)).next.slot))
      go (Members.Test.fails n) (inr k) f r = put (link g d b) n k.0 (r (fresh n) (hands-says s k.0).next.slot k.1)

  at_first : Visited (length (slots g d)) []
  at_first = record { once = Members.Distinct.done; known = λ x i. Members.none_in i; room = omega arith }

  pub walk_first : (p : ℕ) → IsFile g d p → In p (walk g d p)
  unfolding walk
  walk_first p f = go (starts _ [] p at_first f.slot)
    where
      go : In p (walk_from g d (length (slots g d)) [] p) ⊎ In p [] → In p (walk_from g d (length (slots g d)) [] p)
      go (inl i) = i
      go (inr i) = Members.none_in i

  pub walk-goes : (p b : ℕ) → IsFile g d p → In b (walk g d p) → T (hands_on g d b) → In (link g d b) (walk g d p)
  unfolding walk
  walk-goes p b f i h = go (goes _ [] p b at_first f.slot i h)
    where
      go : In (link g d b) (walk_from g d (length (slots g d)) [] p) ⊎ In (link g d b) [] → In (link g d b) (walk_from g d (length (slots g d)) [] p)
      go (inl j) = j
      go (inr j) = Members.none_in j

  pub walked-in : (s : ℕ) → In s (walked g d) → (p : ℕ) × IsFile g d p × In s (walk g d p)
  unfolding walked
  walked-in s i = let k = Members.each_in (walk g d) s (files g d) i in (k.0, Facts.files-in g d k.0 k.1, k.2)

  pub in-walked : (p s : ℕ) → IsFile g d p → In s (walk g d p) → In s (walked g d)
  unfolding walked
  in-walked p s f i = Members.in-each (walk g d) (Facts.in-files g d p f) i
