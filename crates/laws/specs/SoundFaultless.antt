-- A consistent disk (01) has no fault (02 §2).
use Rattle.std.specs.Prelude.{◌≡◌, ◌⊎◌, not, cond, ◌&&◌, T, eqb}
use Rattle.std.proofs.Math.Path.{refl}
use Rattle.std.proofs.Common.{ap, sym, subst, inl, inr, arith, eqb→eq}
use Rattle.std.proofs.Math.Bool.{Bool}
use mathlib.Core.List.{List, [], ◌∷◌}
use Prim.Native.Nat.{ℕ, zero, suc}
use Rattle.std.proofs.Math.Dec.{ltb, ltb→lt, T_not}
use Rattle.meaning.specs.Lists.{some, has, distinct, same, all, any}
use Rattle.meaning.specs.Layout.{is_slot, slots, field, hit, taken, directory_granules}
use Rattle.meaning.specs.Names.{hash}
use Rattle.meaning.specs.Entries.{in_use, extension, in_use_primary, system, marker, link, entry_granules, name_of}
use Rattle.meaning.specs.Chain.{chain, chain_from, owned, files}
use Rattle.meaning.specs.Consistent.{hit_holds, pairs_hold, runs_hold, gat_holds, entry_holds, name_holds, size_holds, file_holds}
use Rattle.meaning.specs.Fault.{hands_on, ends, walk_from, walk, met_from, good_extension, file_of, chain_whole, hit_fault, name_fault}
use Rattle.meaning.specs.Fault.{duplicate_fault, chain_fault}
use Rattle.meaning.specs.Fault.{run_fault, gat_fault, shared_fault, size_fault, directory_fault}
use Rattle.meaning.specs.declared.Geometry.{Geometry}
use Rattle.lists.specs.Members
use Rattle.lists.specs.Members.{In, Distinct}
use Rattle.laws.specs.Facts
use Rattle.laws.specs.Facts.{IsFile, Sound}
use Rattle.laws.specs.Entry
use Rattle.laws.specs.Entry.{Follows, Linked}
use Rattle.laws.specs.Change
use Rattle.laws.specs.Clauses.{IsUsed}
use Rattle.laws.specs.Walk
use Rattle.laws.specs.Kinds
use Rattle.laws.specs.Faultless.{Faultless}

ruleset parts = (Members.and_l, Members.and_r)

-- the four tests of an entry, the four of a file
record Tests (g : Geometry) (d : List ℕ) (s : ℕ) : Type 0 where
  pairs : T (pairs_hold g d s)
  run : T (runs_hold g d s)
  gat : T (gat_holds g d s)

tests : (g : Geometry) (d : List ℕ) (s : ℕ) → T (entry_holds g d s) → Tests g d s
unfolding all
tests g d s t =
    let a : T (pairs_hold g d s) = search parts depth 5 in
    let b : T (runs_hold g d s) = search parts depth 5 in
    let e : T (gat_holds g d s) = search parts depth 5 in
    record { pairs = a; run = b; gat = e }

record Own (g : Geometry) (d : List ℕ) (p : ℕ) : Type 0 where
  name : T (name_holds g d p)
  size : T (size_holds g d p)

own : (g : Geometry) (d : List ℕ) (p : ℕ) → T (file_holds g d p) → Own g d p
unfolding file_holds all
own g d p t =
    let a : T (name_holds g d p) = search parts depth 5 in
    let b : T (size_holds g d p) = search parts depth 5 in
    record { name = a; size = b }

module _ (g : Geometry) (d : List ℕ) (c : Sound g d) where
  entry : (s : ℕ) → IsUsed g d s → Entry.Entry g d s
  entry s u = Change.entry-at g d c s u.slot u.used

  held : (s : ℕ) → IsUsed g d s → Tests g d s
  held s u = tests g d s (c.entries s u.slot u.used)

  -- Chains ------------------------------------------------------------------------------------------------------------------------

  hands : (s : ℕ) → IsUsed g d s → Linked g d s → T (hands_on g d s)
  hands s u l = Walk.says-hands g d s (record {
    pairs = (held s u).pairs;
    marked = l.marked;
    next = record { slot = l.next.slot; used = Change.flags-used (field g d (link g d s) 0) l.next.flags };
    extends = Change.flags-extension (field g d (link g d s) 0) l.next.flags;
    full = l.full;
  })

  linked : (s : ℕ) → IsUsed g d s → marker g d s ≡ 0xfe → Linked g d s
  linked s u m = go (entry s u).linked
    where
      go : (marker g d s ≡ 0xff) ⊎ Linked g d s → Linked g d s
      go (inl e) = absurd (omega (arith, m, e))
      go (inr l) = l

  used : (p x : ℕ) → IsFile g d p → In x (chain g d p) → IsUsed g d x
  used p x f i = let k = Change.members g d c p x f i in record { slot = k.slot; used = k.used }

  -- a walk that has met none of what comes meets the chain
  walk_from-is : (n : ℕ) (before : List ℕ) (s : ℕ) → IsUsed g d s → Distinct (chain_from g d n s) → ((x : ℕ) → In x (chain_from g d n s) → In x before → ⊥)
      → walk_from g d n before s ≡ chain_from g d n s
  unfolding walk_from chain_from
  walk_from-is zero before s u e f = refl
  walk_from-is (suc n) before s u (Members.Distinct.fresh h e) f =
      rw (Members.no_false {b = has before s} (λ t. f s Members.In.here (Members.has_in s before t)))
      (go (Members.decide (eqb (marker g d s) 0xfe)) (walk_from-is n (s ∷ before) (link g d s)))
    where
      rest : List ℕ
      rest = chain_from g d n (link g d s)

      way : List ℕ
      way = walk_from g d n (s ∷ before) (link g d s)

      go : Members.Test (eqb (marker g d s) 0xfe) → (IsUsed g d (link g d s) → Distinct rest → ((x : ℕ) → In x rest → In x (s ∷ before) → ⊥) → way ≡ rest)
          → ◌≡◌ {A = List ℕ} (s ∷ cond (hands_on g d s) way []) (s ∷ cond (eqb (marker g d s) 0xfe) rest [])
      go (Members.Test.fails m) ih =
          rw (
            Members.no_false {b = eqb (marker g d s) 0xfe} m,
            Members.no_false {b = hands_on g d s}
                (λ t. m (Members.eq-T (Walk.hands-says g d s t).marked)),
          )
      go (Members.Test.holds m) ih =
          let o = hands s u (linked s u (eqb→eq _ _ m)) in
          let r : cond (eqb (marker g d s) 0xfe) rest [] ≡ rest = rw (Members.T_true {b = eqb (marker g d s) 0xfe} m) in
          rw (Members.T_true {b = eqb (marker g d s) 0xfe} m, Members.T_true {b = hands_on g d s} o)
          (ap {B = List ℕ} (λ (l : List ℕ). s ∷ l) (ih (Walk.hands-says g d s o).next (subst Distinct r e)
          (λ x i j. new x i (Members.in-cons j))))
        where
          new : (x : ℕ) → In x rest → (x ≡ s) ⊎ In x before → ⊥
          new x i (inl q) = h (rw (Members.T_true {b = eqb (marker g d s) 0xfe} m) (subst (λ (y : ℕ). In y rest) q i))
          new x i (inr j) = f x (rw (Members.T_true {b = eqb (marker g d s) 0xfe} m) (Members.In.there i)) j

  walk_is : (p : ℕ) → IsFile g d p → walk g d p ≡ chain g d p
  unfolding walk chain
  walk_is p f = walk_from-is _ [] p (Walk.file-used g d p f) (c.once p f) (λ x i j. Members.none_in j)

  in-walk : (p s : ℕ) → IsFile g d p → In s (chain g d p) → In s (walk g d p)
  in-walk p s f i = rw (walk_is p f) i

  -- Extensions --------------------------------------------------------------------------------------------------------------------

  follow : (b x : ℕ) → In b (met_from g d x) → Follows g d b x
  follow b x i =
      let l = Kinds.met-says g d b x i in
      let w = Walk.walked-in g d b l.by in
      let u = used w.0 b w.1 (Walk.walk-chain g d w.0 b w.2) in
      subst (Follows g d b) l.to (linked b u (Walk.hands-says g d b l.on).marked).next

  good : (x : ℕ) → IsUsed g d x → T (extension g d x) → T (good_extension g d x)
  good x u t =
      let w = c.covered x u.slot u.used in
      Kinds.says-good g d x (Kinds.alone (field g d x 1) (met_from g d x) (Kinds.met-distinct g d x)
      (before w.0 w.1 w.2 (Entry.chain-pred g d w.0 x w.2)).1
      (λ b i. sym (follow b x i).before)) (λ b i. follow b x i)
    where
      before : (p : ℕ) → IsFile g d p → In x (chain g d p) → Entry.Pred g d p x (chain g d p) → (b : ℕ) × In b (met_from g d x)
      before p f i (Entry.Pred.first e) = absurd (T_not (extension g d p) (Facts.file-first g d p f) (subst (λ (y : ℕ). T (extension g d y)) e t))
      before p f i (Entry.Pred.after b j m l) =
          let k = Members.front-in p i j in
          let v = used p b f k in
          (b, Kinds.says-met g d b x v.slot (record { to = l; on = hands b v (linked b v m); by = Walk.in-walked g d p b f (in-walk p b f k) }))

  firm : (s : ℕ) → IsUsed g d s → Kinds.Firm g d s
  firm s u = record { upright = go (entry s u).linked; good = good s u }
    where
      go : (marker g d s ≡ 0xff) ⊎ Linked g d s → T (hands_on g d s) ⊎ T (ends g d s)
      go (inl m) = inr (Kinds.says-ends g d s (held s u).pairs m)
      go (inr l) = inl (hands s u l)

  -- an entry's file
  record Of (s : ℕ) : Type 0 where
    file : IsFile g d (file_of g d s)
    member : In s (chain g d (file_of g d s))

  of : (s : ℕ) → IsUsed g d s → Of s
  of s u =
      let w = c.covered s u.slot u.used in
      let k = Kinds.file_of-is g d s w.0 w.1 (in-walk w.0 s w.1 w.2) in
      record { file = k.0; member = Walk.walk-chain g d (file_of g d s) s k.1 }

  -- Kinds -------------------------------------------------------------------------------------------------------------------------

  no_hit : (s : ℕ) → T (is_slot g d s) → T (hit_fault g d s) → ⊥
  unfolding hit_fault
  no_hit s t v = go (Members.any-e (not (hit_holds g d s)) _ v)
    where
      tested : Bool
      tested = any (not (extension g d s) ∷ good_extension g d s ∷ [])

      alike : Bool
      alike = eqb (hit g d s) (hash (name_of g d (file_of g d s)))

      go : T (not (hit_holds g d s)) ⊎ T (all (in_use g d s ∷ tested ∷ not alike ∷ [])) → ⊥
      go (inl n) = T_not (hit_holds g d s) n (c.hits s t)
      go (inr n) =
          let k = Kinds.all-says (in_use g d s) tested (not alike) n in
          let o = of s (record { slot = t; used = k.0 }) in
          T_not alike k.2 (Members.eq-T ((Change.filed-at g d c (file_of g d s) o.file).hashes s o.member))

  no_name : (s : ℕ) → T (is_slot g d s) → T (name_fault g d s) → ⊥
  unfolding name_fault
  no_name s t v =
      let k = Kinds.two-says (in_use_primary g d s) (not (name_holds g d s)) v in
      T_not (name_holds g d s) k.1 (own g d s (c.file s (record { slot = t; primary' = k.0 }))).name

  no-duplicate : (s : ℕ) → T (is_slot g d s) → T (duplicate_fault g d s) → ⊥
  unfolding duplicate_fault
  no-duplicate s t v =
      let k = Kinds.two-says (in_use_primary g d s) (some (λ q. ltb q s && same (name_of g d q) (name_of g d s)) (files g d)) v in
      let w = Kinds.some_in (λ q. ltb q s && same (name_of g d q) (name_of g d s)) (files g d) k.1 in
      let l = ltb→lt w.0 s (Members.and_l (ltb w.0 s) (same (name_of g d w.0) (name_of g d s)) w.2) in
      let e = c.names w.0 s (Facts.files-in g d w.0 w.1) (record { slot = t; primary' = k.0 })
      (Members.same-eq (name_of g d w.0) (name_of g d s) (Members.and_r (ltb w.0 s) (same (name_of g d w.0) (name_of g d s)) w.2)) in
      omega (arith, l, e)

  no-chain : (s : ℕ) → T (is_slot g d s) → T (chain_fault g d s) → ⊥
  no-chain s t v = Kinds.not-faulty g d s (λ u. firm s (record { slot = t; used = u })) v

  no_run : (s : ℕ) → T (is_slot g d s) → T (run_fault g d s) → ⊥
  unfolding run_fault
  no_run s t v =
      let k = Kinds.two-says (in_use g d s) (not (runs_hold g d s)) v in
      T_not (runs_hold g d s) k.1 (held s (record { slot = t; used = k.0 })).run

  no-gat : (s : ℕ) → T (is_slot g d s) → T (gat_fault g d s) → ⊥
  unfolding gat_fault
  no-gat s t v =
      let k = Kinds.two-says (in_use g d s) (not (gat_holds g d s)) v in
      T_not (gat_holds g d s) k.1 (held s (record { slot = t; used = k.0 })).gat

  -- a granule of two entries in use
  apart : (s t n : ℕ) → IsUsed g d s → IsUsed g d t → In n (entry_granules g d s) → In n (entry_granules g d t) → s ≡ t
  unfolding owned
  apart s t n u v i j =
      let a = c.covered s u.slot u.used in
      let b = c.covered t v.slot v.used in
      let e : b.0 ≡ a.0 = c.granules b.0 a.0 n b.1 a.1 (Members.in-each (entry_granules g d) b.2 j)
      (Members.in-each (entry_granules g d) a.2 i) in
      Members.each-apart (entry_granules g d) (c.single a.0 a.1) a.2 (subst (λ (p : ℕ). In t (chain g d p)) e b.2) i j

  no_shared : (s : ℕ) → T (is_slot g d s) → T (shared_fault g d s) → ⊥
  unfolding shared_fault owned
  no_shared s t v =
      let k = Kinds.two-says (in_use g d s) _ v in
      go (record { slot = t; used = k.0 }) (Members.any-e (not (distinct (entry_granules g d s))) (some both (slots g d)) k.1)
    where
      both : ℕ → Bool
      both t = all (ltb t s ∷ in_use g d t ∷ some (has (entry_granules g d t)) (entry_granules g d s) ∷ [])

      go : IsUsed g d s → T (not (distinct (entry_granules g d s))) ⊎ T (some both (slots g d)) → ⊥
      go u (inl n) =
          let a = c.covered s t u.used in
          T_not (distinct (entry_granules g d s)) n (Members.says-distinct (Members.distinct-each (entry_granules g d) (c.single a.0 a.1) a.2))
      go u (inr n) =
          let w = Kinds.some_in both (slots g d) n in
          let k = Kinds.all-says (ltb w.0 s) (in_use g d w.0) (some (has (entry_granules g d w.0)) (entry_granules g d s)) w.2 in
          let m = Kinds.some_in (has (entry_granules g d w.0)) (entry_granules g d s) k.2 in
          let e = apart s w.0 m.0 u (record { slot = Facts.slots-in g d w.0 w.1; used = k.1 }) m.1
          (Members.has_in m.0 (entry_granules g d w.0) m.2) in
          omega (arith, ltb→lt w.0 s k.0, e)

  no_size : (s : ℕ) → T (is_slot g d s) → T (size_fault g d s) → ⊥
  unfolding size_fault
  no_size s t v =
      let k = Kinds.all-says (in_use_primary g d s) (chain_whole g d s) (not (size_holds g d s)) v in
      T_not (size_holds g d s) k.2 (own g d s (c.file s (record { slot = t; primary' = k.0 }))).size

  no-directory : (s : ℕ) → T (is_slot g d s) → T (directory_fault g d s) → ⊥
  unfolding directory_fault owned
  no-directory s t v =
      let k = Kinds.all-says (in_use g d s) (not (system g d (file_of g d s))) (some (has (directory_granules g d)) (entry_granules g d s)) v in
      let o = of s (record { slot = t; used = k.0 }) in
      let m = Kinds.some_in (has (directory_granules g d)) (entry_granules g d s) k.2 in
      (Change.filed-at g d c (file_of g d s) o.file).off k.1 m.0 (Members.in-each (entry_granules g d) o.member m.1)
      (Members.has_in m.0 (directory_granules g d) m.2)

  pub sound-faultless : Faultless g d
  sound-faultless = record {
    dir = c.dir;
    clear = λ s t. record {
      hit' = no_hit s t;
      name = no_name s t;
      duplicate = no-duplicate s t;
      chain' = no-chain s t;
      run = no_run s t;
      gat = no-gat s t;
      shared = no_shared s t;
      size = no_size s t;
      directory = no-directory s t;
    };
    taken' = Members.all-every (taken g d) (directory_granules g d) c.directory;
  }
