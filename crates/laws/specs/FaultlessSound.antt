-- A disk without a fault (02 §2) is consistent (01).
use Rattle.std.specs.Prelude.{◌≡◌, ◌⊎◌, cond, ◌&&◌}
use Rattle.std.proofs.Math.Path.{refl, ap}
use Rattle.std.proofs.Common.{sym, ◌∙◌, subst, inl, inr, arith, lt→ltb, ltb→lt, nltb→le}
use Rattle.std.proofs.Math.Bool.{Bool, not}
use mathlib.Core.List.{List, [], ◌∷◌}
use Prim.Native.Nat.{ℕ, zero, suc, ◌<◌}
use Rattle.std.proofs.Math.Decide.{ℕ_discrete}
use Rattle.std.proofs.Math.Dec.{T, eqb, eqb→eq, ltb, T_not, not_T}
use Rattle.meaning.specs.Lists.{every, some, has, distinct, same, all, any}
use Rattle.meaning.specs.Bits.{digit}
use Rattle.meaning.specs.Layout.{is_slot, slots, field, hit, taken, directory_granules}
use Rattle.meaning.specs.Names.{hash}
use Rattle.meaning.specs.Entries.{in_use, extension, in_use_primary, system, marker, link, entry_granules, name_of}
use Rattle.meaning.specs.Chain.{chain, chain_from, owned, files}
use Rattle.meaning.specs.Consistent.{hit_holds, pairs_hold, link_holds_by, runs_hold, gat_holds, entry_holds, name_holds, hash_holds, size_holds, off_directory}
use Rattle.meaning.specs.Consistent.{file_holds}
use Rattle.meaning.specs.Fault.{hands_on, ends, walk, good_extension, file_of, chain_whole, hit_fault, name_fault, duplicate_fault, chain_fault}
use Rattle.meaning.specs.Fault.{run_fault, gat_fault}
use Rattle.meaning.specs.Fault.{shared_fault, size_fault, directory_fault}
use Rattle.meaning.specs.declared.Geometry.{Geometry}
use Rattle.lists.specs.Members
use Rattle.lists.specs.Members.{In, Distinct}
use Rattle.laws.specs.Facts
use Rattle.laws.specs.Facts.{IsFile, Sound}
use Rattle.laws.specs.Entry
use Rattle.laws.specs.Entry.{Follows, Linked}
use Rattle.laws.specs.Clauses.{IsUsed}
use Rattle.laws.specs.Walk
use Rattle.laws.specs.Kinds
use Rattle.lists.specs.First.{yes-T}
use Rattle.laws.specs.Faultless.{Faultless}

-- the one of two numbers that is not the lower
pub higher : (s t : ℕ) → (s ≡ t → ⊥) → (s < t) ⊎ (t < s)
higher s t n = go (Members.decide (ltb s t))
  where
    go : Members.Test (ltb s t) → (s < t) ⊎ (t < s)
    go (Members.Test.holds h) = inl (ltb→lt s t h)
    go (Members.Test.fails h) = inr (omega (arith, nltb→le s t (not_T (ltb s t) h), n))

-- k steps lead from p to s
abbrev Reaches : Geometry → List ℕ → ℕ → ℕ → ℕ → Type 0
Reaches g d p zero s = s ≡ p
Reaches g d p (suc k) s = (b : ℕ) × Reaches g d p k b × T (hands_on g d b) × (link g d b ≡ s)

module _ (g : Geometry) (d : List ℕ) (c : Faultless g d) where
  firm : (s : ℕ) → IsUsed g d s → Kinds.Firm g d s
  firm s u = Kinds.firm g d s u.used (c.clear s u.slot).chain'

  -- Chains ------------------------------------------------------------------------------------------------------------------------

  -- every entry in use is met
  reached : (s : ℕ) → IsUsed g d s → (p : ℕ) × IsFile g d p × In s (walk g d p)
  reached s u = go (Members.decide (extension g d s))
    where
      go : Members.Test (extension g d s) → (p : ℕ) × IsFile g d p × In s (walk g d p)
      go (Members.Test.fails n) =
          let f : IsFile g d s = record {
            slot = u.slot;
            primary' = Members.and_i (in_use g d s) (not (extension g d s)) u.used (not_T (extension g d s) n);
          } in
          (s, f, Walk.walk_first g d s f)
      go (Members.Test.holds x) =
          let m = (Kinds.good-says g d s ((firm s u).good x)).met in
          let l = Kinds.met-says g d m.0 s m.1 in
          let w = Walk.walked-in g d m.0 l.by in
          (w.0, w.1, subst (λ (y : ℕ). In y (walk g d w.0)) l.to (Walk.walk-goes g d w.0 m.0 w.1 w.2 l.on))

  -- a link leads to an extension that follows
  followed : (s : ℕ) → IsUsed g d s → T (hands_on g d s) → Follows g d s (link g d s)
  followed s u h =
      let k = Walk.hands-says g d s h in
      let w = reached s u in
      (Kinds.good-says g d (link g d s) ((firm (link g d s) k.next).good k.extends)).follow s
      (Kinds.says-met g d s (link g d s) u.slot (record { to = refl; on = h; by = Walk.in-walked g d w.0 s w.1 w.2 }))

  marked : (s : ℕ) → IsUsed g d s → marker g d s ≡ 0xfe → T (hands_on g d s)
  marked s u m = go (firm s u).upright
    where
      go : T (hands_on g d s) ⊎ T (ends g d s) → T (hands_on g d s)
      go (inl h) = h
      go (inr e) = absurd (omega (arith, m, (Kinds.ends-says g d s e).1))

  reaches-used : (p k s : ℕ) → IsFile g d p → Reaches g d p k s → IsUsed g d s
  reaches-used p zero s f e = rw e (Walk.file-used g d p f)
  reaches-used p (suc k) s f r = subst (IsUsed g d) r.3 (Walk.hands-says g d r.0 r.2).next

  -- whom a step leads to is an extension, and names where it came from
  stepped : (p k s : ℕ) → IsFile g d p → (r : Reaches g d p (suc k) s) → T (extension g d s) × (field g d s 1 ≡ r.0)
  stepped p k s f r =
      subst (λ (y : ℕ). T (extension g d y) × (field g d y 1 ≡ r.0)) r.3
      ((Walk.hands-says g d r.0 r.2).extends, (followed r.0 (reaches-used p k r.0 f r.1) r.2).before)

  not_first : (p q l s : ℕ) → IsFile g d p → IsFile g d q → s ≡ p → Reaches g d q (suc l) s → ⊥
  not_first p q l s f h e r = T_not (extension g d p) (Facts.file-first g d p f) (subst (λ (y : ℕ). T (extension g d y)) e (stepped q l s h r).0)

  -- one way leads to an entry, from one file
  one_way : (p q s k l : ℕ) → IsFile g d p → IsFile g d q → Reaches g d p k s → Reaches g d q l s → (p ≡ q) × (k ≡ l)
  one_way p q s zero zero f h a b = (sym a ∙ b, refl)
  one_way p q s zero (suc l) f h a b = absurd (not_first p q l s f h a b)
  one_way p q s (suc k) zero f h a b = absurd (not_first q p k s h f b a)
  one_way p q s (suc k) (suc l) f h a b =
      let e : b.0 ≡ a.0 = sym (stepped q l s h b).1 ∙ (stepped p k s f a).1 in
      let i = one_way p q a.0 k l f h a.1 (subst (Reaches g d q l) e b.1) in
      (i.0, ap {B = ℕ} suc i.1)

  -- whoever is in a chain is reached
  chain-reaches : (n p k s x : ℕ) → IsFile g d p → Reaches g d p k s → In x (chain_from g d n s) → (j : ℕ) × Reaches g d p j x
  unfolding chain_from
  chain-reaches zero p k s x f r i = Members.none_in i
  chain-reaches (suc n) p k s x f r i = go (Members.decide (eqb (marker g d s) 0xfe)) (Members.in-cons i) (chain-reaches n p (suc k) (link g d s) x f)
    where
      rest : List ℕ
      rest = chain_from g d n (link g d s)

      go : Members.Test (eqb (marker g d s) 0xfe) → (x ≡ s) ⊎ In x (cond (eqb (marker g d s) 0xfe) rest [])
          → (Reaches g d p (suc k) (link g d s) → In x rest → (j : ℕ) × Reaches g d p j x) → (j : ℕ) × Reaches g d p j x
      go m (inl e) ih = (k, subst (Reaches g d p k) (sym e) r)
      go (Members.Test.fails m) (inr i) ih = Members.none_in (rw (Members.no_false {b = eqb (marker g d s) 0xfe} m) at i)
      go (Members.Test.holds m) (inr i) ih =
          ih (s, r, marked s (reaches-used p k s f r) (eqb→eq _ _ m), refl) (rw (Members.T_true {b = eqb (marker g d s) 0xfe} m) at i)

  members : (p x : ℕ) → IsFile g d p → In x (chain g d p) → (j : ℕ) × Reaches g d p j x
  unfolding chain
  members p x f i = chain-reaches _ p 0 p x f refl i

  member-used : (p x : ℕ) → IsFile g d p → In x (chain g d p) → IsUsed g d x
  member-used p x f i = let w = members p x f i in reaches-used p w.0 x f w.1

  -- an entry is the last of its chain, or an extension follows
  linked : (s : ℕ) → IsUsed g d s → (marker g d s ≡ 0xff) ⊎ Linked g d s
  linked s u = go (firm s u).upright
    where
      go : T (hands_on g d s) ⊎ T (ends g d s) → (marker g d s ≡ 0xff) ⊎ Linked g d s
      go (inl h) = let k = Walk.hands-says g d s h in inr (record { marked = k.marked; next = followed s u h; full = k.full })
      go (inr e) = inl (Kinds.ends-says g d s e).1

  once : (p : ℕ) → IsFile g d p → Distinct (chain g d p)
  unfolding digit
  once p f = Entry.links-once g d 0x90 p (λ x i. linked x (member-used p x f i)) (λ e. T_not (extension g d p) (Facts.file-first g d p f) (rw e tt))

  chains : (p q s : ℕ) → IsFile g d p → IsFile g d q → In s (chain g d p) → In s (chain g d q) → p ≡ q
  chains p q s f h i j = let v = members p s f i in let w = members q s h j in (one_way p q s v.0 w.0 f h v.1 w.1).0

  covered : (s : ℕ) → IsUsed g d s → (p : ℕ) × IsFile g d p × In s (chain g d p)
  covered s u = let w = reached s u in (w.0, w.1, Walk.walk-chain g d w.0 s w.2)

  file-of : (p s : ℕ) → IsFile g d p → In s (chain g d p) → file_of g d s ≡ p
  file-of p s f i =
      let w = reached s (member-used p s f i) in
      let k = Kinds.file_of-is g d s w.0 w.1 w.2 in
      chains (file_of g d s) p s k.0 f (Walk.walk-chain g d (file_of g d s) s k.1) i

  -- Entries -----------------------------------------------------------------------------------------------------------------------

  runs-hold : (s : ℕ) → IsUsed g d s → T (runs_hold g d s)
  unfolding run_fault
  runs-hold s u = yes-T (runs_hold g d s) (λ n. (c.clear s u.slot).run (Members.all_two (in_use g d s) (not (runs_hold g d s)) u.used n))

  gat-holds : (s : ℕ) → IsUsed g d s → T (gat_holds g d s)
  unfolding gat_fault
  gat-holds s u = yes-T (gat_holds g d s) (λ n. (c.clear s u.slot).gat (Members.all_two (in_use g d s) (not (gat_holds g d s)) u.used n))

  pairs-hold : (s : ℕ) → IsUsed g d s → T (pairs_hold g d s)
  pairs-hold s u = go (firm s u).upright
    where
      go : T (hands_on g d s) ⊎ T (ends g d s) → T (pairs_hold g d s)
      go (inl h) = (Walk.hands-says g d s h).pairs
      go (inr e) = (Kinds.ends-says g d s e).0

  link-holds : (s : ℕ) → IsUsed g d s → T (link_holds_by g d 0x90 s)
  unfolding link_holds_by
  link-holds s u = Entry.say-links g d 0x90 s (linked s u)

  entry-holds : (s : ℕ) → IsUsed g d s → T (entry_holds g d s)
  unfolding all
  entry-holds s u =
      let a = pairs-hold s u in let b = link-holds s u in let e = runs-hold s u in let f = gat-holds s u in
      search Members.and_i depth 5

  -- Granules ----------------------------------------------------------------------------------------------------------------------

  -- the test of two entries: t is the lower
  both : ℕ → ℕ → Bool
  both s t = all (ltb t s ∷ in_use g d t ∷ some (has (entry_granules g d t)) (entry_granules g d s) ∷ [])

  single-entry : (s : ℕ) → IsUsed g d s → Distinct (entry_granules g d s)
  unfolding shared_fault both
  single-entry s u =
      Members.distinct-says (entry_granules g d s) (yes-T (distinct (entry_granules g d s)) (λ n. (c.clear s u.slot).shared
      (Members.all_two (in_use g d s) (any (not (distinct (entry_granules g d s)) ∷ some (both s) (slots g d) ∷ [])) u.used
      (Members.any-l (not (distinct (entry_granules g d s))) (some (both s) (slots g d)) n))))

  not-shared : (s t n : ℕ) → IsUsed g d s → IsUsed g d t → t < s → In n (entry_granules g d s) → In n (entry_granules g d t) → ⊥
  unfolding shared_fault both
  not-shared s t n u v l i j =
      (c.clear s u.slot).shared (Members.all_two (in_use g d s) (any (twice ∷ some (both s) (slots g d) ∷ [])) u.used
      (Members.any-r twice (some (both s) (slots g d)) (Kinds.in_some (both s) (Facts.in-slots g d t v.slot)
      (Kinds.all_three (ltb t s) (in_use g d t) (some (has (entry_granules g d t)) (entry_granules g d s)) (lt→ltb t s l) v.used
      (Kinds.in_some (has (entry_granules g d t)) i (Members.in-has j))))))
    where
      twice : Bool
      twice = not (distinct (entry_granules g d s))

  apart : (s t n : ℕ) → IsUsed g d s → IsUsed g d t → In n (entry_granules g d s) → In n (entry_granules g d t) → s ≡ t
  apart s t n u v i j = go (ℕ_discrete s t)
    where
      which : (s < t) ⊎ (t < s) → s ≡ t
      which (inl l) = absurd (not-shared t s n v u l j i)
      which (inr l) = absurd (not-shared s t n u v l i j)

      go : Dec (s ≡ t) → s ≡ t
      go (yes e) = e
      go (no e) = which (higher s t e)

  single : (p : ℕ) → IsFile g d p → Distinct (owned g d p)
  unfolding owned
  single p f = Members.each-distinct (entry_granules g d) (once p f) (λ x i. single-entry x (member-used p x f i))
      (λ x y n i j. apart x y n (member-used p x f i) (member-used p y f j))

  granules : (p q n : ℕ) → IsFile g d p → IsFile g d q → In n (owned g d p) → In n (owned g d q) → p ≡ q
  unfolding owned
  granules p q n f h i j =
      let v = Members.each_in (entry_granules g d) n (chain g d p) i in
      let w = Members.each_in (entry_granules g d) n (chain g d q) j in
      let e = apart v.0 w.0 n (member-used p v.0 f v.1) (member-used q w.0 h w.1) v.2 w.2 in
      chains p q v.0 f h v.1 (subst (λ (y : ℕ). In y (chain g d q)) (sym e) w.1)

  -- Files -------------------------------------------------------------------------------------------------------------------------

  name-holds : (p : ℕ) → IsFile g d p → T (name_holds g d p)
  unfolding name_fault
  name-holds p f = yes-T (name_holds g d p) (λ n. (c.clear p f.slot).name (Members.all_two (in_use_primary g d p) (not (name_holds g d p)) f.primary' n))

  hit-holds : (s : ℕ) → T (is_slot g d s) → T (hit_holds g d s)
  unfolding hit_fault
  hit-holds s t = yes-T (hit_holds g d s) (λ n. (c.clear s t).hit' (Members.any-l (not (hit_holds g d s)) _ n))

  -- the HIT byte of an entry in use is its file's hash
  hash-is : (s : ℕ) → IsUsed g d s → hit g d s ≡ hash (name_of g d (file_of g d s))
  unfolding hit_fault
  hash-is s u = eqb→eq _ _ (yes-T alike (λ n. (c.clear s u.slot).hit' (Members.any-r (not (hit_holds g d s)) _
      (Kinds.all_three (in_use g d s) (any (not (extension g d s) ∷ good_extension g d s ∷ [])) (not alike) u.used
      (Members.any-if (extension g d s) (good_extension g d s) (firm s u).good) n))))
    where
      alike : Bool
      alike = eqb (hit g d s) (hash (name_of g d (file_of g d s)))

  hash-holds : (p : ℕ) → IsFile g d p → T (hash_holds g d p)
  unfolding hash_holds
  hash-holds p f = Members.all-every (λ s. eqb (hit g d s) (hash (name_of g d p))) (chain g d p) (λ s i.
      Members.eq-T (hash-is s (member-used p s f i) ∙ ap {B = ℕ} (λ (q : ℕ). hash (name_of g d q)) (file-of p s f i)))

  whole_is : (p : ℕ) → IsFile g d p → T (chain_whole g d p)
  unfolding chain_whole
  whole_is p f = Members.all-every (λ s. not (chain_fault g d s)) (walk g d p) (λ s i.
      not_T (chain_fault g d s) (c.clear s (Walk.walk-used g d p s f i).slot).chain')

  size-holds : (p : ℕ) → IsFile g d p → T (size_holds g d p)
  unfolding size_fault
  size-holds p f = yes-T (size_holds g d p) (λ n. (c.clear p f.slot).size
      (Kinds.all_three (in_use_primary g d p) (chain_whole g d p) (not (size_holds g d p)) f.primary' (whole_is p f) n))

  off : (p n : ℕ) → IsFile g d p → T (not (system g d p)) → In n (owned g d p) → In n (directory_granules g d) → ⊥
  unfolding directory_fault owned
  off p n f u i j =
      let v = Members.each_in (entry_granules g d) n (chain g d p) i in
      let s = v.0 in
      let k = member-used p s f v.1 in
      (c.clear s k.slot).directory (Kinds.all_three (in_use g d s) (not (system g d (file_of g d s)))
      (some (has (directory_granules g d)) (entry_granules g d s)) k.used
      (rw (file-of p s f v.1) u) (Kinds.in_some (has (directory_granules g d)) v.2 (Members.in-has j)))

  off-holds : (p : ℕ) → IsFile g d p → T (off_directory g d p)
  unfolding off_directory
  off-holds p f = go (Members.decide (system g d p))
    where
      away : Bool
      away = every (λ n. not (has (directory_granules g d) n)) (owned g d p)

      go : Members.Test (system g d p) → T (any (system g d p ∷ away ∷ []))
      go (Members.Test.holds t) = Members.any-l (system g d p) away t
      go (Members.Test.fails n) = Members.any-r (system g d p) away (Members.all-every (λ n. not (has (directory_granules g d) n)) (owned g d p) (λ m i.
          not_T (has (directory_granules g d) m) (λ t. off p m f (not_T (system g d p) n) i (Members.has_in m (directory_granules g d) t))))

  file-holds : (p : ℕ) → IsFile g d p → T (file_holds g d p)
  unfolding file_holds all
  file-holds p f =
      let a = name-holds p f in let b = hash-holds p f in let e = size-holds p f in let h = off-holds p f in
      search Members.and_i depth 5

  not-duplicate : (p q : ℕ) → IsFile g d p → IsFile g d q → q < p → name_of g d q ≡ name_of g d p → ⊥
  unfolding duplicate_fault
  not-duplicate p q f h l e =
      (c.clear p f.slot).duplicate (Members.all_two (in_use_primary g d p) (some (λ q. ltb q p && same (name_of g d q) (name_of g d p)) (files g d))
      f.primary'
      (Kinds.in_some (λ q. ltb q p && same (name_of g d q) (name_of g d p)) (Facts.in-files g d q h)
      (Members.and_i (ltb q p) (same (name_of g d q) (name_of g d p)) (lt→ltb q p l)
      (subst (λ (n : List ℕ). T (same (name_of g d q) n)) e (Members.same_refl (name_of g d q))))))

  names : (p q : ℕ) → IsFile g d p → IsFile g d q → name_of g d p ≡ name_of g d q → p ≡ q
  names p q f h e = go (ℕ_discrete p q)
    where
      which : (p < q) ⊎ (q < p) → p ≡ q
      which (inl l) = absurd (not-duplicate q p h f l e)
      which (inr l) = absurd (not-duplicate p q f h l (sym e))

      go : Dec (p ≡ q) → p ≡ q
      go (yes k) = k
      go (no k) = which (higher p q k)

  pub faultless-sound : Sound g d
  faultless-sound = record {
    dir = c.dir;
    hits = hit-holds;
    entries = λ s t u. entry-holds s (record { slot = t; used = u });
    file = file-holds;
    names = names;
    chains = chains;
    once = once;
    covered = λ s t u. covered s (record { slot = t; used = u });
    granules = granules;
    single = single;
    directory = λ n i. Members.every-all (taken g d) c.taken' i;
  }
