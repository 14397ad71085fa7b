-- Each kind of fault in words is the test that `meaning: Fault` makes of it.
use Rattle.std.specs.Prelude.{◌≡◌, refl, ◌≢◌, ◌↔◌, ◌⊎◌, Bool, true, false, ◌&&◌, ◌||◌, List, [], ◌∷◌, ℕ, ◌+◌, ◌*◌, ◌≤◌, ◌<◌, length, eqb, leb, ltb}
use Rattle.std.proofs.Common.{ap, sym, ◌∙◌, subst, arith, eqb→eq, leb→le, le→leb, lt→ltb, nltb→le}
use Rattle.std.proofs.Math.Logic.{inl, inr}
use Rattle.std.proofs.Math.Bool.{not}
use Rattle.std.specs.Bool.{beq}
use Rattle.std.proofs.Math.Dec.{T, T_not, not_T, ltb→lt}
use Rattle.meaning.specs.Lists.{count, every, some, has, distinct, same, all, any}
use Rattle.meaning.specs.Bits.{bit}
use Rattle.meaning.specs.Layout.{is_slot, slots, granules, granule_bytes, hit, field, taken, directory_granules}
use Rattle.meaning.specs.Names.{hash, well_formed}
use Rattle.meaning.specs.Entries.{in_use, extension, in_use_primary, system, name_of, sector_count, end_byte, size_of}
use Rattle.meaning.specs.Entries.{runs, first_unit, run_start, run_length, entry_granules}
use Rattle.meaning.specs.Chain.{files, owned}
use Rattle.meaning.specs.Consistent.{hit_holds, name_holds, runs_hold, gat_holds, size_holds, count_holds}
use Rattle.meaning.specs.Fault.{hands_on, ends, bad_entry, walk, good_extension, file_of, chain_whole}
use Rattle.meaning.specs.Fault.{hit_fault, name_fault, duplicate_fault, chain_fault, run_fault, gat_fault, shared_fault, size_fault, directory_fault}
use Rattle.meaning.specs.declared.Geometry.{Geometry}
use Rattle.lists.specs.Members
use Rattle.lists.specs.Members.{In}
use Rattle.lists.specs.First.{yes-T}
use Rattle.laws.specs.Facts
use Rattle.laws.specs.Facts.{IsFile}
use Rattle.laws.specs.Entry
use Rattle.laws.specs.Change
use Rattle.laws.specs.Kinds
use Rattle.promises_fault.specs.Statement
use Rattle.promises_fault.specs.Statement.{LinksOn, LastEntry, OfFile, BadExtension}
use Rattle.promises_fault.specs.Statement.{HitKind, NameKind, DuplicateKind, ChainKind, RunKind, GatKind, SharedKind, SizeKind, DirectoryKind}
use Rattle.promises_fault.specs.Walks

-- Tests ---------------------------------------------------------------------------------------------------------------------------

beq-fore : (a b : Bool) → T (beq a b) → T a → T b
beq-fore true true t u = tt
beq-fore true false t u = absurd t
beq-fore false b t u = absurd u

beq-back : (a b : Bool) → T (beq a b) → T b → T a
beq-back true b t u = tt
beq-back false true t u = absurd t
beq-back false false t u = absurd u

-- where not all pass, one fails
pub one-fails : (p : ℕ → Bool) (xs : List ℕ) → (T (every p xs) → ⊥) → (x : ℕ) × In x xs × (T (p x) → ⊥)
one-fails p [] n = absurd (n tt)
one-fails p (y ∷ xs) n = go (Members.decide (p y)) (one-fails p xs)
  where
    go : Members.Test (p y) → ((T (every p xs) → ⊥) → (x : ℕ) × In x xs × (T (p x) → ⊥)) → (x : ℕ) × In x (y ∷ xs) × (T (p x) → ⊥)
    go (Members.Test.fails f) r = (y, Members.In.here, f)
    go (Members.Test.holds t) r = let k = r (λ u. n (Members.and_i (p y) (every p xs) t u)) in (k.0, Members.In.there k.1, k.2)

no_le : (m n : ℕ) → (T (leb m n) → ⊥) → n < m
no_le m n f = go (Members.decide (ltb n m))
  where
    go : Members.Test (ltb n m) → n < m
    go (Members.Test.holds t) = ltb→lt n m t
    go (Members.Test.fails k) = absurd (f (le→leb m n (nltb→le n m (not_T (ltb n m) k))))

module _ (g : Geometry) (d : List ℕ) where
  a-file : (p : ℕ) → T (is_slot g d p) → T (in_use_primary g d p) → IsFile g d p
  a-file p t u = record { slot = t; primary' = u }

  -- 22 ------------------------------------------------------------------------------------------------------------------------------

  hit-of-used : (s : ℕ) → T (hit_holds g d s) → T (in_use g d s) → hit g d s ≢ 0
  unfolding hit_holds
  hit-of-used s t u e = T_not (eqb (hit g d s) 0) (beq-back (not (eqb (hit g d s) 0)) (in_use g d s) t u) (Members.eq-T e)

  used-of-hit : (s : ℕ) → T (hit_holds g d s) → hit g d s ≢ 0 → T (in_use g d s)
  unfolding hit_holds
  used-of-hit s t n = beq-fore (not (eqb (hit g d s) 0)) (in_use g d s) t (not_T (eqb (hit g d s) 0) (λ u. n (eqb→eq _ _ u)))

  -- the hash is tested, and is another
  abbrev wrong_hash : ℕ → Bool
  wrong_hash s =
      all (in_use g d s ∷ any (not (extension g d s) ∷ good_extension g d s ∷ []) ∷ not (eqb (hit g d s) (hash (name_of g d (file_of g d s)))) ∷ [])

  pub hit-iff : (s : ℕ) → T (is_slot g d s) → T (hit_fault g d s) ↔ HitKind g d s
  unfolding hit_fault
  hit-iff s t = (λ f. fore (Members.any-e (not (hit_holds g d s)) (wrong_hash s) f), back)
    where
      two : Members.Test (in_use g d s) → Members.Test (eqb (hit g d s) 0) → (T (hit_holds g d s) → ⊥) → HitKind g d s
      two (Members.Test.holds u) (Members.Test.holds z) n = Statement.HitKind.blank u (eqb→eq _ _ z)
      two (Members.Test.holds u) (Members.Test.fails z) n = absurd (n (Change.hit-yes g d s (λ e. z (Members.eq-T e)) u))
      two (Members.Test.fails u) (Members.Test.holds z) n = absurd (n (Change.hit-no g d s (eqb→eq _ _ z) u))
      two (Members.Test.fails u) (Members.Test.fails z) n = Statement.HitKind.idle u (λ e. z (Members.eq-T e))

      fore : T (not (hit_holds g d s)) ⊎ T (wrong_hash s) → HitKind g d s
      fore (inl n) = two (Members.decide (in_use g d s)) (Members.decide (eqb (hit g d s) 0)) (T_not (hit_holds g d s) n)
      fore (inr w) =
          let k = Kinds.all-says (in_use g d s) (any (not (extension g d s) ∷ good_extension g d s ∷ []))
          (not (eqb (hit g d s) (hash (name_of g d (file_of g d s))))) w in
          let good = Members.if-any (extension g d s) (good_extension g d s) k.1 in
          Statement.HitKind.unlike k.0 (λ x b. Walks.good-not-bad g d s (good x) b) (file_of g d s) (Walks.owner g d s t k.0 good)
          (λ e. T_not (eqb (hit g d s) (hash (name_of g d (file_of g d s)))) k.2 (Members.eq-T e))

      first : (T (hit_holds g d s) → ⊥) → T (any (not (hit_holds g d s) ∷ wrong_hash s ∷ []))
      first n = Members.any-l (not (hit_holds g d s)) (wrong_hash s) (not_T (hit_holds g d s) n)

      back : HitKind g d s → T (any (not (hit_holds g d s) ∷ wrong_hash s ∷ []))
      back (Statement.HitKind.idle n h) = first (λ k. n (used-of-hit s k h))
      back (Statement.HitKind.blank u z) = first (λ k. hit-of-used s k u z)
      back (Statement.HitKind.unlike u f p o n) =
          Members.any-r (not (hit_holds g d s)) (wrong_hash s)
          (Kinds.all_three (in_use g d s) (any (not (extension g d s) ∷ good_extension g d s ∷ []))
          (not (eqb (hit g d s) (hash (name_of g d (file_of g d s))))) u
          (Members.any-if (extension g d s) (good_extension g d s) (λ x.
          yes-T (good_extension g d s) (λ b. f x (Walks.bad-says g d s (T_not (good_extension g d s) b)))))
          (not_T (eqb (hit g d s) (hash (name_of g d (file_of g d s)))) (λ e.
          n (eqb→eq _ _ e ∙ ap (λ (q : ℕ). hash (name_of g d q)) (Walks.of_is g d s p o)))))

  -- 23 ------------------------------------------------------------------------------------------------------------------------------

  pub name-iff : (p : ℕ) → T (is_slot g d p) → T (name_fault g d p) ↔ NameKind g d p
  unfolding name_fault name_holds
  name-iff p t = (
    λ f. let k = Kinds.two-says (in_use_primary g d p) (not (name_holds g d p)) f in
        fore k.0 (T_not (name_holds g d p) k.1) (Members.decide (well_formed (name_of g d p))) (Members.decide (bit 5 (field g d p 0))),
    back,
  )
    where
      fore : T (in_use_primary g d p) → (T (name_holds g d p) → ⊥) → Members.Test (well_formed (name_of g d p))
          → Members.Test (bit 5 (field g d p 0)) → NameKind g d p
      fore u n (Members.Test.fails w) b = Statement.NameKind.formed (a-file p t u) w
      fore u n (Members.Test.holds w) (Members.Test.holds b) = Statement.NameKind.five (a-file p t u) b
      fore u n (Members.Test.holds w) (Members.Test.fails b) =
          absurd (n (Members.and_i (well_formed (name_of g d p)) (not (bit 5 (field g d p 0))) w (not_T (bit 5 (field g d p 0)) b)))

      says : IsFile g d p → (T (name_holds g d p) → ⊥) → T (all (in_use_primary g d p ∷ not (name_holds g d p) ∷ []))
      says f n = Members.all_two (in_use_primary g d p) (not (name_holds g d p)) f.primary' (not_T (name_holds g d p) n)

      back : NameKind g d p → T (all (in_use_primary g d p ∷ not (name_holds g d p) ∷ []))
      back (Statement.NameKind.formed f n) = says f (λ h. n (Members.and_l (well_formed (name_of g d p)) (not (bit 5 (field g d p 0))) h))
      back (Statement.NameKind.five f b) =
          says f (λ h. T_not (bit 5 (field g d p 0)) (Members.and_r (well_formed (name_of g d p)) (not (bit 5 (field g d p 0))) h) b)

  -- 24 ------------------------------------------------------------------------------------------------------------------------------

  abbrev namesake : ℕ → ℕ → Bool
  namesake p q = ltb q p && same (name_of g d q) (name_of g d p)

  pub duplicate-iff : (p : ℕ) → T (is_slot g d p) → T (duplicate_fault g d p) ↔ DuplicateKind g d p
  unfolding duplicate_fault
  duplicate-iff p t = (fore, back)
    where
      fore : T (all (in_use_primary g d p ∷ some (namesake p) (files g d) ∷ [])) → DuplicateKind g d p
      fore f =
          let k = Kinds.two-says (in_use_primary g d p) (some (namesake p) (files g d)) f in
          let w = Kinds.some_in (namesake p) (files g d) k.1 in
          record {
            file = a-file p t k.0;
            other = w.0;
            below = ltb→lt w.0 p (Members.and_l (ltb w.0 p) (same (name_of g d w.0) (name_of g d p)) w.2);
            file' = Facts.files-in g d w.0 w.1;
            alike = Members.same-eq _ _ (Members.and_r (ltb w.0 p) (same (name_of g d w.0) (name_of g d p)) w.2);
          }

      back : DuplicateKind g d p → T (all (in_use_primary g d p ∷ some (namesake p) (files g d) ∷ []))
      back k =
          let q = k.other in
          Members.all_two (in_use_primary g d p) (some (namesake p) (files g d)) k.file.primary'
          (Kinds.in_some (namesake p) (Facts.in-files g d q k.file')
          (Members.and_i (ltb q p) (same (name_of g d q) (name_of g d p)) (lt→ltb q p k.below)
          (subst (λ (n : List ℕ). T (same (name_of g d q) n)) k.alike (Members.same_refl (name_of g d q)))))

  -- 25 ------------------------------------------------------------------------------------------------------------------------------

  abbrev bad_extension : ℕ → Bool
  bad_extension s = all (extension g d s ∷ not (good_extension g d s) ∷ [])

  pub chain-iff : (s : ℕ) → T (chain_fault g d s) ↔ ChainKind g d s
  unfolding chain_fault bad_entry
  chain-iff s = (
    λ f. let k = Kinds.two-says (in_use g d s) (any (bad_entry g d s ∷ bad_extension s ∷ [])) f in
        fore k.0 (Members.any-e (bad_entry g d s) (bad_extension s) k.1),
    back,
  )
    where
      fore : T (in_use g d s) → T (bad_entry g d s) ⊎ T (bad_extension s) → ChainKind g d s
      fore u (inl b) =
          Statement.ChainKind.entry u
          (λ h. T_not (any (hands_on g d s ∷ ends g d s ∷ [])) b (Members.any-l (hands_on g d s) (ends g d s) (Walks.says-goes g d s h)))
          (λ e. T_not (any (hands_on g d s ∷ ends g d s ∷ [])) b (Members.any-r (hands_on g d s) (ends g d s) (Walks.says-ends g d s e)))
      fore u (inr b) =
          let k = Kinds.two-says (extension g d s) (not (good_extension g d s)) b in
          Statement.ChainKind.extends u k.0 (Walks.bad-says g d s (T_not (good_extension g d s) k.1))

      upright : (LinksOn g d s → ⊥) → (LastEntry g d s → ⊥) → T (hands_on g d s) ⊎ T (ends g d s) → ⊥
      upright n m (inl h) = n (Walks.goes-says g d s h)
      upright n m (inr e) = m (Walks.ends-says g d s e)

      back : ChainKind g d s → T (all (in_use g d s ∷ any (bad_entry g d s ∷ bad_extension s ∷ []) ∷ []))
      back (Statement.ChainKind.entry u n m) =
          Members.all_two (in_use g d s) (any (bad_entry g d s ∷ bad_extension s ∷ [])) u
          (Members.any-l (bad_entry g d s) (bad_extension s)
          (not_T (any (hands_on g d s ∷ ends g d s ∷ [])) (λ t. upright n m (Members.any-e (hands_on g d s) (ends g d s) t))))
      back (Statement.ChainKind.extends u x b) =
          Members.all_two (in_use g d s) (any (bad_entry g d s ∷ bad_extension s ∷ [])) u
          (Members.any-r (bad_entry g d s) (bad_extension s)
          (Members.all_two (extension g d s) (not (good_extension g d s)) x (not_T (good_extension g d s) (λ t. Walks.good-not-bad g d s t b))))

  -- 26, 27 --------------------------------------------------------------------------------------------------------------------------

  abbrev on_disk : ℕ → ℕ → Bool
  on_disk s k = all (ltb (first_unit g d s k) g.units ∷ leb (run_start g d s k + run_length g d s k) (granules g) ∷ [])

  pub run-iff : (s : ℕ) → T (run_fault g d s) ↔ RunKind g d s
  unfolding run_fault runs_hold
  run-iff s = (
    λ f. let k = Kinds.two-says (in_use g d s) (not (runs_hold g d s)) f in
        let w = one-fails (on_disk s) (count 0 (runs g d s)) (T_not (runs_hold g d s) k.1) in
        fore k.0 w.0 (Members.count-in w.0 0 (runs g d s) w.1).1 w.2
        (Members.decide (ltb (first_unit g d s w.0) g.units)) (Members.decide (leb (run_start g d s w.0 + run_length g d s w.0) (granules g))),
    back,
  )
    where
      fore : T (in_use g d s) → (k : ℕ) → k < 0 + runs g d s → (T (on_disk s k) → ⊥) → Members.Test (ltb (first_unit g d s k) g.units)
          → Members.Test (leb (run_start g d s k + run_length g d s k) (granules g)) → RunKind g d s
      fore u k h n (Members.Test.fails a) b =
          record { used = u; which = k; held = omega arith; off = inl (nltb→le (first_unit g d s k) g.units (not_T (ltb (first_unit g d s k) g.units) a)) }
      fore u k h n (Members.Test.holds a) (Members.Test.fails b) =
          record { used = u; which = k; held = omega arith; off = inr (no_le (run_start g d s k + run_length g d s k) (granules g) b) }
      fore u k h n (Members.Test.holds a) (Members.Test.holds b) =
          absurd (n (Members.all_two (ltb (first_unit g d s k) g.units) (leb (run_start g d s k + run_length g d s k) (granules g)) a b))

      back : RunKind g d s → T (all (in_use g d s ∷ not (runs_hold g d s) ∷ []))
      back r =
          Members.all_two (in_use g d s) (not (runs_hold g d s)) r.used
          (not_T (runs_hold g d s) (λ t. over r.off (Entry.runs-say g d s t r.which r.held)))
        where
          over : (g.units ≤ first_unit g d s r.which) ⊎ (granules g < run_start g d s r.which + run_length g d s r.which)
              → Entry.OnDisk g d s r.which → ⊥
          over (inl a) o = omega (arith, a, o.unit)
          over (inr a) o = omega (arith, a, o.inside)

  pub gat-iff : (s : ℕ) → T (gat_fault g d s) ↔ GatKind g d s
  unfolding gat_fault gat_holds
  gat-iff s = (
    λ f. let k = Kinds.two-says (in_use g d s) (not (gat_holds g d s)) f in
        let w = one-fails (taken g d) (entry_granules g d s) (T_not (gat_holds g d s) k.1) in
        record { used = k.0; granule' = w.0; held = w.1; clear = w.2 },
    λ r.
        Members.all_two (in_use g d s) (not (gat_holds g d s)) r.used
        (not_T (gat_holds g d s) (λ t. r.clear (Members.every-all (taken g d) t r.held))),
  )

  -- 28 ------------------------------------------------------------------------------------------------------------------------------

  abbrev meets_in : ℕ → ℕ → Bool
  meets_in s t = all (ltb t s ∷ in_use g d t ∷ some (has (entry_granules g d t)) (entry_granules g d s) ∷ [])

  abbrev shared : ℕ → Bool
  shared s = any (not (distinct (entry_granules g d s)) ∷ some (meets_in s) (slots g d) ∷ [])

  pub shared-iff : (s : ℕ) → T (shared_fault g d s) ↔ SharedKind g d s
  unfolding shared_fault
  shared-iff s = (
    λ f. let k = Kinds.two-says (in_use g d s) (shared s) f in
        fore k.0 (Members.any-e (not (distinct (entry_granules g d s))) (some (meets_in s) (slots g d)) k.1),
    back,
  )
    where
      fore : T (in_use g d s) → T (not (distinct (entry_granules g d s))) ⊎ T (some (meets_in s) (slots g d)) → SharedKind g d s
      fore u (inl n) = Statement.SharedKind.within u (λ k. T_not (distinct (entry_granules g d s)) n (Members.says-distinct k))
      fore u (inr t) =
          let w = Kinds.some_in (meets_in s) (slots g d) t in
          let k = Kinds.all-says (ltb w.0 s) (in_use g d w.0) (some (has (entry_granules g d w.0)) (entry_granules g d s)) w.2 in
          let v = Kinds.some_in (has (entry_granules g d w.0)) (entry_granules g d s) k.2 in
          Statement.SharedKind.across u w.0 v.0 (ltb→lt w.0 s k.0) (record { slot = Facts.slots-in g d w.0 w.1; used = k.1 })
          v.1 (Members.has_in v.0 (entry_granules g d w.0) v.2)

      back : SharedKind g d s → T (all (in_use g d s ∷ shared s ∷ []))
      back (Statement.SharedKind.within u n) =
          Members.all_two (in_use g d s) (shared s) u
          (Members.any-l (not (distinct (entry_granules g d s))) (some (meets_in s) (slots g d))
          (not_T (distinct (entry_granules g d s)) (λ t. n (Members.distinct-says (entry_granules g d s) t))))
      back (Statement.SharedKind.across u t n l v i j) =
          Members.all_two (in_use g d s) (shared s) u
          (Members.any-r (not (distinct (entry_granules g d s))) (some (meets_in s) (slots g d))
          (Kinds.in_some (meets_in s) (Facts.in-slots g d t v.slot)
          (Kinds.all_three (ltb t s) (in_use g d t) (some (has (entry_granules g d t)) (entry_granules g d s)) (lt→ltb t s l) v.used
          (Kinds.in_some (has (entry_granules g d t)) i (Members.in-has j)))))

  -- 29 ------------------------------------------------------------------------------------------------------------------------------

  abbrev fitting : ℕ → Bool
  fitting p = leb (size_of g d p) (granule_bytes g * length (owned g d p))

  pub size-iff : (p : ℕ) → T (is_slot g d p) → T (size_fault g d p) ↔ SizeKind g d p
  unfolding size_fault size_holds chain_whole
  size-iff p t = (fore, back)
    where
      count? : Members.Test (eqb (sector_count g d p) 0) → (T (count_holds (sector_count g d p) (end_byte g d p)) → ⊥)
          → (sector_count g d p ≡ 0) × (end_byte g d p ≢ 0)
      count? (Members.Test.holds z) n =
          (eqb→eq _ _ z, λ e. n (Members.or_r (not (eqb (sector_count g d p) 0)) (eqb (end_byte g d p) 0) (Members.eq-T e)))
      count? (Members.Test.fails z) n =
          absurd (n (Members.or_l (not (eqb (sector_count g d p) 0)) (eqb (end_byte g d p) 0) (not_T (eqb (sector_count g d p) 0) z)))

      which : (T (size_holds g d p) → ⊥) → Members.Test (count_holds (sector_count g d p) (end_byte g d p)) → Members.Test (fitting p)
          → ((sector_count g d p ≡ 0) × (end_byte g d p ≢ 0)) ⊎ (granule_bytes g * length (owned g d p) < size_of g d p)
      which n (Members.Test.fails a) b = inl (count? (Members.decide (eqb (sector_count g d p) 0)) a)
      which n (Members.Test.holds a) (Members.Test.fails b) = inr (no_le (size_of g d p) (granule_bytes g * length (owned g d p)) b)
      which n (Members.Test.holds a) (Members.Test.holds b) =
          absurd (n (Members.all_two (count_holds (sector_count g d p) (end_byte g d p)) (fitting p) a b))

      fore : T (all (in_use_primary g d p ∷ chain_whole g d p ∷ not (size_holds g d p) ∷ [])) → SizeKind g d p
      fore f =
          let k = Kinds.all-says (in_use_primary g d p) (chain_whole g d p) (not (size_holds g d p)) f in
          record {
            file = a-file p t k.0;
            whole = λ s m c. T_not (chain_fault g d s)
                (Members.every-all (λ s. not (chain_fault g d s)) k.1 (Walks.says_meets g d p s (a-file p t k.0) m)) ((chain-iff s).1 c);
            wrong = which (T_not (size_holds g d p) k.2) (Members.decide (count_holds (sector_count g d p) (end_byte g d p))) (Members.decide (fitting p));
          }

      wrong-no : ((sector_count g d p ≡ 0) × (end_byte g d p ≢ 0)) ⊎ (granule_bytes g * length (owned g d p) < size_of g d p) → T (size_holds g d p) → ⊥
      wrong-no (inl w) h =
          let k = Kinds.two-says (count_holds (sector_count g d p) (end_byte g d p)) (fitting p) h in
          w.1 (eqb→eq _ _ (Members.if-or (eqb (sector_count g d p) 0) (eqb (end_byte g d p) 0) k.0 (Members.eq-T w.0)))
      wrong-no (inr w) h =
          let k = Kinds.two-says (count_holds (sector_count g d p) (end_byte g d p)) (fitting p) h in
          omega (arith, w, leb→le (size_of g d p) (granule_bytes g * length (owned g d p)) k.1)

      back : SizeKind g d p → T (all (in_use_primary g d p ∷ chain_whole g d p ∷ not (size_holds g d p) ∷ []))
      back k =
          Kinds.all_three (in_use_primary g d p) (chain_whole g d p) (not (size_holds g d p)) k.file.primary'
          (Members.all-every (λ s. not (chain_fault g d s)) (walk g d p) (λ s i.
          not_T (chain_fault g d s) (λ c. k.whole s (Walks.meets-says g d p s i) ((chain-iff s).0 c))))
          (not_T (size_holds g d p) (wrong-no k.wrong))

  -- 30 ------------------------------------------------------------------------------------------------------------------------------

  -- Where 25 holds it is told, and the file of an extension that no walk meets is nobody's business.
  pub directory-iff : (s : ℕ) → T (is_slot g d s) → (ChainKind g d s → ⊥) → T (directory_fault g d s) ↔ DirectoryKind g d s
  unfolding directory_fault
  directory-iff s t n = (fore, back)
    where
      fore : T (all (in_use g d s ∷ not (system g d (file_of g d s)) ∷ some (has (directory_granules g d)) (entry_granules g d s) ∷ [])) → DirectoryKind g d s
      fore f =
          let k = Kinds.all-says (in_use g d s) (not (system g d (file_of g d s))) (some (has (directory_granules g d)) (entry_granules g d s)) f in
          let w = Kinds.some_in (has (directory_granules g d)) (entry_granules g d s) k.2 in
          record {
            used = k.0;
            file = file_of g d s;
            of = Walks.owner g d s t k.0 (λ x. yes-T (good_extension g d s) (λ b.
                n (Statement.ChainKind.extends k.0 x (Walks.bad-says g d s (T_not (good_extension g d s) b)))));
            plain = k.1;
            granule' = w.0;
            held = w.1;
            directory = Members.has_in w.0 (directory_granules g d) w.2;
          }

      back : DirectoryKind g d s → T (all (in_use g d s ∷ not (system g d (file_of g d s)) ∷ some (has (directory_granules g d)) (entry_granules g d s) ∷ []))
      back k =
          Kinds.all_three (in_use g d s) (not (system g d (file_of g d s))) (some (has (directory_granules g d)) (entry_granules g d s)) k.used
          (subst (λ (p : ℕ). T (not (system g d p))) (sym (Walks.of_is g d s k.file k.of)) k.plain)
          (Kinds.in_some (has (directory_granules g d)) k.held (Members.in-has k.directory))
