-- What a consistent disk is, as statements about every slot and every file, and back to the test
use Rattle.std.specs.Prelude.{◌≡◌, Bool, true, not, ℕ, ◌<◌, ltb}
use Rattle.std.proofs.Math.Path.{refl}
use Rattle.std.proofs.Common.{sym, subst, arith, T_not}
use mathlib.Core.List.{List, [], ◌∷◌}
use Rattle.std.proofs.Math.Dec.{T, not_T, ltb→lt}
use Rattle.meaning.specs.Lists.{count, every, keep, each, has, distinct, same, any}
use Rattle.meaning.specs.Layout.{is_slot, slots, directory_granules, taken}
use Rattle.meaning.specs.Entries.{in_use, in_use_primary, extension, name_of}
use Rattle.meaning.specs.Chain.{chain, owned, files}
use Rattle.meaning.specs.Consistent.{length_holds, hit_holds, entry_holds, slot_holds, file_holds, names_differ, met, consistent}
use Rattle.meaning.specs.declared.Geometry.{Geometry}
use Rattle.lists.specs.Members
use Rattle.laws.specs.Words.{words}

-- p is the slot of a file
pub record IsFile (g : Geometry) (d : List ℕ) (p : ℕ) : Type 0 where
  pub slot : T (is_slot g d p)
  pub primary' : T (in_use_primary g d p)

pub record Sound (g : Geometry) (d : List ℕ) : Type 0 where
  pub dir : T (length_holds g d)
  pub hits : (s : ℕ) → T (is_slot g d s) → T (hit_holds g d s)
  pub entries : (s : ℕ) → T (is_slot g d s) → T (in_use g d s) → T (entry_holds g d s)
  pub file : (p : ℕ) → IsFile g d p → T (file_holds g d p)
  pub names : (p q : ℕ) → IsFile g d p → IsFile g d q → name_of g d p ≡ name_of g d q → p ≡ q
  pub chains : (p q s : ℕ) → IsFile g d p → IsFile g d q → Members.In s (chain g d p) → Members.In s (chain g d q) → p ≡ q
  pub once : (p : ℕ) → IsFile g d p → Members.Distinct (chain g d p)
  pub covered : (s : ℕ) → T (is_slot g d s) → T (in_use g d s) → (p : ℕ) × IsFile g d p × Members.In s (chain g d p)
  pub granules : (p q n : ℕ) → IsFile g d p → IsFile g d q → Members.In n (owned g d p) → Members.In n (owned g d q) → p ≡ q
  pub single : (p : ℕ) → IsFile g d p → Members.Distinct (owned g d p)
  pub directory : (n : ℕ) → Members.In n (directory_granules g d) → T (taken g d n)

module _ (g : Geometry) (d : List ℕ) where
  pub slots-in : (s : ℕ) → Members.In s (slots g d) → T (is_slot g d s)
  unfolding slots
  slots-in s i = (Members.keep-in (is_slot g d) s (count 0 256) i).1

  pub slot_lt : (s : ℕ) → T (is_slot g d s) → s < 256
  unfolding words
  slot_lt s t = ltb→lt s 256 (Members.and_l (ltb s 256) _ t)

  pub in-slots : (s : ℕ) → T (is_slot g d s) → Members.In s (slots g d)
  unfolding slots
  in-slots s t = Members.in-keep (is_slot g d) (Members.in_count s 0 256 (omega arith) (omega (arith, slot_lt s t))) t

  pub slots-distinct : Members.Distinct (slots g d)
  unfolding slots
  slots-distinct = Members.keep-distinct (is_slot g d) (Members.count-distinct 0 256)

  pub files-in : (p : ℕ) → Members.In p (files g d) → IsFile g d p
  unfolding files
  files-in p i = let k = Members.keep-in (in_use_primary g d) p (slots g d) i in record { slot = slots-in p k.0; primary' = k.1 }

  pub in-files : (p : ℕ) → IsFile g d p → Members.In p (files g d)
  unfolding files
  in-files p f = Members.in-keep (in_use_primary g d) (in-slots p f.slot) f.primary'

  pub files-distinct : Members.Distinct (files g d)
  unfolding files
  files-distinct = Members.keep-distinct (in_use_primary g d) slots-distinct

  pub file-in-use : (p : ℕ) → IsFile g d p → T (in_use g d p)
  file-in-use p f = Members.and_l (in_use g d p) _ f.primary'

  pub file-first : (p : ℕ) → IsFile g d p → T (not (extension g d p))
  file-first p f = Members.and_r (in_use g d p) _ f.primary'

  unlike : ℕ → ℕ → Bool
  unlike p q = not (same (name_of g d p) (name_of g d q))

  pub differ-says : {p q : ℕ} {ps : List ℕ} → T (names_differ g d ps) → Members.In p ps → Members.In q ps → name_of g d p ≡ name_of g d q → p ≡ q
  unfolding names_differ unlike
  differ-says t Members.In.here Members.In.here e = refl
  differ-says {p} {q} t (Members.In.here {xs = xs}) (Members.In.there j) e =
      absurd (T_not (same (name_of g d p) (name_of g d q)) (Members.every-all (unlike p) (Members.and_l (every (unlike p) xs) _ t) j)
      (subst (λ (l : List ℕ). T (same (name_of g d p) l)) e (Members.same_refl (name_of g d p))))
  differ-says {p} {q} t (Members.In.there i) (Members.In.here {xs = xs}) e =
      absurd (T_not (same (name_of g d q) (name_of g d p)) (Members.every-all (unlike q) (Members.and_l (every (unlike q) xs) _ t) i)
      (subst (λ (l : List ℕ). T (same (name_of g d q) l)) (sym e) (Members.same_refl (name_of g d q))))
  differ-says t (Members.In.there {y = y} {xs = xs} i) (Members.In.there j) e = differ-says (Members.and_r (every (unlike y) xs) _ t) i j e

  pub says-differ : {ps : List ℕ} → Members.Distinct ps → ((p q : ℕ) → Members.In p ps → Members.In q ps → name_of g d p ≡ name_of g d q → p ≡ q) → T
      (names_differ g d ps)
  unfolding names_differ unlike
  says-differ Members.Distinct.done f = tt
  says-differ (Members.Distinct.fresh {x = p} {xs = ps} h r) f =
      Members.and_i (every (unlike p) ps) _
      (Members.all-every (unlike p) ps (λ q i. not_T (same (name_of g d p) (name_of g d q)) (λ t.
      h (subst (λ (x : ℕ). Members.In x ps) (sym (f p q Members.In.here (Members.In.there i) (Members.same-eq _ _ t))) i))))
      (says-differ r (λ q s i j. f q s (Members.In.there i) (Members.In.there j)))

  pub in-met : (p s : ℕ) → IsFile g d p → Members.In s (chain g d p) → Members.In s (met g d)
  unfolding met
  in-met p s f i = Members.in-each (chain g d) (in-files p f) i

  pub met-in : (s : ℕ) → Members.In s (met g d) → (p : ℕ) × IsFile g d p × Members.In s (chain g d p)
  unfolding met
  met-in s i = let k = Members.each_in (chain g d) s (files g d) i in (k.0, files-in k.0 k.1, k.2)

ruleset parts = (Members.and_l, Members.and_r)

ruleset whole = (Members.and_i)

module _ (g : Geometry) (d : List ℕ) where
  sound-T : T (consistent g d) → Sound g d
  unfolding consistent met words
  sound-T c =
      let ss : T (every (slot_holds g d) (slots g d)) = search parts depth 12 in
      let fs : T (every (file_holds g d) (files g d)) = search parts depth 12 in
      let ns : T (names_differ g d (files g d)) = search parts depth 12 in
      let ms : T (distinct (met g d)) = search parts depth 12 in
      let cs : T (every (has (met g d)) (keep (in_use g d) (slots g d))) = search parts depth 12 in
      let os : T (distinct (each (owned g d) (files g d))) = search parts depth 12 in
      let ts : T (every (taken g d) (directory_granules g d)) = search parts depth 12 in
      let md : Members.Distinct (each (chain g d) (files g d)) = Members.distinct-says _ ms in
      let od : Members.Distinct (each (owned g d) (files g d)) = Members.distinct-says _ os in
      let slot : (s : ℕ) → T (is_slot g d s) → T (slot_holds g d s) = λ s t. Members.every-all (slot_holds g d) ss (in-slots g d s t) in
      record {
        dir = search parts depth 12;
        hits = λ s t. Members.and_l (hit_holds g d s) _ (slot s t);
        entries = λ s t u. Members.if-any (in_use g d s) (entry_holds g d s)
            (Members.all-second (hit_holds g d s) (any (not (in_use g d s) ∷ entry_holds g d s ∷ [])) (slot s t)) u;
        file = λ p f. Members.every-all (file_holds g d) fs (in-files g d p f);
        names = λ p q f h e. differ-says g d ns (in-files g d p f) (in-files g d q h) e;
        chains = λ p q s f h i j. Members.each-apart (chain g d) md (in-files g d p f) (in-files g d q h) i j;
        once = λ p f. Members.distinct-each (chain g d) md (in-files g d p f);
        covered = λ s t u. met-in g d s
            (Members.has_in s (met g d) (Members.every-all (has (met g d)) cs (Members.in-keep (in_use g d) (in-slots g d s t) u)));
        granules = λ p q n f h i j. Members.each-apart (owned g d) od (in-files g d p f) (in-files g d q h) i j;
        single = λ p f. Members.distinct-each (owned g d) od (in-files g d p f);
        directory = λ n i. Members.every-all (taken g d) ts i;
      }

  pub sound : consistent g d ≡ true → Sound g d
  sound e = sound-T (Members.true-T e)

  T-sound : Sound g d → T (consistent g d)
  unfolding consistent met words
  T-sound c =
      let ss : T (every (slot_holds g d) (slots g d)) =
      Members.all-every (slot_holds g d) (slots g d) (λ s i. let t = slots-in g d s i in
      Members.all_two (hit_holds g d s) (any (not (in_use g d s) ∷ entry_holds g d s ∷ [])) (c.hits s t)
      (Members.any-if (in_use g d s) (entry_holds g d s) (c.entries s t))) in
      let fs : T (every (file_holds g d) (files g d)) = Members.all-every (file_holds g d) (files g d) (λ p i. c.file p (files-in g d p i)) in
      let ns : T (names_differ g d (files g d)) = says-differ g d (files-distinct g d) (λ p q i j e. c.names p q (files-in g d p i) (files-in g d q j) e) in
      let ms : T (distinct (met g d)) =
      Members.says-distinct (Members.each-distinct (chain g d) (files-distinct g d) (λ p i. c.once p (files-in g d p i))
      (λ p q s i j. c.chains p q s (files-in g d p i) (files-in g d q j))) in
      let cs : T (every (has (met g d)) (keep (in_use g d) (slots g d))) =
      Members.all-every (has (met g d)) (keep (in_use g d) (slots g d)) (λ s i.
      let k = Members.keep-in (in_use g d) s (slots g d) i in
      let m = c.covered s (slots-in g d s k.0) k.1 in
      Members.in-has (in-met g d m.0 s m.1 m.2)) in
      let os : T (distinct (each (owned g d) (files g d))) =
      Members.says-distinct (Members.each-distinct (owned g d) (files-distinct g d) (λ p i. c.single p (files-in g d p i))
      (λ p q s i j. c.granules p q s (files-in g d p i) (files-in g d q j))) in
      let ts : T (every (taken g d) (directory_granules g d)) = Members.all-every (taken g d) (directory_granules g d) c.directory in
      let dir : T (length_holds g d) = c.dir in
      search whole depth 12

  pub back : Sound g d → consistent g d ≡ true
  back c = Members.T_true (T-sound c)
