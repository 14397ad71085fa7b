-- What the functions test is what the definitions of 02 §2 say.
use mathlib.Core.Path.{◌≡◌, refl, sym, ap, ap₂, ◌∙◌, subst}
use mathlib.Core.List.{List, [], ◌∷◌}
use mathlib.Core.Bool.{Bool, true, false, not, ◌&&◌, and-true}
use Prim.Native.Nat.{ℕ, ◌-◌, ◌/◌, ◌≤◌, ◌<◌}
use native.Mathlib.Omega.{arith}
use native.Mathlib.Nat.{zero-add}
use lib.Dec.{T, eqb, ltb, ltb→lt, lt→ltb}
use lib.ListN.{length}
use Rattle.std.specs.Prelude.{MatchOption}
use Rattle.std.specs.Option.{is_some, unwrap_or}
use Rattle.std.specs.declared.option.Option.{Option}
use Rattle.std.specs.declared.option.Option.TheVariants.{None, Some}
use borrow.Author.Tests.{lt-ltb, le-ltb}
use Rattle.meaning.specs.Lists.{count, every, some, has, keep, all, first_or}
use Rattle.meaning.specs.Layout.{is_slot, slots, directory_sectors, directory_granules, granule_sectors, round_up}
use Rattle.lists.specs.Sizes
use Rattle.meaning.specs.Entries.{in_use, in_use_primary, runs, link, run_start, run_length, run_granules, entry_granules}
use Rattle.meaning.specs.Chain.{chain, files}
use Rattle.meaning.specs.Consistent.{follows_by}
use Rattle.meaning.specs.Fault.{hands_on, walk, walked, met_from, file_of, good_extension, chain_fault, chain_whole}
use Rattle.meaning.specs.declared.Geometry.{Geometry}
use Rattle.layout.specs.Room.{Room, Slot}
use Rattle.lists.specs.Tests.{all-at}
use Rattle.layout.proofs.HasRoom.{slot-of, slot-yes}
use Rattle.laws.specs.Rising.{keep-keep}
use Rattle.lists.specs.Members
use Rattle.lists.specs.Members.{In}
use Rattle.laws.specs.Facts
use Rattle.laws.specs.Facts.{IsFile}
use Rattle.laws.specs.Walk
use Rattle.laws.specs.Kinds
use Rattle.fault_kinds.specs.Reach
use Rattle.fault_kinds.specs.Reach.{reach}
use Rattle.fault_kinds.specs.Overlap
use Rattle.fault_kinds.specs.Overlap.{entries_meet}
use Rattle.fault_kinds.specs.Tests.{starts_to, first_file, leads, good_from, run_in, shares}

-- a last test that is another's where the first two hold
alike : (a b x y : Bool) → (a ≡ true → b ≡ true → x ≡ y) → (a && (b && x)) ≡ all (a ∷ b ∷ y ∷ [])
unfolding all
alike true true x y h = h refl refl ∙ sym (and-true y)
alike true false x y h = refl
alike false b x y h = refl

or-none : (z : ℕ) → first_or z [] ≡ z
unfolding first_or
or-none z = refl

or_some : (z p : ℕ) (ps : List ℕ) → first_or z (p ∷ ps) ≡ p
unfolding first_or
or_some z p ps = refl

module _ (g : Geometry) (d : List ℕ) where
  -- Files -------------------------------------------------------------------------------------------------------------------------

  file-of : (p : ℕ) → is_slot g d p ≡ true → in_use_primary g d p ≡ true → IsFile g d p
  file-of p a b = record { slot = Members.true-T a; primary' = Members.true-T b }

  starts-same : (x p : ℕ) → (is_slot g d p && (in_use_primary g d p && has (walk g d p) x)) ≡ starts_to g d x p
  unfolding starts_to
  starts-same x p =
      alike (is_slot g d p) (in_use_primary g d p) (has (walk g d p) x) (has (reach g d (length (slots g d)) p) x) (λ e f. Reach.meets g d p x (file-of p e f))

  files-keep : (x : ℕ) → keep (λ p. has (walk g d p) x) (files g d) ≡ keep (starts_to g d x) (count 0 256)
  unfolding files slots
  files-keep x =
      keep-keep (in_use_primary g d) (λ p. has (walk g d p) x) (keep (is_slot g d) (count 0 256))
      ∙ keep-keep (is_slot g d) (λ p. in_use_primary g d p && has (walk g d p) x) (count 0 256)
      ∙ Members.keep-eq (λ p. is_slot g d p && (in_use_primary g d p && has (walk g d p) x)) (starts_to g d x) (count 0 256) (λ p i. starts-same x p)

  starts-file : (x p : ℕ) → T (starts_to g d x p) → IsFile g d p
  unfolding starts_to
  starts-file x p t = let e = Members.T_true {b = starts_to g d x p} t in file-of p (all-at _ e 0) (all-at _ e 1)

  starts-meets : (x p : ℕ) → T (starts_to g d x p) → T (has (reach g d (length (slots g d)) p) x)
  unfolding starts_to
  starts-meets x p t = Members.true-T (all-at _ (Members.T_true {b = starts_to g d x p} t) 2)

  meets-starts : (x p : ℕ) → IsFile g d p → T (has (reach g d (length (slots g d)) p) x) → T (starts_to g d x p)
  unfolding starts_to
  meets-starts x p f h = Kinds.all_three (is_slot g d p) (in_use_primary g d p) (has (reach g d (length (slots g d)) p) x) f.slot f.primary' h

  -- what the first of the files that meet x is
  low : (x p : ℕ) → In p (keep (starts_to g d x) (count 0 256)) → (p < 256) × T (starts_to g d x p)
  low x p i = let k = Members.keep-in (starts_to g d x) p (count 0 256) i in (let h = (Members.count-in p 0 256 k.0).1 in omega arith, k.1)

  first-is : (x : ℕ) (l : List ℕ) → keep (starts_to g d x) (count 0 256) ≡ l → first_file g d x ≡ first_or 256 l
  unfolding first_file
  first-is x l e = ap (first_or 256) e

  file-is : (x : ℕ) (l : List ℕ) → keep (starts_to g d x) (count 0 256) ≡ l → file_of g d x ≡ first_or x l
  unfolding file_of
  file-is x l e = ap (first_or x) (files-keep x ∙ e)

  -- the files that meet x: none, or the first and others
  data Met (x : ℕ) : Type 0 where
    none : first_file g d x ≡ 256 → file_of g d x ≡ x → Met x
    one : (p : ℕ) → first_file g d x ≡ p → file_of g d x ≡ p → p < 256 → T (starts_to g d x p) → Met x

  met : (x : ℕ) → Met x
  met x = by (keep (starts_to g d x) (count 0 256)) refl
    where
      by : (l : List ℕ) → keep (starts_to g d x) (count 0 256) ≡ l → Met x
      by [] e = Met.none (first-is x [] e ∙ or-none 256) (file-is x [] e ∙ or-none x)
      by (p ∷ ps) e =
          let k = low x p (subst (In p) (sym e) Members.In.here) in
          Met.one p (first-is x (p ∷ ps) e ∙ or_some 256 p ps) (file-is x (p ∷ ps) e ∙ or_some x p ps) k.0 k.1

  pub first-file : (x : ℕ) → first_file g d x < 256 → (first_file g d x ≡ file_of g d x) × Slot g d (first_file g d x)
  first-file x h = by (met x)
    where
      by : Met x → (first_file g d x ≡ file_of g d x) × Slot g d (first_file g d x)
      by (Met.none e f) = absurd (let w : ⊥ = omega (arith, e, h) in w)
      by (Met.one p e f l t) = (e ∙ sym f, subst (λ (n : ℕ). Slot g d n) (sym e) (slot-of g d p (Members.T_true (starts-file x p t).slot)))

  pub first-self : (x : ℕ) → 256 ≤ first_file g d x → x ≡ file_of g d x
  first-self x h = by (met x)
    where
      by : Met x → x ≡ file_of g d x
      by (Met.none e f) = sym f
      by (Met.one p e f l t) = absurd (let w : ⊥ = omega (arith, e, h, l) in w)

  pub walked-is : (x : ℕ) → ltb (first_file g d x) 256 ≡ has (walked g d) x
  walked-is x = Members.both-T {a = ltb (first_file g d x) 256} {b = has (walked g d) x} (λ t. fore (ltb→lt _ _ t) (met x)) (λ t. lt→ltb _ _ (back t (met x)))
    where
      fore : first_file g d x < 256 → Met x → T (has (walked g d) x)
      fore h (Met.none e f) = absurd (let w : ⊥ = omega (arith, e, h) in w)
      fore h (Met.one p e f l t) =
          let k = starts-file x p t in
          let m : T (has (walk g d p) x) = rw (Reach.meets g d p x k) (starts-meets x p t) in
          Members.in-has (Walk.in-walked g d p x k (Members.has_in x (walk g d p) m))

      back : T (has (walked g d) x) → Met x → first_file g d x < 256
      back t (Met.one p e f l u) = omega (arith, e, l)
      back t (Met.none e f) =
          let k = Walk.walked-in g d x (Members.has_in x (walked g d) t) in
          absurd (nobody k.0 k.1 k.2)
        where
          -- the file that meets x stands in the list
          nobody : (p : ℕ) → IsFile g d p → In x (walk g d p) → ⊥
          nobody p k i =
              let u = meets-starts x p k (rw (← Reach.meets g d p x k) (Members.in-has i)) in
              let j = Members.in-keep (starts_to g d x) (Members.in_count p 0 256 (omega arith) (let h = Facts.slot_lt g d p k.slot in omega arith)) u in
              let m = (low x (first_or 256 (keep (starts_to g d x) (count 0 256))) (Kinds.first-in 256 j)).0 in
              let q = first-is x (keep (starts_to g d x) (count 0 256)) refl in
              omega (arith, e, m, q)

  -- the first file that meets x, where there is one
  abbrev pub First : ℕ → Option ℕ → Type 0
  First x r = MatchOption r (first_file g d x ≡ 256) (λ p. (p ≡ first_file g d x) × (p < 256))

  pub walked_by : (x : ℕ) (r : Option ℕ) → First x r → is_some r ≡ has (walked g d) x
  walked_by x None e = sym (le-ltb _ _ (omega arith)) ∙ walked-is x
  walked_by x (Some p) h = sym (lt-ltb _ _ (omega arith)) ∙ walked-is x

  pub file_by : (x : ℕ) (r : Option ℕ) → First x r → Slot g d x → (unwrap_or r x ≡ file_of g d x) × Slot g d (unwrap_or r x)
  file_by x None e k = (first-self x (omega arith), k)
  file_by x (Some p) h k =
      let j = first-file x (omega arith) in (h.0 ∙ j.0, subst (λ (n : ℕ). Slot g d n) (sym h.0) j.1)

  -- Extensions ----------------------------------------------------------------------------------------------------------------------

  met-is : (x : ℕ) → met_from g d x ≡ keep (leads g d x) (count 0 256)
  unfolding met_from slots leads all
  met-is x = keep-keep (is_slot g d) (λ b. all (eqb (link g d b) x ∷ hands_on g d b ∷ has (walked g d) b ∷ [])) (count 0 256)

  pub good_start : (x : ℕ) → good_extension g d x ≡ good_from g d x 0 (keep (leads g d x) (count 0 (256 - 0)))
  unfolding good_extension
  good_start x =
      ap (λ (m : List ℕ). all (eqb (length m) 1 ∷ every (λ b. follows_by g d 0x90 b x) m ∷ [])) (met-is x)
      ∙ ap (λ (j : ℕ). all (eqb j 1 ∷ every (λ b. follows_by g d 0x90 b x) (keep (leads g d x) (count 0 256)) ∷ []))
      (sym (zero-add (length (keep (leads g d x) (count 0 256)))))

  -- Granules in common --------------------------------------------------------------------------------------------------------------

  -- with entries in lower slots
  pub below-is : (s : ℕ) → s < 256
      → some (λ t. all (ltb t s ∷ in_use g d t ∷ some (has (entry_granules g d t)) (entry_granules g d s) ∷ [])) (slots g d) ≡ some (shares g d s) (count 0 s)
  unfolding shares
  below-is s l = Members.both-T {a = some old (slots g d)} {b = some (shares g d s) (count 0 s)} fore back
    where
      old : ℕ → Bool
      old t = all (ltb t s ∷ in_use g d t ∷ some (has (entry_granules g d t)) (entry_granules g d s) ∷ [])

      fore : T (some old (slots g d)) → T (some (shares g d s) (count 0 s))
      fore v =
          let k = Kinds.some_in old (slots g d) v in
          let m = Kinds.all-says (ltb k.0 s) (in_use g d k.0) (some (has (entry_granules g d k.0)) (entry_granules g d s)) k.2 in
          Kinds.in_some (shares g d s) (Members.in_count k.0 0 s (omega arith) (let h = ltb→lt k.0 s m.0 in omega arith))
          (Kinds.all_three (is_slot g d k.0) (in_use g d k.0) (entries_meet g d s k.0) (Facts.slots-in g d k.0 k.1) m.1
          (rw (← Overlap.shared-is g d s k.0) m.2))

      back : T (some (shares g d s) (count 0 s)) → T (some old (slots g d))
      back v =
          let k = Kinds.some_in (shares g d s) (count 0 s) v in
          let m = Kinds.all-says (is_slot g d k.0) (in_use g d k.0) (entries_meet g d s k.0) k.2 in
          let h = (Members.count-in k.0 0 s k.1).1 in
          Kinds.in_some old (Facts.in-slots g d k.0 m.0)
          (Kinds.all_three (ltb k.0 s) (in_use g d k.0) (some (has (entry_granules g d k.0)) (entry_granules g d s)) (lt→ltb k.0 s (omega arith))
          m.1 (rw (Overlap.shared-is g d s k.0) m.2))

  -- with the granules of the directory
  pub within-is : (s b m : ℕ) → 1 ≤ m → some (has (count b m)) (entry_granules g d s) ≡ some (run_in g d b m s) (count 0 (runs g d s))
  unfolding entry_granules run_in
  within-is s b m u = Members.both-T {a = some (has (count b m)) (entry_granules g d s)} {b = some (run_in g d b m s) (count 0 (runs g d s))} fore back
    where
      fore : T (some (has (count b m)) (entry_granules g d s)) → T (some (run_in g d b m s) (count 0 (runs g d s)))
      fore v =
          let w = Kinds.some_in (has (count b m)) (entry_granules g d s) v in
          let a = Members.each_in (run_granules g d s) w.0 (count 0 (runs g d s)) w.1 in
          Kinds.in_some (run_in g d b m s) a.1 (Overlap.common-overlap (run_start g d s a.0) (run_length g d s a.0) b m w.0 a.2
          (Members.has_in w.0 (count b m) w.2))

      back : T (some (run_in g d b m s) (count 0 (runs g d s))) → T (some (has (count b m)) (entry_granules g d s))
      back v =
          let a = Kinds.some_in (run_in g d b m s) (count 0 (runs g d s)) v in
          let h = Overlap.overlap-says (run_start g d s a.0) (run_length g d s a.0) b m a.2 in
          let x = Overlap.between (run_start g d s a.0) (run_length g d s a.0) b m (omega arith) u h.0 h.1 in
          Kinds.in_some (has (count b m)) (Members.in-each (run_granules g d s) a.1 x.1) (Members.in-has x.2)

  -- A whole chain -------------------------------------------------------------------------------------------------------------------

  pub whole_is : (p : ℕ) → is_slot g d p ≡ true → in_use_primary g d p ≡ true → chain_whole g d p ≡ every (λ s. not (chain_fault g d s))
      (reach g d (length (slots g d)) p)
  unfolding chain_whole
  whole_is p a b =
      Members.both-T {a = every firm (walk g d p)} {b = every firm (reach g d (length (slots g d)) p)}
      (λ t. Members.all-every firm (reach g d (length (slots g d)) p)
      (λ x i. Members.every-all firm t (Members.has_in x (walk g d p) (rw (Reach.meets g d p x f) (Members.in-has i)))))
      (λ t. Members.all-every firm (walk g d p) (λ x i. Members.every-all firm t
      (Members.has_in x (reach g d (length (slots g d)) p) (rw (← Reach.meets g d p x f) (Members.in-has i)))))
    where
      f : IsFile g d p
      f = file-of p a b

      firm : ℕ → Bool
      firm s = not (chain_fault g d s)

  pub whole-owns : (p : ℕ) → is_slot g d p ≡ true → in_use_primary g d p ≡ true → chain_whole g d p ≡ true → reach g d (length (slots g d)) p ≡ chain g d p
  whole-owns p a b w = sym (Reach.whole-chain g d p (file-of p a b) (Members.true-T w))

  pub whole_by : (p : ℕ) {n : ℕ} → Slot g d p → in_use_primary g d p ≡ true → n ≡ length (slots g d) → chain_whole g d p ≡ every (λ s. not (chain_fault g d s))
      (reach g d n p)
  whole_by p {n} h b e =
      whole_is p (slot-yes g d p h.low h.held) b ∙ ap (λ (j : ℕ). every (λ s. not (chain_fault g d s)) (reach g d j p)) (sym e)

  pub whole_same : (p : ℕ) {n : ℕ} → Slot g d p → in_use_primary g d p ≡ true → n ≡ length (slots g d) → every (λ s. not (chain_fault g d s)) (reach g d n p) ≡
      true
      → reach g d n p ≡ chain g d p
  whole_same p {n} h b e w =
      ap (λ (j : ℕ). reach g d j p) e ∙ whole-owns p (slot-yes g d p h.low h.held) b (whole_by p h b e ∙ w)

  pub directory-by : (s : ℕ) {b m : ℕ} → Room g d → b ≡ g.start / granule_sectors g → m ≡ round_up (directory_sectors g d) (granule_sectors g)
      → some (run_in g d b m s) (count 0 (runs g d s)) ≡ some (has (directory_granules g d)) (entry_granules g d s)
  directory-by s {b} {m} r e f =
      let t = r.ten in
      let u : 1 ≤ m = rw f (Sizes.round-some (Sizes.sectors-pos g) (directory_sectors g d) (omega arith)) in
      sym (within-is s b m u) ∙ ap₂ (λ (x y : ℕ). some (has (count x y)) (entry_granules g d s)) e f
