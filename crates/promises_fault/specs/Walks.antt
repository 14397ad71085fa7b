-- Walks in words: whom `meaning: Fault.walk` meets, from whom, and of which file. Nothing here asks for a consistent disk.
use Rattle.std.specs.Prelude.{◌≡◌, refl, ◌≢◌, ◌⊎◌, Bool, not, length, T, eqb}
use Rattle.std.proofs.Common.{sym, ◌∙◌, subst, inl, inr, arith}
use mathlib.Core.List.{List, [], ◌∷◌}
use Prim.Native.Nat.{ℕ, zero, suc, ◌≤◌}
use Rattle.std.proofs.Math.Dec.{eqb→eq, not_T}
use Rattle.meaning.specs.Lists.{every, keep, has}
use Rattle.meaning.specs.Layout.{is_slot, slots}
use Rattle.meaning.specs.Entries.{in_use, in_use_primary, extension, link}
use Rattle.meaning.specs.Chain.{files}
use Rattle.meaning.specs.Consistent.{follows_by}
use Rattle.meaning.specs.Fault.{hands_on, ends, walk_from, walk, met_from, good_extension, file_of}
use Rattle.meaning.specs.declared.Geometry.{Geometry}
use Rattle.lists.specs.Members
use Rattle.lists.specs.Members.{In, Distinct}
use Rattle.laws.specs.Facts
use Rattle.laws.specs.Facts.{IsFile}
use Rattle.laws.specs.Entry
use Rattle.laws.specs.Entry.{Follows}
use Rattle.laws.specs.Walk
use Rattle.laws.specs.Kinds
use Rattle.laws.specs.Rising
use Rattle.laws.specs.Rising.{Rising}
use Rattle.promises_fault.specs.Statement
use Rattle.promises_fault.specs.Statement.{LinksOn, LastEntry, WalkMeets, ComesFrom, OfFile, BadExtension}

-- Lists ---------------------------------------------------------------------------------------------------------------------------

-- the members of a list of one are one
alike : (xs : List ℕ) {a b : ℕ} → length xs ≡ 1 → In a xs → In b xs → a ≡ b
alike [] e i j = Members.none_in i
alike (x ∷ []) {a} {b} e i j = go (Members.in-cons i) (Members.in-cons j)
  where
    go : (a ≡ x) ⊎ In a [] → (b ≡ x) ⊎ In b [] → a ≡ b
    go (inl p) (inl q) = p ∙ sym q
    go (inl p) (inr k) = Members.none_in k
    go (inr k) q = Members.none_in k
alike (x ∷ y ∷ xs) e i j = absurd (omega arith)

first_two : {a b : ℕ} {xs : List ℕ} → Distinct (a ∷ b ∷ xs) → a ≢ b
first_two {xs = xs} (Members.Distinct.fresh f r) q = f (Members.head_in xs q)

module _ (g : Geometry) (d : List ℕ) where
  -- One entry ---------------------------------------------------------------------------------------------------------------------

  pub goes-says : (s : ℕ) → T (hands_on g d s) → LinksOn g d s
  goes-says s t =
      let k = Walk.hands-says g d s t in
      record { pairs = Entry.pairs-say g d s k.pairs; marked = k.marked; next = k.next; extends = k.extends; full = k.full }

  pub says-goes : (s : ℕ) → LinksOn g d s → T (hands_on g d s)
  says-goes s k =
      Walk.says-hands g d s
      (record { pairs = Entry.say-pairs g d s k.pairs; marked = k.marked; next = k.next; extends = k.extends; full = k.full })

  pub ends-says : (s : ℕ) → T (ends g d s) → LastEntry g d s
  ends-says s t = let k = Kinds.ends-says g d s t in record { pairs = Entry.pairs-say g d s k.0; marked = k.1 }

  pub says-ends : (s : ℕ) → LastEntry g d s → T (ends g d s)
  says-ends s k = Kinds.says-ends g d s (Entry.say-pairs g d s k.pairs) k.marked

  -- Walks -------------------------------------------------------------------------------------------------------------------------

  meets-from : (p left : ℕ) (before : List ℕ) (s x : ℕ) → WalkMeets g d p s → In x (walk_from g d left before s) → WalkMeets g d p x
  unfolding walk_from
  meets-from p zero before s x m i = Members.none_in i
  meets-from p (suc left) before s x m i = go (Walk.walk-cons g d left before s x i) (meets-from p left (s ∷ before) (link g d s) x)
    where
      rest : List ℕ
      rest = walk_from g d left (s ∷ before) (link g d s)

      go : (x ≡ s) ⊎ (T (hands_on g d s) × In x rest) → (WalkMeets g d p (link g d s) → In x rest → WalkMeets g d p x) → WalkMeets g d p x
      go (inl e) r = subst (WalkMeets g d p) (sym e) m
      go (inr j) r = r (Statement.WalkMeets.onward m (goes-says s j.0) refl) j.1

  pub meets-says : (p x : ℕ) → In x (walk g d p) → WalkMeets g d p x
  unfolding walk
  meets-says p x i = meets-from p _ [] p x Statement.WalkMeets.itself i

  pub says_meets : (p x : ℕ) → IsFile g d p → WalkMeets g d p x → In x (walk g d p)
  says_meets p x f Statement.WalkMeets.itself = Walk.walk_first g d p f
  says_meets p x f (Statement.WalkMeets.onward {b = b} m h e) =
      subst (λ (y : ℕ). In y (walk g d p)) e (Walk.walk-goes g d p b f (says_meets p b f m) (says-goes b h))

  pub comes-says : (x b : ℕ) → In b (met_from g d x) → ComesFrom g d x b
  comes-says x b i =
      let l = Kinds.met-says g d b x i in
      let w = Walk.walked-in g d b l.by in
      record { file = w.0; starts = w.1; meets = meets-says w.0 b w.2; goes = goes-says b l.on; to = l.to }

  pub says-comes : (x b : ℕ) → ComesFrom g d x b → In b (met_from g d x)
  says-comes x b c =
      let i = says_meets c.file b c.starts c.meets in
      Kinds.says-met g d b x (Walk.walk-used g d c.file b c.starts i).slot
      (record { to = c.to; on = says-goes b c.goes; by = Walk.in-walked g d c.file b c.starts i })

  -- Extensions --------------------------------------------------------------------------------------------------------------------

  good-one : (x : ℕ) → T (good_extension g d x) → length (met_from g d x) ≡ 1
  unfolding good_extension
  good-one x t = eqb→eq _ _ (Kinds.two-says (eqb (length (met_from g d x)) 1) (every (λ b. follows_by g d 0x90 b x) (met_from g d x)) t).0

  pub good-not-bad : (x : ℕ) → T (good_extension g d x) → BadExtension g d x → ⊥
  good-not-bad x t (Statement.BadExtension.unmet n) = let k = (Kinds.good-says g d x t).met in n k.0 (comes-says x k.0 k.1)
  good-not-bad x t (Statement.BadExtension.twice a b n i j) =
      n (alike (met_from g d x) (good-one x t) (says-comes x a i) (says-comes x b j))
  good-not-bad x t (Statement.BadExtension.formed b i n) = n ((Kinds.good-says g d x t).follow b (says-comes x b i))

  pub bad-says : (x : ℕ) → (T (good_extension g d x) → ⊥) → BadExtension g d x
  bad-says x n = go (met_from g d x) refl
    where
      at : (b : ℕ) (xs : List ℕ) → met_from g d x ≡ xs → In b xs → ComesFrom g d x b
      at b xs e i = comes-says x b (subst (λ (l : List ℕ). In b l) (sym e) i)

      lone : (b c : ℕ) → Follows g d b x → (c ≡ b) ⊎ In c [] → Follows g d c x
      lone b c f (inl e) = subst (λ (y : ℕ). Follows g d y x) (sym e) f
      lone b c f (inr i) = Members.none_in i

      go : (xs : List ℕ) → met_from g d x ≡ xs → BadExtension g d x
      go [] e = Statement.BadExtension.unmet (λ b c. Members.none_in (subst (λ (l : List ℕ). In b l) e (says-comes x b c)))
      go (b ∷ []) e =
          Statement.BadExtension.formed b (at b (b ∷ []) e Members.In.here) (λ f.
          n (Kinds.says-good g d x (rw e) (λ c i. lone b c f (Members.in-cons (subst (λ (l : List ℕ). In c l) e i)))))
      go (a ∷ b ∷ xs) e =
          Statement.BadExtension.twice a b (first_two (subst Distinct e (Kinds.met-distinct g d x)))
          (at a (a ∷ b ∷ xs) e Members.In.here) (at b (a ∷ b ∷ xs) e (Members.In.there Members.In.here))

  -- Files -------------------------------------------------------------------------------------------------------------------------

  files-rising : Rising (files g d)
  unfolding files slots
  files-rising = Rising.keep-rising (in_use_primary g d) (Rising.keep-rising (is_slot g d) (Rising.count-rising 0 256))

  pub file-of : (s p : ℕ) → IsFile g d p → WalkMeets g d p s → OfFile g d s (file_of g d s)
  unfolding file_of
  file-of s p f m =
      let k = Kinds.file_of-is g d s p f (says_meets p s f m) in
      record {
        file = k.0;
        meets = meets-says (file_of g d s) s k.1;
        lowest = λ q h n. Rising.first-lowest s (Rising.keep-rising (λ p. has (walk g d p) s) files-rising)
            (Members.in-keep (λ p. has (walk g d p) s) (Facts.in-files g d q h) (Members.in-has (says_meets q s h n)));
      }

  pub of_is : (s p : ℕ) → OfFile g d s p → file_of g d s ≡ p
  of_is s p o =
      let k = file-of s p o.file o.meets in
      let a = o.lowest (file_of g d s) k.file k.meets in
      let b = k.lowest p o.file o.meets in omega (arith, a, b)

  -- an entry in use has a file, unless it is a bad extension
  pub owner : (s : ℕ) → T (is_slot g d s) → T (in_use g d s) → (T (extension g d s) → T (good_extension g d s)) → OfFile g d s (file_of g d s)
  owner s t u k = go (Members.decide (extension g d s))
    where
      go : Members.Test (extension g d s) → OfFile g d s (file_of g d s)
      go (Members.Test.fails n) =
          let f : IsFile g d s = record { slot = t; primary' = Members.and_i (in_use g d s) (not (extension g d s)) u (not_T (extension g d s) n) } in
          file-of s s f Statement.WalkMeets.itself
      go (Members.Test.holds x) =
          let m = (Kinds.good-says g d s (k x)).met in
          let c = comes-says s m.0 m.1 in
          file-of s c.file c.starts (Statement.WalkMeets.onward c.meets c.goes c.to)
