-- The fault that `meaning` gives is what is told, in words: the lowest slot, the first kind there; and nothing else is.
use Rattle.std.specs.Prelude.{◌≡◌, ◌≢◌, ◌↔◌, ◌⊎◌, Bool, true, false, not, ℕ, ◌+◌, ◌≤◌, ◌<◌, eqb}
use Rattle.std.proofs.Math.Path.{refl}
use Rattle.std.proofs.Common.{ap, sym, ◌∙◌, subst, inl, arith, T_not, eqb→eq, le→leb}
use Rattle.std.proofs.Math.Logic.{inr}
use Rattle.std.proofs.Math.Bool.{cond}
use mathlib.Core.List.{List, [], ◌∷◌, ◌++◌}
use Rattle.std.proofs.Math.Decide.{ℕ_discrete}
use Rattle.std.proofs.Math.Dec.{T, leb, not_T, leb→le}
use Rattle.meaning.specs.Lists.{every, has, all}
use Rattle.meaning.specs.Layout.{is_slot, slots, taken, above_ten, directory_sectors, sectors, directory_granules}
use Rattle.meaning.specs.Consistent.{length_holds, directory_taken}
use Rattle.meaning.specs.Fault.{kinds_at, fault_at, lowest, fault}
use Rattle.meaning.specs.Refusal.{unplaced, placed}
use Rattle.meaning.specs.Refusals.{first}
use Rattle.meaning.specs.declared.Geometry.{Geometry}
use Rattle.meaning.specs.declared.Refusal.{Refusal}
use Rattle.lists.specs.Members
use Rattle.lists.specs.Members.{In}
use Rattle.laws.specs.Facts
use Rattle.laws.specs.FaultlessSound.{higher}
use Rattle.laws.specs.Rising
use Rattle.laws.specs.Rising.{Rising}
use Rattle.promises.specs.Promises.{Table}
use Rattle.promises.specs.Refusing.{Reading}
use Rattle.promises_fault.specs.Statement
use Rattle.promises_fault.specs.Statement.{FirstOf, NoneOf, kinds, LengthHolds, FaultIs, NoSlot}
use Rattle.promises_fault.specs.Tests

-- Any table -----------------------------------------------------------------------------------------------------------------------

abbrev numbers_in : Table → List ℕ
numbers_in [] = []
numbers_in (r ∷ rs) = r.0 ∷ numbers_in rs

-- one of two numbers is the lower, or they are equal
apart : (u s : ℕ) → (u < s) ⊎ ((u ≡ s) ⊎ (s < u))
apart u s = go (ℕ_discrete u s)
  where
    less : u ≢ s → (u < s) ⊎ (s < u) → (u < s) ⊎ ((u ≡ s) ⊎ (s < u))
    less n (inl l) = inl l
    less n (inr l) = inr (inr l)

    go : Dec (u ≡ s) → (u < s) ⊎ ((u ≡ s) ⊎ (s < u))
    go (yes e) = inr (inl e)
    go (no n) = less n (higher u s n)

module _ (g : Geometry) (d : List ℕ) where
  -- of a list of tests that reads as a table, the first is the first case that holds, or none holds
  first_or_none : (cs : List (ℕ × Bool)) (rs : Table) (E : Type 0) → E → Reading cs rs E
      → FirstOf g d (first cs) rs ⊎ ((first cs ≡ 0) × NoneOf g d rs)
  unfolding first
  first_or_none [] [] E e w = inr (refl, tt)
  first_or_none [] (r ∷ rs) E e w = absurd w
  first_or_none (c ∷ cs) [] E e w = absurd w
  first_or_none (c ∷ cs) (r ∷ rs) E e w = go (Members.decide c.1) (λ k. first_or_none cs rs (E × (r.1 → ⊥)) k w.2)
    where
      miss : (T c.1 → ⊥) → cond c.1 c.0 (first cs) ≡ first cs
      miss n = rw (Members.no_false {b = c.1} n)

      deeper : (T c.1 → ⊥) → (r.1 → ⊥) → FirstOf g d (first cs) rs ⊎ ((first cs ≡ 0) × NoneOf g d rs)
          → FirstOf g d (cond c.1 c.0 (first cs)) (r ∷ rs) ⊎ ((cond c.1 c.0 (first cs) ≡ 0) × NoneOf g d (r ∷ rs))
      deeper n z (inl f) = inl (inr (z, subst (λ (k : ℕ). FirstOf g d k rs) (sym (miss n)) f))
      deeper n z (inr f) = inr (miss n ∙ f.0, (z, f.1))

      go : Members.Test c.1 → (E × (r.1 → ⊥) → FirstOf g d (first cs) rs ⊎ ((first cs ≡ 0) × NoneOf g d rs))
          → FirstOf g d (cond c.1 c.0 (first cs)) (r ∷ rs) ⊎ ((cond c.1 c.0 (first cs) ≡ 0) × NoneOf g d (r ∷ rs))
      go (Members.Test.holds t) ih = inl (inl (ap (λ (b : Bool). cond b c.0 (first cs)) (Members.T_true {b = c.1} t) ∙ w.0, (w.1 e).0 t))
      go (Members.Test.fails t) ih = let z : r.1 → ⊥ = λ x. t ((w.1 e).1 x) in deeper t z (ih (e, z))

  first-in-table : (k : ℕ) (rs : Table) → FirstOf g d k rs → In k (numbers_in rs)
  first-in-table k [] f = absurd f
  first-in-table k (r ∷ rs) (inl f) = Members.head_in (numbers_in rs) f.0
  first-in-table k (r ∷ rs) (inr f) = Members.In.there (first-in-table k rs f.1)

  one-first : (j k : ℕ) (rs : Table) → FirstOf g d j rs → FirstOf g d k rs → j ≡ k
  one-first j k [] f h = absurd f
  one-first j k (r ∷ rs) (inl f) (inl h) = f.0 ∙ sym h.0
  one-first j k (r ∷ rs) (inl f) (inr h) = absurd (h.0 f.1)
  one-first j k (r ∷ rs) (inr f) (inl h) = absurd (f.0 h.1)
  one-first j k (r ∷ rs) (inr f) (inr h) = one-first j k rs f.1 h.1

  first-not-none : (k : ℕ) (rs : Table) → FirstOf g d k rs → NoneOf g d rs → ⊥
  first-not-none k [] f h = f
  first-not-none k (r ∷ rs) (inl f) h = h.0 f.1
  first-not-none k (r ∷ rs) (inr f) h = first-not-none k rs f.1 h.1

  -- One slot ----------------------------------------------------------------------------------------------------------------------

  reading : (s : ℕ) → T (is_slot g d s) → Reading (kinds_at g d s) (kinds g d s) (Unit {0})
  reading s t = (
    refl,
    λ e. Tests.hit-iff g d s t,
    (
      refl,
      λ e. Tests.name-iff g d s t,
      (
        refl,
        λ e. Tests.duplicate-iff g d s t,
        (
          refl,
          λ e. Tests.chain-iff g d s,
          (
            refl,
            λ e. Tests.run-iff g d s,
            (
              refl,
              λ e. Tests.gat-iff g d s,
              (
                refl,
                λ e. Tests.shared-iff g d s,
                (
                  refl,
                  λ e. Tests.size-iff g d s t,
                  (
                    refl,
                    λ e. Tests.directory-iff g d s t e.0.0.0.0.1,
                    tt,
                  ),
                ),
              ),
            ),
          ),
        ),
      ),
    ),
  )

  at_slot : (s : ℕ) → T (is_slot g d s) → FirstOf g d (fault_at g d s) (kinds g d s) ⊎ ((fault_at g d s ≡ 0) × NoneOf g d (kinds g d s))
  unfolding fault_at
  at_slot s t = first_or_none (kinds_at g d s) (kinds g d s) (Unit {0}) tt (reading s t)

  kind-nonzero : (s k : ℕ) → FirstOf g d k (kinds g d s) → k ≢ 0
  kind-nonzero s k f e = let c = Members.count-in k 22 9 (first-in-table k (kinds g d s) f) in omega (arith, c, e)

  is-first : (s k : ℕ) → T (is_slot g d s) → FirstOf g d k (kinds g d s) → fault_at g d s ≡ k
  is-first s k t f = go (at_slot s t)
    where
      go : FirstOf g d (fault_at g d s) (kinds g d s) ⊎ ((fault_at g d s ≡ 0) × NoneOf g d (kinds g d s)) → fault_at g d s ≡ k
      go (inl h) = one-first (fault_at g d s) k (kinds g d s) h f
      go (inr h) = absurd (first-not-none k (kinds g d s) f h.1)

  is_none : (s : ℕ) → T (is_slot g d s) → NoneOf g d (kinds g d s) → fault_at g d s ≡ 0
  is_none s t n = go (at_slot s t)
    where
      go : FirstOf g d (fault_at g d s) (kinds g d s) ⊎ ((fault_at g d s ≡ 0) × NoneOf g d (kinds g d s)) → fault_at g d s ≡ 0
      go (inl h) = absurd (first-not-none (fault_at g d s) (kinds g d s) h n)
      go (inr h) = h.0

  -- The lowest slot ---------------------------------------------------------------------------------------------------------------

  -- of some slots s is the lowest at fault
  record LowestFault (after : Refusal) (ss : List ℕ) (s : ℕ) : Type 0 where
    among : In s ss
    told : lowest g d after ss ≡ placed (fault_at g d s) s
    first' : FirstOf g d (fault_at g d s) (kinds g d s)
    below : (t : ℕ) → In t ss → t < s → NoneOf g d (kinds g d t)

  -- none of them is
  record Clean (after : Refusal) (ss : List ℕ) : Type 0 where
    told : lowest g d after ss ≡ after
    none : (s : ℕ) → In s ss → NoneOf g d (kinds g d s)

  search-lowest : (after : Refusal) {ss : List ℕ} → Rising ss → ((s : ℕ) → In s ss → T (is_slot g d s)) → ((s : ℕ) × LowestFault after ss s) ⊎ Clean after ss
  unfolding lowest
  search-lowest after Rising.Rising.done f = inr (record { told = refl; none = λ s i. Members.none_in i })
  search-lowest after (Rising.Rising.next {x = s} {xs = ss} h r) f =
      go (at_slot s (f s Members.In.here)) (search-lowest after r (λ t i. f t (Members.In.there i)))
    where
      miss : fault_at g d s ≡ 0 → lowest g d after (s ∷ ss) ≡ lowest g d after ss
      miss e = rw e refl

      under : (t : ℕ) → (t ≡ s) ⊎ In t ss → t < s → NoneOf g d (kinds g d t)
      under t (inl e) l = absurd (omega arith)
      under t (inr i) l = absurd (omega (arith, h t i))

      none_below : (u t : ℕ) → NoneOf g d (kinds g d s) → LowestFault after ss u → (t ≡ s) ⊎ In t ss → t < u → NoneOf g d (kinds g d t)
      none_below u t n k (inl e) l = subst (λ (y : ℕ). NoneOf g d (kinds g d y)) (sym e) n
      none_below u t n k (inr i) l = k.below t i l

      none-at : (t : ℕ) → NoneOf g d (kinds g d s) → Clean after ss → (t ≡ s) ⊎ In t ss → NoneOf g d (kinds g d t)
      none-at t n k (inl e) = subst (λ (y : ℕ). NoneOf g d (kinds g d y)) (sym e) n
      none-at t n k (inr i) = k.none t i

      go : FirstOf g d (fault_at g d s) (kinds g d s) ⊎ ((fault_at g d s ≡ 0) × NoneOf g d (kinds g d s))
          → ((u : ℕ) × LowestFault after ss u) ⊎ Clean after ss → ((u : ℕ) × LowestFault after (s ∷ ss) u) ⊎ Clean after (s ∷ ss)
      go (inl k) w = inl (
        s,
        record {
          among = Members.In.here;
          told = rw (Members.no_false {b = eqb (fault_at g d s) 0} (λ t. kind-nonzero s (fault_at g d s) k (eqb→eq _ _ t))) refl;
          first' = k;
          below = λ t i l. under t (Members.in-cons i) l;
        },
      )
      go (inr k) (inl w) = inl (
        w.0,
        record {
          among = Members.In.there w.1.among;
          told = miss k.0 ∙ w.1.told;
          first' = w.1.first';
          below = λ t i l. none_below w.0 t k.1 w.1 (Members.in-cons i) l;
        },
      )
      go (inr k) (inr w) = inr (record { told = miss k.0 ∙ w.told; none = λ t i. none-at t k.1 w (Members.in-cons i) })

  slots-rising : Rising (slots g d)
  unfolding slots
  slots-rising = Rising.keep-rising (is_slot g d) (Rising.count-rising 0 256)

  -- The whole ---------------------------------------------------------------------------------------------------------------------

  length-says : T (length_holds g d) → LengthHolds g d
  unfolding length_holds all
  length-says t =
      let a = has (0 ∷ 5 ∷ 10 ∷ 15 ∷ 20 ∷ []) (above_ten g d) in let b = leb (g.start + directory_sectors g d) (sectors g) in
      record { allowed = Members.has_in _ _ (Members.and_l a (all (b ∷ [])) t); fits = leb→le _ _ (Members.all-second a b t) }

  says-length : LengthHolds g d → T (length_holds g d)
  unfolding length_holds
  says-length l =
      Members.all_two (has (0 ∷ 5 ∷ 10 ∷ 15 ∷ 20 ∷ []) (above_ten g d)) (leb (g.start + directory_sectors g d) (sectors g)) (Members.in-has l.allowed)
      (le→leb _ _ l.fits)

  late : Refusal
  late = cond (directory_taken g d) (unplaced 0) (unplaced 30)

  pub tells : FaultIs g d (fault g d)
  unfolding fault late
  tells = go (Members.decide (length_holds g d)) (Members.decide (directory_taken g d)) (search-lowest late slots-rising (λ s i. Facts.slots-in g d s i))
    where
      whole : T (length_holds g d) → fault g d ≡ lowest g d late (slots g d)
      whole t = rw (Members.T_true {b = length_holds g d} t) refl

      none : Clean late (slots g d) → NoSlot g d
      none k s t = k.none s (Facts.in-slots g d s t)

      go : Members.Test (length_holds g d) → Members.Test (directory_taken g d) → ((s : ℕ) × LowestFault late (slots g d) s) ⊎ Clean late (slots g d)
          → FaultIs g d (fault g d)
      go (Members.Test.fails n) b w =
          subst (FaultIs g d) (sym (rw (Members.no_false {b = length_holds g d} n) refl)) (Statement.FaultIs.length' (λ l. n (says-length l)))
      go (Members.Test.holds t) b (inl w) =
          subst (FaultIs g d) (sym (whole t ∙ w.1.told))
          (Statement.FaultIs.slot w.0 (fault_at g d w.0) (length-says t) (Facts.slots-in g d w.0 w.1.among) w.1.first'
          (λ u i l. w.1.below u (Facts.in-slots g d u i) l))
      go (Members.Test.holds t) (Members.Test.holds b) (inr w) =
          subst (FaultIs g d) (sym (whole t ∙ w.told ∙ rw (Members.T_true {b = directory_taken g d} b) refl))
          (Statement.FaultIs.sound (length-says t) (none w) (λ n i. Members.every-all (taken g d) b i))
      go (Members.Test.holds t) (Members.Test.fails b) (inr w) =
          let k = Tests.one-fails (taken g d) (directory_granules g d) b in
          subst (FaultIs g d) (sym (whole t ∙ w.told ∙ rw (Members.no_false {b = directory_taken g d} b) refl))
          (Statement.FaultIs.granule k.0 (length-says t) (none w) k.1 k.2)

  -- where every slot is clean the late answer stands
  all-clean : (after : Refusal) (ss : List ℕ) → ((s : ℕ) → In s ss → fault_at g d s ≡ 0) → lowest g d after ss ≡ after
  unfolding lowest
  all-clean after [] f = refl
  all-clean after (s ∷ ss) f = rw (f s Members.In.here) (all-clean after ss (λ t i. f t (Members.In.there i)))

  clean : (after : Refusal) → NoSlot g d → lowest g d after (slots g d) ≡ after
  clean after n = all-clean after (slots g d) (λ s i. let t = Facts.slots-in g d s i in is_none s t (n s t))

  -- the lowest is the one below which all are clean
  that-slot : (after : Refusal) (s k : ℕ) → T (is_slot g d s) → FirstOf g d k (kinds g d s) → ((t : ℕ) → T (is_slot g d t) → t < s → NoneOf g d (kinds g d t))
      → lowest g d after (slots g d) ≡ placed k s
  that-slot after s k t f b = go (search-lowest after slots-rising (λ u i. Facts.slots-in g d u i))
    where
      alike : (u : ℕ) → LowestFault after (slots g d) u → (u < s) ⊎ ((u ≡ s) ⊎ (s < u)) → u ≡ s
      alike u w (inl l) = absurd (first-not-none (fault_at g d u) (kinds g d u) w.first' (b u (Facts.slots-in g d u w.among) l))
      alike u w (inr (inl e)) = e
      alike u w (inr (inr l)) = absurd (first-not-none k (kinds g d s) f (w.below s (Facts.in-slots g d s t) l))

      go : ((u : ℕ) × LowestFault after (slots g d) u) ⊎ Clean after (slots g d) → lowest g d after (slots g d) ≡ placed k s
      go (inr w) = absurd (first-not-none k (kinds g d s) f (w.none s (Facts.in-slots g d s t)))
      go (inl w) =
          let e = alike w.0 w.1 (apart w.0 s) in
          w.1.told ∙ ap (λ (u : ℕ). placed (fault_at g d u) u) e ∙ ap (λ (j : ℕ). placed j s) (is-first s k t f)

  pub tells-one : (r : Refusal) → FaultIs g d r → r ≡ fault g d
  unfolding fault
  tells-one r (Statement.FaultIs.length' n) = rw (Members.no_false {b = length_holds g d} (λ t. n (length-says t))) refl
  tells-one r (Statement.FaultIs.slot s k l t f b) = rw (Members.T_true {b = length_holds g d} (says-length l)) (sym (that-slot _ s k t f b))
  tells-one r (Statement.FaultIs.granule n l c i o) =
      rw (Members.T_true {b = length_holds g d} (says-length l))
      (sym (clean _ c ∙ rw (Members.no_false {b = directory_taken g d} (λ t. o (Members.every-all (taken g d) t i))) refl))
  tells-one r (Statement.FaultIs.sound l c o) =
      rw (Members.T_true {b = length_holds g d} (says-length l))
      (sym (clean _ c ∙ rw (Members.T_true {b = directory_taken g d} (Members.all-every (taken g d) (directory_granules g d) o)) refl))
