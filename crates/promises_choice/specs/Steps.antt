-- One granule more, and k granules more, in the words of `Statement`.
use Rattle.std.proofs.Math.Path.{◌≡◌, refl, subst}
use Rattle.std.proofs.Common.{ap, sym, ◌∙◌, eqb→eq, nltb→le}
use Rattle.std.specs.Prelude.{◌≢◌, Bool, true, false, get_or, eqb, leb, ltb}
use Rattle.std.proofs.Math.Bool.{not}
use mathlib.Core.List.{List, [], ◌∷◌, ◌++◌}
use Prim.Native.Nat.{ℕ, zero, suc, ◌+◌, ◌-◌, ◌*◌, ◌/◌, ◌%◌, ◌≤◌, ◌<◌}
use native.Mathlib.Omega.{arith}
use Rattle.std.proofs.Math.Decide.{dec_lt}
use Rattle.std.proofs.Math.ListN.{length, length-set}
use Rattle.std.proofs.Math.Seq.{get_or-set_other, length-sets}
use Rattle.std.proofs.Math.Dec.{T, T_not, not_T, leb→le, le→leb, ltb→lt, lt→ltb}
use Rattle.meaning.specs.Lists.{count, all, first_or}
use Rattle.meaning.specs.Layout.{byte, is_slot, taken, granules, hit, field, set_field, entry_at, gat_at, hit_at, above_ten, most_blocks}
use Rattle.meaning.specs.Entries.{system, runs, run_start, run_length}
use Rattle.meaning.specs.Chain.{chain, owned, tail}
use Rattle.meaning.specs.Free.{free_granules, lowest_free, longest_free, permitted, free_slot, free_slots}
use Rattle.meaning.specs.Growth.{Grown, grown, no_slot, after, lengthens, lengthened, with_pair, with_extension, new_extension, extended, take_at}
use Rattle.meaning.specs.Growth.{grow_by, and_then}
use Rattle.meaning.specs.Choice.{view}
use Rattle.meaning.specs.declared.Geometry.{Geometry}
use Rattle.lists.specs.Members
use Rattle.lists.specs.Members.{In}
use Rattle.laws.specs.Facts
use Rattle.laws.specs.Facts.{Sound, IsFile}
use Rattle.laws.specs.Entry
use Rattle.laws.specs.Places
use Rattle.laws.specs.Change
use Rattle.laws.specs.Create
use Rattle.laws.specs.AtTail
use Rattle.laws.specs.Tail
use Rattle.laws.specs.Take
use Rattle.laws.specs.TakeNew
use Rattle.laws.specs.TakeOne
use Rattle.laws.specs.Extend
use Rattle.laws.specs.Rising
use Rattle.laws.specs.Rising.{Rising}
use Rattle.laws.specs.Words.{words}
use Rattle.laws_choice.specs.Stretches
use Rattle.laws_choice.specs.Words
use Rattle.promises.specs.Promises.{Stretch}
use Rattle.promises.specs.Grow
use Rattle.promises.specs.Grow.{Grew, Chooses}
use Rattle.promises_choice.specs.Statement
use Rattle.promises_choice.specs.Statement.{NextGranule, LowestGranule, StretchEnd, FirstSlot, NewExtension, TakesBy, OneMore, StepsBy, NoPlace, Sticks}

-- Free granules and slots -------------------------------------------------------------------------------------------------------------

module _ (g : Geometry) (d : List ℕ) where
  -- 01's choice
  pub lowest-is : (p : ℕ) → 1 ≤ length (free_granules g d) → LowestGranule g p d (lowest_free g d)
  unfolding free_granules
  lowest-is p room =
      let k = TakeOne.first-free g d room in
      record { inside = k.0; free = k.1; lower = λ m l. go m l k.0 (Members.decide (taken g d m)) }
    where
      go : (m : ℕ) → m < lowest_free g d → lowest_free g d < granules g → Members.Test (taken g d m) → T (taken g d m)
      go m l b (Members.Test.holds t) = t
      go m l b (Members.Test.fails n) =
          let i = Members.in-keep (λ n. not (taken g d n)) (Members.in_count m 0 (granules g) (omega arith) (omega (arith, l, b))) (not_T (taken g d m) n) in
          let r = Rising.keep-rising (λ n. not (taken g d n)) (Rising.count-rising 0 (granules g)) in
          absurd (omega (arith, l, Rising.first-lowest 0 r i))

  -- 02's second choice
  pub end_is : (p : ℕ) → 1 ≤ length (free_granules g d) → StretchEnd g p d (longest_free g d)
  end_is p room =
      let k = TakeOne.first-free g d room in
      let v = view g p d in
      let w = Stretches.low-end (granules g) v in
      let one : Words.Stretch (granules g) v (lowest_free g d) 1 = λ i a b.
      let e : i ≡ lowest_free g d = omega arith in rw e (record { inside = k.0; clear = Members.no_false k.1 }) in
      let some : 1 ≤ w.long = w.longest (lowest_free g d) 1 one in
      record {
        long = w.long;
        some = some;
        free = record { inside = reach (longest_free g d) w.long some w.free; clear = λ i a b. (w.free i a b).clear };
        longest = λ a n s. w.longest a n (of a n s);
        lower = λ a s. w.lower a (of a w.long s);
      }
    where
      of : (a n : ℕ) → Stretch g d a n → Words.Stretch (granules g) (view g p d) a n
      of a n s i l m = record { inside = omega (arith, s.inside, m); clear = s.clear i l m }

      -- a stretch that has a granule ends on the disk
      reach : (a n : ℕ) → 1 ≤ n → Words.Stretch (granules g) (view g p d) a n → a + n ≤ granules g
      reach a n h s = let k = (s (a + (n - 1)) (omega arith) (omega arith)).inside in omega (arith, k, h)

  slots-rising : Rising (free_slots g d)
  unfolding free_slots
  slots-rising = Rising.keep-rising (free_slot g d) (Rising.count-rising 0 256)

  permitted-slot : (y : ℕ) → T (permitted g d y) → T (is_slot g d y)
  unfolding permitted all
  permitted-slot y m = Members.and_l (is_slot g d y) _ m

  in-free : (y : ℕ) → T (permitted g d y) → hit g d y ≡ 0 → In y (free_slots g d)
  unfolding free_slots free_slot
  in-free y m z =
      let s : T (is_slot g d y) = permitted-slot y m in
      Members.in-keep (free_slot g d) (Members.in_count y 0 256 (omega arith) (omega (arith, Facts.slot_lt g d y s)))
      (Members.all_two (permitted g d y) (eqb (hit g d y) 0) m (Members.eq-T z))

  free-permitted : (x : ℕ) → In x (free_slots g d) → T (permitted g d x)
  unfolding free_slots free_slot all
  free-permitted x i = Members.and_l (permitted g d x) _ (Members.keep-in (free_slot g d) x (count 0 256) i).1

  -- the first of the free slots
  first_slot : (p x : ℕ) (xs : List ℕ) → free_slots g d ≡ x ∷ xs → FirstSlot g p d x
  unfolding first_or
  first_slot p x xs e =
      let i : In x (free_slots g d) = rw e Members.In.here in
      record {
        may = free-permitted x i;
        unused = (Create.slots-free g d x i).1;
        lower = λ y l m z. let k = Rising.first-lowest 0 (subst Rising e slots-rising) (subst (λ (l : List ℕ). In y l) e (in-free y m z)) in
            omega (arith, l, k);
      }

-- One granule -----------------------------------------------------------------------------------------------------------------------

-- bytes 02 to 15 of a new extension
new-zeros : (e k : ℕ) → 2 ≤ k → k < 0x16 → get_or (new_extension e) k 0 ≡ 0
new-zeros e k a b = eqb→eq _ _
    (Members.every-all (λ k. eqb (get_or (new_extension e) k 0) 0) {xs = count 2 20} tt (Members.in_count k 2 20 a (omega arith)))

module _ (g : Geometry) (d : List ℕ) (p : ℕ) where
  next-says : T (lengthens g p d) → NextGranule g p d (after g p d)
  unfolding words
  next-says l =
      let a : T (leb 1 (runs g d (tail g p d))) = search Members.and_l depth 6 in
      let b : T (ltb (after g p d) (granules g)) = search (Members.and_l, Members.and_r) depth 6 in
      let c : T (not (taken g d (after g p d))) = search (Members.and_l, Members.and_r) depth 6 in
      let e : T (ltb (run_length g d (tail g p d) (runs g d (tail g p d) - 1)) 32) = search (Members.and_l, Members.and_r) depth 6 in
      record { run = leb→le _ _ a; after = refl; inside = ltb→lt _ _ b; free = T_not (taken g d (after g p d)) c; fewer = ltb→lt _ _ e }

  says-next : (n : ℕ) → NextGranule g p d n → T (lengthens g p d)
  unfolding words
  says-next n h =
      let i : after g p d < granules g = subst (λ (m : ℕ). m < granules g) h.after h.inside in
      let u : T (taken g d (after g p d)) → ⊥ = subst (λ (m : ℕ). T (taken g d m) → ⊥) h.after h.free in
      let a : T (leb 1 (runs g d (tail g p d))) = le→leb _ _ h.run in
      let b : T (ltb (after g p d) (granules g)) = lt→ltb _ _ i in
      let c : T (not (taken g d (after g p d))) = not_T (taken g d (after g p d)) u in
      let e : T (ltb (run_length g d (tail g p d) (runs g d (tail g p d) - 1)) 32) = lt→ltb _ _ h.fewer in
      search Members.and_i depth 5

module _ (g : Geometry) (d : List ℕ) (c : Sound g d) (k : Places.Fits g d) (p : ℕ) (f : IsFile g d p) (n : ℕ)
    (is_free : (n < granules g) × (T (taken g d n) → ⊥)) where
  abbrev e : ℕ
  e = tail g p d

  link-other : (x i : ℕ) → i ≢ entry_at g e + 0x1e → i ≢ entry_at g e + 0x1f → byte (set_field g (set_field g d e 0x1e 0xfe) e 0x1f x) i ≡ byte d i
  unfolding words
  link-other x i a b = simp get_or-set_other

  new-field-zero : (x : ℕ) → T (is_slot g d x) → (j : ℕ) → 2 ≤ j → j < 0x16 → field g (with_pair g (with_extension g p d e x) x 0 n) x j ≡ 0
  unfolding words Create.with_entry
  new-field-zero x t j a b =
      let sx = Places.slot g d x t in let w = sx.low in let a10 = Places.dir g d c.dir in
      let block-n : n / g.units < most_blocks = omega (arith, Places.block-lt g d n k is_free.0, k.blocks-hi) in
      let L = set_field g (set_field g d e 0x1e 0xfe) e 0x1f x in
      let H = with_extension g p d e x in
      let Q = Take.paired g H x 0 (n / g.units) (n % g.units * 32) in
      let above : above_ten g L ≡ above_ten g d = link-other x (hit_at g 31) (omega arith) (omega arith) in
      let sl : Places.IsSlot g L x = record { low = sx.low; sector = rw above sx.sector } in
      let long : length L ≡ length d = simp length-set in
      let room : entry_at g x + 32 ≤ length L = rw long (omega (arith, k.long)) in
      get_or-set_other Q (gat_at g n) (entry_at g x + j) _ 0 (omega arith)
      ∙ Take.paired-out g H x 0 (n / g.units) (n % g.units * 32) (entry_at g x + j) (omega arith) (omega arith)
      ∙ Create.with-field g L x (new_extension e) (hit g d p) refl sl j (omega arith) room
      ∙ new-zeros e j a b

  by-extension : (New : List ℕ → ℕ → Type 0) → New d n → ((m : ℕ) → NextGranule g p d m → ⊥) → runs g d e ≡ 4 → (x : ℕ) → FirstSlot g p d x
      → T (is_slot g d x) → OneMore g p New d (with_pair g (with_extension g p d e x) x 0 n) n
  by-extension New new none full x s t =
      let d' = with_pair g (with_extension g p d e x) x 0 n in
      let w = TakeNew.new-extends g d c k p f x t s.unused n full is_free.0 is_free.1 in
      record {
        last = Extend.extends-owned g d d' c p f x n w;
        way = Statement.TakesBy.extends none new full x s (record {
          flags = w.flags;
          before = w.before;
          zeros = new-field-zero x t;
          block' = w.first;
          unit = w.second;
          ffs = w.ffs;
          hash = w.hit-new;
          marked = w.marked;
          linked = w.linked;
        }) (Extend.extends-chain g d d' c p f x n w);
      }

  -- what is taken: the one just after the last run, or n
  take-says : (New : List ℕ → ℕ → Type 0) → New d n → (d' : List ℕ) → take_at g p n d ≡ grown d' → (m : ℕ) × OneMore g p New d d' m
  take-says New new d' q = go (Members.decide (lengthens g p d)) (Members.decide (ltb (runs g d e) 4))
    where
      none : (T (lengthens g p d) → ⊥) → (m : ℕ) → NextGranule g p d m → ⊥
      none a m h = a (says-next g d p m h)

      into : (T (lengthens g p d) → ⊥) → runs g d e ≡ 4 → (xs : List ℕ) → free_slots g d ≡ xs → extended g p xs d e n ≡ grown d'
          → (m : ℕ) × OneMore g p New d d' m
      into a full [] s r = unfold extended in absurd (let z : ◌≡◌ {A = ℕ} 0 1 = cc in omega arith)
      into a full (x ∷ xs) s r =
          let i : In x (free_slots g d) = rw s Members.In.here in
          let o = by-extension New new (none a) full x (first_slot g d p x xs s) (Create.slots-free g d x i).0 in
          let z : with_pair g (with_extension g p d e x) x 0 n ≡ d' = unfold extended in cc in
          (n, subst (λ (l : List ℕ). OneMore g p New d l n) z o)

      go : Members.Test (lengthens g p d) → Members.Test (ltb (runs g d e) 4) → (m : ℕ) × OneMore g p New d d' m
      go (Members.Test.holds t) b =
          let r : grown (lengthened g p d) ≡ grown d' = rw (Members.T_true {b = lengthens g p d} t) at q in
          let s : lengthened g p d ≡ d' = cc in
          let w = Take.lengthened-grows g d c k p f t in (
            after g p d,
            subst (λ (l : List ℕ). OneMore g p New d l (after g p d)) s (record {
              last = Tail.grows-owned g d (lengthened g p d) c p f (after g p d) w;
              way = Statement.TakesBy.lengthens (next-says g d p t) (AtTail.chain-stays g d (lengthened g p d) c p f w.at);
            }),
          )
      go (Members.Test.fails a) (Members.Test.holds t) =
          let r : grown (with_pair g d e (runs g d e) n) ≡ grown d' =
          rw (Members.no_false {b = lengthens g p d} a, Members.T_true {b = ltb (runs g d e) 4} t) at q in
          let s : with_pair g d e (runs g d e) n ≡ d' = cc in
          let few = ltb→lt (runs g d e) 4 t in
          let w = Take.paired-grows g d c k p f n few is_free.0 is_free.1 in (
            n,
            subst (λ (l : List ℕ). OneMore g p New d l n) s (record {
              last = Tail.grows-owned g d (with_pair g d e (runs g d e) n) c p f n w;
              way = Statement.TakesBy.begins (none a) new few (AtTail.chain-stays g d (with_pair g d e (runs g d e) n) c p f w.at);
            }),
          )
      go (Members.Test.fails a) (Members.Test.fails b) =
          let r : extended g p (free_slots g d) d e n ≡ grown d' =
          rw (Members.no_false {b = lengthens g p d} a, Members.no_false {b = ltb (runs g d e) 4} b) at q in
          into a (omega (arith, nltb→le (runs g d e) 4 (not_T (ltb (runs g d e) 4) b), Entry.runs-le g d e)) (free_slots g d) refl r

  -- where nothing is, there is no place
  take_none : take_at g p n d ≡ no_slot → NoPlace g p d
  take_none q = go (Members.decide (lengthens g p d)) (Members.decide (ltb (runs g d e) 4))
    where
      full-of : (T (ltb (runs g d e) 4) → ⊥) → runs g d e ≡ 4
      full-of b = omega (arith, nltb→le (runs g d e) 4 (not_T (ltb (runs g d e) 4) b), Entry.runs-le g d e)

      into : (T (lengthens g p d) → ⊥) → (T (ltb (runs g d e) 4) → ⊥) → (xs : List ℕ) → free_slots g d ≡ xs → extended g p xs d e n ≡ no_slot → NoPlace g p d
      into a b [] s r = record {
        next = λ m h. a (says-next g d p m h);
        full = full-of b;
        slots = λ x m z. Members.none_in (subst (λ (l : List ℕ). In x l) s (in-free g d x m z));
      }
      into a b (x ∷ xs) s r = unfold extended in absurd (let z : ◌≡◌ {A = ℕ} 0 1 = cc in omega arith)

      go : Members.Test (lengthens g p d) → Members.Test (ltb (runs g d e) 4) → NoPlace g p d
      go (Members.Test.holds t) b =
          let r : grown (lengthened g p d) ≡ no_slot = rw (Members.T_true {b = lengthens g p d} t) at q in
          absurd (let z : ◌≡◌ {A = ℕ} 0 1 = cc in omega arith)
      go (Members.Test.fails a) (Members.Test.holds t) =
          let r : grown (with_pair g d e (runs g d e) n) ≡ no_slot =
          rw (Members.no_false {b = lengthens g p d} a, Members.T_true {b = ltb (runs g d e) 4} t) at q in
          absurd (let z : ◌≡◌ {A = ℕ} 0 1 = cc in omega arith)
      go (Members.Test.fails a) (Members.Test.fails b) =
          let r : extended g p (free_slots g d) d e n ≡ no_slot =
          rw (Members.no_false {b = lengthens g p d} a, Members.no_false {b = ltb (runs g d e) 4} b) at q in
          into a b (free_slots g d) refl r

-- k granules --------------------------------------------------------------------------------------------------------------------------

module _ (g : Geometry) (p : ℕ) (choice : List ℕ → ℕ) (chooses : Chooses g choice) (New : List ℕ → ℕ → Type 0)
    (new : (d : List ℕ) → 1 ≤ length (free_granules g d) → New d (choice d)) where
  one-grew : (d d₁ : List ℕ) → Sound g d → Places.Fits g d → IsFile g d p → T (not (system g d p)) → 1 ≤ length (free_granules g d)
      → take_at g p (choice d) d ≡ grown d₁ → Grew g d d₁ p 1
  unfolding grow_by and_then
  one-grew d d₁ c w f u room e = Grow.grow_by-grew g choice chooses 1 d d₁ p c w f u room (rw e refl)

  pub steps : (k : ℕ) (d d' : List ℕ) → Sound g d → Places.Fits g d → IsFile g d p → T (not (system g d p)) → k ≤ length (free_granules g d)
      → grow_by g p choice k d ≡ grown d' → StepsBy g p New k d d'
  unfolding grow_by and_then
  steps zero d d' c w f u room q = let r : d ≡ d' = cc in subst (λ (l : List ℕ). StepsBy g p New 0 d l) r Statement.StepsBy.none
  steps (suc k) d d' c w f u room q =
      go (take_at g p (choice d) d) refl q (λ d₁ x. steps k d₁ d' x.kept.sound x.kept.fits x.kept.file x.kept.user (omega (arith, x.free)))
    where
      go : (t : Grown) → take_at g p (choice d) d ≡ t → and_then t (grow_by g p choice k) ≡ grown d'
          → ((d₁ : List ℕ) → Grew g d d₁ p 1 → grow_by g p choice k d₁ ≡ grown d' → StepsBy g p New k d₁ d') → StepsBy g p New (suc k) d d'
      go (grown d₁) e q ih =
          let some : 1 ≤ length (free_granules g d) = omega arith in
          let o = take-says g d c w p f (choice d) (chooses d some) New (new d some) d₁ e in
          Statement.StepsBy.more o.0 o.1 (ih d₁ (one-grew d d₁ c w f u some e) q)
      go no_slot e q ih = absurd (let z : ◌≡◌ {A = ℕ} 0 1 = cc in omega arith)

module _ (g : Geometry) (p : ℕ) where
  -- a step before
  sticks-more : (k n : ℕ) (d d₁ : List ℕ) → OneMore g p (LowestGranule g p) d d₁ n → Sticks g p k d₁ → Sticks g p (suc k) d
  sticks-more k n d d₁ o s = record {
    done = suc s.done;
    fewer = omega (arith, s.fewer);
    at = s.at;
    steps = Statement.StepsBy.more n o s.steps;
    stuck = s.stuck;
  }

  -- where 01's choice found no slot it stuck
  pub sticks : (k : ℕ) (d : List ℕ) → Sound g d → Places.Fits g d → IsFile g d p → T (not (system g d p)) → k ≤ length (free_granules g d)
      → grow_by g p (lowest_free g) k d ≡ no_slot → Sticks g p k d
  unfolding grow_by and_then
  sticks zero d c w f u room q = absurd (let z : ◌≡◌ {A = ℕ} 0 1 = cc in omega arith)
  sticks (suc k) d c w f u room q =
      go (take_at g p (lowest_free g d) d) refl q (λ d₁ x. sticks k d₁ x.kept.sound x.kept.fits x.kept.file x.kept.user (omega (arith, x.free)))
    where
      some : 1 ≤ length (free_granules g d)
      some = omega arith

      go : (t : Grown) → take_at g p (lowest_free g d) d ≡ t → and_then t (grow_by g p (lowest_free g) k) ≡ no_slot
          → ((d₁ : List ℕ) → Grew g d d₁ p 1 → grow_by g p (lowest_free g) k d₁ ≡ no_slot → Sticks g p k d₁) → Sticks g p (suc k) d
      go (grown d₁) e q ih =
          let o = take-says g d c w p f (lowest_free g d) (TakeOne.first-free g d some) (LowestGranule g p) (lowest-is g d p some) d₁ e in
          let x = one-grew g p (lowest_free g) (TakeOne.first-free g) (LowestGranule g p) (λ d r. lowest-is g d p r) d d₁ c w f u some e in
          sticks-more k o.0 d d₁ o.1 (ih d₁ x q)
      go no_slot e q ih = record {
        done = 0;
        fewer = omega arith;
        at = d;
        steps = Statement.StepsBy.none;
        stuck = take_none g d c w p f (lowest_free g d) (TakeOne.first-free g d some) e;
      }
