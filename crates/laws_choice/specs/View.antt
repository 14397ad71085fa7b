-- What one granule more does to what a choice sees of a disk and the file at slot p (meaning: Choice.view)
use Rattle.std.specs.Prelude.{◌≡◌, refl, ◌≢◌, not, leb, ltb}
use Rattle.std.proofs.Math.Path.{ap}
use Rattle.std.proofs.Common.{ap₂, sym, ◌∙◌, subst, arith, nltb→le}
use mathlib.Core.List.{List, [], ◌∷◌, ◌++◌}
use Prim.Native.Nat.{ℕ, zero, suc, ◌+◌, ◌-◌, ◌≤◌, ◌<◌}
use Rattle.std.proofs.Math.ListN.{length}
use Rattle.std.proofs.Math.Dec.{T, T_not, not_T, ltb→lt, lt→ltb, leb→le, le→leb}
use Rattle.meaning.specs.Lists.{last_or}
use Rattle.meaning.specs.Layout.{taken, granules}
use Rattle.meaning.specs.Entries.{runs, run_start, run_length, run_granules, entry_granules}
use Rattle.meaning.specs.Chain.{chain}
use Rattle.meaning.specs.Free.{free_slots}
use Rattle.meaning.specs.Growth.{Grown, grown, no_slot, tail, after, lengthens, lengthened, with_pair, with_extension, extended, take_at}
use Rattle.meaning.specs.declared.Geometry.{Geometry}
use Rattle.lists.specs.Members
use Rattle.lists.specs.Members.{In}
use Rattle.laws.specs.Facts
use Rattle.laws.specs.Facts.{Sound, IsFile}
use Rattle.laws.specs.Entry
use Rattle.laws.specs.Places
use Rattle.laws.specs.Change
use Rattle.laws.specs.Create
use Rattle.laws.specs.AtTail
use Rattle.laws.specs.Take
use Rattle.laws.specs.TakeNew
use Rattle.laws.specs.Extend
use Rattle.laws.specs.FreeSlots
use Rattle.laws.specs.Words.{words}
use Rattle.meaning.specs.Choice
use Rattle.meaning.specs.Choice.{Run, last_run, last_of, room_of, spare, Free}
pub use Rattle.meaning.specs.Choice.{view}
use Rattle.laws_choice.specs.Words.{Takes, Lengthens, Starts, CanLengthen, Stands}

last_some : (n first many : ℕ) → 1 ≤ n → last_of n first many ≡ last_run (record { first = first; many = many })
last_some zero first many h = absurd (omega arith)
last_some (suc n) first many h = refl

-- the last entry has these runs
last-is : (g : Geometry) (p : ℕ) (d : List ℕ) (e r first many : ℕ) → tail g p d ≡ e → runs g d e ≡ suc r → run_start g d e r ≡ first → run_length g d e r ≡ many
    → (view g p d).last ≡ last_run (record { first = first; many = many })
last-is g p d e r first many t a b c =
    last_some (runs g d (tail g p d)) (run_start g d (tail g p d) (runs g d (tail g p d) - 1)) (run_length g d (tail g p d) (runs g d (tail g p d) - 1))
    (omega (arith, x))
    ∙ ap₂ (λ (i n : ℕ). last_run (record { first = i; many = n }))
    (ap₂ (λ (s k : ℕ). run_start g d s k) t y ∙ b) (ap₂ (λ (s k : ℕ). run_length g d s k) t y ∙ c)
  where
    x : runs g d (tail g p d) ≡ suc r
    x = ap (runs g d) t ∙ a

    y : runs g d (tail g p d) - 1 ≡ r
    y = omega (arith, x)

module _ (g : Geometry) (p : ℕ) (d : List ℕ) where
  -- what `lengthens` tests
  record MayLengthen : Type 0 where
    some' : 1 ≤ runs g d (tail g p d)
    inside : after g p d < granules g
    free : T (taken g d (after g p d)) → ⊥
    short : run_length g d (tail g p d) (runs g d (tail g p d) - 1) < 32

  longer-says : T (lengthens g p d) → MayLengthen
  unfolding words
  longer-says l =
      let a : T (leb 1 (runs g d (tail g p d))) = search (Members.and_l, Members.and_r) depth 6 in
      let b : T (ltb (after g p d) (granules g)) = search (Members.and_l, Members.and_r) depth 6 in
      let c : T (not (taken g d (after g p d))) = search (Members.and_l, Members.and_r) depth 6 in
      let e : T (ltb (run_length g d (tail g p d) (runs g d (tail g p d) - 1)) 32) = search (Members.and_l, Members.and_r) depth 6 in
      record { some' = leb→le _ _ a; inside = ltb→lt _ _ b; free = T_not (taken g d (after g p d)) c; short = ltb→lt _ _ e }

  says-longer : MayLengthen → T (lengthens g p d)
  unfolding words
  says-longer h =
      let a : T (leb 1 (runs g d (tail g p d))) = le→leb _ _ h.some' in
      let b : T (ltb (after g p d) (granules g)) = lt→ltb _ _ h.inside in
      let c : T (not (taken g d (after g p d))) = not_T (taken g d (after g p d)) h.free in
      let e : T (ltb (run_length g d (tail g p d) (runs g d (tail g p d) - 1)) 32) = lt→ltb _ _ h.short in
      search Members.and_i depth 5

  last-run : 1 ≤ runs g d (tail g p d)
      → (view g p d).last ≡ last_run (record {
        first = run_start g d (tail g p d) (runs g d (tail g p d) - 1);
        many = run_length g d (tail g p d)
            (runs g d (tail g p d) - 1);
      })
  last-run h = last_some (runs g d (tail g p d)) _ _ h

  spare-none : (n first many : ℕ) → 0 < spare 32 (last_of n first many) → (1 ≤ n) × (many < 32)
  spare-none zero first many h = absurd (omega arith)
  spare-none (suc n) first many h = (omega arith, omega arith)

  -- it can be lengthened exactly as `lengthens` says
  pub can-says : CanLengthen 32 (granules g) (view g p d) → T (lengthens g p d)
  can-says c =
      let e = tail g p d in let k = runs g d e - 1 in
      let s = spare-none (runs g d e) (run_start g d e k) (run_length g d e k) c.fewer in
      let f : Free (granules g) (view g p d) (after g p d) = subst (Free (granules g) (view g p d)) (ap Choice.after (last-run s.0)) c.free in
      says-longer (record { some' = s.0; inside = f.inside; free = λ t. Members.false-no f.clear t; short = s.1 })

  -- the granules of the last run are taken
  pub stands : Sound g d → IsFile g d p → Stands (granules g) (view g p d)
  unfolding entry_granules
  stands c f = record {
    some' = λ r q. let w = ap (λ (x : Run). x.many) (is r q) in omega arith;
    own = λ r q n a b x. own r q n a b x;
  }
    where
      e : ℕ
      e = tail g p d

      k : ℕ
      k = runs g d e - 1

      none : (n first many : ℕ) (r : Run) → last_of n first many ≡ last_run r → (1 ≤ n) × (r ≡ record { first = first; many = many })
      none zero first many r q = absurd (let z : ◌≡◌ {A = ℕ} 0 1 = cc in omega arith)
      none (suc n) first many r q = (omega arith, cc)

      is : (r : Run) → (view g p d).last ≡ last_run r → r ≡ record { first = run_start g d e k; many = run_length g d e k }
      is r q = (none (runs g d e) (run_start g d e k) (run_length g d e k) r q).1

      own : (r : Run) → (view g p d).last ≡ last_run r → (n : ℕ) → r.first ≤ n → n < r.first + r.many → Free (granules g) (view g p d) n → ⊥
      own r q n a b x =
          let s = none (runs g d e) (run_start g d e k) (run_length g d e k) r q in
          let u = ap (λ (x : Run). x.first) s.1 in let w = ap (λ (x : Run). x.many) s.1 in
          let m = Change.members g d c p e f (Change.tail-in g d c p f) in
          let i : In n (entry_granules g d e) =
          Members.in-each (run_granules g d e) (Members.in_count k 0 (runs g d e) (omega arith) (omega (arith, s.0)))
          (Members.in_count n (run_start g d e k) (run_length g d e k) (omega arith) (omega arith)) in
          Members.false-no x.clear ((Change.entry-at g d c e m.slot m.used).gat n i)

-- a granule taken, in both ways of saying it
takes-is : (g : Geometry) (p : ℕ) (d d' : List ℕ) (m : ℕ) → m < granules g → (T (taken g d m) → ⊥) → T (taken g d' m)
    → ((n : ℕ) → n < granules g → n ≢ m → taken g d' n ≡ taken g d n) → Takes (granules g) (view g p d) (view g p d') m
takes-is g p d d' m i f s k = record { free = record { inside = i; clear = Members.no_false f }; now = Members.T_true s; keeps = k }

last_snoc : (z x : ℕ) (xs : List ℕ) → last_or z (xs ++ (x ∷ [])) ≡ x
unfolding last_or
last_snoc z x [] = refl
last_snoc z x (y ∷ ys) = last_snoc y x ys

module _ (g : Geometry) (d : List ℕ) (c : Sound g d) (k : Places.Fits g d) (p : ℕ) (f : IsFile g d p) where
  abbrev e : ℕ
  e = tail g p d

  -- the last run is longer by one
  view-longer : T (lengthens g p d) → Lengthens 32 (granules g) (view g p d) (view g p (lengthened g p d))
  view-longer l =
      let h = longer-says g p d l in
      let w = Take.lengthened-grows g d c k p f l in
      let r = runs g d e - 1 in
      record {
        run = record { first = run_start g d e r; many = run_length g d e r };
        had = last-run g p d h.some';
        fewer = h.short;
        takes = takes-is g p d (lengthened g p d) (after g p d) w.inside w.free w.set' w.keeps;
        has = last-is g p (lengthened g p d) e r (run_start g d e r) (run_length g d e r + 1) (AtTail.tail-stays g d (lengthened g p d) c p f w.at)
            (Take.runs' g d c k p f l) (Take.start' g d c k p f l) (Take.length' g d c k p f l ∙ omega arith);
        place = ap₂ room_of
            (ap (runs g (lengthened g p d)) (AtTail.tail-stays g d (lengthened g p d) c p f w.at) ∙ Take.runs' g d c k p f l ∙ omega (arith, h.some'))
            (ap length (FreeSlots.slots_same g d (lengthened g p d) w.at.above w.at.hits));
      }

  -- a new run in the last entry
  view-paired : (n : ℕ) → n < granules g → (T (taken g d n) → ⊥) → runs g d e < 4 → Starts 32 (granules g) (view g p d)
      (view g p (with_pair g d e (runs g d e) n)) n
  view-paired n i u few =
      let d' = with_pair g d e (runs g d e) n in
      let w = Take.paired-grows g d c k p f n few i u in
      let t = AtTail.tail-stays g d d' c p f w.at in
      let a = Take.runs₂ g d c k p f n few i u in
      let s = ap length (FreeSlots.slots_same g d d' w.at.above w.at.hits) in
      let q : runs g d' (tail g p d') ≡ suc (runs g d e) = ap (runs g d') t ∙ a in
      record {
        takes = takes-is g p d d' n w.inside w.free w.set' w.keeps;
        has = last-is g p d' e (runs g d e) n 1 t a (Take.start₂ g d c k p f n few i u) (Take.length₂ g d c k p f n few i u);
        place = omega (arith, q, s);
      }

  -- a new run in a new extension
  view-extended : (x n : ℕ) → In x (free_slots g d) → n < granules g → (T (taken g d n) → ⊥) → runs g d e ≡ 4
      → Starts 32 (granules g) (view g p d) (view g p (with_pair g (with_extension g p d e x) x 0 n)) n
  view-extended x n j i u full =
      let d' = with_pair g (with_extension g p d e x) x 0 n in
      let s = Create.slots-free g d x j in
      let w = TakeNew.new-extends g d c k p f x s.0 s.1 n full i u in
      let t : tail g p d' ≡ x = ap (last_or p) (Extend.extends-chain g d d' c p f x n w) ∙ last_snoc p x (chain g d p) in
      let a = Extend.runs-new g d d' c p f x n w in
      let q : runs g d' (tail g p d') ≡ 1 = ap (runs g d') t ∙ a in
      let z = FreeSlots.slots-less g d d' w.above x j (λ q. Change.used-hit g d c p f.slot (Facts.file-in-use g d p f) (sym w.hit-new ∙ q)) w.hits
      in
      record {
        takes = takes-is g p d d' n w.inside w.free w.set' w.keeps;
        has = last-is g p d' x 0 n 1 t a (Extend.start-new g d d' c p f x n w) (Extend.length-new g d d' c p f x n w);
        place = omega (arith, q, z, full);
      }

  -- One granule more, n being free ---------------------------------------------------------------------------------------

  pub data Took (n : ℕ) : Grown → Type 0 where
    longer : {d' : List ℕ} → T (lengthens g p d) → Lengthens 32 (granules g) (view g p d) (view g p d') → Took n (grown d')
    starts : {d' : List ℕ} → (T (lengthens g p d) → ⊥) → Starts 32 (granules g) (view g p d) (view g p d') n → Took n (grown d')
    none : (T (lengthens g p d) → ⊥) → (view g p d).room ≡ 0 → Took n no_slot

  into : (n : ℕ) → n < granules g → (T (taken g d n) → ⊥) → (T (lengthens g p d) → ⊥) → runs g d e ≡ 4 → (xs : List ℕ) → free_slots g d ≡ xs → Took n
      (extended g p xs d e n)
  unfolding extended
  into n i u a full [] q = none a (omega (arith, full, ap length q))
  into n i u a full (x ∷ xs) q = starts a (view-extended x n (rw q Members.In.here) i u full)

  pub took : (n : ℕ) → n < granules g → (T (taken g d n) → ⊥) → Took n (take_at g p n d)
  took n i u = go (Members.decide (lengthens g p d)) (Members.decide (ltb (runs g d e) 4))
    where
      go : Members.Test (lengthens g p d) → Members.Test (ltb (runs g d e) 4) → Took n (take_at g p n d)
      go (Members.Test.holds t) b = rw (Members.T_true {b = lengthens g p d} t) (longer t (view-longer t))
      go (Members.Test.fails a) (Members.Test.holds t) =
          rw (Members.no_false {b = lengthens g p d} a, Members.T_true {b = ltb (runs g d e) 4} t) (starts a (view-paired n i u (ltb→lt (runs g d e) 4 t)))
      go (Members.Test.fails a) (Members.Test.fails b) =
          rw (Members.no_false {b = lengthens g p d} a, Members.no_false {b = ltb (runs g d e) 4} b)
          (into n i u a (omega (arith, nltb→le (runs g d e) 4 (not_T (ltb (runs g d e) 4) b), Entry.runs-le g d e)) (free_slots g d) refl)
