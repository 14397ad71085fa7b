-- A growth and a trim of two images that are alike, step by step: the same granule is taken or dropped of both, the same entry changed.
use Rattle.std.specs.Prelude.{◌≡◌, ◌≢◌, Bool, true, false, cond, ◌&&◌, T, eqb, ltb}
use Rattle.std.proofs.Math.Path.{refl, ap, subst}
use Rattle.std.proofs.Common.{sym, ◌∙◌, inl, inr, arith, T_not}
use Rattle.std.proofs.Math.Bool.{not}
use mathlib.Core.List.{List, [], ◌∷◌}
use Prim.Native.Nat.{ℕ, zero, suc, ◌+◌, ◌-◌, ◌*◌, ◌≤◌, ◌<◌}
use Rattle.std.proofs.Math.Decide.{dec_lt}
use Rattle.std.proofs.Math.Dec.{leb, ltb→lt}
use lib.ListN.{length, set, length-set}
use Rattle.std.proofs.lemmas.List.Edits.{sets}
use Rattle.std.proofs.Math.Seq.{get_or-set_other}
use Rattle.meaning.specs.Lists.{all, last_or, times, count}
use Rattle.meaning.specs.Layout.{byte, granules, taken, take_granule, free_granule, hit, hit_at, entry_at, is_slot, field, set_field, granule_bytes}
use Rattle.meaning.specs.Bits.{bit, digit}
use Rattle.meaning.specs.Entries.{block, pair_byte, set_link, runs, pair_start, pair_length, system, size_of, extension, set_pair}
use Rattle.meaning.specs.Chain.{owned, tail}
use Rattle.meaning.specs.Free.{free_granules, free_slots, free_slot, permitted, lowest_free, longest_free}
use Rattle.meaning.specs.Growth.{Grown, grown, no_slot, and_then, or_else, fails, disk_or, with_pair, new_extension, with_extension, after, lengthens}
use Rattle.meaning.specs.Growth.{extended, take_at, grow_by, growth}
use Rattle.meaning.specs.Drop.{unhooked, drop_one}
use Rattle.meaning.specs.declared.Geometry.{Geometry}
use Rattle.lists.specs.Members
use Rattle.lists.specs.Members.{In}
use Rattle.lists.specs.Sizes
use Rattle.laws.specs.Facts
use Rattle.laws.specs.Facts.{Sound, IsFile}
use Rattle.laws.specs.Places
use Rattle.laws.specs.Change
use Rattle.laws.specs.Drop
use Rattle.laws.specs.DropLast
use Rattle.laws.specs.Shorter
use Rattle.laws.specs.Entry
use Rattle.laws.specs.TakeOne
use Rattle.promises.specs.Grow
use Rattle.promises_unread.specs.Statement.{Kinds, ReadAlike}
use Rattle.promises_unread.specs.Reads
use Rattle.promises_unread.specs.Stores
use Rattle.promises_unread.specs.Stores.{AlikePair, Slot}

-- both growths found a slot and left images alike, or neither found one
pub data BothGrown (u : Kinds) (g : Geometry) (m : ℕ) : Grown → Grown → Type 0 where
  both : {d d' : List ℕ} → AlikePair u g m d d' → BothGrown u g m (grown d) (grown d')
  neither : BothGrown u g m no_slot no_slot

-- A free slot is a slot -----------------------------------------------------------------------------------------------------

pub free-slot : (g : Geometry) (d : List ℕ) (x : ℕ) → In x (free_slots g d) → T (is_slot g d x)
unfolding free_slots free_slot permitted all
free-slot g d x i = Members.and_l (is_slot g d x) _ (Members.and_l (is_slot g d x && _) _ (Members.keep-in (free_slot g d) x (count 0 256) i).1)

-- One granule more ------------------------------------------------------------------------------------------------------------

module _ (u : Kinds) (g : Geometry) (p m : ℕ) where
  -- all pairs behind k begin with FFH
  abbrev Behind : List ℕ → ℕ → ℕ → Type 0
  Behind d e k = (j : ℕ) → k < j → j < 4 → block g d e j ≡ 0xff

  both_run : (d d' : List ℕ) (e k n : ℕ) → Slot m e → k < 4 → Behind d e k → n < granules g → AlikePair u g m d d'
      → AlikePair u g m (with_pair g d e k n) (with_pair g d' e k n)
  both_run d d' e k n t l ff h w = Stores.both-take u g m _ _ n h (Stores.both-pair u g m d d' e k _ _ t l ff w)

  new-ff : (e j : ℕ) → j < 4 → byte (new_extension e) (0x16 + 2 * j) ≡ 0xff
  new-ff e zero h = refl
  new-ff e (suc zero) h = refl
  new-ff e (suc (suc zero)) h = refl
  new-ff e (suc (suc (suc zero))) h = refl
  new-ff e (suc (suc (suc (suc j)))) h = absurd (omega arith)

  -- a new extension's pairs are FFH
  new-pairs : (d d' : List ℕ) (e x : ℕ) → Slot m x → AlikePair u g m d d' → Behind (with_extension g p d e x) x 0
  unfolding field set_field
  new-pairs d d' e x t w j l h =
      let r = Places.slot g d x (Stores.is-slot u g m d x w.tall t) in
      let long = length-set (set d (entry_at g e + 0x1e) 0xfe) (entry_at g e + 0x1f) x ∙ length-set d (entry_at g e + 0x1e) 0xfe in
      let fit = Stores.entry_lt g d x 31 w.fits w.dir (Stores.is-slot u g m d x w.tall t) (omega arith) in
      get_or-set_other (sets (set_link g d e 0xfe x) (entry_at g x) (new_extension e)) (hit_at g x) (entry_at g x + (0x16 + 2 * j)) (hit g d p) 0
      (omega (arith, r.low))
      ∙ Places.sets-inside (new_extension e) (set_link g d e 0xfe x) (entry_at g x) (0x16 + 2 * j) (omega arith) (omega (arith, long, fit)) ∙ new-ff e j h

  both-extension : (d d' : List ℕ) (e x : ℕ) → Slot m p → Slot m e → Slot m x → AlikePair u g m d d'
      → AlikePair u g m (with_extension g p d e x) (with_extension g p d' e x)
  both-extension d d' e x r t v w =
      let l = Stores.both-link u g m d d' e 0xfe x t w in
      let s = Stores.both-sets u g m (new_extension e) _ _ x refl v l in
      subst (λ (b : ℕ). AlikePair u g m (with_extension g p d e x)
      (sets (sets (set_link g d' e 0xfe x) (entry_at g x) (new_extension e)) (hit_at g x) (b ∷ [])))
      (w.alike.hits p (Stores.is-slot u g m d p w.tall r))
      (Stores.both-hit u g m _ _ x (hit g d p) (Stores.not-count u g m d d' x w v) s)

  both-extended : (xs d d' : List ℕ) (e n : ℕ) → Slot m p → Slot m e → ((x : ℕ) → In x xs → Slot m x) → n < granules g → AlikePair u g m d d'
      → BothGrown u g m (extended g p xs d e n) (extended g p xs d' e n)
  unfolding extended
  both-extended [] d d' e n r t f h w = BothGrown.neither
  both-extended (x ∷ xs) d d' e n r t f h w =
      BothGrown.both (both_run _ _ x 0 n (f x Members.In.here) (omega arith) (new-pairs d d' e x (f x Members.In.here) w) h
      (both-extension d d' e x r t (f x Members.In.here) w))

  -- one more, with all that is read of the disk in its hands: the last entry, its runs, whether the last one may be lengthened, by which granule and
  -- what stands in its pair; the free slots
  abbrev take_with : ℕ → ℕ → Bool → ℕ → ℕ → List ℕ → ℕ → List ℕ → Grown
  take_with e r longer next pair slots n d =
      cond longer (grown (take_granule g (set_field g d e (0x17 + 2 * (r - 1)) (pair + 1)) next))
      (cond (ltb r 4) (grown (with_pair g d e r n)) (extended g p slots d e n))

  both-with : (d d' : List ℕ) (e r : ℕ) (longer : Bool) (next pair : ℕ) (slots : List ℕ) (n : ℕ) → Slot m p → Slot m e → Behind d e r → r ≤ 4
      → (T longer → next < granules g) → ((x : ℕ) → In x slots → Slot m x) → n < granules g → AlikePair u g m d d'
      → BothGrown u g m (take_with e r longer next pair slots n d) (take_with e r longer next pair slots n d')
  both-with d d' e r true next pair slots n v t ff q l f h w =
      BothGrown.both (Stores.both-take u g m _ _ next (l tt)
      (Stores.both-field u g m d d' e (0x17 + 2 * (r - 1)) (pair + 1) t (omega arith) (omega arith) (omega arith) (λ j z. omega arith) w))
  both-with d d' e r false next pair slots n v t ff q l f h w = by (ltb r 4) refl
    where
      by : (b : Bool) → ltb r 4 ≡ b → BothGrown u g m (cond b (grown (with_pair g d e r n)) (extended g p slots d e n))
          (cond b (grown (with_pair g d' e r n)) (extended g p slots d' e n))
      by true z = BothGrown.both (both_run d d' e r n t (ltb→lt r 4 (Members.true-T z)) ff h w)
      by false z = both-extended slots d d' e n v t f h w

  module _ (d d' : List ℕ) (a : ReadAlike u g d d') (c : Sound g d) (f : IsFile g d p) where
    tail-live : Reads.Live u g d d' a (tail g p d)
    tail-live = Reads.sound-chain u g d d' a c p f (tail g p d) (Change.tail-in g d c p f)

    tail-same : tail g p d ≡ tail g p d'
    tail-same = ap (last_or p) (Reads.chain-at u g d d' a p (Reads.sound-chain u g d d' a c p f))

    tail-runs : runs g d (tail g p d) ≡ runs g d' (tail g p d')
    tail-runs = Reads.runs-at u g d d' a (tail g p d) tail-live ∙ ap (runs g d') tail-same

  -- where there is a run
  module _ (d d' : List ℕ) (a : ReadAlike u g d d') (c : Sound g d) (f : IsFile g d p) (some : 1 ≤ runs g d (tail g p d)) where
    last-same : runs g d (tail g p d) - 1 ≡ runs g d' (tail g p d') - 1
    last-same = λ i. tail-runs d d' a c f i - 1

    -- the bytes of the last run's pair
    pair_same : pair_byte g d (tail g p d) (runs g d (tail g p d) - 1) ≡ pair_byte g d' (tail g p d') (runs g d' (tail g p d') - 1)
    pair_same =
        Reads.run_at u g d d' a (tail g p d) (runs g d (tail g p d) - 1) (tail-live d d' a c f) (omega arith) ∙
        (λ i. pair_byte g d' (tail-same d d' a c f i) (last-same i))

    block_same : block g d (tail g p d) (runs g d (tail g p d) - 1) ≡ block g d' (tail g p d') (runs g d' (tail g p d') - 1)
    block_same =
        Reads.block_at u g d d' a (tail g p d) (runs g d (tail g p d) - 1) (tail-live d d' a c f) (omega (arith, Entry.runs-le g d (tail g p d)))
        ∙ (λ i. block g d' (tail-same d d' a c f i) (last-same i))

    pub after_same : after g p d ≡ after g p d'
    after_same = λ i. pair_start g.units (block_same i) (pair_same i) + pair_length (pair_same i)

    -- the GAT is asked where the granule exists
    lengthens-same : lengthens g p d ≡ lengthens g p d'
    unfolding lengthens all
    lengthens-same =
        ap (λ (b : Bool). leb 1 (runs g d (tail g p d)) && b)
        (Reads.and-only (ltb (after g p d) (granules g)) _ _ (λ e.
        λ i. not (a.gat (after g p d) (ltb→lt _ _ (Members.true-T e)) i) && (ltb (pair_length (pair_same 0)) 32 && true)))
        ∙ (λ i. leb 1 (tail-runs d d' a c f i)
        && (ltb (after_same i) (granules g) && (not (taken g d' (after_same i)) && (ltb (pair_length (pair_same i)) 32 && true))))

  longer-below : (d : List ℕ) → T (lengthens g p d) → after g p d < granules g
  unfolding lengthens all
  longer-below d t = ltb→lt _ _ (Members.and_l (ltb (after g p d) (granules g)) _ (Members.and_r (leb 1 (runs g d (tail g p d))) _ t))

  -- without a run there is none to lengthen
  no_longer : (d : List ℕ) → runs g d (tail g p d) ≡ 0 → lengthens g p d ≡ false
  unfolding lengthens all
  no_longer d e = rw e

  both_at : (n : ℕ) (d d' : List ℕ) → Sound g d → IsFile g d p → Slot m p → Slot m (tail g p d) → n < granules g → AlikePair u g m d d'
      → BothGrown u g m (take_at g p n d) (take_at g p n d')
  both_at n d d' c f v t h w = go (dec_lt 0 (runs g d (tail g p d)))
    where
      a : ReadAlike u g d d'
      a = w.alike

      behind : Behind d (tail g p d) (runs g d (tail g p d))
      behind j l h =
          let y = Change.members g d c p (tail g p d) f (Change.tail-in g d c p f) in
          (Change.entry-at g d c (tail g p d) y.slot y.used).pairs j h (omega arith)

      slots : (x : ℕ) → In x (free_slots g d) → Slot m x
      slots x i = Stores.of-slot u g m d x w.tall (free-slot g d x i)

      go : Dec (0 < runs g d (tail g p d)) → BothGrown u g m (take_at g p n d) (take_at g p n d')
      go (yes q) =
          subst (BothGrown u g m (take_at g p n d))
          (λ i. take_with (tail-same d d' a c f i) (tail-runs d d' a c f i) (lengthens-same d d' a c f q i) (after_same d d' a c f q i)
          (pair_same d d' a c f q i) (Reads.free_slots-same u g d d' a i) n d')
          (both-with d d' (tail g p d) (runs g d (tail g p d)) (lengthens g p d) (after g p d)
          (pair_byte g d (tail g p d) (runs g d (tail g p d) - 1)) (free_slots g d) n v t behind (Entry.runs-le g d (tail g p d)) (longer-below d) slots h w)
      go (no q) =
          let z : runs g d (tail g p d) ≡ 0 = omega arith in
          let e = tail g p d in let r = runs g d (tail g p d) in let xs = free_slots g d in
          let here : take_with e r false 0 0 xs n d ≡ take_at g p n d = ap (λ (b : Bool). take_with e r b (after g p d) (pair_byte g d e (r - 1)) xs n d)
          (sym (no_longer d z)) in
          let there : take_with e r false 0 0 xs n d' ≡ take_with (tail g p d') (runs g d' (tail g p d')) false 0 0 (free_slots g d') n d' =
          λ i. take_with (tail-same d d' a c f i) (tail-runs d d' a c f i) false 0 0 (Reads.free_slots-same u g d d' a i) n d' in
          let there' : take_with (tail g p d') (runs g d' (tail g p d')) false 0 0 (free_slots g d') n d' ≡ take_at g p n d' =
          ap (λ (b : Bool). take_with (tail g p d') (runs g d' (tail g p d')) b (after g p d') (pair_byte g d' (tail g p d') (runs g d' (tail g p d') - 1))
          (free_slots g d') n d')
          (sym (no_longer d' (sym (tail-runs d d' a c f) ∙ z))) in
          subst (λ (x : Grown). BothGrown u g m x (take_at g p n d')) here (subst (BothGrown u g m (take_with e r false 0 0 xs n d)) (there ∙ there')
          (both-with d d' e r false 0 0 xs n v t behind (Entry.runs-le g d e) (λ y. absurd y) slots h w))

  -- k more, by a choice that is the same of both
  pub record ChoosesAlike (choice : List ℕ → ℕ) : Type 0 where
    pub free : Grow.Chooses g choice
    pub same : (d d' : List ℕ) → ReadAlike u g d d' → choice d ≡ choice d'

  both_by : (choice : List ℕ → ℕ) → ChoosesAlike choice → (k : ℕ) (d d' : List ℕ) → Sound g d → Places.Fits g d → IsFile g d p → T (not (system g d p))
      → k ≤ length (free_granules g d) → AlikePair u g m d d' → BothGrown u g m (grow_by g p choice k d) (grow_by g p choice k d')
  unfolding grow_by and_then
  both_by choice ch zero d d' c l f us room w = BothGrown.both w
  both_by choice ch (suc k) d d' c l f us room w =
      let q = ch.free d (omega arith) in
      let t = Change.members g d c p (tail g p d) f (Change.tail-in g d c p f) in
      subst (λ (n : ℕ). BothGrown u g m (and_then (take_at g p (choice d) d) (grow_by g p choice k)) (and_then (take_at g p n d') (grow_by g p choice k)))
      (ch.same d d' w.alike)
      (go refl (both_at (choice d) d d' c f (Stores.of-slot u g m d p w.tall f.slot) (Stores.of-slot u g m d (tail g p d) w.tall t.slot) q.0 w)
      (λ e e' x v. both_by choice ch k e e' x.kept.sound x.kept.fits x.kept.file x.kept.user (omega (arith, x.free)) v))
    where
      next : (e : List ℕ) → take_at g p (choice d) d ≡ grown e → grow_by g p choice 1 d ≡ grown e
      next e z = ap (λ (x : Grown). and_then x (grow_by g p choice 0)) z

      go : {x y : Grown} → take_at g p (choice d) d ≡ x → BothGrown u g m x y
          → ((e e' : List ℕ) → Grow.Grew g d e p 1 → AlikePair u g m e e' → BothGrown u g m (grow_by g p choice k e) (grow_by g p choice k e'))
          → BothGrown u g m (and_then x (grow_by g p choice k)) (and_then y (grow_by g p choice k))
      go z (BothGrown.both {d = e} {d' = e'} v) ih = ih e e' (Grow.grow_by-grew g choice ch.free 1 d e p c l f us (omega arith) (next e z)) v
      go z BothGrown.neither ih = BothGrown.neither

  lowest-chooses : ChoosesAlike (lowest_free g)
  lowest-chooses = record { free = TakeOne.first-free g; same = Reads.lowest_free-same u g }

  longest-chooses : ChoosesAlike (longest_free g)
  longest-chooses = record { free = Grow.longest-chooses g; same = Reads.longest_free-same u g }

  or-else : {x y x' y' : Grown} → BothGrown u g m x y → BothGrown u g m x' y' → BothGrown u g m (or_else x x') (or_else y y')
  unfolding or_else
  or-else (BothGrown.both v) w = BothGrown.both v
  or-else BothGrown.neither w = w

  pub both-growth : (k : ℕ) (d d' : List ℕ) → Sound g d → Places.Fits g d → IsFile g d p → T (not (system g d p)) → k ≤ length (free_granules g d)
      → AlikePair u g m d d' → BothGrown u g m (growth g p k d) (growth g p k d')
  unfolding growth
  both-growth k d d' c l f us room w =
      or-else (both_by (lowest_free g) lowest-chooses k d d' c l f us room w) (both_by (longest_free g) longest-chooses k d d' c l f us room w)

pub both-fail : {u : Kinds} {g : Geometry} {m : ℕ} {x y : Grown} → BothGrown u g m x y → fails x ≡ fails y
unfolding fails
both-fail (BothGrown.both v) = refl
both-fail BothGrown.neither = refl

pub both-disk : {u : Kinds} {g : Geometry} {m : ℕ} {x y : Grown} {d d' : List ℕ} → BothGrown u g m x y → AlikePair u g m d d'
    → AlikePair u g m (disk_or d x) (disk_or d' y)
unfolding disk_or
both-disk (BothGrown.both v) w = v
both-disk BothGrown.neither w = w

-- One granule less ------------------------------------------------------------------------------------------------------------

module _ (u : Kinds) (g : Geometry) (p m : ℕ) where
  -- with all that is read of the disk in its hands
  abbrev drop_with : ℕ → ℕ → ℕ → Bool → ℕ → ℕ → List ℕ → List ℕ
  drop_with e k pair ext back n d =
      free_granule g
      (cond (ltb 1 (pair_length pair)) (set_field g d e (0x17 + 2 * k) (pair - 1))
      (cond (ext && eqb k 0) (unhooked g (set_pair g d e k 0xff 0xff) e back) (set_pair g d e k 0xff 0xff)))
      (n - 1)

  -- 80H has bit 7
  both-unhooked : (d d' : List ℕ) (e back : ℕ) → Slot m e → Slot m back → AlikePair u g m d d' → AlikePair u g m (unhooked g d e back) (unhooked g d' e back)
  unfolding unhooked digit
  both-unhooked d d' e back t v w =
      Stores.both-link u g m _ _ back 0xff 0xff v (Stores.both-link u g m _ _ e 0xff 0xff t
      (Stores.both-hit u g m _ _ e 0 (Stores.not-count u g m d d' e w t) (Stores.both-flag u g m d d' e 0x80 t (inr refl) (inl refl) w)))

  both-drop-with : (d d' : List ℕ) (e k pair : ℕ) (ext : Bool) (back n : ℕ) → Slot m e → (T ext → Slot m back) → k < 4
      → ((j : ℕ) → k < j → j < 4 → block g d e j ≡ 0xff) → n - 1 < granules g
      → AlikePair u g m d d' → AlikePair u g m (drop_with e k pair ext back n d) (drop_with e k pair ext back n d')
  both-drop-with d d' e k pair ext back n t v l ff h w = Stores.both-free u g m _ _ (n - 1) h (by (ltb 1 (pair_length pair)) ext (eqb k 0) v)
    where
      emptied : AlikePair u g m (set_pair g d e k 0xff 0xff) (set_pair g d' e k 0xff 0xff)
      emptied = Stores.both-pair u g m d d' e k 0xff 0xff t l ff w

      by : (b c z : Bool) → (T c → Slot m back)
          → AlikePair u g m (cond b (set_field g d e (0x17 + 2 * k) (pair - 1))
          (cond (c && z) (unhooked g (set_pair g d e k 0xff 0xff) e back) (set_pair g d e k 0xff 0xff)))
          (cond b (set_field g d' e (0x17 + 2 * k) (pair - 1)) (cond (c && z) (unhooked g (set_pair g d' e k 0xff 0xff) e back) (set_pair g d' e k 0xff 0xff)))
      by true c z y = Stores.both-field u g m d d' e (0x17 + 2 * k) (pair - 1) t (omega arith) (omega arith) (omega arith) (λ j q. omega arith) w
      by false true true y = both-unhooked _ _ e back t (y tt) emptied
      by false true false y = emptied
      by false false z y = emptied

  module _ (d d' : List ℕ) (c : Sound g d) (k : Places.Fits g d) (f : IsFile g d p) (some : 1 ≤ length (owned g d p)) (w : AlikePair u g m d d') where
    abbrev e : ℕ
    e = tail g p d

    member : Change.Member g d p e
    member = Change.members g d c p e f (Change.tail-in g d c p f)

    run : 1 ≤ runs g d e
    run = Drop.tail-run g d c p f some

    last-below : after g p d - 1 < granules g
    last-below = omega (arith, ((Change.entry-at g d c e member.slot member.used).run (runs g d e - 1) (omega (arith, run))).inside)

    -- an extension's byte 01 is the slot before it
    back-slot : T (extension g d e) → Slot m (field g d e 1)
    back-slot x =
        let later : e ≢ p = λ q. T_not (extension g d p) (Facts.file-first g d p f) (rw q at x) in
        let b = (DropLast.before-tail g d c p f later).0 in
        Stores.of-slot u g m d (field g d e 1) w.tall (Change.members g d c p (field g d e 1) f b).slot

    behind-last : (j : ℕ) → runs g d e - 1 < j → j < 4 → block g d e j ≡ 0xff
    behind-last j l h = (Change.entry-at g d c e member.slot member.used).pairs j h (omega arith)

    pub both-drop : AlikePair u g m (drop_one g p d) (drop_one g p d')
    unfolding drop_one
    both-drop =
        let a = w.alike in
        let read = Reads.bytes-at u g d d' a e (tail-live u g p m d d' a c f) in
        let flag = read.flags ∙ ap (λ (x : ℕ). field g d' x 0) (tail-same u g p m d d' a c f) in
        let one = read.one ∙ ap (λ (x : ℕ). field g d' x 1) (tail-same u g p m d d' a c f) in
        subst (AlikePair u g m (drop_one g p d))
        (λ i. drop_with (tail-same u g p m d d' a c f i) (tail-runs u g p m d d' a c f i - 1) (pair_same u g p m d d' a c f run i)
        (bit 7 (flag i)) (one i)
        (after_same u g p m d d' a c f run i) d')
        (both-drop-with d d' e (runs g d e - 1) (pair_byte g d e (runs g d e - 1)) (extension g d e) (field g d e 1) (after g p d)
        (Stores.of-slot u g m d e w.tall member.slot) back-slot (omega (arith, Entry.runs-le g d e, run)) behind-last last-below w)

  -- k granules less, of a file that is larger than its size by so many
  pub both-times : (k : ℕ) (d d' : List ℕ) → Sound g d → Places.Fits g d → IsFile g d p → T (not (system g d p))
      → size_of g d p + granule_bytes g * k ≤ granule_bytes g * length (owned g d p) → AlikePair u g m d d'
      → AlikePair u g m (times k (drop_one g p) d) (times k (drop_one g p) d')
  both-times zero d d' c l f us room w = w
  both-times (suc k) d d' c l f us room w =
      let x = DropLast.drop-one g d c l p f us (omega arith) in
      both-times k (drop_one g p d) (drop_one g p d') (Change.changed g d (drop_one g p d) c p x.change) (Places.as_long l x.long) x.file
      (user x) (left x) (both-drop d d' c l f (Sizes.some-width (Sizes.bytes_pos g) _ (omega (arith, room))) w)
    where
      user : DropLast.Dropped g d (drop_one g p d) p → T (not (system g (drop_one g p d) p))
      user x = rw (x.shorter.low 0 (omega arith)) us

      left : DropLast.Dropped g d (drop_one g p d) p
          → size_of g (drop_one g p d) p + granule_bytes g * k ≤ granule_bytes g * length (owned g (drop_one g p d) p)
      left x =
          let o : length (owned g d p) ≡ length (owned g (drop_one g p d) p) + 1 =
          ap length x.shorter.less ∙ lib.ListN.length-append (owned g (drop_one g p d) p) (x.which ∷ []) in
          let s = Shorter.size_same g d (drop_one g p d) c p f x.which x.shorter in
          omega (arith, s, ap (granule_bytes g *◌) o, room)
