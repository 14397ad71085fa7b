-- A file that got one extension more, with one granule
use Rattle.std.specs.Prelude.{◌≡◌, refl, ◌≢◌, ◌⊎◌, Bool, true, false, not, cond, length, T, eqb}
use Rattle.std.proofs.Math.Path.{ap, ap₂}
use Rattle.std.proofs.Common.{sym, ◌∙◌, inl, inr, arith, mod-lt, length-append}
use mathlib.Core.List.{List, [], ◌∷◌, ◌++◌}
use Prim.Native.Nat.{ℕ, zero, suc, ◌+◌, ◌*◌, ◌/◌, ◌%◌, ◌≤◌, ◌<◌}
use Rattle.std.proofs.Math.Decide.{ℕ_discrete}
use Rattle.meaning.specs.Lists.{each}
use Rattle.meaning.specs.Layout.{byte, is_slot, slots, taken, field, granules, hit, directory_granules, granule_bytes, above_ten, most_blocks}
use Rattle.meaning.specs.Entries.{in_use, extension, system, marker, link, block, name_of, runs, run_start, run_length, entry_granules}
use Rattle.meaning.specs.Chain.{chain, owned, chain_from}
use Rattle.meaning.specs.Growth.{tail}
use Rattle.meaning.specs.Plain.{File}
use Rattle.meaning.specs.declared.Geometry.{Geometry}
use Rattle.lists.specs.Members
use Rattle.lists.specs.Members.{In}
use Rattle.lists.specs.Counting
use Rattle.laws.specs.Facts
use Rattle.laws.specs.Facts.{Sound}
use Rattle.laws.specs.Entry
use Rattle.laws.specs.Frame
use Rattle.laws.specs.Frame.{Agree}
use Rattle.laws.specs.Change
use Rattle.laws.specs.Change.{entries_of, granules_of}
use Rattle.laws.specs.Longer
use Rattle.laws.specs.Take.{run-start}
use Rattle.laws.specs.Words.{words}

pub record Extends (g : Geometry) (d d' : List ℕ) (p x m : ℕ) : Type 0 where
  pub above : above_ten g d' ≡ above_ten g d
  pub slot : T (is_slot g d x)
  pub unused : hit g d x ≡ 0
  pub full : runs g d (tail g p d) ≡ 4
  pub agrees : (y : ℕ) → T (is_slot g d y) → y ≢ tail g p d → y ≢ x → Agree g d d' y
  pub hits : (y : ℕ) → T (is_slot g d y) → y ≢ x → hit g d' y ≡ hit g d y
  pub hit-new : hit g d' x ≡ hit g d p
  pub fixed : (k : ℕ) → k < 0x1e → field g d' (tail g p d) k ≡ field g d (tail g p d) k
  pub marked : marker g d' (tail g p d) ≡ 0xfe
  pub linked : link g d' (tail g p d) ≡ x
  pub flags : field g d' x 0 ≡ 0x90
  pub before : field g d' x 1 ≡ tail g p d
  pub first : field g d' x 0x16 ≡ m / g.units
  pub second : field g d' x 0x17 ≡ m % g.units * 32
  pub ffs : (k : ℕ) → 0x18 ≤ k → k < 32 → field g d' x k ≡ 0xff
  pub units : 0 < g.units
  pub small : m / g.units < most_blocks
  pub inside : m < granules g
  pub free : T (taken g d m) → ⊥
  pub set' : T (taken g d' m)
  pub keeps : (n : ℕ) → n < granules g → n ≢ m → taken g d' n ≡ taken g d n
  pub same : (i : ℕ) → (In (i / granule_bytes g) (directory_granules g d) → ⊥) → byte d' i ≡ byte d i

-- a chain that goes on at its end
module _ (g : Geometry) (d d' : List ℕ) (e x : ℕ) (m₀ : marker g d e ≡ 0xff) (m₁ : marker g d' e ≡ 0xfe) (l₁ : link g d' e ≡ x) (m₂ : marker g d' x ≡ 0xff)
  where
    chain_from-extends : (n s : ℕ) → ((y : ℕ) → In y (chain_from g d n s) → y ≢ e → (marker g d' y ≡ marker g d y) × (link g d' y ≡ link g d y))
        → In e (chain_from g d n s) → suc (length (chain_from g d n s)) ≤ n → chain_from g d' n s ≡ chain_from g d n s ++ (x ∷ [])
    unfolding chain_from
    chain_from-extends zero s a i b = Members.none_in i
    chain_from-extends (suc n) s a i b = go (ℕ_discrete e s) (chain_from-extends n (link g d s))
      where
        rest : List ℕ
        rest = chain_from g d n (link g d s)

        IH : Type 0
        IH = ((y : ℕ) → In y rest → y ≢ e → (marker g d' y ≡ marker g d y) × (link g d' y ≡ link g d y)) → In e rest → suc (length rest) ≤ n → chain_from g d'
            n
            (link g d s) ≡ rest ++ (x ∷ [])

        last : (n : ℕ) → 1 ≤ n → chain_from g d' n x ≡ x ∷ []
        last zero h = absurd (omega arith)
        last (suc n) h = rw m₂

        ends : e ≡ s → chain_from g d' (suc n) s ≡ chain_from g d (suc n) s ++ (x ∷ [])
        ends q = rw (← q, m₀, m₁, l₁) (ap {B = List ℕ} (λ l. e ∷ l) (last n (omega (arith, rw (← q, m₀) at b))))

        deeper : s ≢ e → (b : Bool) → eqb (marker g d s) 0xfe ≡ b → In e (s ∷ cond b rest []) → suc (length (s ∷ cond b rest [])) ≤ suc n
            → ((y : ℕ) → In y (s ∷ cond b rest []) → y ≢ e → (marker g d' y ≡ marker g d y) × (link g d' y ≡ link g d y)) → IH
            → s ∷ cond b (chain_from g d' n (link g d s)) [] ≡ s ∷ (cond b rest [] ++ (x ∷ []))
        deeper q true z i b a ih = ap {B = List ℕ} (λ l. s ∷ l) (ih (λ y j. a y (Members.In.there j)) (into (Members.in-cons i)) (omega arith))
          where
            into : (e ≡ s) ⊎ In e rest → In e rest
            into (inl w) = absurd (q (sym w))
            into (inr w) = w
        deeper q false z i b a ih = into (Members.in-cons i)
          where
            into : (e ≡ s) ⊎ In e [] → s ∷ [] ≡ s ∷ (x ∷ [])
            into (inl w) = absurd (q (sym w))
            into (inr w) = Members.none_in w

        go : Dec (e ≡ s) → IH → chain_from g d' (suc n) s ≡ chain_from g d (suc n) s ++ (x ∷ [])
        go (yes q) ih = ends q
        go (no q) ih =
            let w : s ≢ e = λ z. q (sym z) in
            let u = a s Members.In.here w in
            rw (u.0, u.1) (deeper w (eqb (marker g d s) 0xfe) refl i b a ih)

module _ (g : Geometry) (d d' : List ℕ) (c : Sound g d) (p : ℕ) (f : Facts.IsFile g d p) (x m : ℕ) (h : Extends g d d' p x m) where
  abbrev e : ℕ
  e = tail g p d

  slot-of : (y : ℕ) → In y (chain g d p) → T (is_slot g d y)
  slot-of y i = (Change.members g d c p y f i).slot

  -- the new slot is in no chain
  stranger : (y : ℕ) → T (is_slot g d y) → T (in_use g d y) → y ≢ x
  stranger y t u q = Change.used-hit g d c y t u (rw q h.unused)

  not_in : (y : ℕ) → In y (chain g d p) → y ≢ x
  not_in y i = let k = Change.members g d c p y f i in stranger y k.slot k.used

  fresh-slot : In x (chain g d p) → ⊥
  fresh-slot i = not_in x i refl

  long : suc (length (chain g d p)) ≤ length (slots g d)
  long = omega (
    arith,
    length-append (chain g d p) (x ∷ []),
    Counting.pigeonhole (chain g d p ++ (x ∷ [])) (Facts.slots-distinct g d) (Members.snoc-distinct (c.once p f) fresh-slot)
        (λ y i. all y (Members.snoc-in (chain g d p) i)),
  )
    where
      all : (y : ℕ) → In y (chain g d p) ⊎ (y ≡ x) → In y (slots g d)
      all y (inl i) = Facts.in-slots g d y (slot-of y i)
      all y (inr q) = rw q (Facts.in-slots g d x h.slot)

  links : (y : ℕ) → In y (chain g d p) → y ≢ e → (marker g d' y ≡ marker g d y) × (link g d' y ≡ link g d y)
  links y i n = let a = h.agrees y (slot-of y i) n (not_in y i) in (a 0x1e (omega arith), a 0x1f (omega arith))

  pub extends-chain : chain g d' p ≡ chain g d p ++ (x ∷ [])
  unfolding chain
  extends-chain = rw (Frame.slots-eq g d d' h.above)
      (chain_from-extends g d d' e x (Change.tail-marker g d c p f) h.marked h.linked (h.ffs 0x1e (omega arith) (omega arith)) (length (slots g d)) p
      links (Change.tail-in g d c p f) long)

  -- bytes of the old entries, marker and link apart
  steady : (y : ℕ) → T (is_slot g d y) → y ≢ x → (k : ℕ) → k < 0x1e → field g d' y k ≡ field g d y k
  steady y t n k b = go (ℕ_discrete y e)
    where
      go : Dec (y ≡ e) → field g d' y k ≡ field g d y k
      go (yes q) = rw q (h.fixed k b)
      go (no q) = h.agrees y t q n k (omega arith)

  at_p : In p (chain g d p)
  at_p = Change.chain_head g d c p f.slot

  low : (k : ℕ) → k < 0x16 → field g d' p k ≡ field g d p k
  low k b = steady p f.slot (not_in p at_p) k (omega arith)

  kept-granules : (y : ℕ) → In y (chain g d p) → entry_granules g d' y ≡ entry_granules g d y
  kept-granules y i = Frame.entry_granules-pairs g d d' y (λ j a b. steady y (slot-of y i) (not_in y i) j b)

  pub runs-new : runs g d' x ≡ 1
  runs-new = Entry.runs-is g d' x 1 (omega arith) one (λ b. h.ffs 0x18 (omega arith) (omega arith))
    where
      one : (j : ℕ) → j < 1 → block g d' x j ≢ 0xff
      one zero b = rw h.first (omega (arith, h.small))
      one (suc j) b = absurd (omega arith)

  pub start-new : run_start g d' x 0 ≡ m
  start-new = rw (h.first, h.second) (run-start g.units m)

  pub length-new : run_length g d' x 0 ≡ 1
  length-new = rw h.second (omega arith)

  new-granules : entry_granules g d' x ≡ m ∷ []
  unfolding entry_granules
  new-granules = rw runs-new (rw (start-new, length-new))

  pub extends-owned : owned g d' p ≡ owned g d p ++ (m ∷ [])
  unfolding owned
  extends-owned =
      ap (each (entry_granules g d')) extends-chain ∙ Members.each_append (entry_granules g d') (chain g d p) (x ∷ [])
      ∙ ap₂ (λ (a b : List ℕ). a ++ b) (Members.each-eq (entry_granules g d') (entry_granules g d) (chain g d p) kept-granules)
      (Members.each-one (entry_granules g d') x ∙ new-granules)

  slot' : (y : ℕ) → is_slot g d' y ≡ is_slot g d y
  slot' = Frame.slot-eq g d d' h.above

  pub extends-file : Facts.IsFile g d' p
  extends-file = record { slot = rw (slot' p) f.slot; primary' = rw (low 0 (omega arith)) f.primary' }

  not_new : (n : ℕ) → In n (owned g d p) → n ≢ m
  not_new n i q = h.free (rw q at (Change.owned-taken g d c p n f i))

  old-taken : (n : ℕ) → In n (owned g d p) → taken g d' n ≡ taken g d n
  old-taken n i = h.keeps n (Change.owned-lt g d c p n f i) (not_new n i)

  entry-was : (y : ℕ) → In y (chain g d p) → Entry.Entry g d y
  entry-was y i = let k = Change.members g d c p y f i in Change.entry-at g d c y k.slot k.used

  next' : (y : ℕ) → Entry.Linked g d y → Entry.Follows g d' y (link g d y)
  next' y l =
      let t = l.next.slot in let n = stranger (link g d y) t (Change.flags-used (field g d (link g d y) 0) l.next.flags) in
      Frame.follows-low g d d' y (link g d y) (slot' (link g d y)) (steady (link g d y) t n) l.next

  entry_new : Entry.Entry g d' x
  entry_new = record {
    pairs = λ j a b. h.ffs (0x16 + 2 * j) (omega (arith, runs-new)) (omega arith);
    linked = inl (h.ffs 0x1e (omega arith) (omega arith));
    run = λ j b. go j (omega (arith, runs-new));
    gat = λ n i. rw (one n (Members.in-cons (rw new-granules at i))) h.set';
  }
    where
      one : (n : ℕ) → (n ≡ m) ⊎ In n [] → n ≡ m
      one n (inl q) = q
      one n (inr i) = Members.none_in i

      go : (j : ℕ) → j ≡ 0 → Entry.OnDisk g d' x j
      go j q = rw q (record { unit = rw h.second (omega (arith, mod-lt m h.units)); inside = rw (start-new, length-new) (omega (arith, h.inside)) })

  entry-tail : Entry.Entry g d' e
  entry-tail =
      let i = Change.tail-in g d c p f in let w = entry-was e i in
      let a : Frame.Pairs g d d' e = λ k i b. h.fixed k b in
      record {
        pairs = Frame.pairs_next g d d' e a w.pairs;
        linked = inr (record {
          marked = h.marked;
          full = Frame.runs-pairs g d d' e a ∙ h.full;
          next = rw h.linked (record { slot = rw (slot' x) h.slot; flags = h.flags; before = h.before; some' = omega (arith, runs-new) });
        });
        run = Frame.run-next g d d' e a w.run;
        gat = λ n j. let o = rw (kept-granules e i) at j in rw (old-taken n (Change.granule-owned g d c p e n i o)) (w.gat n o);
      }

  entry' : (y : ℕ) → In y (chain g d p) ⊎ (y ≡ x) → Entry.Entry g d' y
  entry' y (inr q) = rw q entry_new
  entry' y (inl i) = go (ℕ_discrete y e)
    where
      go : Dec (y ≡ e) → Entry.Entry g d' y
      go (yes q) = rw q entry-tail
      go (no q) = Frame.entry_next g d d' y (h.agrees y (slot-of y i) q (not_in y i)) (next' y) (λ n j. old-taken n (Change.granule-owned g d c p y n i j))
          (entry-was y i)

  name' : name_of g d' p ≡ name_of g d p
  name' = Frame.name_of-bytes g d d' p (λ k a b. low k (omega arith))

  member' : (y : ℕ) → In y (chain g d' p) → In y (chain g d p) ⊎ (y ≡ x)
  member' y i = Members.snoc-in (chain g d p) (rw extends-chain at i)

  filed' : Entry.Filed g d' p
  unfolding words
  filed' = record {
    name = rw name' was.name;
    zero' = rw (low 0 (omega arith)) was.zero';
    hashes = λ y i. rw name' (hashed y (member' y i));
    count' = rw (low 3 (omega arith), low 0x14 (omega arith), low 0x15 (omega arith)) was.count';
    fits = rw (low 3 (omega arith), low 0x14 (omega arith), low 0x15 (omega arith), extends-owned, length-append) (omega (arith, was.fits));
    off = λ u n i j. go (rw (low 0 (omega arith)) at u) n (rw (Frame.directory-eq g d d' h.above) at j)
        (Members.snoc-in (owned g d p) (rw extends-owned at i));
  }
    where
      was : Entry.Filed g d p
      was = Change.filed-at g d c p f

      hashed : (y : ℕ) → In y (chain g d p) ⊎ (y ≡ x) → hit g d' y ≡ Rattle.meaning.specs.Names.hash (name_of g d p)
      hashed y (inl i) = h.hits y (slot-of y i) (not_in y i) ∙ was.hashes y i
      hashed y (inr q) = rw q (h.hit-new ∙ was.hashes p at_p)

      go : T (not (system g d p)) → (n : ℕ) → In n (directory_granules g d) → In n (owned g d p) ⊎ (n ≡ m) → ⊥
      go u n j (inl i) = was.off u n i j
      go u n j (inr q) = h.free (rw q at (c.directory n j))

  own' : Change.Own g d d' p
  own' = record {
    slots' = λ y i. rw (slot' y) (slotted y (member' y i));
    used = λ y i. used y (member' y i);
    later = λ y i n. later y n (member' y i);
    entry = λ y i. entry' y (member' y i);
    filed = filed';
    once = rw extends-chain (Members.snoc-distinct (c.once p f) fresh-slot);
    single = rw extends-owned (Members.snoc-distinct (c.single p f) (λ i. not_new m i refl));
    name = λ q k n w. n (c.names q p k f (w ∙ name'));
  }
    where
      slotted : (y : ℕ) → In y (chain g d p) ⊎ (y ≡ x) → T (is_slot g d y)
      slotted y (inl i) = slot-of y i
      slotted y (inr q) = rw q h.slot

      used : (y : ℕ) → In y (chain g d p) ⊎ (y ≡ x) → T (in_use g d' y)
      used y (inl i) = rw (steady y (slot-of y i) (not_in y i) 0 (omega arith)) (Change.members g d c p y f i).used
      used y (inr q) = rw q (Change.flags-used (field g d' x 0) h.flags)

      later : (y : ℕ) → y ≢ p → In y (chain g d p) ⊎ (y ≡ x) → T (extension g d' y)
      later y n (inl i) = rw (steady y (slot-of y i) (not_in y i) 0 (omega arith)) (Change.extends g d c p y f i n)
      later y n (inr q) = rw q (Change.flags-extension (field g d' x 0) h.flags)

  mine : entries_of g d p ≡ chain g d p
  mine = Change.entries_of-is g d p f

  mine' : entries_of g d' p ≡ chain g d p ++ (x ∷ [])
  mine' = Change.entries_of-is g d' p extends-file ∙ extends-chain

  grans : granules_of g d p ≡ owned g d p
  grans = Change.granules_of-is g d p f

  grans' : granules_of g d' p ≡ owned g d p ++ (m ∷ [])
  grans' = Change.granules_of-is g d' p extends-file ∙ extends-owned

  pub extends-change : T (not (system g d p)) → Change.Change g d d' p
  extends-change u = record {
    above = h.above;
    agrees = λ y t a b. h.agrees y t (λ q. a (rw (q, mine) (Change.tail-in g d c p f)))
        (λ q. b (rw (mine', q) (Members.in-append-r (chain g d p) Members.In.here)));
    hits = λ y t a b. h.hits y t (λ q. b (rw (mine', q) (Members.in-append-r (chain g d p) Members.In.here)));
    gone = λ y i n. absurd (n (rw mine' (Members.in-append-l (x ∷ []) (rw mine at i))));
    unhit = λ y i n. absurd (n (rw mine' (Members.in-append-l (x ∷ []) (rw mine at i))));
    born = λ y i n. born y (Members.snoc-in (chain g d p) (rw mine' at i)) (λ j. n (rw mine j));
    nonzero = λ y i. nonzero y (Members.snoc-in (chain g d p) (rw mine' at i));
    keeps = λ n l a b. h.keeps n l (λ q. b (rw (grans', q) (Members.in-append-r (owned g d p) Members.In.here)));
    freed = λ n i a. absurd (a (rw grans' (Members.in-append-l (m ∷ []) (rw grans at i))));
    fresh = λ n i a. new n (Members.snoc-in (owned g d p) (rw grans' at i)) (λ j. a (rw grans j));
    off = λ n i j. (Change.filed-at g d c p f).off u n (rw grans at i) j;
    own = λ q. own';
  }
    where
      used-old : (y : ℕ) → In y (chain g d p) → hit g d y ≢ 0
      used-old y i = let k = Change.members g d c p y f i in Change.used-hit g d c y k.slot k.used

      born : (y : ℕ) → In y (chain g d p) ⊎ (y ≡ x) → (In y (chain g d p) → ⊥) → T (in_use g d y) → ⊥
      born y (inl i) n t = n i
      born y (inr q) n t = stranger y (rw q h.slot) t q

      nonzero : (y : ℕ) → In y (chain g d p) ⊎ (y ≡ x) → hit g d' y ≢ 0
      nonzero y (inl i) = rw (h.hits y (slot-of y i) (not_in y i)) (used-old y i)
      nonzero y (inr q) = rw (q, h.hit-new) (used-old p at_p)

      new : (n : ℕ) → In n (owned g d p) ⊎ (n ≡ m) → (In n (owned g d p) → ⊥) → T (taken g d n) → ⊥
      new n (inl i) a = absurd (a i)
      new n (inr q) a = rw q h.free

  pub extends-longer : Longer.Longer g d d' p m
  extends-longer = record { more = extends-owned; low = low; inside = h.inside; free = h.free; set' = h.set'; keeps = h.keeps; same = h.same }
