-- A file that lost its last extension, with its one granule
use Rattle.std.specs.Prelude.{◌≡◌, refl, ◌≢◌, ◌⊎◌, Bool, true, false, not, cond, length, T, eqb}
use Rattle.std.proofs.Math.Path.{ap, ap₂}
use Rattle.std.proofs.Common.{sym, ◌∙◌, subst, inl, inr, arith, length-append, eqb→eq}
use mathlib.Core.List.{List, [], ◌∷◌, ◌++◌}
use Prim.Native.Nat.{ℕ, zero, suc, ◌+◌, ◌*◌, ◌/◌, ◌≤◌, ◌<◌}
use Rattle.std.proofs.Math.Decide.{ℕ_discrete}
use Rattle.meaning.specs.Lists.{each}
use Rattle.meaning.specs.Layout.{byte, is_slot, slots, taken, field, granules, hit, directory_granules, granule_bytes, above_ten}
use Rattle.meaning.specs.Entries.{in_use, system, marker, link, name_of, entry_granules, size_of}
use Rattle.meaning.specs.Chain.{chain, chain_from, owned}
use Rattle.meaning.specs.Growth.{tail}
use Rattle.meaning.specs.Plain.{File}
use Rattle.meaning.specs.declared.Geometry.{Geometry}
use Rattle.lists.specs.Members
use Rattle.lists.specs.Members.{In, Distinct}
use Rattle.laws.specs.Facts
use Rattle.laws.specs.Facts.{Sound}
use Rattle.laws.specs.Entry
use Rattle.laws.specs.Frame
use Rattle.laws.specs.Frame.{Agree}
use Rattle.laws.specs.Change
use Rattle.laws.specs.Change.{entries_of, granules_of}
use Rattle.laws.specs.Shorter
use Rattle.laws.specs.Words.{words}

pub record Unhooks (g : Geometry) (d d' : List ℕ) (p b m : ℕ) : Type 0 where
  pub above : above_ten g d' ≡ above_ten g d
  pub later : tail g p d ≢ p
  pub back : field g d (tail g p d) 1 ≡ b
  pub agrees : (y : ℕ) → T (is_slot g d y) → y ≢ tail g p d → y ≢ b → Agree g d d' y
  pub hits : (y : ℕ) → T (is_slot g d y) → y ≢ tail g p d → hit g d' y ≡ hit g d y
  pub dead : T (in_use g d' (tail g p d)) → ⊥
  pub unhit : hit g d' (tail g p d) ≡ 0
  pub fixed : (k : ℕ) → k < 0x1e → field g d' b k ≡ field g d b k
  pub ended : marker g d' b ≡ 0xff
  pub only : entry_granules g d (tail g p d) ≡ m ∷ []
  pub freed : T (taken g d' m) → ⊥
  pub keeps : (n : ℕ) → n < granules g → n ≢ m → taken g d' n ≡ taken g d n
  pub same : (i : ℕ) → (In (i / granule_bytes g) (directory_granules g d) → ⊥) → byte d' i ≡ byte d i
  pub room : size_of g d p + granule_bytes g ≤ granule_bytes g * length (owned g d p)

past : (e s : ℕ) (xs : List ℕ) → s ≢ e → In e (s ∷ xs) → In e xs
past e s xs q i = into (Members.in-cons i)
  where
    into : (e ≡ s) ⊎ In e xs → In e xs
    into (inl w) = absurd (q (sym w))
    into (inr w) = w

-- a chain cut before its end
module _ (g : Geometry) (d d' : List ℕ) (e b : ℕ) (me : marker g d e ≡ 0xff) (mb : marker g d b ≡ 0xfe) (lb : link g d b ≡ e) (mb' : marker g d' b ≡ 0xff)
    (b≢e : b ≢ e) where
  chain_from-cut : (n s : ℕ) → ((y : ℕ) → In y (chain_from g d n s) → y ≢ b → y ≢ e → (marker g d' y ≡ marker g d y) × (link g d' y ≡ link g d y))
      → ((y : ℕ) → In y (chain_from g d n s) → marker g d y ≡ 0xfe → link g d y ≡ e → y ≡ b) → s ≢ e → In e (chain_from g d n s)
      → chain_from g d n s ≡ chain_from g d' n s ++ (e ∷ [])
  unfolding chain_from
  chain_from-cut zero s a o k i = Members.none_in i
  chain_from-cut (suc n) s a o k i = go (ℕ_discrete b s) (chain_from-cut n (link g d s))
    where
      rest : List ℕ
      rest = chain_from g d n (link g d s)

      IH : Type 0
      IH = ((y : ℕ) → In y rest → y ≢ b → y ≢ e → (marker g d' y ≡ marker g d y) × (link g d' y ≡ link g d y))
          → ((y : ℕ) → In y rest → marker g d y ≡ 0xfe → link g d y ≡ e → y ≡ b) → link g d s ≢ e → In e rest → rest ≡ chain_from g d' n (link g d s) ++
          (e ∷ [])

      last : (n : ℕ) → In e (chain_from g d n e) → chain_from g d n e ≡ e ∷ []
      last zero i = Members.none_in i
      last (suc n) i = rw me

      ends : b ≡ s → chain_from g d (suc n) s ≡ chain_from g d' (suc n) s ++ (e ∷ [])
      ends q = rw (← q, mb, lb, mb') (ap {B = List ℕ} (λ l. b ∷ l) (last n (past e b (chain_from g d n e) b≢e (rw (← q, mb, lb) at i))))

      deeper : s ≢ b → (t : Bool) → eqb (marker g d s) 0xfe ≡ t → In e (s ∷ cond t rest [])
          → ((y : ℕ) → In y (s ∷ cond t rest []) → y ≢ b → y ≢ e → (marker g d' y ≡ marker g d y) × (link g d' y ≡ link g d y))
          → ((y : ℕ) → In y (s ∷ cond t rest []) → marker g d y ≡ 0xfe → link g d y ≡ e → y ≡ b) → IH
          → s ∷ cond t rest [] ≡ (s ∷ cond t (chain_from g d' n (link g d s)) []) ++ (e ∷ [])
      deeper q true z i a o ih = ap {B = List ℕ} (λ l. s ∷ l)
          (ih (λ y j. a y (Members.In.there j)) (λ y j. o y (Members.In.there j)) (λ w. q (o s Members.In.here (eqb→eq _ _ (Members.true-T z)) w))
          (past e s rest k i))
      deeper q false z i a o ih = Members.none_in (past e s [] k i)

      go : Dec (b ≡ s) → IH → chain_from g d (suc n) s ≡ chain_from g d' (suc n) s ++ (e ∷ [])
      go (yes q) ih = ends q
      go (no q) ih =
          let w : s ≢ b = λ z. q (sym z) in
          let u = a s Members.In.here w k in
          rw (u.0, u.1) (deeper w (eqb (marker g d s) 0xfe) refl i a o ih)

module _ (g : Geometry) (d d' : List ℕ) (c : Sound g d) (p : ℕ) (f : Facts.IsFile g d p) (b m : ℕ) (h : Unhooks g d d' p b m) where
  abbrev e : ℕ
  e = tail g p d

  slot-of : (y : ℕ) → In y (chain g d p) → T (is_slot g d y)
  slot-of y i = (Change.members g d c p y f i).slot

  entry-was : (y : ℕ) → In y (chain g d p) → Entry.Entry g d y
  entry-was y i = let k = Change.members g d c p y f i in Change.entry-at g d c y k.slot k.used

  -- only b is followed by e
  only-b : (y : ℕ) → In y (chain g d p) → marker g d y ≡ 0xfe → link g d y ≡ e → y ≡ b
  only-b y i m l = go (entry-was y i).linked
    where
      go : (marker g d y ≡ 0xff) ⊎ Entry.Linked g d y → y ≡ b
      go (inl q) = absurd (omega arith)
      go (inr q) = sym (rw l at q.next.before) ∙ h.back

  record Before : Type 0 where
    inside : In b (chain g d p)
    marks : marker g d b ≡ 0xfe
    leads : link g d b ≡ e
    other : b ≢ e

  before : Before
  before = go (Entry.chain-pred g d p e (Change.tail-in g d c p f))
    where
      go : Entry.Pred g d p e (chain g d p) → Before
      go (Entry.Pred.first q) = absurd (h.later q)
      go (Entry.Pred.after z j m l) =
          let i = Members.front-in p (Change.tail-in g d c p f) j in
          let q = only-b z i m l in
          record {
            inside = rw q at i;
            marks = rw q at m;
            leads = rw q at l;
            other = rw q at
                (Members.front-not-last p (c.once p f) (Change.tail-in g d c p f) j);
          }

  links : (y : ℕ) → In y (chain g d p) → y ≢ b → y ≢ e → (marker g d' y ≡ marker g d y) × (link g d' y ≡ link g d y)
  links y i n k = let a = h.agrees y (slot-of y i) k n in (a 0x1e (omega arith), a 0x1f (omega arith))

  pub cut-chain : chain g d p ≡ chain g d' p ++ (e ∷ [])
  unfolding chain
  cut-chain = rw (Frame.slots-eq g d d' h.above)
      (chain_from-cut g d d' e b (Change.tail-marker g d c p f) before.marks before.leads h.ended before.other (length (slots g d)) p links only-b
      (λ q. h.later (sym q)) (Change.tail-in g d c p f))

  was-in : (y : ℕ) → In y (chain g d' p) → In y (chain g d p)
  was-in y i = rw cut-chain (Members.in-append-l (e ∷ []) i)

  not-e : (y : ℕ) → In y (chain g d' p) → y ≢ e
  not-e y i q = Members.distinct_apart (e ∷ []) (subst Distinct cut-chain (c.once p f)) i (Members.head_in [] q)

  steady : (y : ℕ) → T (is_slot g d y) → y ≢ e → (k : ℕ) → k < 0x1e → field g d' y k ≡ field g d y k
  steady y t n k w = go (ℕ_discrete y b)
    where
      go : Dec (y ≡ b) → field g d' y k ≡ field g d y k
      go (yes q) = rw q (h.fixed k w)
      go (no q) = h.agrees y t n q k (omega arith)

  p≢e : p ≢ e
  p≢e q = h.later (sym q)

  low : (k : ℕ) → k < 0x16 → field g d' p k ≡ field g d p k
  low k w = steady p f.slot p≢e k (omega arith)

  kept-granules : (y : ℕ) → In y (chain g d' p) → entry_granules g d' y ≡ entry_granules g d y
  kept-granules y i = Frame.entry_granules-pairs g d d' y (λ j a w. steady y (slot-of y (was-in y i)) (not-e y i) j w)

  pub cut-owned : owned g d p ≡ owned g d' p ++ (m ∷ [])
  unfolding owned
  cut-owned =
      ap (each (entry_granules g d)) cut-chain ∙ Members.each_append (entry_granules g d) (chain g d' p) (e ∷ [])
      ∙ ap₂ (λ (a w : List ℕ). a ++ w) (sym (Members.each-eq (entry_granules g d') (entry_granules g d) (chain g d' p) kept-granules))
      (Members.each-one (entry_granules g d) e ∙ h.only)

  slot' : (y : ℕ) → is_slot g d' y ≡ is_slot g d y
  slot' = Frame.slot-eq g d d' h.above

  pub cut-file : Facts.IsFile g d' p
  cut-file = record { slot = rw (slot' p) f.slot; primary' = rw (low 0 (omega arith)) f.primary' }

  in-old : (n : ℕ) → In n (owned g d' p) → In n (owned g d p)
  in-old n i = rw cut-owned (Members.in-append-l (m ∷ []) i)

  not-m : (n : ℕ) → In n (owned g d' p) → n ≢ m
  not-m n i q = Members.distinct_apart (m ∷ []) (subst Distinct cut-owned (c.single p f)) i (Members.head_in [] q)

  old-same : (n : ℕ) → In n (owned g d' p) → taken g d' n ≡ taken g d n
  old-same n i = h.keeps n (Change.owned-lt g d c p n f (in-old n i)) (not-m n i)

  entry-owned : (y n : ℕ) → In y (chain g d' p) → In n (entry_granules g d y) → In n (owned g d' p)
  unfolding owned
  entry-owned y n i j = Members.in-each (entry_granules g d') i (rw (kept-granules y i) j)

  next' : (y : ℕ) → y ≢ b → In y (chain g d p) → Entry.Linked g d y → Entry.Follows g d' y (link g d y)
  next' y n i l =
      let t = l.next.slot in let w : link g d y ≢ e = λ q. n (only-b y i l.marked q) in
      Frame.follows-low g d d' y (link g d y) (slot' (link g d y)) (steady (link g d y) t w) l.next

  entry-b : In b (chain g d' p) → Entry.Entry g d' b
  entry-b i =
      let w = entry-was b before.inside in
      let a : Frame.Pairs g d d' b = λ k j q. h.fixed k q in
      record {
        pairs = Frame.pairs_next g d d' b a w.pairs;
        linked = inl h.ended;
        run = Frame.run-next g d d' b a w.run;
        gat = λ n j. let o = rw (kept-granules b i) at j in rw (old-same n (entry-owned b n i o)) (w.gat n o);
      }

  entry' : (y : ℕ) → In y (chain g d' p) → Entry.Entry g d' y
  entry' y i = go (ℕ_discrete y b)
    where
      go : Dec (y ≡ b) → Entry.Entry g d' y
      go (yes q) = rw q (entry-b (rw q at i))
      go (no q) = let j = was-in y i in
          Frame.entry_next g d d' y (h.agrees y (slot-of y j) (not-e y i) q) (next' y q j) (λ n w. old-same n (entry-owned y n i w)) (entry-was y j)

  name' : name_of g d' p ≡ name_of g d p
  name' = Frame.name_of-bytes g d d' p (λ k a b. low k (omega arith))

  room' : size_of g d p ≤ granule_bytes g * length (owned g d' p)
  room' = omega (arith, h.room, ap (granule_bytes g *◌) (ap length cut-owned ∙ length-append (owned g d' p) (m ∷ [])))

  filed' : Entry.Filed g d' p
  unfolding words
  filed' = record {
    name = rw name' was.name;
    zero' = rw (low 0 (omega arith)) was.zero';
    hashes = λ y i. let j = was-in y i in rw (name', h.hits y (slot-of y j) (not-e y i)) (was.hashes y j);
    count' = rw (low 3 (omega arith), low 0x14 (omega arith), low 0x15 (omega arith)) was.count';
    fits = rw (low 3 (omega arith), low 0x14 (omega arith), low 0x15 (omega arith)) room';
    off = λ u n i j. was.off (rw (low 0 (omega arith)) at u) n (in-old n i) (rw (Frame.directory-eq g d d' h.above) at j);
  }
    where
      was : Entry.Filed g d p
      was = Change.filed-at g d c p f

  own' : Change.Own g d d' p
  own' = record {
    slots' = λ y i. rw (slot' y) (slot-of y (was-in y i));
    used = λ y i. let j = was-in y i in rw (steady y (slot-of y j) (not-e y i) 0 (omega arith)) (Change.members g d c p y f j).used;
    later = λ y i n. let j = was-in y i in rw (steady y (slot-of y j) (not-e y i) 0 (omega arith)) (Change.extends g d c p y f j n);
    entry = entry';
    filed = filed';
    once = Members.distinct-l (chain g d' p) (e ∷ []) (subst Distinct cut-chain (c.once p f));
    single = Members.distinct-l (owned g d' p) (m ∷ []) (subst Distinct cut-owned (c.single p f));
    name = λ q k n w. n (c.names q p k f (w ∙ name'));
  }

  mine : entries_of g d p ≡ chain g d p
  mine = Change.entries_of-is g d p f

  mine' : entries_of g d' p ≡ chain g d' p
  mine' = Change.entries_of-is g d' p cut-file

  grans : granules_of g d p ≡ owned g d p
  grans = Change.granules_of-is g d p f

  grans' : granules_of g d' p ≡ owned g d' p
  grans' = Change.granules_of-is g d' p cut-file

  gone-e : (y : ℕ) → In y (entries_of g d p) → (In y (entries_of g d' p) → ⊥) → y ≡ e
  gone-e y i n = go (Members.snoc-in (chain g d' p) (rw (mine, cut-chain) at i))
    where
      go : In y (chain g d' p) ⊎ (y ≡ e) → y ≡ e
      go (inl j) = absurd (n (rw mine' j))
      go (inr q) = q

  gone-m : (n : ℕ) → In n (granules_of g d p) → (In n (granules_of g d' p) → ⊥) → n ≡ m
  gone-m n i k = go (Members.snoc-in (owned g d' p) (rw (grans, cut-owned) at i))
    where
      go : In n (owned g d' p) ⊎ (n ≡ m) → n ≡ m
      go (inl j) = absurd (k (rw grans' j))
      go (inr q) = q

  pub cut-change : T (not (system g d p)) → Change.Change g d d' p
  cut-change u = record {
    above = h.above;
    agrees = λ y t a w. h.agrees y t (λ q. a (rw (q, mine) (Change.tail-in g d c p f))) (λ q. a (rw (q, mine) before.inside));
    hits = λ y t a w. h.hits y t (λ q. a (rw (q, mine) (Change.tail-in g d c p f)));
    gone = λ y i n. rw (gone-e y i n) h.dead;
    unhit = λ y i n. rw (gone-e y i n) h.unhit;
    born = λ y i n. absurd (n (rw mine (was-in y (rw mine' at i))));
    nonzero = λ y i. let w = rw mine' at i in let j = was-in y w in
        rw (h.hits y (slot-of y j) (not-e y w)) (Change.used-hit g d c y (slot-of y j) (Change.members g d c p y f j).used);
    keeps = λ n l a w. h.keeps n l (λ q. a (rw (grans, q, cut-owned) (Members.in-append-r (owned g d' p) Members.In.here)));
    freed = λ n i a. rw (gone-m n i a) h.freed;
    fresh = λ n i a. absurd (a (rw grans (in-old n (rw grans' at i))));
    off = λ n i j. (Change.filed-at g d c p f).off u n (rw grans at i) j;
    own = λ q. own';
  }

  pub cut-shorter : Shorter.Shorter g d d' p m
  cut-shorter = record { less = cut-owned; low = low; freed = h.freed; keeps = h.keeps; same = h.same; room = room' }
