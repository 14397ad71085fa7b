-- A file whose last entry alone changed, and that in its pairs only: what such a change keeps, whether a granule was won or lost
use Rattle.std.specs.Prelude.{◌≡◌, ◌≢◌, ◌⊎◌, not, ℕ, ◌*◌, ◌≤◌, ◌<◌, length, T}
use Rattle.std.proofs.Math.Path.{ap}
use Rattle.std.proofs.Common.{◌∙◌, inl, inr, arith, T_not}
use mathlib.Core.List.{List, [], ◌∷◌, ◌++◌}
use Rattle.std.proofs.Math.Decide.{ℕ_discrete}
use Rattle.meaning.specs.Lists.{each, last_or}
use Rattle.meaning.specs.Layout.{is_slot, taken, field, granules, hit, directory_granules, granule_bytes, above_ten}
use Rattle.meaning.specs.Entries.{extension, system, link, block, name_of, runs, entry_granules, size_of}
use Rattle.meaning.specs.Chain.{chain, owned}
use Rattle.meaning.specs.Growth.{tail}
use Rattle.meaning.specs.declared.Geometry.{Geometry}
use Rattle.lists.specs.Members
use Rattle.lists.specs.Members.{In, Distinct}
use Rattle.laws.specs.Facts
use Rattle.laws.specs.Facts.{Sound}
use Rattle.laws.specs.Entry
use Rattle.laws.specs.Frame
use Rattle.laws.specs.Frame.{Agree}
use Rattle.laws.specs.Change
use Rattle.laws.specs.Change.{entries_of, granules_of}
use Rattle.laws.specs.Words.{words}

pub record AtTail (g : Geometry) (d d' : List ℕ) (p : ℕ) : Type 0 where
  pub above : above_ten g d' ≡ above_ten g d
  pub agrees : (x : ℕ) → T (is_slot g d x) → x ≢ tail g p d → Agree g d d' x
  pub hits : (x : ℕ) → T (is_slot g d x) → hit g d' x ≡ hit g d x
  pub fixed : (k : ℕ) → k < 32 → (k < 0x16) ⊎ (0x1e ≤ k) → field g d' (tail g p d) k ≡ field g d (tail g p d) k
  pub pairs : (k : ℕ) → k < 4 → runs g d' (tail g p d) ≤ k → block g d' (tail g p d) k ≡ 0xff
  pub run : (k : ℕ) → k < runs g d' (tail g p d) → Entry.OnDisk g d' (tail g p d) k
  pub some' : tail g p d ≢ p → 1 ≤ runs g d' (tail g p d)

module _ (g : Geometry) (d d' : List ℕ) (c : Sound g d) (p : ℕ) (f : Facts.IsFile g d p) (h : AtTail g d d' p) where
  slot-of : (x : ℕ) → In x (chain g d p) → T (is_slot g d x)
  slot-of x i = (Change.members g d c p x f i).slot

  -- the bytes of the file's entries besides the pairs
  steady : (x : ℕ) → T (is_slot g d x) → (k : ℕ) → k < 32 → (k < 0x16) ⊎ (0x1e ≤ k) → field g d' x k ≡ field g d x k
  steady x t k b o = go (ℕ_discrete x (tail g p d))
    where
      go : Dec (x ≡ tail g p d) → field g d' x k ≡ field g d x k
      go (yes q) = rw q (h.fixed k b o)
      go (no q) = h.agrees x t q k b

  pub low : (k : ℕ) → k < 0x16 → field g d' p k ≡ field g d p k
  low k b = steady p f.slot k (omega arith) (inl b)

  pub chain-stays : chain g d' p ≡ chain g d p
  chain-stays = Frame.chain-links g d d' h.above p (λ x i.
      (steady x (slot-of x i) 0x1e (omega arith) (inr (omega arith)), steady x (slot-of x i) 0x1f (omega arith) (inr (omega arith))))

  pub tail-stays : tail g p d' ≡ tail g p d
  tail-stays = ap (last_or p) chain-stays

  split : chain g d p ≡ Members.front (chain g d p) ++ (tail g p d ∷ [])
  split = Members.split-front p (Change.tail-in g d c p f)

  front-agrees : (x : ℕ) → In x (Members.front (chain g d p)) → Agree g d d' x
  front-agrees x i = h.agrees x (slot-of x (Members.front-in p (Change.tail-in g d c p f) i))
      (Members.front-not-last p (c.once p f) (Change.tail-in g d c p f) i)

  -- the granules of the entries before the last
  abbrev pub earlier : List ℕ
  earlier = each (entry_granules g d) (Members.front (chain g d p))

  pub owned-was : owned g d p ≡ earlier ++ entry_granules g d (tail g p d)
  unfolding owned
  owned-was =
      ap (each (entry_granules g d)) split ∙ Members.each_append (entry_granules g d) (Members.front (chain g d p)) (tail g p d ∷ [])
      ∙ ap (λ (l : List ℕ). earlier ++ l) (Members.each-one (entry_granules g d) (tail g p d))

  pub owned-is : owned g d' p ≡ earlier ++ entry_granules g d' (tail g p d)
  unfolding owned
  owned-is =
      ap (each (entry_granules g d')) (chain-stays ∙ split) ∙ Members.each_append (entry_granules g d') (Members.front (chain g d p)) (tail g p d ∷ [])
      ∙ ap (λ (l : List ℕ). l ++ each (entry_granules g d') (tail g p d ∷ []))
      (Members.each-eq (entry_granules g d') (entry_granules g d) (Members.front (chain g d p)) (λ x i. Frame.entry_granules-eq g d d' x (front-agrees x i)))
      ∙ ap (λ (l : List ℕ). earlier ++ l) (Members.each-one (entry_granules g d') (tail g p d))

  pub file-stays : Facts.IsFile g d' p
  file-stays = record { slot = rw (Frame.slot-eq g d d' h.above p) f.slot; primary' = rw (low 0 (omega arith)) f.primary' }

  next' : (x : ℕ) → Entry.Linked g d x → Entry.Follows g d' x (link g d x)
  next' x l = go (ℕ_discrete (link g d x) (tail g p d))
    where
      go : Dec (link g d x ≡ tail g p d) → Entry.Follows g d' x (link g d x)
      go (no q) = Frame.follows-eq g d d' x (link g d x) (Frame.slot-eq g d d' h.above (link g d x)) (h.agrees (link g d x) l.next.slot q) l.next
      go (yes q) = record {
        slot = rw (Frame.slot-eq g d d' h.above (link g d x)) l.next.slot;
        flags = steady (link g d x) l.next.slot 0 (omega arith) (inl (omega arith)) ∙ l.next.flags;
        before = steady (link g d x) l.next.slot 1 (omega arith) (inl (omega arith)) ∙ l.next.before;
        some' = rw q (h.some' (λ w. T_not (extension g d p) (Facts.file-first g d p f)
            (Change.flags-extension (field g d p 0) (rw (q ∙ w) at l.next.flags))));
      }

  name-stays : name_of g d' p ≡ name_of g d p
  name-stays = Frame.name_of-bytes g d d' p (λ k a b. low k (omega arith))

  size-stays : size_of g d' p ≡ size_of g d p
  unfolding words
  size-stays = rw (low 3 (omega arith), low 0x14 (omega arith), low 0x15 (omega arith))

  mine : entries_of g d p ≡ chain g d p
  mine = Change.entries_of-is g d p f

  mine' : entries_of g d' p ≡ chain g d p
  mine' = Change.entries_of-is g d' p file-stays ∙ chain-stays

  -- What is left to say of the granules that the file owns now
  pub record TailGranules : Type 0 where
    -- those of its last entry are taken, and those of the entries before it are taken as they were
    pub last : (n : ℕ) → In n (entry_granules g d' (tail g p d)) → T (taken g d' n)
    pub before : (x n : ℕ) → In x (chain g d p) → x ≢ tail g p d → In n (entry_granules g d x) → taken g d' n ≡ taken g d n
    pub fits : size_of g d p ≤ granule_bytes g * length (owned g d' p)
    pub off : T (not (system g d p)) → (n : ℕ) → In n (owned g d' p) → In n (directory_granules g d) → ⊥
    pub single : Distinct (owned g d' p)
    pub keeps : (n : ℕ) → n < granules g → (In n (owned g d p) → ⊥) → (In n (owned g d' p) → ⊥) → taken g d' n ≡ taken g d n
    pub freed : (n : ℕ) → In n (owned g d p) → (In n (owned g d' p) → ⊥) → T (taken g d' n) → ⊥
    pub fresh : (n : ℕ) → In n (owned g d' p) → (In n (owned g d p) → ⊥) → T (taken g d n) → ⊥

  module _ (k : TailGranules) where
    entry' : (x : ℕ) → In x (chain g d p) → Entry.Entry g d' x
    entry' x i = go (ℕ_discrete x (tail g p d))
      where
        last : Entry.Entry g d' (tail g p d)
        last = record {
          pairs = h.pairs;
          linked = inl (h.fixed 0x1e (omega arith) (inr (omega arith)) ∙ Change.tail-marker g d c p f);
          run = h.run;
          gat = k.last;
        }

        go : Dec (x ≡ tail g p d) → Entry.Entry g d' x
        go (yes q) = rw q last
        go (no q) =
            let m = Change.members g d c p x f i in
            Frame.entry_next g d d' x (h.agrees x (slot-of x i) q) (next' x) (λ n j. k.before x n i q j) (Change.entry-at g d c x m.slot m.used)

    filed' : Entry.Filed g d' p
    filed' = record {
      name = rw name-stays was.name;
      zero' = rw (low 0 (omega arith)) was.zero';
      hashes = λ x i. let j = rw chain-stays at i in rw (name-stays, h.hits x (slot-of x j)) (was.hashes x j);
      count' = rw (low 3 (omega arith), low 0x14 (omega arith), low 0x15 (omega arith)) was.count';
      fits = rw size-stays k.fits;
      off = λ u n i j. k.off (rw (low 0 (omega arith)) at u) n i (rw (Frame.directory-eq g d d' h.above) at j);
    }
      where
        was : Entry.Filed g d p
        was = Change.filed-at g d c p f

    own' : Change.Own g d d' p
    own' = record {
      slots' = λ x i. rw (Frame.slot-eq g d d' h.above x) (slot-of x (rw chain-stays at i));
      used = λ x i. let j = rw chain-stays at i in rw (steady x (slot-of x j) 0 (omega arith) (inl (omega arith))) (Change.members g d c p x f j).used;
      later = λ x i n. let j = rw chain-stays at i in rw (steady x (slot-of x j) 0 (omega arith) (inl (omega arith))) (Change.extends g d c p x f j n);
      entry = λ x i. entry' x (rw chain-stays at i);
      filed = filed';
      once = rw chain-stays (c.once p f);
      single = k.single;
      name = λ q u n w. n (c.names q p u f (w ∙ name-stays));
    }

    grans : granules_of g d p ≡ owned g d p
    grans = Change.granules_of-is g d p f

    grans' : granules_of g d' p ≡ owned g d' p
    grans' = Change.granules_of-is g d' p file-stays

    pub tail-change : T (not (system g d p)) → Change.Change g d d' p
    tail-change u = record {
      above = h.above;
      agrees = λ x t a b. h.agrees x t (λ q. a (rw (q, mine) (Change.tail-in g d c p f)));
      hits = λ x t a b. h.hits x t;
      gone = λ x i n. absurd (n (rw mine' (rw mine at i)));
      unhit = λ x i n. absurd (n (rw mine' (rw mine at i)));
      born = λ x i n. absurd (n (rw mine (rw mine' at i)));
      nonzero = λ x i. let j = rw mine' at i in rw (h.hits x (slot-of x j)) (Change.used-hit g d c x (slot-of x j) (Change.members g d c p x f j).used);
      keeps = λ n l a b. k.keeps n l (λ i. a (rw grans i)) (λ i. b (rw grans' i));
      freed = λ n i a. k.freed n (rw grans at i) (λ j. a (rw grans' j));
      fresh = λ n i a. k.fresh n (rw grans' at i) (λ j. a (rw grans j));
      off = λ n i j. (Change.filed-at g d c p f).off u n (rw grans at i) j;
      own = λ q. own';
    }
