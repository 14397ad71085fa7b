-- A file whose bytes, size and B flag changed, and nothing else
use Rattle.std.specs.Prelude.{◌≡◌, ◌≢◌, List, ℕ, ◌*◌, ◌/◌, ◌≤◌, ◌<◌, length, T}
use Rattle.std.proofs.Math.Path.{ap}
use Rattle.std.proofs.Common.{◌∙◌, arith, T_not}
use Rattle.std.proofs.Math.Bool.{not}
use Rattle.std.proofs.Math.Decide.{ℕ_discrete}
use Rattle.meaning.specs.Lists.{count, each}
use Rattle.meaning.specs.Layout.{byte, is_slot, taken, field, granules, hit, directory_granules, granule_bytes, above_ten}
use Rattle.meaning.specs.Entries.{extension, system, link, name_of, entry_granules, size_of, sector_count, end_byte}
use Rattle.meaning.specs.Chain.{chain, owned}
use Rattle.meaning.specs.Free.{free_granules}
use Rattle.meaning.specs.Write.{size_after}
use Rattle.meaning.specs.Plain.{File}
use Rattle.meaning.specs.declared.Mode.{Mode}
use Rattle.meaning.specs.declared.Mode.TheVariants.{Sequential, Random}
use Rattle.meaning.specs.declared.Geometry.{Geometry}
use Rattle.lists.specs.Members
use Rattle.lists.specs.Members.{In}
use Rattle.laws.specs.Facts
use Rattle.laws.specs.Facts.{Sound}
use Rattle.laws.specs.Entry
use Rattle.laws.specs.Frame
use Rattle.laws.specs.Frame.{Agree}
use Rattle.laws.specs.Change
use Rattle.laws.specs.Change.{entries_of, granules_of}
use Rattle.laws.specs.Others

-- a write reaches at least its own end
pub after-end : (m : Mode) (old end : ℕ) → end ≤ size_after m old end
unfolding size_after
after-end Sequential old end = omega arith
after-end Random old end = omega arith

-- the bytes of an entry that a write does not touch
pub record Kept (k : ℕ) : Type 0 where
  pub flags : k ≢ 1
  pub ends : k ≢ 3
  pub low : k ≢ 0x14
  pub high : k ≢ 0x15

pub record Rewrites (g : Geometry) (d d' : List ℕ) (p : ℕ) : Type 0 where
  pub above : above_ten g d' ≡ above_ten g d
  pub agrees : (x : ℕ) → T (is_slot g d x) → x ≢ p → Agree g d d' x
  pub hits : (x : ℕ) → T (is_slot g d x) → hit g d' x ≡ hit g d x
  pub fixed : (k : ℕ) → k < 32 → Kept k → field g d' p k ≡ field g d p k
  pub keeps : (n : ℕ) → n < granules g → taken g d' n ≡ taken g d n
  pub none : sector_count g d' p ≡ 0 → end_byte g d' p ≡ 0
  pub fits : size_of g d' p ≤ granule_bytes g * length (owned g d p)
  pub same : (i : ℕ) → (In (i / granule_bytes g) (directory_granules g d) → ⊥) → (In (i / granule_bytes g) (owned g d p) → ⊥) → byte d' i ≡ byte d i

module _ (g : Geometry) (d d' : List ℕ) (c : Sound g d) (p : ℕ) (f : Facts.IsFile g d p) (h : Rewrites g d d' p) where
  slot-of : (x : ℕ) → In x (chain g d p) → T (is_slot g d x)
  slot-of x i = (Change.members g d c p x f i).slot

  steady : (x : ℕ) → T (is_slot g d x) → (k : ℕ) → k < 32 → Kept k → field g d' x k ≡ field g d x k
  steady x t k b o = go (ℕ_discrete x p)
    where
      go : Dec (x ≡ p) → field g d' x k ≡ field g d x k
      go (yes q) = rw q (h.fixed k b o)
      go (no q) = h.agrees x t q k b

  -- flags, back pointer and everything from 16 on; 01 is the back pointer only of an extension
  tail-bytes : (x : ℕ) → T (is_slot g d x) → (k : ℕ) → 0x16 ≤ k → k < 32 → field g d' x k ≡ field g d x k
  tail-bytes x t k a b = steady x t k b (record { flags = omega arith; ends = omega arith; low = omega arith; high = omega arith })

  flag : (x : ℕ) → T (is_slot g d x) → field g d' x 0 ≡ field g d x 0
  flag x t = steady x t 0 (omega arith) (record { flags = omega arith; ends = omega arith; low = omega arith; high = omega arith })

  pub rw-chain : chain g d' p ≡ chain g d p
  rw-chain = Frame.chain-links g d d' h.above p
      (λ x i. (tail-bytes x (slot-of x i) 0x1e (omega arith) (omega arith), tail-bytes x (slot-of x i) 0x1f (omega arith) (omega arith)))

  kept-granules : (x : ℕ) → T (is_slot g d x) → entry_granules g d' x ≡ entry_granules g d x
  kept-granules x t = Frame.granules-tail g d d' x (tail-bytes x t)

  pub rw-owned : owned g d' p ≡ owned g d p
  unfolding owned
  rw-owned = ap (each (entry_granules g d')) rw-chain ∙ Members.each-eq (entry_granules g d') (entry_granules g d) (chain g d p)
      (λ x i. kept-granules x (slot-of x i))

  pub rw-file : Facts.IsFile g d' p
  rw-file = record { slot = rw (Frame.slot-eq g d d' h.above p) f.slot; primary' = rw (flag p f.slot) f.primary' }

  entry-was : (x : ℕ) → In x (chain g d p) → Entry.Entry g d x
  entry-was x i = let k = Change.members g d c p x f i in Change.entry-at g d c x k.slot k.used

  next' : (x : ℕ) → Entry.Linked g d x → Entry.Follows g d' x (link g d x)
  next' x l =
      let t = l.next.slot in
      let n : link g d x ≢ p = λ q. T_not (extension g d p) (Facts.file-first g d p f) (Change.flags-extension (field g d p 0) (rw q at l.next.flags)) in
      Frame.follows-eq g d d' x (link g d x) (Frame.slot-eq g d d' h.above (link g d x)) (h.agrees (link g d x) t n) l.next

  entry' : (x : ℕ) → In x (chain g d p) → Entry.Entry g d' x
  entry' x i =
      let t = slot-of x i in let w = entry-was x i in
      let a = Frame.tail-pairs g d d' x (tail-bytes x t) in
      record {
        pairs = Frame.pairs_next g d d' x a w.pairs;
        linked = Frame.linked-next g d d' 0x90 0x90 x (tail-bytes x t) (next' x) w.linked;
        run = Frame.run-next g d d' x a w.run;
        gat = λ n j. let o = rw (kept-granules x t) at j in rw (h.keeps n (Change.owned-lt g d c p n f (Change.granule-owned g d c p x n i o))) (w.gat n o);
      }

  pub rw-name : name_of g d' p ≡ name_of g d p
  rw-name = Frame.name_of-bytes g d d' p (λ k a b. h.fixed k (omega arith)
      (record { flags = omega arith; ends = omega arith; low = omega arith; high = omega arith }))

  filed' : Entry.Filed g d' p
  filed' = record {
    name = rw rw-name was.name;
    zero' = rw (flag p f.slot) was.zero';
    hashes = λ x i. let j = rw rw-chain at i in rw (rw-name, h.hits x (slot-of x j)) (was.hashes x j);
    count' = h.none;
    fits = rw rw-owned h.fits;
    off = λ u n i j. was.off (rw (flag p f.slot) at u) n (rw rw-owned at i) (rw (Frame.directory-eq g d d' h.above) at j);
  }
    where
      was : Entry.Filed g d p
      was = Change.filed-at g d c p f

  own' : Change.Own g d d' p
  own' = record {
    slots' = λ x i. rw (Frame.slot-eq g d d' h.above x) (slot-of x (rw rw-chain at i));
    used = λ x i. let j = rw rw-chain at i in rw (flag x (slot-of x j)) (Change.members g d c p x f j).used;
    later = λ x i n. let j = rw rw-chain at i in rw (flag x (slot-of x j)) (Change.extends g d c p x f j n);
    entry = λ x i. entry' x (rw rw-chain at i);
    filed = filed';
    once = rw rw-chain (c.once p f);
    single = rw rw-owned (c.single p f);
    name = λ q k n w. n (c.names q p k f (w ∙ rw-name));
  }

  mine : entries_of g d p ≡ chain g d p
  mine = Change.entries_of-is g d p f

  mine' : entries_of g d' p ≡ chain g d p
  mine' = Change.entries_of-is g d' p rw-file ∙ rw-chain

  grans : granules_of g d p ≡ owned g d p
  grans = Change.granules_of-is g d p f

  grans' : granules_of g d' p ≡ owned g d p
  grans' = Change.granules_of-is g d' p rw-file ∙ rw-owned

  pub rw-change : T (not (system g d p)) → Change.Change g d d' p
  rw-change u = record {
    above = h.above;
    agrees = λ x t a b. h.agrees x t (λ q. a (rw (q, mine) (Change.chain_head g d c p f.slot)));
    hits = λ x t a b. h.hits x t;
    gone = λ x i n. absurd (n (rw mine' (rw mine at i)));
    unhit = λ x i n. absurd (n (rw mine' (rw mine at i)));
    born = λ x i n. absurd (n (rw mine (rw mine' at i)));
    nonzero = λ x i. let j = rw mine' at i in rw (h.hits x (slot-of x j)) (Change.used-hit g d c x (slot-of x j) (Change.members g d c p x f j).used);
    keeps = λ n l a b. h.keeps n l;
    freed = λ n i a. absurd (a (rw grans' (rw grans at i)));
    fresh = λ n i a. absurd (a (rw grans (rw grans' at i)));
    off = λ n i j. (Change.filed-at g d c p f).off u n (rw grans at i) j;
    own = λ q. own';
  }

  pub rw-free : free_granules g d' ≡ free_granules g d
  unfolding free_granules
  rw-free = Members.keep-eq _ _ (count 0 (granules g)) (λ n i. ap not (h.keeps n (omega (arith, Members.count-in n 0 (granules g) i))))

  pub rw-same : Others.Same g d d' p
  rw-same = λ i a b e. h.same i a (λ j. b (rw grans j))
