-- Bring back: what the test of a killed file says; where it is brought back the disk is consistent, every other file is as it was, and the
-- file is there with the attributes, the size and the bytes that its entry and its granules hold
use Rattle.std.specs.Prelude.{◌≡◌, refl, ◌≢◌, ◌⊎◌, not, ◌||◌, List, ◌∷◌, map, ℕ, ◌*◌, ◌/◌, ◌≤◌, ◌<◌, leb}
use Rattle.std.proofs.Math.Path.{ap}
use Rattle.std.proofs.Common.{◌∙◌, inl, inr, arith}
use Rattle.std.proofs.Math.ListN.{length}
use Rattle.std.proofs.Math.Dec.{T, eqb, eqb→eq, leb→le, le→leb, T_not}
use Rattle.meaning.specs.Lists.{count, every, distinct}
use Rattle.meaning.specs.Layout.{byte, is_slot, taken, field, granules, hit, directory_granules, granule_bytes, above_ten}
use Rattle.meaning.specs.Bits.{bit, digit, put_digit, with_bit}
use Rattle.meaning.specs.Names.{hash, well_formed}
use Rattle.meaning.specs.Entries.{in_use, extension, system, block, marker, link, runs, entry_granules, name_of, size_of, sector_count, end_byte}
use Rattle.meaning.specs.Chain.{chain, owned, place}
use Rattle.meaning.specs.Consistent.{pairs_hold, link_holds_by, runs_hold}
use Rattle.meaning.specs.BringBack.{killed_entry_holds, whole}
use Rattle.meaning.specs.Read.{fetch}
use Rattle.meaning.specs.Plain.{file_at, back_as}
use Rattle.meaning.specs.declared.Geometry.{Geometry}
use Rattle.lists.specs.Members
use Rattle.lists.specs.Members.{In, Distinct}
use Rattle.laws.specs.Bits
use Rattle.laws.specs.Facts
use Rattle.laws.specs.Facts.{IsFile, Sound}
use Rattle.laws.specs.Entry
use Rattle.laws.specs.Frame
use Rattle.laws.specs.Places
use Rattle.laws.specs.Change
use Rattle.laws.specs.Change.{entries_of, granules_of}
use Rattle.laws.specs.Others
use Rattle.laws.specs.Marking
use Rattle.laws.specs.Create
use Rattle.laws.specs.Words.{words}

-- an entry of a killed file: pairs, marker, link and runs as 01 wants them, but that the extension it leads to has byte 00 equal to 80H
pub record Killed (g : Geometry) (d : List ℕ) (x : ℕ) : Type 0 where
  pub pairs : (k : ℕ) → k < 4 → runs g d x ≤ k → block g d x k ≡ 0xff
  pub linked : (marker g d x ≡ 0xff) ⊎ Entry.LinkedBy g d 0x80 x
  pub run : (k : ℕ) → k < runs g d x → Entry.OnDisk g d x k

-- something whole to bring back
pub record Whole (g : Geometry) (d : List ℕ) (p : ℕ) : Type 0 where
  pub first : T (not (extension g d p))
  pub name : T (well_formed (name_of g d p))
  pub zero' : T (not (bit 5 (field g d p 0)))
  pub entries : (x : ℕ) → In x (chain g d p) → Killed g d x
  pub once : Distinct (chain g d p)
  pub single : Distinct (owned g d p)
  pub count' : sector_count g d p ≡ 0 → end_byte g d p ≡ 0
  pub fits : size_of g d p ≤ granule_bytes g * length (owned g d p)

ruleset parts = (Members.and_l, Members.and_r)

module _ (g : Geometry) (d : List ℕ) where
  killed-says : (x : ℕ) → T (killed_entry_holds g d x) → Killed g d x
  unfolding words
  killed-says x t =
      let ps : T (pairs_hold g d x) = search parts depth 5 in
      let ls : T (link_holds_by g d 0x80 x) = search parts depth 5 in
      let rs : T (runs_hold g d x) = search parts depth 5 in
      record { pairs = Entry.pairs-say g d x ps; linked = Entry.links-say g d 0x80 x ls; run = Entry.runs-say g d x rs }

  says-killed : (x : ℕ) → Killed g d x → T (killed_entry_holds g d x)
  unfolding words
  says-killed x e =
      let ps : T (pairs_hold g d x) = Entry.say-pairs g d x e.pairs in
      let ls : T (link_holds_by g d 0x80 x) = Entry.say-links g d 0x80 x e.linked in
      let rs : T (runs_hold g d x) = Entry.say-runs g d x e.run in
      search Members.and_i depth 5

  pub whole_says : (p : ℕ) → T (whole g d p) → Whole g d p
  unfolding whole words
  whole_says p t =
      let a : T (not (extension g d p)) = search parts depth 9 in
      let b : T (well_formed (name_of g d p)) = search parts depth 9 in
      let z : T (not (bit 5 (field g d p 0))) = search parts depth 9 in
      let es : T (every (killed_entry_holds g d) (chain g d p)) = search parts depth 9 in
      let os : T (distinct (chain g d p)) = search parts depth 9 in
      let ss : T (distinct (owned g d p)) = search parts depth 9 in
      let n : T (not (eqb (sector_count g d p) 0) || eqb (end_byte g d p) 0) = search parts depth 9 in
      let f : T (leb (size_of g d p) (granule_bytes g * length (owned g d p))) = search parts depth 9 in
      record {
        first = a;
        name = b;
        zero' = z;
        entries = λ x i. killed-says x (Members.every-all (killed_entry_holds g d) es i);
        once = Members.distinct-says (chain g d p) os;
        single = Members.distinct-says (owned g d p) ss;
        count' = λ q. eqb→eq _ _ (Members.if-or (eqb (sector_count g d p) 0) _ n (Members.eq-T q));
        fits = leb→le _ _ f;
      }

  pub says-whole : (p : ℕ) → Whole g d p → T (whole g d p)
  unfolding whole words
  says-whole p w =
      let a : T (not (extension g d p)) = w.first in
      let b : T (well_formed (name_of g d p)) = w.name in
      let z : T (not (bit 5 (field g d p 0))) = w.zero' in
      let es : T (every (killed_entry_holds g d) (chain g d p))
      = Members.all-every (killed_entry_holds g d) (chain g d p) (λ x i. says-killed x (w.entries x i)) in
      let os : T (distinct (chain g d p)) = Members.says-distinct w.once in
      let ss : T (distinct (owned g d p)) = Members.says-distinct w.single in
      let n : T (not (eqb (sector_count g d p) 0) || eqb (end_byte g d p) 0) = Members.or-if (eqb (sector_count g d p) 0) _
      (λ t. Members.eq-T (w.count' (eqb→eq _ _ t))) in
      let f : T (leb (size_of g d p) (granule_bytes g * length (owned g d p))) = le→leb _ _ w.fits in
      search Members.and_i depth 9

  -- That no entry is met twice follows from the back links, so a program need not test it.
  pub whole-once : (p : ℕ) → T (not (extension g d p)) → T (every (killed_entry_holds g d) (chain g d p)) → T (distinct (chain g d p))
  unfolding digit
  whole-once p a es =
      Members.says-distinct (Entry.links-once g d 0x80 p (λ x i. (killed-says x (Members.every-all (killed_entry_holds g d) es i)).linked)
      (λ e. T_not (extension g d p) a (rw e tt)))

-- what a bring back that is accepted has passed
pub record Back (g : Geometry) (d : List ℕ) (p : ℕ) : Type 0 where
  pub slot : T (is_slot g d p)
  pub dead : T (in_use g d p) → ⊥
  pub user : T (not (system g d p))
  pub whole' : Whole g d p
  pub new : (q : ℕ) → IsFile g d q → name_of g d q ≢ name_of g d p
  pub free : (n : ℕ) → In n (owned g d p) → T (taken g d n) → ⊥

-- an entry of its chain
record Part (g : Geometry) (d : List ℕ) (p x : ℕ) : Type 0 where
  slot : T (is_slot g d x)
  kind : (x ≡ p) ⊎ (field g d x 0 ≡ 0x80)

not-used : (x : ℕ) → x ≡ 0x80 → T (bit 4 x) → ⊥
unfolding digit
not-used x e = rw e (λ t. t)

now-used : put_digit 0x80 4 1 ≡ 0x90
unfolding put_digit
now-used = refl

-- bring back sets: its stores are, by what the words mean, a marking with 1
module _ (g : Geometry) (d : List ℕ) (c : Sound g d) (k : Places.Fits g d) (p : ℕ) (w : Back g d p) where
  no-file : IsFile g d p → ⊥
  no-file f = w.dead (Facts.file-in-use g d p f)

  part : (x : ℕ) → In x (chain g d p) → Part g d p x
  part x i = go (Entry.chain-pred g d p x i)
    where
      at : (z : ℕ) → marker g d z ≡ 0xfe → link g d z ≡ x → (marker g d z ≡ 0xff) ⊎ Entry.LinkedBy g d 0x80 z → Part g d p x
      at z m l (inl e) = absurd (omega arith)
      at z m l (inr q) = record { slot = rw l at q.next.slot; kind = inr (rw l at q.next.flags) }

      go : Entry.Pred g d p x (chain g d p) → Part g d p x
      go (Entry.Pred.first e) = record { slot = rw e w.slot; kind = inl e }
      go (Entry.Pred.after z j m l) = at z m l (w.whole'.entries z (Members.front-in p i j)).linked

  unused : (x : ℕ) → In x (chain g d p) → T (in_use g d x) → ⊥
  unused x i = go (part x i).kind
    where
      go : (x ≡ p) ⊎ (field g d x 0 ≡ 0x80) → T (in_use g d x) → ⊥
      go (inl e) = rw e w.dead
      go (inr e) = not-used (field g d x 0) e

  next-in : (x : ℕ) → In x (chain g d p) → Entry.LinkedBy g d 0x80 x → In (link g d x) (chain g d p)
  next-in x i l = Change.chain_next g d p x (λ y j. (part y j).slot) w.whole'.once i l.marked l.next.slot

  own-lt : (n : ℕ) → In n (owned g d p) → n < granules g
  unfolding owned
  own-lt n i = let x = Members.each_in (entry_granules g d) n (chain g d p) i in
      Places.runs-granule-lt g d x.0 n (w.whole'.entries x.0 x.1).run x.2

  pub back-marks : Marking.Marks g d 1 (owned g d p) (chain g d p)
  back-marks = record { dir = Places.dir g d c.dir; fits = k; digit' = omega arith; granules' = own-lt; slots' = λ x i. (part x i).slot }

  -- the disk afterwards
  abbrev d' : List ℕ
  d' = Marking.marking g 1 (hash (name_of g d p)) d (owned g d p) (chain g d p)

  above' : above_ten g d' ≡ above_ten g d
  above' = Marking.mark-above g d 1 (hash (name_of g d p)) (owned g d p) (chain g d p) back-marks

  pub back-hit : (x : ℕ) → In x (chain g d p) → hit g d' x ≡ hash (name_of g d p)
  back-hit = Marking.mark-hit g d 1 (hash (name_of g d p)) (owned g d p) (chain g d p) back-marks

  taken' : (n : ℕ) → In n (owned g d p) → T (taken g d' n)
  unfolding words
  taken' n i = Members.eq-T (Marking.mark-granule g d 1 (hash (name_of g d p)) (owned g d p) (chain g d p) back-marks n i)

  head : In p (chain g d p)
  head = Change.chain_head g d c p w.slot

  tail' : (x : ℕ) → In x (chain g d p) → Frame.Tail g d d' x
  tail' = Marking.file-tail g d 1 (hash (name_of g d p)) p w.slot back-marks

  slot' : (x : ℕ) → In x (chain g d p) → T (is_slot g d' x)
  slot' = Marking.file-slot g d 1 (hash (name_of g d p)) p w.slot back-marks

  -- byte 00 as it stands, but in use; every other byte of its entries as it stands
  pub back-flags : (x : ℕ) → In x (chain g d p) → field g d' x 0 ≡ with_bit 4 (field g d x 0)
  back-flags = Marking.file-flags g d 1 (hash (name_of g d p)) p w.slot back-marks

  pub back-byte : (x j : ℕ) → In x (chain g d p) → 1 ≤ j → j < 32 → field g d' x j ≡ field g d x j
  back-byte = Marking.file-byte g d 1 (hash (name_of g d p)) p w.slot back-marks

  pub back-chain : chain g d' p ≡ chain g d p
  back-chain = Marking.file-chain g d 1 (hash (name_of g d p)) p w.slot back-marks

  pub back-owned : owned g d' p ≡ owned g d p
  back-owned = Marking.file-owned g d 1 (hash (name_of g d p)) p w.slot back-marks

  pub back-name : name_of g d' p ≡ name_of g d p
  back-name = Marking.file-name g d 1 (hash (name_of g d p)) p w.slot back-marks

  back-size : size_of g d' p ≡ size_of g d p
  back-size = Marking.file-size g d 1 (hash (name_of g d p)) p w.slot back-marks

  flag-other : (u : ℕ) → u ≢ 4 → bit u (field g d' p 0) ≡ bit u (field g d p 0)
  flag-other u n = Marking.file-flag g d 1 (hash (name_of g d p)) p w.slot back-marks p u head n

  used' : (x : ℕ) → In x (chain g d p) → T (in_use g d' x)
  used' x i = Members.eq-T (ap (λ (b : ℕ). digit b 4) (back-flags x i) ∙ Bits.digit-same (field g d x 0) 4 1 (omega arith))

  pub back-file : IsFile g d' p
  back-file = record {
    slot = slot' p head;
    primary' = Members.and_i (in_use g d' p) (not (extension g d' p)) (used' p head)
        (rw (flag-other 7 (omega arith)) w.whole'.first);
  }

  later' : (x : ℕ) → In x (chain g d p) → x ≢ p → field g d' x 0 ≡ 0x90
  later' x i n = go (part x i).kind
    where
      go : (x ≡ p) ⊎ (field g d x 0 ≡ 0x80) → field g d' x 0 ≡ 0x90
      go (inl e) = absurd (n e)
      go (inr e) = back-flags x i ∙ ap (with_bit 4) e ∙ now-used

  next' : (x : ℕ) → In x (chain g d p) → Entry.LinkedBy g d 0x80 x → Entry.FollowsBy g d' 0x90 x (link g d x)
  next' x i l = rw now-used at (Marking.file-next g d 1 (hash (name_of g d p)) p w.slot back-marks 0x80 x i (next-in x i l) l)

  entry' : (x : ℕ) → In x (chain g d p) → Entry.Entry g d' x
  entry' x i = let e = w.whole'.entries x i in let a = tail' x i in record {
    pairs = Frame.pairs_next g d d' x (Frame.tail-pairs g d d' x a) e.pairs;
    linked = Frame.linked-next g d d' 0x80 0x90 x a (next' x i) e.linked;
    run = Frame.run-next g d d' x (Frame.tail-pairs g d d' x a) e.run;
    gat = λ n j. taken' n (Change.granule-owned g d c p x n i (rw (Frame.granules-tail g d d' x a) at j));
  }

  filed' : Entry.Filed g d' p
  filed' = record {
    name = rw back-name w.whole'.name;
    zero' = rw (flag-other 5 (omega arith)) w.whole'.zero';
    hashes = λ s i. rw back-name (back-hit s (rw back-chain at i));
    count' = rw (
      Marking.file-end g d 1 (hash (name_of g d p)) p w.slot back-marks,
      Marking.file-low g d 1 (hash (name_of g d p)) p w.slot back-marks,
      Marking.file-high g d 1 (hash (name_of g d p)) p w.slot back-marks,
    ) w.whole'.count';
    fits = rw (back-size, back-owned) w.whole'.fits;
    off = λ u n i j. w.free n (rw back-owned at i) (c.directory n (rw (Frame.directory-eq g d d' above') at j));
  }

  own' : Change.Own g d d' p
  own' = record {
    slots' = λ x i. slot' x (rw back-chain at i);
    used = λ x i. used' x (rw back-chain at i);
    later = λ x i n. Change.flags-extension (field g d' x 0) (later' x (rw back-chain at i) n);
    entry = λ x i. entry' x (rw back-chain at i);
    filed = filed';
    once = rw back-chain w.whole'.once;
    single = rw back-owned w.whole'.single;
    name = λ q f n. rw back-name (w.new q f);
  }

  in-chain : (x : ℕ) → In x (entries_of g d' p) → In x (chain g d p)
  in-chain x i = rw back-chain at (Change.entries-in g d' p x i).1

  in-owned : (n : ℕ) → In n (granules_of g d' p) → In n (owned g d p)
  in-owned n i = rw back-owned at (Change.granules-in g d' p n i).1

  no-entry : {A : Type 0} (x : ℕ) → In x (entries_of g d p) → A
  no-entry x i = absurd (no-file (Change.entries-in g d p x i).0)

  no-granule : {A : Type 0} (n : ℕ) → In n (granules_of g d p) → A
  no-granule n i = absurd (no-file (Change.granules-in g d p n i).0)

  outside' : (x : ℕ) → (In x (entries_of g d' p) → ⊥) → In x (chain g d p) → ⊥
  outside' x n i = n (rw (Change.entries_of-is g d' p back-file, back-chain) i)

  pub back-change : Change.Change g d d' p
  back-change = record {
    above = above';
    agrees = λ x t a b. Marking.mark-agrees g d 1 (hash (name_of g d p)) (owned g d p) (chain g d p) back-marks x t (outside' x b);
    hits = λ x t a b. Marking.mark-hits g d 1 (hash (name_of g d p)) (owned g d p) (chain g d p) back-marks x t (outside' x b);
    gone = λ x i. no-entry x i;
    unhit = λ x i. no-entry x i;
    born = λ x i a. unused x (in-chain x i);
    nonzero = λ x i. rw (back-hit x (in-chain x i)) (Create.hash-nonzero (name_of g d p));
    keeps = λ n h a b. Marking.mark-keeps g d 1 (hash (name_of g d p)) (owned g d p) (chain g d p) back-marks n h
        (λ i. b (rw (Change.granules_of-is g d' p back-file, back-owned) i));
    freed = λ n i. no-granule n i;
    fresh = λ n i a. w.free n (in-owned n i);
    off = λ n i. no-granule n i;
    own = λ h. own';
  }

  pub back-length : length d' ≡ length d
  back-length = Marking.mark-length g d 1 (hash (name_of g d p)) (owned g d p) (chain g d p) back-marks

  pub back-same : (i : ℕ) → (In (i / granule_bytes g) (directory_granules g d) → ⊥) → byte d' i ≡ byte d i
  back-same = Marking.mark-same g d 1 (hash (name_of g d p)) (owned g d p) (chain g d p) back-marks

  pub back-taken : (n : ℕ) → In n (owned g d p) → T (taken g d' n)
  back-taken = taken'

  pub back-keeps : (n : ℕ) → n < granules g → (In n (owned g d p) → ⊥) → taken g d' n ≡ taken g d n
  back-keeps = Marking.mark-keeps g d 1 (hash (name_of g d p)) (owned g d p) (chain g d p) back-marks

  -- its bytes are what its granules hold
  back-bytes : fetch g d' p 0 (size_of g d' p) ≡ fetch g d p 0 (size_of g d p)
  unfolding place words
  back-bytes =
      rw (back-size, back-owned)
      (Members.map-eq _ _ (count 0 (size_of g d p)) (λ i j. let o = Others.place_in g d p i
      (omega (arith, w.whole'.fits, Members.count-in i 0 (size_of g d p) j)) in
      back-same (place g d p i) (λ q. w.free _ o (c.directory _ q))))

  pub back-told : file_at g d' p ≡ back_as g d p
  unfolding file_at back_as
  back-told = λ i. record { attributes = attributes i; granules = ap length back-owned i; bytes = back-bytes i }
    where
      other : (j : ℕ) → 1 ≤ j → j < 32 → field g d' p j ≡ field g d p j
      other j a b = back-byte p j head a b

      attributes : map (field g d' p) (0 ∷ 1 ∷ 2 ∷ 4 ∷ count 0x10 4) ≡ with_bit 4 (field g d p 0) ∷ map (field g d p) (1 ∷ 2 ∷ 4 ∷ count 0x10 4)
      attributes = rw (
        back-flags p head,
        other 1 (omega arith) (omega arith),
        other 2 (omega arith) (omega arith),
        other 4 (omega arith) (omega arith),
        other 0x10 (omega arith) (omega arith),
        other 0x11 (omega arith) (omega arith),
        other 0x12 (omega arith) (omega arith),
        other 0x13 (omega arith) (omega arith),
      )
