-- The theorems of `Statement`: every call, bring back, compare and load record.
use Rattle.std.specs.Prelude.{◌≡◌, refl, ◌≢◌, ◌⊎◌, Bool, true, false, not, ◌&&◌, ◌||◌, get_or, take, drop, set}
use Rattle.std.proofs.Math.Path.{ap, sym, subst}
use Rattle.std.proofs.Common.{◌∙◌, inl, inr, mod-lt, length-set, get_or-set_other, ne_eqb}
use Rattle.std.proofs.Math.Bool.{cond}
use mathlib.Core.List.{List, [], ◌∷◌, ◌++◌, map}
use Prim.Native.Nat.{ℕ, ◌+◌, ◌-◌, ◌*◌, ◌/◌, ◌%◌, ◌≤◌, ◌<◌}
use native.Mathlib.Omega.{arith}
use Rattle.std.proofs.Math.Decide.{ℕ_discrete, dec_lt}
use lib.Dec.{T, eqb, leb, ltb, eqb→eq, ltb→lt}
use Rattle.std.proofs.Math.ListN.{length}
use Rattle.std.proofs.Math.Seq.{get_or-set_same, set_out}
use Rattle.meaning.specs.Lists.{count, keep, all, any, first}
use Rattle.meaning.specs.Bits.{bit, digit}
use Rattle.meaning.specs.Layout.{byte, field, taken, hit, granules, gat_at, hit_at, entry_at, is_slot}
use Rattle.meaning.specs.Entries.{in_use, extension, name_of, size_of}
use Rattle.meaning.specs.Chain.{owned, files}
use Rattle.meaning.specs.Amount.{how_many}
use Rattle.meaning.specs.Refusal.{naming}
use Rattle.meaning.specs.Refusals.{accepted, refusal, by_number, handle_refusals, not_for_reading, check}
use Rattle.meaning.specs.Handles.{in_range, fresh, moved_to}
use Rattle.meaning.specs.LookUp.{candidates, carries, named}
use Rattle.meaning.specs.Read.{fetch}
use Rattle.meaning.specs.Plain.{File, Found, found, nothing, file_at, found_in, plain, is_system}
use Rattle.meaning.specs.Calls.{checks, looks_up, opens, creates, reads, reads_sector, writes, allots, trims, kills, lists, counts, measures}
use Rattle.meaning.specs.declared.Geometry.{Geometry}
use Rattle.meaning.specs.declared.Handle.{Handle}
use Rattle.differences.specs.Compare.{difference, name_only, unlike, is_one, tell_first, tells_none, names, merged, rising, differences, compare}
use Rattle.differences.specs.declared.Difference.{Difference}
use Rattle.load.specs.Records.{record_from, told_at, item_at, past, item_refusals}
use Rattle.load.specs.Load.{load_record, load_refusals, load_numbers, bytes_of, most_bytes}
use Rattle.load.specs.declared.Loaded.{Loaded}
use Rattle.lists.specs.Members
use Rattle.lists.specs.Members.{In}
use Rattle.lists.specs.First
use Rattle.lists.specs.Tests
use Rattle.laws.specs.Facts
use Rattle.laws.specs.Facts.{IsFile}
use Rattle.laws.specs.Places
use Rattle.laws.specs.Named
use Rattle.laws.specs.Others
use Rattle.laws.specs.Passed
use Rattle.promises_unread.specs.Statement.{stopped, Kinds, BytesAlike, EntryAlike, Outside, ReadAlike, Unread, EveryPlace, EverySeries, Apart, EveryCall}
use Rattle.promises_unread.specs.Statement.{EveryDisk}
use Rattle.promises_unread.specs.Statement.{EveryBack}
use Rattle.promises_unread.specs.Statement.{EveryPair, EveryLoad}
use Rattle.promises_unread.specs.Reads
use Rattle.promises_unread.specs.Reads.{unless, only}
use Rattle.promises_unread.specs.Stores
use Rattle.promises_unread.specs.Answers

-- The relation --------------------------------------------------------------------------------------------------------------------

bytes-series : (u : Kinds) (f f' f'' : ℕ → ℕ) → BytesAlike u f f' → BytesAlike u f' f'' → BytesAlike u f f''
bytes-series u f f' f'' a b = record {
  flags = a.flags ∙ b.flags;
  one = a.one ∙ b.one;
  low = λ k l h q. a.low k l h q ∙ b.low k l h (ap (λ (x : ℕ). u.extensions && bit 7 x) (sym a.flags) ∙ q);
  block = λ k h. a.block k h ∙ b.block k h;
  second = λ k h q. a.second k h q ∙ b.second k h
      (ap (λ (x : Bool). u.behind && x) (Reads.stopped-eq f' f k (λ j l. sym (a.block j (omega arith)))) ∙ q);
  marker = a.marker ∙ b.marker;
  link = λ q. a.link q ∙ b.link (ap (λ (x : ℕ). u.behind && not (eqb x 0xfe)) (sym a.marker) ∙ q);
}

entry-series : (u : Kinds) (f f' f'' : ℕ → ℕ) → EntryAlike u f f' → EntryAlike u f' f'' → EntryAlike u f f''
entry-series u f f' f'' a b = record {
  used = a.used ∙ b.used;
  bytes = λ q. bytes-series u f f' f'' (a.bytes q) (b.bytes (ap (λ (x : Bool). u.dead && not x) (sym a.used) ∙ q));
}

pub every-series : EverySeries
every-series u g d d' d'' a b =
    let slots : (s : ℕ) → T (is_slot g d s) → T (is_slot g d' s) = λ s t. subst (λ (f : ℕ → Bool). T (f s)) (Reads.is_slot-same u g d d' a) t in
    record {
      long = a.long ∙ b.long;
      rest = λ i o. a.rest i o ∙ b.rest i (was i o);
      gat = λ n h. a.gat n h ∙ b.gat n h;
      above = a.above ∙ b.above;
      hits = λ s t. a.hits s t ∙ b.hits s (slots s t);
      entries = λ s t. entry-series u _ _ _ (a.entries s t) (b.entries s (slots s t));
    }
  where
    was : (i : ℕ) → Outside g d i → Outside g d' i
    was i (inl h) = inl h
    was i (inr h) = inr (h.0, λ s t. h.1 s (subst (λ (f : ℕ → Bool). T (f s)) (sym (Reads.is_slot-same u g d d' a)) t))

module _ (u : Kinds) (g : Geometry) (d : List ℕ) (k : Places.Fits g d) where
  -- a store to a place of GAT or HIT that is not 1FH, after which the granules' bits and the slots' HIT bytes are as they were
  stored : (i v : ℕ) → 256 * g.start ≤ i → i < 256 * (g.start + 2) → i ≢ hit_at g 0x1f
      → ((n : ℕ) → n < granules g → taken g d n ≡ taken g (set d i v) n)
      → ((s : ℕ) → T (is_slot g d s) → i ≢ hit_at g s) → ReadAlike u g d (set d i v)
  unfolding hit field
  stored i v low high away bits slots = record {
    long = sym (length-set d i v);
    rest = λ j o. sym (get_or-set_other d i j v 0 (out j o));
    gat = bits;
    above = sym (get_or-set_other d i (hit_at g 0x1f) v 0 (λ q. away (sym q)));
    hits = λ s t. let n = slots s t in sym (get_or-set_other d i (hit_at g s) v 0 (λ q. n (sym q)));
    entries = λ s t. Reads.whole-alike u _ _ (λ j h. sym (get_or-set_other d i (entry_at g s + j) v 0 (omega arith)));
  }
    where
      out : (j : ℕ) → Outside g d j → j ≢ i
      out j (inl h) = omega arith
      out j (inr h) = let q = h.0 in omega arith

  -- at no granule's byte
  other : (i v : ℕ) → ((n : ℕ) → n < granules g → gat_at g n ≢ i) → (n : ℕ) → n < granules g → taken g d n ≡ taken g (set d i v) n
  unfolding taken
  other i v f n h = ap (bit (n % g.units)) (sym (get_or-set_other d i (gat_at g n) v 0 (f n h)))

  in-gat : (n : ℕ) → n < granules g → n / g.units < g.blocks
  in-gat n h = Places.block-lt g d n k h

  both_true : (b c : Bool) → b ≡ true → c ≡ true → (b && c) ≡ false → ⊥
  both_true b c e q z = Tests.not-both (ap (λ (x : Bool). x && c) e ∙ q) z

  put-here : (s j v : ℕ) → 0 ≡ j → entry_at g s + j < length d → field g (set d (entry_at g s + j) v) s 0 ≡ v
  unfolding field
  put-here s j v q h = ap (λ (i : ℕ). byte (set d (entry_at g s + j) v) (entry_at g s + i)) q ∙ get_or-set_same d (entry_at g s + j) v 0 h

  -- a store to byte j of a slot's entry, after which it is the same entry to whoever reads it
  entered : (s j v : ℕ) → T (is_slot g d s) → j < 32 → EntryAlike u (field g d s) (field g (set d (entry_at g s + j) v) s)
      → ReadAlike u g d (set d (entry_at g s + j) v)
  unfolding hit taken field
  entered s j v t l e = record {
    long = sym (length-set d at v);
    rest = λ i o. sym (get_or-set_other d at i v 0 (out i o));
    gat = λ n h. let q = in-gat n h in ap (bit (n % g.units)) (sym (get_or-set_other d at (gat_at g n) v 0 (let z = k.blocks-hi in omega arith)));
    above = sym (get_or-set_other d at (hit_at g 0x1f) v 0 (omega arith));
    hits = λ r w. let q = Places.slot g d r w in sym (get_or-set_other d at (hit_at g r) v 0 (omega (arith, q.low)));
    entries = λ r w. entry r w (ℕ_discrete r s);
  }
    where
      at : ℕ
      at = entry_at g s + j

      out : (i : ℕ) → Outside g d i → i ≢ entry_at g s + j
      out i (inl h) = omega arith
      out i (inr h) = by (h.1 s t)
        where
          by : (i < entry_at g s) ⊎ (entry_at g s + 32 ≤ i) → i ≢ entry_at g s + j
          by (inl q) = omega arith
          by (inr q) = omega arith

      entry : (r : ℕ) → T (is_slot g d r) → Dec (r ≡ s) → EntryAlike u (field g d r) (field g (set d (entry_at g s + j) v) r)
      entry r w (yes z) = subst (λ (y : ℕ). EntryAlike u (field g d y) (field g (set d (entry_at g s + j) v) y)) (sym z) e
      entry r w (no z) =
          Reads.whole-alike u _ _ (λ i h.
          sym (get_or-set_other d (entry_at g s + j) (entry_at g r + i) v 0 (apart i h (Stores.beside g d r s w t z i h))))
        where
          apart : (i : ℕ) → i < 32 → (entry_at g r + i < entry_at g s) ⊎ (entry_at g s + 32 ≤ entry_at g r + i) → entry_at g r + i ≢ entry_at g s + j
          apart i h (inl q) = omega arith
          apart i h (inr q) = omega arith

  -- the bytes of the entry but that one
  same_at : (s j v i : ℕ) → i ≢ j → field g d s i ≡ field g (set d (entry_at g s + j) v) s i
  unfolding field
  same_at s j v i n = sym (get_or-set_other d (entry_at g s + j) (entry_at g s + i) v 0 (λ q. n (omega arith)))

  -- a byte of those that no kind reads
  spare : (s j v : ℕ) → j ≢ 0 → j ≢ 1 → j ≢ 0x1e → ((i : ℕ) → i < 4 → j ≢ 0x16 + 2 * i)
      → (2 ≤ j → j < 0x16 → (u.extensions && bit 7 (field g d s 0)) ≡ false → ⊥)
      → ((i : ℕ) → i < 4 → j ≡ 0x17 + 2 * i → (u.behind && stopped (field g d s) i) ≡ false → ⊥)
      → (j ≡ 0x1f → (u.behind && not (eqb (field g d s 0x1e) 0xfe)) ≡ false → ⊥) → EntryAlike u (field g d s) (field g (set d (entry_at g s + j) v) s)
  spare s j v n₀ n₁ n₂ n₃ low second link = record {
    used = ap (bit 4) (same_at s j v 0 (λ q. n₀ (sym q)));
    bytes = λ z. record {
      flags = same_at s j v 0 (λ q. n₀ (sym q));
      one = same_at s j v 1 (λ q. n₁ (sym q));
      low = λ i a b q. same_at s j v i (λ e. low (omega arith) (omega arith) q);
      block = λ i h. let y = n₃ i h in same_at s j v (0x16 + 2 * i) (λ q. y (sym q));
      second = λ i h q. same_at s j v (0x17 + 2 * i) (λ e. second i h (sym e) q);
      marker = same_at s j v 0x1e (λ q. n₂ (sym q));
      link = λ q. same_at s j v 0x1f (λ e. link (sym e) q);
    };
  }

  -- a byte of a dead entry
  dead-byte : (s j v : ℕ) → T (is_slot g d s) → u.dead ≡ true → in_use g d s ≡ false → (j ≡ 0 → bit 4 v ≡ false)
      → EntryAlike u (field g d s) (field g (set d (entry_at g s + j) v) s)
  dead-byte s j v t x e f = record {
    used = go (ℕ_discrete j 0) (dec_lt (entry_at g s + j) (length d));
    bytes = λ q. absurd (both_true u.dead (not (in_use g d s)) x (ap not e) q);
  }
    where
      go : Dec (j ≡ 0) → Dec (entry_at g s + j < length d) → in_use g d s ≡ in_use g (set d (entry_at g s + j) v) s
      go (no n) l = ap (bit 4) (same_at s j v 0 (λ q. n (sym q)))
      go (yes z) (yes l) = e ∙ sym (ap (bit 4) (put-here s j v (sym z) l) ∙ f z)
      go (yes z) (no l) = ap (λ (y : List ℕ). in_use g y s) (sym (set_out d (entry_at g s + j) v (omega arith)))

  placed : (i v : ℕ) → Unread u g d i v → ReadAlike u g d (set d i v)
  unfolding taken
  placed _ _ (Unread.past_blocks b v l h) =
      stored (256 * g.start + b) v (omega arith) (omega arith) (omega arith)
      (other (256 * g.start + b) v (λ n m. let q = in-gat n m in omega arith)) (λ s t. omega arith)
  placed _ _ (Unread.past_units b v l e) =
      stored (256 * g.start + b) v (omega arith) (let q = k.blocks-hi in omega arith) (let q = k.blocks-hi in omega arith)
      (λ n m. bits n m (ℕ_discrete (gat_at g n) (256 * g.start + b)))
      (λ s t. let q = k.blocks-hi in omega arith)
    where
      i : ℕ
      i = 256 * g.start + b

      at : (n : ℕ) → Dec (i < length d) → digit (byte d i) (n % g.units) ≡ digit (byte (set d i v) i) (n % g.units)
      at n (yes h) = sym (ap (λ (x : ℕ). digit x (n % g.units)) (get_or-set_same d i v 0 h) ∙ e (n % g.units) (mod-lt n k.units-lo))
      at n (no h) = ap (λ (l : List ℕ). digit (byte l i) (n % g.units)) (sym (set_out d i v (omega arith)))

      bits : (n : ℕ) → n < granules g → Dec (gat_at g n ≡ i) → taken g d n ≡ taken g (set d i v) n
      bits n m (yes q) = rw q (ap (λ (x : ℕ). eqb x 1) (at n (dec_lt i (length d))))
      bits n m (no q) = ap (bit (n % g.units)) (sym (get_or-set_other d i (gat_at g n) v 0 q))
  placed _ _ (Unread.no_slot s v l n e) =
      stored (hit_at g s) v (omega arith) (omega arith) (λ q. n (omega arith))
      (other (hit_at g s) v (λ m h. let q = in-gat m h in let w = k.blocks-hi in omega arith))
      (λ t w q. Members.false-no {b = is_slot g d s} e (let z : t ≡ s = omega arith in subst (λ (x : ℕ). T (is_slot g d x)) z w))
  placed _ _ (Unread.of_extension s j v t x e l h) =
      entered s j v t (omega arith) (spare s j v (omega arith) (omega arith) (omega arith) (λ i q. omega arith)
      (λ a b q. both_true u.extensions (bit 7 (field g d s 0)) x e q) (λ i q z w. omega arith) (λ z w. omega arith))
  placed _ _ (Unread.behind_block s j v t x h e) =
      entered s (0x17 + 2 * j) v t (omega arith) (spare s (0x17 + 2 * j) v (omega arith) (omega arith) (omega arith) (λ i q. omega arith) (λ a b q. omega arith)
      (λ i q z w. both_true u.behind (stopped (field g d s) i) x
      (let y : i ≡ j = omega arith in subst (λ (n : ℕ). stopped (field g d s) n ≡ true) (sym y) e) w)
      (λ z w. omega arith))
  placed _ _ (Unread.behind_marker s v t x n) =
      entered s 0x1f v t (omega arith) (spare s 0x1f v (omega arith) (omega arith) (omega arith) (λ i q. omega arith) (λ a b q. omega arith)
      (λ i q z w. omega arith) (λ z w. both_true u.behind (not (eqb (field g d s 0x1e) 0xfe)) x (ap not (ne_eqb _ _ n)) w))
  placed _ _ (Unread.of_dead s j v t x e h f) = entered s j v t h (dead-byte s j v t x e f)

pub every-place : EveryPlace
every-place u g d f i v r = placed u g d (Places.fits g d (Members.true-T f)) i v r

-- Every call ----------------------------------------------------------------------------------------------------------------------

pub every_call : EveryCall
every_call u g d d' a checks = Reads.check-same u g d d' a
every_call u g d d' a (looks_up n) = Answers.look-up u g d d' a n
every_call u g d d' a (opens n len checking code) = Answers.open-same u g d d' a n len checking code
every_call u g d d' a (creates n f checking) = Answers.create-same u g d d' a n f checking
every_call u g d d' a (reads m x b) =
    (Answers.read_answer u g d d' a x (how_many m x.len b) b, Answers.read-buffer u g d d' a x (how_many m x.len b) b)
every_call u g d d' a (reads_sector x k) = Answers.read-sector u g d d' a x k
every_call u g d d' a (writes m w x b) = Answers.write_same u g d d' a w x (how_many m x.len b) b
every_call u g d d' a (allots x k) = Answers.allot-same u g d d' a x k
every_call u g d d' a (trims x) = Answers.trim_same u g d d' a x
every_call u g d d' a (kills x) = Answers.kill-same u g d d' a x
every_call u g d d' a (lists i) = Answers.list_same u g d d' a i
every_call u g d d' a counts = Answers.counts_same u g d d' a
every_call u g d d' a measures = Answers.free-space u g d d' a

pub every-disk : EveryDisk
every-disk u g d d' a = Reads.consistent-same u g d d' a

pub every_back : EveryBack
every_back u g d d' z a s = Answers.back-same u g d d' a z s

-- Compare -------------------------------------------------------------------------------------------------------------------------

-- what stands under a name on the one and on the other: the same file, but that a system file's bytes may differ
data FoundAlike : Found → Found → Type 0 where
  none : FoundAlike nothing nothing
  some' : {f f' : File} → f.attributes ≡ f'.attributes → (is_system f ≡ false → f ≡ f') → FoundAlike (found f) (found f')

module _ (u : Kinds) (g : Geometry) (d d' : List ℕ) (a : ReadAlike u g d d') (s : Passed.Served g d) where
  file-same : (p : ℕ) → IsFile g d p → FoundAlike (found (file_at g d p)) (found (file_at g d' p))
  unfolding file_at
  file-same p f = FoundAlike.some' attributes (λ (e : is_system (file_at g d p) ≡ false).
      let b = Answers.fetch-same u g d d' a s.sound (Places.fits g d s.fits) p f (inl e) 0 (size_of g d p) whole in
      (λ i. record {
        attributes = attributes i;
        granules = length (own i);
        bytes = (b ∙ ap (fetch g d' p 0) (Reads.file-size u g d d' a p f)) i;
      }))
    where
      whole : 0 + size_of g d p ≤ size_of g d p
      whole = omega arith

      own : owned g d p ≡ owned g d' p
      own = Reads.owned_at u g d d' a p (Reads.sound-chain u g d d' a s.sound p f)

      primary : extension g d p ≡ false
      primary = Reads.is-first u g d d' a p f

      attributes : map (field g d p) (0 ∷ 1 ∷ 2 ∷ 4 ∷ count 0x10 4) ≡ map (field g d' p) (0 ∷ 1 ∷ 2 ∷ 4 ∷ count 0x10 4)
      attributes =
          Members.map-eq (field g d p) (field g d' p) (0 ∷ 1 ∷ 2 ∷ 4 ∷ count 0x10 4)
          (λ k i. Reads.first-at u g d d' a p k (Reads.file-live u g d d' a p f) primary (Others.attribute-low k i))

  plain-same : (n : List ℕ) → FoundAlike (plain g d n) (plain g d' n)
  unfolding plain named found_in
  plain-same n =
      subst (λ (ps : List ℕ). FoundAlike (found_in g d (named g d n)) (found_in g d' ps)) (Answers.named-same u g d d' a n)
      (go (keep (carries g d n) (candidates g d n)) (λ x i. (Named.named_in g d n x i).0))
    where
      go : (xs : List ℕ) → ((x : ℕ) → In x xs → IsFile g d x) → FoundAlike (found_in g d (take 1 xs)) (found_in g d' (take 1 xs))
      go [] f = FoundAlike.none
      go (x ∷ xs) f = file-same x (f x Members.In.here)

names-eq : (f h : ℕ → List ℕ) (xs : List ℕ) → ((x : ℕ) → In x xs → f x ≡ h x) → map f xs ≡ map h xs
names-eq f h [] e = refl
names-eq f h (x ∷ xs) e = let p = e x Members.In.here in let q = names-eq f h xs (λ y j. e y (Members.In.there j)) in λ i. p i ∷ q i

names_same : (u : Kinds) (g : Geometry) (d d' : List ℕ) → ReadAlike u g d d' → names g d ≡ names g d'
unfolding names
names_same u g d d' a =
    names-eq (name_of g d) (name_of g d') (files g d) (λ p j. Reads.file-name u g d d' a p (Facts.files-in g d p j))
    ∙ (λ i. map (name_of g d') (Reads.files-same u g d d' a i))

difference-same : (n : List ℕ) {x x' y y' : Found} → FoundAlike x x' → FoundAlike y y' → difference n x y ≡ difference n x' y'
unfolding difference any
difference-same n FoundAlike.none FoundAlike.none = refl
difference-same n FoundAlike.none (FoundAlike.some' e h) = refl
difference-same n (FoundAlike.some' e h) FoundAlike.none = refl
difference-same n (FoundAlike.some' {f = f} {f' = f'} e h) (FoundAlike.some' {f = k} {f' = k'} q r) =
    unless (any (is_system f ∷ is_system k ∷ [])) (name_only n 0) (unlike n f k) (unlike n f' k') (λ z.
    let o = no_one (is_system f) (is_system k) z in λ i. unlike n (h o.0 i) (r o.1 i))
    ∙ (λ i. cond (any (bit 6 (get_or (e i) 0 0) ∷ bit 6 (get_or (q i) 0 0) ∷ [])) (name_only n 0) (unlike n f' k'))
  where
    no_one : (b c : Bool) → (b || (c || false)) ≡ false → (b ≡ false) × (c ≡ false)
    no_one false false z = (refl, refl)
    no_one false true z = Tests.not-both refl z
    no_one true c z = Tests.not-both refl z

module _ (u : Kinds) (g h : Geometry) (d d' e e' : List ℕ) (a : ReadAlike u g d d') (b : ReadAlike u h e e') where
  differences-same : Passed.Served g d → Passed.Served h e → differences g d h e ≡ differences g d' h e'
  unfolding differences merged
  differences-same s t =
      λ i. keep is_one (map (λ n. difference-same n (plain-same u g d d' a s n) (plain-same u h e e' b t n) i)
      (rising (names_same u g d d' a i ++ names_same u h e e' b i)))

  pair_same : (i : ℕ) → compare g d h e i ≡ compare g d' h e' i
  unfolding compare
  pair_same i =
      only (accepted (check g d).number) (tells_none (naming 1 (check g d))) _ _ (λ p.
      only (accepted (check h e).number) (tells_none (naming 2 (check h e))) _ _ (λ q.
      ap (λ (l : List Difference). tell_first (drop i l))
      (differences-same (Passed.check-passed g d (eqb→eq _ _ (Members.true-T p))) (Passed.check-passed h e (eqb→eq _ _ (Members.true-T q))))))
      ∙ (λ z. let c = Reads.check-same u g d d' a z in let c' = Reads.check-same u h e e' b z in
      cond (accepted c.number) (cond (accepted c'.number) (tell_first (drop i (differences g d' h e'))) (tells_none (naming 2 c')))
      (tells_none (naming 1 c)))

pub every-pair : EveryPair
every-pair u g h d d' e e' a b i = pair_same u g h d d' e e' a b i

-- Load record ---------------------------------------------------------------------------------------------------------------------

first-before : (cs ds : List (ℕ × Bool)) → (first cs ≡ 0 → ⊥) → first (cs ++ ds) ≡ first cs
unfolding first
first-before [] ds f = absurd (f refl)
first-before ((n, true) ∷ cs) ds f = refl
first-before ((n, false) ∷ cs) ds f = first-before cs ds f

-- the number of what stands in a file is 0 or above those of the disk, the handle and the level
load-high : (bs : List ℕ) (i n : ℕ) → n ≢ 0 → n < 31 → eqb n (record_from bs i).number ≡ false
unfolding record_from told_at item_at
load-high bs i n z l = ne_eqb n (record_from bs i).number (λ q. go (First.first-in (item_refusals bs (past bs (length bs) i))) q)
  where
    k : ℕ
    k = first (item_refusals bs (past bs (length bs) i))

    go : In k (0 ∷ First.numbers_of (item_refusals bs (past bs (length bs) i))) → n ≡ k → ⊥
    go j q = by (eqb k 0) refl (Members.every-all (λ m. eqb m 0 || leb 31 m) tt j)
      where
        by : (b : Bool) → eqb k 0 ≡ b → T (b || leb 31 k) → ⊥
        by true e t = z (q ∙ eqb→eq k 0 (Members.true-T e))
        by false e t = let w = lib.Dec.leb→le 31 k t in omega arith

module _ (u : Kinds) (g : Geometry) (d d' : List ℕ) (a : ReadAlike u g d d') (x : Handle) (b : List ℕ) (o : Apart g d x.slot) where
  abbrev range : Bool
  range = all (in_range g x ∷ leb most_bytes (length b) ∷ [])

  -- what is tested before the file
  abbrev before : List ℕ → List (ℕ × Bool)
  before e = handle_refusals g e x range (not_for_reading x ∷ [])

  before_same : first (before d) ≡ first (before d')
  before_same = λ i. first (Answers.handle_refusals-same u g d d' a i x range (not_for_reading x ∷ []))

  -- what is answered under the number n, of a file with these bytes
  abbrev answered : (ℕ → Rattle.meaning.specs.declared.Refusal.Refusal) → ℕ → List ℕ → Loaded × List ℕ
  answered c n bs =
      let r = record_from bs x.at in let yes' = accepted n in (
        record {
          refusal = c n;
          kind = cond yes' r.kind 0;
          address = cond yes' r.address 0;
          count = cond yes' r.count 0;
          position = cond (eqb n r.number) r.position 0;
          handle = cond yes' (moved_to x r.next) x;
        },
        cond yes' (take r.count (drop r.from bs) ++ drop r.count b) b,
      )

  -- a number below 31 is not the file's
  none-answered : (c : ℕ → Rattle.meaning.specs.declared.Refusal.Refusal) (n : ℕ) (bs bs' : List ℕ) → n ≢ 0 → n < 31 → answered c n bs ≡ answered c n bs'
  none-answered c n bs bs' z l = rw (load-high bs x.at n z l, load-high bs' x.at n z l, ne_eqb n 0 z) refl

  bytes_same : first (before d) ≡ 0 → bytes_of g d x.slot ≡ bytes_of g d' x.slot
  unfolding file_at
  bytes_same e =
      let p = Passed.disk-passed g d _ e in
      let p₁ = Passed.passed 12 _ _ (omega arith) p.1 in
      let f = Answers.fresh-file u g d d' a x (Passed.yes-T (fresh g d x) (Passed.passed 7 _ _ (omega arith) p₁.1).0) in
      Answers.fetch-same u g d d' a p.0.sound (Places.fits g d p.0.fits) x.slot f o 0 (size_of g d x.slot) (omega arith)
      ∙ ap (fetch g d' x.slot 0) (Reads.file-size u g d d' a x.slot f)

  load_same : load_record g d x b ≡ load_record g d' x b
  unfolding load_record
  load_same = go (ℕ_discrete (first (before d)) 0)
    where
      low : first (before d) < 31
      low = ltb→lt _ _ (Members.every-all (λ n. ltb n 31) tt (First.first-in (before d)))

      go : Dec (first (before d) ≡ 0) → load_record g d x b ≡ load_record g d' x b
      go (yes e) =
          λ i. let bs = bytes_same e i in
          answered (Answers.refusal-same u g d d' a i)
          (first (Answers.handle_refusals-same u g d d' a i x range (not_for_reading x ∷ by_number (record_from bs x.at).number load_numbers))) bs
      go (no e) =
          let n = first (before d) in
          let q : first (load_refusals g d x (length b)) ≡ n = first-before (before d) _ e in
          let q' : first (load_refusals g d' x (length b)) ≡ n = first-before (before d') _ (λ z. e (before_same ∙ z)) ∙ sym before_same in
          ap (λ (m : ℕ). answered (refusal g d) m (bytes_of g d x.slot)) q
          ∙ none-answered (refusal g d) n _ _ e low
          ∙ (λ i. answered (Answers.refusal-same u g d d' a i) n (bytes_of g d' x.slot))
          ∙ sym (ap (λ (m : ℕ). answered (refusal g d') m (bytes_of g d' x.slot)) q')

pub every-load : EveryLoad
every-load u g d d' a x b o = load_same u g d d' a x b o
