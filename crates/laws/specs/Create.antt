-- A new entry written into a free slot: what is left is a change of one file, born there
use Rattle.std.specs.Prelude.{◌≡◌, refl, ◌≢◌, ◌⊎◌, cond, get_or, set, replicate, T, eqb}
use Rattle.std.proofs.Math.Path.{ap, subst}
use Rattle.std.proofs.Common.{ap₂, sym, ◌∙◌, add-zero, length-set, length-append, eqb→eq}
use Rattle.std.proofs.Math.Logic.{inl, inr}
use Rattle.std.proofs.Math.Bool.{not}
use mathlib.Core.List.{List, [], ◌∷◌, ◌++◌, map}
use Prim.Native.Nat.{ℕ, zero, suc, ◌+◌, ◌-◌, ◌*◌, ◌/◌, ◌%◌, ◌≤◌, ◌<◌}
use native.Mathlib.Omega.{arith}
use Rattle.std.proofs.Math.Decide.{ℕ_discrete, dec_lt}
use Rattle.std.proofs.Math.ListN.{length, get_or-append}
use Rattle.std.proofs.Math.Seq.{get_or-set_same, get_or-set_other, length-sets, get_or-append-add}
use Rattle.std.proofs.lemmas.List.Edits.{sets}
use Rattle.meaning.specs.Lists.{count, through, first_or}
use Rattle.meaning.specs.Layout.{byte, is_slot, slots, taken, field, gat_at, hit_at, entry_at, granules, hit, directory_granules, granule_bytes, above_ten}
use Rattle.meaning.specs.Layout.{directory_sectors}
use Rattle.meaning.specs.Bits.{bit, digit}
use Rattle.meaning.specs.Names.{hash, well_formed}
use Rattle.meaning.specs.Entries.{in_use, extension, name_of, runs, runs_from, entry_granules, size_of}
use Rattle.meaning.specs.Chain.{chain, chain_from, owned}
use Rattle.meaning.specs.Free.{free_slots, free_granules, permitted, free_slot}
use Rattle.meaning.specs.Read
use Rattle.meaning.specs.Create.{new_entry}
use Rattle.meaning.specs.Plain.{file_at, born_as}
use Rattle.meaning.specs.declared.Geometry.{Geometry}
use Rattle.meaning.specs.declared.NewFile.{NewFile}
use Rattle.lists.specs.Members
use Rattle.lists.specs.Members.{In, Distinct}
use Rattle.laws.specs.Facts
use Rattle.laws.specs.Facts.{IsFile, Sound}
use Rattle.laws.specs.Entry
use Rattle.laws.specs.Frame
use Rattle.laws.specs.Frame.{Agree}
use Rattle.laws.specs.Places
use Rattle.laws.specs.Change
use Rattle.laws.specs.Change.{entries_of, granules_of}
use Rattle.laws.specs.Touch
use Rattle.laws.specs.Words.{words}

-- an entry of 32 bytes and its HIT byte written whole
unfoldable pub with_entry : Geometry → List ℕ → ℕ → List ℕ → ℕ → List ℕ
with_entry g d x es v = set (sets d (entry_at g x) es) (hit_at g x) v

module _ (g : Geometry) (d : List ℕ) (x : ℕ) (es : List ℕ) (v : ℕ) (len : length es ≡ 32) (s : Places.IsSlot g d x) where
  pub with_byte : (i : ℕ) → (i < entry_at g x) ⊎ (entry_at g x + 32 ≤ i) → i ≢ hit_at g x → byte (with_entry g d x es v) i ≡ byte d i
  unfolding with_entry
  with_byte i o n = get_or-set_other (sets d (entry_at g x) es) (hit_at g x) i v 0 n ∙ Places.sets-outside es d (entry_at g x) i (rw len o)

  pub with-field : (k : ℕ) → k < 32 → entry_at g x + 32 ≤ length d → field g (with_entry g d x es v) x k ≡ byte es k
  unfolding with_entry words
  with-field k b l =
      let h = s.low in
      get_or-set_other (sets d (entry_at g x) es) (hit_at g x) (entry_at g x + k) v 0 (omega arith) ∙ Places.sets-inside es d (entry_at g x) k (omega arith)
      (omega arith)

  pub with-hit : entry_at g x + 32 ≤ length d → hit g (with_entry g d x es v) x ≡ v
  unfolding with_entry words
  with-hit l = let h = s.low in get_or-set_same (sets d (entry_at g x) es) (hit_at g x) v 0 (rw length-sets (omega arith))

  pub with-agrees : (y : ℕ) → y < 256 → y ≢ x → Agree g d (with_entry g d x es v) y
  unfolding words
  with-agrees y h n k b = with_byte (entry_at g y + k) (go (dec_lt (entry_at g y + k) (entry_at g x))) (let q = s.low in omega arith)
    where
      go : Dec (entry_at g y + k < entry_at g x) → (entry_at g y + k < entry_at g x) ⊎ (entry_at g x + 32 ≤ entry_at g y + k)
      go (yes a) = inl a
      go (no a) = let q = s.low in inr (omega arith)

  pub with-hits : (y : ℕ) → y < 256 → y ≢ x → hit g (with_entry g d x es v) y ≡ hit g d y
  unfolding words
  with-hits y h n = with_byte (hit_at g y) (inl (omega arith)) (omega arith)

map_read : (n : List ℕ) (F : ℕ → ℕ) (i : ℕ) → ((j : ℕ) → j < length n → F (i + j) ≡ get_or n j 0) → map F (count i (length n)) ≡ n
map_read [] F i h = refl
map_read (x ∷ n) F i h =
    ap₂ (λ (a : ℕ) (l : List ℕ). a ∷ l) (rw add-zero at (h 0 (omega arith)))
    (map_read n F (i + 1) (λ j b. let e : i + 1 + j ≡ i + suc j = omega arith in rw e (h (suc j) (omega arith))))

pub hash-nonzero : (n : List ℕ) → hash n ≢ 0
unfolding hash
hash-nonzero n = go (through _ 0 n) (ℕ_discrete (through _ 0 n) 0)
  where
    go : (h : ℕ) → Dec (h ≡ 0) → cond (eqb h 0) 1 h ≢ 0
    go h (yes e) = rw e (λ q. omega arith)
    go h (no n) = rw (Members.no_false {b = eqb h 0} (λ t. n (eqb→eq h 0 t))) n

well-length : (n : List ℕ) → T (well_formed n) → length n ≡ 11
unfolding well_formed words
well-length n w = let a : T (eqb (length n) 11) = search (Members.and_l, Members.and_r) depth 6 in eqb→eq _ _ a

rest : NewFile → List ℕ
rest f = f.main % 256 ∷ f.main / 256 ∷ f.worker % 256 ∷ f.worker / 256 ∷ 0 ∷ 0 ∷ replicate 10 0xff

module _ (g : Geometry) (d : List ℕ) (n : List ℕ) (f : NewFile) (ln : length n ≡ 11) where
  new-length : length (new_entry n f) ≡ 32
  new-length = simp length-append (omega arith)

  new-name : (j : ℕ) → j < length n → byte (new_entry n f) (5 + j) ≡ get_or n j 0
  unfolding rest
  new-name j h =
      get_or-append-add (0x10 ∷ f.day ∷ (f.year * 16 + f.month) ∷ 0 ∷ f.len % 256 ∷ []) (n ++ rest f) j 0
      ∙ get_or-append n (rest f) 0 j h

  new-rest : (j : ℕ) → byte (new_entry n f) (16 + j) ≡ get_or (rest f) j 0
  unfolding rest
  new-rest j =
      let e : 16 + j ≡ 5 + (length n + j) = omega arith in
      rw e (get_or-append-add (0x10 ∷ f.day ∷ (f.year * 16 + f.month) ∷ 0 ∷ f.len % 256 ∷ []) (n ++ rest f) (length n + j) 0
      ∙ get_or-append-add n (rest f) j 0)

ff-from : (f : NewFile) (k : ℕ) → 6 ≤ k → k < 16 → get_or (rest f) k 0 ≡ 0xff
unfolding rest
ff-from f k a b = eqb→eq _ _ (Members.every-all (λ k. eqb (get_or (rest f) k 0) 0xff) {xs = count 6 10} tt (Members.in_count k 6 10 a (omega arith)))

module _ (g : Geometry) (d : List ℕ) (c : Sound g d) (k : Places.Fits g d) (x : ℕ) (t : T (is_slot g d x)) (z : hit g d x ≡ 0)
    (n : List ℕ) (w : T (well_formed n)) (f : NewFile) (free : (q : ℕ) → IsFile g d q → name_of g d q ≢ n) where
  ln : length n ≡ 11
  ln = well-length n w

  s : Places.IsSlot g d x
  s = Places.slot g d x t

  unfoldable pub made : List ℕ
  made = with_entry g d x (new_entry n f) (hash n)

  room : entry_at g x + 32 ≤ length d
  room = let a = Places.dir g d c.dir in let b = Places.slot g d x t in omega (arith, k.long)

  fields : (j : ℕ) → j < 32 → field g made x j ≡ byte (new_entry n f) j
  unfolding made
  fields j h = with-field g d x (new_entry n f) (hash n) (new-length g d n f ln) s j h room

  ffs : (j : ℕ) → 0x16 ≤ j → j < 32 → field g made x j ≡ 0xff
  ffs j a b =
      let m = j - 16 in
      let e : j ≡ 16 + (j - 16) = omega arith in
      fields j b ∙ ap (byte (new_entry n f)) e ∙ new-rest g d n f ln (j - 16) ∙ ff-from f (j - 16) (omega arith) (omega arith)

  made-used : T (in_use g made x)
  unfolding digit
  made-used = rw (fields 0 (omega arith)) tt

  made-first : T (not (extension g made x))
  unfolding digit
  made-first = rw (fields 0 (omega arith)) tt

  made-above : above_ten g made ≡ above_ten g d
  unfolding made words
  made-above = let a = Places.dir g d c.dir in let b = s.sector in
      with_byte g d x (new_entry n f) (hash n) (new-length g d n f ln) s (hit_at g 31) (inl (omega arith)) (omega arith)

  pub made-file : IsFile g made x
  made-file = record { slot = rw (Frame.slot-eq g d made made-above x) t; primary' = Members.and_i (in_use g made x) _ made-used made-first }

  made-taken : (m : ℕ) → m < granules g → taken g made m ≡ taken g d m
  unfolding made words
  made-taken m h =
      let b = Places.block-lt g d m k h in let e = k.blocks-hi in
      ap (λ (y : ℕ). bit (m % g.units) y) (with_byte g d x (new_entry n f) (hash n) (new-length g d n f ln) s (gat_at g m) (inl (omega arith)) (omega arith))

  pub made-same : (i : ℕ) → (In (i / granule_bytes g) (directory_granules g d) → ⊥) → byte made i ≡ byte d i
  unfolding made
  made-same i o = go (Places.outside g d i k.start-at (Places.dir g d c.dir) o)
    where
      go : (i < 256 * g.start) ⊎ (256 * (g.start + directory_sectors g d) ≤ i) → byte made i ≡ byte d i
      go (inl h) = with_byte g d x (new_entry n f) (hash n) (new-length g d n f ln) s i (inl (omega arith)) (omega arith)
      go (inr h) = let b = s.sector in let q = s.low in
          with_byte g d x (new_entry n f) (hash n) (new-length g d n f ln) s i (inr (omega arith)) (omega arith)

  pub no-file : IsFile g d x → ⊥
  no-file h = Change.used-hit g d c x t (Facts.file-in-use g d x h) z

  no-entry : {A : Type 0} (y : ℕ) → In y (entries_of g d x) → A
  no-entry y i = absurd (no-file (Change.entries-in g d x y i).0)

  no-granule : {A : Type 0} (m : ℕ) → In m (granules_of g d x) → A
  no-granule m i = absurd (no-file (Change.granules-in g d x m i).0)

  made-chain : chain g made x ≡ x ∷ []
  unfolding chain chain_from
  made-chain = go (length (slots g made)) (Change.in-length (Facts.in-slots g made x made-file.slot))
    where
      go : (m : ℕ) → 1 ≤ m → chain_from g made m x ≡ x ∷ []
      go zero h = absurd (omega arith)
      go (suc m) h = rw (ffs 0x1e (omega arith) (omega arith))

  pub made-touch : Touch.Touch g (chain g made x) [] d made
  unfolding made with_entry
  made-touch = subst (λ (xs : List ℕ). Touch.Touch g xs [] d made) (sym made-chain)
      (Touch.Touch.hits x (hash n) Members.In.here (Touch.touch-whole g (x ∷ []) [] d x (new_entry n f) Members.In.here (omega (arith, new-length g d n f ln))
      Touch.Touch.none))

  made-runs : runs g made x ≡ 0
  unfolding runs runs_from
  made-runs = rw (ffs 0x16 (omega arith) (omega arith))

  made-granules : entry_granules g made x ≡ []
  unfolding entry_granules
  made-granules = rw made-runs

  made-owned : owned g made x ≡ []
  unfolding owned
  made-owned = rw (made-chain, made-granules)

  pub made-name : name_of g made x ≡ n
  unfolding name_of
  made-name = ap (λ (m : ℕ). map (field g made x) (count 5 m)) (sym ln) ∙ map_read n (field g made x) 5
      (λ j h. fields (5 + j) (omega (arith, ln)) ∙ new-name g d n f ln j h)

  in-chain : (y : ℕ) → In y (chain g made x) → y ≡ x
  in-chain y i = go (Members.in-cons (rw made-chain at i))
    where
      go : (y ≡ x) ⊎ In y [] → y ≡ x
      go (inl e) = e
      go (inr j) = Members.none_in j

  made-entry : Entry.Entry g made x
  made-entry = record {
    pairs = λ j h l. ffs (0x16 + 2 * j) (omega arith) (omega arith);
    linked = inl (ffs 0x1e (omega arith) (omega arith));
    run = λ j h. absurd (omega (arith, made-runs));
    gat = λ m i. Members.none_in (rw made-granules at i);
  }

  made-size : size_of g made x ≡ 0
  unfolding rest words
  made-size = rw (fields 3 (omega arith), fields 0x14 (omega arith), fields 0x15 (omega arith), new-rest g d n f ln 4, new-rest g d n f ln 5)

  made-hit : hit g made x ≡ hash n
  unfolding made
  made-hit = with-hit g d x (new_entry n f) (hash n) (new-length g d n f ln) s room

  made-filed : Entry.Filed g made x
  unfolding digit
  made-filed = record {
    name = rw made-name w;
    zero' = rw (fields 0 (omega arith)) tt;
    hashes = λ y i. rw (in-chain y i, made-name) made-hit;
    count' = λ e. fields 3 (omega arith);
    fits = rw made-size (omega arith);
    off = λ u m i. Members.none_in (rw made-owned at i);
  }

  made-own : Change.Own g d made x
  made-own = record {
    slots' = λ y i. rw (in-chain y i) made-file.slot;
    used = λ y i. rw (in-chain y i) made-used;
    later = λ y i e. absurd (e (in-chain y i));
    entry = λ y i. rw (in-chain y i) made-entry;
    filed = made-filed;
    once = rw made-chain (Members.Distinct.fresh (λ i. Members.none_in i) Members.Distinct.done);
    single = rw made-owned Members.Distinct.done;
    name = λ q h e. rw made-name (free q h);
  }

  other : (y : ℕ) → (In y (entries_of g made x) → ⊥) → y ≢ x
  other y h e = h (rw (Change.entries_of-is g made x made-file, made-chain) (Members.head_in [] e))

  pub made-change : Change.Change g d made x
  unfolding made
  made-change = record {
    above = made-above;
    agrees = λ y u a b. with-agrees g d x (new_entry n f) (hash n) (new-length g d n f ln) s y (Facts.slot_lt g d y u) (other y b);
    hits = λ y u a b. with-hits g d x (new_entry n f) (hash n) (new-length g d n f ln) s y (Facts.slot_lt g d y u) (other y b);
    gone = λ y i. no-entry y i;
    unhit = λ y i. no-entry y i;
    born = λ y i a u. Change.used-hit g d c x t (rw (in-chain y (Change.entries-in g made x y i).1) at u) z;
    nonzero = λ y i. rw (in-chain y (Change.entries-in g made x y i).1, made-hit) (hash-nonzero n);
    keeps = λ m h a b. made-taken m h;
    freed = λ m i. no-granule m i;
    fresh = λ m i. Members.none_in (rw made-owned at (Change.granules-in g made x m i).1);
    off = λ m i. no-granule m i;
    own = λ h. made-own;
  }

  pub made-born : file_at g made x ≡ born_as f
  unfolding file_at born_as rest words
  made-born = λ i. record {
    attributes = born i;
    granules = ap length made-owned i;
    bytes = ap (λ (m : ℕ). Read.fetch g made x 0 m) made-size i;
  }
    where
      born : map (field g made x) (0 ∷ 1 ∷ 2 ∷ 4 ∷ count 0x10 4) ≡ 0x10 ∷ f.day ∷ (f.year * 16 + f.month) ∷ f.len % 256
          ∷ f.main % 256 ∷ f.main / 256 ∷ f.worker % 256 ∷ f.worker / 256 ∷ []
      born = rw (
        fields 0 (omega arith),
        fields 1 (omega arith),
        fields 2 (omega arith),
        fields 4 (omega arith),
        fields 16 (omega arith),
        fields 17 (omega arith),
        fields 18 (omega arith),
        fields 19 (omega arith),
        new-rest g d n f ln 0,
        new-rest g d n f ln 1,
        new-rest g d n f ln 2,
        new-rest g d n f ln 3,
      )

  pub free_stays : free_granules g made ≡ free_granules g d
  unfolding free_granules
  free_stays = Members.keep-eq _ _ (count 0 (granules g)) (λ m i. ap not (made-taken m (omega (arith, Members.count-in m 0 (granules g) i))))

pub made-length : (g : Geometry) (d : List ℕ) (c : Sound g d) (k : Places.Fits g d) (x : ℕ) (t : T (is_slot g d x)) (z : hit g d x ≡ 0)
    (n : List ℕ) (w : T (well_formed n)) (f : NewFile) (free : (q : ℕ) → IsFile g d q → name_of g d q ≢ n)
    → length (made g d c k x t z n w f free) ≡ length d
unfolding made with_entry
made-length g d c k x t z n w f free = simp (length-set, length-sets)

pub first-in : (xs : List ℕ) → (T (eqb (length xs) 0) → ⊥) → In (first_or 0 xs) xs
unfolding first_or
first-in [] h = absurd (h tt)
first-in (x ∷ xs) h = Members.In.here

pub slots-free : (g : Geometry) (d : List ℕ) (x : ℕ) → In x (free_slots g d) → T (is_slot g d x) × (hit g d x ≡ 0)
unfolding free_slots words
slots-free g d x i =
    let a = (Members.keep-in (free_slot g d) x (count 0 256) i).1 in
    (Members.and_l (is_slot g d x) _ (Members.and_l (permitted g d x) _ a), eqb→eq _ _ (Members.all-second (permitted g d x) (eqb (hit g d x) 0) a))
