-- Case 3 of one granule taken: a new extension
use Rattle.std.specs.Prelude.{◌≡◌, ◌≢◌, ◌⊎◌, List, ℕ, ◌+◌, ◌*◌, ◌/◌, ◌%◌, ◌≤◌, ◌<◌, length, get_or, T, eqb}
use Rattle.std.proofs.Math.Path.{refl, ap}
use Rattle.std.proofs.Common.{◌∙◌, inl, inr, eqb→eq}
use native.Mathlib.Omega.{arith}
use Rattle.std.proofs.Math.Decide.{dec_lt}
use Rattle.std.proofs.Math.ListN.{length-set}
use Rattle.std.proofs.Math.Seq.{get_or-set_same, get_or-set_other, length-sets}
use Rattle.meaning.specs.Lists.{count}
use Rattle.meaning.specs.Layout.{byte, is_slot, taken, field, set_field, gat_at, hit_at, entry_at, granules, hit, directory_granules, directory_sectors}
use Rattle.meaning.specs.Layout.{granule_bytes, above_ten, most_blocks}
use Rattle.meaning.specs.Bits.{bit}
use Rattle.meaning.specs.Entries.{marker, link, runs}
use Rattle.meaning.specs.Growth.{tail, with_pair, with_extension, new_extension}
use Rattle.meaning.specs.declared.Geometry.{Geometry}
use Rattle.lists.specs.Members
use Rattle.lists.specs.Members.{In}
use Rattle.laws.specs.Facts.{Sound, IsFile}
use Rattle.laws.specs.Places
use Rattle.laws.specs.Change
use Rattle.laws.specs.Create
use Rattle.laws.specs.Take
use Rattle.laws.specs.Extend
use Rattle.laws.specs.Words.{words}

new-ffs : (g : Geometry) (p e k : ℕ) → 0x16 ≤ k → k < 32 → get_or (new_extension e) k 0 ≡ 0xff
new-ffs g p e k a b = eqb→eq _ _
    (Members.every-all (λ k. eqb (get_or (new_extension e) k 0) 0xff) {xs = count 0x16 10} tt (Members.in_count k 0x16 10 a (omega arith)))

module _ (g : Geometry) (d : List ℕ) (c : Sound g d) (k : Places.Fits g d) (p : ℕ) (f : IsFile g d p) (x : ℕ) (t : T (is_slot g d x)) (z : hit g d x ≡ 0)
    (n : ℕ) (full : runs g d (tail g p d) ≡ 4) (inn : n < granules g) (untaken : T (taken g d n) → ⊥) where
  abbrev e : ℕ
  e = tail g p d

  abbrev L : List ℕ
  L = set_field g (set_field g d e 0x1e 0xfe) e 0x1f x

  abbrev H : List ℕ
  H = with_extension g p d e x

  abbrev Q : List ℕ
  Q = Take.paired g H x 0 (n / g.units) (n % g.units * 32)

  abbrev d' : List ℕ
  d' = with_pair g H x 0 n

  member : Change.Member g d p e
  member = Change.members g d c p e f (Change.tail-in g d c p f)

  se : Places.IsSlot g d e
  se = Places.slot g d e member.slot

  sx : Places.IsSlot g d x
  sx = Places.slot g d x t

  a10 : Places.Dir g d
  a10 = Places.dir g d c.dir

  e≢x : e ≢ x
  e≢x q = Change.used-hit g d c e member.slot member.used (rw q z)

  block-n : n / g.units < most_blocks
  block-n = omega (arith, Places.block-lt g d n k inn, k.blocks-hi)

  L-byte : (i : ℕ) → i ≢ entry_at g e + 0x1e → i ≢ entry_at g e + 0x1f → byte L i ≡ byte d i
  unfolding words
  L-byte i a b = simp get_or-set_other

  L-length : length L ≡ length d
  unfolding words
  L-length = simp length-set

  L-above : above_ten g L ≡ above_ten g d
  L-above = L-byte (hit_at g 31) (omega arith) (omega arith)

  sl : Places.IsSlot g L x
  unfolding words
  sl = record { low = sx.low; sector = rw L-above sx.sector }

  H-is : H ≡ Create.with_entry g L x (new_extension e) (hit g d p)
  unfolding Create.with_entry
  H-is = refl

  H-length : length H ≡ length d
  unfolding words
  H-length = simp (length-sets, length-set)

  H-byte : (i : ℕ) → (i < entry_at g x) ⊎ (entry_at g x + 32 ≤ i) → i ≢ hit_at g x → i ≢ entry_at g e + 0x1e → i ≢ entry_at g e + 0x1f → byte H i ≡ byte d i
  H-byte i o a b w = rw H-is (Create.with_byte g L x (new_extension e) (hit g d p) refl sl i o a ∙ L-byte i b w)

  new-byte : (i : ℕ) → i ≢ gat_at g n → (i < entry_at g x) ⊎ (entry_at g x + 32 ≤ i) → byte d' i ≡ byte H i
  unfolding words
  new-byte i q o = get_or-set_other Q (gat_at g n) i _ 0 q ∙ Take.paired-out g H x 0 (n / g.units) (n % g.units * 32) i (out o 0x16 (omega arith))
      (out o 0x17 (omega arith))
    where
      out : (i < entry_at g x) ⊎ (entry_at g x + 32 ≤ i) → (j : ℕ) → j < 32 → i ≢ entry_at g x + j
      out (inl h) j b = omega arith
      out (inr h) j b = omega arith

  ext-byte : (i : ℕ) → i ≢ gat_at g n → (i < entry_at g x) ⊎ (entry_at g x + 32 ≤ i) → i ≢ hit_at g x → i ≢ entry_at g e + 0x1e → i ≢ entry_at g e + 0x1f
      → byte d' i ≡ byte d i
  ext-byte i q o a b w = new-byte i q o ∙ H-byte i o a b w

  room : entry_at g x + 32 ≤ length d
  room = let a = a10 in let b = sx in omega (arith, k.long)

  room-e : entry_at g e + 32 ≤ length d
  room-e = let a = a10 in let b = se in omega (arith, k.long)

  -- another entry lies outside
  apart : (y j : ℕ) → y < 256 → y ≢ x → j < 32 → (entry_at g y + j < entry_at g x) ⊎ (entry_at g x + 32 ≤ entry_at g y + j)
  apart y j h q b = go (dec_lt (entry_at g y + j) (entry_at g x))
    where
      go : Dec (entry_at g y + j < entry_at g x) → (entry_at g y + j < entry_at g x) ⊎ (entry_at g x + 32 ≤ entry_at g y + j)
      go (yes a) = inl a
      go (no a) = let w = sx.low in inr (omega arith)

  other-field : (y j : ℕ) → y < 256 → y ≢ x → j < 32 → entry_at g y + j ≢ entry_at g e + 0x1e → entry_at g y + j ≢ entry_at g e + 0x1f
      → field g d' y j ≡ field g d y j
  unfolding words
  other-field y j h q b u v = let w = block-n in let s = sx.low in ext-byte (entry_at g y + j) (omega arith) (apart y j h q b) (omega arith) u v

  -- the new entry
  new-field : (j : ℕ) → j < 32 → j ≢ 0x16 → j ≢ 0x17 → field g d' x j ≡ byte (new_extension e) j
  unfolding words
  new-field j b u v =
      let w = block-n in let s = sx.low in
      get_or-set_other Q (gat_at g n) (entry_at g x + j) _ 0 (omega arith)
      ∙ Take.paired-out g H x 0 (n / g.units) (n % g.units * 32) (entry_at g x + j) (omega arith) (omega arith)
      ∙ rw H-is (Create.with-field g L x (new_extension e) (hit g d p) refl sl j b (rw L-length room))

  inside-pair : entry_at g x + (0x17 + 2 * 0) < length H
  inside-pair = rw H-length (omega (arith, room))

  new-first : field g d' x 0x16 ≡ n / g.units
  unfolding words
  new-first = let w = block-n in
      get_or-set_other Q (gat_at g n) (entry_at g x + 0x16) _ 0 (omega arith) ∙ Take.paired-first g H x 0 (n / g.units) (n % g.units * 32) inside-pair

  new-second : field g d' x 0x17 ≡ n % g.units * 32
  unfolding words
  new-second = let w = block-n in
      get_or-set_other Q (gat_at g n) (entry_at g x + 0x17) _ 0 (omega arith) ∙ Take.paired-second g H x 0 (n / g.units) (n % g.units * 32) inside-pair

  new-hit : hit g d' x ≡ hit g d p
  unfolding words
  new-hit =
      let w = block-n in let s = sx.low in
      new-byte (hit_at g x) (omega arith) (inl (omega arith)) ∙ rw H-is (Create.with-hit g L x (new_extension e) (hit g d p) refl sl (rw L-length room))

  other-hit : (y : ℕ) → T (is_slot g d y) → y ≢ x → hit g d' y ≡ hit g d y
  unfolding words
  other-hit y u q = let w = block-n in let s = (Places.slot g d y u).low in
      ext-byte (hit_at g y) (omega arith) (inl (omega arith)) (omega arith) (omega arith) (omega arith)

  link-byte : (j : ℕ) → j < 32 → byte d' (entry_at g e + j) ≡ byte L (entry_at g e + j)
  link-byte j b =
      let w = block-n in let s = sx.low in let r = se.low in
      new-byte (entry_at g e + j) (omega arith) (apart e j r e≢x b)
      ∙ rw H-is (Create.with_byte g L x (new_extension e) (hit g d p) refl sl (entry_at g e + j) (apart e j r e≢x b) (omega arith))

  new-marker : marker g d' e ≡ 0xfe
  unfolding words
  new-marker = link-byte 0x1e (omega arith)
      ∙ get_or-set_other (set_field g d e 0x1e 0xfe) (entry_at g e + 0x1f) (entry_at g e + 0x1e) x 0 (omega arith)
      ∙ get_or-set_same d (entry_at g e + 0x1e) 0xfe 0 (omega (arith, room-e))

  new-link : link g d' e ≡ x
  unfolding words
  new-link = link-byte 0x1f (omega arith) ∙ get_or-set_same (set_field g d e 0x1e 0xfe) (entry_at g e + 0x1f) x 0 (rw length-set (omega (arith, room-e)))

  gat-byte : (m : ℕ) → m < granules g → byte Q (gat_at g m) ≡ byte d (gat_at g m)
  gat-byte m h =
      let b = Places.block-lt g d m k h in let w = k.blocks-hi in let s = sx.low in
      Take.paired-out g H x 0 (n / g.units) (n % g.units * 32) (gat_at g m) (omega arith) (omega arith) ∙ H-byte (gat_at g m) (inl (omega arith))
      (omega arith) (omega arith) (omega arith)

  Q-length : length Q ≡ length d
  Q-length = Take.paired-length g H x 0 (n / g.units) (n % g.units * 32) ∙ H-length

  ext_same : (i : ℕ) → (In (i / granule_bytes g) (directory_granules g d) → ⊥) → byte d' i ≡ byte d i
  ext_same i o = go (Places.outside g d i k.start-at a10 o)
    where
      go : (i < 256 * g.start) ⊎ (256 * (g.start + directory_sectors g d) ≤ i) → byte d' i ≡ byte d i
      go (inl h) = ext-byte i (omega arith) (inl (omega arith)) (omega arith) (omega arith) (omega arith)
      go (inr h) = let b = sx in let q = se in let w = block-n in ext-byte i (omega arith) (inr (omega arith)) (omega arith) (omega arith) (omega arith)

  pub new-extends : Extend.Extends g d (with_pair g (with_extension g p d (tail g p d) x) x 0 n) p x n
  unfolding words
  new-extends = record {
    above = let w = block-n in let s = sx in let a = a10 in ext-byte (hit_at g 31) (omega arith) (inl (omega arith)) (omega arith) (omega arith) (omega arith);
    slot = t;
    unused = z;
    full = full;
    agrees = λ y u q v j b. let s = (Places.slot g d y u).low in let r = se.low in other-field y j s v b (omega arith) (omega arith);
    hits = other-hit;
    hit-new = new-hit;
    fixed = λ j b. other-field e j se.low e≢x (omega arith) (omega arith) (omega arith);
    marked = new-marker;
    linked = new-link;
    flags = new-field 0 (omega arith) (omega arith) (omega arith);
    before = new-field 1 (omega arith) (omega arith) (omega arith);
    first = new-first;
    second = new-second;
    ffs = λ j a b. new-field j b (omega arith) (omega arith) ∙ new-ffs g p e j (omega arith) b;
    units = k.units-lo;
    small = block-n;
    inside = inn;
    free = untaken;
    set' = let a = a10 in let w = block-n in rw (Places.marked-same g 1 (omega arith) Q n (omega (arith, k.long, Q-length))) tt;
    keeps = λ m h q. Places.marked_other g 1 (omega arith) Q n m q ∙ ap (λ (y : ℕ). bit (m % g.units) y) (gat-byte m h);
    same = ext_same;
  }
