-- One granule less: all three cases, and trim
use Rattle.std.specs.Prelude.{◌≡◌, ◌≢◌, ◌⊎◌, not, ◌&&◌, List, [], ◌∷◌, ℕ, ◌+◌, ◌-◌, ◌*◌, ◌/◌, ◌%◌, ◌≤◌, ◌<◌, length, set, ltb}
use Rattle.std.proofs.Math.Path.{refl, ap, subst}
use Rattle.std.proofs.Common.{sym, ◌∙◌, inl, inr, arith, eqb→eq, ltb→lt, nltb→le}
use Rattle.std.proofs.Math.ListN.{length-set}
use Rattle.std.proofs.Math.Seq.{get_or-set_same, get_or-set_other}
use Rattle.std.proofs.Math.Dec.{T, eqb, T_not, not_T}
use Rattle.meaning.specs.Layout.{byte, is_slot, free_granule, field, set_field, gat_at, hit_at, entry_at, granules, hit, directory_granules, directory_sectors}
use Rattle.meaning.specs.Layout.{granule_bytes, most_blocks}
use Rattle.lists.specs.Sizes
use Rattle.meaning.specs.Bits.{bit, digit}
use Rattle.meaning.specs.Entries.{in_use, extension, system, marker, link, runs, run_start, run_length, entry_granules, size_of}
use Rattle.meaning.specs.Chain.{chain, owned}
use Rattle.meaning.specs.Growth.{tail}
use Rattle.meaning.specs.Drop.{unhooked, drop_one}
use Rattle.meaning.specs.declared.Geometry.{Geometry}
use Rattle.lists.specs.Members
use Rattle.lists.specs.Members.{In}
use Rattle.laws.specs.Facts
use Rattle.laws.specs.Facts.{Sound, IsFile}
use Rattle.laws.specs.Entry
use Rattle.laws.specs.Places
use Rattle.laws.specs.Change
use Rattle.laws.specs.Take
use Rattle.laws.specs.Shorter
use Rattle.laws.specs.Shrink
use Rattle.laws.specs.AtTail
use Rattle.laws.specs.Drop
use Rattle.laws.specs.Unhook
use Rattle.laws.specs.Touch
use Rattle.laws.specs.Words.{words}

-- Case 3: an emptied extension
module _ (g : Geometry) (d : List ℕ) (c : Sound g d) (k : Places.Fits g d) (p : ℕ) (f : IsFile g d p)
    (size : size_of g d p + granule_bytes g ≤ granule_bytes g * length (owned g d p))
    (later : tail g p d ≢ p) (one : runs g d (tail g p d) ≡ 1) (single : run_length g d (tail g p d) 0 ≡ 1) (b : ℕ) (back : field g d (tail g p d) 1 ≡ b)
    (tb : T (is_slot g d b)) (b≢e : b ≢ tail g p d) where
  abbrev e : ℕ
  e = tail g p d

  abbrev m : ℕ
  m = run_start g d e 0 + run_length g d e 0 - 1

  abbrev q₁ : List ℕ
  q₁ = Take.paired g d e 0 0xff 0xff

  abbrev q₂ : List ℕ
  q₂ = set (set_field g q₁ e 0 0x80) (hit_at g e) 0

  abbrev q₃ : List ℕ
  q₃ = set_field g (set_field g q₂ e 0x1e 0xff) e 0x1f 0xff

  abbrev q₄ : List ℕ
  q₄ = set_field g (set_field g q₃ b 0x1e 0xff) b 0x1f 0xff

  abbrev d' : List ℕ
  d' = free_granule g q₄ m

  member : Change.Member g d p e
  member = Change.members g d c p e f (Change.tail-in g d c p f)

  entry : Entry.Entry g d e
  entry = Change.entry-at g d c e member.slot member.used

  se : Places.IsSlot g d e
  se = Places.slot g d e member.slot

  sb : Places.IsSlot g d b
  sb = Places.slot g d b tb

  a10 : Places.Dir g d
  a10 = Places.dir g d c.dir

  m-lt : m < granules g
  m-lt = omega (arith, (entry.run 0 (omega (arith, one))).inside)

  block-m : m / g.units < most_blocks
  block-m = omega (arith, Places.block-lt g d m k m-lt, k.blocks-hi)

  room : entry_at g e + 32 ≤ length d
  room = let a = a10 in let q = se in omega (arith, k.long)

  room-b : entry_at g b + 32 ≤ length d
  room-b = let a = a10 in let q = sb in omega (arith, k.long)

  -- outside entry e, its HIT byte and two bytes of entry b
  q₄-byte : (i : ℕ) → ((j : ℕ) → j < 32 → i ≢ entry_at g e + j) → i ≢ hit_at g e → i ≢ entry_at g b + 0x1e → i ≢ entry_at g b + 0x1f → byte q₄ i ≡ byte d i
  unfolding words
  q₄-byte i o a u v =
      get_or-set_other (set_field g q₃ b 0x1e 0xff) (entry_at g b + 0x1f) i 0xff 0 v
      ∙ get_or-set_other q₃ (entry_at g b + 0x1e) i 0xff 0 u
      ∙ get_or-set_other (set_field g q₂ e 0x1e 0xff) (entry_at g e + 0x1f) i 0xff 0 (o 0x1f (omega arith))
      ∙ get_or-set_other q₂ (entry_at g e + 0x1e) i 0xff 0 (o 0x1e (omega arith))
      ∙ get_or-set_other (set_field g q₁ e 0 0x80) (hit_at g e) i 0 0 a
      ∙ get_or-set_other q₁ (entry_at g e + 0) i 0x80 0 (o 0 (omega arith))
      ∙ Take.paired-out g d e 0 0xff 0xff i (o 0x16 (omega arith)) (o 0x17 (omega arith))

  q₄-length : length q₄ ≡ length d
  unfolding words
  q₄-length = simp length-set

  cut-byte : (i : ℕ) → i ≢ gat_at g m → ((j : ℕ) → j < 32 → i ≢ entry_at g e + j) → i ≢ hit_at g e → i ≢ entry_at g b + 0x1e → i ≢ entry_at g b + 0x1f
      → byte d' i ≡ byte d i
  unfolding words
  cut-byte i z o a u v = get_or-set_other q₄ (gat_at g m) i _ 0 z ∙ q₄-byte i o a u v

  dead-flag : field g d' e 0 ≡ 0x80
  unfolding words
  dead-flag =
      let w = block-m in let s = se.low in let r = sb.low in
      get_or-set_other q₄ (gat_at g m) (entry_at g e + 0) _ 0 (omega arith)
      ∙ get_or-set_other (set_field g q₃ b 0x1e 0xff) (entry_at g b + 0x1f) (entry_at g e + 0) 0xff 0 (omega arith)
      ∙ get_or-set_other q₃ (entry_at g b + 0x1e) (entry_at g e + 0) 0xff 0 (omega arith)
      ∙ get_or-set_other (set_field g q₂ e 0x1e 0xff) (entry_at g e + 0x1f) (entry_at g e + 0) 0xff 0 (omega arith)
      ∙ get_or-set_other q₂ (entry_at g e + 0x1e) (entry_at g e + 0) 0xff 0 (omega arith)
      ∙ get_or-set_other (set_field g q₁ e 0 0x80) (hit_at g e) (entry_at g e + 0) 0 0 (omega arith)
      ∙ get_or-set_same q₁ (entry_at g e + 0) 0x80 0 (rw (Take.paired-length g d e 0 0xff 0xff) (omega (arith, room)))

  no_hit : hit g d' e ≡ 0
  unfolding words
  no_hit =
      let w = block-m in let s = se.low in
      get_or-set_other q₄ (gat_at g m) (hit_at g e) _ 0 (omega arith)
      ∙ get_or-set_other (set_field g q₃ b 0x1e 0xff) (entry_at g b + 0x1f) (hit_at g e) 0xff 0 (omega arith)
      ∙ get_or-set_other q₃ (entry_at g b + 0x1e) (hit_at g e) 0xff 0 (omega arith)
      ∙ get_or-set_other (set_field g q₂ e 0x1e 0xff) (entry_at g e + 0x1f) (hit_at g e) 0xff 0 (omega arith)
      ∙ get_or-set_other q₂ (entry_at g e + 0x1e) (hit_at g e) 0xff 0 (omega arith)
      ∙ get_or-set_same (set_field g q₁ e 0 0x80) (hit_at g e) 0 0 (rw (length-set, Take.paired-length g d e 0 0xff 0xff) (omega (arith, room)))

  b-marker : marker g d' b ≡ 0xff
  unfolding words
  b-marker =
      let w = block-m in
      get_or-set_other q₄ (gat_at g m) (entry_at g b + 0x1e) _ 0 (omega arith)
      ∙ get_or-set_other (set_field g q₃ b 0x1e 0xff) (entry_at g b + 0x1f) (entry_at g b + 0x1e) 0xff 0 (omega arith)
      ∙ get_or-set_same q₃ (entry_at g b + 0x1e) 0xff 0
      (rw (length-set, length-set, length-set, length-set, Take.paired-length g d e 0 0xff 0xff) (omega (arith, room-b)))

  only-m : entry_granules g d e ≡ m ∷ []
  unfolding entry_granules
  only-m = rw (one, single) (ap (λ (y : ℕ). y ∷ []) (omega (arith, single)))

  dead : T (in_use g d' e) → ⊥
  unfolding digit
  dead = rw dead-flag (λ t. t)

  cut-same : (i : ℕ) → (In (i / granule_bytes g) (directory_granules g d) → ⊥) → byte d' i ≡ byte d i
  cut-same i o = go (Places.outside g d i k.start-at a10 o)
    where
      go : (i < 256 * g.start) ⊎ (256 * (g.start + directory_sectors g d) ≤ i) → byte d' i ≡ byte d i
      go (inl h) = cut-byte i (omega arith) (λ j l. omega arith) (omega arith) (omega arith) (omega arith)
      go (inr h) = let q = se in let s = sb in let w = block-m in cut-byte i (omega arith) (λ j l. omega arith) (omega arith) (omega arith) (omega arith)

  pub emptied-unhooks : Unhook.Unhooks g d (free_granule g (unhooked g (set_field g (set_field g d (tail g p d) 0x16 0xff) (tail g p d) 0x17 0xff) (tail g p d)
      b) m) p b m
  unfolding unhooked words
  emptied-unhooks = record {
    above = let w = block-m in let s = se in let a = a10 in
        cut-byte (hit_at g 31) (omega arith) (λ j l. omega arith) (omega arith) (omega arith) (omega arith);
    later = later;
    back = back;
    agrees = λ y u v w j l. let s = (Places.slot g d y u).low in let r = se.low in let q = sb.low in let z = block-m in
        cut-byte (entry_at g y + j) (omega arith) (λ i n. omega arith) (omega arith) (omega arith) (omega arith);
    hits = λ y u v. let s = (Places.slot g d y u).low in let z = block-m in
        cut-byte (hit_at g y) (omega arith) (λ i n. omega arith) (omega arith) (omega arith) (omega arith);
    dead = dead;
    unhit = no_hit;
    fixed = λ j l. let r = se.low in let q = sb.low in let z = block-m in
        cut-byte (entry_at g b + j) (omega arith) (λ i n. omega arith) (omega arith) (omega arith) (omega arith);
    ended = b-marker;
    only = only-m;
    freed = let a = a10 in let w = block-m in rw (Places.marked-same g 0 (omega arith) q₄ m (omega (arith, k.long, q₄-length))) (λ t. t);
    keeps = λ n h q. let w = Places.block-lt g d n k h in let v = k.blocks-hi in let s = se.low in
        Places.marked_other g 0 (omega arith) q₄ m n q ∙ ap (λ (y : ℕ). bit (n % g.units) y)
        (q₄-byte (gat_at g n) (λ j l. omega arith) (omega arith) (omega arith) (omega arith));
    same = cut-same;
    room = size;
  }

-- the entry before the last
module _ (g : Geometry) (d : List ℕ) (c : Sound g d) (p : ℕ) (f : IsFile g d p) (n : tail g p d ≢ p) where
  pub before-tail : In (field g d (tail g p d) 1) (chain g d p) × (field g d (tail g p d) 1 ≢ tail g p d)
  before-tail = go (Entry.chain-pred g d p (tail g p d) (Change.tail-in g d c p f))
    where
      linked : (z : ℕ) → In z (Members.front (chain g d p)) → In z (chain g d p) → marker g d z ≡ 0xfe → link g d z ≡ tail g p d → (marker g d z ≡ 0xff) ⊎
          Entry.Linked g d z
          → In (field g d (tail g p d) 1) (chain g d p) × (field g d (tail g p d) 1 ≢ tail g p d)
      linked z j i m l (inl q) = absurd (omega arith)
      linked z j i m l (inr q) =
          let w : field g d (tail g p d) 1 ≡ z = rw l at q.next.before in
          (rw w i, rw w (Members.front-not-last p (c.once p f) (Change.tail-in g d c p f) j))

      go : Entry.Pred g d p (tail g p d) (chain g d p) → In (field g d (tail g p d) 1) (chain g d p) × (field g d (tail g p d) 1 ≢ tail g p d)
      go (Entry.Pred.first q) = absurd (n q)
      go (Entry.Pred.after z j m l) =
          let i = Members.front-in p (Change.tail-in g d c p f) j in
          let k = Change.members g d c p z f i in
          linked z j i m l (Change.entry-at g d c z k.slot k.used).linked

pub record Dropped (g : Geometry) (d d' : List ℕ) (p : ℕ) : Type 0 where
  pub which : ℕ
  pub change : Change.Change g d d' p
  pub shorter : Shorter.Shorter g d d' p which
  pub long : length d' ≡ length d
  pub file : IsFile g d' p
  -- only the file's entries and one bit are stored to, and no entry is new
  pub touch : Touch.Touch g (chain g d p) [] d d'
  pub entries : (x : ℕ) → In x (chain g d' p) → In x (chain g d p)

module _ (g : Geometry) (d : List ℕ) (c : Sound g d) (k : Places.Fits g d) (p : ℕ) (f : IsFile g d p) (u : T (not (system g d p)))
    (size : size_of g d p + granule_bytes g ≤ granule_bytes g * length (owned g d p)) where
  abbrev t : ℕ
  t = tail g p d

  abbrev r : ℕ
  r = runs g d t - 1

  some-run : 1 ≤ runs g d t
  some-run = Drop.tail-run g d c p f (Sizes.some-width (Sizes.bytes_pos g) _ (omega (arith, size)))

  by-shrink : (d' : List ℕ) (n : ℕ) → Shrink.Shrinks g d d' p n → length d' ≡ length d → Touch.Touch g (chain g d p) [] d d' → Dropped g d d' p
  by-shrink d' n w l o = record {
    which = n;
    change = Shrink.shrinks-change g d d' c p f n w u;
    shorter = Shrink.shrinks-shorter g d d' c p f n w;
    long = l;
    file = AtTail.file-stays g d d' c p f w.at;
    touch = o;
    entries = λ x i. subst (In x) (AtTail.chain-stays g d d' c p f w.at) i;
  }

  tail-here : In t (chain g d p)
  tail-here = Change.tail-in g d c p f

  last-lt : run_start g d t r + run_length g d t r - 1 < granules g
  last-lt =
      let m = Change.members g d c p t f tail-here in
      omega (arith, ((Change.entry-at g d c t m.slot m.used).run r (omega (arith, some-run))).inside)

  shorter-touch : Touch.Touch g (chain g d p) [] d (free_granule g (set_field g d t (0x17 + 2 * r) (field g d t (0x17 + 2 * r) - 1))
      (run_start g d t r + run_length g d t r - 1))
  shorter-touch = Touch.touch-free g (chain g d p) [] d _ last-lt
      (Touch.touch-field g (chain g d p) [] d t (0x17 + 2 * r) _ tail-here (omega (arith, Entry.runs-le g d t)) Touch.Touch.none)

  emptied-touch : Touch.Touch g (chain g d p) [] d (set_field g (set_field g d t (0x16 + 2 * r) 0xff) t (0x17 + 2 * r) 0xff)
  emptied-touch =
      Touch.touch-field g (chain g d p) [] d t (0x17 + 2 * r) 0xff tail-here (omega (arith, Entry.runs-le g d t))
      (Touch.touch-field g (chain g d p) [] d t (0x16 + 2 * r) 0xff tail-here (omega (arith, Entry.runs-le g d t)) Touch.Touch.none)

  unhook-touch : runs g d t ≡ 1 → In (field g d t 1) (chain g d p)
      → Touch.Touch g (chain g d p) [] d (free_granule g (unhooked g (set_field g (set_field g d t 0x16 0xff) t 0x17 0xff) t (field g d t 1))
      (run_start g d t 0 + run_length g d t 0 - 1))
  unhook-touch one i =
      let m = Change.members g d c p t f tail-here in
      let l : run_start g d t 0 + run_length g d t 0 - 1 < granules g = omega
      (arith, ((Change.entry-at g d c t m.slot m.used).run 0 (omega (arith, one))).inside) in
      Touch.touch-free g (chain g d p) [] d _ l (Touch.touch-unhook g (chain g d p) [] d p t (field g d t 1) tail-here i
      (Touch.touch-field g (chain g d p) [] d t 0x17 0xff tail-here (omega arith)
      (Touch.touch-field g (chain g d p) [] d t 0x16 0xff tail-here (omega arith) Touch.Touch.none)))

  by-unhook : T (extension g d t) → runs g d t ≡ 1 → run_length g d t 0 ≡ 1
      → Dropped g d (free_granule g (unhooked g (set_field g (set_field g d t 0x16 0xff) t 0x17 0xff) t (field g d t 1))
      (run_start g d t 0 + run_length g d t 0 - 1)) p
  unfolding unhooked words
  by-unhook x one single =
      let b = field g d t 1 in
      let n = run_start g d t 0 + run_length g d t 0 - 1 in
      let d' = free_granule g (unhooked g (set_field g (set_field g d t 0x16 0xff) t 0x17 0xff) t b) n in
      let later : t ≢ p = λ q. T_not (extension g d p) (Facts.file-first g d p f) (rw q at x) in
      let v = before-tail g d c p f later in
      let w = emptied-unhooks g d c k p f size later one single b refl (Change.members g d c p b f v.0).slot v.1 in
      record {
        which = n;
        change = Unhook.cut-change g d d' c p f b n w u;
        shorter = Unhook.cut-shorter g d d' c p f b n w;
        long = simp length-set;
        file =
            Unhook.cut-file g d d' c p f b n w;
        touch = unhook-touch one v.0;
        entries = λ y j. subst (In y) (sym (Unhook.cut-chain g d d' c p f b n w))
            (Members.in-append-l (t ∷ []) j);
      }

  pub drop-one : Dropped g d (drop_one g p d) p
  unfolding drop_one words
  drop-one = go (Members.decide (ltb 1 (run_length g d t r))) (Members.decide (extension g d t && eqb r 0))
    where
      extends : t ≢ p → T (extension g d t)
      extends n = Change.extends g d c p t f (Change.tail-in g d c p f) n

      go : Members.Test (ltb 1 (run_length g d t r)) → Members.Test (extension g d t && eqb r 0) → Dropped g d (drop_one g p d) p
      go (Members.Test.holds a) b =
          rw (Members.T_true {b = ltb 1 (run_length g d t r)} a)
          (by-shrink _ (run_start g d t r + run_length g d t r - 1) (Drop.shorter-shrinks g d c k p f some-run size (ltb→lt 1 (run_length g d t r) a))
          (simp length-set) shorter-touch)
      go (Members.Test.fails a) (Members.Test.fails b) =
          let single : run_length g d t r ≡ 1 = omega (arith, nltb→le 1 (run_length g d t r) (not_T (ltb 1 (run_length g d t r)) a)) in
          let kept : t ≢ p → 1 ≤ r = λ n. over r (λ z. b (Members.and_i (extension g d t) (eqb r 0) (extends n) (Members.eq-T z))) in
          rw (Members.no_false {b = ltb 1 (run_length g d t r)} a, Members.no_false {b = extension g d t && eqb r 0} b)
          (by-shrink _ (run_start g d t r + run_length g d t r - 1) (Drop.emptied-shrinks g d c k p f some-run size single kept) (simp length-set)
          (Touch.touch-free g (chain g d p) [] d _ last-lt emptied-touch))
        where
          over : (y : ℕ) → y ≢ 0 → 1 ≤ y
          over y n = omega arith
      go (Members.Test.fails a) (Members.Test.holds b) =
          let single : run_length g d t r ≡ 1 = omega (arith, nltb→le 1 (run_length g d t r) (not_T (ltb 1 (run_length g d t r)) a)) in
          let z : r ≡ 0 = eqb→eq r 0 (Members.and_r (extension g d t) (eqb r 0) b) in
          let one : runs g d t ≡ 1 = omega (arith, z, some-run) in
          rw (Members.no_false {b = ltb 1 (run_length g d t r)} a, Members.T_true {b = extension g d t && eqb r 0} b)
          (rw one (by-unhook (Members.and_l (extension g d t) (eqb r 0) b) one (rw one at single)))
