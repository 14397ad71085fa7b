-- One granule taken in the last entry: the last run longer by one, or a new run
use Rattle.std.specs.Prelude.{◌≡◌, ◌≢◌, ◌⊎◌, not, ℕ, suc, ◌+◌, ◌-◌, ◌*◌, ◌/◌, ◌%◌, ◌≤◌, ◌<◌, length, leb, ltb}
use Rattle.std.proofs.Math.Path.{ap, ap₂}
use Rattle.std.proofs.Common.{sym, ◌∙◌, inl, inr, div-add-mod', mod-lt}
use mathlib.Core.List.{List, [], ◌∷◌, ◌++◌, append_assoc}
use native.Mathlib.Omega.{arith}
use Rattle.std.proofs.Math.Decide.{ℕ_discrete}
use Rattle.std.proofs.Math.ListN.{length-set}
use Rattle.std.proofs.Math.Seq.{get_or-set_same, get_or-set_other}
use Rattle.std.proofs.Math.Dec.{T, T_not, ltb→lt, leb→le}
use Rattle.meaning.specs.Lists.{count, each}
use Rattle.meaning.specs.Layout.{byte, is_slot, taken, take_granule, field, set_field, gat_at, hit_at, entry_at, granules, hit, directory_granules}
use Rattle.meaning.specs.Layout.{directory_sectors}
use Rattle.meaning.specs.Layout.{granule_bytes, above_ten, most_blocks}
use Rattle.meaning.specs.Bits.{bit, digit}
use Rattle.meaning.specs.Entries.{block, run_start, run_length, run_granules, runs, entry_granules}
use Rattle.meaning.specs.Growth.{tail, after, lengthens, lengthened, with_pair}
use Rattle.meaning.specs.declared.Geometry.{Geometry}
use Rattle.lists.specs.Members
use Rattle.lists.specs.Members.{In}
use Rattle.laws.specs.Facts.{Sound, IsFile}
use Rattle.laws.specs.Entry
use Rattle.laws.specs.Frame
use Rattle.laws.specs.Frame.{Agree}
use Rattle.laws.specs.Places
use Rattle.laws.specs.Change
use Rattle.laws.specs.Tail
use Rattle.laws.specs.Words.{words}

-- pair j of the entry e written, and granule m marked free (0) or taken (1)
module _ (v : ℕ) (bv : v < 2) (g : Geometry) (d : List ℕ) (c : Sound g d) (k : Places.Fits g d) (e : ℕ) (t : T (is_slot g d e)) (j : ℕ) (hj : j < 4)
    (d₁ : List ℕ) (len : length d₁ ≡ length d)
    (out : (i : ℕ) → i ≢ entry_at g e + (0x16 + 2 * j) → i ≢ entry_at g e + (0x17 + 2 * j) → byte d₁ i ≡ byte d i) (m : ℕ) (lm : m < granules g) where
  s : Places.IsSlot g d e
  s = Places.slot g d e t

  a10 : Places.Dir g d
  a10 = Places.dir g d c.dir

  pub put_byte : (i : ℕ) → i ≢ gat_at g m → i ≢ entry_at g e + (0x16 + 2 * j) → i ≢ entry_at g e + (0x17 + 2 * j) → byte (Places.marked g v d₁ m) i ≡ byte d i
  put_byte i n a b = get_or-set_other d₁ (gat_at g m) i _ 0 n ∙ out i a b

  block-m : m / g.units < most_blocks
  block-m = omega (arith, Places.block-lt g d m k lm, k.blocks-hi)

  pub put-field : (x l : ℕ) → field g (Places.marked g v d₁ m) x l ≡ field g d₁ x l
  unfolding words
  put-field x l = let b = block-m in get_or-set_other d₁ (gat_at g m) (entry_at g x + l) _ 0 (omega arith)

  pub put-above : above_ten g (Places.marked g v d₁ m) ≡ above_ten g d
  put-above = let b = block-m in put_byte (hit_at g 31) (omega arith) (omega arith) (omega arith)

  pub put-agrees : (x : ℕ) → T (is_slot g d x) → x ≢ e → Agree g d (Places.marked g v d₁ m) x
  unfolding words
  put-agrees x u n l b =
      let q = (Places.slot g d x u).low in let r = s.low in let w = block-m in
      put_byte (entry_at g x + l) (omega arith) (omega arith) (omega arith)

  pub put-hits : (x : ℕ) → T (is_slot g d x) → hit g (Places.marked g v d₁ m) x ≡ hit g d x
  unfolding words
  put-hits x u = let q = (Places.slot g d x u).low in let w = block-m in put_byte (hit_at g x) (omega arith) (omega arith) (omega arith)

  pub put-fixed : (l : ℕ) → l ≢ 0x16 + 2 * j → l ≢ 0x17 + 2 * j → field g (Places.marked g v d₁ m) e l ≡ field g d e l
  unfolding words
  put-fixed l a b = let w = block-m in put_byte (entry_at g e + l) (omega arith) (omega arith) (omega arith)

  pub put-digit : digit (byte (Places.marked g v d₁ m) (gat_at g m)) (m % g.units) ≡ v
  unfolding words
  put-digit = let a = a10 in let w = block-m in Places.marked-same g v bv d₁ m (omega (arith, k.long, len))

  pub put_keeps : (n : ℕ) → n < granules g → n ≢ m → taken g (Places.marked g v d₁ m) n ≡ taken g d n
  unfolding words
  put_keeps n h q =
      let b = Places.block-lt g d n k h in let w = k.blocks-hi in
      Places.marked_other g v bv d₁ m n q ∙ ap (λ (y : ℕ). bit (n % g.units) y) (out (gat_at g n) (omega arith) (omega arith))

  pub put_same : (i : ℕ) → (In (i / granule_bytes g) (directory_granules g d) → ⊥) → byte (Places.marked g v d₁ m) i ≡ byte d i
  put_same i o = go (Places.outside g d i k.start-at a10 o)
    where
      go : (i < 256 * g.start) ⊎ (256 * (g.start + directory_sectors g d) ≤ i) → byte (Places.marked g v d₁ m) i ≡ byte d i
      go (inl h) = put_byte i (omega arith) (omega arith) (omega arith)
      go (inr h) = let b = s.sector in let q = s.low in let w = block-m in put_byte i (omega arith) (omega arith) (omega arith)

-- the runs of an entry, the last one apart
pub granules-snoc : (g : Geometry) (d : List ℕ) (s r : ℕ) → runs g d s ≡ suc r
    → entry_granules g d s ≡ each (run_granules g d s) (count 0 r) ++ run_granules g d s r
unfolding entry_granules
granules-snoc g d s r e =
    rw e (ap (each (run_granules g d s)) (Members.count-snoc 0 r) ∙ Members.each_append (run_granules g d s) (count 0 r) ((0 + r) ∷ [])
    ∙ ap (λ (l : List ℕ). each (run_granules g d s) (count 0 r) ++ l) (Members.each-one (run_granules g d s) (0 + r) ∙ ap (run_granules g d s) (omega arith)))

-- Case 1: the last run is longer by one
module _ (g : Geometry) (d : List ℕ) (c : Sound g d) (k : Places.Fits g d) (p : ℕ) (f : IsFile g d p) (l : T (lengthens g p d)) where
  abbrev e : ℕ
  e = tail g p d

  abbrev r : ℕ
  r = runs g d e - 1

  abbrev second : ℕ
  second = field g d e (0x17 + 2 * r)

  abbrev d₁ : List ℕ
  d₁ = set_field g d e (0x17 + 2 * r) (second + 1)

  member : Change.Member g d p e
  member = Change.members g d c p e f (Change.tail-in g d c p f)

  entry : Entry.Entry g d e
  entry = Change.entry-at g d c e member.slot member.used

  some-run : 1 ≤ runs g d e
  unfolding words
  some-run = let a : T (leb 1 (runs g d e)) = search (Members.and_l, Members.and_r) depth 6 in leb→le _ _ a

  inside' : after g p d < granules g
  unfolding words
  inside' = let a : T (ltb (after g p d) (granules g)) = search (Members.and_l, Members.and_r) depth 6 in ltb→lt _ _ a

  untaken : T (taken g d (after g p d)) → ⊥
  unfolding words
  untaken = let a : T (not (taken g d (after g p d))) = search (Members.and_l, Members.and_r) depth 6 in T_not (taken g d (after g p d)) a

  short : 1 + second % 32 < 32
  unfolding words
  short = let a : T (ltb (run_length g d e r) 32) = search (Members.and_l, Members.and_r) depth 6 in ltb→lt _ _ a

  r-lt : r < 4
  r-lt = omega (arith, some-run, Entry.runs-le g d e)

  runs-r : runs g d e ≡ suc r
  runs-r = omega (arith, some-run)

  room : entry_at g e + 32 ≤ length d
  room = let a = Places.dir g d c.dir in let b = Places.slot g d e member.slot in omega (arith, k.long)

  d₁-length : length d₁ ≡ length d
  unfolding words
  d₁-length = length-set d (entry_at g e + (0x17 + 2 * r)) (second + 1)

  d₁-out : (i : ℕ) → i ≢ entry_at g e + (0x16 + 2 * r) → i ≢ entry_at g e + (0x17 + 2 * r) → byte d₁ i ≡ byte d i
  unfolding words
  d₁-out i a b = get_or-set_other d (entry_at g e + (0x17 + 2 * r)) i (second + 1) 0 b

  abbrev d₂ : List ℕ
  d₂ = take_granule g d₁ (after g p d)

  fixed : (x : ℕ) → x ≢ 0x17 + 2 * r → field g d₂ e x ≡ field g d e x
  unfolding words
  fixed x n = put-field 1 (omega arith) g d c k e member.slot r r-lt d₁ d₁-length d₁-out (after g p d) inside' e x
      ∙ get_or-set_other d (entry_at g e + (0x17 + 2 * r)) (entry_at g e + x) (second + 1) 0 (omega arith)

  changed : field g d₂ e (0x17 + 2 * r) ≡ second + 1
  unfolding words
  changed = put-field 1 (omega arith) g d c k e member.slot r r-lt d₁ d₁-length d₁-out (after g p d) inside' e (0x17 + 2 * r)
      ∙ get_or-set_same d (entry_at g e + (0x17 + 2 * r)) (second + 1) 0 (omega (arith, room, r-lt))

  pub runs' : runs g d₂ e ≡ suc r
  runs' = Frame.runs-blocks g d d₂ e (λ x h. fixed (0x16 + 2 * x) (omega arith)) ∙ runs-r

  rg-early : (x : ℕ) → x < r → run_granules g d₂ e x ≡ run_granules g d e x
  rg-early x h = rw (fixed (0x16 + 2 * x) (omega arith), fixed (0x17 + 2 * x) (omega arith))

  pub start' : run_start g d₂ e r ≡ run_start g d e r
  start' = ap₂ (λ (a b : ℕ). a * g.units + b) (fixed (0x16 + 2 * r) (omega arith)) (ap (λ (y : ℕ). y / 32) changed ∙ omega (arith, short))

  pub length' : run_length g d₂ e r ≡ suc (run_length g d e r)
  length' = ap (λ (y : ℕ). 1 + y % 32) changed ∙ omega (arith, short)

  rg-last : run_granules g d₂ e r ≡ run_granules g d e r ++ (after g p d ∷ [])
  rg-last = ap₂ count start' length' ∙ Members.count-snoc (run_start g d e r) (run_length g d e r)

  more : entry_granules g d₂ e ≡ entry_granules g d e ++ (after g p d ∷ [])
  more =
      granules-snoc g d₂ e r runs'
      ∙ ap₂ (λ (a b : List ℕ). a ++ b)
      (Members.each-eq (run_granules g d₂ e) (run_granules g d e) (count 0 r) (λ x i. rg-early x (omega (arith, Members.count-in x 0 r i)))) rg-last
      ∙ sym (append_assoc (each (run_granules g d e) (count 0 r)) (run_granules g d e r) (after g p d ∷ []))
      ∙ ap (λ (l : List ℕ). l ++ (after g p d ∷ [])) (sym (granules-snoc g d e r runs-r))

  run' : (x : ℕ) → x < runs g d₂ e → Entry.OnDisk g d₂ e x
  run' x h = go (ℕ_discrete x r)
    where
      go : Dec (x ≡ r) → Entry.OnDisk g d₂ e x
      go (yes q) = rw q (record {
        unit = rw changed (omega (arith, short, (entry.run r (omega (arith, some-run))).unit));
        inside = rw (start', length') (omega (arith, inside'));
      })
      go (no q) =
          let b : x < r = omega (arith, runs') in
          let w = entry.run x (omega (arith, runs-r)) in
          record {
            unit = rw (fixed (0x17 + 2 * x) (omega arith)) w.unit;
            inside = rw (fixed (0x16 + 2 * x) (omega arith), fixed (0x17 + 2 * x) (omega arith)) w.inside;
          }

  pub lengthened-grows : Tail.Grows g d (lengthened g p d) p (after g p d)
  unfolding words
  lengthened-grows = record {
    at = record {
      above = put-above 1 (omega arith) g d c k e member.slot r r-lt d₁ d₁-length d₁-out (after g p d) inside';
      agrees = put-agrees 1 (omega arith) g d c k e member.slot r r-lt d₁ d₁-length d₁-out (after g p d) inside';
      hits = put-hits 1 (omega arith) g d c k e member.slot r r-lt d₁ d₁-length d₁-out (after g p d) inside';
      fixed = λ x b o. fixed x (side x o);
      pairs = λ x b q. fixed (0x16 + 2 * x) (omega arith) ∙ entry.pairs x b (omega (arith, runs', runs-r));
      run = run';
      some' = λ n. omega (arith, runs');
    };
    more = more;
    inside = inside';
    free = untaken;
    set' = rw (put-digit 1 (omega arith) g d c k e member.slot r r-lt d₁ d₁-length d₁-out (after g p d) inside') tt;
    keeps = put_keeps 1 (omega arith) g d c k e member.slot r r-lt d₁ d₁-length d₁-out (after g p d) inside';
    same = put_same 1 (omega arith) g d c k e member.slot r r-lt d₁ d₁-length d₁-out (after g p d) inside';
  }
    where
      side : (x : ℕ) → (x < 0x16) ⊎ (0x1e ≤ x) → x ≢ 0x17 + 2 * r
      side x (inl h) = omega arith
      side x (inr h) = omega (arith, r-lt)

-- Two bytes of a pair stored
module _ (g : Geometry) (d : List ℕ) (e r a b : ℕ) where
  abbrev pub paired : List ℕ
  paired = set_field g (set_field g d e (0x16 + 2 * r) a) e (0x17 + 2 * r) b

  pub paired-length : length paired ≡ length d
  unfolding words
  paired-length = simp length-set

  pub paired-out : (i : ℕ) → i ≢ entry_at g e + (0x16 + 2 * r) → i ≢ entry_at g e + (0x17 + 2 * r) → byte paired i ≡ byte d i
  unfolding words
  paired-out i m n = simp get_or-set_other

  pub paired-first : entry_at g e + (0x17 + 2 * r) < length d → field g paired e (0x16 + 2 * r) ≡ a
  unfolding words
  paired-first h =
      get_or-set_other (set_field g d e (0x16 + 2 * r) a) (entry_at g e + (0x17 + 2 * r)) (entry_at g e + (0x16 + 2 * r)) b 0 (omega arith)
      ∙ get_or-set_same d (entry_at g e + (0x16 + 2 * r)) a 0 (omega arith)

  pub paired-second : entry_at g e + (0x17 + 2 * r) < length d → field g paired e (0x17 + 2 * r) ≡ b
  unfolding words
  paired-second h = get_or-set_same (set_field g d e (0x16 + 2 * r) a) (entry_at g e + (0x17 + 2 * r)) b 0 (rw length-set h)

-- a run of one granule
pub run-start : (units n : ℕ) → n / units * units + n % units * 32 / 32 ≡ n
run-start units n = ap (λ (x : ℕ). n / units * units + x) (omega arith) ∙ div-add-mod' n units

-- Case 2: a new run in the last entry
module _ (g : Geometry) (d : List ℕ) (c : Sound g d) (k : Places.Fits g d) (p : ℕ) (f : IsFile g d p) (n : ℕ)
    (few : runs g d (tail g p d) < 4) (inn : n < granules g) (untaken : T (taken g d n) → ⊥) where
  abbrev e₂ : ℕ
  e₂ = tail g p d

  abbrev r₂ : ℕ
  r₂ = runs g d e₂

  abbrev pair₂ : List ℕ
  pair₂ = paired g d e₂ r₂ (n / g.units) (n % g.units * 32)

  abbrev d₃ : List ℕ
  d₃ = take_granule g pair₂ n

  member₂ : Change.Member g d p e₂
  member₂ = Change.members g d c p e₂ f (Change.tail-in g d c p f)

  entry₂ : Entry.Entry g d e₂
  entry₂ = Change.entry-at g d c e₂ member₂.slot member₂.used

  room₂ : entry_at g e₂ + 32 ≤ length d
  room₂ = let a = Places.dir g d c.dir in let b = Places.slot g d e₂ member₂.slot in omega (arith, k.long)

  len₂ : length pair₂ ≡ length d
  len₂ = paired-length g d e₂ r₂ (n / g.units) (n % g.units * 32)

  out₂ : (i : ℕ) → i ≢ entry_at g e₂ + (0x16 + 2 * r₂) → i ≢ entry_at g e₂ + (0x17 + 2 * r₂) → byte pair₂ i ≡ byte d i
  out₂ = paired-out g d e₂ r₂ (n / g.units) (n % g.units * 32)

  fixed₂ : (x : ℕ) → x ≢ 0x16 + 2 * r₂ → x ≢ 0x17 + 2 * r₂ → field g d₃ e₂ x ≡ field g d e₂ x
  unfolding words
  fixed₂ = put-fixed 1 (omega arith) g d c k e₂ member₂.slot r₂ few pair₂ len₂ out₂ n inn

  block₂ : field g d₃ e₂ (0x16 + 2 * r₂) ≡ n / g.units
  unfolding words
  block₂ = put-field 1 (omega arith) g d c k e₂ member₂.slot r₂ few pair₂ len₂ out₂ n inn e₂ (0x16 + 2 * r₂) ∙ paired-first g d e₂ r₂ (n / g.units)
      (n % g.units * 32) (omega (arith, room₂))

  second₂ : field g d₃ e₂ (0x17 + 2 * r₂) ≡ n % g.units * 32
  unfolding words
  second₂ = put-field 1 (omega arith) g d c k e₂ member₂.slot r₂ few pair₂ len₂ out₂ n inn e₂ (0x17 + 2 * r₂) ∙ paired-second g d e₂ r₂ (n / g.units)
      (n % g.units * 32) (omega (arith, room₂))

  pub runs₂ : runs g d₃ e₂ ≡ suc r₂
  runs₂ = Entry.runs-is g d₃ e₂ (suc r₂) (omega arith) (λ x h. go x h (ℕ_discrete x r₂))
      (λ h. fixed₂ (0x16 + 2 * suc r₂) (omega arith) (omega arith) ∙ entry₂.pairs (suc r₂) h (omega arith))
    where
      go : (x : ℕ) → x < suc r₂ → Dec (x ≡ r₂) → block g d₃ e₂ x ≢ 0xff
      go x h (yes q) = rw (q, block₂) (omega (arith, Places.block-lt g d n k inn, k.blocks-hi))
      go x h (no q) = rw (fixed₂ (0x16 + 2 * x) (omega arith) (omega arith)) (Entry.runs-has g d e₂ x (omega arith))

  rg-early₂ : (x : ℕ) → x < r₂ → run_granules g d₃ e₂ x ≡ run_granules g d e₂ x
  rg-early₂ x h = rw (fixed₂ (0x16 + 2 * x) (omega arith) (omega arith), fixed₂ (0x17 + 2 * x) (omega arith) (omega arith))

  pub start₂ : run_start g d₃ e₂ r₂ ≡ n
  start₂ = rw (block₂, second₂) (run-start g.units n)

  pub length₂ : run_length g d₃ e₂ r₂ ≡ 1
  length₂ = rw second₂ (omega arith)

  rg-last₂ : run_granules g d₃ e₂ r₂ ≡ n ∷ []
  rg-last₂ = ap₂ count start₂ length₂

  more₂ : entry_granules g d₃ e₂ ≡ entry_granules g d e₂ ++ (n ∷ [])
  unfolding entry_granules
  more₂ =
      granules-snoc g d₃ e₂ r₂ runs₂
      ∙ ap₂ (λ (a b : List ℕ). a ++ b)
      (Members.each-eq (run_granules g d₃ e₂) (run_granules g d e₂) (count 0 r₂) (λ x i. rg-early₂ x (omega (arith, Members.count-in x 0 r₂ i)))) rg-last₂

  run₂ : (x : ℕ) → x < runs g d₃ e₂ → Entry.OnDisk g d₃ e₂ x
  run₂ x h = go (ℕ_discrete x r₂)
    where
      go : Dec (x ≡ r₂) → Entry.OnDisk g d₃ e₂ x
      go (yes q) = rw q (record { unit = rw second₂ (omega (arith, mod-lt n k.units-lo)); inside = rw (start₂, length₂) (omega arith) })
      go (no q) =
          let b : x < r₂ = omega (arith, runs₂) in
          let w = entry₂.run x b in
          record {
            unit = rw (fixed₂ (0x17 + 2 * x) (omega arith) (omega arith)) w.unit;
            inside = rw (fixed₂ (0x16 + 2 * x) (omega arith) (omega arith), fixed₂ (0x17 + 2 * x) (omega arith) (omega arith)) w.inside;
          }

  pub paired-grows : Tail.Grows g d (with_pair g d (tail g p d) (runs g d (tail g p d)) n) p n
  unfolding words
  paired-grows = record {
    at = record {
      above = put-above 1 (omega arith) g d c k e₂ member₂.slot r₂ few pair₂ len₂ out₂ n inn;
      agrees = put-agrees 1 (omega arith) g d c k e₂ member₂.slot r₂ few pair₂ len₂ out₂ n inn;
      hits = put-hits 1 (omega arith) g d c k e₂ member₂.slot r₂ few pair₂ len₂ out₂ n inn;
      fixed = λ x b o. fixed₂ x (side x o) (side' x o);
      pairs = λ x b q. fixed₂ (0x16 + 2 * x) (omega (arith, runs₂)) (omega arith) ∙ entry₂.pairs x b (omega (arith, runs₂));
      run = run₂;
      some' = λ n. omega (arith, runs₂);
    };
    more = more₂;
    inside = inn;
    free = untaken;
    set' = rw (put-digit 1 (omega arith) g d c k e₂ member₂.slot r₂ few pair₂ len₂ out₂ n inn) tt;
    keeps = put_keeps 1 (omega arith) g d c k e₂ member₂.slot r₂ few pair₂ len₂ out₂ n inn;
    same = put_same 1 (omega arith) g d c k e₂ member₂.slot r₂ few pair₂ len₂ out₂ n inn;
  }
    where
      side : (x : ℕ) → (x < 0x16) ⊎ (0x1e ≤ x) → x ≢ 0x16 + 2 * r₂
      side x (inl h) = omega arith
      side x (inr h) = omega arith

      side' : (x : ℕ) → (x < 0x16) ⊎ (0x1e ≤ x) → x ≢ 0x17 + 2 * r₂
      side' x (inl h) = omega arith
      side' x (inr h) = omega arith
