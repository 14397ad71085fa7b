-- Several granules of the last run dropped one by one, and what that comes to: the run is shorter by so many, or gone, and they are given
-- back as a run.
use mathlib.Core.Path.{◌≡◌, refl, sym, ap, ap₂, ◌∙◌, subst}
use mathlib.Core.Logic.{◌≢◌}
use mathlib.Core.List.{List}
use mathlib.Core.Bool.{true, false, ◌&&◌}
use Prim.Native.Nat.{ℕ, zero, suc, ◌+◌, ◌-◌, ◌*◌, ◌/◌, ◌%◌, ◌≤◌, ◌<◌}
use native.Mathlib.Omega.{arith}
use native.Mathlib.Nat.{sub-zero}
use native.Mathlib.Decide.{ℕ_discrete}
use lib.ListN.{length, set, length-set}
use lib.Seq.{get_or-set_same, get_or-set_other, set-set, set_comm, set-get_or}
use lib.Dec.{eqb}
use Rattle.meaning.specs.Lists.{count, through}
use Rattle.meaning.specs.Bits.{digit, put_digit}
use Rattle.meaning.specs.Layout.{granules, gat_at, byte, hit_at, entry_at, field, set_field, free_granule}
use Rattle.meaning.specs.Entries.{extension, runs, run_start, run_length, set_link}
use Rattle.meaning.specs.Drop.{unhooked}
use Rattle.meaning.specs.declared.Geometry.{Geometry}
use Rattle.laws.specs.Frame
use Rattle.layout.specs.Room.{Room, Slot}
use Rattle.layout.proofs.OneStep.{gat-low}
use Rattle.layout.proofs.HasRoom.{entry-fits, bit-fits}
use Rattle.seek.proofs.Frame.{Same, same-field}
use Rattle.space.proofs.Folds.{same-run}
use Rattle.trim.specs.Last.{Last, Dropping}
use Rattle.trim.proofs.Trimming.{last-reads, last-run, last-granule, last-before, by-shorter, by-emptied, by-unhooked, dropping-start, dropping-one}
use Rattle.trim.proofs.Trimming.{dropping-step}

-- A pair that is read once -------------------------------------------------------------------------------------------------------

module _ (g : Geometry) (d : List ℕ) (e k : ℕ) {second : ℕ} (q : second ≡ field g d e (0x17 + 2 * k)) where
  pub length-read : 1 + second % 32 ≡ run_length g d e k
  length-read = ap (λ (x : ℕ). 1 + x % 32) q

  pub start-read : {block : ℕ} → block ≡ field g d e (0x16 + 2 * k) → block * g.units + second / 32 ≡ run_start g d e k
  start-read p = ap₂ (λ (b x : ℕ). b * g.units + x / 32) p q

-- Granules given back in either order --------------------------------------------------------------------------------------------

half : (y x : ℕ) → (y * 2 + x % 2) / 2 ≡ y
half y x = omega arith

odd : (y x : ℕ) → (y * 2 + x % 2) % 2 ≡ x % 2
odd y x = omega arith

even : (x : ℕ) → (x / 2 * 2 + 0) / 2 ≡ x / 2
even x = omega arith

put-swap : (x u w : ℕ) → put_digit (put_digit x u 0) w 0 ≡ put_digit (put_digit x w 0) u 0
unfolding put_digit
put-swap x zero zero = refl
put-swap x zero (suc w) = rw (even x) (omega arith)
put-swap x (suc u) zero = rw (even x) (omega arith)
put-swap x (suc u) (suc w) =
    let y : ℕ = put_digit (x / 2) u 0 in let z : ℕ = put_digit (x / 2) w 0 in
    ap₂ (λ (a b : ℕ). put_digit a w 0 * 2 + b) (half y x) (odd y x) ∙ ap (λ (a : ℕ). a * 2 + x % 2) (put-swap (x / 2) u w)
    ∙ sym (ap₂ (λ (a b : ℕ). put_digit a u 0 * 2 + b) (half z x) (odd z x))

module _ (g : Geometry) where
  free-long : (d : List ℕ) (n : ℕ) → length (free_granule g d n) ≡ length d
  unfolding free_granule
  free-long d n = length-set d (gat_at g n) _

  free-swap : (d : List ℕ) (m n : ℕ) → gat_at g n < length d → free_granule g (free_granule g d m) n ≡ free_granule g (free_granule g d n) m
  free-swap d m n h = by (ℕ_discrete (gat_at g m) (gat_at g n))
    where
      cleared : ℕ → ℕ → ℕ
      cleared k x = put_digit x (k % g.units) 0

      by : Dec (gat_at g m ≡ gat_at g n) → free_granule g (free_granule g d m) n ≡ free_granule g (free_granule g d n) m
      by (yes q) = unfold free_granule in
          let b = gat_at g n in
          ap (λ (i : ℕ). set (set d i (cleared m (byte d i))) b (cleared n (byte (set d i (cleared m (byte d i))) b))) q
          ∙ ap (λ (y : ℕ). set (set d b (cleared m (byte d b))) b (cleared n y)) (get_or-set_same d b (cleared m (byte d b)) 0 h)
          ∙ set-set d b (cleared m (byte d b)) (cleared n (cleared m (byte d b)))
          ∙ ap (set d b) (put-swap (byte d b) (m % g.units) (n % g.units))
          ∙ sym (set-set d b (cleared n (byte d b)) (cleared m (cleared n (byte d b))))
          ∙ ap (λ (y : ℕ). set (set d b (cleared n (byte d b))) b (cleared m y)) (sym (get_or-set_same d b (cleared n (byte d b)) 0 h))
          ∙ ap (λ (i : ℕ). set (set d b (cleared n (byte d b))) i (cleared m (byte (set d b (cleared n (byte d b))) i))) (sym q)
      by (no q) = unfold free_granule in
          let a = gat_at g m in let b = gat_at g n in
          ap (λ (y : ℕ). set (set d a (cleared m (byte d a))) b (cleared n y)) (get_or-set_other d a b (cleared m (byte d a)) 0 (λ z. q (sym z)))
          ∙ set_comm d a b (cleared m (byte d a)) (cleared n (byte d b)) q
          ∙ ap (λ (y : ℕ). set (set d b (cleared n (byte d b))) a (cleared m y)) (sym (get_or-set_other d b a (cleared n (byte d b)) 0 q))

  -- the last one given back first
  free-last : (d : List ℕ) (a n j : ℕ) → gat_at g j < length d
      → free_granule g (through (free_granule g) d (count a n)) j ≡ through (free_granule g) (free_granule g d j) (count a n)
  free-last d a zero j h = refl
  free-last d a (suc n) j h =
      let l = free-long d a in
      free-last (free_granule g d a) (a + 1) n j (omega arith)
      ∙ ap (λ (z : List ℕ). through (free_granule g) z (count (a + 1) n)) (free-swap d a j h)

  -- Stores elsewhere, before or after a granule is given back --------------------------------------------------------------------

  -- f changes no GAT byte and asks for none
  abbrev Apart : ℕ → (List ℕ → List ℕ) → Type 0
  Apart j f = (d : List ℕ) → free_granule g (f d) j ≡ f (free_granule g d j)

  apart-set : (j i v : ℕ) → gat_at g j < i → Apart j (λ d. set d i v)
  unfolding free_granule
  apart-set j i v h d =
      let b = gat_at g j in
      ap (λ (y : ℕ). set (set d i v) b (put_digit y (j % g.units) 0)) (get_or-set_other d i b v 0 (λ z. omega arith))
      ∙ set_comm d i b v (put_digit (byte d b) (j % g.units) 0) (λ z. omega arith)

  apart-then : (j : ℕ) (f h : List ℕ → List ℕ) → Apart j f → Apart j h → Apart j (λ d. h (f d))
  apart-then j f h p q d = q (f d) ∙ ap h (p d)

  module _ {d₀ : List ℕ} (r : Room g d₀) (j : ℕ) (low : j < granules g) where
    before-hit : gat_at g j < 256 * (g.start + 1)
    before-hit = let l = gat-low g j low r.units-low in omega (arith, r.blocks-high)

    apart-field : (s k v : ℕ) → Apart j (λ d. set_field g d s k v)
    unfolding set_field
    apart-field s k v = let b = before-hit in apart-set j (entry_at g s + k) v (omega arith)

    apart-hit : (s v : ℕ) → Apart j (λ d. set d (hit_at g s) v)
    apart-hit s v = let b = before-hit in apart-set j (hit_at g s) v (omega arith)

    apart-pair : (s k u v : ℕ) → Apart j (λ d. set_field g (set_field g d s (0x16 + 2 * k) u) s (0x17 + 2 * k) v)
    apart-pair s k u v =
        apart-then j (λ d. set_field g d s (0x16 + 2 * k) u) (λ d. set_field g d s (0x17 + 2 * k) v) (apart-field s (0x16 + 2 * k) u)
        (apart-field s (0x17 + 2 * k) v)

    apart-link : (s u v : ℕ) → Apart j (λ d. set_link g d s u v)
    apart-link s u v =
        apart-then j (λ d. set_field g d s 0x1e u) (λ d. set_field g d s 0x1f v) (apart-field s 0x1e u) (apart-field s 0x1f v)

    apart-unhooked : (s b : ℕ) → Apart j (λ d. unhooked g d s b)
    unfolding unhooked
    apart-unhooked s b =
        apart-then j (λ d. set_link g (set (set_field g d s 0 0x80) (hit_at g s) 0) s 0xff 0xff) (λ d. set_link g d b 0xff 0xff)
        (apart-then j (λ d. set (set_field g d s 0 0x80) (hit_at g s) 0) (λ d. set_link g d s 0xff 0xff)
        (apart-then j (λ d. set_field g d s 0 0x80) (λ d. set d (hit_at g s) 0) (apart-field s 0 0x80) (apart-hit s 0))
        (apart-link s 0xff 0xff))
        (apart-link b 0xff 0xff)

-- The last run -------------------------------------------------------------------------------------------------------------------

pair-long : (g : Geometry) (d : List ℕ) (s k u v : ℕ) → length (set_field g (set_field g d s (0x16 + 2 * k) u) s (0x17 + 2 * k) v) ≡ length d
unfolding set_field
pair-long g d s k u v = simp length-set

pub one_of : {g : Geometry} {d : List ℕ} {p e n : ℕ} → Last g d p e n → 0 < n → Last g d p e 1
one_of {g} {d} {p} {e} {n} l h = dropping-one g p (dropping-start g p l) h

-- x runs has the last entry, and the last of them starts at a and has len granules
module _ (g : Geometry) (d : List ℕ) (p e n : ℕ) (l : Last g d p e n) (some : 0 < n) {x a len : ℕ}
    (qx : x ≡ runs g d e) (ql : len ≡ run_length g d e (x - 1)) (qa : a ≡ run_start g d e (x - 1)) where
  one : Last g d p e 1
  one = one_of l some

  pub room : Room g d
  room = (last-reads g d p e one).0

  pub slot : Slot g d e
  slot = (last-reads g d p e one).1

  pub k-low : x - 1 < 4
  k-low = let w = last-run g d p e one in omega arith

  pub on-disk : a + len ≤ granules g
  on-disk = let h = last-granule g d p e one qx ql qa in omega arith

  abbrev i : ℕ
  i = 0x17 + 2 * (x - 1)

  abbrev second : ℕ
  second = field g d e i

  -- the last m granules given back
  abbrev pub freed : ℕ → List ℕ
  freed m = through (free_granule g) d (count (a + len - m) m)

  -- and the run shorter by them
  abbrev shorter : ℕ → List ℕ
  shorter m = set_field g (freed m) e i (second - m)

  same : (m : ℕ) → m ≤ len → Same g d (freed m)
  same m h = let b = on-disk in same-run g false d (a + len - m) m room (omega arith)

  pub freed-long : (m : ℕ) → m ≤ len → length (freed m) ≡ length d
  freed-long m h = (same m h).long

  pub freed-field : (m k : ℕ) → m ≤ len → k < 32 → field g (freed m) e k ≡ field g d e k
  freed-field m k h q = same-field g d (freed m) room (same m h) e k slot q

  -- what the stores into the entry ask
  pub short-fits : {d' : List ℕ} → n < len → d' ≡ freed n → (entry_at g e + 32 ≤ length d') × (x - 1 < 4) × (n ≤ field g d' e i)
  short-fits {d'} h q =
      let b = entry-fits g d e room slot in let w = k-low in
      let z : length d' ≡ length d = ap length q ∙ freed-long n (omega arith) in
      let f : field g d' e i ≡ second = ap (λ (y : List ℕ). field g y e i) q ∙ freed-field n i (omega arith) (omega arith) in
      (omega arith, w, omega (arith, f, ql))

  gone_long : {d' : List ℕ} → d' ≡ through (free_granule g) d (count a len) → length d' ≡ length d
  gone_long q = ap length q ∙ (same-run g false d a len room on-disk).long

  pub gone-fits : {d' : List ℕ} → d' ≡ through (free_granule g) d (count a len) → (entry_at g e + 32 ≤ length d') × (x - 1 < 4)
  gone-fits {d'} q = let b = entry-fits g d e room slot in let z = gone_long q in (omega arith, k-low)

  pub hook-fits : {d' d₁ : List ℕ} {b : ℕ} → d' ≡ through (free_granule g) d (count a len)
      → d₁ ≡ set_field g (set_field g d' e (0x16 + 2 * (x - 1)) 0xff) e i 0xff → extension g d e ≡ true → b ≡ field g d e 1
      → (entry_at g e + 32 ≤ length d₁) × (entry_at g b + 32 ≤ length d₁) × (e < 256)
  hook-fits {d'} {d₁} {b} q z t w =
      let u : length d₁ ≡ length d' = ap length z ∙ pair-long g d' e (x - 1) 0xff 0xff in
      let v = gone_long q in
      let c = entry-fits g d e room slot in
      let f = entry-fits g d b room (subst (Slot g d) (sym w) (last-before g d p e one t)) in
      (omega arith, omega arith, slot.low)

  entry-room : (m : ℕ) → m ≤ len → entry_at g e + i < length (freed m)
  entry-room m h = let b = entry-fits g d e room slot in let q = freed-long m h in let w = k-low in omega arith

  field-here : (m : ℕ) → m ≤ len → field g (shorter m) e i ≡ second - m
  unfolding set_field field
  field-here m h = get_or-set_same (freed m) (entry_at g e + i) (second - m) 0 (entry-room m h)

  field-other : (m k : ℕ) → m ≤ len → k < 32 → k ≢ i → field g (shorter m) e k ≡ field g d e k
  unfolding set_field field
  field-other m k h q o = get_or-set_other (freed m) (entry_at g e + i) (entry_at g e + k) (second - m) 0 (λ z. o (omega arith)) ∙ freed-field m k h q

  runs-are : (m : ℕ) → m ≤ len → x ≡ runs g (shorter m) e
  runs-are m h = qx ∙ sym (Frame.runs-blocks g d (shorter m) e (λ j q. field-other m (0x16 + 2 * j) h (omega arith) (λ z. omega arith)))

  start_is : (m : ℕ) → m < len → a ≡ run_start g (shorter m) e (x - 1)
  start_is m h =
      let v : (second - m) / 32 ≡ second / 32 = omega arith in
      qa ∙ sym (ap₂ (λ (b c : ℕ). b * g.units + c) (field-other m (0x16 + 2 * (x - 1)) (omega arith) (let w = k-low in omega arith) (λ z. omega arith))
      (ap (λ (y : ℕ). y / 32) (field-here m (omega arith)) ∙ v))

  length-is : (m : ℕ) → m < len → len - m ≡ run_length g (shorter m) e (x - 1)
  length-is m h =
      let v : len - m ≡ 1 + (second - m) % 32 = omega arith in
      v ∙ sym (ap (λ (y : ℕ). 1 + y % 32) (field-here m (omega arith)))

  -- one granule more given back
  freed-more : (m : ℕ) → m < len → free_granule g (freed m) (a + (len - m) - 1) ≡ freed (suc m)
  freed-more m h =
      let b = on-disk in
      let j : ℕ = a + (len - m) - 1 in
      let q : j ≡ a + len - suc m = omega arith in
      let w : a + len - m ≡ a + len - suc m + 1 = omega arith in
      free-last g d (a + len - m) m j (bit-fits g d d j room (omega arith) refl).inside
      ∙ ap (λ (y : ℕ). through (free_granule g) (free_granule g d y) (count (a + len - m) m)) q
      ∙ ap (λ (y : ℕ). through (free_granule g) (free_granule g d (a + len - suc m)) (count y m)) w

  shorter-more : (m : ℕ) → suc m < len
      → shorter (suc m) ≡ free_granule g (set_field g (shorter m) e i (field g (shorter m) e i - 1)) (a + (len - m) - 1)
  shorter-more m h =
      let b = on-disk in
      let j : ℕ = a + (len - m) - 1 in
      let v : second - m - 1 ≡ second - suc m = omega arith in
      sym (ap (λ (y : ℕ). free_granule g (set_field g (shorter m) e i (y - 1)) j) (field-here m (omega arith))
      ∙ ap (λ (y : ℕ). free_granule g (set_field g (shorter m) e i y) j) v
      ∙ ap (λ (z : List ℕ). free_granule g z j) (over m)
      ∙ apart-field g room j (omega arith) e i (second - suc m) (freed m)
      ∙ ap (λ (z : List ℕ). set_field g z e i (second - suc m)) (freed-more m (omega arith)))
    where
      over : (m : ℕ) → set_field g (shorter m) e i (second - suc m) ≡ set_field g (freed m) e i (second - suc m)
      over m = unfold set_field in set-set (freed m) (entry_at g e + i) (second - m) (second - suc m)

  none : shorter 0 ≡ d
  unfolding set_field field
  none = ap (set d (entry_at g e + i)) (sub-zero second) ∙ set-get_or d (entry_at g e + i) 0

  -- m granules of the run are dropped, and it has one left
  dropped : (m : ℕ) → m < len → m ≤ n → Dropping g p d n (shorter m) e (n - m)
  dropped zero h q =
      subst (λ (z : List ℕ). Dropping g p d n z e (n - 0)) (sym none)
      (subst (λ (y : ℕ). Dropping g p d n d e y) (sym (sub-zero n)) (dropping-start g p l))
  dropped (suc m) h q =
      let z = dropped m (omega arith) (omega arith) in
      let w : 0 < n - m = omega arith in
      let y : n - m - 1 ≡ n - suc m = omega arith in
      let s =
      by-shorter g (shorter m) p e (dropping-one g p z w) {d₂ = shorter (suc m)} {x = x} {a = a} {len = len - m} (runs-are m (omega arith))
      (length-is m (omega arith)) (start_is m (omega arith))
      (omega arith) refl (shorter-more m h) in
      subst (λ (y : ℕ). Dropping g p d n (shorter (suc m)) e y) y (dropping-step g p z w s)

  -- the run stays
  pub run-stays : {d' d'' : List ℕ} → n < len → d' ≡ freed n → d'' ≡ set_field g d' e i (field g d' e i - n) → Dropping g p d n d'' e 0
  run-stays {d'} {d''} h q z =
      let y : n - n ≡ 0 = omega arith in
      let f : d'' ≡ shorter n = z ∙ ap (λ (w : List ℕ). set_field g w e i (field g w e i - n)) q
      ∙ ap (λ (v : ℕ). set_field g (freed n) e i (v - n)) (freed-field n i (omega arith) (let w = k-low in omega arith)) in
      subst (λ (w : List ℕ). Dropping g p d n w e 0) (sym f) (subst (λ (v : ℕ). Dropping g p d n (shorter n) e v) y (dropped n h (omega arith)))

  -- Its last granule, and with it the run: m are dropped before.
  module _ (m : ℕ) (q : suc m ≡ len) (most : len ≤ n) where
    abbrev before : List ℕ
    before = shorter m

    abbrev emptied : List ℕ → List ℕ
    emptied z = set_field g (set_field g z e (0x16 + 2 * (x - 1)) 0xff) e i 0xff

    single : len - m ≡ 1
    single = omega arith

    emptied-is : emptied before ≡ emptied (freed m)
    unfolding set_field
    emptied-is =
        let b : ℕ = entry_at g e + (0x16 + 2 * (x - 1)) in let c : ℕ = entry_at g e + i in
        ap (λ (z : List ℕ). set z c 0xff) (set_comm (freed m) c b (second - m) 0xff (λ z. omega arith))
        ∙ set-set (set (freed m) b 0xff) c (second - m) 0xff

    whole : freed (suc m) ≡ through (free_granule g) d (count a len)
    whole = ap freed q ∙ ap (λ (y : ℕ). through (free_granule g) d (count y len)) (let z : a + len - len ≡ a = omega arith in z)

    gone : (f : List ℕ → List ℕ) → Apart g (a + (len - m) - 1) f → f (through (free_granule g) d (count a len)) ≡ free_granule g (f (freed m))
        (a + (len - m) - 1)
    gone f h = sym (h (freed m) ∙ ap f (freed-more m (omega arith) ∙ whole))

    low : a + (len - m) - 1 < granules g
    low = let b = on-disk in omega arith

    rest-left : n - m - 1 ≡ n - len
    rest-left = omega arith

    at_last : Dropping g p d n before e (n - m)
    at_last = dropped m (omega arith) (omega arith)

    some_left : 0 < n - m
    some_left = omega arith

    flags-are : field g before e 0 ≡ field g d e 0
    flags-are = field-other m 0 (omega arith) (omega arith) (λ z. omega arith)

    run-gone : {d' d'' : List ℕ} → d' ≡ through (free_granule g) d (count a len) → d'' ≡ emptied d' → (extension g d e && eqb (x - 1) 0) ≡ false
        → Dropping g p d n d'' e (n - len)
    run-gone {d'} {d''} y z o =
        let f : d'' ≡ free_granule g (emptied before) (a + (len - m) - 1)
        = z ∙ ap emptied y ∙ gone emptied (apart-pair g room (a + (len - m) - 1) low e (x - 1) 0xff 0xff) ∙ ap
        (λ (w : List ℕ). free_granule g w (a + (len - m) - 1)) (sym emptied-is) in
        let o' : (extension g before e && eqb (x - 1) 0) ≡ false = ap (λ (v : ℕ). eqb (digit v 7) 1 && eqb (x - 1) 0) flags-are ∙ o in
        let s =
        by-emptied g before p e (dropping-one g p at_last some_left) {d₂ = d''} {x = x} {a = a} {len = len - m} (runs-are m (omega arith))
        (length-is m (omega arith)) (start_is m (omega arith))
        (omega arith) o' refl f in
        subst (λ (y : ℕ). Dropping g p d n d'' e y) rest-left (dropping-step g p at_last some_left s)

    entry_gone : {d' d₁ d'' : List ℕ} {b : ℕ} → d' ≡ through (free_granule g) d (count a len) → d₁ ≡ emptied d' → d'' ≡ unhooked g d₁ e b → extension g d e ≡
        true → x - 1 ≡ 0
        → b ≡ field g d e 1 → Dropping g p d n d'' b (n - len)
    entry_gone {d'} {d₁} {d''} {b} y z v t u w =
        let j : ℕ = a + (len - m) - 1 in
        let f : d'' ≡ free_granule g (unhooked g (emptied before) e b) j
        = v ∙ ap (λ (y : List ℕ). unhooked g y e b) (z ∙ ap emptied y)
        ∙ gone (λ y. unhooked g (emptied y) e b) (apart-then g j emptied (λ y. unhooked g y e b)
        (apart-pair g room j low e (x - 1) 0xff 0xff) (apart-unhooked g room j low e b))
        ∙ ap (λ (w : List ℕ). free_granule g (unhooked g w e b) j) (sym emptied-is) in
        let t' : extension g before e ≡ true = ap (λ (v : ℕ). eqb (digit v 7) 1) flags-are ∙ t in
        let w' : b ≡ field g before e 1 = w ∙ sym (field-other m 1 (omega arith) (omega arith) (λ z. omega arith)) in
        let s =
        by-unhooked g before p e (dropping-one g p at_last some_left) {d₃ = d''} {x = x} {a = a} {len = len - m} (runs-are m (omega arith))
        (length-is m (omega arith)) (start_is m (omega arith))
        (omega arith) t' u w' refl refl f in
        subst (λ (y : ℕ). Dropping g p d n d'' b y) rest-left (dropping-step g p at_last some_left s)

  last_one : len ≤ n → suc (len - 1) ≡ len
  last_one h = omega arith

  pub fewer-left : len ≤ n → n - len < n
  fewer-left h = omega (arith, ql, some)

  pub run-goes : {d' d'' : List ℕ} → len ≤ n → d' ≡ through (free_granule g) d (count a len)
      → d'' ≡ set_field g (set_field g d' e (0x16 + 2 * (x - 1)) 0xff) e i 0xff → (extension g d e && eqb (x - 1) 0) ≡ false → Dropping g p d n d'' e (n - len)
  run-goes h y z o = run-gone (len - 1) (last_one h) h y z o

  pub entry-goes : {d' d₁ d'' : List ℕ} {b : ℕ} → len ≤ n → d' ≡ through (free_granule g) d (count a len)
      → d₁ ≡ set_field g (set_field g d' e (0x16 + 2 * (x - 1)) 0xff) e i 0xff → d'' ≡ unhooked g d₁ e b → extension g d e ≡ true → x - 1 ≡ 0
      → b ≡ field g d e 1 → Dropping g p d n d'' b (n - len)
  entry-goes h y z v t u w = entry_gone (len - 1) (last_one h) h y z v t u w
