-- A file's bytes by parts, and what an accepted read has.
use mathlib.Core.Path.{◌≡◌, refl, sym, ap, ◌∙◌}
use mathlib.Core.List.{List, [], ◌∷◌, ◌++◌, map}
use mathlib.Core.Bool.{Bool, true, false, cond}
use Prim.Native.Nat.{ℕ, zero, suc, ◌+◌, ◌-◌, ◌*◌, ◌/◌, ◌%◌, ◌≤◌, ◌<◌}
use native.Mathlib.Omega.{arith}
use native.Mathlib.Nat.{zero-add, add-zero, mul-le-mul_left}
use native.Mathlib.Numerals.{add-one}
use lib.ListN.{length, get_or, take, drop, length-map}
use lib.Seq.{drop-cons, sets, sets-eq}
use lib.Dec.{ltb, leb}
use borrow.Author.Tests.{leb-true, leb-false, ltb-true, ltb-false, eq-eqb, ne_eqb}
use Rattle.meaning.specs.Lists.{count, all}
use Rattle.lists.specs.Members.{length-count}
use Rattle.meaning.specs.Layout.{byte, sector_numbers, granule_bytes, highest}
use Rattle.lists.specs.Sizes
use Rattle.meaning.specs.Chain.{owned, place}
use Rattle.meaning.specs.Entries.{size_of, sector_count, end_byte}
use Rattle.meaning.specs.Read.{fetch, read_refusals, read_of, sector_refusals, sector_bytes, read_sector}
use Rattle.meaning.specs.Refusals.{first, refusal, handle_refusals, not_for_reading}
use Rattle.meaning.specs.Handles.{in_range, moved_to}
use Rattle.meaning.specs.declared.Geometry.{Geometry}
use Rattle.meaning.specs.declared.Handle.{Handle}
use Rattle.meaning.specs.declared.Answer.{Answer}
use Rattle.meaning.specs.declared.Part.{Part}
use Rattle.meaning.specs.declared.Refusal.{Refusal}
use native.Mathlib.Decide.{ℕ_discrete}
use Rattle.lists.specs.Tests.{all-at, first-at, count-append}
use Rattle.passed.proofs.Checked.{own_row, passed, walks, ranges, handle-stop, handle-then}
use Rattle.seek.proofs.IsWalkable.{owned-low}
use Rattle.copy.proofs.OneByOne.{sets-append}
use Rattle.read.specs.Part.{Readable, Within, Owned, InGranule, part_of}
use borrow.Rule.Slice.Shared.{by_byte}

-- bytes whose places follow one another
pub map-run : (d : List ℕ) (f : ℕ → ℕ) (i a n : ℕ) → ((t : ℕ) → t < n → f (i + t) ≡ a + t) → a + n ≤ length d
    → map (λ j. byte d (f j)) (count i n) ≡ take n (drop a d)
map-run d f i a zero h l = refl
map-run d f i a (suc n) h l =
    let e : f i ≡ a = ap f (sym (add-zero i)) ∙ h 0 (omega arith) ∙ add-zero a in
    let ih : map (λ j. byte d (f j)) (count (i + 1) n) ≡ take n (drop (a + 1) d)
    = map-run d f (i + 1) (a + 1) n
    (λ t q. let u : i + 1 + t ≡ i + (t + 1) = omega arith in let v : a + (t + 1) ≡ a + 1 + t = omega arith in ap f u ∙ h (t + 1) (omega arith) ∙ v)
    (omega arith) in
    ap (λ (k : ℕ). byte d k ∷ map (λ j. byte d (f j)) (count (i + 1) n)) e
    ∙ ap (λ (r : List ℕ). byte d a ∷ r) (ih ∙ ap (λ (k : ℕ). take n (drop k d)) (add-one a))
    ∙ sym (ap (take (suc n)) (drop-cons d a 0 (omega arith)))

map_both : (f : ℕ → ℕ) (xs ys : List ℕ) → map f (xs ++ ys) ≡ map f xs ++ map f ys
map_both f [] ys = refl
map_both f (x ∷ xs) ys = ap (λ (r : List ℕ). f x ∷ r) (map_both f xs ys)

module _ (g : Geometry) (d : List ℕ) where
  pub place-next : (s i t : ℕ) → i % granule_bytes g + t < granule_bytes g → place g d s (i + t) ≡ place g d s i + t
  unfolding place
  place-next s i t h =
      let q : i + t ≡ granule_bytes g * (i / granule_bytes g) + (i % granule_bytes g + t) = omega (arith, (Sizes.split (Sizes.bytes_pos g) i).is) in
      let e : (i + t) / granule_bytes g ≡ i / granule_bytes g = ap (λ (j : ℕ). j / granule_bytes g) q ∙ Sizes.at_width _ _ h in
      let f : (i + t) % granule_bytes g ≡ i % granule_bytes g + t = ap (λ (j : ℕ). j % granule_bytes g) q ∙ Sizes.at_rest _ _ h in
      ap (λ (k : ℕ). granule_bytes g * get_or (owned g d s) k 0 + (i + t) % granule_bytes g) e ∙
      (let z : granule_bytes g * get_or (owned g d s) (i / granule_bytes g) 0 + (i + t) % granule_bytes g ≡ granule_bytes g * get_or (owned g d s)
      (i / granule_bytes g) 0 + i % granule_bytes g + t = omega arith in z)

  pub place-fits : (s i n : ℕ) → Readable g d s → Owned g d s i n → InGranule g i n → place g d s i + n ≤ length d
  unfolding place
  place-fits s i n f o x =
      let a = o.owned in let b = o.some in let y = x.inside in let w = f.sound.room.whole in
      let l = owned-low g d f.sound s f.used (i / granule_bytes g) (Sizes.width-lt (Sizes.bytes_pos g) i _ (omega arith)) in
      omega (arith, mul-le-mul_left (granule_bytes g) l)

  pub fetch-part : (s i n : ℕ) → Readable g d s → Owned g d s i n → InGranule g i n → fetch g d s i n ≡ take n (drop (place g d s i) d)
  unfolding fetch
  fetch-part s i n f o x =
      let y = x.inside in
      map-run d (place g d s) i (place g d s i) n (λ t q. place-next s i t (omega arith)) (place-fits s i n f o x)

  pub fetch-append : (s i m n : ℕ) → fetch g d s i (m + n) ≡ fetch g d s i m ++ fetch g d s (i + m) n
  unfolding fetch
  fetch-append s i m n = ap (map (λ j. byte d (place g d s j))) (count-append i m n) ∙ map_both (λ j. byte d (place g d s j)) (count i m) (count (i + m) n)

  pub length-fetch : (s i n : ℕ) → length (fetch g d s i n) ≡ n
  unfolding fetch
  length-fetch s i n = length-map (count i n) (λ j. byte d (place g d s j)) ∙ length-count i n

  pub front : (b xs : List ℕ) (n : ℕ) → length xs ≡ n → n ≤ length b → sets b 0 xs ≡ xs ++ drop n b
  front b xs n e h =
      sets-eq xs b 0 (rw e (omega arith)) ∙ ap (λ (k : ℕ). xs ++ drop k b) (zero-add (length xs) ∙ e)

  -- `done` bytes from byte i on are in the buffer
  pub record Reading (s i : ℕ) (b b' : List ℕ) (done : ℕ) : Type 0 where
    pub is : b' ≡ sets b 0 (fetch g d s i done)

  pub reading-start : (s i : ℕ) (b : List ℕ) → Reading s i b b 0
  unfolding fetch
  reading-start s i b = record { is = refl }

  pub reading_step : {s i done : ℕ} (m : ℕ) {b b' b'' : List ℕ} → Reading s i b b' done
      → b'' ≡ sets b' done (fetch g d s (i + done) m) → Reading s i b b'' (done + m)
  reading_step {s} {i} {done} m {b} {b'} {b''} r f =
      record {
        is =
            f ∙ ap (λ (x : List ℕ). sets x done (fetch g d s (i + done) m)) r.is
            ∙ ap (λ (k : ℕ). sets (sets b 0 (fetch g d s i done)) k (fetch g d s (i + done) m))
            (sym (zero-add (length (fetch g d s i done)) ∙ length-fetch s i done))
            ∙ sym (sets-append b 0 (fetch g d s i done) (fetch g d s (i + done) m))
            ∙ ap (sets b 0) (sym (fetch-append s i done m));
      }

  pub reading-end : {s i n done : ℕ} {b b' : List ℕ} → Reading s i b b' done → done ≤ n → n ≤ done → n ≤ length b → b' ≡ fetch g d s i n ++ drop n b
  reading-end {s} {i} {n} {done} {b} r h k l =
      let e : done ≡ n = omega arith in
      r.is ∙ ap (λ (j : ℕ). sets b 0 (fetch g d s i j)) e ∙ front b (fetch g d s i n) n (length-fetch s i n) l

  -- m bytes of those, `done` bytes on
  pub owned-part : {s i n : ℕ} (done m : ℕ) → Within g d s i n → 1 ≤ m → done + m ≤ n → Owned g d s (i + done) m
  owned-part done m o h l = let a = o.owned in let b = o.high in record { some = h; owned = omega arith; high = omega arith }

  -- the tests of a reading call: those of its handle, then 10; q is the call's test 12 as the definition has it
  pub reading-stop : (h : Handle) (q : Bool) (rest : List (ℕ × Bool)) {ranged : Bool} {n : ℕ} → ranged ≡ q
      → n ≡ first (handle_refusals g d h ranged (not_for_reading h ∷ [])) → (n ≡ 0 → ⊥) → n ≡ first (handle_refusals g d h q (not_for_reading h ∷ rest))
  reading-stop h q rest r e z =
      handle-stop g d h q (not_for_reading h ∷ []) rest (e ∙ ap (λ (t : Bool). first (handle_refusals g d h t (not_for_reading h ∷ []))) r) z

  pub reading-then : (h : Handle) (q : Bool) (rest : List (ℕ × Bool)) {ranged : Bool} {n : ℕ} → ranged ≡ q
      → n ≡ first (handle_refusals g d h ranged (not_for_reading h ∷ [])) → n ≡ 0 → first (handle_refusals g d h q (not_for_reading h ∷ rest)) ≡ first rest
  reading-then h q rest r e z =
      handle-then g d h q (not_for_reading h ∷ []) rest refl (e ∙ ap (λ (t : Bool). first (handle_refusals g d h t (not_for_reading h ∷ []))) r) z

  -- a read of n bytes, refused and accepted
  pub refused : (h : Handle) (n : ℕ) (b : List ℕ) {no : ℕ} {c : Refusal} → c ≡ refusal g d no → no ≡ first (read_refusals g d h n (length b))
      → (no ≡ 0 → ⊥) → ◌≡◌ {A = Answer × List ℕ} (record { refusal = c; handle = h }, b) (read_of g d h n b)
  unfolding read_of
  refused h n b {no} q e z = rw (← e, ne_eqb no 0 z, q)

  pub accepted : (h : Handle) (n : ℕ) (b : List ℕ) {b' : List ℕ} {no : ℕ} {c : Refusal} → c ≡ refusal g d 0 → no ≡ first (read_refusals g d h n (length b))
      → no ≡ 0 → b' ≡ fetch g d h.slot h.at n ++ drop n b
      → ◌≡◌ {A = Answer × List ℕ} (record { refusal = c; handle = moved_to h (h.at + n) }, b') (read_of g d h n b)
  unfolding read_of
  accepted h n b {b'} {no} q e z f = rw (← e, z, f, q)

  pub record Allowed (h : Handle) (n room : ℕ) : Type 0 where
    pub file : Readable g d h.slot
    pub within : Within g d h.slot h.at n
    pub fits : n ≤ room

  -- position and length of a read whose range was tested
  pub read-reach : (h : Handle) (n room : ℕ) → all (in_range g h ∷ leb n (highest g) ∷ leb n room ∷ []) ≡ true → h.at + n ≤ 16777215
  read-reach h n room w =
      let r = ranges g d h (all-at _ w 0) in
      omega (arith, r.0, leb-true n (highest g) (all-at _ w 1), Sizes.bytes-are g, Sizes.sectors-most g)

  pub allowed : (h : Handle) (n room : ℕ) → first (read_refusals g d h n room) ≡ 0 → Allowed h n room
  allowed h n room e =
      let t : (k : ℕ) → (get_or (read_refusals g d h n room) k (0, false)).1 ≡ false = λ k. first-at (read_refusals g d h n room) e refl k in
      let p = passed g d h (all (in_range g h ∷ leb n (highest g) ∷ leb n room ∷ [])) _ refl (sym e) refl in
      let w = walks g d h _ p in
      let l = leb-true n room (all-at _ p.ranged' 2) in
      let z = ltb-false (size_of g d h.slot) (h.at + n) (t (own_row 3)) in
      let y = w.0.size h.slot p.slot p.first' in
      record {
        file = record { sound = w.0; used = w.1 };
        within = record { owned = omega arith; high = read-reach h n room p.ranged' };
        fits = l;
      }

  whole-size : (s : ℕ) → end_byte g d s ≡ 0 → size_of g d s ≡ 256 * sector_count g d s
  unfolding size_of
  whole-size s e = ap (λ (b : Bool). cond b (256 * sector_count g d s) (256 * (sector_count g d s - 1) + end_byte g d s)) (eq-eqb (end_byte g d s) 0 e)

  part-size : (s : ℕ) → (end_byte g d s ≡ 0 → ⊥) → size_of g d s ≡ 256 * (sector_count g d s - 1) + end_byte g d s
  unfolding size_of
  part-size s e = ap (λ (b : Bool). cond b (256 * sector_count g d s) (256 * (sector_count g d s - 1) + end_byte g d s)) (ne_eqb (end_byte g d s) 0 e)

  -- the bytes of sector k: in the last sector what the end byte says, 256 in one before
  module _ (s k : ℕ) where
    pub bytes-before : (k + 1 ≡ sector_count g d s → ⊥) → 256 ≡ sector_bytes g d s k
    bytes-before h = sym (ap (λ (b : Bool). cond b (size_of g d s - 256 * k) 256) (ne_eqb (suc k) (sector_count g d s) (λ q. h (add-one k ∙ q))))

    last : k + 1 ≡ sector_count g d s → sector_bytes g d s k ≡ size_of g d s - 256 * k
    last h = ap (λ (b : Bool). cond b (size_of g d s - 256 * k) 256) (eq-eqb (suc k) (sector_count g d s) (sym (add-one k) ∙ h))

    pub bytes_whole : k + 1 ≡ sector_count g d s → end_byte g d s ≡ 0 → 256 ≡ sector_bytes g d s k
    bytes_whole h e =
        let z : 256 * sector_count g d s - 256 * k ≡ 256 = omega arith in
        sym (last h ∙ ap (λ (x : ℕ). x - 256 * k) (whole-size s e) ∙ z)

    pub bytes-last : k + 1 ≡ sector_count g d s → (end_byte g d s ≡ 0 → ⊥) → end_byte g d s ≡ sector_bytes g d s k
    bytes-last h e =
        let z : 256 * (sector_count g d s - 1) + end_byte g d s - 256 * k ≡ end_byte g d s = omega arith in
        sym (last h ∙ ap (λ (x : ℕ). x - 256 * k) (part-size s e) ∙ z)

    -- they are within the size
    pub bytes_fit : k < sector_count g d s → (256 * k + sector_bytes g d s k ≤ size_of g d s) × (1 ≤ sector_bytes g d s k)
    bytes_fit h = by (ℕ_discrete (k + 1) (sector_count g d s)) (ℕ_discrete (end_byte g d s) 0)
      where
        by : Dec (k + 1 ≡ sector_count g d s) → Dec (end_byte g d s ≡ 0) → (256 * k + sector_bytes g d s k ≤ size_of g d s) × (1 ≤ sector_bytes g d s k)
        by (yes e) (yes z) = rw (← bytes_whole e z, whole-size s z) (omega arith, omega arith)
        by (yes e) (no z) = rw (← bytes-last e z, part-size s z) (omega arith, omega arith)
        by (no e) (yes z) = rw (← bytes-before e, whole-size s z) (omega arith, omega arith)
        by (no e) (no z) = rw (← bytes-before e, part-size s z) (omega arith, omega arith)

  -- an accepted sector read
  pub record Sector (h : Handle) (k : ℕ) : Type 0 where
    pub file : Readable g d h.slot
    pub held : k < sector_count g d h.slot
    pub some : 1 ≤ sector_bytes g d h.slot k
    pub owned : 256 * k + sector_bytes g d h.slot k ≤ granule_bytes g * length (owned g d h.slot)
    pub low : k < 30720

  -- the part ends inside the image
  pub sector-lies : (h : Handle) (k : ℕ) {n : ℕ} → Sector h k → n ≡ sector_bytes g d h.slot k → n ≤ 256 → place g d h.slot (256 * k) + n ≤ length d
  sector-lies h k {n} q e l =
      let a = q.some in let b = q.owned in let c = q.low in
      place-fits h.slot (256 * k) n q.file (record { some = omega arith; owned = omega arith; high = omega arith })
      (record { inside = omega (arith, Sizes.sector-begin g k, Sizes.bytes-are g, (Sizes.split (Sizes.sectors-pos g) k).rest) })

  pub sector : (h : Handle) (k : ℕ) {n : ℕ} → n ≡ first (sector_refusals g d h k) → n ≡ 0 → Sector h k
  sector h k e z =
      let t : (j : ℕ) → (get_or (sector_refusals g d h k) j (0, false)).1 ≡ false = λ j. first-at (sector_refusals g d h k) (sym e ∙ z) refl j in
      let p = passed g d h (all (in_range g h ∷ ltb k (sector_numbers g) ∷ [])) _ refl e z in
      let w = walks g d h _ p in
      let l = ltb-true k (sector_numbers g) (all-at _ p.ranged' 1) in
      let c = leb-false (sector_count g d h.slot) k (t (own_row 3)) in
      let b = bytes_fit h.slot k (omega arith) in
      let y = w.0.size h.slot p.slot p.first' in
      record {
        file = record { sound = w.0; used = w.1 };
        held = omega arith;
        some = b.1;
        owned = omega arith;
        low = omega (arith, l, Sizes.sectors-most g);
      }

  pub sector-refused : (h : Handle) (k : ℕ) {n : ℕ} {c : Refusal} → c ≡ refusal g d n → n ≡ first (sector_refusals g d h k) → (n ≡ 0 → ⊥)
      → ◌≡◌ {A = Part} (record { refusal = c; from = 0; to = 0 }) (read_sector g d h k)
  unfolding read_sector
  sector-refused h k {n} q e z = rw (← e, ne_eqb n 0 z, q)

  pub sector-accepted : (h : Handle) (k : ℕ) {n from bytes : ℕ} {c : Refusal} → c ≡ refusal g d 0 → n ≡ first (sector_refusals g d h k) → n ≡ 0
      → from ≡ place g d h.slot (256 * k) → bytes ≡ sector_bytes g d h.slot k
      → ◌≡◌ {A = Part} (record { refusal = c; from = from; to = from + bytes }) (read_sector g d h k)
  unfolding read_sector
  sector-accepted h k q e z f b = rw (← e, z, f, b, q)

  -- the part that is handed back: its bytes, and its place
  pub part-is : (h : Handle) (k : ℕ) {p : Part} → p ≡ read_sector g d h k
      → ◌≡◌ {A = ℕ × ℕ × List ℕ} (p.refusal.number, p.refusal.at, take (p.to - p.from) (drop p.from d)) (part_of d (read_sector g d h k))
  unfolding part_of
  part-is h k e = ap (part_of d) e

-- a part of bytes that starts so many bytes on
pub part-ptr : (a base : ℕ) → by_byte a base ≡ base + a
part-ptr a base = omega arith
