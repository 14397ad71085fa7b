-- A write of many bytes that takes no granule is the writes of fewer that make it up
use Rattle.std.specs.Prelude.{◌≡◌, refl, ◌≢◌, ◌⊎◌, Bool, not, ℕ, zero, suc, ◌+◌, ◌-◌, ◌*◌, ◌/◌, ◌%◌, ◌≤◌, ◌<◌, leb, ltb, set, take, drop, replicate}
use Rattle.std.proofs.Math.Path.{ap, sym}
use Rattle.std.proofs.Common.{◌∙◌, subst, inl, inr, length-take, length-drop, take-add}
use Rattle.std.proofs.Math.Bool.{true, false}
use mathlib.Core.List.{List, [], ◌∷◌, ◌++◌}
use native.Mathlib.Omega.{arith}
use Rattle.std.proofs.Math.Decide.{ℕ_discrete, dec_lt}
use Rattle.std.proofs.Math.Dec.{T, ltb→lt, nltb→le, not_T, T_not}
use Rattle.std.proofs.Math.ListN.{length, get_or, length-set}
use Rattle.std.proofs.Math.Seq.{get_or-set_same, get_or-set_other, set_out, ext_get_or}
use Rattle.meaning.specs.Lists.{all, any, first}
use Rattle.meaning.specs.Bits.{put_digit, with_bit}
use Rattle.meaning.specs.Layout.{fits_geometry, directory_granules, byte, field, entry_at, granule_bytes, highest, round_up}
use Rattle.meaning.specs.Entries.{size_of, system, name_of, no_growth, sectors_for, end_byte_for}
use Rattle.meaning.specs.Chain.{owned, place}
use Rattle.meaning.specs.Free.{free_granules}
use Rattle.meaning.specs.Growth.{growth, grow_by, or_else, fails, disk_or, with_granules}
use Rattle.meaning.specs.Handles.{in_range, fresh, moved_to}
use Rattle.meaning.specs.Refusals.{cannot_grow, protected}
use Rattle.meaning.specs.Write.{store, size_after, with_size, to_write, write_of}
use Rattle.meaning.specs.declared.Geometry.{Geometry}
use Rattle.meaning.specs.declared.Handle.{Handle}
use Rattle.meaning.specs.declared.Mode.{Mode}
use Rattle.meaning.specs.declared.Mode.TheVariants.{Sequential, Random}
use Rattle.lists.specs.Sizes
use Rattle.lists.specs.Members
use Rattle.laws.specs.Facts
use Rattle.laws.specs.Facts.{Sound, IsFile}
use Rattle.laws.specs.Places
use Rattle.laws.specs.Change
use Rattle.laws.specs.Others
use Rattle.laws.specs.Rewrite
use Rattle.laws.specs.Store.{store_length, store_other, store-append}
use Rattle.laws.specs.Passed
use Rattle.laws.specs.Words.{words}
use Rattle.promises.specs.Promises.{InRange}
use Rattle.promises.specs.Refusing
use Rattle.promises.specs.Passing
use Rattle.promises.specs.Passing.{Has}
use Rattle.promises.specs.Write
use Rattle.promises_parts.specs.Statement.{sum, AllWritten, written_by, written_to, WrittenInParts}

-- Bytes ----------------------------------------------------------------------------------------------------------------------------------

-- two images that are alike at a place are alike there after the same stores
same_set : (x y : List ℕ) (p v j : ℕ) → length x ≡ length y → p < length x → (j ≢ p → byte x j ≡ byte y j) → byte (set x p v) j ≡ byte (set y p v) j
same_set x y p v j l r h = go (ℕ_discrete j p)
  where
    go : Dec (j ≡ p) → byte (set x p v) j ≡ byte (set y p v) j
    go (yes q) = rw q (get_or-set_same x p v 0 r ∙ sym (get_or-set_same y p v 0 (omega (arith, l, r))))
    go (no q) = get_or-set_other x p j v 0 q ∙ h q ∙ sym (get_or-set_other y p j v 0 q)

same-long : (x y : List ℕ) (p v : ℕ) → length x ≡ length y → length (set x p v) ≡ length (set y p v)
same-long x y p v l = length-set x p v ∙ l ∙ sym (length-set y p v)

same_store : (F : ℕ → ℕ) (bs x y : List ℕ) (i j : ℕ) → length x ≡ length y → byte x j ≡ byte y j → byte (store F x i bs) j ≡ byte (store F y i bs) j
unfolding store
same_store F [] x y i j l h = h
same_store F (b ∷ bs) x y i j l h =
    same_store F bs (set x (F i) b) (set y (F i) b) (i + 1) j (same-long x y (F i) b l) (one (dec_lt (F i) (length x)))
  where
    one : Dec (F i < length x) → byte (set x (F i) b) j ≡ byte (set y (F i) b) j
    one (yes r) = same_set x y (F i) b j l r (λ q. h)
    one (no r) = rw (set_out x (F i) b (omega arith), set_out y (F i) b (omega (arith, l))) h

-- a bit set twice is set
bit-twice : (x u : ℕ) → put_digit (put_digit x u 1) u 1 ≡ put_digit x u 1
unfolding put_digit
bit-twice x zero = omega arith
bit-twice x (suc u) =
    let h : (put_digit (x / 2) u 1 * 2 + x % 2) / 2 ≡ put_digit (x / 2) u 1 = omega arith in
    let k : (put_digit (x / 2) u 1 * 2 + x % 2) % 2 ≡ x % 2 = omega arith in
    rw (h, k, bit-twice (x / 2) u)

-- the size after two writes, the second one further on
after-twice : (m : Mode) (old a b : ℕ) → a ≤ b → size_after m (size_after m old a) b ≡ size_after m old b
unfolding size_after
after-twice Sequential old a b h = refl
after-twice Random old a b h = omega arith

after_less : (m : Mode) (old a b : ℕ) → a ≤ b → size_after m old a ≤ size_after m old b
unfolding size_after
after_less Sequential old a b h = h
after_less Random old a b h = omega arith

-- What a writer may do -------------------------------------------------------------------------------------------------------------------

-- write that far, into granules that the file owns
record MayWrite (g : Geometry) (d : List ℕ) (m : Mode) (h : Handle) (n : ℕ) (b : List ℕ) : Type 0 where
  has : Has g d h
  user : T (not (system g d h.slot))
  ranged : InRange g h
  level : h.level ≤ 4
  top : h.at + n ≤ highest g
  room : n ≤ length b
  fit : size_after m (size_of g d h.slot) (h.at + n) ≤ granule_bytes g * length (owned g d h.slot)

-- no row of a write holds where no granule is needed
no_row : (a b c : Bool) (cs : List (ℕ × Bool)) → a ≡ true → b ≡ true → c ≡ false → first cs ≡ 0 → first ((12, not a) ∷ (7, not b) ∷ (6, c) ∷ cs) ≡ 0
unfolding first
no_row a b c cs p q r s = rw (p, q, r) s

no-growth-row : (a b : Bool) → b ≡ false → first ((11, all (a ∷ false ∷ [])) ∷ (9, b) ∷ (8, false) ∷ []) ≡ 0
unfolding first all
no-growth-row true b e = rw e
no-growth-row false b e = rw e

-- the image after a write into granules that the file owns
abbrev over : Geometry → List ℕ → ℕ → Mode → ℕ → ℕ → List ℕ → List ℕ
over g d p m at len r =
    with_size g (store (place g d p) (store (place g d p) d (size_of g d p) (replicate (at - size_of g d p) 0)) at r) p
    (size_after m (size_of g d p) (at + len))

module _ (g : Geometry) (d : List ℕ) (m : Mode) (h : Handle) (n : ℕ) (b : List ℕ) where
  abbrev tests : List Bool
  tests = in_range g h ∷ leb (h.at + n) (highest g) ∷ leb n (length b) ∷ []

  may : (write_of g d m h n b).0.refusal.number ≡ 0 → to_write g d m h n ≡ 0 → MayWrite g d m h n b
  unfolding write_of
  may e z =
      let t = Passing.handle-passed g d h (all tests) (protected g d 4 h ∷ cannot_grow g d h.slot (to_write g d m h n)) e in
      let r = (Refusing.three-iff g d (in_range g h) (leb (h.at + n) (highest g)) (leb n (length b))
      (Refusing.range-iff g h) (Refusing.le_iff (h.at + n) (highest g)) (Refusing.le_iff n (length b))).0 t.1 in
      let p = Passed.passed 6 _ _ (omega arith) t.2 in
      record {
        has = t.0;
        user = not_T (system g d h.slot) (λ q. p.0 (Members.any-r (ltb 4 h.level) (system g d h.slot) q));
        ranged = r.0;
        level = nltb→le 4 h.level (not_T (ltb 4 h.level) (λ q. p.0 (Members.any-l (ltb 4 h.level) (system g d h.slot) q)));
        top = r.1;
        room = r.2;
        fit = Sizes.round-fits (Sizes.bytes_pos g) _ _ (omega (arith, z));
      }

  module _ (w : MayWrite g d m h n b) where
    none-lacking : to_write g d m h n ≡ 0
    none-lacking = let k = Sizes.round-least (Sizes.bytes_pos g) _ _ w.fit in omega arith

    none-grown : first (cannot_grow g d h.slot 0) ≡ 0
    unfolding growth grow_by or_else fails
    none-grown =
        no-growth-row (no_growth g d h.slot) (ltb (length (free_granules g d)) 0)
        (Members.no_false (λ t. let k = ltb→lt (length (free_granules g d)) 0 t in omega arith))

    write-passes : (write_of g d m h n b).0.refusal.number ≡ 0
    unfolding write_of
    write-passes =
        let ranged : all tests ≡ true = Members.T_true ((Refusing.three-iff g d (in_range g h) (leb (h.at + n) (highest g)) (leb n (length b))
        (Refusing.range-iff g h) (Refusing.le_iff (h.at + n) (highest g)) (Refusing.le_iff n (length b))).1 (w.ranged, w.top, w.room)) in
        let live : fresh g d h ≡ true = Members.T_true ((Refusing.live-iff g d h).1 w.has.live) in
        let free : any (ltb 4 h.level ∷ system g d h.slot ∷ []) ≡ false = Members.no_false (λ t. barred (Members.any-e _ _ t)) in
        Passed.disk-passes g d _ (Members.T_true w.has.fits) (Facts.back g d w.has.sound)
        ∙ no_row (all tests) (fresh g d h) _ _ ranged live free (ap (λ (k : ℕ). first (cannot_grow g d h.slot k)) none-lacking ∙ none-grown)
      where
        barred : T (ltb 4 h.level) ⊎ T (system g d h.slot) → ⊥
        barred (inl t) = let k = ltb→lt 4 h.level t in let l = w.level in omega arith
        barred (inr t) = T_not (system g d h.slot) w.user t

    image-is : (write_of g d m h n b).1 ≡ over g d h.slot m h.at n (take n b)
    unfolding write_of growth grow_by or_else disk_or
    image-is = rw write-passes (ap (λ (y : ℕ).
        let d₁ = with_granules g d h.slot y in let p = h.slot in
        with_size g (store (place g d₁ p) (store (place g d₁ p) d₁ (size_of g d p) (replicate (h.at - size_of g d p) 0)) h.at (take n b)) p
        (size_after m (size_of g d p) (h.at + n))) none-lacking)

    handle-is : (write_of g d m h n b).0.handle ≡ moved_to h (h.at + n)
    unfolding write_of
    handle-is = rw write-passes

    long : length (take n b) ≡ n
    long = length-take n b ∙ omega (arith, w.room)

-- Two writes in one ------------------------------------------------------------------------------------------------------------------------

first_part : (g : Geometry) (d : List ℕ) (m : Mode) (h : Handle) (n k : ℕ) (b : List ℕ) → MayWrite g d m h (n + k) b → MayWrite g d m h n b
first_part g d m h n k b w =
    let t = w.top in let r = w.room in let f = w.fit in
    record {
      has = w.has;
      user = w.user;
      ranged = w.ranged;
      level = w.level;
      top = omega arith;
      room = omega arith;
      fit = omega (arith, after_less m (size_of g d h.slot) (h.at + n) (h.at + (n + k)) (omega arith));
    }

module _ (g : Geometry) (d : List ℕ) (m : Mode) (h : Handle) (n k : ℕ) (b : List ℕ) (w : MayWrite g d m h (n + k) b) where
  abbrev p : ℕ
  p = h.slot

  abbrev old : ℕ
  old = size_of g d h.slot

  abbrev F : ℕ → ℕ
  F = place g d h.slot

  abbrev xs : List ℕ
  xs = take n b

  abbrev ys : List ℕ
  ys = take k (drop n b)

  abbrev i : ℕ
  i = h.at + n

  abbrev size₁ : ℕ
  size₁ = size_after m old i

  -- the image with the first part in it, before and after its size is set
  abbrev X : List ℕ
  X = store F (store F d old (replicate (h.at - old) 0)) h.at xs

  abbrev d₁ : List ℕ
  d₁ = with_size g X p size₁

  one : MayWrite g d m h n b
  one = first_part g d m h n k b w

  c : Sound g d
  c = w.has.sound

  fits : Places.Fits g d
  fits = Places.fits g d w.has.fits

  file : IsFile g d p
  file = Passing.live-file g d h w.has.live

  long₁ : length xs ≡ n
  long₁ = long g d m h n b one

  end : h.at + length xs ≤ granule_bytes g * length (owned g d p)
  end = omega (arith, long₁, one.fit, Rewrite.after-end m old i)

  rewrites : Rewrite.Rewrites g d d₁ p
  rewrites = Write.write-rewrites g d c fits p file w.user h.at size₁ xs end one.fit

  size_is : size_of g d₁ p ≡ size₁
  size_is = Write.new-size g d c fits p file w.user h.at size₁ xs end one.fit

  owned-is : owned g d₁ p ≡ owned g d p
  owned-is = Rewrite.rw-owned g d d₁ c p file rewrites

  file₁ : IsFile g d₁ p
  file₁ = Rewrite.rw-file g d d₁ c p file rewrites

  sound₁ : Sound g d₁
  sound₁ = Change.changed g d d₁ c p (Rewrite.rw-change g d d₁ c p file rewrites w.user)

  as_long : length d₁ ≡ length d
  unfolding words
  as_long = simp (length-set, store_length)

  fits₁ : T (fits_geometry g d₁)
  unfolding fits_geometry
  fits₁ = rw as_long w.has.fits

  user₁ : T (not (system g d₁ p))
  user₁ = rw (rewrites.fixed 0 (omega arith) (record { flags = omega arith; ends = omega arith; low = omega arith; high = omega arith })) w.user

  next-part : MayWrite g d₁ m (moved_to h (h.at + n)) k (drop n b)
  next-part =
      let t = w.top in let r = w.room in let l = w.has.live in
      let after : size_after m (size_of g d₁ p) (i + k) ≡ size_after m old (h.at + (n + k)) =
      ap (λ (s : ℕ). size_after m s (i + k)) size_is ∙ after-twice m old i (i + k) (omega arith) ∙ ap (size_after m old) (omega arith) in
      record {
        has = record {
          fits = fits₁;
          sound = sound₁;
          live = record {
            slot = file₁.slot;
            used = Facts.file-in-use g d₁ p file₁;
            first = Facts.file-first g d₁ p file₁;
            name' = Rewrite.rw-name g d d₁ c p file rewrites ∙ l.name';
          };
        };
        user = user₁;
        ranged = Passing.further g h (h.at + n) w.ranged (omega arith);
        level = w.level;
        top = omega arith;
        room = omega (arith, length-drop n b);
        fit = rw (after, owned-is) w.fit;
      }

  -- no byte of the file lies in its entry
  apart : (j : ℕ) → j < 32 → (y : ℕ) → i ≤ y → y < i + length ys → entry_at g p + j ≢ F y
  apart j l y a z q =
      let s = Places.slot g d p file.slot in let e = Places.dir g d c.dir in
      let inside : y < granule_bytes g * length (owned g d p) = omega (arith, length-take k (drop n b), w.fit, Rewrite.after-end m old (h.at + (n + k))) in
      (Change.filed-at g d c p file).off w.user (F y / granule_bytes g) (Others.place_in g d p y inside)
      (subst (λ (x : ℕ). Members.In (x / granule_bytes g) (directory_granules g d)) q
      (Write.in-directory g d (entry_at g p + j) fits.start-at e (omega arith) (omega arith)))

  -- the second part stored in either
  abbrev A : List ℕ
  A = store F d₁ i ys

  abbrev B : List ℕ
  B = store F X i ys

  long-X : length X ≡ length d
  long-X = store_length F xs _ h.at ∙ store_length F (replicate (h.at - old) 0) d old

  long-A : length A ≡ length B
  long-A = store_length F ys d₁ i ∙ as_long ∙ sym (store_length F ys X i ∙ long-X)

  room₁ : entry_at g p + 32 ≤ length d
  room₁ = let a = Places.dir g d c.dir in let s = Places.slot g d p file.slot in let f = fits in omega (arith, f.size)

  room-A : entry_at g p + 32 ≤ length A
  room-A = let l = store_length F ys d₁ i in omega (arith, room₁, as_long)

  -- the four stores of a size, one after the other
  abbrev ended : ℕ → List ℕ → List ℕ
  ended s x = set x (entry_at g p + 3) (end_byte_for s)

  abbrev low : ℕ → List ℕ → List ℕ
  low s x = set (ended s x) (entry_at g p + 0x14) (sectors_for s % 256)

  abbrev high : ℕ → List ℕ → List ℕ
  high s x = set (low s x) (entry_at g p + 0x15) (sectors_for s / 256)

  abbrev sized : ℕ → List ℕ → ℕ → List ℕ
  sized s x v = set (high s x) (entry_at g p + 1) v

  off : (j : ℕ) → j ≢ entry_at g p + 1 → j ≢ entry_at g p + 0x15 → j ≢ entry_at g p + 0x14 → j ≢ entry_at g p + 3 → byte A j ≡ byte B j
  unfolding words
  off j a b₁ c₁ e =
      same_store F ys d₁ X i j (as_long ∙ sym long-X)
      (get_or-set_other (high size₁ X) (entry_at g p + 1) j (with_bit 5 (field g X p 1)) 0 a
      ∙ get_or-set_other (low size₁ X) (entry_at g p + 0x15) j (sectors_for size₁ / 256) 0 b₁
      ∙ get_or-set_other (ended size₁ X) (entry_at g p + 0x14) j (sectors_for size₁ % 256) 0 c₁
      ∙ get_or-set_other X (entry_at g p + 3) j (end_byte_for size₁) 0 e)

  -- B is set in both
  worked : with_bit 5 (field g A p 1) ≡ with_bit 5 (field g B p 1)
  unfolding words
  worked =
      let inside : entry_at g p + 1 < length (high size₁ X) = simp length-set (omega (arith, room₁, long-X)) in
      let a : field g A p 1 ≡ with_bit 5 (field g X p 1) = store_other F ys d₁ i (entry_at g p + 1) (apart 1 (omega arith))
      ∙ get_or-set_same (high size₁ X) (entry_at g p + 1) (with_bit 5 (field g X p 1)) 0 inside in
      let e : field g B p 1 ≡ field g X p 1 = store_other F ys X i (entry_at g p + 1) (apart 1 (omega arith)) in
      ap (with_bit 5) a ∙ bit-twice (field g X p 1) 5 ∙ sym (ap (with_bit 5) e)

  ended-long : (s : ℕ) → length (ended s A) ≡ length (ended s B)
  ended-long s = same-long A B (entry_at g p + 3) (end_byte_for s) long-A

  low-long : (s : ℕ) → length (low s A) ≡ length (low s B)
  low-long s = same-long (ended s A) (ended s B) (entry_at g p + 0x14) (sectors_for s % 256) (ended-long s)

  high-long : (s : ℕ) → length (high s A) ≡ length (high s B)
  high-long s = same-long (low s A) (low s B) (entry_at g p + 0x15) (sectors_for s / 256) (low-long s)

  sized-alike : (s v j : ℕ) → byte (sized s A v) j ≡ byte (sized s B v) j
  sized-alike s v j =
      let r₃ : entry_at g p + 1 < length (high s A) = simp length-set (omega (arith, room-A)) in
      let r₂ : entry_at g p + 0x15 < length (low s A) = simp length-set (omega (arith, room-A)) in
      let r₁ : entry_at g p + 0x14 < length (ended s A) = simp length-set (omega (arith, room-A)) in
      same_set (high s A) (high s B) (entry_at g p + 1) v j (high-long s) r₃
      (λ a. same_set (low s A) (low s B) (entry_at g p + 0x15) (sectors_for s / 256) j (low-long s) r₂
      (λ b₁. same_set (ended s A) (ended s B) (entry_at g p + 0x14) (sectors_for s % 256) j (ended-long s) r₁
      (λ c₁. same_set A B (entry_at g p + 3) (end_byte_for s) j long-A (omega (arith, room-A)) (λ z. off j a b₁ c₁ z))))

  same_size : (s : ℕ) → with_size g A p s ≡ with_size g B p s
  unfolding words
  same_size s =
      let v = with_bit 5 (field g B p 1) in
      ap (sized s A) worked
      ∙ ext_get_or 0 (sized s A v) (sized s B v) (same-long (high s A) (high s B) (entry_at g p + 1) v (high-long s)) (λ j t. sized-alike s v j)

  places : place g d₁ p ≡ F
  unfolding place
  places = λ t j. granule_bytes g * get_or (owned-is t) (j / granule_bytes g) 0 + j % granule_bytes g

  -- the second part of two, on what the first one left
  abbrev second : (ℕ → ℕ) → ℕ → ℕ → List ℕ
  second G o z = with_size g (store G (store G d₁ o (replicate z 0)) i ys) p (size_after m o (i + k))

  no_gap : i - size_of g d₁ p ≡ 0
  no_gap = omega (arith, size_is, Rewrite.after-end m old i)

  joined : store F X i ys ≡ store F (store F d old (replicate (h.at - old) 0)) h.at (take (n + k) b)
  joined = sym (ap (store F (store F d old (replicate (h.at - old) 0)) h.at) (take-add n k b)
      ∙ store-append F (store F d old (replicate (h.at - old) 0)) h.at xs ys
      ∙ ap (λ (l : ℕ). store F X (h.at + l) ys) long₁)

  both : over g d₁ p m i k ys ≡ over g d p m h.at (n + k) (take (n + k) b)
  unfolding store
  both =
      (λ t. second (places t) (size_is t) (no_gap t))
      ∙ ap (with_size g (store F d₁ i ys) p) (after-twice m old i (i + k) (omega arith) ∙ ap (size_after m old) (omega arith))
      ∙ same_size (size_after m old (h.at + (n + k)))
      ∙ ap (λ (x : List ℕ). with_size g x p (size_after m old (h.at + (n + k)))) joined

-- One after the other ----------------------------------------------------------------------------------------------------------------------

in_parts : (g : Geometry) (d : List ℕ) (m : Mode) (h : Handle) (n : ℕ) (ns b : List ℕ) → MayWrite g d m h (n + sum ns) b
    → AllWritten g d m h (n ∷ ns) b × (over g d h.slot m h.at (n + sum ns) (take (n + sum ns) b) ≡ written_by g d m h (n ∷ ns) b)
    × (moved_to h (h.at + (n + sum ns)) ≡ written_to g d m h (n ∷ ns) b)
in_parts g d m h n [] b w =
    let one = first_part g d m h n 0 b w in let e : n + 0 ≡ n = omega arith in (
      (write-passes g d m h n b one, tt),
      ap (λ (x : ℕ). over g d h.slot m h.at x (take x b)) e ∙ sym (image-is g d m h n b one),
      ap (λ (x : ℕ). moved_to h (h.at + x)) e ∙ sym (handle-is g d m h n b one),
    )
in_parts g d m h n (k ∷ ns) b w =
    let one = first_part g d m h n (sum (k ∷ ns)) b w in
    let img = image-is g d m h n b one in let mv = handle-is g d m h n b one in
    let ih = in_parts g (d₁ g d m h n (sum (k ∷ ns)) b w) m (moved_to h (h.at + n)) k ns (drop n b) (next-part g d m h n (sum (k ∷ ns)) b w) in (
      (write-passes g d m h n b one, rw (img, mv) ih.0),
      rw (img, mv) (sym (both g d m h n (sum (k ∷ ns)) b w) ∙ ih.1),
      rw (img, mv) (ap (moved_to h) (let e : h.at + (n + sum (k ∷ ns)) ≡ h.at + n + sum (k ∷ ns) = omega arith in e) ∙ ih.2),
    )

pub written-in-parts : (g : Geometry) (d : List ℕ) (m : Mode) (h : Handle) (n : ℕ) (ns b : List ℕ) → (write_of g d m h (n + sum ns) b).0.refusal.number ≡ 0
    → to_write g d m h (n + sum ns) ≡ 0 → WrittenInParts g d m h (n ∷ ns) b
written-in-parts g d m h n ns b e z =
    let w = may g d m h (n + sum ns) b e z in let x = in_parts g d m h n ns b w in
    record {
      accepted' = x.0;
      image' = image-is g d m h (n + sum ns) b w ∙ x.1;
      handle' = handle-is g d m h (n + sum ns) b w ∙ x.2;
    }
