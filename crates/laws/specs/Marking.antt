-- Bit 4 and the HIT bytes of some slots and the GAT bits of some granules put, all one way, and nothing else: kill clears them, bring back
-- sets them. What is there afterwards, and that the one undoes the other.
use Rattle.std.specs.Prelude.{◌≡◌, refl, ◌≢◌, ◌⊎◌, ◌&&◌, set}
use Rattle.std.proofs.Math.Path.{ap, sym}
use Rattle.std.proofs.Common.{◌∙◌, inl, inr, arith, get_or-set_same}
use Rattle.std.proofs.Math.Bool.{Bool}
use mathlib.Core.List.{List, [], ◌∷◌}
use Prim.Native.Nat.{ℕ, ◌+◌, ◌*◌, ◌/◌, ◌%◌, ◌≤◌, ◌<◌}
use Rattle.std.proofs.Math.Decide.{ℕ_discrete}
use Rattle.std.proofs.Math.ListN.{length, length-set}
use Rattle.std.proofs.Math.Seq.{get_or-set_other, ext_get_or}
use Rattle.std.proofs.Math.Dec.{T, eqb, eqb→eq}
use Rattle.meaning.specs.Lists.{through, each}
use Rattle.meaning.specs.Layout.{byte, is_slot, taken, field, gat_at, hit_at, entry_at, granules, hit, directory_granules, granule_bytes, above_ten}
use Rattle.meaning.specs.Layout.{directory_sectors, most_blocks}
use Rattle.meaning.specs.Bits.{bit, digit, put_digit}
use Rattle.meaning.specs.Entries.{link, entry_granules, name_of, size_of}
use Rattle.meaning.specs.Chain.{chain, owned}
use Rattle.meaning.specs.declared.Geometry.{Geometry}
use Rattle.lists.specs.Members
use Rattle.lists.specs.Members.{In}
use Rattle.laws.specs.Bits
use Rattle.laws.specs.Entry
use Rattle.laws.specs.Frame
use Rattle.laws.specs.Frame.{Agree}
use Rattle.laws.specs.Places
use Rattle.laws.specs.Words.{words}

-- an entry's bit 4 put to v, and its HIT byte to h
abbrev pub put_entry : Geometry → ℕ → ℕ → List ℕ → ℕ → List ℕ
put_entry g v h l x = set (set l (entry_at g x + 0) (put_digit (byte l (entry_at g x + 0)) 4 v)) (hit_at g x) h

-- the granules ns put to v, then the entries xs
unfoldable pub marking : Geometry → ℕ → ℕ → List ℕ → List ℕ → List ℕ → List ℕ
marking g v h d ns xs = through (put_entry g v h) (through (Places.marked g v) d ns) xs

-- granules of the disk, slots of the directory
pub record Marks (g : Geometry) (d : List ℕ) (v : ℕ) (ns xs : List ℕ) : Type 0 where
  pub dir : Places.Dir g d
  pub fits : Places.Fits g d
  pub digit' : v < 2
  pub granules' : (n : ℕ) → In n ns → n < granules g
  pub slots' : (x : ℕ) → In x xs → T (is_slot g d x)

-- some one of a list passes a test, or none does
pub find : (t : ℕ → Bool) (xs : List ℕ) → ((x : ℕ) × In x xs × T (t x)) ⊎ ((x : ℕ) → In x xs → T (t x) → ⊥)
find t [] = inr (λ x i. Members.none_in i)
find t (y ∷ xs) = go (Members.decide (t y)) (find t xs)
  where
    none : (T (t y) → ⊥) → ((x : ℕ) → In x xs → T (t x) → ⊥) → (x : ℕ) → (x ≡ y) ⊎ In x xs → T (t x) → ⊥
    none f r x (inl e) = rw e f
    none f r x (inr i) = r x i

    go : Members.Test (t y) → ((x : ℕ) × In x xs × T (t x)) ⊎ ((x : ℕ) → In x xs → T (t x) → ⊥) → ((x : ℕ) × In x (y ∷ xs) × T (t x)) ⊎
        ((x : ℕ) → In x (y ∷ xs) → T (t x) → ⊥)
    go (Members.Test.holds h) r = inl (y, Members.In.here, h)
    go (Members.Test.fails f) (inl r) = inl (r.0, Members.In.there r.1, r.2)
    go (Members.Test.fails f) (inr r) = inr (λ x i. none f r x (Members.in-cons i))

-- One entry ---------------------------------------------------------------------------------------------------------------------------

module _ (g : Geometry) (v h : ℕ) (l : List ℕ) (x : ℕ) where
  entry-byte : (i : ℕ) → i ≢ hit_at g x → i ≢ entry_at g x + 0 → byte (put_entry g v h l x) i ≡ byte l i
  entry-byte i a b = simp get_or-set_other

  entry-hit : hit_at g x < length l → byte (put_entry g v h l x) (hit_at g x) ≡ h
  entry-hit b = get_or-set_same (set l (entry_at g x + 0) (put_digit (byte l (entry_at g x + 0)) 4 v)) (hit_at g x) h 0 (rw length-set b)

  entry_length : length (put_entry g v h l x) ≡ length l
  entry_length = simp length-set

  entry-flags : x < 256 → entry_at g x + 0 < length l → byte (put_entry g v h l x) (entry_at g x + 0) ≡ put_digit (byte l (entry_at g x + 0)) 4 v
  entry-flags b m =
      let n : entry_at g x + 0 ≢ hit_at g x = omega arith in
      rw (get_or-set_other (set l (entry_at g x + 0) (put_digit (byte l (entry_at g x + 0)) 4 v)) (hit_at g x) (entry_at g x + 0) h 0 n)
      (get_or-set_same l (entry_at g x + 0) _ 0 m)

-- All of them -------------------------------------------------------------------------------------------------------------------------

module _ (g : Geometry) (d : List ℕ) (v h : ℕ) (ns xs : List ℕ) (m : Marks g d v ns xs) where
  -- the granules alone
  first : List ℕ
  first = through (Places.marked g v) d ns

  slot-of : (x : ℕ) → In x xs → Places.IsSlot g d x
  slot-of x i = Places.slot g d x (m.slots' x i)

  block_of : (n : ℕ) → n < granules g → n / g.units < most_blocks
  block_of n b = omega (arith, Places.block-lt g d n m.fits b, m.fits.blocks-hi)

  Long : List ℕ → Type 0
  Long l = length l ≡ length d

  first-long : length first ≡ length d
  unfolding first
  first-long = Places.through-keeps length (Places.marked g v) ns d (λ l n j. length-set l _ _)

  pub mark-length : length (marking g v h d ns xs) ≡ length d
  unfolding marking first
  mark-length = Places.through-keeps length (put_entry g v h) xs first (λ l x j. entry_length g v h l x) ∙ first-long

  hit-inside : (x : ℕ) → In x xs → (l : List ℕ) → length l ≡ length d → hit_at g x < length l
  hit-inside x i l e = let s = slot-of x i in let a = m.dir in omega (arith, m.fits.long)

  entry-inside : (x : ℕ) → In x xs → (l : List ℕ) → length l ≡ length d → entry_at g x + 0 < length l
  entry-inside x i l e = let s = slot-of x i in let a = m.dir in omega (arith, m.fits.long)

  gat-inside : (n : ℕ) → n < granules g → (l : List ℕ) → length l ≡ length d → gat_at g n < length l
  unfolding words
  gat-inside n b l e = let a = m.dir in omega (arith, block_of n b, m.fits.long)

  -- a place of no such entry and no such HIT byte is told by the granules alone
  entries-aside : (i : ℕ) → ((x : ℕ) → In x xs → i ≢ entry_at g x + 0) → ((x : ℕ) → In x xs → i ≢ hit_at g x) → byte (marking g v h d ns xs) i ≡ byte first i
  unfolding marking first
  entries-aside i b e = Places.through-keeps (λ l. byte l i) (put_entry g v h) xs first (λ l x j. entry-byte g v h l x i (e x j) (b x j))

  pub mark-byte : (i : ℕ) → ((n : ℕ) → In n ns → i ≢ gat_at g n) → ((x : ℕ) → In x xs → i ≢ entry_at g x + 0) → ((x : ℕ) → In x xs → i ≢ hit_at g x)
      → byte (marking g v h d ns xs) i ≡ byte d i
  unfolding first
  mark-byte i a b e = entries-aside i b e ∙ Places.through-keeps (λ l. byte l i) (Places.marked g v) ns d
      (λ l n j. get_or-set_other l (gat_at g n) i _ 0 (a n j))

  pub mark-above : above_ten g (marking g v h d ns xs) ≡ above_ten g d
  unfolding words
  mark-above = mark-byte (hit_at g 31) (λ n i. omega (arith, block_of n (m.granules' n i))) (λ x i. omega arith)
      (λ x i. omega (arith, (slot-of x i).sector, m.dir.small))

  -- an entry of another slot, and its HIT byte
  pub mark-agrees : (x : ℕ) → T (is_slot g d x) → (In x xs → ⊥) → Agree g d (marking g v h d ns xs) x
  unfolding words
  mark-agrees x t n j b =
      let s = Places.slot g d x t in
      mark-byte (entry_at g x + j) (λ k i. omega (arith, block_of k (m.granules' k i)))
      (λ y i. let e : x ≢ y = λ e. n (rw e i) in let q = slot-of y i in omega arith)
      (λ y i. let q = slot-of y i in omega arith)

  pub mark-hits : (x : ℕ) → T (is_slot g d x) → (In x xs → ⊥) → hit g (marking g v h d ns xs) x ≡ hit g d x
  unfolding words
  mark-hits x t n =
      let s = Places.slot g d x t in
      mark-byte (hit_at g x) (λ k i. omega (arith, block_of k (m.granules' k i)))
      (λ y i. omega arith)
      (λ y i. let e : x ≢ y = λ e. n (rw e i) in omega arith)

  -- the other bytes of an entry of these slots
  pub mark-field : (x k : ℕ) → T (is_slot g d x) → 1 ≤ k → k < 32 → field g (marking g v h d ns xs) x k ≡ field g d x k
  unfolding words
  mark-field x k t a b =
      let s = Places.slot g d x t in
      mark-byte (entry_at g x + k) (λ n i. omega (arith, block_of n (m.granules' n i)))
      (λ y i. let q = slot-of y i in omega arith)
      (λ y i. let q = slot-of y i in omega arith)

  -- outside the directory
  pub mark-same : (i : ℕ) → (In (i / granule_bytes g) (directory_granules g d) → ⊥) → byte (marking g v h d ns xs) i ≡ byte d i
  unfolding words
  mark-same i n = go (Places.outside g d i m.fits.start-at m.dir n)
    where
      go : (i < 256 * g.start) ⊎ (256 * (g.start + directory_sectors g d) ≤ i) → byte (marking g v h d ns xs) i ≡ byte d i
      go (inl e) = mark-byte i (λ k j. omega arith) (λ y j. omega arith) (λ y j. omega arith)
      go (inr e) = mark-byte i (λ k j. omega (arith, block_of k (m.granules' k j), m.dir.small)) (λ y j. let q = slot-of y j in omega arith)
          (λ y j. let q = slot-of y j in omega arith)

  -- what is put
  pub mark-hit : (x : ℕ) → In x xs → hit g (marking g v h d ns xs) x ≡ h
  unfolding Long first marking words
  mark-hit x i =
      Places.through-makes Long (λ l. hit g l x ≡ h) (put_entry g v h) first i
      (λ l y j e. entry_length g v h l y ∙ e)
      (λ l e. entry-hit g v h l x (hit-inside x i l e))
      (λ l y j e r. step l y e r (ℕ_discrete x y))
      first-long
    where
      step : (l : List ℕ) (y : ℕ) → length l ≡ length d → hit g l x ≡ h → Dec (x ≡ y) → hit g (put_entry g v h l y) x ≡ h
      step l y e r (yes q) = rw (← q) (entry-hit g v h l x (hit-inside x i l e))
      step l y e r (no q) = let s = slot-of x i in entry-byte g v h l y (hit_at g x) (omega arith) (omega arith) ∙ r

  -- bit 4 is v, and no other bit has changed
  pub mark-flags : (x : ℕ) → In x xs → field g (marking g v h d ns xs) x 0 ≡ put_digit (field g d x 0) 4 v
  unfolding first marking words
  mark-flags x i =
      Places.through-makes Put (λ l. byte l (entry_at g x + 0) ≡ put_digit (byte d (entry_at g x + 0)) 4 v) (put_entry g v h) first i
      (λ l y j e. (entry_length g v h l y ∙ e.0, stays l y j e (ℕ_discrete x y)))
      (λ l e. entry-flags g v h l x (slot-of x i).low (entry-inside x i l e.0) ∙ e.1)
      (λ l y j e r. step l y j e r (ℕ_discrete x y))
      (first-long, ap (λ (b : ℕ). put_digit b 4 v) untouched)
    where
      Put : List ℕ → Type 0
      Put l = (length l ≡ length d) × (put_digit (byte l (entry_at g x + 0)) 4 v ≡ put_digit (byte d (entry_at g x + 0)) 4 v)

      untouched : byte first (entry_at g x + 0) ≡ byte d (entry_at g x + 0)
      untouched = Places.through-keeps (λ l. byte l (entry_at g x + 0)) (Places.marked g v) ns d (λ l n j.
          get_or-set_other l (gat_at g n) (entry_at g x + 0) _ 0 (let s = slot-of x i in omega (arith, block_of n (m.granules' n j))))

      other : (l : List ℕ) (y : ℕ) → In y xs → x ≢ y → byte (put_entry g v h l y) (entry_at g x + 0) ≡ byte l (entry_at g x + 0)
      other l y j q = let s = slot-of x i in let r = slot-of y j in entry-byte g v h l y (entry_at g x + 0) (omega arith) (omega arith)

      stays : (l : List ℕ) (y : ℕ) → In y xs → Put l → Dec (x ≡ y) → put_digit (byte (put_entry g v h l y) (entry_at g x + 0)) 4 v ≡ put_digit
          (byte d (entry_at g x + 0)) 4 v
      stays l y j e (yes q) = rw (
        ← q,
        entry-flags g v h l x (slot-of x i).low (entry-inside x i l e.0),
        Bits.put-twice (byte l (entry_at g x + 0)) 4 v v
            m.digit',
      ) e.1
      stays l y j e (no q) = rw (other l y j q) e.1

      step : (l : List ℕ) (y : ℕ) → In y xs → Put l → byte l (entry_at g x + 0) ≡ put_digit (byte d (entry_at g x + 0)) 4 v → Dec (x ≡ y)
          → byte (put_entry g v h l y) (entry_at g x + 0) ≡ put_digit (byte d (entry_at g x + 0)) 4 v
      step l y j e r (yes q) = rw (← q) (entry-flags g v h l x (slot-of x i).low (entry-inside x i l e.0) ∙ e.1)
      step l y j e r (no q) = other l y j q ∙ r

  -- a GAT byte is told by the granules alone
  gat-aside : (n : ℕ) → n < granules g → byte (marking g v h d ns xs) (gat_at g n) ≡ byte first (gat_at g n)
  gat-aside n b = entries-aside (gat_at g n) (λ y i. omega (arith, block_of n b)) (λ y i. omega (arith, block_of n b))

  -- a bit of no such granule
  pub mark-digit : (i u : ℕ) → ((x : ℕ) → In x xs → i ≢ entry_at g x + 0) → ((x : ℕ) → In x xs → i ≢ hit_at g x)
      → ((n : ℕ) → In n ns → i ≡ gat_at g n → u ≢ n % g.units) → digit (byte (marking g v h d ns xs) i) u ≡ digit (byte d i) u
  unfolding first
  mark-digit i u b e o =
      ap (λ (z : ℕ). digit z u) (entries-aside i b e)
      ∙ Places.through-keeps (λ l. digit (byte l i) u) (Places.marked g v) ns d (λ l n j. Places.marked-digit g v m.digit' l n i u (o n j))

  pub mark-keeps : (n : ℕ) → n < granules g → (In n ns → ⊥) → taken g (marking g v h d ns xs) n ≡ taken g d n
  unfolding first words
  mark-keeps n b o = rw (gat-aside n b) (Places.through-keeps (λ l. taken g l n) (Places.marked g v) ns d
      (λ l k j. Places.marked_other g v m.digit' l k n (λ e. o (rw e j))))

  pub mark-granule : (n : ℕ) → In n ns → digit (byte (marking g v h d ns xs) (gat_at g n)) (n % g.units) ≡ v
  unfolding Long first
  mark-granule n i =
      rw (gat-aside n (m.granules' n i))
      (Places.through-makes Long (λ l. digit (byte l (gat_at g n)) (n % g.units) ≡ v) (Places.marked g v) d i
      (λ l y j e. length-set l _ _ ∙ e)
      (λ l e. put l e)
      (λ l y j e r. step l y e r (ℕ_discrete n y))
      refl)
    where
      put : (l : List ℕ) → length l ≡ length d → digit (byte (Places.marked g v l n) (gat_at g n)) (n % g.units) ≡ v
      put l e = Places.marked-same g v m.digit' l n (gat-inside n (m.granules' n i) l e)

      step : (l : List ℕ) (y : ℕ) → length l ≡ length d → digit (byte l (gat_at g n)) (n % g.units) ≡ v → Dec (n ≡ y) → digit
          (byte (Places.marked g v l y) (gat_at g n)) (n % g.units) ≡ v
      step l y e r (yes q) = rw (← q) (put l e)
      step l y e r (no q) = Places.marked-apart g v m.digit' l y n q ∙ r

-- Cleared, then set: where all was set before, and the HIT bytes are the same, the very image comes back -----------------------------

module _ (g : Geometry) (d : List ℕ) (h : ℕ) (ns xs : List ℕ) (m : Marks g d 0 ns xs)
    (ts : (n : ℕ) → In n ns → T (taken g d n)) (us : (x : ℕ) → In x xs → digit (field g d x 0) 4 ≡ 1) (hs : (x : ℕ) → In x xs → hit g d x ≡ h) where
  abbrev cleared : List ℕ
  cleared = marking g 0 0 d ns xs

  cleared-marks : Marks g cleared 1 ns xs
  unfolding words
  cleared-marks =
      let a = mark-above g d 0 0 ns xs m in
      let b = m.dir in let f = m.fits in
      record {
        dir = record { fives = rw a b.fives; small = rw a b.small; inside = rw a b.inside };
        fits = Places.as_long f (mark-length g d 0 0 ns xs m);
        digit' = omega arith;
        granules' = m.granules';
        slots' = λ x i. rw (Frame.slot-eq g d cleared a x) (m.slots' x i);
      }

  again : List ℕ
  again = marking g 1 h cleared ns xs

  flags-again : (x : ℕ) → In x xs → field g again x 0 ≡ field g d x 0
  unfolding again
  flags-again x i =
      mark-flags g cleared 1 h ns xs cleared-marks x i
      ∙ ap (λ (b : ℕ). put_digit b 4 1) (mark-flags g d 0 0 ns xs m x i)
      ∙ Bits.put_back (field g d x 0) 4 (us x i)

  hit-again : (x : ℕ) → In x xs → hit g again x ≡ hit g d x
  unfolding again
  hit-again x i = mark-hit g cleared 1 h ns xs cleared-marks x i ∙ sym (hs x i)

  taken-digit : (n : ℕ) → T (taken g d n) → digit (byte d (gat_at g n)) (n % g.units) ≡ 1
  unfolding words
  taken-digit n t = eqb→eq _ _ t

  digit-again : (i u : ℕ) → ((x : ℕ) → In x xs → i ≢ entry_at g x + 0) → ((x : ℕ) → In x xs → i ≢ hit_at g x) → digit (byte again i) u ≡ digit (byte d i) u
  unfolding again
  digit-again i u a b = go (find test ns)
    where
      test : ℕ → Bool
      test n = eqb i (gat_at g n) && eqb u (n % g.units)

      go : ((n : ℕ) × In n ns × T (test n)) ⊎ ((n : ℕ) → In n ns → T (test n) → ⊥) → digit (byte again i) u ≡ digit (byte d i) u
      go (inl w) =
          let n = w.0 in
          let p = eqb→eq i (gat_at g n) (Members.and_l (eqb i (gat_at g n)) (eqb u (n % g.units)) w.2) in
          let q = eqb→eq u (n % g.units) (Members.and_r (eqb i (gat_at g n)) (eqb u (n % g.units)) w.2) in
          rw (p, q) (mark-granule g cleared 1 h ns xs cleared-marks n w.1 ∙ sym (taken-digit n (ts n w.1)))
      go (inr w) =
          let none : (n : ℕ) → In n ns → i ≡ gat_at g n → u ≢ n % g.units = λ n j p q. w n j
          (Members.and_i (eqb i (gat_at g n)) _ (Members.eq-T p) (Members.eq-T q)) in
          mark-digit g cleared 1 h ns xs cleared-marks i u a b none ∙ mark-digit g d 0 0 ns xs m i u a b none

  pub unmark : marking g 1 h (marking g 0 0 d ns xs) ns xs ≡ d
  unfolding again words
  unmark =
      ext_get_or 0 again d (mark-length g cleared 1 h ns xs cleared-marks ∙ mark-length g d 0 0 ns xs m)
      (λ i b. go i (find (λ x. eqb i (entry_at g x + 0)) xs) (find (λ x. eqb i (hit_at g x)) xs))
    where
      go : (i : ℕ) → ((x : ℕ) × In x xs × T (eqb i (entry_at g x + 0))) ⊎ ((x : ℕ) → In x xs → T (eqb i (entry_at g x + 0)) → ⊥)
          → ((x : ℕ) × In x xs × T (eqb i (hit_at g x))) ⊎ ((x : ℕ) → In x xs → T (eqb i (hit_at g x)) → ⊥) → byte again i ≡ byte d i
      go i (inl w) r = rw (eqb→eq i (entry_at g w.0 + 0) w.2) (flags-again w.0 w.1)
      go i (inr w) (inl r) = rw (eqb→eq i (hit_at g r.0) r.2) (hit-again r.0 r.1)
      go i (inr w) (inr r) = Bits.digits_same _ _ (λ u. digit-again i u (λ x j e. w x j (Members.eq-T e)) (λ x j e. r x j (Members.eq-T e)))

-- A file's own entries and granules: what else is read of it stays ---------------------------------------------------------------------

module _ (g : Geometry) (d : List ℕ) (v h p : ℕ) (t : T (is_slot g d p)) (m : Marks g d v (owned g d p) (chain g d p)) where
  abbrev after : List ℕ
  after = marking g v h d (owned g d p) (chain g d p)

  above : above_ten g after ≡ above_ten g d
  above = mark-above g d v h (owned g d p) (chain g d p) m

  byte-stays : (x j : ℕ) → T (is_slot g d x) → 1 ≤ j → j < 32 → field g after x j ≡ field g d x j
  byte-stays = mark-field g d v h (owned g d p) (chain g d p) m

  pub file-slot : (x : ℕ) → In x (chain g d p) → T (is_slot g after x)
  file-slot x i = rw (Frame.slot-eq g d after above x) (m.slots' x i)

  pub file-byte : (x j : ℕ) → In x (chain g d p) → 1 ≤ j → j < 32 → field g after x j ≡ field g d x j
  file-byte x j i a b = byte-stays x j (m.slots' x i) a b

  pub file-tail : (x : ℕ) → In x (chain g d p) → Frame.Tail g d after x
  file-tail x i j a b = file-byte x j i (omega arith) b

  pub file-chain : chain g after p ≡ chain g d p
  file-chain = Frame.chain-links g d after above p (λ x i. (file-tail x i 0x1e (omega arith) (omega arith), file-tail x i 0x1f (omega arith) (omega arith)))

  pub file-owned : owned g after p ≡ owned g d p
  unfolding owned
  file-owned = ap (each (entry_granules g after)) file-chain ∙ Members.each-eq (entry_granules g after) (entry_granules g d) (chain g d p)
      (λ x i. Frame.granules-tail g d after x (file-tail x i))

  pub file-name : name_of g after p ≡ name_of g d p
  file-name = Frame.name_of-bytes g d after p (λ j a b. byte-stays p j t (omega arith) (omega arith))

  -- the three bytes of the size
  pub file-low : field g after p 0x14 ≡ field g d p 0x14
  file-low = byte-stays p 0x14 t (omega arith) (omega arith)

  pub file-high : field g after p 0x15 ≡ field g d p 0x15
  file-high = byte-stays p 0x15 t (omega arith) (omega arith)

  pub file-end : field g after p 3 ≡ field g d p 3
  file-end = byte-stays p 3 t (omega arith) (omega arith)

  pub file-size : size_of g after p ≡ size_of g d p
  unfolding words
  file-size = rw (file-end, file-low, file-high)

  pub file-flags : (x : ℕ) → In x (chain g d p) → field g after x 0 ≡ put_digit (field g d x 0) 4 v
  file-flags = mark-flags g d v h (owned g d p) (chain g d p) m

  -- another bit of byte 00
  pub file-flag : (x u : ℕ) → In x (chain g d p) → u ≢ 4 → bit u (field g after x 0) ≡ bit u (field g d x 0)
  file-flag x u i n = ap (λ (b : ℕ). eqb b 1) (ap (λ (b : ℕ). digit b u) (file-flags x i) ∙ Bits.digit-other (field g d x 0) 4 u v m.digit' n)

  -- an entry that leads to an extension of its chain still does, whatever bit 4 makes of that one's byte 00
  pub file-next : (byte00 x : ℕ) → In x (chain g d p) → In (link g d x) (chain g d p) → Entry.LinkedBy g d byte00 x → Entry.FollowsBy g after
      (put_digit byte00 4 v) x (link g d x)
  file-next byte00 x i j l =
      let y = link g d x in
      record {
        slot = file-slot y j;
        flags = file-flags y j ∙ ap (λ (b : ℕ). put_digit b 4 v) l.next.flags;
        before = file-byte y 1 j (omega arith) (omega arith) ∙ l.next.before;
        some' = rw (Frame.runs-tail g d after y (file-tail y j)) l.next.some';
      }
