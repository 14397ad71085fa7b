-- What is stored into two images that are alike: the same byte at the same place, or the same bit of the GAT byte of a granule, leaves them alike. Only a
-- store to 1FH could make places of the HIT read that were not, and only one to a block, a marker or the flags could make a byte of the entry read that was
-- not: no call stores to the one, for no slot of a consistent disk is 1FH, and with each of the others it stores what is read from then on.
use Rattle.std.specs.Prelude.{◌≡◌, refl, ◌≢◌, ◌⊎◌, Bool, true, false, not, cond, ◌&&◌, ℕ, ◌+◌, ◌-◌, ◌*◌, ◌%◌, ◌≤◌, ◌<◌, eqb, ltb, set}
use Rattle.std.proofs.Math.Path.{ap, sym, subst}
use Rattle.std.proofs.Common.{◌∙◌, get_or-set_same, eq-eqb, ne_eqb}
use Rattle.std.proofs.Math.Logic.{inl, inr}
use mathlib.Core.List.{List, [], ◌∷◌}
use native.Mathlib.Omega.{arith}
use Rattle.std.proofs.Math.Decide.{ℕ_discrete, dec_lt}
use Rattle.std.proofs.Math.Dec.{T}
use Rattle.std.proofs.Math.ListN.{length, length-set}
use Rattle.std.proofs.Math.Seq.{get_or-set_other, set_out, length-sets}
use Rattle.std.proofs.lemmas.List.Edits.{sets}
use Rattle.meaning.specs.Lists.{all, through}
use Rattle.meaning.specs.Bits.{bit, put_digit}
use Rattle.meaning.specs.Layout.{byte, granules, taken, take_granule, free_granule, gat_at, hit_at, entry_at, hit, above_ten, is_slot, field, set_field}
use Rattle.meaning.specs.Layout.{directory_sectors, sector}
use Rattle.meaning.specs.Entries.{block, set_pair, set_link}
use Rattle.meaning.specs.Write.{store}
use Rattle.meaning.specs.declared.Geometry.{Geometry}
use Rattle.lists.specs.Members
use Rattle.lists.specs.Members.{In}
use Rattle.lists.specs.Tests
use Rattle.laws.specs.Frame
use Rattle.laws.specs.Kinds as LawsKinds
use Rattle.laws.specs.Places
use Rattle.laws.specs.Words.{words}
use Rattle.promises_unread.specs.Statement.{stopped, Kinds, BytesAlike, EntryAlike, Outside, ReadAlike}
use Rattle.promises_unread.specs.Reads.{whole-alike, one-slot, stopped-eq}

-- Two images that are alike, of a geometry that fits them, with a directory that fits, of 10 sectors and m
pub record AlikePair (u : Kinds) (g : Geometry) (m : ℕ) (d d' : List ℕ) : Type 0 where
  pub alike : ReadAlike u g d d'
  pub fits : Places.Fits g d
  pub dir : Places.Dir g d
  pub tall : above_ten g d ≡ m

-- the slots of such a directory, whatever else is stored
abbrev pub Slot : ℕ → ℕ → Type 0
Slot m s = T (all (ltb s 256 ∷ ltb (sector s + 2) (10 + m) ∷ []))

-- an entry whose bytes are those of another
carry-bytes : (u : Kinds) (f f' h h' : ℕ → ℕ) → ((k : ℕ) → k < 32 → h k ≡ f k) → ((k : ℕ) → k < 32 → h' k ≡ f' k) → BytesAlike u f f' → BytesAlike u h h'
carry-bytes u f f' h h' e e' a = record {
  flags = e 0 (omega arith) ∙ a.flags ∙ sym (e' 0 (omega arith));
  one = e 1 (omega arith) ∙ a.one ∙ sym (e' 1 (omega arith));
  low = λ j l m q. e j (omega arith) ∙ a.low j l m (rw (e 0 (omega arith)) at q) ∙ sym (e' j (omega arith));
  block = λ j m. e (0x16 + 2 * j) (omega arith) ∙ a.block j m ∙ sym (e' (0x16 + 2 * j) (omega arith));
  second = λ j m q.
      e (0x17 + 2 * j) (omega arith)
      ∙ a.second j m (ap (λ (b : Bool). u.behind && b) (stopped-eq f h j (λ i l. sym (e (0x16 + 2 * i) (omega arith)))) ∙ q)
      ∙ sym (e' (0x17 + 2 * j) (omega arith));
  marker = e 0x1e (omega arith) ∙ a.marker ∙ sym (e' 0x1e (omega arith));
  link = λ q. e 0x1f (omega arith) ∙ a.link (rw (e 0x1e (omega arith)) at q) ∙ sym (e' 0x1f (omega arith));
}

pub carry : (u : Kinds) (f f' h h' : ℕ → ℕ) → ((k : ℕ) → k < 32 → h k ≡ f k) → ((k : ℕ) → k < 32 → h' k ≡ f' k) → EntryAlike u f f' → EntryAlike u h h'
carry u f f' h h' e e' a = record {
  used = ap (bit 4) (e 0 (omega arith)) ∙ a.used ∙ sym (ap (bit 4) (e' 0 (omega arith)));
  bytes = λ q. carry-bytes u f f' h h' e e' (a.bytes (rw (e 0 (omega arith)) at q));
}

-- Entries as functions of the place of a byte -----------------------------------------------------------------------------------------

-- byte k becomes v
unfoldable pub put : (ℕ → ℕ) → ℕ → ℕ → ℕ → ℕ
put f k v j = cond (eqb j k) v (f j)

put_same : (f : ℕ → ℕ) (k v : ℕ) → put f k v k ≡ v
unfolding put
put_same f k v = rw (eq-eqb k k refl)

put_other : (f : ℕ → ℕ) (k v j : ℕ) → j ≢ k → put f k v j ≡ f j
unfolding put
put_other f k v j n = rw (ne_eqb j k n)

twice-other : (f : ℕ → ℕ) (k v j w : ℕ) → 0 ≢ k → 0 ≢ j → put (put f k v) j w 0 ≡ f 0
twice-other f k v j w n m = put_other (put f k v) j w 0 m ∙ put_other f k v 0 n

put-eq : (f f' : ℕ → ℕ) (k v j : ℕ) → f j ≡ f' j → put f k v j ≡ put f' k v j
unfolding put
put-eq f f' k v j e = λ i. cond (eqb j k) v (e i)

stops : (f : ℕ → ℕ) (i j : ℕ) → i < j + 1 → f (0x16 + 2 * i) ≡ 0xff → stopped f j ≡ true
unfolding stopped
stops f i j l e =
    Members.T_true (LawsKinds.in_some (λ k. eqb (f (0x16 + 2 * k)) 0xff) (Members.in_count i 0 (j + 1) (omega arith) (omega arith)) (Members.eq-T e))

module _ (u : Kinds) (f f' : ℕ → ℕ) (a : BytesAlike u f f') where
  -- blocks as they were
  before : (j : ℕ) (h : ℕ → ℕ) → ((i : ℕ) → i < j + 1 → h (0x16 + 2 * i) ≡ f (0x16 + 2 * i)) → (u.behind && stopped h j) ≡ false
      → (u.behind && stopped f j) ≡ false
  before j h e q = ap (λ (b : Bool). u.behind && b) (stopped-eq f h j (λ i l. sym (e i l))) ∙ q

  -- a byte on which nothing hangs that is read
  pub put-simple : (k v : ℕ) → k ≢ 0 → k ≢ 0x1e → ((j : ℕ) → j < 4 → k ≢ 0x16 + 2 * j) → BytesAlike u (put f k v) (put f' k v)
  put-simple k v n m b = record {
    flags = put-eq f f' k v 0 a.flags;
    one = put-eq f f' k v 1 a.one;
    low = λ j l h q. put-eq f f' k v j (a.low j l h (rw (put_other f k v 0 (λ z. n (sym z))) at q));
    block = λ j h. put-eq f f' k v (0x16 + 2 * j) (a.block j h);
    second =
        λ j h q. put-eq f f' k v (0x17 + 2 * j)
        (a.second j h (before j (put f k v) (λ i l. let w = b i (omega arith) in put_other f k v (0x16 + 2 * i) (λ z. w (sym z))) q));
    marker = put-eq f f' k v 0x1e a.marker;
    link = λ q. put-eq f f' k v 0x1f (a.link (rw (put_other f k v 0x1e (λ z. m (sym z))) at q));
  }

  -- the flags, bit 7 as it was, or set
  pub put-flags : (v : ℕ) → (bit 7 v ≡ bit 7 (f 0)) ⊎ (bit 7 v ≡ true) → BytesAlike u (put f 0 v) (put f' 0 v)
  put-flags v e = record {
    flags = put-eq f f' 0 v 0 a.flags;
    one = put-eq f f' 0 v 1 a.one;
    low = λ j l h q. put-eq f f' 0 v j (a.low j l h (free u.extensions (bit 7 (f 0)) e (rw (put_same f 0 v) at q)));
    block = λ j h. put-eq f f' 0 v (0x16 + 2 * j) (a.block j h);
    second = λ j h q. put-eq f f' 0 v (0x17 + 2 * j) (a.second j h (before j (put f 0 v) (λ i l. put_other f 0 v (0x16 + 2 * i) (omega arith)) q));
    marker = put-eq f f' 0 v 0x1e a.marker;
    link = λ q. put-eq f f' 0 v 0x1f (a.link (rw (put_other f 0 v 0x1e (omega arith)) at q));
  }
    where
      free : (b c : Bool) → (bit 7 v ≡ c) ⊎ (bit 7 v ≡ true) → (b && bit 7 v) ≡ false → (b && c) ≡ false
      free true c (inl q) z = sym q ∙ z
      free true c (inr q) z = Tests.not-both q z
      free false c q z = refl

  -- both bytes of a pair behind which all begin with FFH
  pub put-pair : (k v w : ℕ) → k < 4 → ((j : ℕ) → k < j → j < 4 → f (0x16 + 2 * j) ≡ 0xff)
      → BytesAlike u (put (put f (0x16 + 2 * k) v) (0x17 + 2 * k) w) (put (put f' (0x16 + 2 * k) v) (0x17 + 2 * k) w)
  put-pair k v w h ff = record {
    flags = twice 0 a.flags;
    one = twice 1 a.one;
    low = λ j l m q. twice j (a.low j l m (rw (away 0 (omega arith) (omega arith)) at q));
    block = λ j m. twice (0x16 + 2 * j) (a.block j m);
    second = λ j m q. by j m q (ℕ_discrete j k) (dec_lt j k);
    marker = twice 0x1e a.marker;
    link = λ q. twice 0x1f (a.link (rw (away 0x1e (omega arith) (omega arith)) at q));
  }
    where
      twice : (j : ℕ) → f j ≡ f' j → put (put f (0x16 + 2 * k) v) (0x17 + 2 * k) w j ≡ put (put f' (0x16 + 2 * k) v) (0x17 + 2 * k) w j
      twice j e = put-eq (put f (0x16 + 2 * k) v) (put f' (0x16 + 2 * k) v) (0x17 + 2 * k) w j (put-eq f f' (0x16 + 2 * k) v j e)

      away : (j : ℕ) → j ≢ 0x16 + 2 * k → j ≢ 0x17 + 2 * k → put (put f (0x16 + 2 * k) v) (0x17 + 2 * k) w j ≡ f j
      away j n m = put_other (put f (0x16 + 2 * k) v) (0x17 + 2 * k) w j m ∙ put_other f (0x16 + 2 * k) v j n

      -- a later pair begins with FFH, before and after
      later : (j : ℕ) → k < j → j < 4 → (u.behind && stopped (put (put f (0x16 + 2 * k) v) (0x17 + 2 * k) w) j) ≡ false → (u.behind && stopped f j) ≡ false
      later j l m q = free u.behind (stopped (put (put f (0x16 + 2 * k) v) (0x17 + 2 * k) w) j) (stopped f j) q
          (stops _ j j (omega arith) (away (0x16 + 2 * j) (omega arith) (omega arith) ∙ ff j l m))
        where
          free : (b c z : Bool) → (b && c) ≡ false → c ≡ true → (b && z) ≡ false
          free true c z y x = Tests.not-both x y
          free false c z y x = refl

      by : (j : ℕ) → j < 4 → (u.behind && stopped (put (put f (0x16 + 2 * k) v) (0x17 + 2 * k) w) j) ≡ false → Dec (j ≡ k) → Dec (j < k)
          → put (put f (0x16 + 2 * k) v) (0x17 + 2 * k) w (0x17 + 2 * j) ≡ put (put f' (0x16 + 2 * k) v) (0x17 + 2 * k) w (0x17 + 2 * j)
      by j m q (yes e) l =
          rw e (put_same (put f (0x16 + 2 * k) v) (0x17 + 2 * k) w ∙ sym (put_same (put f' (0x16 + 2 * k) v) (0x17 + 2 * k) w))
      by j m q (no n) (yes l) =
          twice (0x17 + 2 * j) (a.second j m
          (before j (put (put f (0x16 + 2 * k) v) (0x17 + 2 * k) w) (λ i z. away (0x16 + 2 * i) (omega arith) (omega arith)) q))
      by j m q (no n) (no l) = twice (0x17 + 2 * j) (a.second j m (later j (omega arith) m q))

  -- marker and link
  pub put-link : (v w : ℕ) → BytesAlike u (put (put f 0x1e v) 0x1f w) (put (put f' 0x1e v) 0x1f w)
  put-link v w = record {
    flags = twice 0 a.flags;
    one = twice 1 a.one;
    low = λ j l m q. twice j (a.low j l m (rw (away 0 (omega arith) (omega arith)) at q));
    block = λ j m. twice (0x16 + 2 * j) (a.block j m);
    second = λ j m q. twice (0x17 + 2 * j) (a.second j m (before j (put (put f 0x1e v) 0x1f w) (λ i z. away (0x16 + 2 * i) (omega arith) (omega arith)) q));
    marker = twice 0x1e a.marker;
    link = λ q. put_same (put f 0x1e v) 0x1f w ∙ sym (put_same (put f' 0x1e v) 0x1f w);
  }
    where
      twice : (j : ℕ) → f j ≡ f' j → put (put f 0x1e v) 0x1f w j ≡ put (put f' 0x1e v) 0x1f w j
      twice j e = put-eq (put f 0x1e v) (put f' 0x1e v) 0x1f w j (put-eq f f' 0x1e v j e)

      away : (j : ℕ) → j ≢ 0x1e → j ≢ 0x1f → put (put f 0x1e v) 0x1f w j ≡ f j
      away j n m = put_other (put f 0x1e v) 0x1f w j m ∙ put_other f 0x1e v j n

-- bytes other than the flags become F of what they were
entry-put : (u : Kinds) (f f' : ℕ → ℕ) (F : (ℕ → ℕ) → ℕ → ℕ) → F f 0 ≡ f 0 → F f' 0 ≡ f' 0 → (BytesAlike u f f' → BytesAlike u (F f) (F f'))
    → EntryAlike u f f' → EntryAlike u (F f) (F f')
entry-put u f f' F e e' h a = record {
  used = ap (bit 4) e ∙ a.used ∙ sym (ap (bit 4) e');
  bytes = λ q. h (a.bytes (ap (λ (x : ℕ). u.dead && not (bit 4 x)) (sym e) ∙ q));
}

-- the flags: no dead entry comes to life, unless dead ones are the same too
entry-flags : (u : Kinds) (f f' : ℕ → ℕ) (v : ℕ) → (bit 7 v ≡ bit 7 (f 0)) ⊎ (bit 7 v ≡ true) → (bit 4 v ≡ false) ⊎ (u.dead ≡ false)
    → EntryAlike u f f' → EntryAlike u (put f 0 v) (put f' 0 v)
entry-flags u f f' v e o a = record {
  used = ap (bit 4) (put_same f 0 v ∙ sym (put_same f' 0 v));
  bytes = λ q. put-flags u f f' (a.bytes (alive u.dead (bit 4 v) o (ap (λ (x : ℕ). u.dead && not (bit 4 x)) (sym (put_same f 0 v)) ∙ q))) v e;
}
  where
    alive : (b c : Bool) → (c ≡ false) ⊎ (b ≡ false) → (b && not c) ≡ false → (b && not (bit 4 (f 0))) ≡ false
    alive true true (inl z) q = Tests.not-both refl z
    alive true false o q = Tests.not-both refl q
    alive true true (inr z) q = Tests.not-both refl z
    alive false c o q = refl

-- One byte ------------------------------------------------------------------------------------------------------------------------

-- alike at a place, if they were there or it is the place stored to
set-byte : (d d' : List ℕ) → length d ≡ length d' → (i v : ℕ) → i < length d → (j : ℕ) → (j ≢ i → byte d j ≡ byte d' j)
    → byte (set d i v) j ≡ byte (set d' i v) j
set-byte d d' l i v b j h = go (ℕ_discrete j i)
  where
    go : Dec (j ≡ i) → byte (set d i v) j ≡ byte (set d' i v) j
    go (yes e) = rw e (get_or-set_same d i v 0 b ∙ sym (get_or-set_same d' i v 0 (omega arith)))
    go (no n) = get_or-set_other d i j v 0 n ∙ h n ∙ sym (get_or-set_other d' i j v 0 n)

module _ (g : Geometry) where
  -- a directory as long
  pub as-dir : {d e : List ℕ} → above_ten g e ≡ above_ten g d → Places.Dir g d → Places.Dir g e
  unfolding directory_sectors
  as-dir q k = record { fives = rw q k.fives; small = rw q k.small; inside = rw q k.inside }

  -- a byte of a slot's entry lies in the image
  pub entry_lt : (d : List ℕ) (s k : ℕ) → Places.Fits g d → Places.Dir g d → T (is_slot g d s) → k < 32 → entry_at g s + k < length d
  unfolding directory_sectors
  entry_lt d s k f r t h = let q = Places.slot g d s t in omega (arith, q.low, q.sector, r.inside, f.long)

-- another slot's entry lies before or after
pub beside : (g : Geometry) (d : List ℕ) (r s : ℕ) → T (is_slot g d r) → T (is_slot g d s) → r ≢ s → (k : ℕ) → k < 32
    → (entry_at g r + k < entry_at g s) ⊎ (entry_at g s + 32 ≤ entry_at g r + k)
beside g d r s v t n k h = by (dec_lt (entry_at g r) (entry_at g s)) (Places.slot g d r v) (Places.slot g d s t)
  where
    by : Dec (entry_at g r < entry_at g s) → Places.IsSlot g d r → Places.IsSlot g d s
        → (entry_at g r + k < entry_at g s) ⊎ (entry_at g s + 32 ≤ entry_at g r + k)
    by (yes c) y z = inl (omega arith)
    by (no c) y z = let m : entry_at g r ≢ entry_at g s = λ q. n (one-slot g.start r s y.low z.low q) in inr (omega arith)

module _ (u : Kinds) (g : Geometry) (m : ℕ) where
  pub of-slot : (d : List ℕ) (s : ℕ) → above_ten g d ≡ m → T (is_slot g d s) → Slot m s
  unfolding is_slot directory_sectors
  of-slot d s e t = rw e at t

  pub is-slot : (d : List ℕ) (s : ℕ) → above_ten g d ≡ m → Slot m s → T (is_slot g d s)
  unfolding is_slot directory_sectors
  is-slot d s e t = rw e t

  -- at a place of no entry, but 1FH
  abbrev pub NoEntry : List ℕ → ℕ → Type 0
  NoEntry d i = (s : ℕ) → T (is_slot g d s) → (i < entry_at g s) ⊎ (entry_at g s + 32 ≤ i)

  both-in : (d d' : List ℕ) (i v : ℕ) → i ≢ hit_at g 0x1f → NoEntry d i → i < length d → AlikePair u g m d d' → AlikePair u g m (set d i v) (set d' i v)
  unfolding taken hit field
  both-in d d' i v n o b w =
      let a = w.alike in
      let above : above_ten g (set d i v) ≡ above_ten g d = get_or-set_other d i (hit_at g 0x1f) v 0 (λ q. n (sym q)) in
      let above' : above_ten g (set d' i v) ≡ above_ten g d' = get_or-set_other d' i (hit_at g 0x1f) v 0 (λ q. n (sym q)) in
      let slots : (s : ℕ) → T (is_slot g (set d i v) s) → T (is_slot g d s) = λ s t. subst T (Frame.slot-eq g d (set d i v) above s) t in
      let slots' : (s : ℕ) → T (is_slot g d s) → T (is_slot g (set d i v) s) = λ s t. subst T (sym (Frame.slot-eq g d (set d i v) above s)) t in
      record {
        alike = record {
          long = length-set d i v ∙ a.long ∙ sym (length-set d' i v);
          rest = λ j q. set-byte d d' a.long i v b j (λ z. a.rest j (was slots' j q));
          gat = λ k h. bits k h (ℕ_discrete (gat_at g k) i);
          above = above ∙ a.above ∙ sym above';
          hits = λ s t. set-byte d d' a.long i v b (hit_at g s) (λ z. a.hits s (slots s t));
          entries = λ s t. let t' = slots s t in carried s (λ k h. away s t' k h) (a.entries s t');
        };
        fits = Places.as_long w.fits (length-set d i v);
        dir = as-dir g above w.dir;
        tall = above ∙ w.tall;
      }
    where
      was : ((s : ℕ) → T (is_slot g d s) → T (is_slot g (set d i v) s)) → (j : ℕ) → Outside g (set d i v) j → Outside g d j
      was f j (inl h) = inl h
      was f j (inr h) = inr (h.0, λ s t. h.1 s (f s t))

      away : (s : ℕ) → T (is_slot g d s) → (k : ℕ) → k < 32 → entry_at g s + k ≢ i
      away s t k h = by (o s t)
        where
          by : (i < entry_at g s) ⊎ (entry_at g s + 32 ≤ i) → entry_at g s + k ≢ i
          by (inl q) = omega arith
          by (inr q) = omega arith

      carried : (s : ℕ) → ((k : ℕ) → k < 32 → entry_at g s + k ≢ i) → EntryAlike u (λ k. byte d (entry_at g s + k)) (λ k. byte d' (entry_at g s + k))
          → EntryAlike u (λ k. byte (set d i v) (entry_at g s + k)) (λ k. byte (set d' i v) (entry_at g s + k))
      carried s q e =
          carry u _ _ _ _ (λ k h. get_or-set_other d i (entry_at g s + k) v 0 (q k h)) (λ k h. get_or-set_other d' i (entry_at g s + k) v 0 (q k h)) e

      bits : (k : ℕ) → k < granules g → Dec (gat_at g k ≡ i)
          → bit (k % g.units) (byte (set d i v) (gat_at g k)) ≡ bit (k % g.units) (byte (set d' i v) (gat_at g k))
      bits k h (yes e) = ap (bit (k % g.units)) (set-byte d d' w.alike.long i v b (gat_at g k) (λ q. absurd (q e)))
      bits k h (no q) =
          ap (bit (k % g.units)) (get_or-set_other d i (gat_at g k) v 0 q) ∙ w.alike.gat k h
          ∙ sym (ap (bit (k % g.units)) (get_or-set_other d' i (gat_at g k) v 0 q))

  -- past the end nothing is stored
  pub both-store : (d d' : List ℕ) (i v : ℕ) → i ≢ hit_at g 0x1f → NoEntry d i → AlikePair u g m d d' → AlikePair u g m (set d i v) (set d' i v)
  both-store d d' i v n o w = go (dec_lt i (length d))
    where
      go : Dec (i < length d) → AlikePair u g m (set d i v) (set d' i v)
      go (yes b) = both-in d d' i v n o b w
      go (no b) = rw (set_out d i v (omega arith), set_out d' i v (omega (arith, w.alike.long))) w

  -- a slot is below 256, and not 1FH
  pub not-count : (d d' : List ℕ) (x : ℕ) → AlikePair u g m d d' → Slot m x → (x < 256) × (x ≢ 0x1f)
  unfolding words
  not-count d d' x w t = let s = Places.slot g d x (is-slot d x w.tall t) in (s.low, λ q. omega (arith, s.sector, w.dir.small, q))

  -- the HIT byte of a slot
  pub both-hit : (d d' : List ℕ) (x v : ℕ) → (x < 256) × (x ≢ 0x1f) → AlikePair u g m d d' → AlikePair u g m (set d (hit_at g x) v) (set d' (hit_at g x) v)
  both-hit d d' x v t w = let n = t.1 in both-store d d' (hit_at g x) v (λ q. n (omega arith)) (λ s r. inl (omega (arith, t.0))) w

  -- bytes of a file outside the directory, whose places f tells
  pub both_bytes : (f : ℕ → ℕ) (bs d d' : List ℕ) (i : ℕ)
      → ((k : ℕ) → i ≤ k → k < i + length bs → (f k < 256 * g.start) ⊎ (256 * (g.start + directory_sectors g d) ≤ f k))
      → AlikePair u g m d d' → AlikePair u g m (store f d i bs) (store f d' i bs)
  unfolding store directory_sectors
  both_bytes f [] d d' i h w = w
  both_bytes f (b ∷ bs) d d' i h w =
      let o = h i (omega arith) (omega arith) in
      let e : above_ten g (set d (f i) b) ≡ above_ten g d = get_or-set_other d (f i) (hit_at g 0x1f) b 0 (λ q. not_there o (sym q)) in
      both_bytes f bs (set d (f i) b) (set d' (f i) b) (i + 1) (λ k l z. rw e (h k (omega arith) (omega arith)))
      (both-store d d' (f i) b (not_there o) (λ s t. out s (Places.slot g d s t) o) w)
    where
      not_there : (f i < 256 * g.start) ⊎ (256 * (g.start + (10 + above_ten g d)) ≤ f i) → f i ≢ hit_at g 0x1f
      not_there (inl q) = omega arith
      not_there (inr q) = omega arith

      out : (s : ℕ) → Places.IsSlot g d s → (f i < 256 * g.start) ⊎ (256 * (g.start + (10 + above_ten g d)) ≤ f i)
          → (f i < entry_at g s) ⊎ (entry_at g s + 32 ≤ f i)
      out s t (inl q) = inl (omega arith)
      out s t (inr q) = inr (omega (arith, t.low, t.sector))

  -- Bytes of one entry -------------------------------------------------------------------------------------------------------------

  -- from d by stores to the entry at s, whose bytes become F of what they were
  record EntryStored (s : ℕ) (F : (ℕ → ℕ) → ℕ → ℕ) (d e : List ℕ) : Type 0 where
    long : length e ≡ length d
    out : (i : ℕ) → (i < entry_at g s) ⊎ (entry_at g s + 32 ≤ i) → byte e i ≡ byte d i
    in' : entry_at g s + 31 < length d → (k : ℕ) → k < 32 → field g e s k ≡ F (field g d s) k

  wrote_one : (s k v : ℕ) (d : List ℕ) → k < 32 → EntryStored s (λ f. put f k v) d (set_field g d s k v)
  unfolding set_field field put
  wrote_one s k v d h = record {
    long = length-set d (entry_at g s + k) v;
    out = λ i o. get_or-set_other d (entry_at g s + k) i v 0 (away i o);
    in' = λ l j z. by l j (ℕ_discrete j k);
  }
    where
      away : (i : ℕ) → (i < entry_at g s) ⊎ (entry_at g s + 32 ≤ i) → i ≢ entry_at g s + k
      away i (inl o) = omega arith
      away i (inr o) = omega arith

      by : entry_at g s + 31 < length d → (j : ℕ) → Dec (j ≡ k)
          → byte (set d (entry_at g s + k) v) (entry_at g s + j) ≡ cond (eqb j k) v (byte d (entry_at g s + j))
      by l j (yes e) = rw (e, eq-eqb k k refl) (get_or-set_same d (entry_at g s + k) v 0 (omega arith))
      by l j (no n) = rw (ne_eqb j k n) (get_or-set_other d (entry_at g s + k) (entry_at g s + j) v 0 (λ q. n (omega arith)))

  wrote-two : (s k v j w : ℕ) (d : List ℕ) → k < 32 → j < 32 → EntryStored s (λ f. put (put f k v) j w) d (set_field g (set_field g d s k v) s j w)
  wrote-two s k v j w d h l =
      let x = wrote_one s k v d h in let y = wrote_one s j w (set_field g d s k v) l in
      record {
        long = y.long ∙ x.long;
        out = λ i o. y.out i o ∙ x.out i o;
        in' = λ q i z. y.in' (omega (arith, x.long)) i z ∙ put-eq (field g (set_field g d s k v) s) (put (field g d s) k v) j w i (x.in' q i z);
      }

  wrote-all : (s : ℕ) (vs d : List ℕ) → length vs ≡ 32 → EntryStored s (λ f k. byte vs k) d (sets d (entry_at g s) vs)
  unfolding field
  wrote-all s vs d l = record {
    long = length-sets d (entry_at g s) vs;
    out = λ i o. Places.sets-outside vs d (entry_at g s) i (over i o);
    in' = λ q k h. Places.sets-inside vs d (entry_at g s) k (omega arith) (omega arith);
  }
    where
      over : (i : ℕ) → (i < entry_at g s) ⊎ (entry_at g s + 32 ≤ i) → (i < entry_at g s) ⊎ (entry_at g s + length vs ≤ i)
      over i (inl o) = inl o
      over i (inr o) = inr (omega arith)

  -- the same bytes of the entry at a slot, on both: the rest of the two images is as it was
  both-wrote : (s : ℕ) (F : (ℕ → ℕ) → ℕ → ℕ) (d d' e e' : List ℕ) → Slot m s → EntryStored s F d e → EntryStored s F d' e'
      → (EntryAlike u (field g d s) (field g d' s) → EntryAlike u (F (field g d s)) (F (field g d' s))) → AlikePair u g m d d' → AlikePair u g m e e'
  unfolding taken hit field
  both-wrote s F d d' e e' slot x x' q w =
      let a = w.alike in
      let above : above_ten g e ≡ above_ten g d = x.out (hit_at g 0x1f) (inl (omega arith)) in
      let above' : above_ten g e' ≡ above_ten g d' = x'.out (hit_at g 0x1f) (inl (omega arith)) in
      let slots : (r : ℕ) → T (is_slot g e r) → T (is_slot g d r) = λ r v. subst T (Frame.slot-eq g d e above r) v in
      let slots' : (r : ℕ) → T (is_slot g d r) → T (is_slot g e r) = λ r v. subst T (sym (Frame.slot-eq g d e above r)) v in
      let in-gat : (n : ℕ) → n < granules g → gat_at g n < entry_at g s =
      λ n h. let b = Places.block-lt g d n w.fits h in omega (arith, b, w.fits.blocks-hi) in
      let low : (r : ℕ) → T (is_slot g e r) → hit_at g r < entry_at g s = λ r v. let z = Places.slot g d r (slots r v) in omega (arith, z.low) in
      record {
        alike = record {
          long = x.long ∙ a.long ∙ sym x'.long;
          rest = λ i o. let z = was slots' i o in out i z (x.out i (there i z)) (x'.out i (there i z));
          gat = λ n h. ap (bit (n % g.units)) (x.out (gat_at g n) (inl (in-gat n h))) ∙ a.gat n h
              ∙ sym (ap (bit (n % g.units)) (x'.out (gat_at g n) (inl (in-gat n h))));
          above = above ∙ a.above ∙ sym above';
          hits = λ r v. x.out (hit_at g r) (inl (low r v)) ∙ a.hits r (slots r v) ∙ sym (x'.out (hit_at g r) (inl (low r v)));
          entries = λ r v. entry r (slots r v) (ℕ_discrete r s);
        };
        fits = Places.as_long w.fits x.long;
        dir = as-dir g above w.dir;
        tall = above ∙ w.tall;
      }
    where
      t : T (is_slot g d s)
      t = is-slot d s w.tall slot

      was : ((r : ℕ) → T (is_slot g d r) → T (is_slot g e r)) → (j : ℕ) → Outside g e j → Outside g d j
      was f j (inl h) = inl h
      was f j (inr h) = inr (h.0, λ r v. h.1 r (f r v))

      there : (i : ℕ) → Outside g d i → (i < entry_at g s) ⊎ (entry_at g s + 32 ≤ i)
      there i (inl h) = inl (omega arith)
      there i (inr h) = h.1 s t

      out : (i : ℕ) → Outside g d i → byte e i ≡ byte d i → byte e' i ≡ byte d' i → byte e i ≡ byte e' i
      out i o y y' = y ∙ w.alike.rest i o ∙ sym y'

      fit : entry_at g s + 31 < length d
      fit = entry_lt g d s 31 w.fits w.dir t (omega arith)

      entry : (r : ℕ) → T (is_slot g d r) → Dec (r ≡ s) → EntryAlike u (field g e r) (field g e' r)
      entry r v (yes z) =
          subst (λ (y : ℕ). EntryAlike u (field g e y) (field g e' y)) (sym z)
          (carry u _ _ _ _ (x.in' fit) (x'.in' (omega (arith, fit, w.alike.long))) (q (w.alike.entries s t)))
      entry r v (no z) =
          carry u _ _ _ _ (λ k h. x.out (entry_at g r + k) (beside g d r s v t z k h)) (λ k h. x'.out (entry_at g r + k) (beside g d r s v t z k h))
          (w.alike.entries r v)

  -- a byte on which nothing hangs that is read
  pub both-field : (d d' : List ℕ) (s k v : ℕ) → Slot m s → k < 32 → k ≢ 0 → k ≢ 0x1e → ((j : ℕ) → j < 4 → k ≢ 0x16 + 2 * j)
      → AlikePair u g m d d' → AlikePair u g m (set_field g d s k v) (set_field g d' s k v)
  both-field d d' s k v t h n l b w = both-wrote s _ d d' _ _ t (wrote_one s k v d h) (wrote_one s k v d' h) (λ a.
      entry-put u _ _ (λ f. put f k v) (put_other _ k v 0 (λ z. n (sym z))) (put_other _ k v 0 (λ z. n (sym z))) (λ c. put-simple u _ _ c k v n l b) a) w

  -- the flags, bit 7 as it was, or set
  pub both-flag : (d d' : List ℕ) (s v : ℕ) → Slot m s → (bit 7 v ≡ bit 7 (field g d s 0)) ⊎ (bit 7 v ≡ true)
      → (bit 4 v ≡ false) ⊎ (u.dead ≡ false) → AlikePair u g m d d'
      → AlikePair u g m (set_field g d s 0 v) (set_field g d' s 0 v)
  both-flag d d' s v t e o w = both-wrote s _ d d' _ _ t (wrote_one s 0 v d (omega arith)) (wrote_one s 0 v d' (omega arith)) (λ a. entry-flags u _ _ v e o a) w

  -- a pair behind which all begin with FFH
  pub both-pair : (d d' : List ℕ) (s k x y : ℕ) → Slot m s → k < 4 → ((j : ℕ) → k < j → j < 4 → block g d s j ≡ 0xff) → AlikePair u g m d d'
      → AlikePair u g m (set_pair g d s k x y) (set_pair g d' s k x y)
  both-pair d d' s k x y t h ff w =
      both-wrote s _ d d' _ _ t (wrote-two s (0x16 + 2 * k) x (0x17 + 2 * k) y d (omega arith) (omega arith))
      (wrote-two s (0x16 + 2 * k) x (0x17 + 2 * k) y d' (omega arith) (omega arith)) (λ a.
      entry-put u _ _ (λ f. put (put f (0x16 + 2 * k) x) (0x17 + 2 * k) y) (twice-other _ _ x _ y (omega arith) (omega arith))
      (twice-other _ _ x _ y (omega arith) (omega arith)) (λ c. put-pair u _ _ c k x y h ff) a) w

  -- marker and link
  pub both-link : (d d' : List ℕ) (s x y : ℕ) → Slot m s → AlikePair u g m d d' → AlikePair u g m (set_link g d s x y) (set_link g d' s x y)
  both-link d d' s x y t w =
      both-wrote s _ d d' _ _ t (wrote-two s 0x1e x 0x1f y d (omega arith) (omega arith)) (wrote-two s 0x1e x 0x1f y d' (omega arith) (omega arith))
      (λ a. entry-put u _ _ (λ f. put (put f 0x1e x) 0x1f y) (twice-other _ 0x1e x 0x1f y (omega arith) (omega arith))
      (twice-other _ 0x1e x 0x1f y (omega arith) (omega arith)) (λ c. put-link u _ _ c x y) a) w

  -- a whole entry
  pub both-sets : (vs d d' : List ℕ) (s : ℕ) → length vs ≡ 32 → Slot m s → AlikePair u g m d d'
      → AlikePair u g m (sets d (entry_at g s) vs) (sets d' (entry_at g s) vs)
  both-sets vs d d' s l t w = both-wrote s _ d d' _ _ t (wrote-all s vs d l) (wrote-all s vs d' l) (λ a. whole-alike u _ _ (λ k h. refl)) w

  -- One bit of the GAT ---------------------------------------------------------------------------------------------------------------

  pub both-mark : (v : ℕ) → v < 2 → (d d' : List ℕ) (n : ℕ) → n < granules g → AlikePair u g m d d'
      → AlikePair u g m (Places.marked g v d n) (Places.marked g v d' n)
  unfolding taken hit field
  both-mark v l d d' n h w =
      let a = w.alike in
      let out : (e : List ℕ) (j : ℕ) → (j < 256 * g.start) ⊎ (256 * (g.start + 1) ≤ j) → byte (Places.marked g v e n) j ≡ byte e j =
      λ e j o. get_or-set_other e (gat_at g n) j _ 0 (away j o) in
      let above : (e : List ℕ) → above_ten g (Places.marked g v e n) ≡ above_ten g e = λ e. out e (hit_at g 0x1f) (inr (omega arith)) in
      let slots : (s : ℕ) → T (is_slot g (Places.marked g v d n) s) → T (is_slot g d s) =
      λ s t. subst T (Frame.slot-eq g d (Places.marked g v d n) (above d) s) t in
      record {
        alike = record {
          long = length-set d (gat_at g n) _ ∙ a.long ∙ sym (length-set d' (gat_at g n) _);
          rest = λ j o. let q = wide j o in
              out d j q ∙ a.rest j (was (λ s t. subst T (sym (Frame.slot-eq g d (Places.marked g v d n) (above d) s)) t) j o) ∙ sym (out d' j q);
          gat = λ k b. bits k b (ℕ_discrete k n) (dec_lt (gat_at g n) (length d));
          above = above d ∙ a.above ∙ sym (above d');
          hits = λ s t.
              out d (hit_at g s) (inr (omega arith)) ∙ a.hits s (slots s t)
              ∙ sym (out d' (hit_at g s) (inr (omega arith)));
          entries = λ s t.
              carry u _ _ _ _ (λ k b. out d (entry_at g s + k) (inr (omega arith))) (λ k b. out d' (entry_at g s + k) (inr (omega arith)))
              (a.entries s (slots s t));
        };
        fits = Places.as_long w.fits (length-set d (gat_at g n) _);
        dir = as-dir g (above d) w.dir;
        tall = above d ∙ w.tall;
      }
    where
      was : ((s : ℕ) → T (is_slot g d s) → T (is_slot g (Places.marked g v d n) s)) → (j : ℕ) → Outside g (Places.marked g v d n) j → Outside g d j
      was f j (inl o) = inl o
      was f j (inr o) = inr (o.0, λ s t. o.1 s (f s t))

      away : (j : ℕ) → (j < 256 * g.start) ⊎ (256 * (g.start + 1) ≤ j) → j ≢ gat_at g n
      away j (inl o) = omega arith
      away j (inr o) = let b = Places.block-lt g d n w.fits h in omega (arith, b, w.fits.blocks-hi)

      wide : (j : ℕ) → Outside g (Places.marked g v d n) j → (j < 256 * g.start) ⊎ (256 * (g.start + 1) ≤ j)
      wide j (inl o) = inl o
      wide j (inr o) = let z = o.0 in inr (omega arith)

      bits : (k : ℕ) → k < granules g → Dec (k ≡ n) → Dec (gat_at g n < length d) → taken g (Places.marked g v d n) k ≡ taken g (Places.marked g v d' n) k
      bits k b (no q) r = Places.marked_other g v l d n k q ∙ w.alike.gat k b ∙ sym (Places.marked_other g v l d' n k q)
      bits k b (yes q) (yes r) =
          rw q (ap (λ (x : ℕ). eqb x 1) (Places.marked-same g v l d n r ∙ sym (Places.marked-same g v l d' n (omega (arith, w.alike.long)))))
      bits k b (yes q) (no r) =
          rw (
            set_out d (gat_at g n) (put_digit (byte d (gat_at g n)) (n % g.units) v) (omega arith),
            set_out d' (gat_at g n) (put_digit (byte d' (gat_at g n)) (n % g.units) v) (omega (arith, w.alike.long)),
          )
          (w.alike.gat k b)

  pub both-take : (d d' : List ℕ) (n : ℕ) → n < granules g → AlikePair u g m d d' → AlikePair u g m (take_granule g d n) (take_granule g d' n)
  unfolding take_granule
  both-take d d' n h w = both-mark 1 (omega arith) d d' n h w

  pub both-free : (d d' : List ℕ) (n : ℕ) → n < granules g → AlikePair u g m d d' → AlikePair u g m (free_granule g d n) (free_granule g d' n)
  unfolding free_granule
  both-free d d' n h w = both-mark 0 (omega arith) d d' n h w

  -- Folds ----------------------------------------------------------------------------------------------------------------------------

  pub both-through : (f : List ℕ → ℕ → List ℕ) (ns d d' : List ℕ)
      → ((e e' : List ℕ) (n : ℕ) → In n ns → AlikePair u g m e e' → AlikePair u g m (f e n) (f e' n)) → AlikePair u g m d d'
      → AlikePair u g m (through f d ns) (through f d' ns)
  both-through f [] d d' h w = w
  both-through f (n ∷ ns) d d' h w = both-through f ns (f d n) (f d' n) (λ e e' k j. h e e' k (Members.In.there j)) (h d d' n Members.In.here w)
