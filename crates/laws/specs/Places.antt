-- Where things lie, as inequalities, and what a store leaves
use Rattle.std.specs.Prelude.{◌≡◌, refl, ◌≢◌, ◌⊎◌, List, [], ◌∷◌, ℕ, zero, suc, ◌+◌, ◌*◌, ◌/◌, ◌%◌, ◌≤◌, ◌<◌, length, set, T, eqb, leb, ltb}
use Rattle.std.proofs.Common.{ap, sym, ◌∙◌, inl, inr, arith, div-add-mod', div-lt_iff_lt-mul, add-zero, add-suc, suc-add, length-set, get_or-set_same}
use Rattle.std.proofs.Common.{get_or-set_other, eqb→eq, ltb→lt, leb→le}
use Rattle.std.proofs.Math.Decide.{ℕ_discrete, dec_lt}
use Rattle.std.proofs.Math.Seq.{set_out}
use Rattle.std.proofs.lemmas.List.Edits.{sets}
use Rattle.meaning.specs.Lists.{count, has, through}
use Rattle.meaning.specs.Layout.{fits_geometry, byte, is_slot, taken, gat_at, granules, directory_granules, granule_bytes, granule_sectors, above_ten}
use Rattle.meaning.specs.Layout.{directory_sectors, sectors, round_up, most_blocks, most_units}
use Rattle.lists.specs.Sizes
use Rattle.meaning.specs.Bits.{digit, put_digit}
use Rattle.meaning.specs.Entries.{runs, run_start, run_length, run_granules, entry_granules}
use Rattle.meaning.specs.Consistent.{length_holds}
use Rattle.meaning.specs.declared.Geometry.{Geometry}
use Rattle.lists.specs.Members
use Rattle.lists.specs.Members.{In}
use Rattle.laws.specs.Bits
use Rattle.laws.specs.Entry
use Rattle.laws.specs.Words.{words}

pub record Fits (g : Geometry) (d : List ℕ) : Type 0 where
  pub blocks-lo : 1 ≤ g.blocks
  pub blocks-hi : g.blocks ≤ most_blocks
  pub units-lo : 1 ≤ g.units
  pub units-hi : g.units ≤ most_units
  pub start-at : g.start % granule_sectors g ≡ 0
  pub size : length d ≡ granules g * granule_bytes g
  -- the same by sectors, and that a granule has some: what follows from them is linear
  pub long : length d ≡ 256 * sectors g
  pub wide : 1 ≤ granule_bytes g
  pub deep : 1 ≤ granule_sectors g

pub record Dir (g : Geometry) (d : List ℕ) : Type 0 where
  pub fives : above_ten g d % 5 ≡ 0
  pub small : above_ten g d ≤ 20
  pub inside : g.start + directory_sectors g d ≤ sectors g

ruleset parts = (Members.and_l, Members.and_r)

pub fits : (g : Geometry) (d : List ℕ) → T (fits_geometry g d) → Fits g d
unfolding fits_geometry words
fits g d t =
    let a : T (leb 1 g.blocks) = search parts depth 9 in
    let b : T (leb g.blocks most_blocks) = search parts depth 9 in
    let c : T (leb 1 g.units) = search parts depth 9 in
    let e : T (leb g.units most_units) = search parts depth 9 in
    let f : T (eqb (g.start % granule_sectors g) 0) = search parts depth 9 in
    let h : T (eqb (length d) (granules g * granule_bytes g)) = search parts depth 9 in
    record {
      blocks-lo = leb→le _ _ a;
      blocks-hi = leb→le _ _ b;
      units-lo = leb→le _ _ c;
      units-hi = leb→le _ _ e;
      start-at = eqb→eq _ _ f;
      size = eqb→eq _ _ h;
      long = eqb→eq _ _ h ∙ Sizes.bytes-sectors g;
      wide = Sizes.bytes_pos g;
      deep = Sizes.sectors-pos g;
    }

-- an image as long fits as well
pub as_long : {g : Geometry} {d d' : List ℕ} → Fits g d → length d' ≡ length d → Fits g d'
as_long k l = record {
  blocks-lo = k.blocks-lo;
  blocks-hi = k.blocks-hi;
  units-lo = k.units-lo;
  units-hi = k.units-hi;
  start-at = k.start-at;
  size = l ∙ k.size;
  long = l ∙ k.long;
  wide = k.wide;
  deep = k.deep;
}

five : (x : ℕ) → In x (0 ∷ 5 ∷ 10 ∷ 15 ∷ 20 ∷ []) → (x % 5 ≡ 0) × (x ≤ 20)
five x i = (eqb→eq _ _ (Members.every-all (λ x. eqb (x % 5) 0) tt i), leb→le _ _ (Members.every-all (λ x. leb x 20) tt i))

pub dir : (g : Geometry) (d : List ℕ) → T (length_holds g d) → Dir g d
unfolding words
dir g d t =
    let a : T (has (0 ∷ 5 ∷ 10 ∷ 15 ∷ 20 ∷ []) (above_ten g d)) = search parts depth 4 in
    let b : T (leb (g.start + directory_sectors g d) (sectors g)) = search parts depth 4 in
    let f = five (above_ten g d) (Members.has_in _ _ a) in
    record { fives = f.0; small = f.1; inside = leb→le _ _ b }

pub record IsSlot (g : Geometry) (d : List ℕ) (s : ℕ) : Type 0 where
  pub low : s < 256
  pub sector : s % 32 + 2 < directory_sectors g d

pub slot : (g : Geometry) (d : List ℕ) (s : ℕ) → T (is_slot g d s) → IsSlot g d s
unfolding words
slot g d s t = record {
  low = ltb→lt _ _ (Members.and_l (ltb s 256) _ t);
  sector = ltb→lt _ _
      (Members.all-second (ltb s 256) (ltb (s % 32 + 2) (directory_sectors g d)) t);
}

-- where an entry's runs lie on the disk, its granules do
pub runs-granule-lt : (g : Geometry) (d : List ℕ) (s n : ℕ) → ((k : ℕ) → k < runs g d s → Entry.OnDisk g d s k) → In n (entry_granules g d s) → n < granules g
unfolding entry_granules
runs-granule-lt g d s n f i =
    let k = Members.each_in (run_granules g d s) n (count 0 (runs g d s)) i in
    let r = Members.count-in k.0 0 (runs g d s) k.1 in
    let m = Members.count-in n (run_start g d s k.0) (run_length g d s k.0) k.2 in
    omega (arith, m, (f k.0 (omega arith)).inside)

pub entry-granule-lt : (g : Geometry) (d : List ℕ) (s n : ℕ) → Entry.Entry g d s → In n (entry_granules g d s) → n < granules g
entry-granule-lt g d s n e i = runs-granule-lt g d s n e.run i

pub directory-lt : (g : Geometry) (d : List ℕ) (n : ℕ) → Dir g d → In n (directory_granules g d) → n < granules g
directory-lt g d n f i =
    let m = Members.count-in n (g.start / granule_sectors g) (round_up (directory_sectors g d) (granule_sectors g)) i in
    let k = Sizes.touched-inside (Sizes.sectors-pos g) g.start (directory_sectors g d) (granules g) f.inside in
    omega (arith, m, k)

-- a place in no granule of the directory is in no sector of it
pub outside : (g : Geometry) (d : List ℕ) (i : ℕ) → g.start % granule_sectors g ≡ 0 → Dir g d → (In (i / granule_bytes g) (directory_granules g d) → ⊥)
    → (i < 256 * g.start) ⊎ (256 * (g.start + directory_sectors g d) ≤ i)
outside g d i e f n = go (dec_lt i (256 * g.start)) (dec_lt i (256 * (g.start + directory_sectors g d)))
  where
    go : Dec (i < 256 * g.start) → Dec (i < 256 * (g.start + directory_sectors g d)) → (i < 256 * g.start) ⊎ (256 * (g.start + directory_sectors g d) ≤ i)
    go (yes a) b = inl a
    go (no a) (no b) = inr (omega arith)
    go (no a) (yes b) = absurd (n
        (Members.in_count (i / granule_bytes g) (g.start / granule_sectors g) (round_up (directory_sectors g d) (granule_sectors g))
        (Sizes.touched-from g i g.start (omega arith)) (Sizes.touched-to g i g.start (directory_sectors g d) e (omega arith))))

pub block-lt : (g : Geometry) (d : List ℕ) (n : ℕ) → Fits g d → n < granules g → n / g.units < g.blocks
unfolding words
block-lt g d n f h = (div-lt_iff_lt-mul f.units-lo).1 h

-- a block of bytes stored at once: what lies before, after and inside
pub sets-before : (vs d : List ℕ) (i j : ℕ) → j < i → byte (sets d i vs) j ≡ byte d j
sets-before [] d i j h = refl
sets-before (v ∷ vs) d i j h = sets-before vs (set d i v) (suc i) j (omega arith) ∙ get_or-set_other d i j v 0 (omega arith)

pub sets-after : (vs d : List ℕ) (i j : ℕ) → i + length vs ≤ j → byte (sets d i vs) j ≡ byte d j
sets-after [] d i j h = refl
sets-after (v ∷ vs) d i j h = sets-after vs (set d i v) (suc i) j (omega arith) ∙ get_or-set_other d i j v 0 (omega arith)

pub sets-inside : (vs d : List ℕ) (i k : ℕ) → k < length vs → i + length vs ≤ length d → byte (sets d i vs) (i + k) ≡ byte vs k
sets-inside [] d i k h l = absurd (omega arith)
sets-inside (v ∷ vs) d i zero h l = rw add-zero (sets-before vs (set d i v) (suc i) i (omega arith) ∙ get_or-set_same d i v 0 (omega arith))
sets-inside (v ∷ vs) d i (suc k) h l =
    rw (add-suc, ← suc-add) (sets-inside vs (set d i v) (suc i) k (omega arith) (rw length-set (omega arith)))

pub sets-outside : (vs d : List ℕ) (i j : ℕ) → (j < i) ⊎ (i + length vs ≤ j) → byte (sets d i vs) j ≡ byte d j
sets-outside vs d i j (inl h) = sets-before vs d i j h
sets-outside vs d i j (inr h) = sets-after vs d i j h

-- Folds of stores --------------------------------------------------------------------------------------------------------

pub through-keeps : {B : Type 0} (R : List ℕ → B) (f : List ℕ → ℕ → List ℕ) (ns d : List ℕ) → ((e : List ℕ) (n : ℕ) → In n ns → R (f e n) ≡ R e) → R
    (through f d ns) ≡ R d
through-keeps R f [] d h = refl
through-keeps R f (n ∷ ns) d h = through-keeps R f ns (f d n) (λ e m i. h e m (Members.In.there i)) ∙ h d n Members.In.here

pub through-stays : (R : List ℕ → Type 0) (f : List ℕ → ℕ → List ℕ) (ns d : List ℕ) → ((e : List ℕ) (n : ℕ) → In n ns → R e → R (f e n)) → R d → R
    (through f d ns)
through-stays R f [] d h r = r
through-stays R f (n ∷ ns) d h r = through-stays R f ns (f d n) (λ e m i. h e m (Members.In.there i)) (h d n Members.In.here r)

pub through-makes : (I R : List ℕ → Type 0) (f : List ℕ → ℕ → List ℕ) {x : ℕ} {ns : List ℕ} (d : List ℕ) → In x ns
    → ((e : List ℕ) (n : ℕ) → In n ns → I e → I (f e n)) → ((e : List ℕ) → I e → R (f e x))
    → ((e : List ℕ) (n : ℕ) → In n ns → I e → R e → R (f e n)) → I d → R (through f d ns)
through-makes I R f {x} d (Members.In.here {xs = ns}) a b c i =
    (through-stays (λ l. I l × R l) f ns (f d x) (λ e m j r. (a e m (Members.In.there j) r.0, c e m (Members.In.there j) r.0 r.1))
    (a d x Members.In.here i, b d i)).1
through-makes I R f d (Members.In.there {y = y} j) a b c i = through-makes I R f (f d y) j (λ e m k. a e m (Members.In.there k)) b
    (λ e m k. c e m (Members.In.there k)) (a d y Members.In.here i)

-- One granule ------------------------------------------------------------------------------------------------------------

-- two granules of one block have different units
pub apart : (units m n : ℕ) → m ≢ n → m / units ≡ n / units → m % units ≢ n % units
apart units m n k e f = k (sym (div-add-mod' m units) ∙ ap (λ (q : ℕ). q * units + m % units) e ∙ ap (λ (r : ℕ). n / units * units + r) f ∙ div-add-mod' n
    units)

-- granule n of the GAT put free (0) or taken (1)
abbrev pub marked : Geometry → ℕ → List ℕ → ℕ → List ℕ
marked g v d n = set d (gat_at g n) (put_digit (byte d (gat_at g n)) (n % g.units) v)

pub marked-same : (g : Geometry) (v : ℕ) → v < 2 → (d : List ℕ) (n : ℕ) → gat_at g n < length d → digit (byte (marked g v d n) (gat_at g n)) (n % g.units) ≡ v
marked-same g v b d n h = rw (get_or-set_same d (gat_at g n) (put_digit (byte d (gat_at g n)) (n % g.units) v) 0 h) (Bits.digit-same _ _ v b)

-- another bit, of that byte or of another
pub marked-digit : (g : Geometry) (v : ℕ) → v < 2 → (d : List ℕ) (n i u : ℕ) → (i ≡ gat_at g n → u ≢ n % g.units) → digit (byte (marked g v d n) i) u ≡ digit
    (byte d i) u
marked-digit g v b d n i u k = go (ℕ_discrete i (gat_at g n)) (dec_lt (gat_at g n) (length d))
  where
    go : Dec (i ≡ gat_at g n) → Dec (gat_at g n < length d) → digit (byte (marked g v d n) i) u ≡ digit (byte d i) u
    go (yes e) (yes l) = rw (e, get_or-set_same d (gat_at g n) (put_digit (byte d (gat_at g n)) (n % g.units) v) 0 l)
        (Bits.digit-other (byte d (gat_at g n)) (n % g.units) u v b (k e))
    go (yes e) (no l) = rw (set_out d (gat_at g n) (put_digit (byte d (gat_at g n)) (n % g.units) v) (omega arith))
    go (no e) l = rw (get_or-set_other d (gat_at g n) i (put_digit (byte d (gat_at g n)) (n % g.units) v) 0 e)

-- the bit of another granule
pub marked-apart : (g : Geometry) (v : ℕ) → v < 2 → (d : List ℕ) (n m : ℕ) → m ≢ n → digit (byte (marked g v d n) (gat_at g m)) (m % g.units) ≡ digit
    (byte d (gat_at g m)) (m % g.units)
marked-apart g v b d n m k = marked-digit g v b d n (gat_at g m) (m % g.units) (λ e. apart g.units m n k (omega arith))

pub marked_other : (g : Geometry) (v : ℕ) → v < 2 → (d : List ℕ) (n m : ℕ) → m ≢ n → taken g (marked g v d n) m ≡ taken g d m
unfolding words
marked_other g v b d n m k = ap (λ (x : ℕ). eqb x 1) (marked-apart g v b d n m k)
