-- The bytes of an image stay below 256: through one store, through a step of a growth or of a trim, and through each call's stores
use Rattle.std.proofs.Math.Path.{◌≡◌, subst}
use Rattle.std.specs.Prelude.{◌⊎◌, Bool, cond, ◌&&◌, ℕ, zero, suc, ◌+◌, ◌-◌, ◌*◌, ◌/◌, ◌%◌, ◌≤◌, ◌<◌, length, set, replicate, take, drop, leb, ltb}
use Rattle.std.proofs.Common.{inl, inr, mod-lt, take-append-drop, get_or-set_same, get_or-set_other, lt→ltb, leb→le, eqb→eq}
use Rattle.std.proofs.Math.Bool.{true, false}
use mathlib.Core.List.{List, [], ◌∷◌, ◌++◌}
use native.Mathlib.Omega.{arith}
use Rattle.std.proofs.Math.Decide.{ℕ_discrete, dec_lt}
use Rattle.std.proofs.Math.Seq.{set_out}
use Rattle.std.proofs.lemmas.List.Edits.{sets}
use Rattle.std.proofs.lemmas.Nat.{xor_lt}
use Rattle.std.proofs.Math.Dec.{T, eqb, ltb→lt}
use Rattle.meaning.specs.Lists.{count, every, through}
use Rattle.meaning.specs.Layout.{byte, field, set_field, take_granule, free_granule, gat_at, hit_at, entry_at, granules, hit}
use Rattle.meaning.specs.Bits.{put_digit}
use Rattle.meaning.specs.Names.{letter, padded, well_formed, hash, mix}
use Rattle.meaning.specs.Entries.{size_of, runs, run_start, run_length, extension, sectors_for}
use Rattle.meaning.specs.Chain.{chain, owned}
use Rattle.meaning.specs.Growth.{tail, after, lengthens, lengthened, with_pair, new_extension, with_extension, extended, take_at, grown}
use Rattle.meaning.specs.Free.{free_slot, free_slots}
use Rattle.meaning.specs.Drop.{unhooked, drop_one}
use Rattle.meaning.specs.Kill.{killed}
use Rattle.meaning.specs.Create.{new_entry, with_entry}
use Rattle.meaning.specs.Write.{store, with_size}
use Rattle.promises_words.specs.Given.{AreBytes}
use Rattle.meaning.specs.declared.Geometry.{Geometry}
use Rattle.meaning.specs.declared.NewFile.{NewFile}
use Rattle.lists.specs.Members
use Rattle.lists.specs.Members.{In}
use Rattle.laws.specs.Bits
use Rattle.laws.specs.Facts
use Rattle.laws.specs.Facts.{Sound, IsFile}
use Rattle.laws.specs.Places
use Rattle.laws.specs.Marking
use Rattle.laws.specs.Change
use Rattle.laws.specs.Words.{words}

-- AreBytes, byte by byte
pub record Small (d : List ℕ) : Type 0 where
  pub below : (i : ℕ) → byte d i < 256

pub small-none : Small []
small-none = record { below = λ i. omega arith }

pub small-cons : {x : ℕ} {xs : List ℕ} → x < 256 → Small xs → Small (x ∷ xs)
small-cons {x} {xs} h s = record { below = go }
  where
    go : (i : ℕ) → byte (x ∷ xs) i < 256
    go zero = h
    go (suc i) = s.below i

pub small-rest : {x : ℕ} {xs : List ℕ} → Small (x ∷ xs) → Small xs
small-rest s = record { below = λ i. s.below (suc i) }

pub bytes_small : (d : List ℕ) → AreBytes d → Small d
bytes_small d e = go d (Members.true-T e)
  where
    go : (l : List ℕ) → T (every (λ x. ltb x 256) l) → Small l
    go [] t = small-none
    go (x ∷ l) t = small-cons (ltb→lt x 256 (Members.and_l (ltb x 256) (every (λ x. ltb x 256) l) t))
        (go l (Members.and_r (ltb x 256) (every (λ x. ltb x 256) l) t))

pub small_bytes : (d : List ℕ) → Small d → AreBytes d
small_bytes d s = Members.T_true (go d s)
  where
    go : (l : List ℕ) → Small l → T (every (λ x. ltb x 256) l)
    go [] s = tt
    go (x ∷ l) s = Members.and_i (ltb x 256) (every (λ x. ltb x 256) l) (lt→ltb x 256 (s.below 0)) (go l (small-rest s))

pub small-set : {d : List ℕ} (i : ℕ) {v : ℕ} → Small d → v < 256 → Small (set d i v)
small-set {d} i {v} s h = record { below = λ j. go j (ℕ_discrete j i) (dec_lt i (length d)) }
  where
    go : (j : ℕ) → Dec (j ≡ i) → Dec (i < length d) → byte (set d i v) j < 256
    go j (yes e) (yes l) = rw (e, get_or-set_same d i v 0 l) h
    go j (yes e) (no l) = rw (set_out d i v (omega arith)) (s.below j)
    go j (no e) l = rw (get_or-set_other d i j v 0 e) (s.below j)

pub small-sets : (vs : List ℕ) {d : List ℕ} (i : ℕ) → Small d → Small vs → Small (sets d i vs)
small-sets [] i s h = s
small-sets (v ∷ vs) i s h = small-sets vs (suc i) (small-set i s (h.below 0)) (small-rest h)

pub small-store : (F : ℕ → ℕ) (bs : List ℕ) {d : List ℕ} (i : ℕ) → Small d → Small bs → Small (store F d i bs)
unfolding store
small-store F [] i s h = s
small-store F (b ∷ bs) i s h = small-store F bs (i + 1) (small-set (F i) s (h.below 0)) (small-rest h)

pub small-append : (xs : List ℕ) {ys : List ℕ} → Small xs → Small ys → Small (xs ++ ys)
small-append [] s t = t
small-append (x ∷ xs) s t = small-cons (s.below 0) (small-append xs (small-rest s) t)

pub small-replicate : (n : ℕ) {v : ℕ} → v < 256 → Small (replicate n v)
small-replicate zero h = small-none
small-replicate (suc n) h = small-cons h (small-replicate n h)

pub small-take : (n : ℕ) (xs : List ℕ) → Small xs → Small (take n xs)
small-take zero xs s = small-none
small-take (suc n) [] s = small-none
small-take (suc n) (x ∷ xs) s = small-cons (s.below 0) (small-take n xs (small-rest s))

pub put_small : (x u v : ℕ) → v < 2 → u < 8 → x < 256 → put_digit x u v < 256
put_small x u v h l b = Bits.put_digit-lt x u 8 v h l b

-- A name that is well formed is of bytes, and its hash is one ------------------------------------------------------------------

letter-small : (x : ℕ) → T (letter x) → x < 256
letter-small x t = go (Members.or-e (leb 0x30 x && leb x 0x39) (leb 0x41 x && leb x 0x5d) t)
  where
    go : T (leb 0x30 x && leb x 0x39) ⊎ T (leb 0x41 x && leb x 0x5d) → x < 256
    go (inl a) = omega (arith, leb→le x 0x39 (Members.and_r (leb 0x30 x) (leb x 0x39) a))
    go (inr a) = omega (arith, leb→le x 0x5d (Members.and_r (leb 0x41 x) (leb x 0x5d) a))

blanks-small : (xs : List ℕ) → T (every (eqb 0x20) xs) → Small xs
blanks-small [] t = small-none
blanks-small (x ∷ xs) t =
    small-cons (omega (arith, eqb→eq 0x20 x (Members.and_l (eqb 0x20 x) (every (eqb 0x20) xs) t)))
    (blanks-small xs (Members.and_r (eqb 0x20 x) (every (eqb 0x20) xs) t))

padded-small : (xs : List ℕ) → T (padded xs) → Small xs
padded-small [] t = small-none
padded-small (x ∷ xs) t = go (Members.decide (letter x)) (padded-small xs)
  where
    go : Members.Test (letter x) → (T (padded xs) → Small xs) → Small (x ∷ xs)
    go (Members.Test.holds l) r = small-cons (letter-small x l) (r (rw (Members.T_true {b = letter x} l) at t))
    go (Members.Test.fails l) r = blanks-small (x ∷ xs) (rw (Members.no_false {b = letter x} l) at t)

pub name-small : (n : List ℕ) → T (well_formed n) → Small n
unfolding well_formed words
name-small n w =
    let a : T (padded (take 8 n)) = search (Members.and_l, Members.and_r) depth 6 in
    let b : T (padded (drop 8 n)) = search (Members.and_l, Members.and_r) depth 6 in
    subst Small (take-append-drop 8 n) (small-append (take 8 n) (padded-small (take 8 n) a) (padded-small (drop 8 n) b))

mix-small : (h x : ℕ) → h < 256 → x < 256 → mix h x < 256
mix-small h x a b = let q = xor_lt 8 h x a b in omega arith

through-small : (n : List ℕ) (h : ℕ) → h < 256 → Small n → through mix h n < 256
through-small [] h a s = a
through-small (x ∷ n) h a s = through-small n (mix h x) (mix-small h x a (s.below 0)) (small-rest s)

pub hash-small : (n : List ℕ) → Small n → hash n < 256
unfolding hash
hash-small n s = go (through mix 0 n) (through-small n 0 (omega arith) s)
  where
    go : (h : ℕ) → h < 256 → cond (eqb h 0) 1 h < 256
    go h a = one (eqb h 0)
      where
        one : (b : Bool) → cond b 1 h < 256
        one true = omega arith
        one false = a

-- Granules and entries ---------------------------------------------------------------------------------------------------------

module _ (g : Geometry) (d : List ℕ) (k : Places.Fits g d) where
  unit-lt : (n : ℕ) → n % g.units < 8
  unit-lt n = let q = mod-lt n k.units-lo in let r = k.units-hi in omega arith

  pub small-free : {l : List ℕ} (n : ℕ) → Small l → Small (free_granule g l n)
  unfolding words
  small-free {l} n s = small-set (gat_at g n) s (put_small (byte l (gat_at g n)) (n % g.units) 0 (omega arith) (unit-lt n) (s.below (gat_at g n)))

  pub small-taken : {l : List ℕ} (n : ℕ) → Small l → Small (take_granule g l n)
  unfolding words
  small-taken {l} n s = small-set (gat_at g n) s (put_small (byte l (gat_at g n)) (n % g.units) 1 (omega arith) (unit-lt n) (s.below (gat_at g n)))

  pub small-field : {l : List ℕ} (e j : ℕ) {v : ℕ} → Small l → v < 256 → Small (set_field g l e j v)
  unfolding words
  small-field e j s h = small-set (entry_at g e + j) s h

  -- bits 4, HIT bytes and GAT bits put, as kill and bring back do
  pub small-marking : (v h : ℕ) (ns xs : List ℕ) → v < 2 → h < 256 → Small d → Small (Marking.marking g v h d ns xs)
  unfolding Marking.marking
  small-marking v h ns xs b e s =
      Places.through-stays Small (Marking.put_entry g v h) xs (through (Places.marked g v) d ns)
      (λ l x i r. small-set (hit_at g x) (small-set (entry_at g x + 0) r
      (put_small (byte l (entry_at g x + 0)) 4 v b (omega arith) (r.below (entry_at g x + 0)))) e)
      (Places.through-stays Small (Places.marked g v) ns d (λ l n i r. small-set (gat_at g n) r
      (put_small (byte l (gat_at g n)) (n % g.units) v b (unit-lt n) (r.below (gat_at g n)))) s)

  pub small-killed : (p : ℕ) → Small d → Small (killed g d p)
  unfolding Marking.marking words
  small-killed p s = small-marking 0 0 (owned g d p) (chain g d p) (omega arith) (omega arith) s

  -- the size and B, where the sector count has two bytes
  pub small_size : (l : List ℕ) (p size : ℕ) → Small l → sectors_for size < 65536 → Small (with_size g l p size)
  unfolding words
  small_size l p size s h =
      small-field p 1 (small-field p 0x15 (small-field p 0x14 (small-field p 3 s (omega arith)) (omega arith)) (omega arith))
      (put_small (field g l p 1) 5 1 (omega arith) (omega arith) (s.below (entry_at g p + 1)))

  pub size-sectors : (p : ℕ) → Small d → sectors_for (size_of g d p) < 65536
  unfolding words
  size-sectors p s = go (eqb (field g d p 3) 0)
    where
      go : (b : Bool) → (cond b (256 * (field g d p 0x14 + 256 * field g d p 0x15)) (256 * (field g d p 0x14 + 256 * field g d p 0x15 - 1) + field g d p 3) +
          255) / 256 < 65536
      go true = let b = s.below (entry_at g p + 0x14) in let c = s.below (entry_at g p + 0x15) in omega arith
      go false = let a = s.below (entry_at g p + 3) in let b = s.below (entry_at g p + 0x14) in let c = s.below (entry_at g p + 0x15) in omega arith

  -- a new file: its name well formed, its date in range, its codes of 16 bits
  pub small-born : (x : ℕ) (n : List ℕ) (f : NewFile) → Small d → T (well_formed n) → f.day ≤ 31 → f.month ≤ 15 → f.year ≤ 15 → f.main < 65536 → f.worker
      < 65536
      → Small (with_entry g d x n f)
  small-born x n f s w a b c e h =
      let codes : Small (f.main % 256 ∷ f.main / 256 ∷ f.worker % 256 ∷ f.worker / 256 ∷ 0 ∷ 0 ∷ replicate 10 0xff) =
      small-cons (omega arith) (small-cons (omega arith)
      (small-cons (omega arith) (small-cons (omega arith) (small-cons (omega arith) (small-cons (omega arith) (small-replicate 10 (omega arith))))))) in
      let entry : Small (new_entry n f) =
      small-cons (omega arith) (small-cons (omega arith)
      (small-cons (omega arith) (small-cons (omega arith) (small-cons (omega arith) (small-append n (name-small n w) codes))))) in
      small-set (hit_at g x) (small-sets (new_entry n f) (entry_at g x) s entry) (hash-small n (name-small n w))

-- One granule taken, one given back ------------------------------------------------------------------------------------------------

module _ (g : Geometry) (d : List ℕ) (c : Sound g d) (k : Places.Fits g d) (p : ℕ) (f : IsFile g d p) (s : Small d) where
  abbrev e : ℕ
  e = tail g p d

  e-small : e < 256
  e-small = Facts.slot_lt g d e (Change.members g d c p e f (Change.tail-in g d c p f)).slot

  pair_small : (l : List ℕ) (x j n : ℕ) → Small l → n < granules g → Small (with_pair g l x j n)
  pair_small l x j n r h =
      small-taken g d k n
      (small-field g d k x (0x17 + 2 * j) (small-field g d k x (0x16 + 2 * j) r (omega (arith, Places.block-lt g d n k h, k.blocks-hi)))
      (omega (arith, unit-lt g d k n)))

  longer-small : T (lengthens g p d) → Small (lengthened g p d)
  unfolding words
  longer-small t =
      let q = runs g d e - 1 in
      let a : T (ltb (run_length g d e q) 32) = search (Members.and_l, Members.and_r) depth 6 in
      small-taken g d k (after g p d)
      (small-field g d k e (0x17 + 2 * q) s (omega (arith, s.below (entry_at g e + (0x17 + 2 * q)), ltb→lt (run_length g d e q) 32 a)))

  hooked-small : (x : ℕ) → x < 256 → Small (with_extension g p d e x)
  unfolding words
  hooked-small x h =
      let new : Small (new_extension e) =
      small-cons (omega arith) (small-cons e-small (small-append (replicate 20 0) (small-replicate 20 (omega arith)) (small-replicate 10 (omega arith)))) in
      small-sets (hit g d p ∷ []) (hit_at g x)
      (small-sets (new_extension e) (entry_at g x) (small-field g d k e 0x1f (small-field g d k e 0x1e s (omega arith)) h) new)
      (small-cons (s.below (hit_at g p)) small-none)

  extended-small : (n : ℕ) → n < granules g → (xs : List ℕ) → ((x : ℕ) → In x xs → x < 256) → (d' : List ℕ) → extended g p xs d e n ≡ grown d' → Small d'
  unfolding extended
  extended-small n h [] b d' q = absurd (let z : ◌≡◌ {A = ℕ} 0 1 = cc in omega arith)
  extended-small n h (x ∷ xs) b d' q =
      let r : with_pair g (with_extension g p d e x) x 0 n ≡ d' = cc in
      subst Small r (pair_small (with_extension g p d e x) x 0 n (hooked-small x (b x Members.In.here)) h)

  slots_small : (x : ℕ) → In x (free_slots g d) → x < 256
  unfolding free_slots
  slots_small x i = omega (arith, Members.count-in x 0 256 (Members.keep-in (free_slot g d) x (count 0 256) i).0)

  pub take-small : (n : ℕ) → n < granules g → (d' : List ℕ) → take_at g p n d ≡ grown d' → Small d'
  take-small n h d' q = go (Members.decide (lengthens g p d)) (Members.decide (ltb (runs g d e) 4))
    where
      go : Members.Test (lengthens g p d) → Members.Test (ltb (runs g d e) 4) → Small d'
      go (Members.Test.holds t) b =
          let r : grown (lengthened g p d) ≡ grown d' = rw (Members.T_true {b = lengthens g p d} t) at q in
          let z : lengthened g p d ≡ d' = cc in
          subst Small z (longer-small t)
      go (Members.Test.fails a) (Members.Test.holds t) =
          let r : grown (with_pair g d e (runs g d e) n) ≡ grown d' = rw (Members.no_false {b = lengthens g p d} a, Members.T_true {b = ltb (runs g d e) 4} t)
          at q in
          let z : with_pair g d e (runs g d e) n ≡ d' = cc in
          subst Small z (pair_small d e (runs g d e) n s h)
      go (Members.Test.fails a) (Members.Test.fails b) =
          let r : extended g p (free_slots g d) d e n ≡ grown d' = rw (Members.no_false {b = lengthens g p d} a, Members.no_false {b = ltb (runs g d e) 4} b)
          at q in
          extended-small n h (free_slots g d) slots_small d' r

  unhooked-small : (l : List ℕ) (x b : ℕ) → Small l → Small (unhooked g l x b)
  unfolding unhooked
  unhooked-small l x b r =
      small-field g d k b 0x1f (small-field g d k b 0x1e (small-field g d k x 0x1f (small-field g d k x 0x1e
      (small-set (hit_at g x) (small-field g d k x 0 r (omega arith)) (omega arith)) (omega arith)) (omega arith)) (omega arith)) (omega arith)

  small-cond : (b : Bool) {x y : List ℕ} → Small x → Small y → Small (cond b x y)
  small-cond true r t = r
  small-cond false r t = t

  pub drop-small : Small (drop_one g p d)
  unfolding drop_one words
  drop-small =
      let j = runs g d e - 1 in
      let emptied : Small (set_field g (set_field g d e (0x16 + 2 * j) 0xff) e (0x17 + 2 * j) 0xff) = small-field g d k e (0x17 + 2 * j)
      (small-field g d k e (0x16 + 2 * j) s (omega arith)) (omega arith) in
      small-free g d k (run_start g d e j + run_length g d e j - 1)
      (small-cond (ltb 1 (run_length g d e j)) (small-field g d k e (0x17 + 2 * j) s (omega (arith, s.below (entry_at g e + (0x17 + 2 * j)))))
      (small-cond (extension g d e && eqb j 0) (unhooked-small _ e (field g d e 1) emptied) emptied))
