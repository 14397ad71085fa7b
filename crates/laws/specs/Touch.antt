-- Which places of an image a call stores to: bits of the GAT, HIT bytes and entry bytes of some slots, bytes of some granules. All else
-- is as it was.
use Rattle.std.specs.Prelude.{◌≡◌, refl, ◌≢◌, ◌⊎◌, ℕ, suc, ◌+◌, ◌*◌, ◌/◌, ◌≤◌, ◌<◌, length, set}
use Rattle.std.proofs.Common.{ap, ◌∙◌, subst, inl, inr, arith, add-zero, mod-lt, get_or-set_other}
use mathlib.Core.List.{List, [], ◌∷◌}
use Rattle.std.proofs.lemmas.List.Edits.{sets}
use Rattle.meaning.specs.Lists.{through}
use Rattle.meaning.specs.Layout.{byte, set_field, take_granule, free_granule, gat_at, hit_at, entry_at, granules, granule_bytes}
use Rattle.meaning.specs.Bits.{digit, put_digit}
use Rattle.meaning.specs.Chain.{chain, owned}
use Rattle.meaning.specs.Growth.{with_pair, new_extension, with_extension}
use Rattle.meaning.specs.Drop.{unhooked}
use Rattle.meaning.specs.Kill.{killed}
use Rattle.meaning.specs.Write.{store, with_size}
use Rattle.promises_words.specs.Untouched.{Aside}
use Rattle.meaning.specs.declared.Geometry.{Geometry}
use Rattle.lists.specs.Members
use Rattle.lists.specs.Members.{In}
use Rattle.laws.specs.Facts.{Sound, IsFile}
use Rattle.laws.specs.Places
use Rattle.laws.specs.Change
use Rattle.laws.specs.Marking
use Rattle.laws.specs.Words.{words}

-- from d by stores to the GAT bits of granules of the disk, to HIT bytes and entries of the slots xs, to bytes of the granules ns
pub data Touch (g : Geometry) (xs ns d : List ℕ) : List ℕ → Type 0 where
  none : Touch g xs ns d d
  gat : (n v : ℕ) {e : List ℕ} → n < granules g → v < 2 → Touch g xs ns d e → Touch g xs ns d (Places.marked g v e n)
  hits : (x v : ℕ) {e : List ℕ} → In x xs → Touch g xs ns d e → Touch g xs ns d (set e (hit_at g x) v)
  entry : (x k v : ℕ) {e : List ℕ} → In x xs → k < 32 → Touch g xs ns d e → Touch g xs ns d (set e (entry_at g x + k) v)
  bytes : (i v : ℕ) {e : List ℕ} → In (i / granule_bytes g) ns → Touch g xs ns d e → Touch g xs ns d (set e i v)

pub touch-more : {g : Geometry} {xs ns d e : List ℕ} (xs' ns' : List ℕ) → ((x : ℕ) → In x xs → In x xs') → ((n : ℕ) → In n ns → In n ns') → Touch g xs ns d e
    → Touch g xs' ns' d e
touch-more xs' ns' a b Touch.none = Touch.none
touch-more xs' ns' a b (Touch.gat n v h l t) = Touch.gat n v h l (touch-more xs' ns' a b t)
touch-more xs' ns' a b (Touch.hits x v i t) = Touch.hits x v (a x i) (touch-more xs' ns' a b t)
touch-more xs' ns' a b (Touch.entry x k v i l t) = Touch.entry x k v (a x i) l (touch-more xs' ns' a b t)
touch-more {g} xs' ns' a b (Touch.bytes i v j t) = Touch.bytes i v (b (i / granule_bytes g) j) (touch-more xs' ns' a b t)

pub touch-then : {g : Geometry} {xs ns a b c : List ℕ} → Touch g xs ns a b → Touch g xs ns b c → Touch g xs ns a c
touch-then s Touch.none = s
touch-then s (Touch.gat n v h l t) = Touch.gat n v h l (touch-then s t)
touch-then s (Touch.hits x v i t) = Touch.hits x v i (touch-then s t)
touch-then s (Touch.entry x k v i l t) = Touch.entry x k v i l (touch-then s t)
touch-then s (Touch.bytes i v j t) = Touch.bytes i v j (touch-then s t)

-- What it leaves -----------------------------------------------------------------------------------------------------------------------

module _ (g : Geometry) (d₀ : List ℕ) (k : Places.Fits g d₀) where
  in-gat : (n : ℕ) → n < granules g → n / g.units < g.blocks
  in-gat n h = Places.block-lt g d₀ n k h

  pub touch-aside : {xs ns d e : List ℕ} → Touch g xs ns d e → (i : ℕ) → Aside g xs ns i → byte e i ≡ byte d i
  touch-aside Touch.none i a = refl
  touch-aside (Touch.gat n v {e = e} h l t) i a = get_or-set_other e (gat_at g n) i _ 0 (away a.gat) ∙ touch-aside t i a
    where
      away : (i < 256 * g.start) ⊎ (256 * g.start + g.blocks ≤ i) → i ≢ gat_at g n
      away (inl q) = omega arith
      away (inr q) = omega (arith, in-gat n h)
  touch-aside (Touch.hits x v {e = e} j t) i a = get_or-set_other e (hit_at g x) i v 0 (a.hits x (Members.in-has j)) ∙ touch-aside t i a
  touch-aside (Touch.entry x j v {e = e} m l t) i a = get_or-set_other e (entry_at g x + j) i v 0 (away (a.entries x (Members.in-has m))) ∙ touch-aside t i a
    where
      away : (i < entry_at g x) ⊎ (entry_at g x + 32 ≤ i) → i ≢ entry_at g x + j
      away (inl q) = omega arith
      away (inr q) = omega arith
  touch-aside {ns = ns} (Touch.bytes j v {e = e} m t) i a = get_or-set_other e j i v 0 (λ q. a.bytes (Members.in-has {xs = ns} (rw q m))) ∙ touch-aside t i a

  -- the bits of a GAT byte past the last unit
  pub touch-spare : {xs ns d e : List ℕ} → Touch g xs ns d e → (b u : ℕ) → b < g.blocks → g.units ≤ u → (In ((256 * g.start + b) / granule_bytes g) ns → ⊥)
      → digit (byte e (256 * g.start + b)) u ≡ digit (byte d (256 * g.start + b)) u
  touch-spare Touch.none b u h l o = refl
  touch-spare (Touch.gat n v {e = e} m w t) b u h l o =
      Places.marked-digit g v w e n (256 * g.start + b) u (λ q. let r = mod-lt n k.units-lo in omega arith) ∙ touch-spare t b u h l o
  touch-spare (Touch.hits x v {e = e} j t) b u h l o = ap (λ (z : ℕ). digit z u)
      (get_or-set_other e (hit_at g x) (256 * g.start + b) v 0 (omega (arith, k.blocks-hi))) ∙ touch-spare t b u h l o
  touch-spare (Touch.entry x j v {e = e} m w t) b u h l o = ap (λ (z : ℕ). digit z u)
      (get_or-set_other e (entry_at g x + j) (256 * g.start + b) v 0 (omega (arith, k.blocks-hi))) ∙ touch-spare t b u h l o
  touch-spare (Touch.bytes j v {e = e} m t) b u h l o =
      ap (λ (z : ℕ). digit z u) (get_or-set_other e j (256 * g.start + b) v 0 (λ q. o (rw q m))) ∙ touch-spare t b u h l o

-- The stores of the meaning ---------------------------------------------------------------------------------------------------------------

module _ (g : Geometry) (xs ns d : List ℕ) where
  pub touch-free : {e : List ℕ} (n : ℕ) → n < granules g → Touch g xs ns d e → Touch g xs ns d (free_granule g e n)
  unfolding words
  touch-free n h t = Touch.gat n 0 h (omega arith) t

  pub touch-take : {e : List ℕ} (n : ℕ) → n < granules g → Touch g xs ns d e → Touch g xs ns d (take_granule g e n)
  unfolding words
  touch-take n h t = Touch.gat n 1 h (omega arith) t

  pub touch-field : {e : List ℕ} (x k v : ℕ) → In x xs → k < 32 → Touch g xs ns d e → Touch g xs ns d (set_field g e x k v)
  unfolding words
  touch-field x k v i h t = Touch.entry x k v i h t

  touch-part : {e : List ℕ} (x : ℕ) → In x xs → (vs : List ℕ) (k : ℕ) → k + length vs ≤ 32 → Touch g xs ns d e → Touch g xs ns d (sets e (entry_at g x + k) vs)
  touch-part x i [] k h t = t
  touch-part {e} x i (v ∷ vs) k h t =
      let q : entry_at g x + suc k ≡ suc (entry_at g x + k) = omega arith in
      subst (λ (j : ℕ). Touch g xs ns d (sets (set e (entry_at g x + k) v) j vs)) q
      (touch-part {e = set e (entry_at g x + k) v} x i vs (suc k) (omega arith) (Touch.entry x k v i (omega arith) t))

  pub touch-whole : {e : List ℕ} (x : ℕ) (vs : List ℕ) → In x xs → length vs ≤ 32 → Touch g xs ns d e → Touch g xs ns d (sets e (entry_at g x) vs)
  touch-whole {e} x vs i h t = subst (λ (j : ℕ). Touch g xs ns d (sets e j vs)) (add-zero (entry_at g x)) (touch-part x i vs 0 (omega arith) t)

  pub touch-store : {e : List ℕ} (F : ℕ → ℕ) (bs : List ℕ) (i : ℕ) → ((j : ℕ) → i ≤ j → j < i + length bs → In (F j / granule_bytes g) ns) → Touch g xs ns d e
      → Touch g xs ns d (store F e i bs)
  unfolding store
  touch-store F [] i h t = t
  touch-store F (b ∷ bs) i h t = touch-store F bs (i + 1) (λ j a l. h j (omega arith) (omega arith)) (Touch.bytes (F i) b (h i (omega arith) (omega arith)) t)

  pub touch-size : {e : List ℕ} (d₁ : List ℕ) (p size : ℕ) → In p xs → Touch g xs ns d e → Touch g xs ns d (with_size g e p size)
  touch-size d₁ p size i t =
      touch-field p 1 _ i (omega arith) (touch-field p 0x15 _ i (omega arith) (touch-field p 0x14 _ i (omega arith) (touch-field p 3 _ i (omega arith) t)))

  pub touch-pair : {e : List ℕ} (p x j n : ℕ) → In x xs → j < 4 → n < granules g → Touch g xs ns d e → Touch g xs ns d (with_pair g e x j n)
  touch-pair p x j n i h l t = touch-take n l (touch-field x (0x17 + 2 * j) _ i (omega arith) (touch-field x (0x16 + 2 * j) _ i (omega arith) t))

  pub touch-hook : {e : List ℕ} (p b x : ℕ) → In b xs → In x xs → Touch g xs ns d e → Touch g xs ns d (with_extension g p e b x)
  touch-hook p b x i j t =
      Touch.hits x _ j (touch-whole x (new_extension b) j (omega arith) (touch-field b 0x1f x i (omega arith) (touch-field b 0x1e 0xfe i (omega arith) t)))

  pub touch-unhook : {e : List ℕ} (p x b : ℕ) → In x xs → In b xs → Touch g xs ns d e → Touch g xs ns d (unhooked g e x b)
  unfolding unhooked
  touch-unhook p x b i j t =
      touch-field b 0x1f 0xff j (omega arith) (touch-field b 0x1e 0xff j (omega arith)
      (touch-field x 0x1f 0xff i (omega arith) (touch-field x 0x1e 0xff i (omega arith)
      (Touch.hits x 0 i (touch-field x 0 0x80 i (omega arith) t)))))

-- bits 4, HIT bytes and GAT bits put, as kill and bring back do
pub touch-marking : (g : Geometry) (v h : ℕ) (d ns xs : List ℕ) → v < 2 → ((n : ℕ) → In n ns → n < granules g) → Touch g xs [] d
    (Marking.marking g v h d ns xs)
unfolding Marking.marking
touch-marking g v h d ns xs b f =
    Places.through-stays (Touch g xs [] d) (Marking.put_entry g v h) xs (through (Places.marked g v) d ns)
    (λ e x i t. Touch.hits x h i (Touch.entry x 0 (put_digit (byte e (entry_at g x + 0)) 4 v) i (omega arith) t))
    (Places.through-stays (Touch g xs [] d) (Places.marked g v) ns d (λ e n i t. Touch.gat n v (f n i) b t) Touch.none)

pub touch-killed : (g : Geometry) (d : List ℕ) → Sound g d → (p : ℕ) → IsFile g d p → Touch g (chain g d p) [] d (killed g d p)
unfolding Marking.marking words
touch-killed g d c p f = touch-marking g 0 0 d (owned g d p) (chain g d p) (omega arith) (λ n i. Change.owned-lt g d c p n f i)
