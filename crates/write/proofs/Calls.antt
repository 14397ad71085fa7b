-- What a write answers and leaves: refused by its handle, refused by the growth, accepted.
use mathlib.Core.Path.{◌≡◌, refl, sym, ap, ◌∙◌}
use mathlib.Core.List.{List, [], ◌∷◌}
use mathlib.Core.Bool.{Bool, true, cond}
use Prim.Native.Nat.{ℕ, ◌+◌, ◌-◌, ◌*◌, ◌≤◌, max}
use native.Mathlib.Omega.{arith}
use native.Mathlib.Nat.{mul-le-mul_left}
use lib.ListN.{length, replicate, take, set, length-set}
use lib.Dec.{leb}
use borrow.Author.Tests.{ne_eqb, leb-true}
use Rattle.meaning.specs.Lists.{all}
use Rattle.meaning.specs.Layout.{highest, granules_for, entry_at, granule_bytes}
use Rattle.lists.specs.Sizes
use Rattle.meaning.specs.Entries.{size_of}
use Rattle.meaning.specs.Chain.{owned, place}
use Rattle.meaning.specs.Refusals.{first, accepted, refusal, handle_refusals, protected, cannot_grow}
use Rattle.meaning.specs.Handles.{in_range, moved_to}
use Rattle.meaning.specs.Growth.{with_granules, lacking}
use Rattle.meaning.specs.Write.{store, size_after, with_size, to_write, write_refusals, write_of}
use Rattle.meaning.specs.declared.Geometry.{Geometry}
use Rattle.meaning.specs.declared.Handle.{Handle}
use Rattle.meaning.specs.declared.Answer.{Answer}
use Rattle.meaning.specs.declared.Refusal.{Refusal}
use Rattle.meaning.specs.declared.Mode.{Mode}
use Rattle.meaning.specs.declared.Mode.TheVariants.{Sequential, Random}
use Rattle.laws.specs.Steps.{Ready}
use Rattle.lists.specs.Tests.{all-at}
use Rattle.layout.proofs.HasRoom.{slot-of}
use Rattle.passed.proofs.Checked.{handle-stop, handle-then, passed}
use Rattle.passed.proofs.Ready.{walks}
use Rattle.read.specs.Part.{Readable, Within}
use Rattle.growth.proofs.Grown.{larger-ready, owned-most}
use Rattle.write.specs.Apart.{Apart}
use Rattle.write.proofs.Apart.{is-apart}
use Rattle.laws.specs.Rewrite.{after-end}

pub after-sequential : (old end : ℕ) → size_after Sequential old end ≡ end
unfolding size_after
after-sequential old end = refl

pub after-random : (old end : ℕ) → size_after Random old end ≡ max old end
unfolding size_after
after-random old end = refl

pub sizes-low : (m : Mode) (old end : ℕ) → size_after m old end ≤ old + end
unfolding size_after
sizes-low Sequential old end = omega arith
sizes-low Random old end = omega arith

-- stores keep the length
store_long : (f : ℕ → ℕ) (d : List ℕ) (i : ℕ) (bs : List ℕ) → length (store f d i bs) ≡ length d
unfolding store
store_long f d i [] = refl
store_long f d i (b ∷ bs) = store_long f (set d (f i) b) (i + 1) bs ∙ length-set d (f i) b

pub stored-long : (f : ℕ → ℕ) (d : List ℕ) (i : ℕ) (xs : List ℕ) (j : ℕ) (ys : List ℕ) {d' : List ℕ} → d' ≡ store f (store f d i xs) j ys → length d' ≡ length
    d
stored-long f d i xs j ys e = ap (λ (l : List ℕ). length l) e ∙ store_long f (store f d i xs) j ys ∙ store_long f d i xs

-- every position is this low, whatever the granule
low-at : (g : Geometry) (n : ℕ) → n ≤ highest g → n ≤ 7864320
low-at g n h = omega (arith, Sizes.bytes-are g, Sizes.sectors-most g)

-- the position of a handle in range
pub in_reach : (g : Geometry) (h : Handle) → in_range g h ≡ true → h.at ≤ highest g
unfolding in_range
in_reach g h r = leb-true _ _ (all-at _ r 0)

-- a file's size lies in what it owns
pub old-owned : (g : Geometry) (d : List ℕ) (p : ℕ) {old : ℕ} → Ready g d p → old ≡ size_of g d p → old ≤ granule_bytes g * length (owned g d p)
old-owned g d p y e = let b = (walks g d p y).0.size p (slot-of g d p y.slot) y.first in omega arith

module _ (g : Geometry) (d : List ℕ) (m : Mode) (h : Handle) (n : ℕ) (b : List ℕ) {ranged : Bool}
    (r : ranged ≡ all (in_range g h ∷ leb (h.at + n) (highest g) ∷ leb n (length b) ∷ [])) where
  by-handle : {num : ℕ} → num ≡ first (handle_refusals g d h ranged (protected g d 4 h ∷ [])) → (num ≡ 0 → ⊥) → num ≡ first
      (write_refusals g d m h n (length b))
  by-handle e z =
      handle-stop g d h ranged (protected g d 4 h ∷ []) (cannot_grow g d h.slot (to_write g d m h n)) e z
      ∙ ap (λ (t : Bool). first (handle_refusals g d h t (protected g d 4 h ∷ cannot_grow g d h.slot (to_write g d m h n)))) r

  by-growth : {num k : ℕ} → num ≡ first (handle_refusals g d h ranged (protected g d 4 h ∷ [])) → num ≡ 0
      → k ≡ first (cannot_grow g d h.slot (to_write g d m h n)) → k ≡ first (write_refusals g d m h n (length b))
  by-growth e z f =
      f ∙ sym (handle-then g d h ranged (protected g d 4 h ∷ []) (cannot_grow g d h.slot (to_write g d m h n)) refl e z)
      ∙ ap (λ (t : Bool). first (handle_refusals g d h t (protected g d 4 h ∷ cannot_grow g d h.slot (to_write g d m h n)))) r

  pub refused : {num : ℕ} {c : Refusal} → c ≡ refusal g d num → num ≡ first (handle_refusals g d h ranged (protected g d 4 h ∷ [])) → (num ≡ 0 → ⊥)
      → ◌≡◌ {A = Answer × List ℕ} (record { refusal = c; handle = h }, d) (write_of g d m h n b)
  unfolding write_of
  refused {num} x e z = rw (← by-handle e z, ne_eqb num 0 z, x)

  pub not-grown : {num k : ℕ} {d' : List ℕ} {c : Refusal} → c ≡ refusal g d k → num ≡ first (handle_refusals g d h ranged (protected g d 4 h ∷ [])) → num ≡ 0
      → k ≡ first (cannot_grow g d h.slot (to_write g d m h n)) → (k ≡ 0 → ⊥)
      → d' ≡ cond (accepted k) (with_granules g d h.slot (to_write g d m h n)) d
      → ◌≡◌ {A = Answer × List ℕ} (record { refusal = c; handle = h }, d') (write_of g d m h n b)
  unfolding write_of
  not-grown {num} {k} x e z f y q = rw (← by-growth e z f, q, ne_eqb k 0 y, x)

  pub written : {num k old size : ℕ} {d₁ d₃ d₄ : List ℕ} {c : Refusal} → c ≡ refusal g d 0 → old ≡ size_of g d h.slot
      → num ≡ first (handle_refusals g d h ranged (protected g d 4 h ∷ [])) → num ≡ 0 → k ≡ first (cannot_grow g d h.slot (to_write g d m h n)) → k ≡ 0
      → d₁ ≡ cond (accepted k) (with_granules g d h.slot (to_write g d m h n)) d → size ≡ size_after m (size_of g d h.slot) (h.at + n)
      → d₃ ≡ store (place g d₁ h.slot) (store (place g d₁ h.slot) d₁ old (replicate (h.at - old) 0)) h.at (take n b)
      → d₄ ≡ with_size g d₃ h.slot size
      → ◌≡◌ {A = Answer × List ℕ} (record { refusal = c; handle = moved_to h (h.at + n) }, d₄) (write_of g d m h n b)
  unfolding write_of
  written {num} {k} {old} {size} {d₁} {d₃} {d₄} t o e z f y q s w v =
      let x : d₁ ≡ with_granules g d h.slot (to_write g d m h n)
      = q ∙ ap (λ (j : ℕ). cond (accepted j) (with_granules g d h.slot (to_write g d m h n)) d) y in
      let u : 0 ≡ first (write_refusals g d m h n (length b)) = sym y ∙ by-growth e z f in
      rw (← u, v, w, o, s, x, t)

  -- the size, the growth's number and image in the words of the call
  pub size_is : {old size : ℕ} → old ≡ size_of g d h.slot → size ≡ size_after m old (h.at + n)
      → size ≡ size_after m (size_of g d h.slot) (h.at + n)
  size_is o s = s ∙ ap (λ (k : ℕ). size_after m k (h.at + n)) o

  pub number_is : {num size : ℕ} → size ≡ size_after m (size_of g d h.slot) (h.at + n)
      → num ≡ first (cannot_grow g d h.slot (lacking g d h.slot (granules_for g size)))
      → num ≡ first (cannot_grow g d h.slot (to_write g d m h n))
  number_is s e = e ∙ ap (λ (k : ℕ). first (cannot_grow g d h.slot (lacking g d h.slot (granules_for g k)))) s

  pub image-is : (num : ℕ) {size : ℕ} {d' : List ℕ} → size ≡ size_after m (size_of g d h.slot) (h.at + n)
      → d' ≡ cond (accepted num) (with_granules g d h.slot (lacking g d h.slot (granules_for g size))) d
      → d' ≡ cond (accepted num) (with_granules g d h.slot (to_write g d m h n)) d
  image-is num s e = e ∙ ap (λ (k : ℕ). cond (accepted num) (with_granules g d h.slot (lacking g d h.slot (granules_for g k))) d) s

  -- the numbers of a write whose handle passed
  pub record Fit : Type 0 where
    pub ends : h.at + n ≤ 7864320
    pub room : n ≤ length b

  pub fit : {num : ℕ} → num ≡ first (handle_refusals g d h ranged (protected g d 4 h ∷ [])) → num ≡ 0 → Fit
  fit e z =
      let w = sym r ∙ (passed g d h ranged (protected g d 4 h ∷ []) refl e z).ranged' in
      record { ends = low-at g _ (leb-true _ _ (all-at _ w 1)); room = leb-true _ _ (all-at _ w 2) }

  -- what the stores of an accepted write ask for
  pub record Stores (d₁ : List ℕ) (size : ℕ) : Type 0 where
    pub file : Readable g d₁ h.slot
    pub apart : Apart g d₁ h.slot
    pub owns : Within g d₁ h.slot h.at n
    pub old : size_of g d h.slot ≤ granule_bytes g * length (owned g d₁ h.slot)
    pub high : size ≤ 7864320
    pub entry : entry_at g h.slot + 32 ≤ length d₁

  pub sized : (f : ℕ → ℕ) (i : ℕ) (xs : List ℕ) (j : ℕ) (ys : List ℕ) {d₁ d₃ : List ℕ} {size : ℕ} → Stores d₁ size → d₃ ≡ store f (store f d₁ i xs) j ys
      → (entry_at g h.slot + 32 ≤ length d₃) × (size ≤ 7864320)
  sized f i xs j ys {d₁} w e = let q = w.entry in let l = stored-long f d₁ i xs j ys e in (omega arith, w.high)

  pub old-fits : {old size : ℕ} {d₁ : List ℕ} → old ≡ size_of g d h.slot → Stores d₁ size → old ≤ granule_bytes g * length (owned g d₁ h.slot)
  old-fits e w = let q = w.old in omega arith

  pub stores : {k size : ℕ} {d₁ : List ℕ} → Ready g d h.slot → Fit → k ≡ first (cannot_grow g d h.slot (to_write g d m h n)) → k ≡ 0
      → d₁ ≡ cond (accepted k) (with_granules g d h.slot (to_write g d m h n)) d → size ≡ size_after m (size_of g d h.slot) (h.at + n) → Stores d₁ size
  stores {k} {size} {d₁} y f e z q s =
      let p = h.slot in
      let w = larger-ready g p (to_write g d m h n) y e z q in
      let a = walks g d₁ p w.ready in
      let sl = slot-of g d₁ p w.ready.slot in
      let t = owned-most g p w.ready in
      let most = w.many in
      let b₀ = (walks g d p y).0.size p (slot-of g d p y.slot) y.first in
      let c = after-end m (size_of g d p) (h.at + n) in
      let u = f.ends in
      let held = Sizes.round-fits (Sizes.bytes_pos g) (size_after m (size_of g d p) (h.at + n)) (length (owned g d₁ p)) (omega arith) in
      let rm = a.0.room in let rd = rm.directory in let rl = rm.long in let rmost = rm.most in let l₀ = sl.low in let l₁ = sl.held in
      record {
        file = record { sound = a.0; used = a.1 };
        apart = is-apart g d₁ p w.ready;
        owns = record { owned = omega arith; high = omega arith };
        old = omega (arith, mul-le-mul_left {m = length (owned g d p)} {n = length (owned g d₁ p)} (granule_bytes g) (omega arith));
        high = omega (arith, mul-le-mul_left (granule_bytes g) t, Sizes.bytes-are g, Sizes.sectors-most g);
        entry = omega arith;
      }
