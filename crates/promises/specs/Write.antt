-- The data part of a write: bytes stored in the granules owned, then size and B
use Rattle.std.specs.Prelude.{◌≡◌, ◌≢◌, ◌⊎◌, not, List, ℕ, ◌+◌, ◌-◌, ◌*◌, ◌/◌, ◌%◌, ◌≤◌, ◌<◌, length, get_or, replicate, T}
use Rattle.std.proofs.Math.Path.{ap}
use Rattle.std.proofs.Common.{◌∙◌, inl, inr, arith}
use Rattle.std.proofs.Math.Bool.{cond}
use Rattle.std.proofs.Math.ListN.{length-set}
use Rattle.std.proofs.lemmas.List.{length-replicate, get_or-replicate}
use Rattle.std.proofs.Math.Seq.{get_or-set_same, get_or-set_other}
use Rattle.std.proofs.Math.Dec.{eqb, eqb→eq}
use Rattle.meaning.specs.Layout.{byte, field, set_field, gat_at, hit_at, entry_at, directory_granules, directory_sectors, granule_bytes, round_up}
use Rattle.meaning.specs.Layout.{granule_sectors}
use Rattle.lists.specs.Sizes
use Rattle.meaning.specs.Bits.{bit}
use Rattle.meaning.specs.Entries.{size_of, system, sector_count, end_byte}
use Rattle.meaning.specs.Chain.{owned, place}
use Rattle.meaning.specs.Write.{store, with_size}
use Rattle.meaning.specs.declared.Geometry.{Geometry}
use Rattle.lists.specs.Members
use Rattle.lists.specs.Members.{In}
use Rattle.laws.specs.Facts.{Sound, IsFile}
use Rattle.laws.specs.Places
use Rattle.laws.specs.Change
use Rattle.laws.specs.Others
use Rattle.laws.specs.Rewrite
use Rattle.laws.specs.Store.{store_length, store_other, store_at, place-inj, place-lt}
use Rattle.laws.specs.Words.{words}

-- a place of the directory is in one of its granules
pub in-directory : (g : Geometry) (d : List ℕ) (i : ℕ) → g.start % granule_sectors g ≡ 0 → Places.Dir g d → 256 * g.start ≤ i → i < 256 *
    (g.start + directory_sectors g d) → In (i / granule_bytes g) (directory_granules g d)
in-directory g d i e f a b = Members.in_count (i / granule_bytes g) (g.start / granule_sectors g) (round_up (directory_sectors g d) (granule_sectors g))
    (Sizes.touched-from g i g.start a) (Sizes.touched-to g i g.start (directory_sectors g d) e b)

module _ (g : Geometry) (d : List ℕ) (c : Sound g d) (k : Places.Fits g d) (p : ℕ) (f : IsFile g d p) (u : T (not (system g d p)))
    (at size : ℕ) (r : List ℕ) (end : at + length r ≤ granule_bytes g * length (owned g d p)) (fit : size ≤ granule_bytes g * length (owned g d p)) where
  abbrev old : ℕ
  old = size_of g d p

  abbrev F : ℕ → ℕ
  F = place g d p

  abbrev d₂ : List ℕ
  d₂ = store F d old (replicate (at - old) 0)

  abbrev d₃ : List ℕ
  d₃ = store F d₂ at r

  abbrev n : ℕ
  n = round_up size 256

  abbrev e₁ : List ℕ
  e₁ = set_field g d₃ p 3 (size % 256)

  abbrev e₂ : List ℕ
  e₂ = set_field g e₁ p 0x14 (n % 256)

  abbrev e₃ : List ℕ
  e₃ = set_field g e₂ p 0x15 (n / 256)

  abbrev flag : ℕ
  flag = Rattle.meaning.specs.Bits.with_bit 5 (field g d₃ p 1)

  abbrev d₄ : List ℕ
  d₄ = set_field g e₃ p 1 flag

  a10 : Places.Dir g d
  a10 = Places.dir g d c.dir

  sp : Places.IsSlot g d p
  sp = Places.slot g d p f.slot

  room : entry_at g p + 32 ≤ length d
  room = let a = a10 in let b = sp in omega (arith, k.size)

  zeros : length {A = ℕ} (replicate (at - old) 0) ≡ at - old
  zeros = length-replicate (at - old) 0

  d₃-length : length d₃ ≡ length d
  d₃-length = store_length F r d₂ at ∙ store_length F (replicate (at - old) 0) d old

  -- only the file's own granules
  pub d₃-out : (j : ℕ) → (In (j / granule_bytes g) (owned g d p) → ⊥) → byte d₃ j ≡ byte d j
  d₃-out j o =
      store_other F r d₂ at j (λ i a b q. o (rw q (Others.place_in g d p i (omega arith))))
      ∙ store_other F (replicate (at - old) 0) d old j (λ i a b q. o (rw q (Others.place_in g d p i (omega (arith, zeros)))))

  d₃-dir : (j : ℕ) → 256 * g.start ≤ j → j < 256 * (g.start + directory_sectors g d) → byte d₃ j ≡ byte d j
  d₃-dir j a b = d₃-out j (λ i. (Change.filed-at g d c p f).off u (j / granule_bytes g) i (in-directory g d j k.start-at a10 a b))

  pub d₄-out : (j : ℕ) → j ≢ entry_at g p + 1 → j ≢ entry_at g p + 3 → j ≢ entry_at g p + 0x14 → j ≢ entry_at g p + 0x15 → byte d₄ j ≡ byte d₃ j
  unfolding words
  d₄-out j a b v w = get_or-set_other e₃ (entry_at g p + 1) j flag 0 a ∙ get_or-set_other e₂ (entry_at g p + 0x15) j (n / 256) 0 w
      ∙ get_or-set_other e₁ (entry_at g p + 0x14) j (n % 256) 0 v ∙ get_or-set_other d₃ (entry_at g p + 3) j (size % 256) 0 b

  pub f1 : field g d₄ p 1 ≡ Rattle.meaning.specs.Bits.with_bit 5 (field g d p 1)
  unfolding words
  f1 = get_or-set_same e₃ (entry_at g p + 1) flag 0 (rw (length-set, length-set, length-set, d₃-length) (omega (arith, room)))
      ∙ ap (Rattle.meaning.specs.Bits.with_bit 5) (let s = sp in d₃-dir (entry_at g p + 1) (omega arith) (omega arith))

  f3 : field g d₄ p 3 ≡ size % 256
  unfolding words
  f3 = get_or-set_other e₃ (entry_at g p + 1) (entry_at g p + 3) flag 0 (omega arith) ∙ get_or-set_other e₂ (entry_at g p + 0x15) (entry_at g p + 3) (n / 256) 0
      (omega arith)
      ∙ get_or-set_other e₁ (entry_at g p + 0x14) (entry_at g p + 3) (n % 256) 0 (omega arith) ∙ get_or-set_same d₃ (entry_at g p + 3) (size % 256) 0
      (rw d₃-length (omega (arith, room)))

  f14 : field g d₄ p 0x14 ≡ n % 256
  unfolding words
  f14 = get_or-set_other e₃ (entry_at g p + 1) (entry_at g p + 0x14) flag 0 (omega arith)
      ∙ get_or-set_other e₂ (entry_at g p + 0x15) (entry_at g p + 0x14) (n / 256)
      0 (omega arith)
      ∙ get_or-set_same e₁ (entry_at g p + 0x14) (n % 256) 0 (rw (length-set, d₃-length) (omega (arith, room)))

  f15 : field g d₄ p 0x15 ≡ n / 256
  unfolding words
  f15 = get_or-set_other e₃ (entry_at g p + 1) (entry_at g p + 0x15) flag 0 (omega arith) ∙ get_or-set_same e₂ (entry_at g p + 0x15) (n / 256) 0
      (rw (length-set, length-set, d₃-length) (omega (arith, room)))

  pub new-size : size_of g d₄ p ≡ size
  unfolding words
  new-size = rw (f3, f14, f15) (go (Members.decide (eqb (size % 256) 0)))
    where
      go : Members.Test (eqb (size % 256) 0) → cond (eqb (size % 256) 0) (256 * (n % 256 + 256 * (n / 256)))
          (256 * (n % 256 + 256 * (n / 256) - 1) + size % 256) ≡ size
      go (Members.Test.holds t) = let z = eqb→eq (size % 256) 0 t in rw (Members.T_true {b = eqb (size % 256) 0} t) (omega arith)
      go (Members.Test.fails t) =
          let z : size % 256 ≢ 0 = λ q. t (Members.eq-T q) in
          rw (Members.no_false {b = eqb (size % 256) 0} t) (omega arith)

  write-none : sector_count g d₄ p ≡ 0 → end_byte g d₄ p ≡ 0
  write-none = rw (f3, f14, f15) (λ q. omega arith)

  outside-entry : (j : ℕ) → (In (j / granule_bytes g) (directory_granules g d) → ⊥) → byte d₄ j ≡ byte d₃ j
  outside-entry j o = go (Places.outside g d j k.start-at a10 o)
    where
      go : (j < 256 * g.start) ⊎ (256 * (g.start + directory_sectors g d) ≤ j) → byte d₄ j ≡ byte d₃ j
      go (inl h) = d₄-out j (omega arith) (omega arith) (omega arith) (omega arith)
      go (inr h) = let s = sp in d₄-out j (omega arith) (omega arith) (omega arith) (omega arith)

  pub write-rewrites : Rewrite.Rewrites g d (with_size g d₃ p size) p
  unfolding words
  write-rewrites = record {
    above = let a = a10 in d₄-out (hit_at g 31) (omega arith) (omega arith) (omega arith) (omega arith) ∙ d₃-dir (hit_at g 31) (omega arith) (omega arith);
    agrees = λ x t q j b. let s = Places.slot g d x t in let w = sp.low in let z = s.low in
        d₄-out (entry_at g x + j) (omega arith) (omega arith) (omega arith) (omega arith) ∙ d₃-dir (entry_at g x + j) (omega arith) (omega arith);
    hits = λ x t. let s = Places.slot g d x t in
        d₄-out (hit_at g x) (omega arith) (omega arith) (omega arith) (omega arith) ∙ d₃-dir (hit_at g x) (omega arith) (omega arith);
    fixed = λ j b o. let s = sp in let v₁ = o.flags in let v₂ = o.ends in let v₃ = o.low in let v₄ = o.high in
        d₄-out (entry_at g p + j) (omega arith) (omega arith) (omega arith) (omega arith) ∙ d₃-dir (entry_at g p + j) (omega arith) (omega arith);
    keeps = λ m h. let b = Places.block-lt g d m k h in let w = k.blocks-hi in
        ap (λ (y : ℕ). bit (m % g.units) y)
        (d₄-out (gat_at g m) (omega arith) (omega arith) (omega arith) (omega arith) ∙ d₃-dir (gat_at g m) (omega arith) (omega arith));
    none = write-none;
    fits = rw new-size fit;
    same = λ i a b. outside-entry i a ∙ d₃-out i b;
  }

  -- what each byte of the file is afterwards
  data-byte : (j : ℕ) → j < granule_bytes g * length (owned g d p) → byte d₄ (F j) ≡ byte d₃ (F j)
  data-byte j h = outside-entry (F j) (λ i. (Change.filed-at g d c p f).off u (F j / granule_bytes g) (Others.place_in g d p j h) i)

  pub written_in : (j : ℕ) → at ≤ j → j < at + length r → byte d₄ (F j) ≡ get_or r (j - at) 0
  written_in j a b = data-byte j (omega arith) ∙ store_at F r d₂ at j a b
      (λ x y s t v w q. place-inj g d c k p f x y (omega arith) (omega arith) q)
      (λ x s t. rw (store_length F (replicate (at - old) 0) d old) (place-lt g d c k p f x (omega arith)))

  not_written : (j : ℕ) → j < granule_bytes g * length (owned g d p) → (j < at) ⊎ (at + length r ≤ j) → byte d₃ (F j) ≡ byte d₂ (F j)
  not_written j h o = store_other F r d₂ at (F j) (λ x s t q. away x s t (place-inj g d c k p f j x h (omega arith) q) o)
    where
      away : (x : ℕ) → at ≤ x → x < at + length r → j ≡ x → (j < at) ⊎ (at + length r ≤ j) → ⊥
      away x s t q (inl w) = omega arith
      away x s t q (inr w) = omega arith

  pub zero_in : (j : ℕ) → old ≤ j → j < at → byte d₄ (F j) ≡ 0
  zero_in j a b =
      let h : j < granule_bytes g * length (owned g d p) = omega arith in
      data-byte j h ∙ not_written j h (inl b)
      ∙ store_at F (replicate (at - old) 0) d old j a (omega (arith, zeros))
      (λ x y s t v w q. place-inj g d c k p f x y (omega (arith, zeros)) (omega (arith, zeros)) q)
      (λ x s t. place-lt g d c k p f x (omega (arith, zeros)))
      ∙ get_or-replicate (at - old) (j - old) 0 0 (omega arith)

  pub old-in : (j : ℕ) → j < old → (j < at) ⊎ (at + length r ≤ j) → byte d₄ (F j) ≡ byte d (F j)
  old-in j a o =
      let h : j < granule_bytes g * length (owned g d p) = omega (arith, (Change.filed-at g d c p f).fits) in
      data-byte j h ∙ not_written j h o
      ∙ store_other F (replicate (at - old) 0) d old (F j) (λ x s t q. away x s (place-inj g d c k p f j x h (omega (arith, zeros)) q))
    where
      away : (x : ℕ) → old ≤ x → j ≡ x → ⊥
      away x s q = omega arith
