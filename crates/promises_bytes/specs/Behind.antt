-- What a write leaves of the file's own granules.
use Rattle.std.specs.Prelude.{◌≡◌, ◌≢◌, ◌⊎◌, not, ℕ, ◌+◌, ◌-◌, ◌*◌, ◌/◌, ◌%◌, ◌≤◌, ◌<◌, length, take, replicate, T}
use Rattle.std.proofs.Math.Path.{ap}
use Rattle.std.proofs.Common.{◌∙◌, subst, inl, inr, arith, length-append}
use mathlib.Core.List.{List}
use Rattle.std.proofs.Math.ListN.{get_or, get_or-append}
use Rattle.std.proofs.lemmas.List.{length-replicate}
use Rattle.meaning.specs.Layout.{byte, granule_bytes, entry_at}
use Rattle.meaning.specs.Entries.{system, size_of}
use Rattle.meaning.specs.Chain.{owned, place}
use Rattle.meaning.specs.Growth.{with_granules}
use Rattle.meaning.specs.Write.{store, write_of, size_after, to_write}
use Rattle.meaning.specs.declared.Geometry.{Geometry}
use Rattle.meaning.specs.declared.Handle.{Handle}
use Rattle.meaning.specs.declared.Mode.{Mode}
use Rattle.lists.specs.Sizes
use Rattle.laws.specs.Facts.{Sound, IsFile}
use Rattle.laws.specs.Places
use Rattle.laws.specs.Change
use Rattle.laws.specs.Others
use Rattle.laws.specs.Rewrite
use Rattle.laws.specs.Store
use Rattle.promises.specs.Write
use Rattle.promises_choice.specs.Accepted.{stored, WriteParts, accepted-write, rewrites}
use Rattle.promises_bytes.specs.Statement.{EveryWrite}

-- The data part, on a disk that is large enough -----------------------------------------------------------------------------------------

module _ (g : Geometry) (d : List ℕ) (c : Sound g d) (k : Places.Fits g d) (p : ℕ) (f : IsFile g d p) (u : T (not (system g d p)))
    (at size : ℕ) (r : List ℕ) (end : at + length r ≤ granule_bytes g * length (owned g d p)) (fit : size ≤ granule_bytes g * length (owned g d p)) where
  abbrev old : ℕ
  old = size_of g d p

  zeros : length {A = ℕ} (replicate (at - old) 0) ≡ at - old
  zeros = length-replicate (at - old) 0

  -- no byte of the file is one of its entry
  off-entry : (j x : ℕ) → j < granule_bytes g * length (owned g d p) → x < 32 → place g d p j ≢ entry_at g p + x
  off-entry j x h b q =
      let a = Places.dir g d c.dir in let s = Places.slot g d p f.slot in
      (Change.filed-at g d c p f).off u (place g d p j / granule_bytes g) (Others.place_in g d p j h)
      (rw q (Write.in-directory g d (entry_at g p + x) k.start-at a (omega arith) (omega arith)))

  data-stays : (j : ℕ) → j < granule_bytes g * length (owned g d p) → ((j < at) × (j < old)) ⊎ (at + length r ≤ j)
      → byte (stored g d p at r size) (place g d p j) ≡ byte d (place g d p j)
  data-stays j h o =
      Write.d₄-out g d c k p f u at size r end fit (place g d p j) (off-entry j 1 h (omega arith)) (off-entry j 3 h (omega arith))
      (off-entry j 0x14 h (omega arith)) (off-entry j 0x15 h (omega arith))
      ∙ Store.store_other (place g d p) r (store (place g d p) d old (replicate (at - old) 0)) at (place g d p j)
      (λ x s t q. written x s t (Store.place-inj g d c k p f j x h (omega arith) q) o)
      ∙ Store.store_other (place g d p) (replicate (at - old) 0) d old (place g d p j)
      (λ x s t q. zeroed x s (omega (arith, t, zeros)) (Store.place-inj g d c k p f j x h (omega (arith, zeros)) q) o)
    where
      written : (x : ℕ) → at ≤ x → x < at + length r → j ≡ x → ((j < at) × (j < old)) ⊎ (at + length r ≤ j) → ⊥
      written x s t q (inl w) = omega (arith, w)
      written x s t q (inr w) = omega arith

      zeroed : (x : ℕ) → old ≤ x → x < old + (at - old) → j ≡ x → ((j < at) × (j < old)) ⊎ (at + length r ≤ j) → ⊥
      zeroed x s t q (inl w) = omega (arith, w)
      zeroed x s t q (inr w) = omega arith

-- Growth, then the data part -----------------------------------------------------------------------------------------------------------

module _ (g : Geometry) (d : List ℕ) (m : Mode) (h : Handle) (n : ℕ) (b : List ℕ) (q : WriteParts g d m h n b) (j : ℕ)
    (j-in : j < granule_bytes g * length (owned g d h.slot)) where
  abbrev p : ℕ
  p = h.slot

  abbrev d₁ : List ℕ
  d₁ = with_granules g d p (to_write g d m h n)

  abbrev d' : List ℕ
  d' = (write_of g d m h n b).1

  abbrev granule : ℕ
  granule = j / granule_bytes g

  -- the granules that the file has now begin with those that it had
  had : granule < length (owned g d p)
  had = Sizes.width-lt (Sizes.bytes_pos g) j (length (owned g d p)) j-in

  still : j < granule_bytes g * length (owned g d₁ p)
  still =
      let l = ap length q.grew.owned' ∙ length-append (owned g d p) q.grew.new in
      Sizes.lt-width (Sizes.bytes_pos g) j (length (owned g d₁ p)) (omega (arith, l, had))

  same_place : place g d₁ p j ≡ place g d p j
  unfolding place
  same_place =
      ap (λ (x : ℕ). granule_bytes g * x + j % granule_bytes g)
      (ap (λ (l : List ℕ). get_or l granule 0) q.grew.owned' ∙ get_or-append (owned g d p) q.grew.new 0 granule had)

  same_byte : byte d₁ (place g d p j) ≡ byte d (place g d p j)
  same_byte =
      let w = q.holds in
      q.grew.same (place g d p j) (λ i.
      (Change.filed-at g d w.sound p w.file).off w.user (place g d p j / granule_bytes g) (Others.place_in g d p j j-in) i)

  place-stays : place g d' p j ≡ place g d p j
  unfolding place
  place-stays =
      ap (λ (l : List ℕ). granule_bytes g * get_or l granule 0 + j % granule_bytes g)
      (Rewrite.rw-owned g d₁ d' q.grew.kept.sound p q.grew.kept.file (rewrites g d m h n b q)) ∙ same_place

  byte-stays : ((j < h.at) × (j < size_of g d p)) ⊎ (h.at + n ≤ j) → byte d' (place g d p j) ≡ byte d (place g d p j)
  byte-stays o =
      let x = q.grew in
      let size = size_after m (size_of g d p) (h.at + n) in
      let s = data-stays g d₁ x.kept.sound x.kept.fits p x.kept.file x.kept.user h.at size (take n b) q.end q.fit j still (of o) in
      ap (λ (l : List ℕ). byte l (place g d p j)) q.image
      ∙ subst (λ (i : ℕ). byte (stored g d₁ p h.at (take n b) size) i ≡ byte d₁ i) same_place s ∙ same_byte
    where
      of : ((j < h.at) × (j < size_of g d p)) ⊎ (h.at + n ≤ j) → ((j < h.at) × (j < size_of g d₁ p)) ⊎ (h.at + length (take n b) ≤ j)
      of (inl w) = inl (w.0, omega (arith, w.1, q.same_size))
      of (inr w) = inr (omega (arith, w, q.long))

pub writes : EveryWrite
writes g d m h n b e j j-in =
    let q = accepted-write g d m h n b e in
    record {
      where' = place-stays g d m h n b q j j-in;
      behind = λ l. byte-stays g d m h n b q j j-in (inr l);
      before = λ l s. byte-stays g d m h n b q j j-in (inl (l, s));
    }
