-- Write, both modes, as the call answers it: growth, then the data, then the size and B
use Rattle.std.specs.Prelude.{◌≡◌, ◌≢◌, Bool, true, not, ◌&&◌, ℕ, ◌+◌, ◌-◌, ◌*◌, ◌≤◌, ◌<◌, max, T, leb, get_or, take, replicate}
use Rattle.std.proofs.Math.Path.{ap}
use Rattle.std.proofs.Common.{ap₂, sym, ◌∙◌, subst, leb→le, length-set, length-append, length-take}
use mathlib.Core.List.{List, [], ◌∷◌, map}
use native.Mathlib.Omega.{arith}
use Rattle.std.proofs.Math.ListN.{length, set}
use Rattle.std.proofs.lemmas.List.{length-map, length-replicate}
use Rattle.meaning.specs.Lists.{count, all}
use Rattle.meaning.specs.Layout
use Rattle.meaning.specs.Bits
use Rattle.meaning.specs.Layout.{granules, byte, field, directory_granules, granule_bytes, granules_for, highest}
use Rattle.lists.specs.Sizes
use Rattle.meaning.specs.Entries.{system, name_of, size_of}
use Rattle.meaning.specs.Chain.{chain, owned, place}
use Rattle.meaning.specs.Consistent.{consistent}
use Rattle.meaning.specs.LookUp.{named}
use Rattle.meaning.specs.Read
use Rattle.meaning.specs.Write.{write_of, size_after, store, with_size}
use Rattle.meaning.specs.Refusals.{cannot_grow}
use Rattle.meaning.specs.Growth.{with_granules, lacking}
use Rattle.meaning.specs.Handles.{in_range}
use Rattle.meaning.specs.Plain
use Rattle.meaning.specs.Free.{free_granules, reserved}
use Rattle.meaning.specs.Plain.{Found, found, file_at, plain, written_to, overwritten}
use Rattle.promises_words.specs.Untouched.{hush, beyond}
use Rattle.meaning.specs.declared.Geometry.{Geometry}
use Rattle.meaning.specs.declared.Handle.{Handle}
use Rattle.meaning.specs.declared.Mode.{Mode}
use Rattle.lists.specs.Members
use Rattle.lists.specs.Members.{In, length-count}
use Rattle.laws.specs.Facts
use Rattle.laws.specs.Facts.{Sound, IsFile}
use Rattle.laws.specs.Places
use Rattle.laws.specs.Change
use Rattle.laws.specs.Others
use Rattle.laws.specs.Named
use Rattle.laws.specs.Passed
use Rattle.laws.specs.Touch
use Rattle.laws.specs.Touch.{Touch}
use Rattle.laws.specs.Store.{store_length}
use Rattle.laws.specs.Rewrite
use Rattle.laws.specs.Others.{file-length}
use Rattle.laws.specs.Words.{words}
use Rattle.promises.specs.Grow
use Rattle.promises.specs.Grow.{Grew}
use Rattle.promises.specs.Write
use Rattle.promises.specs.Over

-- the data part, on a disk that is large enough
module _ (g : Geometry) (d : List ℕ) (c : Sound g d) (k : Places.Fits g d) (p : ℕ) (f : IsFile g d p) (u : T (not (system g d p)))
    (m : Mode) (at : ℕ) (r : List ℕ) (fit : size_after m (size_of g d p) (at + length r) ≤ granule_bytes g * length (owned g d p)) where
  abbrev size : ℕ
  size = size_after m (size_of g d p) (at + length r)

  end : at + length r ≤ granule_bytes g * length (owned g d p)
  end = omega (arith, fit, Rewrite.after-end m (size_of g d p) (at + length r))

  abbrev d' : List ℕ
  d' = with_size g (store (place g d p) (store (place g d p) d (size_of g d p) (replicate (at - size_of g d p) 0)) at r) p size

  rewrites : Rewrite.Rewrites g d d' p
  rewrites = Write.write-rewrites g d c k p f u at size r end fit

  change : Change.Change g d d' p
  change = Rewrite.rw-change g d d' c p f rewrites u

  place_same : (j : ℕ) → place g d' p j ≡ place g d p j
  unfolding place
  place_same j = rw (Rewrite.rw-owned g d d' c p f rewrites)

  abbrev O : List ℕ
  O = (file_at g d p).bytes

  len-O : length O ≡ size_of g d p
  len-O = file-length g d p

  O-at : (j : ℕ) → j < size_of g d p → get_or O j 0 ≡ Layout.byte d (place g d p j)
  unfolding file_at words
  O-at j h = Members.map-count (λ j. Layout.byte d (place g d p j)) 0 (size_of g d p) j h ∙ ap (λ (x : ℕ). Layout.byte d (place g d p x)) (omega arith)

  abbrev G : ℕ → ℕ
  G j = Layout.byte d' (place g d p j)

  written-bytes : map G (count 0 (size_after m (length O) (at + length r))) ≡ overwritten m O at r
  written-bytes = Over.is-overwritten m O at r G
      (λ j h o. Write.old-in g d c k p f u at size r end fit j (omega (arith, len-O)) o ∙ sym (O-at j (omega (arith, len-O))))
      (λ j a b. Write.zero_in g d c k p f u at size r end fit j (omega (arith, len-O)) b)
      (λ j a b. Write.written_in g d c k p f u at size r end fit j a b)
      (length-map (count 0 (size_after m (length O) (at + length r))) G ∙ length-count 0 (size_after m (length O) (at + length r)))

  own-bytes : (file_at g d' p).bytes ≡ overwritten m O at r
  unfolding file_at words
  own-bytes = ap (λ (n : ℕ). Read.fetch g d' p 0 n)
      (Write.new-size g d c k p f u at size r end fit ∙ ap (λ (n : ℕ). size_after m n (at + length r)) (sym len-O))
      ∙ Members.map-eq _ _ (count 0 (size_after m (length O) (at + length r))) (λ j i. ap (Layout.byte d') (place_same j)) ∙ written-bytes

  kept : (j : ℕ) → j < 32 → Rewrite.Kept j → field g d' p j ≡ field g d p j
  kept = rewrites.fixed

  own-attributes : (file_at g d' p).attributes ≡ set (file_at g d p).attributes 1 (Bits.with_bit 5 (get_or (file_at g d p).attributes 1 0))
  unfolding file_at
  own-attributes =
      let at' : (j : ℕ) → j < 32 → j ≢ 1 → j ≢ 3 → j ≢ 0x14 → j ≢ 0x15 → field g d' p j ≡ field g d p j = λ j a b v w x. kept j a
      (record { flags = b; ends = v; low = w; high = x }) in
      rw (
        at' 0 (omega arith) (omega arith) (omega arith) (omega arith) (omega arith),
        Write.f1 g d c k p f u at size r end fit,
        at' 2 (omega arith) (omega arith) (omega arith) (omega arith) (omega arith),
        at' 4 (omega arith) (omega arith) (omega arith) (omega arith) (omega arith),
        at' 16 (omega arith) (omega arith) (omega arith) (omega arith) (omega arith),
        at' 17 (omega arith) (omega arith) (omega arith) (omega arith) (omega arith),
        at' 18 (omega arith) (omega arith) (omega arith) (omega arith) (omega arith),
        at' 19 (omega arith) (omega arith) (omega arith) (omega arith) (omega arith),
      )

  own-granules : (file_at g d' p).granules ≡ length (owned g d p)
  unfolding file_at
  own-granules = ap length (Rewrite.rw-owned g d d' c p f rewrites)

-- what a write leaves of the file at p, and of the others
pub record Wrote (g : Geometry) (d d' : List ℕ) (p : ℕ) (w : Plain.File) : Type 0 where
  pub long : length d' ≡ length d
  pub consistent' : consistent g d' ≡ true
  pub reserved' : reserved g d' ≡ reserved g d
  pub own : plain g d' (name_of g d p) ≡ found w
  pub others : (n : List ℕ) → n ≢ name_of g d p → hush (plain g d' n) ≡ hush (plain g d n)
  pub beyond' : (n : List ℕ) → n ≢ name_of g d p → beyond g d' n ≡ beyond g d n
  pub names' : (n : List ℕ) → n ≢ name_of g d p → named g d' n ≡ named g d n
  pub touch : Touch g (chain g d' p) (owned g d' p) d d'
  pub apart : (n : ℕ) → In n (owned g d' p) → In n (directory_granules g d') → ⊥
  pub free : length (free_granules g d) + length (owned g d p) ≡ length (free_granules g d') + length (owned g d' p)
  pub file' : IsFile g d' p
  pub name' : name_of g d' p ≡ name_of g d p
  pub told : file_at g d' p ≡ w

-- growth, then the data part
module _ (g : Geometry) (d d₁ : List ℕ) (p : ℕ) (m : Mode) (at : ℕ) (r : List ℕ)
    (x : Grew g d d₁ p (lacking g d p (granules_for g (size_after m (size_of g d p) (at + length r))))) where
  abbrev size₀ : ℕ
  size₀ = size_after m (size_of g d p) (at + length r)

  size₁ : size_of g d₁ p ≡ size_of g d p
  unfolding words
  size₁ = rw (x.low 3 (omega arith), x.low 0x14 (omega arith), x.low 0x15 (omega arith))

  own₁ : length (owned g d₁ p) ≡ length (owned g d p) + lacking g d p (granules_for g size₀)
  own₁ = ap length x.owned' ∙ length-append (owned g d p) x.new ∙ ap (λ (y : ℕ). length (owned g d p) + y) x.many

  fit₁ : size_after m (size_of g d₁ p) (at + length r) ≤ granule_bytes g * length (owned g d₁ p)
  fit₁ = rw size₁ (Sizes.round-fits (Sizes.bytes_pos g) size₀ (length (owned g d₁ p)) (omega (arith, own₁)))

  abbrev img : ℕ → List ℕ
  img o = with_size g (store (place g d₁ p) (store (place g d₁ p) d₁ o (replicate (at - o) 0)) at r) p (size_after m o (at + length r))

  written-file : file_at g (img (size_of g d₁ p)) p ≡ written_to g m at r (file_at g d p)
  unfolding written_to
  written-file = λ i. record {
    attributes = (own-attributes g d₁ x.kept.sound x.kept.fits p x.kept.file x.kept.user m at r fit₁ ∙ ap
        (λ (l : List ℕ). set l 1 (Bits.with_bit 5 (get_or l 1 0))) x.kept.attributes) i;
    granules = many i;
    bytes = (own-bytes g d₁ x.kept.sound x.kept.fits p x.kept.file x.kept.user m at r fit₁ ∙ ap (λ (l : List ℕ). overwritten m l at r)
        x.kept.bytes) i;
  }
    where
      long : length (overwritten m (file_at g d p).bytes at r) ≡ size₀
      long = Over.overwritten-length m (file_at g d p).bytes at r ∙ ap (λ (y : ℕ). size_after m y (at + length r)) (file-length g d p)

      many : (file_at g (img (size_of g d₁ p)) p).granules ≡ max (file_at g d p).granules (granules_for g (length (overwritten m (file_at g d p).bytes at r)))
      many = own-granules g d₁ x.kept.sound x.kept.fits p x.kept.file x.kept.user m at r fit₁ ∙ rw long (own₁ ∙ maxed)
        where
          maxed : length (owned g d p) + lacking g d p (granules_for g size₀) ≡ max (file_at g d p).granules (granules_for g size₀)
          maxed = unfold file_at in omega arith

  free₄ : length (free_granules g d) + length (owned g d p) ≡ length (free_granules g (img (size_of g d₁ p))) + length (owned g (img (size_of g d₁ p)) p)
  free₄ =
      let d₄ = img (size_of g d₁ p) in
      let w = rewrites g d₁ x.kept.sound x.kept.fits p x.kept.file x.kept.user m at r fit₁ in
      rw (Rewrite.rw-free g d₁ d₄ x.kept.sound p x.kept.file w, Rewrite.rw-owned g d₁ d₄ x.kept.sound p x.kept.file w)
      (omega (arith, x.free, own₁))

  -- the stores: growth, then bytes of the granules owned, then the file's entry
  touch₄ : Touch g (chain g (img (size_of g d₁ p)) p) (owned g (img (size_of g d₁ p)) p) d (img (size_of g d₁ p))
  touch₄ =
      let d₄ = img (size_of g d₁ p) in let old = size_of g d₁ p in
      let w = rewrites g d₁ x.kept.sound x.kept.fits p x.kept.file x.kept.user m at r fit₁ in
      let xs = chain g d₁ p in let ns = owned g d₁ p in
      let end₁ = end g d₁ x.kept.sound x.kept.fits p x.kept.file x.kept.user m at r fit₁ in
      let grown' : Touch g xs ns d d₁ = Touch.touch-more xs ns (λ y i. i) (λ n i. Members.none_in i) x.touch in
      let zeros : length {A = ℕ} (replicate (at - old) 0) ≡ at - old = length-replicate (at - old) 0 in
      let stored = Touch.touch-store g xs ns d (place g d₁ p) r at (λ j a b. Others.place_in g d₁ p j (omega arith))
      (Touch.touch-store g xs ns d (place g d₁ p) (replicate (at - old) 0) old (λ j a b. Others.place_in g d₁ p j (omega arith)) grown') in
      subst (λ (l : List ℕ). Touch g l (owned g d₄ p) d d₄) (sym (Rewrite.rw-chain g d₁ d₄ x.kept.sound p x.kept.file w))
      (subst (λ (l : List ℕ). Touch g xs l d d₄) (sym (Rewrite.rw-owned g d₁ d₄ x.kept.sound p x.kept.file w))
      (Touch.touch-size g xs ns d d₁ p (size_after m old (at + length r)) (Change.chain_head g d₁ x.kept.sound p x.kept.file.slot) stored))

  user₄ : Sound g (img (size_of g d₁ p)) → T (not (system g (img (size_of g d₁ p)) p))
  user₄ s =
      let d₄ = img (size_of g d₁ p) in
      let e : field g d₄ p 0 ≡ field g d₁ p 0 = kept g d₁ x.kept.sound x.kept.fits p x.kept.file x.kept.user m at r fit₁ 0 (omega arith)
      (record { flags = omega arith; ends = omega arith; low = omega arith; high = omega arith }) in
      rw e x.kept.user

  pub wrote : Wrote g d (img (size_of g d₁ p)) p (written_to g m at r (file_at g d p))
  unfolding words
  wrote =
      let d₄ = img (size_of g d₁ p) in
      let w = rewrites g d₁ x.kept.sound x.kept.fits p x.kept.file x.kept.user m at r fit₁ in
      let h = change g d₁ x.kept.sound x.kept.fits p x.kept.file x.kept.user m at r fit₁ in
      let s = Change.changed g d₁ d₄ x.kept.sound p h in
      let n = Rewrite.rw-name g d₁ d₄ x.kept.sound p x.kept.file w ∙ x.kept.name in
      record {
        long = simp (length-set, store_length) x.kept.long;
        consistent' = Facts.back g d₄ s;
        reserved' = Others.reserved-stays g d₁ d₄ x.kept.sound p h ∙ x.kept.reserved';
        own = Named.plain-is g d₄ s p (name_of g d p) (Rewrite.rw-file g d₁ d₄ x.kept.sound p x.kept.file w) n ∙ ap {B = Found} found written-file;
        beyond' = λ b q. Others.beyond-plain g d₁ d₄ x.kept.sound p h (Rewrite.rw-same g d₁ d₄ x.kept.sound p x.kept.file w) b
            (λ z a. q (sym a ∙ x.kept.name)) (λ z a. q (sym a ∙ n)) ∙ x.kept.beyond' b q;
        names' = λ b q. Others.names-stay g d₁ d₄ x.kept.sound p h b (λ z a. q (sym a ∙ x.kept.name)) (λ z a. q (sym a ∙ n)) ∙ x.kept.names' b q;
        touch = touch₄;
        apart = λ n i. (Change.filed-at g d₄ s p (Rewrite.rw-file g d₁ d₄ x.kept.sound p x.kept.file w)).off (user₄ s) n i;
        free = free₄;
        file' = Rewrite.rw-file g d₁ d₄ x.kept.sound p x.kept.file w;
        name' = n;
        told = written-file;
        others = λ b q. Others.others-plain g d₁ d₄ x.kept.sound p h (Rewrite.rw-same g d₁ d₄ x.kept.sound p x.kept.file w) b
            (λ z a. q (sym a ∙ x.kept.name)) (λ z a. q (sym a ∙ n)) ∙ x.kept.others b q;
      }

-- the geometry fits an image of the same length
pub fits_after : (g : Geometry) (d d' : List ℕ) → Places.Fits g d → length d' ≡ length d → Places.Fits g d'
fits_after g d d' k l = Places.as_long k l

pub write-wrote : (g : Geometry) (d : List ℕ) (m : Mode) (h : Handle) (n : ℕ) (b : List ℕ) → (write_of g d m h n b).0.refusal.number ≡ 0
    → Passed.Holds g d h × Wrote g d (write_of g d m h n b).1 h.slot (written_to g m h.at (take n b) (file_at g d h.slot))
unfolding write_of words
write-wrote g d m h n b e =
    let p = h.slot in
    let r = take n b in
    let more = lacking g d p (granules_for g (size_after m (size_of g d p) (h.at + n))) in
    let w = Passed.holds g d h _ 4 (cannot_grow g d p more) e in
    let p₂ = Passed.disk-passed g d _ e in
    let p₃ = Passed.passed 12 _ _ (omega arith) p₂.1 in
    let fit : Bool = all (leb (h.at + n) (highest g) ∷ leb n (length b) ∷ []) in
    let range : T (in_range g h && fit) = Passed.yes-T (in_range g h && fit) p₃.0 in
    let short = leb→le n (length b) (Members.all-second (leb (h.at + n) (highest g)) (leb n (length b)) (Members.and_r (in_range g h) fit range)) in
    let lr : length r ≡ n = length-take n b ∙ omega arith in
    let d₁ = with_granules g d p more in
    let x : Grew g d d₁ p more = Grow.larger-grew g d h more w.0 w.1 in
    let y : Grew g d d₁ p (lacking g d p (granules_for g (size_after m (size_of g d p) (h.at + length r)))) =
    subst (λ (l : ℕ). Grew g d d₁ p (lacking g d p (granules_for g (size_after m (size_of g d p) (h.at + l))))) (sym lr) x in
    let image : ℕ → ℕ → List ℕ = λ o l. with_size g (store (place g d₁ p) (store (place g d₁ p) d₁ o (replicate (h.at - o) 0)) h.at r) p
    (size_after m o (h.at + l)) in
    let same' : image (size_of g d₁ p) (length r) ≡ image (size_of g d p) n = ap₂ image (size₁ g d d₁ p m h.at r y) lr in
    (w.0, rw e (subst (λ (i : List ℕ). Wrote g d i p (written_to g m h.at r (file_at g d p))) same' (wrote g d d₁ p m h.at r y)))
