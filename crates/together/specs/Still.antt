-- What a call that takes and gives back nothing leaves: every file where it was, and every byte outside its own file's region
use Rattle.std.specs.Prelude.{◌≡◌, refl, ◌≢◌, ◌⊎◌, Bool, not, ◌||◌, ℕ, ◌+◌, ◌-◌, ◌*◌, ◌/◌, ◌%◌, ◌≤◌, ◌<◌, length, set, take, replicate, T, leb}
use Rattle.std.proofs.Common.{ap, sym, ◌∙◌, subst, inl, inr, arith, length-set, get_or-set_same, get_or-set_other, lt→ltb, le→leb}
use mathlib.Core.List.{List, [], ◌∷◌}
use Rattle.std.proofs.Math.Decide.{ℕ_discrete, dec_lt}
use Rattle.std.proofs.Math.ListN.{get_or}
use Rattle.std.proofs.Math.Seq.{set_out}
use Rattle.std.proofs.Math.Dec.{not_T}
use Rattle.meaning.specs.Lists.{has}
use Rattle.meaning.specs.Bits
use Rattle.meaning.specs.Layout.{byte, field, entry_at, granule_bytes, directory_granules}
use Rattle.meaning.specs.Entries.{system, name_of, size_of}
use Rattle.meaning.specs.Chain.{owned, place}
use Rattle.meaning.specs.LookUp.{named}
use Rattle.meaning.specs.Write.{size_after, with_size, store}
use Rattle.meaning.specs.Open.{opened_at}
use Rattle.meaning.specs.Layout.{round_up}
use Rattle.meaning.specs.declared.Geometry.{Geometry}
use Rattle.meaning.specs.declared.Handle.{Handle}
use Rattle.meaning.specs.declared.Mode.{Mode}
use Rattle.lists.specs.Members
use Rattle.lists.specs.Members.{In}
use Rattle.laws.specs.Facts
use Rattle.laws.specs.Facts.{Sound}
use Rattle.laws.specs.Change
use Rattle.laws.specs.Named
use Rattle.laws.specs.Rewrite
use Rattle.promises.specs.Write
use Rattle.laws.specs.Words.{words}
use Rattle.together.specs.Statement.{Name}
use Rattle.together.specs.Quiet
use Rattle.together.specs.Quiet.{Laid, QuietWrite, written, region, in_entry, in_data}

pub record Still (g : Geometry) (n : Name) (d d' : List ℕ) : Type 0 where
  pub laid : Laid g d d'
  pub outside : (i : ℕ) → (T (region g d n i) → ⊥) → byte d' i ≡ byte d i

pub still-same : (g : Geometry) (n : Name) (d d' : List ℕ) → d' ≡ d → Still g n d d'
still-same g n d d' e = subst (λ (x : List ℕ). Still g n d x) (sym e) (record { laid = Quiet.laid_same g d; outside = λ i o. refl })

-- a file whose bytes are rewritten, and every other, stays where it is
module _ (g : Geometry) (d d' : List ℕ) (c : Sound g d) (p : ℕ) (f : Facts.IsFile g d p) (u : T (not (system g d p))) (h : Rewrite.Rewrites g d d' p) where
  x : Change.Change g d d' p
  x = Rewrite.rw-change g d d' c p f h u

  kept : (q : ℕ) → Facts.IsFile g d q → Facts.IsFile g d' q × (name_of g d' q ≡ name_of g d q) × (owned g d' q ≡ owned g d q)
  kept q k = go (ℕ_discrete q p)
    where
      go : Dec (q ≡ p) → Facts.IsFile g d' q × (name_of g d' q ≡ name_of g d q) × (owned g d' q ≡ owned g d q)
      go (yes e) = rw e (Rewrite.rw-file g d d' c p f h, Rewrite.rw-name g d d' c p f h, Rewrite.rw-owned g d d' c p f h)
      go (no n) = (Change.file-stays g d d' c p x q k n, Change.name-stays g d d' c p x q k n, Change.owned-stays g d d' c p x q k n)

  was : (q : ℕ) → Facts.IsFile g d' q → Facts.IsFile g d q
  was q k = go (ℕ_discrete q p)
    where
      go : Dec (q ≡ p) → Facts.IsFile g d q
      go (yes e) = rw e f
      go (no n) = Change.file-was g d d' c p x q k n

  stays-named : (m : Name) → named g d' m ≡ named g d m
  stays-named m = go (Named.look g d c m)
    where
      go : ((q : ℕ) × Facts.IsFile g d q × (name_of g d q ≡ m)) ⊎ ((q : ℕ) → Facts.IsFile g d q → name_of g d q ≢ m) → named g d' m ≡ named g d m
      go (inl w) =
          let k = kept w.0 w.1 in
          ap (named g d') (sym (k.1 ∙ w.2)) ∙ Named.named-is g d' (Change.changed g d d' c p x) w.0 k.0
          ∙ sym (ap (named g d) (sym w.2) ∙ Named.named-is g d c w.0 w.1)
      go (inr w) = Named.none_named g d' m (λ q k e. w q (was q k) (sym (kept q (was q k)).1 ∙ e)) ∙ sym (Named.none_named g d m w)

  pub rewrites-laid : Laid g d d'
  rewrites-laid = record { above = h.above; names = stays-named; files = λ q k. (kept q k).0; owns = λ q k. (kept q k).2 }

module _ (g : Geometry) (d : List ℕ) (n : Name) (m : Mode) (h : Handle) (many : ℕ) (b d' : List ℕ) (e : h.name ≡ n) (w : QuietWrite g d m h many b d') where
  abbrev p : ℕ
  p = h.slot

  abbrev size : ℕ
  size = size_after m (size_of g d p) (h.at + many)

  end : h.at + length (take many b) ≤ granule_bytes g * length (owned g d p)
  end = let a = w.len in let f = w.fit in omega (arith, Rewrite.after-end m (size_of g d p) (h.at + many))

  pub own-region : (i : ℕ) → region g d n i ≡ (in_entry g p i || in_data g d p i)
  own-region i = Quiet.region-is g d w.holds.sound p n i w.holds.file (w.holds.name' ∙ e)

  rewrites : Rewrite.Rewrites g d (written g d p m h.at many (take many b)) p
  unfolding written
  rewrites = Write.write-rewrites g d w.holds.sound w.holds.fits p w.holds.file w.holds.user h.at size (take many b) end w.fit

  untouched : (i : ℕ) → (T (in_entry g p i) → ⊥) → (In (i / granule_bytes g) (owned g d p) → ⊥) → byte (written g d p m h.at many (take many b)) i ≡ byte d i
  unfolding written
  untouched i o v =
      Write.d₄-out g d w.holds.sound w.holds.fits p w.holds.file w.holds.user h.at size (take many b) end w.fit i
      (λ q. off 1 (omega arith) q) (λ q. off 3 (omega arith) q) (λ q. off 0x14 (omega arith) q) (λ q. off 0x15 (omega arith) q)
      ∙ Write.d₃-out g d w.holds.sound w.holds.fits p w.holds.file w.holds.user h.at size (take many b) end w.fit i v
    where
      off : (k : ℕ) → k < 32 → i ≡ entry_at g p + k → ⊥
      off k l q = o (Members.and_i (leb (entry_at g p) i) _ (le→leb (entry_at g p) i (omega arith)) (lt→ltb i (entry_at g p + 32) (omega arith)))

  pub write-still : Still g n d d'
  write-still = subst (λ (y : List ℕ). Still g n d y) (sym w.image) (record {
    laid = rewrites-laid g d (written g d p m h.at many (take many b)) w.holds.sound p w.holds.file w.holds.user rewrites;
    outside = λ i o. untouched i
        (λ t. o (rw (own-region i) (Members.or_l (in_entry g p i) (in_data g d p i) t)))
        (λ v. o (rw (own-region i)
        (Members.or_r (in_entry g p i) (in_data g d p i) (Members.and_i (has (owned g d p) (i / granule_bytes g)) _ (Members.in-has v)
        (not_T (has (directory_granules g d) (i / granule_bytes g))
        (λ y. (Change.filed-at g d w.holds.sound p w.holds.file).off w.holds.user (i / granule_bytes g) v
        (Members.has_in (i / granule_bytes g) (directory_granules g d) y)))))));
  })

-- Two disks that agree on a region -----------------------------------------------------------------------------------------

pub record Agreed (P : ℕ → Bool) (x y : List ℕ) : Type 0 where
  pub long : length x ≡ length y
  pub bytes : (i : ℕ) → T (P i) → byte x i ≡ byte y i

module _ (P : ℕ → Bool) where
  agreed-set : (x y : List ℕ) (j v : ℕ) → Agreed P x y → Agreed P (set x j v) (set y j v)
  agreed-set x y j v a = record { long = length-set x j v ∙ a.long ∙ sym (length-set y j v); bytes = λ i t. go i t (ℕ_discrete i j) (dec_lt j (length x)) }
    where
      go : (i : ℕ) → T (P i) → Dec (i ≡ j) → Dec (j < length x) → byte (set x j v) i ≡ byte (set y j v) i
      go i t (no n) l = get_or-set_other x j i v 0 n ∙ a.bytes i t ∙ sym (get_or-set_other y j i v 0 n)
      go i t (yes q) (yes l) = rw q (get_or-set_same x j v 0 l ∙ sym (get_or-set_same y j v 0 (omega (arith, a.long))))
      go i t (yes q) (no l) = rw (set_out x j v (omega arith), set_out y j v (omega (arith, a.long))) (a.bytes i t)

  agreed-store : (F : ℕ → ℕ) (bs x y : List ℕ) (i : ℕ) → Agreed P x y → Agreed P (store F x i bs) (store F y i bs)
  unfolding store
  agreed-store F [] x y i a = a
  agreed-store F (b ∷ bs) x y i a = agreed-store F bs (set x (F i) b) (set y (F i) b) (i + 1) (agreed-set x y (F i) b a)

  agreed-size : (g : Geometry) (d e x y : List ℕ) (p size : ℕ) → T (P (entry_at g p + 1)) → Agreed P x y
      → Agreed P (with_size g x p size) (with_size g y p size)
  unfolding words
  agreed-size g d e x y p size t a =
      let n = round_up size 256 in
      let a₁ = agreed-set x y (entry_at g p + 3) (size % 256) a in
      let a₂ = agreed-set _ _ (entry_at g p + 0x14) (n % 256) a₁ in
      let a₃ = agreed-set _ _ (entry_at g p + 0x15) (n / 256) a₂ in
      rw (a.bytes (entry_at g p + 1) t) (agreed-set _ _ (entry_at g p + 1) (Bits.with_bit 5 (field g y p 1)) a₃)

  -- the same write on both
  pub agreed-write : (g : Geometry) (d e : List ℕ) (p : ℕ) (m : Mode) (at len : ℕ) (r : List ℕ) → ((k : ℕ) → k < 32 → T (P (entry_at g p + k))) → owned g d p ≡
      owned g e p → Agreed P d e
      → Agreed P (written g d p m at len r) (written g e p m at len r)
  unfolding words
  agreed-write g d e p m at len r t o a =
      let fields : (k : ℕ) → k < 32 → field g d p k ≡ field g e p k = λ k l. a.bytes (entry_at g p + k) (t k l) in
      go (size fields) places
    where
      size : ((k : ℕ) → k < 32 → field g d p k ≡ field g e p k) → size_of g d p ≡ size_of g e p
      size fs = rw (fs 3 (omega arith), fs 0x14 (omega arith), fs 0x15 (omega arith))

      places : place g d p ≡ place g e p
      places = unfold place in (λ i j. granule_bytes g * get_or (o i) (j / granule_bytes g) 0 + j % granule_bytes g)

      go : size_of g d p ≡ size_of g e p → place g d p ≡ place g e p → Agreed P (written g d p m at len r) (written g e p m at len r)
      go s f = unfold written in rw (s, f) (agreed-size g d e _ _ p (size_after m (size_of g e p) (at + len)) (t 1 (omega arith))
          (agreed-store (place g e p) r _ _ at (agreed-store (place g e p) (replicate (at - size_of g e p) 0) d e (size_of g e p) a)))

-- the same open on both
pub agreed-open : (P : ℕ → Bool) (g : Geometry) (d e : List ℕ) (p : ℕ) (n : Name) (len : ℕ) (checking : Bool) (code : ℕ) →
    ((k : ℕ) → k < 32 → T (P (entry_at g p + k))) → Agreed P d e
    → opened_at g d p n len checking code ≡ opened_at g e p n len checking code
unfolding words
agreed-open P g d e p n len checking code t a =
    let fs : (k : ℕ) → k < 32 → field g d p k ≡ field g e p k = λ k l. a.bytes (entry_at g p + k) (t k l) in
    rw (fs 0 (omega arith), fs 0x10 (omega arith), fs 0x11 (omega arith))
