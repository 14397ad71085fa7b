-- One granule dropped: which bytes that changes, by the three cases of the last run, and which entry is the last one afterwards.
use mathlib.Core.Path.{◌≡◌, refl, sym, ap, ◌∙◌}
use mathlib.Core.Logic.{◌≢◌, ◌⊎◌, inl, inr}
use mathlib.Core.List.{List, []}
use mathlib.Core.Bool.{Bool, true, false, cond, ◌&&◌}
use Prim.Native.Nat.{ℕ, zero, suc, ◌+◌, ◌-◌, ◌*◌, ◌≤◌, ◌<◌}
use native.Mathlib.Omega.{arith}
use lib.ListN.{length}
use lib.Dec.{eqb, T_not}
use borrow.Author.Tests.{lt-ltb, le-ltb, eq-eqb, ne_eqb}
use Rattle.meaning.specs.Lists.{last_or}
use Rattle.meaning.specs.Layout.{field, set_field, free_granule, granule_bytes}
use Rattle.lists.specs.Sizes
use Rattle.meaning.specs.Entries.{extension, marker, link, runs, run_start, run_length, size_of}
use Rattle.meaning.specs.Chain.{chain_from, chain, owned}
use Rattle.meaning.specs.Growth.{tail}
use Rattle.meaning.specs.Drop.{unhooked, drop_one}
use Rattle.meaning.specs.declared.Geometry.{Geometry}
use Rattle.lists.specs.Members
use Rattle.lists.specs.Members.{In}
use Rattle.laws.specs.Facts
use Rattle.laws.specs.Places
use Rattle.laws.specs.Change
use Rattle.laws.specs.AtTail
use Rattle.laws.specs.Unhook
use Rattle.laws.specs.Drop
use Rattle.laws.specs.DropLast
use Rattle.laws.specs.Steps.{Ready}
use Rattle.layout.specs.Room.{Slot}
use Rattle.layout.proofs.HasRoom.{slot-of}
use Rattle.seek.specs.Seek.{Used}

-- an entry of a chain that hands on to no other is the chain's last
chain-ends : (g : Geometry) (d : List ℕ) (n s y z : ℕ) → In y (chain_from g d n s) → marker g d y ≢ 0xfe → last_or z (chain_from g d n s) ≡ y
unfolding chain_from last_or
chain-ends g d zero s y z i h = Members.none_in i
chain-ends g d (suc n) s y z i h = go (Members.in-cons i) (λ j. chain-ends g d n (link g d s) y s j h)
  where
    rest : List ℕ
    rest = chain_from g d n (link g d s)

    by : (t : Bool) → In y (cond t rest []) → (In y rest → last_or s rest ≡ y) → last_or s (cond t rest []) ≡ y
    by true j ih = ih j
    by false j ih = Members.none_in j

    go : (y ≡ s) ⊎ In y (cond (eqb (marker g d s) 0xfe) rest []) → (In y rest → last_or s rest ≡ y) → last_or s (cond (eqb (marker g d s) 0xfe) rest []) ≡ y
    go (inl e) ih = ap (λ (t : Bool). last_or s (cond t rest [])) (ne_eqb (marker g d s) 0xfe (λ q. h (ap (marker g d) e ∙ q))) ∙ sym e
    go (inr j) ih = by (eqb (marker g d s) 0xfe) j ih

module _ (g : Geometry) (d : List ℕ) (p : ℕ) (r : Ready g d p) where
  pub facts : Facts.Sound g d
  facts = Facts.sound g d r.sound

  pub fits : Places.Fits g d
  fits = Places.fits g d (Members.true-T r.fits)

  pub file : Facts.IsFile g d p
  file = record { slot = Members.true-T r.slot; primary' = Members.true-T r.first }

  member-used : (x : ℕ) → In x (chain g d p) → Used g d x
  member-used x i =
      let m = Change.members g d facts p x file i in
      record { slot = slot-of g d x (Members.T_true m.slot); used = Members.T_true m.used }

  pub last-used : Used g d (tail g p d)
  last-used = member-used (tail g p d) (Change.tail-in g d facts p file)

  later : extension g d (tail g p d) ≡ true → tail g p d ≢ p
  later x q = T_not (extension g d p) (Facts.file-first g d p file) (rw q at (Members.true-T x))

  -- the entry before an extension
  pub before-used : extension g d (tail g p d) ≡ true → Slot g d (field g d (tail g p d) 1)
  before-used x = (member-used (field g d (tail g p d) 1) (DropLast.before-tail g d facts p file (later x)).0).slot

  -- an extension unhooked: the one before it is the last
  cut : (d' : List ℕ) (b m : ℕ) → Unhook.Unhooks g d d' p b m → In b (chain g d p) → b ≢ tail g p d → tail g p d' ≡ b
  unfolding chain
  cut d' b m h i n =
      chain-ends g d' _ p b p (shorter (Members.snoc-in (chain g d' p) (rw (Unhook.cut-chain g d d' facts p file b m h) at i)))
      (λ q. let z : ◌≡◌ {A = ℕ} 0xff 0xfe = sym h.ended ∙ q in omega arith)
    where
      shorter : In b (chain g d' p) ⊎ (b ≡ tail g p d) → In b (chain g d' p)
      shorter (inl j) = j
      shorter (inr q) = absurd (n q)

  module _ (size : size_of g d p + granule_bytes g ≤ granule_bytes g * length (owned g d p)) where
    abbrev t : ℕ
    t = tail g p d

    abbrev k : ℕ
    k = runs g d t - 1

    abbrev n : ℕ
    n = run_start g d t k + run_length g d t k - 1

    pub some-run : 1 ≤ runs g d t
    some-run = Drop.tail-run g d facts p file (Sizes.some-width (Sizes.bytes_pos g) _ (omega (arith, size)))

    -- Case 1: the last run is shorter by one.
    pub short : 1 < run_length g d t k → drop_one g p d ≡ free_granule g (set_field g d t (0x17 + 2 * k) (field g d t (0x17 + 2 * k) - 1)) n
    unfolding drop_one
    short h = rw (lt-ltb 1 (run_length g d t k) h)

    pub short-last : 1 < run_length g d t k → tail g p (drop_one g p d) ≡ t
    short-last h = ap (tail g p) (short h) ∙ AtTail.tail-stays g d _ facts p file (Drop.shorter-shrinks g d facts fits p file some-run size h).at

    -- Case 2: the last run is gone, and the entry stays.
    pub empty : run_length g d t k ≤ 1 → (extension g d t && eqb k 0) ≡ false
        → drop_one g p d ≡ free_granule g (set_field g (set_field g d t (0x16 + 2 * k) 0xff) t (0x17 + 2 * k) 0xff) n
    unfolding drop_one
    empty h x = rw (le-ltb 1 (run_length g d t k) h, x)

    pub empty-last : run_length g d t k ≤ 1 → (extension g d t && eqb k 0) ≡ false → tail g p (drop_one g p d) ≡ t
    empty-last h x = ap (tail g p) (empty h x) ∙ AtTail.tail-stays g d _ facts p file
        (Drop.emptied-shrinks g d facts fits p file some-run size (omega arith) kept).at
      where
        first : k ≡ 0 → extension g d t ≡ true → ⊥
        first z e =
            let y : true ≡ false = sym (rw (e, eq-eqb k 0 z)) ∙ x in
            let w : ◌≡◌ {A = ℕ} 0 1 = cc in omega arith

        kept : t ≢ p → 1 ≤ k
        kept o = over k (λ z. first z (Members.T_true (Change.extends g d facts p t file (Change.tail-in g d facts p file) o)))
          where
            over : (y : ℕ) → y ≢ 0 → 1 ≤ y
            over y q = omega arith

    -- Case 3: the last run is gone, and the extension with it.
    pub gone : run_length g d t k ≤ 1 → extension g d t ≡ true → k ≡ 0
        → drop_one g p d ≡ free_granule g (unhooked g (set_field g (set_field g d t (0x16 + 2 * k) 0xff) t (0x17 + 2 * k) 0xff) t (field g d t 1)) n
    unfolding drop_one
    gone h x z = rw (le-ltb 1 (run_length g d t k) h, x, eq-eqb k 0 z)

    pub gone-last : run_length g d t k ≤ 1 → extension g d t ≡ true → k ≡ 0 → tail g p (drop_one g p d) ≡ field g d t 1
    gone-last h x z =
        let one : runs g d t ≡ 1 = omega (arith, some-run) in
        let single : run_length g d t 0 ≡ 1 = omega (arith, rw one at h) in
        let v = DropLast.before-tail g d facts p file (later x) in
        let w = DropLast.emptied-unhooks g d facts fits p file size (later x) one single (field g d t 1) refl
        (Change.members g d facts p (field g d t 1) file v.0).slot v.1 in
        ap (tail g p) (gone h x z ∙ rw one) ∙ cut _ (field g d t 1) _ w v.0 v.1
