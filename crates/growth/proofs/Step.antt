-- One granule more: what it does to the numbers that a growth carries along.
use mathlib.Core.Path.{◌≡◌, refl, ap, ap₂, sym, ◌∙◌, subst}
use mathlib.Core.Logic.{◌≢◌, ⊎_elim}
use mathlib.Core.Bool.{Bool, true, false, not}
use mathlib.Core.List.{List, [], ◌∷◌, ◌++◌}
use Prim.Native.Nat.{ℕ, zero, suc, ◌+◌, ◌-◌, ◌*◌, ◌/◌, ◌%◌, ◌≤◌, ◌<◌}
use native.Mathlib.Omega.{arith}
use native.Mathlib.Decide.{ℕ_discrete}
use lib.ListN.{length, length-set}
use lib.Seq.{get_or-set_same, get_or-set_other}
use lib.Dec.{T, eqb, leb, ltb, not_T, eqb→eq}
use borrow.Author.Tests.{lt-ltb, le-ltb, le-leb, lt-leb, ne_eqb}
use Rattle.meaning.specs.Lists.{all, first_or, last_or}
use Rattle.meaning.specs.Layout.{is_slot, taken, take_granule, field, set_field, gat_at, entry_at, granules, hit, above_ten}
use Rattle.meaning.specs.Entries.{system, block, runs, run_start, run_length}
use Rattle.meaning.specs.Chain.{chain}
use Rattle.meaning.specs.Growth.{tail, after, lengthens, lengthened, with_pair, with_extension, take_at, grown, no_slot, extended}
use Rattle.meaning.specs.Free.{free_granules, lowest_free, free_slots, free_slot, permitted, kept}
use Rattle.meaning.specs.declared.Geometry.{Geometry}
use Rattle.lists.specs.Members
use Rattle.lists.specs.Members.{In}
use Rattle.laws.specs.Facts
use Rattle.laws.specs.Entry
use Rattle.laws.specs.Frame
use Rattle.laws.specs.Places
use Rattle.laws.specs.Change
use Rattle.laws.specs.Longer
use Rattle.laws.specs.AtTail
use Rattle.laws.specs.Tail
use Rattle.laws.specs.Take
use Rattle.laws.specs.Extend
use Rattle.laws.specs.TakeNew
use Rattle.laws.specs.Steps.{Ready, take-ready}
use Rattle.laws.specs.Words.{words}
use Rattle.lists.specs.Tests.{all_yes, all-no, all_none, le-or-lt}
use Rattle.space.proofs.First.{NoneBelow, first-at, keep-none}
use Rattle.growth.proofs.Stand.{Stand}

-- a granule that is clear in the GAT
abbrev pub free : Geometry → List ℕ → ℕ → Bool
free g d n = not (taken g d n)

-- Of a file that passed a call's refusals
module _ (g : Geometry) (d : List ℕ) (p : ℕ) (r : Ready g d p) where
  pub sound' : Facts.Sound g d
  sound' = Facts.sound g d r.sound

  pub fits' : Places.Fits g d
  fits' = Places.fits g d (Members.true-T r.fits)

  pub file' : Facts.IsFile g d p
  file' = record { slot = Members.true-T r.slot; primary' = Members.true-T r.first }

  pub user' : T (not (system g d p))
  user' = not_T (system g d p) (λ t. Members.false-no r.user t)

  pub member' : {e : ℕ} → tail g p d ≡ e → Change.Member g d p e
  member' {e} q = Change.members g d sound' p e file' (subst (λ (x : ℕ). In x (chain g d p)) q (Change.tail-in g d sound' p file'))

  pub entry' : {e : ℕ} → tail g p d ≡ e → Entry.Entry g d e
  entry' {e} q = Change.entry-at g d sound' e (member' q).slot (member' q).used

  pub room' : (e : ℕ) → T (is_slot g d e) → entry_at g e + 32 ≤ length d
  room' e t = let a = Places.dir g d sound'.dir in let b = Places.slot g d e t in omega (arith, fits'.long)

-- The lowest free granule ------------------------------------------------------------------------------------------------

module _ (g : Geometry) (d : List ℕ) where
  pub lowest : {n : ℕ} → NoneBelow (free g d) n → n < granules g → taken g d n ≡ false → lowest_free g d ≡ n
  unfolding free_granules
  lowest {n} none h f = first-at (free g d) 0 (granules g) 0 n (omega arith) (omega arith) none (ap not f)

  pub some-free : 1 ≤ length (free_granules g d) → NoneBelow (free g d) (granules g) → ⊥
  unfolding free_granules
  some-free h none = let e = ap {B = ℕ} length (keep-none (free g d) (granules g) 0 (λ k l. none k (omega arith))) in omega arith

-- What a step leaves ------------------------------------------------------------------------------------------------------

-- granule m is taken, and no other
pub record Taken (g : Geometry) (p : ℕ) (choice : List ℕ → ℕ) (d d' : List ℕ) (m : ℕ) : Type 0 where
  pub one : take_at g p (choice d) d ≡ grown d'
  pub set' : taken g d' m ≡ true
  pub keeps : (n : ℕ) → n < granules g → n ≢ m → taken g d' n ≡ taken g d n
  pub fewer : length (free_granules g d) ≡ suc (length (free_granules g d'))
  pub long : length d' ≡ length d

module _ (g : Geometry) (p : ℕ) (choice : List ℕ → ℕ) where
  -- the granule chosen is free
  abbrev pub Free' : List ℕ → Type 0
  Free' d = (choice d < granules g) × (T (taken g d (choice d)) → ⊥)

  lengthens-is : (d : List ℕ) {e r : ℕ} → tail g p d ≡ e → runs g d e ≡ r → lengthens g p d ≡ all
      (leb 1 r ∷ ltb (run_start g d e (r - 1) + run_length g d e (r - 1)) (granules g)
      ∷ not (taken g d (run_start g d e (r - 1) + run_length g d e (r - 1))) ∷ ltb (run_length g d e (r - 1)) 32 ∷ [])
  unfolding lengthens
  lengthens-is d q w = rw (q, w)

  -- a last run that is there
  pub stand-run : {d : List ℕ} {e r a l : ℕ} → Ready g d p → tail g p d ≡ e → runs g d e ≡ r → 1 ≤ r → a ≡ run_start g d e (r - 1) + run_length g d e (r - 1) →
      l ≡ run_length g d e (r - 1) → Stand g p d e r a l
  stand-run {d} {e} {r} {a} {l} y q w h u v = record {
    ready = y;
    last = q;
    many = w;
    after = λ z. (h, u, v);
    full = λ z. lengthens-is d q w ∙ shut (ltb (run_start g d e (r - 1) + run_length g d e (r - 1)) (granules g))
        (not (taken g d (run_start g d e (r - 1) + run_length g d e (r - 1)))) z;
  }
    where
      shut : (x y : Bool) → 32 ≤ l → all (leb 1 r ∷ x ∷ y ∷ ltb (run_length g d e (r - 1)) 32 ∷ []) ≡ false
      shut false y z = all_yes (le-leb 1 r h) _ ∙ all-no refl _
      shut true false z = all_yes (le-leb 1 r h) _ ∙ all_yes refl _ ∙ all-no refl _
      shut true true z = all_yes (le-leb 1 r h) _ ∙ all_yes refl _ ∙ all_yes refl _ ∙ all-no (le-ltb (run_length g d e (r - 1)) 32 (omega arith)) _

  -- no run at all
  pub stand-none : {d : List ℕ} {e r a l : ℕ} → Ready g d p → tail g p d ≡ e → runs g d e ≡ r → r ≡ 0 → 32 ≤ l → Stand g p d e r a l
  stand-none {d} {e} {r} {a} {l} y q w h z = record {
    ready = y;
    last = q;
    many = w;
    after = λ k. absurd (let n : ⊥ = omega arith in n);
    full = λ k. lengthens-is d q w ∙ all-no (lt-leb 1 r (omega arith)) _;
  }

  module _ {d : List ℕ} {e r a l : ℕ} (s : Stand g p d e r a l) where
    lengthens-yes : l < 32 → a < granules g → taken g d a ≡ false → lengthens g p d ≡ true
    lengthens-yes h i f =
        let w = s.after h in
        lengthens-is d s.last s.many ∙ all_yes (le-leb 1 r w.0) _ ∙ all_yes (lt-ltb _ _ (subst (λ (x : ℕ). x < granules g) w.1 i)) _
        ∙ all_yes (ap not (ap (taken g d) (sym w.1) ∙ f)) _ ∙ all_yes (lt-ltb _ _ (subst (λ (x : ℕ). x < 32) w.2 h)) _ ∙ all_none

    -- the three ways in which the last run does not grow
    pub shut-past : granules g ≤ a → lengthens g p d ≡ false
    shut-past h = ⊎_elim (λ z. s.full z) (λ z. let w = s.after z in lengthens-is d s.last s.many ∙ all_yes (le-leb 1 r w.0) _ ∙ all-no
        (le-ltb _ _ (subst (λ (x : ℕ). granules g ≤ x) w.1 h)) _) (le-or-lt 32 l)

    pub shut-taken : taken g d a ≡ true → lengthens g p d ≡ false
    shut-taken h = ⊎_elim (λ z. s.full z) (λ z. ⊎_elim (λ y. shut-past y) (λ y. let w = s.after z in
        lengthens-is d s.last s.many ∙ all_yes (le-leb 1 r w.0) _ ∙ all_yes (lt-ltb _ _ (subst (λ (x : ℕ). x < granules g) w.1 y)) _ ∙ all-no
        (ap not (ap (taken g d) (sym w.1) ∙ h)) _) (le-or-lt (granules g) a)) (le-or-lt 32 l)

  -- Only the last entry's pairs change: it is still the last one
  grows-tail : {d d' : List ℕ} {m : ℕ} → Ready g d p → Tail.Grows g d d' p m → tail g p d' ≡ tail g p d
  grows-tail {d} {d'} y h = AtTail.tail-stays g d d' (sound' g d p y) p (file' g d p y) h.at

  -- the numbers of free granules and of free slots
  slots-eq : (d d' : List ℕ) → above_ten g d' ≡ above_ten g d → (x : ℕ) → (T (is_slot g d x) → hit g d' x ≡ hit g d x) → free_slot g d' x ≡ free_slot g d x
  unfolding free_slot permitted
  slots-eq d d' a x h = rw (Frame.slot-eq g d d' a x) (go (is_slot g d x) (λ q. h (Members.true-T q)))
    where
      go : (b : Bool) → (b ≡ true → hit g d' x ≡ hit g d x) → all (all (b ∷ not (kept g x) ∷ []) ∷ eqb (hit g d' x) 0 ∷ []) ≡ all
          (all (b ∷ not (kept g x) ∷ []) ∷ eqb (hit g d x) 0 ∷ [])
      go true f = rw (f refl)
      go false f = all-no (all-no refl _) _ ∙ sym (all-no (all-no refl _) _)

  -- 1. The last run longer by one ------------------------------------------------------------------------------------------

  -- a byte of an entry once a granule is taken
  gat-field : (d : List ℕ) (m x k : ℕ) → Places.Fits g d → m < granules g → field g (take_granule g d m) x k ≡ field g d x k
  unfolding words
  gat-field d m x k w h = let b = Places.block-lt g d m w h in let c = w.blocks-hi in get_or-set_other d (gat_at g m) (entry_at g x + k) _ 0 (λ q. omega arith)

  same-fits : (d d' : List ℕ) → length d' ≡ length d → Places.Fits g d → Places.Fits g d'
  same-fits d d' e w = Places.as_long w e

  -- byte k of entry e stored, and granule m taken
  module _ (d : List ℕ) (e k v m : ℕ) where
    abbrev pub longer : List ℕ
    longer = take_granule g (set_field g d e k v) m

    longer-long : length longer ≡ length d
    unfolding words
    longer-long = simp length-set

    longer-same : Places.Fits g d → m < granules g → entry_at g e + k < length d → field g longer e k ≡ v
    unfolding words
    longer-same w h l =
        gat-field (set_field g d e k v) m e k (same-fits d (set_field g d e k v) (length-set d (entry_at g e + k) v) w) h ∙ get_or-set_same d
        (entry_at g e + k) v 0
        l

    longer-other : Places.Fits g d → m < granules g → (j : ℕ) → j ≢ k → field g longer e j ≡ field g d e j
    unfolding words
    longer-other w h j n =
        gat-field (set_field g d e k v) m e j (same-fits d (set_field g d e k v) (length-set d (entry_at g e + k) v) w) h
        ∙ get_or-set_other d (entry_at g e + k) (entry_at g e + j) v 0 (λ q. n (omega arith))

  one-long : (d : List ℕ) → lengthens g p d ≡ true → take_at g p (choice d) d ≡ grown (lengthened g p d)
  one-long d h = rw h

  one-pair : (d : List ℕ) → lengthens g p d ≡ false → runs g d (tail g p d) < 4 → take_at g p (choice d) d ≡ grown
      (with_pair g d (tail g p d) (runs g d (tail g p d)) (choice d))
  one-pair d h l = rw (h, lt-ltb (runs g d (tail g p d)) 4 l)

  one-new : (d : List ℕ) → lengthens g p d ≡ false → 4 ≤ runs g d (tail g p d) → take_at g p (choice d) d ≡ extended g p (free_slots g d) d (tail g p d)
      (choice d)
  one-new d h l = rw (h, le-ltb (runs g d (tail g p d)) 4 l)

  pub one_none : (d : List ℕ) → lengthens g p d ≡ false → 4 ≤ runs g d (tail g p d) → NoneBelow (free_slot g d) 256 → take_at g p (choice d) d ≡ no_slot
  unfolding extended free_slots
  one_none d h l none = one-new d h l ∙ ap (λ (xs : List ℕ). extended g p xs d (tail g p d) (choice d)) (keep-none (free_slot g d) 256 0 none)

  taken-by : (d d' : List ℕ) (m : ℕ) → Ready g d p → take_at g p (choice d) d ≡ grown d' → Longer.Longer g d d' p m → length d' ≡ length d → Taken g p choice d
      d' m
  taken-by d d' m y q w l = record {
    one = q;
    set' = Members.T_true w.set';
    keeps = w.keeps;
    fewer = Longer.grown-free g d d' (sound' g d p y) p (file' g d p y) m w;
    long = l;
  }

  module _ {d : List ℕ} {e r a l : ℕ} (s : Stand g p d e r a l) (h : l < 32) (i : a < granules g) (f : taken g d a ≡ false) where
    y₁ : Ready g d p
    y₁ = s.ready

    unfoldable pub d₁ : List ℕ
    d₁ = longer d e (0x17 + 2 * (r - 1)) (field g d e (0x17 + 2 * (r - 1)) + 1) a

    yes₁ : lengthens g p d ≡ true
    yes₁ = lengthens-yes s h i f

    after₁ : after g p d ≡ a
    after₁ = rw (s.last, s.many) (sym (s.after h).1)

    is₁ : lengthened g p d ≡ d₁
    unfolding d₁
    is₁ = rw (s.last, s.many, ← (s.after h).1)

    fits₁ : Places.Fits g d
    fits₁ = fits' g d p y₁

    low₁ : entry_at g e + 32 ≤ length d
    low₁ = room' g d p y₁ e (member' g d p y₁ s.last).slot

    few₁ : r ≤ 4
    few₁ = omega (arith, s.many, Entry.runs-le g d e)

    some₁ : 1 ≤ r
    some₁ = (s.after h).0

    other₁ : (j : ℕ) → j ≢ 0x17 + 2 * (r - 1) → field g d₁ e j ≡ field g d e j
    unfolding d₁
    other₁ = longer-other d e (0x17 + 2 * (r - 1)) (field g d e (0x17 + 2 * (r - 1)) + 1) a fits₁ i

    second₁ : field g d₁ e (0x17 + 2 * (r - 1)) ≡ field g d e (0x17 + 2 * (r - 1)) + 1
    unfolding d₁
    second₁ = longer-same d e (0x17 + 2 * (r - 1)) (field g d e (0x17 + 2 * (r - 1)) + 1) a fits₁ i (omega (arith, low₁, few₁, some₁))

    short₁ : 1 + field g d e (0x17 + 2 * (r - 1)) % 32 ≡ l
    short₁ = sym (s.after h).2

    runs₁ : runs g d₁ e ≡ r
    runs₁ = Frame.runs-blocks g d d₁ e (λ j b. other₁ (0x16 + 2 * j) (λ q. omega arith)) ∙ s.many

    start₁ : run_start g d₁ e (r - 1) ≡ run_start g d e (r - 1)
    start₁ = ap₂ (λ (x z : ℕ). x * g.units + z) (other₁ (0x16 + 2 * (r - 1)) (λ q. omega arith)) (ap (λ (z : ℕ). z / 32) second₁ ∙ omega (arith, short₁))

    length₁ : run_length g d₁ e (r - 1) ≡ l + 1
    length₁ = ap (λ (z : ℕ). 1 + z % 32) second₁ ∙ omega (arith, short₁)

    one₁ : take_at g p (choice d) d ≡ grown d₁
    one₁ = one-long d yes₁ ∙ ap grown is₁

    grows₁ : Tail.Grows g d d₁ p a
    grows₁ = subst (λ (x : List ℕ). Tail.Grows g d x p a) is₁
        (subst (λ (x : ℕ). Tail.Grows g d (lengthened g p d) p x) after₁
        (Take.lengthened-grows g d (sound' g d p y₁) fits₁ p (file' g d p y₁) (Members.true-T yes₁)))

    long₁ : length d₁ ≡ length d
    unfolding d₁
    long₁ = longer-long d e (0x17 + 2 * (r - 1)) (field g d e (0x17 + 2 * (r - 1)) + 1) a

    pub longer-taken : Taken g p choice d d₁ a
    longer-taken = taken-by d d₁ a y₁ one₁ (Tail.grows-longer g d d₁ (sound' g d p y₁) p (file' g d p y₁) a grows₁) long₁

    pub longer-slots : (x : ℕ) → free_slot g d₁ x ≡ free_slot g d x
    longer-slots x = slots-eq d d₁ grows₁.at.above x (λ t. grows₁.at.hits x t)

    pub longer-stand : Free' d → Stand g p d₁ e r (a + 1) (l + 1)
    longer-stand room =
        stand-run (take-ready g d p y₁ (choice d) room d₁ one₁).0 (grows-tail y₁ grows₁ ∙ s.last) runs₁ some₁
        (let u = s.after h in let v : a + 1 ≡ run_start g d e (r - 1) + (l + 1) = omega arith in v ∙ ap₂ (λ (x z : ℕ). x + z) (sym start₁) (sym length₁))
        (sym length₁)

  -- 2. A new run in the last entry --------------------------------------------------------------------------------------------

  module _ {d : List ℕ} {e r a l n : ℕ} (s : Stand g p d e r a l) (shut : lengthens g p d ≡ false) (few : r < 4)
      (pick : choice d ≡ n) (inn : n < granules g) (f : taken g d n ≡ false) where
    y₂ : Ready g d p
    y₂ = s.ready

    unfoldable pub d₂ : List ℕ
    d₂ = with_pair g d e r n

    is₂ : with_pair g d (tail g p d) (runs g d (tail g p d)) (choice d) ≡ d₂
    unfolding d₂
    is₂ = rw (s.last, s.many, pick)

    one₂ : take_at g p (choice d) d ≡ grown d₂
    one₂ = one-pair d shut (rw (s.last, s.many) few) ∙ ap grown is₂

    grows₂ : Tail.Grows g d d₂ p n
    unfolding d₂
    grows₂ =
        subst (λ (x : List ℕ). Tail.Grows g d x p n) (rw (s.last, s.many))
        (Take.paired-grows g d (sound' g d p y₂) (fits' g d p y₂) p (file' g d p y₂) n (rw (s.last, s.many) few) inn (λ t. Members.false-no f t))

    fits₂ : Places.Fits g d
    fits₂ = fits' g d p y₂

    low₂ : entry_at g e + 32 ≤ length d
    low₂ = room' g d p y₂ e (member' g d p y₂ s.last).slot

    abbrev pair₂ : List ℕ
    pair₂ = Take.paired g d e r (n / g.units) (n % g.units * 32)

    gat₂ : (j : ℕ) → field g d₂ e j ≡ field g pair₂ e j
    unfolding d₂
    gat₂ j = gat-field pair₂ n e j (same-fits d pair₂ (Take.paired-length g d e r (n / g.units) (n % g.units * 32)) fits₂) inn

    other₂ : (j : ℕ) → j ≢ 0x16 + 2 * r → j ≢ 0x17 + 2 * r → field g d₂ e j ≡ field g d e j
    unfolding field
    other₂ j u v = gat₂ j ∙ Take.paired-out g d e r (n / g.units) (n % g.units * 32) (entry_at g e + j) (λ q. u (omega arith)) (λ q. v (omega arith))

    first₂ : field g d₂ e (0x16 + 2 * r) ≡ n / g.units
    first₂ = gat₂ (0x16 + 2 * r) ∙ Take.paired-first g d e r (n / g.units) (n % g.units * 32) (omega (arith, low₂))

    second₂ : field g d₂ e (0x17 + 2 * r) ≡ n % g.units * 32
    second₂ = gat₂ (0x17 + 2 * r) ∙ Take.paired-second g d e r (n / g.units) (n % g.units * 32) (omega (arith, low₂))

    runs₂ : runs g d₂ e ≡ r + 1
    runs₂ = Entry.runs-is g d₂ e (r + 1) (omega arith) (λ x h. go x h (ℕ_discrete x r))
        (λ h. other₂ (0x16 + 2 * (r + 1)) (λ q. omega arith) (λ q. omega arith) ∙ (entry' g d p y₂ s.last).pairs (r + 1) h (omega (arith, s.many)))
      where
        go : (x : ℕ) → x < r + 1 → Dec (x ≡ r) → block g d₂ e x ≢ 0xff
        go x h (yes q) = rw (q, first₂) (omega (arith, Places.block-lt g d n fits₂ inn, fits₂.blocks-hi))
        go x h (no q) = rw (other₂ (0x16 + 2 * x) (λ z. q (omega arith)) (λ z. omega arith)) (Entry.runs-has g d e x (omega (arith, s.many)))

    start₂ : run_start g d₂ e r ≡ n
    start₂ = rw (first₂, second₂) (Take.run-start g.units n)

    length₂ : run_length g d₂ e r ≡ 1
    length₂ = rw second₂ (omega arith)

    long₂ : length d₂ ≡ length d
    unfolding d₂ words
    long₂ = simp length-set

    pub pair-taken : Taken g p choice d d₂ n
    pair-taken = taken-by d d₂ n y₂ one₂ (Tail.grows-longer g d d₂ (sound' g d p y₂) p (file' g d p y₂) n grows₂) long₂

    pub pair-slots : (x : ℕ) → free_slot g d₂ x ≡ free_slot g d x
    pair-slots x = slots-eq d d₂ grows₂.at.above x (λ t. grows₂.at.hits x t)

    pub pair-stand : Free' d → Stand g p d₂ e (r + 1) (n + 1) 1
    pair-stand room =
        let k : r + 1 - 1 ≡ r = omega arith in
        stand-run (take-ready g d p y₂ (choice d) room d₂ one₂).0 (grows-tail y₂ grows₂ ∙ s.last) runs₂ (omega arith)
        (rw k (ap₂ (λ (x z : ℕ). x + z) (sym start₂) (sym length₂))) (rw k (sym length₂))

  -- 3. A run in a new extension, at slot x --------------------------------------------------------------------------------------

  module _ {d : List ℕ} {e r a l n x : ℕ} (s : Stand g p d e r a l) (shut : lengthens g p d ≡ false) (many : 4 ≤ r)
      (pick : choice d ≡ n) (inn : n < granules g) (f : taken g d n ≡ false)
      (low : x < 256) (taken-below : NoneBelow (free_slot g d) x) (open' : free_slot g d x ≡ true) where
    y₃ : Ready g d p
    y₃ = s.ready

    unfoldable pub d₃ : List ℕ
    d₃ = with_pair g (with_extension g p d e x) x 0 n

    slots-x : first_or 256 (free_slots g d) ≡ x
    unfolding free_slots
    slots-x = first-at (free_slot g d) 256 256 0 x (omega arith) low taken-below open'

    extended-first : (xs : List ℕ) → first_or 256 xs ≡ x → extended g p xs d e n ≡ grown d₃
    unfolding extended first_or d₃
    extended-first [] q = absurd (let z : ⊥ = omega arith in z)
    extended-first (z ∷ zs) q = rw q

    one₃ : take_at g p (choice d) d ≡ grown d₃
    one₃ =
        one-new d shut (rw (s.last, s.many) many)
        ∙ ap₂ (λ (u v : ℕ). extended g p (free_slots g d) d u v) s.last (pick) ∙ extended-first (free_slots g d) slots-x

    is-slot : T (is_slot g d x) × (hit g d x ≡ 0)
    unfolding words
    is-slot =
        let t : T (free_slot g d x) = Members.true-T open' in
        (Members.and_l (is_slot g d x) _ (Members.and_l (permitted g d x) _ t), eqb→eq _ _ (Members.all-second (permitted g d x) (eqb (hit g d x) 0) t))

    full₃ : runs g d (tail g p d) ≡ 4
    full₃ = rw (s.last, s.many) (omega (arith, s.many, Entry.runs-le g d e))

    extends₃ : Extend.Extends g d d₃ p x n
    unfolding d₃
    extends₃ =
        subst (λ (u : ℕ). Extend.Extends g d (with_pair g (with_extension g p d u x) x 0 n) p x n) s.last
        (TakeNew.new-extends g d (sound' g d p y₃) (fits' g d p y₃) p (file' g d p y₃) x is-slot.0 is-slot.1 n full₃ inn (λ t. Members.false-no f t))

    long₃ : length d₃ ≡ length d
    unfolding d₃ words
    long₃ = simp length-set

    last_snoc : (z : ℕ) (xs : List ℕ) → last_or z (xs ++ (x ∷ [])) ≡ x
    unfolding last_or
    last_snoc z [] = refl
    last_snoc z (v ∷ vs) = last_snoc v vs

    tail₃ : tail g p d₃ ≡ x
    tail₃ = ap (last_or p) (Extend.extends-chain g d d₃ (sound' g d p y₃) p (file' g d p y₃) x n extends₃) ∙ last_snoc p (chain g d p)

    runs₃ : runs g d₃ x ≡ 1
    runs₃ = Entry.runs-is g d₃ x 1 (omega arith) (λ j h. go j h) (λ h. extends₃.ffs 0x18 (omega arith) (omega arith))
      where
        go : (j : ℕ) → j < 1 → block g d₃ x j ≢ 0xff
        go zero h = rw extends₃.first (omega (arith, extends₃.small))
        go (suc j) h = absurd (let z : ⊥ = omega arith in z)

    pub new-taken : Taken g p choice d d₃ n
    new-taken = taken-by d d₃ n y₃ one₃ (Extend.extends-longer g d d₃ (sound' g d p y₃) p (file' g d p y₃) x n extends₃) long₃

    -- the new slot is free no more, and every other as it was
    pub new-slot : free_slot g d₃ x ≡ false
    unfolding free_slot
    new-slot = go (permitted g d₃ x)
      where
        used : (hit g d₃ x ≡ 0) → ⊥
        used q =
            Change.used-hit g d (sound' g d p y₃) p (file' g d p y₃).slot (Facts.file-in-use g d p (file' g d p y₃)) (sym extends₃.hit-new ∙ q)

        go : (b : Bool) → all (b ∷ eqb (hit g d₃ x) 0 ∷ []) ≡ false
        go true = all_yes refl _ ∙ all-no (ne_eqb _ _ used) _
        go false = all-no refl _

    pub new-slots : (z : ℕ) → z ≢ x → free_slot g d₃ z ≡ free_slot g d z
    new-slots z q = slots-eq d d₃ extends₃.above z (λ t. extends₃.hits z t q)

    pub new-stand : Free' d → Stand g p d₃ x 1 (n + 1) 1
    new-stand room =
        stand-run (take-ready g d p y₃ (choice d) room d₃ one₃).0 tail₃ runs₃ (omega arith)
        (rw (extends₃.first, extends₃.second) (ap₂ (λ (u v : ℕ). u + v) (sym (Take.run-start g.units n)) (omega arith)))
        (rw extends₃.second (omega arith))
