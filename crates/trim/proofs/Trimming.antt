-- The turns of the loop that drops granules, and what a trim answers and leaves.
use mathlib.Core.Path.{◌≡◌, refl, sym, ap, ap₂, ◌∙◌}
use mathlib.Core.List.{List, [], ◌∷◌}
use mathlib.Core.Bool.{Bool, true, false, ◌&&◌}
use Prim.Native.Nat.{ℕ, suc, ◌+◌, ◌-◌, ◌*◌, ◌≤◌, ◌<◌}
use native.Mathlib.Omega.{arith}
use native.Mathlib.Nat.{mul-le-mul_left}
use lib.ListN.{length, length-append}
use lib.Dec.{eqb, not_T}
use borrow.Author.Tests.{ne_eqb}
use Rattle.meaning.specs.Lists.{times}
use Rattle.meaning.specs.Layout.{field, set_field, free_granule, granules, granule_bytes, granules_for}
use Rattle.lists.specs.Sizes
use Rattle.meaning.specs.Bits.{bit}
use Rattle.meaning.specs.Entries.{extension, runs, run_start, run_length, size_of, system}
use Rattle.meaning.specs.Chain.{owned}
use Rattle.meaning.specs.Growth.{tail}
use Rattle.meaning.specs.Drop.{unhooked, drop_one}
use Rattle.meaning.specs.Refusals.{first, refusal, handle_refusals, protected}
use Rattle.meaning.specs.Handles.{in_range}
use Rattle.meaning.specs.Trim.{trim_refusals, trim}
use Rattle.meaning.specs.declared.Geometry.{Geometry}
use Rattle.meaning.specs.declared.Handle.{Handle}
use Rattle.meaning.specs.declared.Answer.{Answer}
use Rattle.meaning.specs.declared.Refusal.{Refusal}
use Rattle.lists.specs.Members
use Rattle.laws.specs.Entry.{runs-le}
use Rattle.laws.specs.Shorter
use Rattle.laws.specs.DropLast
use Rattle.laws.specs.Steps.{Ready, drop-ready}
use Rattle.layout.specs.Room.{Room, Slot}
use Rattle.layout.proofs.HasRoom.{slot-yes}
use Rattle.passed.proofs.Checked.{passed, passed-user}
use Rattle.seek.specs.Seek.{Walkable, Used}
use Rattle.passed.proofs.Ready.{walks}
use Rattle.trim.specs.Last.{Last, Dropping}
use Rattle.trim.proofs.Step

module _ (g : Geometry) (d : List ℕ) (p e : ℕ) (l : Last g d p e 1) where
  size : size_of g d p + granule_bytes g ≤ granule_bytes g * length (owned g d p)
  size = omega (arith, l.room)

  pub last-sound : Walkable g d
  last-sound = (walks g d p l.ready).0

  pub last_entry : Used g d e
  last_entry = rw l.last (Step.last-used g d p l.ready)

  pub last-reads : Room g d × Slot g d e
  last-reads = (last-sound.room, last_entry.slot)

  -- it has a run
  pub last-run : (1 ≤ runs g d e) × (runs g d e ≤ 4)
  last-run = (rw l.last (Step.some-run g d p l.ready size), runs-le g d e)

  pub last-before : extension g d e ≡ true → Slot g d (field g d e 1)
  last-before x = rw l.last (Step.before-used g d p l.ready (rw l.last at x))

  -- its last granule is on the disk
  pub last-granule : {x a len : ℕ} → x ≡ runs g d e → len ≡ run_length g d e (x - 1) → a ≡ run_start g d e (x - 1) → a + len - 1 < granules g
  last-granule {x} q w v =
      let s = last-run.0 in
      let b = last-sound.run e (x - 1) last_entry (omega arith) in
      omega arith

  -- the three ways in which a granule goes; x is the number of runs
  pub by-shorter : {d₁ d₂ : List ℕ} {x a len : ℕ} → x ≡ runs g d e → len ≡ run_length g d e (x - 1) → a ≡ run_start g d e (x - 1) → 1 < len
      → d₁ ≡ set_field g d e (0x17 + 2 * (x - 1)) (field g d e (0x17 + 2 * (x - 1)) - 1) → d₂ ≡ free_granule g d₁ (a + len - 1)
      → (d₂ ≡ drop_one g p d) × (e ≡ tail g p (drop_one g p d))
  by-shorter q w v h y z =
      let h' : 1 < run_length g d (tail g p d) (runs g d (tail g p d) - 1) = rw (w, q, l.last) at h in
      (rw (z, y, v, w, q, l.last) (sym (Step.short g d p l.ready size h')), l.last ∙ sym (Step.short-last g d p l.ready size h'))

  pub by-emptied : {d₁ d₂ : List ℕ} {x a len : ℕ} → x ≡ runs g d e → len ≡ run_length g d e (x - 1) → a ≡ run_start g d e (x - 1) → len ≤ 1
      → (extension g d e && eqb (x - 1) 0) ≡ false
      → d₁ ≡ set_field g (set_field g d e (0x16 + 2 * (x - 1)) 0xff) e (0x17 + 2 * (x - 1)) 0xff → d₂ ≡ free_granule g d₁ (a + len - 1)
      → (d₂ ≡ drop_one g p d) × (e ≡ tail g p (drop_one g p d))
  by-emptied q w v h u y z =
      let h' : run_length g d (tail g p d) (runs g d (tail g p d) - 1) ≤ 1 = rw (w, q, l.last) at h in
      let u' : (extension g d (tail g p d) && eqb (runs g d (tail g p d) - 1) 0) ≡ false = rw (q, l.last) at u in
      (rw (z, y, v, w, q, l.last) (sym (Step.empty g d p l.ready size h' u')), l.last ∙ sym (Step.empty-last g d p l.ready size h' u'))

  pub by-unhooked : {d₁ d₂ d₃ : List ℕ} {x a len b : ℕ} → x ≡ runs g d e → len ≡ run_length g d e (x - 1) → a ≡ run_start g d e (x - 1) → len ≤ 1
      → extension g d e ≡ true → x - 1 ≡ 0 → b ≡ field g d e 1
      → d₁ ≡ set_field g (set_field g d e (0x16 + 2 * (x - 1)) 0xff) e (0x17 + 2 * (x - 1)) 0xff → d₂ ≡ unhooked g d₁ e b → d₃ ≡ free_granule g d₂ (a + len - 1)
      → (d₃ ≡ drop_one g p d) × (b ≡ tail g p (drop_one g p d))
  by-unhooked q w v h u i j y f z =
      let h' : run_length g d (tail g p d) (runs g d (tail g p d) - 1) ≤ 1 = rw (w, q, l.last) at h in
      let u' : extension g d (tail g p d) ≡ true = rw l.last at u in
      let i' : runs g d (tail g p d) - 1 ≡ 0 = rw (q, l.last) at i in (
        rw (z, f, y, j, v, w, q, l.last) (sym (Step.gone g d p l.ready size h' u' i')),
        j ∙ ap (λ (s : ℕ). field g d s 1) l.last ∙ sym (Step.gone-last g d p l.ready size h' u' i'),
      )

-- the entry stays: it is not an extension, or the run is not its first
pub not_first : (b : Bool) (k : ℕ) → (k ≡ 0 → ⊥) → (b && eqb k 0) ≡ false
not_first true k h = ne_eqb k 0 h
not_first false k h = refl

pub is-first : {b : Bool} → b ≡ false → (k : ℕ) → (b && eqb k 0) ≡ false
is-first h k = ap (λ (t : Bool). t && eqb k 0) h

-- the loop: `left` of n granules are still to be dropped, and `at` is the last entry
module _ (g : Geometry) (p : ℕ) where
  pub dropping-start : {d : List ℕ} {e n : ℕ} → Last g d p e n → Dropping g p d n d e n
  dropping-start l = record { rest = refl; last = l; long = refl }

  pub dropping-one : {d d' : List ℕ} {n at left : ℕ} → Dropping g p d n d' at left → 0 < left → Last g d' p at 1
  dropping-one i h = record { ready = i.last.ready; last = i.last.last; room = omega (arith, i.last.room, mul-le-mul_left (granule_bytes g) h) }

  pub dropping-step : {d d' d'' : List ℕ} {n at left b : ℕ} → Dropping g p d n d' at left → 0 < left
      → (d'' ≡ drop_one g p d') × (b ≡ tail g p (drop_one g p d'))
      → Dropping g p d n d'' b (left - 1)
  dropping-step {d} {d'} {d''} {n} {at} {left} {b} i h q =
      let r = i.last.ready in
      let s : size_of g d' p + granule_bytes g ≤ granule_bytes g * length (owned g d' p) = omega (arith, i.last.room, mul-le-mul_left (granule_bytes g) h) in
      let w = DropLast.drop-one g d' (Step.facts g d' p r) (Step.fits g d' p r) p (Step.file g d' p r)
      (not_T (system g d' p) (λ t. Members.false-no r.user t)) s in
      let z : size_of g (drop_one g p d') p ≡ size_of g d' p = Shorter.size_same g d' (drop_one g p d') (Step.facts g d' p r) p (Step.file g d' p r) w.which
      w.shorter in
      let m : length (owned g d' p) ≡ length (owned g (drop_one g p d') p) + 1 = ap length w.shorter.less ∙ length-append (owned g (drop_one g p d') p)
      (w.which ∷ []) in
      let e : left ≡ suc (left - 1) = omega arith in
      record {
        rest = i.rest ∙ ap (λ (k : ℕ). times k (drop_one g p) d') e ∙ ap (times (left - 1) (drop_one g p)) (sym q.0);
        last = rw (q.0, q.1) (record {
          ready = (drop-ready g d' p r s).0;
          last = refl;
          room = rw z
              (omega (arith, i.last.room, ap (granule_bytes g *◌) m, ap (granule_bytes g *◌) e));
        });
        long = ap length q.0 ∙ w.long ∙ i.long;
      }

  -- one run after the other
  pub dropping-then : {d d' d'' : List ℕ} {n at left b m : ℕ} → Dropping g p d n d' at left → Dropping g p d' left d'' b m → Dropping g p d n d'' b m
  dropping-then i j = record { rest = i.rest ∙ j.rest; last = j.last; long = j.long ∙ i.long }

  pub dropping-end : {d d' : List ℕ} {n at left : ℕ} → Dropping g p d n d' at left → left ≤ 0 → d' ≡ times n (drop_one g p) d
  dropping-end {d} {d'} {n} {at} {left} i h = let e : left ≡ 0 = omega arith in sym (i.rest ∙ ap (λ (k : ℕ). times k (drop_one g p) d') e)

module _ (g : Geometry) (d : List ℕ) (h : Handle) where
  -- the number of a trim is that of a changing call at level 4
  pub by-range : {ranged : Bool} {n : ℕ} → ranged ≡ in_range g h → n ≡ first (handle_refusals g d h ranged (protected g d 4 h ∷ [])) → n ≡ first
      (trim_refusals g d h)
  by-range r e = e ∙ ap (λ (t : Bool). first (handle_refusals g d h t (protected g d 4 h ∷ []))) r

  -- what the file has that passed the tests
  pub trim-ready : (ranged : Bool) {n : ℕ} → n ≡ first (handle_refusals g d h ranged (protected g d 4 h ∷ [])) → n ≡ 0 → Ready g d h.slot
  trim-ready ranged e z =
      let w = passed g d h ranged (protected g d 4 h ∷ []) refl e z in
      record {
        fits = w.disk.fits;
        sound = w.disk.sound;
        slot = slot-yes g d h.slot w.slot.low w.slot.held;
        first = w.first';
        user = passed-user g d h ranged 4 [] refl e z;
      }

  pub trim-reads : Ready g d h.slot → Room g d × Slot g d h.slot
  trim-reads r = let w = walks g d h.slot r in (w.0.room, w.1.slot)

  -- the size needs no more granules than are owned
  pub needs-owned : {n size k : ℕ} → Ready g d h.slot → n ≡ length (owned g d h.slot) → size ≡ size_of g d h.slot → k ≡ granules_for g size → k ≤ n
  needs-owned {n} {size} {k} r a b c =
      let w = walks g d h.slot r in
      let f = w.0.size h.slot w.1.slot r.first in
      omega (arith, Sizes.round-least (Sizes.bytes_pos g) _ _ f, ap (granules_for g) b)

  pub trim-last : {e n size k : ℕ} → Ready g d h.slot → e ≡ tail g h.slot d → n ≡ length (owned g d h.slot) → size ≡ size_of g d h.slot → k ≡
      granules_for g size
      → Last g d h.slot e (n - k)
  trim-last {e} {n} {size} {k} r q a b c =
      let w = walks g d h.slot r in
      let f = w.0.size h.slot w.1.slot r.first in
      record {
        ready = r;
        last = q;
        room = omega
            (arith, Sizes.surplus-fits (Sizes.bytes_pos g) _ _ f, ap₂ (λ (x y : ℕ). granule_bytes g * (x - y)) a (c ∙ ap (granules_for g) b));
      }

  pub refused : {n : ℕ} {c : Refusal} → c ≡ refusal g d n → n ≡ first (trim_refusals g d h) → (n ≡ 0 → ⊥)
      → ◌≡◌ {A = Answer × List ℕ} (record { refusal = c; handle = h }, d) (trim g d h)
  unfolding trim
  refused {n} y e z = rw (← e, ne_eqb n 0 z, y)

  pub kept : {n x : ℕ} {t : Bool} {c : Refusal} → c ≡ refusal g d 0 → n ≡ first (trim_refusals g d h) → n ≡ 0 → x ≡ field g d h.slot 1 → t ≡ bit 7 x
      → t ≡ true → ◌≡◌ {A = Answer × List ℕ} (record { refusal = c; handle = h }, d) (trim g d h)
  unfolding trim
  kept y e z q f v = rw (← e, z, sym (ap (bit 7) q) ∙ sym f ∙ v, y)

  pub trimmed : {n x m size k : ℕ} {t : Bool} {d' : List ℕ} {c : Refusal} → c ≡ refusal g d 0 → n ≡ first (trim_refusals g d h) → n ≡ 0
      → x ≡ field g d h.slot 1 → t ≡ bit 7 x → t ≡ false
      → m ≡ length (owned g d h.slot) → size ≡ size_of g d h.slot → k ≡ granules_for g size → d' ≡ times (m - k) (drop_one g h.slot) d
      → ◌≡◌ {A = Answer × List ℕ} (record { refusal = c; handle = h }, d') (trim g d h)
  unfolding trim
  trimmed y e z q f v a b c w = rw (← e, z, sym (ap (bit 7) q) ∙ sym f ∙ v, w, a, c, b, y)
