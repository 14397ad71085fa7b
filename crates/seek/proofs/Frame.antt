-- Two images with the same HIT and entries: the same files at the same places. (The GAT and the data may differ.)
use mathlib.Core.Path.{◌≡◌, refl, sym, ap, ◌∙◌}
use mathlib.Core.List.{List, [], ◌∷◌}
use mathlib.Core.Bool.{Bool, true, false, not, cond}
use mathlib.Core.Logic.{◌⊎◌, inl, inr}
use Prim.Native.Nat.{ℕ, zero, suc, ◌+◌, ◌*◌, ◌/◌, ◌%◌, ◌≤◌, ◌<◌}
use native.Mathlib.Omega.{arith}
use lib.ListN.{length, get_or, set, length-set}
use lib.Seq.{get_or-set_other}
use lib.Dec.{eqb}
use borrow.Author.Tests.{eqb-true}
use Rattle.meaning.specs.Lists.{each, through}
use Rattle.meaning.specs.Layout.{directory_sectors, field, granules, slots, free_granule, take_granule, gat_at, byte, granule_bytes}
use Rattle.meaning.specs.Bits.{bit, with_bit, without_bit}
use Rattle.meaning.specs.Entries.{in_use, extension, in_use_primary, marker, link, runs, run_start, run_length, entry_granules, size_of}
use Rattle.meaning.specs.Chain.{chain_from, chain, owned, place}
use Rattle.meaning.specs.declared.Geometry.{Geometry}
use Rattle.lists.specs.Members.{In, none_in, in-cons, each-eq}
use Rattle.laws.specs.Entry.{runs-le}
use Rattle.laws.specs.Frame
use Rattle.layout.specs.Room.{Room, Slot, Bit}
use Rattle.layout.proofs.OneStep.{gat-low}
use Rattle.layout.proofs.HasRoom.{bit-fits}
use Rattle.lists.specs.Tests.{and_l}
use Rattle.seek.specs.Seek.{Walkable, Used}
use Rattle.seek.proofs.SeekSteps.{slots_same}
use Rattle.seek.proofs.IsWalkable.{Low}

pub record Same (g : Geometry) (d d' : List ℕ) : Type 0 where
  pub long : length d' ≡ length d
  pub bytes : (a : ℕ) → 256 * (g.start + 1) ≤ a → a < 256 * (g.start + directory_sectors g d) → get_or d' a 0 ≡ get_or d a 0

pub opened : (g : Geometry) (d d' : List ℕ) → get_or d' (256 * (g.start + 1) + 31) 0 ≡ get_or d (256 * (g.start + 1) + 31) 0 → directory_sectors g d' ≡
    directory_sectors g d
unfolding directory_sectors
opened g d d' q = ap (λ (k : ℕ). 10 + k) q

-- the length of the image and that of the directory are the same
pub room-kept : (g : Geometry) (d d' : List ℕ) → length d' ≡ length d → directory_sectors g d' ≡ directory_sectors g d → Room g d → Room g d'
room-kept g d d' l q r =
    record {
      blocks-low = r.blocks-low;
      blocks-high = r.blocks-high;
      units-low = r.units-low;
      units-high = r.units-high;
      most = r.most;
      whole = l ∙ r.whole;
      long = l ∙ r.long;
      far = r.far;
      ten = rw q r.ten;
      thirty = rw q r.thirty;
      directory = rw q r.directory;
    }

pub slot_kept : (g : Geometry) (d d' : List ℕ) {s : ℕ} → directory_sectors g d' ≡ directory_sectors g d → Slot g d s → Slot g d' s
slot_kept g d d' q sl = record { low = sl.low; held = rw q sl.held }

pub same_refl : (g : Geometry) (d : List ℕ) → Same g d d
same_refl g d = record { long = refl; bytes = λ a h l. refl }

module _ (g : Geometry) (d d' : List ℕ) (r : Room g d) (e : Same g d d') where
  -- the GAT bit of a granule lies in the image
  pub same_bit : {n : ℕ} → n < granules g → Bit g (length d') n
  same_bit {n} h = bit-fits g d d' n r h e.long

  pub same-sectors : directory_sectors g d' ≡ directory_sectors g d
  same-sectors = opened g d d' (e.bytes (256 * (g.start + 1) + 31) (omega arith) (let t = r.ten in omega arith))

  pub same-room : Room g d'
  same-room = room-kept g d d' e.long same-sectors r

  pub same-slot : {s : ℕ} → Slot g d s → Slot g d' s
  same-slot sl = slot_kept g d d' same-sectors sl

  pub same-field : (s k : ℕ) → Slot g d s → k < 32 → field g d' s k ≡ field g d s k
  unfolding field
  same-field s k sl h =
      let l = sl.low in let m = sl.held in
      e.bytes (256 * (g.start + 2 + s % 32) + 32 * (s / 32) + k) (omega arith) (omega arith)

  pub same-used : {s : ℕ} → Used g d s → Used g d' s
  same-used {s} u = record { slot = same-slot u.slot; used = ap (bit 4) (same-field s 0 u.slot (omega arith)) ∙ u.used }

  agrees : (s : ℕ) → Slot g d s → Frame.Agree g d d' s
  agrees s sl k h = same-field s k sl h

  pub same_runs : (s : ℕ) → Slot g d s → runs g d' s ≡ runs g d s
  same_runs s sl = Frame.runs-eq g d d' s (agrees s sl)

  pub same_start : (s k : ℕ) → Slot g d s → k < 4 → run_start g d' s k ≡ run_start g d s k
  same_start s k sl h = rw (same-field s (0x16 + 2 * k) sl (omega arith), same-field s (0x17 + 2 * k) sl (omega arith))

  pub same_len : (s k : ℕ) → Slot g d s → k < 4 → run_length g d' s k ≡ run_length g d s k
  same_len s k sl h = rw (same-field s (0x17 + 2 * k) sl (omega arith))

  pub same-entry : (s : ℕ) → Slot g d s → entry_granules g d' s ≡ entry_granules g d s
  same-entry s sl = Frame.entry_granules-eq g d d' s (agrees s sl)

  pub same-slots : slots g d' ≡ slots g d
  same-slots = slots_same g d d' same-sectors

-- every entry along a chain is in use
used-along : (g : Geometry) (d : List ℕ) → Walkable g d → (left s x : ℕ) → Used g d s → In x (chain_from g d left s) → Used g d x
unfolding chain_from
used-along g d snd zero s x u i = none_in i
used-along g d snd (suc left) s x u i = by (λ w k. used-along g d snd left (link g d s) x w k) (in-cons i)
  where
    on : (Used g d (link g d s) → In x (chain_from g d left (link g d s)) → Used g d x)
        → (t : Bool) → eqb (marker g d s) 0xfe ≡ t → In x (cond t (chain_from g d left (link g d s)) []) → Used g d x
    on ih true q j = ih (snd.next s u (eqb-true (marker g d s) 0xfe q)) j
    on ih false q j = none_in j

    by : (Used g d (link g d s) → In x (chain_from g d left (link g d s)) → Used g d x)
        → (x ≡ s) ⊎ In x (cond (eqb (marker g d s) 0xfe) (chain_from g d left (link g d s)) []) → Used g d x
    by ih (inl q) = rw q u
    by ih (inr j) = on ih (eqb (marker g d s) 0xfe) refl j

module _ (g : Geometry) (d d' : List ℕ) (snd : Walkable g d) (e : Same g d d') where
  -- the entries of a chain, and their granules
  pub same-slots-of : (left s : ℕ) → Used g d s → chain_from g d' left s ≡ chain_from g d left s
  same-slots-of left s u =
      Frame.chain_from-eq g d d' left s (λ x i. let w = (used-along g d snd left s x u i).slot in
      (same-field g d d' snd.room e x 0x1e w (omega arith), same-field g d d' snd.room e x 0x1f w (omega arith)))

  same-chain : (left s : ℕ) → Used g d s → each (entry_granules g d') (chain_from g d' left s) ≡ each (entry_granules g d) (chain_from g d left s)
  same-chain left s u =
      ap (each (entry_granules g d')) (same-slots-of left s u)
      ∙ each-eq (entry_granules g d') (entry_granules g d) (chain_from g d left s)
      (λ x i. same-entry g d d' snd.room e x (used-along g d snd left s x u i).slot)

  pub same-owned : (s : ℕ) → Used g d s → owned g d' s ≡ owned g d s
  unfolding owned chain
  same-owned s u =
      ap (λ (l : List ℕ). each (entry_granules g d') (chain_from g d' (length l) s)) (same-slots g d d' snd.room e) ∙ same-chain (length (slots g d)) s u

  pub same_place : (s i : ℕ) → Used g d s → place g d' s i ≡ place g d s i
  unfolding place
  same_place s i u = ap (λ (l : List ℕ). granule_bytes g * get_or l (i / granule_bytes g) 0 + i % granule_bytes g) (same-owned s u)

pub same-sym : (g : Geometry) (d d' : List ℕ) → Room g d → Same g d d' → Same g d' d
same-sym g d d' r e =
    record { long = sym e.long; bytes = λ a h l. sym (e.bytes a h (rw (same-sectors g d d' r e) at l)) }

pub same-trans : (g : Geometry) (d d' d'' : List ℕ) → Room g d → Same g d d' → Same g d' d'' → Same g d d''
same-trans g d d' d'' r e f =
    record {
      long = f.long ∙ e.long;
      bytes = λ a h l. f.bytes a h (rw (same-sectors g d d' r e) l) ∙ e.bytes a h l;
    }

-- a byte stored before the HIT, or behind the directory
pub same-before : (g : Geometry) (d : List ℕ) (i v : ℕ) → i < 256 * (g.start + 1) → Same g d (set d i v)
same-before g d i v h = record { long = length-set d i v; bytes = λ a k l. get_or-set_other d i a v 0 (λ q. omega arith) }

pub same-behind : (g : Geometry) (d : List ℕ) (i v : ℕ) → 256 * (g.start + directory_sectors g d) ≤ i → Same g d (set d i v)
same-behind g d i v h = record { long = length-set d i v; bytes = λ a k l. get_or-set_other d i a v 0 (λ q. omega arith) }

pub same-free : (g : Geometry) (d : List ℕ) (n : ℕ) → Room g d → n < granules g → Same g d (free_granule g d n)
unfolding free_granule
same-free g d n r h =
    let l = gat-low g n h r.units-low in let b = r.blocks-high in
    same-before g d (gat_at g n) (without_bit (n % g.units) (byte d (gat_at g n))) (omega arith)

pub same-take : (g : Geometry) (d : List ℕ) (n : ℕ) → Room g d → n < granules g → Same g d (take_granule g d n)
unfolding take_granule
same-take g d n r h =
    let l = gat-low g n h r.units-low in let b = r.blocks-high in
    same-before g d (gat_at g n) (with_bit (n % g.units) (byte d (gat_at g n))) (omega arith)

module _ (g : Geometry) (d d' : List ℕ) (snd : Walkable g d) (e : Same g d d') where
  slot-back : {s : ℕ} → Slot g d' s → Slot g d s
  slot-back sl = same-slot g d' d (same-room g d d' snd.room e) (same-sym g d d' snd.room e) sl

  used-back : {s : ℕ} → Used g d' s → Used g d s
  used-back u = same-used g d' d (same-room g d d' snd.room e) (same-sym g d d' snd.room e) u

  f-same : (s k : ℕ) → Slot g d s → k < 32 → field g d' s k ≡ field g d s k
  f-same = same-field g d d' snd.room e

  primary-same : (s : ℕ) → Slot g d s → in_use_primary g d' s ≡ in_use_primary g d s
  primary-same s sl = rw (f-same s 0 sl (omega arith))

  size_same : (s : ℕ) → Slot g d s → size_of g d' s ≡ size_of g d s
  unfolding size_of
  size_same s sl = rw (f-same s 3 sl (omega arith), f-same s 0x14 sl (omega arith), f-same s 0x15 sl (omega arith))

  pub same-sound : Walkable g d'
  same-sound =
      record {
        room = same-room g d d' snd.room e;
        next = λ s u m.
            let w = used-back u in
            rw (f-same s 0x1f w.slot (omega arith)) (same-used g d d' snd.room e (snd.next s w (sym (f-same s 0x1e w.slot (omega arith)) ∙ m)));
        run = λ s k u l.
            let w = used-back u in
            let l' : k < runs g d s = rw (same_runs g d d' snd.room e s w.slot) at l in
            let q = runs-le g d s in
            rw (same_start g d d' snd.room e s k w.slot (omega arith), same_len g d d' snd.room e s k w.slot (omega arith)) (snd.run s k w l');
        size = λ s sl p.
            let w = slot-back sl in
            let p' : in_use_primary g d s ≡ true = sym (primary-same s w) ∙ p in
            rw (size_same s w, same-owned g d d' snd e s (record { slot = w; used = and_l (in_use g d s) (not (extension g d s)) p' })) (snd.size s w p');
      }

-- granules given back, one after the other
pub same-all : (g : Geometry) (d : List ℕ) (xs : List ℕ) → Room g d → Low (granules g) xs → Same g d (through (free_granule g) d xs)
unfolding Low
same-all g d [] r l = same_refl g d
same-all g d (x ∷ xs) r l =
    let e = same-free g d x r (l 0 (omega arith)) in
    same-trans g d (free_granule g d x) (through (free_granule g) (free_granule g d x) xs) r e
    (same-all g (free_granule g d x) xs (same-room g d (free_granule g d x) r e) (λ k h. l (suc k) (omega arith)))
