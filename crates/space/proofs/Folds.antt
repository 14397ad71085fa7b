-- Folds of the image along runs and chains.
use mathlib.Core.Path.{◌≡◌, refl, sym, ap, ◌∙◌}
use mathlib.Core.List.{List, [], ◌∷◌, ◌++◌}
use mathlib.Core.Bool.{Bool, true, false, cond}
use Prim.Native.Nat.{ℕ, zero, suc, ◌+◌, ◌-◌, ◌*◌, ◌≤◌, ◌<◌}
use native.Mathlib.Omega.{arith}
use native.Mathlib.Nat.{sub-zero}
use lib.ListN.{length, get_or, set, length-set}
use lib.Seq.{get_or-set_other}
use borrow.Author.Tests.{eq-eqb, ne_eqb}
use Rattle.meaning.specs.Lists.{count, each, through}
use Rattle.meaning.specs.Layout.{granules, free_granule, directory_sectors, field, set_field, slots, hit_at, entry_at}
use Rattle.meaning.specs.Bits.{without_bit}
use Rattle.meaning.specs.Entries.{runs, run_start, run_length, run_granules, entry_granules, marker, link}
use Rattle.meaning.specs.Chain.{chain_from, chain, owned}
use Rattle.meaning.specs.Kill.{kill_entry}
use Rattle.meaning.specs.declared.Geometry.{Geometry}
use Rattle.layout.specs.Room.{Room, Slot}
use Rattle.space.specs.Marks.{mark}
use Rattle.lists.specs.Ranges.{left-more, left-none}
use Rattle.seek.specs.Seek.{Walkable, Used, onward}
use Rattle.seek.proofs.SeekSteps.{chain-none, slots_length}
use Rattle.seek.proofs.Frame.{opened, room-kept, slot_kept, Same, same_refl, same-trans, same-free, same-take, same-room, same-entry, same-sound, same-all}
use Rattle.seek.proofs.Frame.{same-used}
use Rattle.seek.proofs.Frame.{same-slots-of}
use Rattle.seek.proofs.IsWalkable.{low-entry, low-chain}

pub through-append : (f : List ℕ → ℕ → List ℕ) (x : List ℕ) (xs ys : List ℕ) → through f x (xs ++ ys) ≡ through f (through f x xs) ys
through-append f x [] ys = refl
through-append f x (n ∷ xs) ys = through-append f (f x n) xs ys

module _ (g : Geometry) where
  same-mark : (set : Bool) (d : List ℕ) (n : ℕ) → Room g d → n < granules g → Same g d (mark g set d n)
  same-mark true d n r h = same-take g d n r h
  same-mark false d n r h = same-free g d n r h

  pub same-run : (set : Bool) (d : List ℕ) (a n : ℕ) → Room g d → a + n ≤ granules g → Same g d (through (mark g set) d (count a n))
  same-run set d a zero r h = same_refl g d
  same-run set d a (suc n) r h =
      let e = same-mark set d a r (omega arith) in
      same-trans g d (mark g set d a) (through (mark g set) (mark g set d a) (count (a + 1) n)) r e
      (same-run set (mark g set d a) (a + 1) n (same-room g d (mark g set d a) r e) (omega arith))

  -- an entry's granules taken or given back, run by run: j of n are done
  pub record ByRuns (set : Bool) (d : List ℕ) (s n : ℕ) (d' : List ℕ) (j : ℕ) : Type 0 where
    pub rest : through (mark g set) d (entry_granules g d s) ≡ through (mark g set) d' (each (run_granules g d s) (count j (n - j)))
    pub same : Same g d d'

  pub by-runs-start : (set : Bool) (d : List ℕ) (s : ℕ) {n : ℕ} → n ≡ runs g d s → ByRuns set d s n d 0
  unfolding entry_granules
  by-runs-start set d s {n} e =
      record {
        rest = ap (λ (m : ℕ). through (mark g set) d (each (run_granules g d s) (count 0 m))) (sym e ∙ sym (sub-zero n));
        same = same_refl g d;
      }

  pub by-runs-step : {set : Bool} {d d' d'' : List ℕ} {s n j a len : ℕ} → Room g d → ByRuns set d s n d' j → j < n → a ≡ run_start g d s j
      → len ≡ run_length g d s j → a + len ≤ granules g → d'' ≡ through (mark g set) d' (count a len) → ByRuns set d s n d'' (j + 1)
  by-runs-step {set} {d} {d'} {d''} {s} {n} {j} {a} {len} r f h u v l e =
      let left = each (run_granules g d s) (count (j + 1) (n - (j + 1))) in
      record {
        rest =
            f.rest ∙ ap (λ (m : ℕ). through (mark g set) d' (each (run_granules g d s) (count j m))) (left-more h)
            ∙ through-append (mark g set) d' (run_granules g d s j) left
            ∙ ap (λ (m : ℕ). through (mark g set) (through (mark g set) d' (count m (run_length g d s j))) left) (sym u)
            ∙ ap (λ (m : ℕ). through (mark g set) (through (mark g set) d' (count a m)) left) (sym v)
            ∙ ap (λ (z : List ℕ). through (mark g set) z left) (sym e);
        same = rw e (same-trans g d d' (through (mark g set) d' (count a len)) r f.same (same-run set d' a len (same-room g d d' r f.same) l));
      }

  pub by-runs-end : {set : Bool} {d d' : List ℕ} {s n j : ℕ} → ByRuns set d s n d' j → n ≤ j → d' ≡ through (mark g set) d (entry_granules g d s)
  by-runs-end {set} {d} {d'} {s} {n} {j} f h =
      sym (f.rest ∙ ap (λ (m : ℕ). through (mark g set) d' (each (run_granules g d s) (count j m))) (left-none h))

  chain-cons : (d : List ℕ) {most i : ℕ} (s : ℕ) → i < most → chain_from g d (most - i) s ≡ s ∷ onward g d (most - (i + 1)) s
  unfolding chain_from
  chain-cons d s h = rw (left-more h)

  -- entry by entry: i of `most` are done, and slot `at` comes next
  pub record Unchaining (d : List ℕ) (most s : ℕ) (d' : List ℕ) (at i : ℕ) : Type 0 where
    pub rest : through (free_granule g) d (each (entry_granules g d) (chain_from g d most s)) ≡ through (free_granule g) d'
        (each (entry_granules g d) (chain_from g d (most - i) at))
    pub same : Same g d d'
    pub used : Used g d at

  pub unchaining-start : (d : List ℕ) (most s : ℕ) → Used g d s → Unchaining d most s d s 0
  unchaining-start d most s u = record {
    rest = ap (λ (n : ℕ). through (free_granule g) d (each (entry_granules g d) (chain_from g d n s))) (sym (sub-zero most));
    same = same_refl g d;
    used = u;
  }

  -- the image once the entry at `at` gave its granules back
  unchained : {d d' d'' : List ℕ} {most s at i : ℕ} → Walkable g d → Unchaining d most s d' at i → i < most → d'' ≡ through (free_granule g) d'
      (entry_granules g d' at)
      → through (free_granule g) d (each (entry_granules g d) (chain_from g d most s)) ≡ through (free_granule g) d''
      (each (entry_granules g d) (onward g d (most - (i + 1)) at))
  unchained {d} {d'} {d''} {most} {s} {at} {i} snd f n e =
      f.rest ∙ ap (λ (l : List ℕ). through (free_granule g) d' (each (entry_granules g d) l)) (chain-cons d at n)
      ∙ through-append (free_granule g) d' (entry_granules g d at) (each (entry_granules g d) (onward g d (most - (i + 1)) at))
      ∙ ap (λ (l : List ℕ). through (free_granule g) (through (free_granule g) d' l) (each (entry_granules g d) (onward g d (most - (i + 1)) at)))
      (sym (same-entry g d d' snd.room f.same at f.used.slot))
      ∙ ap (λ (z : List ℕ). through (free_granule g) z (each (entry_granules g d) (onward g d (most - (i + 1)) at))) (sym e)

  pub unchained-same : {d d' d'' : List ℕ} {most s at i : ℕ} → Walkable g d → Unchaining d most s d' at i → d'' ≡ through (free_granule g) d'
      (entry_granules g d' at) → Same g d d''
  unchained-same {d} {d'} {d''} {most} {s} {at} {i} snd f e =
      let r' = same-room g d d' snd.room f.same in
      let s' = same-sound g d d' snd f.same in
      let u' = same-used g d d' snd.room f.same f.used in
      rw e (same-trans g d d' (through (free_granule g) d' (entry_granules g d' at)) snd.room f.same
      (same-all g d' (entry_granules g d' at) r' (low-entry g d' s' at u')))

  pub unchaining-stop : {d d' d'' : List ℕ} {most s at i m : ℕ} → Walkable g d → Unchaining d most s d' at i → i < most
      → d'' ≡ through (free_granule g) d'
      (entry_granules g d' at)
      → m ≡ marker g d at → (m ≡ 0xfe → ⊥) → d'' ≡ through (free_granule g) d (each (entry_granules g d) (chain_from g d most s))
  unchaining-stop {d} {d'} {d''} {most} {s} {at} {i} {m} snd f n e q nay =
      sym (unchained snd f n e
      ∙ ap (λ (t : Bool). through (free_granule g) d'' (each (entry_granules g d) (cond t (chain_from g d (most - (i + 1)) (link g d at)) [])))
      (ne_eqb (marker g d at) 0xfe (λ z. nay (q ∙ z))))

  pub unchaining-step : {d d' d'' : List ℕ} {most s at i m t : ℕ} → Walkable g d → Unchaining d most s d' at i → i < most → d'' ≡ through (free_granule g)
      d' (entry_granules g d' at)
      → m ≡ marker g d at → m ≡ 0xfe → t ≡ link g d at → Unchaining d most s d'' t (i + 1)
  unchaining-step {d} {d'} {d''} {most} {s} {at} {i} {m} {t} snd f n e q ys w =
      record {
        rest =
            unchained snd f n e
            ∙ ap (λ (b : Bool). through (free_granule g) d'' (each (entry_granules g d) (cond b (chain_from g d (most - (i + 1)) (link g d at)) [])))
            (eq-eqb (marker g d at) 0xfe (sym q ∙ ys))
            ∙ ap (λ (k : ℕ). through (free_granule g) d'' (each (entry_granules g d) (chain_from g d (most - (i + 1)) k))) (sym w);
        same = unchained-same snd f e;
        used = rw w (snd.next at f.used (sym q ∙ ys));
      }

  pub unchaining-end : {d d' : List ℕ} {most s at i : ℕ} → Unchaining d most s d' at i → most ≤ i → d' ≡ through (free_granule g) d
      (each (entry_granules g d) (chain_from g d most s))
  unchaining-end {d} {d'} {most} {s} {at} {i} f h =
      sym (f.rest ∙ ap (λ (l : List ℕ). through (free_granule g) d' (each (entry_granules g d) l)) (chain-none g d (most - i) at (omega arith)))

  -- two images whose directories are of one length and whose entries differ in byte 00 only
  pub record KeptFields (d d' : List ℕ) : Type 0 where
    pub long : length d' ≡ length d
    pub sectors : directory_sectors g d' ≡ directory_sectors g d
    pub fields : (x k : ℕ) → Slot g d x → 1 ≤ k → k < 32 → field g d' x k ≡ field g d x k

  pub kept-room : {d d' : List ℕ} → Room g d → KeptFields d d' → Room g d'
  kept-room {d} {d'} r e = room-kept g d d' e.long e.sectors r

  pub kept_slot : {d d' : List ℕ} {s : ℕ} → KeptFields d d' → Slot g d s → Slot g d' s
  kept_slot {d} {d'} e sl = slot_kept g d d' e.sectors sl

  kept_trans : {d d' d'' : List ℕ} → KeptFields d d' → KeptFields d' d'' → KeptFields d d''
  kept_trans e f =
      record {
        long = f.long ∙ e.long;
        sectors = f.sectors ∙ e.sectors;
        fields = λ x k sl a b. f.fields x k (kept_slot e sl) a b ∙ e.fields x k sl a b;
      }

  kill-long : (d : List ℕ) (s : ℕ) → length (kill_entry g d s) ≡ length d
  unfolding kill_entry set_field
  kill-long d s = simp length-set

  kill-other : (d : List ℕ) (s a : ℕ) → (a ≡ entry_at g s + 0 → ⊥) → (a ≡ hit_at g s → ⊥) → get_or (kill_entry g d s) a 0 ≡ get_or d a 0
  unfolding kill_entry set_field
  kill-other d s a h k =
      get_or-set_other (set d (entry_at g s + 0) (without_bit 4 (field g d s 0))) (hit_at g s) a 0 0 k
      ∙ get_or-set_other d (entry_at g s + 0) a (without_bit 4 (field g d s 0)) 0 h

  kill-sectors : (d : List ℕ) (s : ℕ) → Room g d → Slot g d s → directory_sectors g (kill_entry g d s) ≡ directory_sectors g d
  kill-sectors d s r sl =
      let l = sl.low in let m = sl.held in let t = r.thirty in
      opened g d (kill_entry g d s) (kill-other d s (256 * (g.start + 1) + 31) (λ z. omega arith) (λ z. omega arith))

  kill-field : (d : List ℕ) (s x k : ℕ) → Slot g d s → Slot g d x → 1 ≤ k → k < 32 → field g (kill_entry g d s) x k ≡ field g d x k
  unfolding field
  kill-field d s x k sl xl a b =
      let l = sl.low in let m = xl.low in
      kill-other d s (entry_at g x + k) (λ z. omega arith) (λ z. omega arith)

  kept-kill : (d : List ℕ) (s : ℕ) → Room g d → Slot g d s → KeptFields d (kill_entry g d s)
  kept-kill d s r sl = record { long = kill-long d s; sectors = kill-sectors d s r sl; fields = λ x k xl a b. kill-field d s x k sl xl a b }

  pub record Clearing (d : List ℕ) (most s : ℕ) (d' : List ℕ) (at i : ℕ) : Type 0 where
    pub rest : through (kill_entry g) d (chain_from g d most s) ≡ through (kill_entry g) d' (chain_from g d (most - i) at)
    pub kept : KeptFields d d'
    pub used : Used g d at

  pub clearing-start : (d : List ℕ) (most s : ℕ) → Used g d s → Clearing d most s d s 0
  clearing-start d most s u = record {
    rest = ap (λ (n : ℕ). through (kill_entry g) d (chain_from g d n s))
        (sym (sub-zero most));
    kept = record { long = refl; sectors = refl; fields = λ x k sl a b. refl };
    used = u;
  }

  cleared : {d d' d'' : List ℕ} {most s at i : ℕ} → Clearing d most s d' at i → i < most → d'' ≡ kill_entry g d' at
      → through (kill_entry g) d (chain_from g d most s) ≡ through (kill_entry g) d'' (onward g d (most - (i + 1)) at)
  cleared {d} {d'} {d''} {most} {s} {at} {i} f n e =
      f.rest ∙ ap (through (kill_entry g) d') (chain-cons d at n)
      ∙ ap (λ (z : List ℕ). through (kill_entry g) z (onward g d (most - (i + 1)) at)) (sym e)

  pub clearing-stop : {d d' d'' : List ℕ} {most s at i m : ℕ} → Clearing d most s d' at i → i < most → d'' ≡ kill_entry g d' at → m ≡ field g d' at 0x1e →
      (m ≡ 0xfe → ⊥)
      → d'' ≡ through (kill_entry g) d (chain_from g d most s)
  clearing-stop {d} {d'} {d''} {most} {s} {at} {i} {m} f n e q nay =
      let w : m ≡ marker g d at = q ∙ f.kept.fields at 0x1e f.used.slot (omega arith) (omega arith) in
      sym (cleared f n e ∙ ap (λ (t : Bool). through (kill_entry g) d'' (cond t (chain_from g d (most - (i + 1)) (link g d at)) []))
      (ne_eqb (marker g d at) 0xfe (λ z. nay (w ∙ z))))

  pub clearing-step : {d d' d'' : List ℕ} {most s at i m t : ℕ} → Walkable g d → Clearing d most s d' at i → i < most → d'' ≡ kill_entry g d' at
      → m ≡ field g d' at 0x1e → t ≡ field g d' at 0x1f → m ≡ 0xfe → Clearing d most s d'' t (i + 1)
  clearing-step {d} {d'} {d''} {most} {s} {at} {i} {m} {t} snd f n e q v ys =
      let w : m ≡ marker g d at = q ∙ f.kept.fields at 0x1e f.used.slot (omega arith) (omega arith) in
      let x : t ≡ link g d at = v ∙ f.kept.fields at 0x1f f.used.slot (omega arith) (omega arith) in
      record {
        rest =
            cleared f n e ∙ ap (λ (b : Bool). through (kill_entry g) d'' (cond b (chain_from g d (most - (i + 1)) (link g d at)) []))
            (eq-eqb (marker g d at) 0xfe (sym w ∙ ys))
            ∙ ap (λ (k : ℕ). through (kill_entry g) d'' (chain_from g d (most - (i + 1)) k)) (sym x);
        kept = rw e (kept_trans f.kept (kept-kill d' at (kept-room snd.room f.kept) (kept_slot f.kept f.used.slot)));
        used = rw x (snd.next at f.used (sym w ∙ ys));
      }

  pub clearing-end : {d d' : List ℕ} {most s at i : ℕ} → Clearing d most s d' at i → most ≤ i → d' ≡ through (kill_entry g) d (chain_from g d most s)
  clearing-end {d} {d'} {most} {s} {at} {i} f h = sym (f.rest ∙ ap (through (kill_entry g) d') (chain-none g d (most - i) at (omega arith)))

  pub freed-same : {d d' : List ℕ} {s : ℕ} (most : ℕ) → Walkable g d → Used g d s → d' ≡ through (free_granule g) d
      (each (entry_granules g d) (chain_from g d most s)) → Same g d d'
  freed-same {d} {d'} {s} most snd u e = rw e (same-all g d (each (entry_granules g d) (chain_from g d most s)) snd.room (low-chain g d snd most s u))

  pub killed : {d d' d'' : List ℕ} {n s : ℕ} → Walkable g d → Used g d s → n ≡ 8 * (directory_sectors g d - 2) → d' ≡ through (free_granule g) d
      (each (entry_granules g d) (chain_from g d n s)) → d'' ≡ through (kill_entry g) d' (chain_from g d' n s) → d'' ≡ through (kill_entry g)
      (through (free_granule g) d (owned g d s))
      (chain g d s)
  unfolding owned chain
  killed {d} {d'} {d''} {n} {s} snd u q e f =
      let w : n ≡ length (slots g d) = q ∙ sym (slots_length g d snd.room.ten snd.room.thirty) in
      f ∙ ap (through (kill_entry g) d') (same-slots-of g d d' snd (freed-same n snd u e) n s u)
      ∙ ap (λ (z : List ℕ). through (kill_entry g) z (chain_from g d n s)) e
      ∙ ap (λ (k : ℕ). through (kill_entry g) (through (free_granule g) d (each (entry_granules g d) (chain_from g d k s))) (chain_from g d k s)) w
