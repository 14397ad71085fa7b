-- Images in which granules were taken, or entries brought back.
use mathlib.Core.Path.{◌≡◌, refl, ap, ◌∙◌}
use mathlib.Core.List.{List, [], ◌∷◌}
use Prim.Native.Nat.{ℕ, ◌+◌, ◌*◌, ◌≤◌, ◌<◌}
use native.Mathlib.Omega.{arith}
use lib.ListN.{length, get_or, set, length-set}
use lib.Seq.{get_or-set_other}
use Rattle.meaning.specs.Lists.{each, through}
use Rattle.meaning.specs.Bits.{with_bit}
use Rattle.meaning.specs.Layout.{granules, take_granule, directory_sectors, field, set_field, hit_at, entry_at}
use Rattle.meaning.specs.Entries.{entry_granules}
use Rattle.meaning.specs.BringBack.{back_entry}
use Rattle.meaning.specs.declared.Geometry.{Geometry}
use Rattle.layout.specs.Room.{Room, Slot}
use Rattle.seek.proofs.Frame.{Same, opened, same_refl, same-trans, same-take, same-room, same-entry}
use Rattle.space.proofs.Folds.{KeptFields, kept-room, kept_slot}
use Rattle.lists.specs.Members.{In}
use Rattle.back_taken.specs.Listed.{Listed, first_of}
use Rattle.back_taken.proofs.Steps.{Steps, first-steps, all-steps}
use Rattle.back_write.proofs.Done.{Done, done-start, done_more}
use Rattle.back_taken.proofs.OnDisk.{Under, under-entry}

module _ (g : Geometry) where
  pub same_taken : (d : List ℕ) (xs : List ℕ) → Room g d → Under (granules g) xs → Same g d (through (take_granule g) d xs)
  same_taken d [] r l = same_refl g d
  same_taken d (x ∷ xs) r l =
      let e = same-take g d x r (l x In.here) in
      same-trans g d (take_granule g d x) (through (take_granule g) (take_granule g d x) xs) r e
      (same_taken (take_granule g d x) xs (same-room g d (take_granule g d x) r e) (λ n i. l n (In.there i)))

  -- Granules taken, part by part: k parts are done, and HIT and entries are as they were
  pub record TakingBack (d : List ℕ) (whole : ℕ → List ℕ) (d' : List ℕ) (k n : ℕ) : Type 0 where
    pub done : Done (take_granule g) d whole d' k n
    pub same : Same g d d'

  pub taking-start : {whole part : ℕ → List ℕ} (d : List ℕ) (n : ℕ) → Steps whole part → TakingBack d whole d 0 n
  taking-start d n s = record { done = done-start s (take_granule g) d n; same = same_refl g d }

  pub taking-more : {whole part : ℕ → List ℕ} {d d' d'' : List ℕ} {k n : ℕ} → Steps whole part → Room g d → TakingBack d whole d' k n → k < n
      → Under (granules g) (part k) → d'' ≡ through (take_granule g) d' (part k) → TakingBack d whole d'' (k + 1) n
  taking-more {whole} {part} {d} {d'} {d''} {k} {n} s r t h u e =
      record {
        done = done_more s t.done h e;
        same = rw e (same-trans g d d' (through (take_granule g) d' (part k)) r t.same (same_taken d' (part k) (same-room g d d' r t.same) u));
      }

  -- the entries of a list
  pub taking-entry : {d d' d'' es : List ℕ} {k n : ℕ} → Room g d → Listed g d es n → TakingBack d (λ j. each (entry_granules g d) (first_of es j)) d' k n
      → k < n
      → d'' ≡ through (take_granule g) d' (entry_granules g d' (get_or es k 0)) → TakingBack d (λ j. each (entry_granules g d) (first_of es j)) d'' (k + 1) n
  taking-entry {d} {d'} {d''} {es} {k} {n} r l t h e =
      let o = l.entry k h in
      taking-more (all-steps (entry_granules g d) es) r t h (under-entry g d (get_or es k 0) o)
      (e ∙ ap (through (take_granule g) d') (same-entry g d d' r t.same (get_or es k 0) o.slot))

  -- Entries brought back -------------------------------------------------------------------------------------------------------

  back_long : (h : ℕ) (d : List ℕ) (s : ℕ) → length (back_entry g h d s) ≡ length d
  unfolding back_entry set_field
  back_long h d s = simp length-set

  back-other : (h : ℕ) (d : List ℕ) (s a : ℕ) → (a ≡ entry_at g s + 0 → ⊥) → (a ≡ hit_at g s → ⊥) → get_or (back_entry g h d s) a 0 ≡ get_or d a 0
  unfolding back_entry set_field
  back-other h d s a p q =
      get_or-set_other (set d (entry_at g s + 0) (with_bit 4 (field g d s 0))) (hit_at g s) a h 0 q
      ∙ get_or-set_other d (entry_at g s + 0) a (with_bit 4 (field g d s 0)) 0 p

  back-sectors : (h : ℕ) (d : List ℕ) (s : ℕ) → Room g d → Slot g d s → directory_sectors g (back_entry g h d s) ≡ directory_sectors g d
  back-sectors h d s r sl =
      let l = sl.low in let m = sl.held in let t = r.thirty in
      opened g d (back_entry g h d s) (back-other h d s (256 * (g.start + 1) + 31) (λ z. omega arith) (λ z. omega arith))

  back_field : (h : ℕ) (d : List ℕ) (s x k : ℕ) → Slot g d s → Slot g d x → 1 ≤ k → k < 32 → field g (back_entry g h d s) x k ≡ field g d x k
  unfolding field
  back_field h d s x k sl xl a b =
      let l = sl.low in let m = xl.low in
      back-other h d s (entry_at g x + k) (λ z. omega arith) (λ z. omega arith)

  pub record Backing (h : ℕ) (d es d' : List ℕ) (k n : ℕ) : Type 0 where
    pub done : Done (back_entry g h) d (first_of es) d' k n
    pub kept : KeptFields g d d'

  pub backing-start : (h : ℕ) (d es : List ℕ) (n : ℕ) → Backing h d es d 0 n
  backing-start h d es n =
      record {
        done = done-start (first-steps es) (back_entry g h) d n;
        kept = record { long = refl; sectors = refl; fields = λ x k sl a b. refl };
      }

  pub backing-more : {h : ℕ} {d es d' d'' : List ℕ} {k n : ℕ} → Room g d → Listed g d es n → Backing h d es d' k n → k < n → d'' ≡ back_entry g h d'
      (get_or es k 0) → Backing h d es d'' (k + 1) n
  backing-more {h} {d} {es} {d'} {d''} {k} {n} r l b lt e =
      let s = get_or es k 0 in
      let sl = kept_slot g b.kept (l.entry k lt).slot in
      let r' = kept-room g r b.kept in
      record {
        done = done_more (first-steps es) b.done lt e;
        kept =
            rw e (record {
              long = back_long h d' s ∙ b.kept.long;
              sectors = back-sectors h d' s r' sl ∙ b.kept.sectors;
              fields = λ x j xl p q. back_field h d' s x j sl (kept_slot g b.kept xl) p q ∙ b.kept.fields x j xl p q;
            });
      }
