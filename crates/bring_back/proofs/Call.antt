-- The call: the refusals, and what is left.
use mathlib.Core.Path.{◌≡◌, refl, sym, ap, subst, ◌∙◌}
use mathlib.Core.List.{List, [], ◌∷◌}
use mathlib.Core.Bool.{true, false, not}
use Prim.Native.Nat.{ℕ, ◌≤◌, ◌<◌}
use native.Mathlib.Omega.{arith}
use lib.ListN.{length, take}
use Rattle.std.proofs.lemmas.List.{length-take-le, get_or-take}
use lib.Dec.{eqb}
use borrow.Author.Tests.{ne_eqb}
use Rattle.meaning.specs.Lists.{each, some, through}
use Rattle.meaning.specs.Layout.{is_slot, taken, take_granule}
use Rattle.meaning.specs.Names.{hash}
use Rattle.meaning.specs.Entries.{in_use, system, name_of, entry_granules}
use Rattle.meaning.specs.Chain.{chain, owned}
use Rattle.meaning.specs.Refusals.{refusal, first, check}
use Rattle.meaning.specs.BringBack
use Rattle.meaning.specs.BringBack.{whole, back_entry, bring_back}
use Rattle.meaning.specs.declared.Geometry.{Geometry}
use Rattle.meaning.specs.declared.BroughtBack.{BroughtBack}
use Rattle.meaning.specs.declared.Refusal.{Refusal}
use Rattle.layout.specs.Room.{Room}
use Rattle.lists.specs.Tests.{not_yes, not-no, first-hit, first-skip, first-none}
use Rattle.passed.proofs.Checked.{check-stop, check-then}
use Rattle.seek.proofs.Frame.{Same}
use Rattle.look_up.specs.Found.{Finds}
use Rattle.look_up.specs.declared.Found.{Found}
use Rattle.space.specs.OnDisk.{RunsOnDisk}
use Rattle.back_taken.specs.Listed.{first_of, Listed}
use Rattle.back_taken.proofs.Steps.{first-take}
use Rattle.back_chain.specs.Line.{Written}
use Rattle.bring_back.specs.Plan.{Plans, Refuses}
use Rattle.std.specs.Prelude.{Option, Some, None, is_some}
use Rattle.std.specs.Option.{option_to_list}
use Rattle.meaning.specs.LookUp.{named}
use Rattle.bring_back.specs.declared.Planned.{Planned}
use Rattle.back_chain.proofs.First.{first-length}
use Rattle.back_write.proofs.Frame.{same_taken}
use Rattle.back_taken.proofs.OnDisk.{same-on-disk, under-each, listed_in}

-- the first n of the entries written down, as a slice
pub slice-listed : {g : Geometry} {es d' : List ℕ} {n : ℕ} → Listed g d' es n → n ≤ length es → Listed g d' (take n es) (length (take n es))
slice-listed {g} {es} {d'} {n} w h =
    let e = length-take-le n es h in
    record {
      few = rw e w.few;
      entry = λ j l. let k : j < n = omega (arith, e) in subst (λ (x : ℕ). RunsOnDisk g d' x) (sym (get_or-take n es j 0 k)) (w.entry j k);
    }

module _ (g : Geometry) (d : List ℕ) (s : ℕ) where
  -- The refusals -------------------------------------------------------------------------------------------------------------

  abbrev number : ℕ
  number = first (BringBack.bring_back_refusals g d s)

  pub refuses : {n : ℕ} {r : Refusal} → r ≡ refusal g d n → n ≡ first (BringBack.bring_back_refusals g d s) → (n ≡ 0 → ⊥) → Refuses g d s r
  refuses e q z = record { told = e ∙ ap (refusal g d) q; refused = λ y. z (q ∙ y) }

  pub at-check : {k : Refusal} → k ≡ check g d → (k.number ≡ 0 → ⊥) → k.number ≡ first (BringBack.bring_back_refusals g d s)
  at-check e z = check-stop g d _ e z

  module _ {k : Refusal} (e : k ≡ check g d) (z : k.number ≡ 0) where
    pub at_slot : is_slot g d s ≡ false → 12 ≡ first (BringBack.bring_back_refusals g d s)
    at_slot a = sym (check-then g d _ e z ∙ first-hit (not-no a) 12 _)

    pub at-use : is_slot g d s ≡ true → in_use g d s ≡ true → 17 ≡ first (BringBack.bring_back_refusals g d s)
    at-use a b = sym (check-then g d _ e z ∙ first-skip (not_yes a) 12 _ ∙ first-hit b 17 _)

    pub at-system : is_slot g d s ≡ true → in_use g d s ≡ false → system g d s ≡ true → 6 ≡ first (BringBack.bring_back_refusals g d s)
    at-system a b c = sym (check-then g d _ e z ∙ first-skip (not_yes a) 12 _ ∙ first-skip b 17 _ ∙ first-hit c 6 _)

    module _ (a : is_slot g d s ≡ true) (b : in_use g d s ≡ false) (c : system g d s ≡ false) where
      so_far : first (BringBack.bring_back_refusals g d s) ≡ first ((18, not (whole g d s)) ∷ (19, BringBack.name_in_use g d s) ∷
          (20, some (taken g d) (owned g d s)) ∷ [])
      so_far = check-then g d _ e z ∙ first-skip (not_yes a) 12 _ ∙ first-skip b 17 _ ∙ first-skip c 6 _

      pub at-whole : whole g d s ≡ false → 18 ≡ first (BringBack.bring_back_refusals g d s)
      at-whole w = sym (so_far ∙ first-hit (not-no w) 18 _)

      pub at_name : whole g d s ≡ true → BringBack.name_in_use g d s ≡ true → 19 ≡ first (BringBack.bring_back_refusals g d s)
      at_name w k = sym (so_far ∙ first-skip (not_yes w) 18 _ ∙ first-hit k 19 _)

      pub at-taken : whole g d s ≡ true → BringBack.name_in_use g d s ≡ false → some (taken g d) (owned g d s) ≡ true → 20 ≡ first
          (BringBack.bring_back_refusals g d s)
      at-taken w k t = sym (so_far ∙ first-skip (not_yes w) 18 _ ∙ first-skip k 19 _ ∙ first-hit t 20 _)

      pub at_none : whole g d s ≡ true → BringBack.name_in_use g d s ≡ false → some (taken g d) (owned g d s) ≡ false → 0 ≡ first
          (BringBack.bring_back_refusals g d s)
      at_none w k t = sym (so_far ∙ first-skip (not_yes w) 18 _ ∙ first-skip k 19 _ ∙ first-skip t 20 _ ∙ first-none)

  -- the name is looked up
  pub name_told : {n : List ℕ} {f : Found} → n ≡ name_of g d s → Finds g d n f → is_some f.slot ≡ BringBack.name_in_use g d s
  name_told {n} {f} e w = by f.slot ∙ ap (λ (l : List ℕ). not (eqb (length l) 0)) (sym w.slot ∙ ap (named g d) e)
    where
      by : (o : Option ℕ) → is_some o ≡ not (eqb (length (option_to_list o)) 0)
      by None = refl
      by (Some x) = refl

  pub written-fits : {es : List ℕ} {n size : ℕ} → Written g d (chain g d s) es n size → length es ≡ 256 → n ≤ length es
  written-fits w e = let h = w.listed.few in omega arith

  -- the slice of the entries written down: it is the chain
  pub slice-is : {es : List ℕ} {n size : ℕ} → Written g d (chain g d s) es n size → n ≤ length es → take n es ≡ chain g d s
  slice-is {es} {n} w h = sym (first-take es n h) ∙ sym w.entries-are

  pub taken_is : {es : List ℕ} {n size : ℕ} → Written g d (chain g d s) es n size → n ≤ length es → some (taken g d)
      (each (entry_granules g d) (take n es)) ≡ some
      (taken g d) (owned g d s)
  unfolding owned
  taken_is w h = ap (λ (l : List ℕ). some (taken g d) (each (entry_granules g d) l)) (slice-is w h)

  -- Answer and image ---------------------------------------------------------------------------------------------------------

  pub refused : {c : Refusal} → Refuses g d s c
      → ◌≡◌ {A = BroughtBack × List ℕ} (record { refusal = c; slots = 0; granules = 0 }, d) (bring_back g d s)
  unfolding bring_back
  refused k = rw (ne_eqb number 0 k.refused, k.told)

  pub listed_then : {es d' : List ℕ} {n size : ℕ} → Room g d → Written g d (chain g d s) es n size → Same g d d' → Listed g d' es n
  listed_then r w e = record { few = w.listed.few; entry = λ j l. same-on-disk g r e (w.listed.entry j l) }

  pub taken-same : {es d' : List ℕ} {n size : ℕ} → Room g d → Written g d (chain g d s) es n size → n ≤ length es → d' ≡ through (take_granule g) d
      (each (entry_granules g d) (take n es)) → Same g d d'
  taken-same {es} {d'} {n} {size} r w h e =
      rw (e, ← first-take es n h) (same_taken g d (each (entry_granules g d) (first_of es n)) r
      (under-each g d (first_of es n) (listed_in g d es n w.listed.entry)))

  -- the image with the file brought back, by the entries written down
  back_is : {es d' d'' : List ℕ} {n size h : ℕ} → Written g d (chain g d s) es n size → n ≤ length es → h ≡ hash (name_of g d s) → d' ≡ through
      (take_granule g) d
      (each (entry_granules g d) (take n es))
      → d'' ≡ through (back_entry g h) d' (take n es) → d'' ≡ BringBack.brought_back g d s
  unfolding owned
  back_is {es} {d'} {d''} {n} {size} {h} w b q e f =
      f ∙ ap (λ (l : List ℕ). through (back_entry g h) l (take n es)) e
      ∙ ap (λ (k : ℕ). through (back_entry g k) (through (take_granule g) d (each (entry_granules g d) (take n es))) (take n es)) q
      ∙ ap (λ (l : List ℕ). through (back_entry g (hash (name_of g d s))) (through (take_granule g) d (each (entry_granules g d) l)) l) (slice-is w b)

  slots-are : {es : List ℕ} {n size : ℕ} → Written g d (chain g d s) es n size → n ≡ length (chain g d s)
  slots-are {es} {n} w = sym (first-length es n) ∙ ap {B = ℕ} length (sym w.entries-are)

  own-are : {es : List ℕ} {n size : ℕ} → Written g d (chain g d s) es n size → size ≡ length (owned g d s)
  unfolding owned
  own-are w = w.granules-are

  pub accepted : {es d' d'' : List ℕ} {p : Planned} {c : Refusal} → c ≡ refusal g d 0 → Plans g d s es p → p.slots ≤ length es → d' ≡ through (take_granule g) d
      (each (entry_granules g d) (take p.slots es))
      → d'' ≡ through (back_entry g p.hash) d' (take p.slots es)
      → ◌≡◌ {A = BroughtBack × List ℕ} (record { refusal = c; slots = p.slots; granules = p.granules }, d'') (bring_back g d s)
  unfolding bring_back
  accepted {es} {d'} {d''} {p} y k h e f =
      let w = k.written in let a = slots-are w in let b = own-are w in
      rw (← k.number_is, ← a, ← b, back_is w h k.hash-is e f, y)
