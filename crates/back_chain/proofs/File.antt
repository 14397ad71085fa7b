-- Whether a killed file is whole.
use Rattle.std.specs.Prelude.{Option, Some, None}
use mathlib.Core.Path.{◌≡◌, refl, sym, ◌∙◌}
use mathlib.Core.List.{List}
use mathlib.Core.Bool.{Bool, true, false}
use Prim.Native.Nat.{ℕ, ◌-◌, ◌*◌}
use lib.ListN.{length}
use Rattle.meaning.specs.Bits.{bit}
use Rattle.meaning.specs.Layout.{field, slots, directory_sectors}
use Rattle.meaning.specs.Chain.{chain, owned}
use Rattle.meaning.specs.Consistent.{name_holds, size_holds}
use Rattle.meaning.specs.BringBack.{whole}
use Rattle.meaning.specs.declared.Geometry.{Geometry}
use Rattle.layout.specs.Room.{Room}
use Rattle.lists.specs.Tests.{all-at, all_yes, all-no, all_none, not_yes, not-no, not-both, all-out}
use Rattle.seek.proofs.SeekSteps.{slots_length}
use Rattle.back_chain.specs.Line.{Lined, Wholly}
use Rattle.back_chain.specs.declared.Walked.{Walked}

module _ (g : Geometry) (d : List ℕ) (s : ℕ) where
  pub nothing-whole : {es : List ℕ} → whole g d s ≡ false → Wholly g d s es None
  nothing-whole h = record { answer = sym h; written = tt }

  pub by-extension : bit 7 (field g d s 0) ≡ true → whole g d s ≡ false
  unfolding whole
  by-extension h = all-no (not_yes h) _

  pub by-name : name_holds g d s ≡ false → whole g d s ≡ false
  unfolding whole
  by-name h = all-out _ 1 h

  pub by_size : size_holds g d s ≡ false → whole g d s ≡ false
  unfolding whole
  by_size h = all-out _ 5 h

  -- the walk goes along 01's chain
  pub lined : {k : ℕ} {es : List ℕ} {r : Option Walked} → Room g d → k ≡ 8 * (directory_sectors g d - 2) → Lined g d k s es r
      → Lined g d (length (slots g d)) s es r
  lined {k} {es} {r} rm q l =
      let w : k ≡ length (slots g d) = q ∙ sym (slots_length g d rm.ten rm.thirty) in
      rw w at l

  pub by-line : {es : List ℕ} → Lined g d (length (slots g d)) s es None → whole g d s ≡ false
  unfolding whole chain owned
  by-line l = by (whole g d s) refl
    where
      by : (t : Bool) → whole g d s ≡ t → whole g d s ≡ false
      by true q = not-both (l.answer ∙ all_yes (all-at _ q 2) _ ∙ all_yes (all-at _ q 3) _ ∙ all_yes (all-at _ q 4) _ ∙ all_none) refl
      by false q = q

  pub lined-own : {es : List ℕ} {r : Walked} → Lined g d (length (slots g d)) s es (Some r) → r.granules ≡ length (owned g d s)
  unfolding chain owned
  lined-own l = l.written.granules-are

  pub is_whole : {es : List ℕ} {r : Walked} → bit 7 (field g d s 0) ≡ false → name_holds g d s ≡ true → Lined g d (length (slots g d)) s es (Some r)
      → size_holds g d s ≡ true → Wholly g d s es (Some r)
  unfolding whole chain owned
  is_whole x n l z =
      let a = sym l.answer in
      record {
        answer = sym (all_yes (not-no x) _ ∙ all_yes n _ ∙ all_yes (all-at _ a 0) _ ∙ all_yes (all-at _ a 1) _ ∙ all_yes (all-at _ a 2) _ ∙ all_yes z _ ∙
            all_none);
        written = l.written;
      }
