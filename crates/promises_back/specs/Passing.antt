-- What a bring back that was accepted has passed, and that what passes is accepted
use Rattle.std.specs.Prelude.{◌≡◌, Bool, not, List, [], ◌∷◌, ℕ, length, T}
use Rattle.std.proofs.Math.Path.{refl}
use Rattle.std.proofs.Common.{◌∙◌, arith, T_not}
use Rattle.std.proofs.Math.Bool.{true, false}
use Rattle.std.proofs.Math.Dec.{not_T}
use Rattle.meaning.specs.Refusal.{unplaced, beside}
use Rattle.meaning.specs.Lists.{some}
use Rattle.meaning.specs.Layout.{fits_geometry, is_slot, taken}
use Rattle.meaning.specs.Entries.{in_use, system, name_of}
use Rattle.meaning.specs.Chain.{chain, owned}
use Rattle.meaning.specs.Consistent.{consistent}
use Rattle.meaning.specs.Refusals.{first}
use Rattle.meaning.specs.LookUp.{missing}
use Rattle.meaning.specs.BringBack.{bring_back, bring_back_refusals, brought_back, whole, name_in_use}
use Rattle.meaning.specs.declared.Geometry.{Geometry}
use Rattle.laws.specs.Kinds.{some_in, in_some}
use Rattle.lists.specs.Members
use Rattle.laws.specs.Facts.{Sound}
use Rattle.laws.specs.Places
use Rattle.laws.specs.Named
use Rattle.laws.specs.Passed.{passed, yes-T, disk-passed, disk-passes, served-check}
use Rattle.laws.specs.BringBack
use Rattle.laws.specs.BringBack.{Back}
use Rattle.promises.specs.CreateMeans

-- some member of a list passes
pub record Accepted (g : Geometry) (d : List ℕ) (s : ℕ) : Type 0 where
  pub fits : Places.Fits g d
  pub sound : Sound g d
  pub back : Back g d s

module _ (g : Geometry) (d : List ℕ) (s : ℕ) where
  accepted : first (bring_back_refusals g d s) ≡ 0 → Accepted g d s
  accepted e =
      let p = disk-passed g d _ e in
      let p₃ = passed 12 _ _ (omega arith) p.1 in
      let p₄ = passed 17 _ _ (omega arith) p₃.1 in
      let p₅ = passed 6 _ _ (omega arith) p₄.1 in
      let p₆ = passed 18 _ _ (omega arith) p₅.1 in
      let p₇ = passed 19 _ _ (omega arith) p₆.1 in
      let p₈ = passed 20 _ _ (omega arith) p₇.1 in
      let c = p.0.sound in
      record {
        fits = Places.fits g d p.0.fits;
        sound = c;
        back = record {
          slot = yes-T (is_slot g d s) p₃.0;
          dead = p₄.0;
          user = not_T (system g d s) p₅.0;
          whole' = BringBack.whole_says g d s (yes-T (whole g d s) p₆.0);
          new = CreateMeans.none-missing g d c (name_of g d s) (yes-T (missing g d (name_of g d s)) p₇.0);
          free = λ n i t. p₈.0 (in_some (taken g d) i t);
        };
      }

  pub back-accepted : (bring_back g d s).0.refusal.number ≡ 0 → Accepted g d s
  unfolding bring_back
  back-accepted e = accepted e

  skip : (n : ℕ) (b : Bool) (cs : List (ℕ × Bool)) → (T b → ⊥) → first cs ≡ 0 → first ((n, b) ∷ cs) ≡ 0
  unfolding first
  skip n true cs k e = absurd (k tt)
  skip n false cs k e = e

  no-not : (b : Bool) → T b → T (not b) → ⊥
  no-not b t u = T_not b u t

  unnamed : Back g d s → T (missing g d (name_of g d s))
  unnamed w = rw (Named.none_named g d (name_of g d s) w.new) tt

  -- what has passed is accepted
  none : first [] ≡ 0
  unfolding first
  none = refl

  pub accepts : T (fits_geometry g d) → T (consistent g d) → Back g d s → first (bring_back_refusals g d s) ≡ 0
  accepts f c w =
      disk-passes g d _ (Members.T_true f) (Members.T_true c) ∙ skip 12 (not (is_slot g d s)) _ (no-not (is_slot g d s) w.slot)
      (skip 17 (in_use g d s) _ w.dead (skip 6 (system g d s) _ (T_not (system g d s) w.user)
      (skip 18 (not (whole g d s)) _ (no-not (whole g d s) (BringBack.says-whole g d s w.whole'))
      (skip 19 (name_in_use g d s) _ (no-not (missing g d (name_of g d s)) (unnamed w))
      (skip 20 (some (taken g d) (owned g d s)) [] (λ t. let k = some_in (taken g d) (owned g d s) t in w.free k.0 k.1 k.2) none)))))

  -- the whole answer, where nothing is refused
  pub answers : first (bring_back_refusals g d s) ≡ 0
      → bring_back g d s ≡ (record { refusal = unplaced 0; slots = length (chain g d s); granules = length (owned g d s) }, brought_back g d s)
  unfolding bring_back beside
  answers e = rw (e, served-check g d (disk-passed g d _ e).0) refl
