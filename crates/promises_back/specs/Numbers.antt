-- Bring back's refusals, each number exactly in its case
use Rattle.std.specs.Prelude.{◌≡◌, ◌↔◌, not, List, ℕ, T}
use Rattle.std.proofs.Math.Path.{refl}
use Rattle.std.proofs.Common.{sym, ◌∙◌, T_not}
use Rattle.std.proofs.Math.Dec.{not_T}
use Rattle.meaning.specs.Lists.{some}
use Rattle.meaning.specs.Layout.{is_slot, taken}
use Rattle.meaning.specs.Entries.{name_of}
use Rattle.meaning.specs.Chain.{owned}
use Rattle.meaning.specs.LookUp.{missing}
use Rattle.meaning.specs.BringBack.{bring_back, bring_back_refusals, whole}
use Rattle.meaning.specs.Plain.{File, Found, found, nothing, plain}
use Rattle.meaning.specs.declared.Geometry.{Geometry}
use Rattle.laws.specs.Kinds
use Rattle.lists.specs.Members.{In}
use Rattle.laws.specs.BringBack
use Rattle.laws.specs.BringBack.{Whole}
use Rattle.promises.specs.Promises.{Exactly}
use Rattle.promises.specs.Refusing
use Rattle.promises_back.specs.Statement.{back_table}

-- a name that is not missing has a file
named-iff : (g : Geometry) (d n : List ℕ) → T (not (missing g d n)) ↔ ((f : File) × (plain g d n ≡ found f))
named-iff g d n = (
  λ t. go (plain g d n) refl (T_not (missing g d n) t),
  λ x. not_T (missing g d n) (λ t. Refusing.found-not x.0 (sym x.1 ∙ (Refusing.missing-iff g d n).0 t)),
)
  where
    go : (p : Found) → plain g d n ≡ p → (T (missing g d n) → ⊥) → (f : File) × (plain g d n ≡ found f)
    go nothing e k = absurd (k ((Refusing.missing-iff g d n).1 e))
    go (found f) e k = (f, e)

module _ (g : Geometry) (d : List ℕ) (s : ℕ) where
  whole-iff : T (whole g d s) ↔ Whole g d s
  whole-iff = (BringBack.whole_says g d s, BringBack.says-whole g d s)

  some-iff : T (some (taken g d) (owned g d s)) ↔ ((n : ℕ) × In n (owned g d s) × T (taken g d n))
  some-iff = (Kinds.some_in (taken g d) (owned g d s), λ k. Kinds.in_some (taken g d) k.1 k.2)

  pub back-numbers : Exactly (bring_back g d s).0.refusal.number (back_table g d s)
  unfolding bring_back
  back-numbers = Refusing.exactly (bring_back_refusals g d s) (back_table g d s)
      (Refusing.disk-reading g d (Refusing.own_rows (bring_back_refusals g d s)) (Refusing.own_cases (back_table g d s)) (
        refl,
        λ x. Refusing.not_iff (is_slot g d s) (λ t. t, λ t. t),
        (
          refl,
          λ x. (λ t. t, λ t. t),
          (
            refl,
            λ x. (λ t. t, λ t. t),
            (refl, λ x. Refusing.not_iff (whole g d s) whole-iff, (refl, λ x. named-iff g d (name_of g d s), (refl, λ x. some-iff, tt))),
          ),
        ),
      )) tt
