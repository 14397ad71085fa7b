-- What a call that was accepted has passed
use Rattle.std.specs.Prelude.{◌≡◌, refl, ◌⊎◌, Bool, true, false, not, List, [], ◌∷◌, ◌++◌, ℕ, T, ltb}
use Rattle.std.proofs.Common.{sym, ◌∙◌, inl, inr, arith}
use Rattle.std.proofs.Math.Dec.{not_T}
use Rattle.meaning.specs.Lists.{same, all}
use Rattle.meaning.specs.Layout.{fits_geometry, is_slot}
use Rattle.meaning.specs.Entries.{system, in_use_primary, name_of}
use Rattle.meaning.specs.Consistent.{consistent}
use Rattle.meaning.specs.Refusal.{unplaced, carried}
use Rattle.meaning.specs.Fault.{fault}
use Rattle.meaning.specs.Refusals.{first, check, fault_numbers, fault_refusals, disk_refusals, stale, protected}
use Rattle.meaning.specs.Handles.{fresh}
use Rattle.meaning.specs.declared.Geometry.{Geometry}
use Rattle.meaning.specs.declared.Handle.{Handle}
use Rattle.lists.specs.Members
use Rattle.lists.specs.Members.{In}
use Rattle.lists.specs.First
use Rattle.laws.specs.Facts
use Rattle.laws.specs.Fault
use Rattle.laws.specs.Carried.{carried-own, carried_other}
use Rattle.laws.specs.Places
use Rattle.laws.specs.Words.{words}
pub use Rattle.lists.specs.First.{passed, yes-T}

-- refusals 1 and 21 to 30 passed
pub record Served (g : Geometry) (d : List ℕ) : Type 0 where
  pub fits : T (fits_geometry g d)
  pub sound : Facts.Sound g d

pub disk-passed : (g : Geometry) (d : List ℕ) (cs : List (ℕ × Bool)) → first (disk_refusals g d cs) ≡ 0 → Served g d × (first cs ≡ 0)
disk-passed g d cs e = go (passed 1 _ _ (omega arith) e) (Members.in-cons (Fault.numbered g d))
  where
    n : ℕ
    n = (fault g d).number

    go : (T (not (fits_geometry g d)) → ⊥) × (first (fault_refusals g d ++ cs) ≡ 0) → (n ≡ 0) ⊎ In n fault_numbers → Served g d × (first cs ≡ 0)
    go p (inl z) = (
      record { fits = yes-T (fits_geometry g d) p.0; sound = Facts.sound g d ((Fault.no_number g d).0 z) },
      sym (First.number-miss n fault_numbers cs (λ i. let k = Members.count-in n 21 10 i in omega (arith, k, z))) ∙ p.1,
    )
    go p (inr i) = let k = Members.count-in n 21 10 i in absurd (omega (arith, k, sym (First.number-hit n fault_numbers cs i) ∙ p.1))

pub check-passed : (g : Geometry) (d : List ℕ) → (check g d).number ≡ 0 → Served g d
unfolding check
check-passed g d e = (disk-passed g d [] e).0

-- and the other way: on a consistent disk they come to nothing
pub disk-passes : (g : Geometry) (d : List ℕ) (cs : List (ℕ × Bool)) → fits_geometry g d ≡ true → consistent g d ≡ true → first (disk_refusals g d cs) ≡ first
    cs
unfolding first
disk-passes g d cs f c = rw f (First.number-miss (fault g d).number fault_numbers cs (λ i.
    let k = Members.count-in (fault g d).number 21 10 i in omega (arith, k, (Fault.no_number g d).1 c)))

pub check-none : (g : Geometry) (d : List ℕ) → fits_geometry g d ≡ true → consistent g d ≡ true → check g d ≡ unplaced 0
unfolding check first
check-none g d f c = rw (disk-passes g d [] f c, (Fault.no-fault g d).1 c) (carried-own (unplaced 0) refl)

-- what has passed the check leaves nothing to tell
pub served-check : (g : Geometry) (d : List ℕ) → Served g d → check g d ≡ unplaced 0
served-check g d w = check-none g d (Members.T_true w.fits) (Facts.back g d w.sound)

-- Where the geometry or the length does not fit, the check answers 1, and no slot with it.
pub check-one : (g : Geometry) (d : List ℕ) → fits_geometry g d ≡ false → check g d ≡ unplaced 1
unfolding check first
check-one g d f = rw f (carried_other (fault g d) (λ e. go e (Members.in-cons (Fault.numbered g d))))
  where
    go : 1 ≡ (fault g d).number → ((fault g d).number ≡ 0) ⊎ In (fault g d).number fault_numbers → ⊥
    go e (inl z) = omega (arith, e, z)
    go e (inr i) = let k = Members.count-in (fault g d).number 21 10 i in omega (arith, e, k)

-- where they do, the check answers the fault's number
pub check-number : (g : Geometry) (d : List ℕ) → fits_geometry g d ≡ true → (check g d).number ≡ (fault g d).number
unfolding check first
check-number g d f = rw f (go (Members.in-cons (Fault.numbered g d)))
  where
    n : ℕ
    n = (fault g d).number

    go : (n ≡ 0) ⊎ In n fault_numbers → first (fault_refusals g d ++ []) ≡ n
    go (inl z) = First.number-miss n fault_numbers [] (λ i. let k = Members.count-in n 21 10 i in omega (arith, k, z)) ∙ sym z
    go (inr i) = First.number-hit n fault_numbers [] i

-- and the fault's slot with it
pub check-fault : (g : Geometry) (d : List ℕ) → fits_geometry g d ≡ true → check g d ≡ fault g d
unfolding check
check-fault g d f = carried-own (fault g d) (check-number g d f)

-- a handle that is not stale, and may write
pub record Holds (g : Geometry) (d : List ℕ) (h : Handle) : Type 0 where
  pub fits : Places.Fits g d
  pub sound : Facts.Sound g d
  pub file : Facts.IsFile g d h.slot
  pub name' : name_of g d h.slot ≡ h.name
  pub user : T (not (system g d h.slot))

-- what every call by a handle that writes has passed
pub holds : (g : Geometry) (d : List ℕ) (h : Handle) (b : Bool) (most : ℕ) (cs : List (ℕ × Bool))
    → first (disk_refusals g d ((12, b) ∷ stale g d h ∷ protected g d most h ∷ cs)) ≡ 0 → Holds g d h × (first cs ≡ 0)
unfolding words
holds g d h b most cs e =
    let p = disk-passed g d _ e in
    let p₃ = passed 12 _ _ (omega arith) p.1 in
    let p₄ = passed 7 _ _ (omega arith) p₃.1 in
    let p₅ = passed 6 _ _ (omega arith) p₄.1 in
    let live : T (fresh g d h) = yes-T (fresh g d h) p₄.0 in
    let t : T (all (in_use_primary g d h.slot ∷ same (name_of g d h.slot) h.name ∷ [])) = Members.and_r (is_slot g d h.slot)
    (all (in_use_primary g d h.slot ∷ same (name_of g d h.slot) h.name ∷ [])) live in (
      record {
        fits = Places.fits g d p.0.fits;
        sound = p.0.sound;
        file = record {
          slot = Members.and_l (is_slot g d h.slot) (all (in_use_primary g d h.slot ∷ same (name_of g d h.slot) h.name ∷ [])) live;
          primary' = Members.and_l (in_use_primary g d h.slot) (all (same (name_of g d h.slot) h.name ∷ [])) t;
        };
        name' = Members.same-eq _ _ (Members.all-second (in_use_primary g d h.slot) (same (name_of g d h.slot) h.name) t);
        user = not_T (system g d h.slot) (λ u. p₅.0 (Members.any-r (ltb most h.level) (system g d h.slot) u));
      },
      p₅.1,
    )
