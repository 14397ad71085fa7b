-- A disk without a fault (02 §2), as statements about every slot, and back to the test.
use Rattle.std.specs.Prelude.{◌≡◌, ◌⊎◌, ℕ, T, eqb}
use Rattle.std.proofs.Math.Path.{refl}
use Rattle.std.proofs.Common.{inl, inr, arith, eqb→eq}
use Rattle.std.proofs.Math.Bool.{cond}
use mathlib.Core.List.{List, [], ◌∷◌}
use Rattle.meaning.specs.Layout.{is_slot, slots}
use Rattle.meaning.specs.Consistent.{length_holds, directory_taken}
use Rattle.meaning.specs.Refusals.{first}
use Rattle.meaning.specs.Fault.{hit_fault, name_fault, duplicate_fault, chain_fault, run_fault, gat_fault, shared_fault, size_fault, directory_fault}
use Rattle.meaning.specs.Fault.{fault_at, lowest}
use Rattle.meaning.specs.Fault.{fault}
use Rattle.meaning.specs.Refusal.{unplaced}
use Rattle.meaning.specs.declared.Geometry.{Geometry}
use Rattle.meaning.specs.declared.Refusal.{Refusal}
use Rattle.lists.specs.Members
use Rattle.lists.specs.Members.{In}
use Rattle.laws.specs.Facts
use Rattle.lists.specs.First.{passed}

-- no kind of fault at slot s
pub record Clear (g : Geometry) (d : List ℕ) (s : ℕ) : Type 0 where
  pub hit' : T (hit_fault g d s) → ⊥
  pub name : T (name_fault g d s) → ⊥
  pub duplicate : T (duplicate_fault g d s) → ⊥
  pub chain' : T (chain_fault g d s) → ⊥
  pub run : T (run_fault g d s) → ⊥
  pub gat : T (gat_fault g d s) → ⊥
  pub shared : T (shared_fault g d s) → ⊥
  pub size : T (size_fault g d s) → ⊥
  pub directory : T (directory_fault g d s) → ⊥

-- no fault at all
pub record Faultless (g : Geometry) (d : List ℕ) : Type 0 where
  pub dir : T (length_holds g d)
  pub clear : (s : ℕ) → T (is_slot g d s) → Clear g d s
  pub taken' : T (directory_taken g d)

module _ (g : Geometry) (d : List ℕ) where
  clear_at : (s : ℕ) → fault_at g d s ≡ 0 → Clear g d s
  unfolding fault_at
  clear_at s e =
      let a = passed 22 (hit_fault g d s) _ (omega arith) e in
      let b = passed 23 (name_fault g d s) _ (omega arith) a.1 in
      let c = passed 24 (duplicate_fault g d s) _ (omega arith) b.1 in
      let h = passed 25 (chain_fault g d s) _ (omega arith) c.1 in
      let i = passed 26 (run_fault g d s) _ (omega arith) h.1 in
      let j = passed 27 (gat_fault g d s) _ (omega arith) i.1 in
      let k = passed 28 (shared_fault g d s) _ (omega arith) j.1 in
      let l = passed 29 (size_fault g d s) _ (omega arith) k.1 in
      let m = passed 30 (directory_fault g d s) _ (omega arith) l.1 in
      record { hit' = a.0; name = b.0; duplicate = c.0; chain' = h.0; run = i.0; gat = j.0; shared = k.0; size = l.0; directory = m.0 }

  at_clear : (s : ℕ) → Clear g d s → fault_at g d s ≡ 0
  unfolding fault_at first
  at_clear s c =
      rw (
        Members.no_false {b = hit_fault g d s} c.hit',
        Members.no_false {b = name_fault g d s} c.name,
        Members.no_false {b = duplicate_fault g d s} c.duplicate,
        Members.no_false {b = chain_fault g d s} c.chain',
        Members.no_false {b = run_fault g d s} c.run,
        Members.no_false {b = gat_fault g d s} c.gat,
        Members.no_false {b = shared_fault g d s} c.shared,
        Members.no_false {b = size_fault g d s} c.size,
        Members.no_false {b = directory_fault g d s} c.directory,
      )

  lowest-none : (after : Refusal) (ss : List ℕ) → (lowest g d after ss).number ≡ 0 → ((s : ℕ) → In s ss → fault_at g d s ≡ 0) × (after.number ≡ 0)
  unfolding lowest
  lowest-none after [] e = (λ s i. Members.none_in i, e)
  lowest-none after (s ∷ ss) e = go (Members.decide (eqb (fault_at g d s) 0)) (lowest-none after ss)
    where
      rest : Refusal
      rest = lowest g d after ss

      go : Members.Test (eqb (fault_at g d s) 0) → (rest.number ≡ 0 → ((s : ℕ) → In s ss → fault_at g d s ≡ 0) × (after.number ≡ 0))
          → ((x : ℕ) → In x (s ∷ ss) → fault_at g d x ≡ 0) × (after.number ≡ 0)
      go (Members.Test.holds t) r =
          let k = r (rw (Members.T_true {b = eqb (fault_at g d s) 0} t) at e) in
          (λ x i. one x (Members.in-cons i) k.0, k.1)
        where
          one : (x : ℕ) → (x ≡ s) ⊎ In x ss → ((s : ℕ) → In s ss → fault_at g d s ≡ 0) → fault_at g d x ≡ 0
          one x (inl q) h = rw q (eqb→eq _ _ t)
          one x (inr j) h = h x j
      go (Members.Test.fails t) r = absurd (t (Members.eq-T (rw (Members.no_false {b = eqb (fault_at g d s) 0} t) at e)))

  none-lowest : (after : Refusal) (ss : List ℕ) → ((s : ℕ) → In s ss → fault_at g d s ≡ 0) → lowest g d after ss ≡ after
  unfolding lowest
  none-lowest after [] f = refl
  none-lowest after (s ∷ ss) f = rw (f s Members.In.here) (none-lowest after ss (λ x i. f x (Members.In.there i)))

  pub faultless : (fault g d).number ≡ 0 → Faultless g d
  unfolding fault
  faultless e = go (Members.decide (length_holds g d)) (Members.decide (directory_taken g d))
    where
      after : Refusal
      after = cond (directory_taken g d) (unplaced 0) (unplaced 30)

      go : Members.Test (length_holds g d) → Members.Test (directory_taken g d) → Faultless g d
      go (Members.Test.fails t) u = absurd (let q : ◌≡◌ {A = ℕ} 21 0 = rw (Members.no_false {b = length_holds g d} t) at e in omega (arith, q))
      go (Members.Test.holds t) (Members.Test.fails u) =
          let k = lowest-none after (slots g d) (rw (Members.T_true {b = length_holds g d} t) at e) in
          absurd (let q : ◌≡◌ {A = ℕ} 30 0 = rw (Members.no_false {b = directory_taken g d} u) at k.1 in omega (arith, q))
      go (Members.Test.holds t) (Members.Test.holds u) =
          let k = lowest-none after (slots g d) (rw (Members.T_true {b = length_holds g d} t) at e) in
          record { dir = t; clear = λ s i. clear_at s (k.0 s (Facts.in-slots g d s i)); taken' = u }

  -- then the fault is none
  pub none_of : Faultless g d → fault g d ≡ unplaced 0
  unfolding fault
  none_of c =
      rw (Members.T_true {b = length_holds g d} c.dir, Members.T_true {b = directory_taken g d} c.taken')
      (none-lowest (unplaced 0) (slots g d) (λ s i. at_clear s (c.clear s (Facts.slots-in g d s i))))
