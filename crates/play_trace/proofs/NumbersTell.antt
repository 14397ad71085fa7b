-- Laws of one call: what its numbers tell.
use mathlib.Core.Path.{◌≡◌, refl, sym, ap, ◌∙◌}
use mathlib.Core.Bool.{Bool, true, false, not, cond}
use mathlib.Core.List.{List, [], ◌∷◌}
use Prim.Native.Nat.{ℕ}
use lib.Dec.{eqb, ltb}
use borrow.Author.Tests.{eq-eqb, ne_eqb}
use Rattle.play_trace.specs.Steps.{Field, the_operation, the_file, the_position, the_length, the_fill, the_zero, fields, start_of, uses, allowed, good}
use Rattle.play_trace.specs.Steps.{first_bad, call_of, step_of}
use Rattle.play_trace.specs.declared.Call.TheVariants.{Create, SequentialWrite, RandomWrite, Allot, Trim, Kill, Read}
use Rattle.play_trace.specs.declared.Numbers.{Numbers}

-- each field
module _ (n : ℕ) (m : Numbers) where
  pub operation-is : good n m the_operation ≡ true
  unfolding good uses allowed
  operation-is = refl

  pub file-is : {r t : Bool} → r ≡ cond (not (eqb m.operation 0)) (ltb m.file n) (eqb m.file 0) → r ≡ t → good n m the_file ≡ t
  unfolding good uses allowed
  file-is e h = sym e ∙ h

  pub position-is : {u r t : Bool} → u ≡ uses m.operation the_position → r ≡ cond u true (eqb m.position 0) → r ≡ t → good n m the_position ≡ t
  unfolding good allowed
  position-is {r} p e h = ap (λ (b : Bool). cond b true (eqb m.position 0)) (sym p) ∙ sym e ∙ h

  pub length-is : {u r t : Bool} → u ≡ uses m.operation the_length → r ≡ cond u true (eqb m.length 0) → r ≡ t → good n m the_length ≡ t
  unfolding good allowed
  length-is p e h = ap (λ (b : Bool). cond b true (eqb m.length 0)) (sym p) ∙ sym e ∙ h

  pub fill_is : {u r t : Bool} {v : ℕ} → u ≡ uses m.operation the_fill → v ≡ m.fill → r ≡ cond u true (eqb v 0) → r ≡ t → good n m the_fill ≡ t
  unfolding good allowed
  fill_is {u} p q e h =
      ap (λ (b : Bool). cond b true (eqb m.fill 0)) (sym p) ∙ ap (λ (x : ℕ). cond u true (eqb x 0)) (sym q) ∙ sym e ∙ h

  pub zero_is : m.zero ≡ 0 → good n m the_zero ≡ true
  unfolding good uses
  zero_is h = eq-eqb m.zero 0 h

  pub zero-not : (m.zero ≡ 0 → ⊥) → good n m the_zero ≡ false
  unfolding good uses
  zero-not h = ne_eqb m.zero 0 h

  -- a good field is passed, and at a bad one the search stops
  pub pass : (f : Field) (fs : List Field) → good n m f ≡ true → first_bad n m (f ∷ fs) ≡ first_bad n m fs
  unfolding first_bad
  pass f fs h = rw h

  pub stop : (f : Field) (fs : List Field) → good n m f ≡ false → first_bad n m (f ∷ fs) ≡ start_of f
  unfolding first_bad
  stop f fs h = rw h

  from-file : first_bad n m fields ≡ first_bad n m (the_file ∷ the_position ∷ the_length ∷ the_fill ∷ the_zero ∷ [])
  from-file = pass the_operation _ operation-is

  pub bad-file : good n m the_file ≡ false → 3 ≡ first_bad n m fields
  bad-file h = sym (from-file ∙ stop the_file _ h)

  module _ (hf : good n m the_file ≡ true) where
    from-position : first_bad n m fields ≡ first_bad n m (the_position ∷ the_length ∷ the_fill ∷ the_zero ∷ [])
    from-position = from-file ∙ pass the_file _ hf

    pub bad-position : good n m the_position ≡ false → 8 ≡ first_bad n m fields
    bad-position h = sym (from-position ∙ stop the_position _ h)

    module _ (hp : good n m the_position ≡ true) where
      from-length : first_bad n m fields ≡ first_bad n m (the_length ∷ the_fill ∷ the_zero ∷ [])
      from-length = from-position ∙ pass the_position _ hp

      pub bad-length : good n m the_length ≡ false → 32 ≡ first_bad n m fields
      bad-length h = sym (from-length ∙ stop the_length _ h)

      module _ (hl : good n m the_length ≡ true) where
        from_fill : first_bad n m fields ≡ first_bad n m (the_fill ∷ the_zero ∷ [])
        from_fill = from-length ∙ pass the_length _ hl

        pub bad-fill : good n m the_fill ≡ false → 41 ≡ first_bad n m fields
        bad-fill h = sym (from_fill ∙ stop the_fill _ h)

        module _ (hb : good n m the_fill ≡ true) where
          pub bad-zero : good n m the_zero ≡ false → 49 ≡ first_bad n m fields
          bad-zero h = sym (from_fill ∙ pass the_fill _ hb ∙ stop the_zero _ h)

          pub no-bad : good n m the_zero ≡ true → 56 ≡ first_bad n m fields
          unfolding first_bad
          no-bad h = sym (from_fill ∙ pass the_fill (the_zero ∷ []) hb ∙ pass the_zero [] h)

-- each operation
module _ (m : Numbers) where
  pub step-1 : m.operation ≡ 1 → record { file = m.file; call = Create (record { length = m.length }) } ≡ step_of m
  unfolding call_of
  step-1 h = rw h

  pub step-2 : m.operation ≡ 2
      → record { file = m.file; call = SequentialWrite (record { position = m.position; length = m.length; fill = m.fill }) } ≡ step_of m
  unfolding call_of
  step-2 h = rw h

  pub step-3 : m.operation ≡ 3
      → record { file = m.file; call = RandomWrite (record { position = m.position; length = m.length; fill = m.fill }) } ≡ step_of m
  unfolding call_of
  step-3 h = rw h

  pub step-4 : m.operation ≡ 4 → record { file = m.file; call = Allot (record { sector = m.position }) } ≡ step_of m
  unfolding call_of
  step-4 h = rw h

  pub step-5 : m.operation ≡ 5 → record { file = m.file; call = Trim } ≡ step_of m
  unfolding call_of
  step-5 h = rw h

  pub step-6 : m.operation ≡ 6 → record { file = m.file; call = Kill } ≡ step_of m
  unfolding call_of
  step-6 h = rw h

  pub step-7 : (m.operation ≡ 1 → ⊥) → (m.operation ≡ 2 → ⊥) → (m.operation ≡ 3 → ⊥) → (m.operation ≡ 4 → ⊥) → (m.operation ≡ 5 → ⊥) →
      (m.operation ≡ 6 → ⊥)
      → record { file = m.file; call = Read (record { position = m.position; length = m.length }) } ≡ step_of m
  unfolding call_of
  step-7 a b c d e f =
      rw (
        ne_eqb m.operation 1 a,
        ne_eqb m.operation 2 b,
        ne_eqb m.operation 3 c,
        ne_eqb m.operation 4 d,
        ne_eqb m.operation 5 e,
        ne_eqb
            m.operation 6 f,
      )
