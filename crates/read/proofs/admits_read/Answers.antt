use native.Mathlib.Omega.{arith}
use Rattle.std.proofs.lemmas.Result.{err_from_is_err_and}
use Rattle.refusal.proofs.Telling.{tells, tells-on}
use Rattle.read.proofs.ReadParts.{reading-stop, reading-then, read-reach}
use Rattle.meaning.specs.Refusals.{not_for_reading}
use Rattle.passed.proofs.Checked.{check-none, checked-room, passed}
use Rattle.lists.specs.Tests.{first-hit, first-skip, first-none}
use borrow.Author.Tests.{lt-ltb, le-ltb}
use lib.Dec.{ltb}
use Prim.Native.Nat.{ℕ, ◌+◌}
use mathlib.Core.Path.{◌≡◌, refl, ap, sym, ◌∙◌}
use mathlib.Core.List.{[], ◌∷◌}
use Rattle.read.proofs.admits_read.Goals as goal

pub returns-in_err-admits_reading : goal.returns-in_err-admits_reading
returns-in_err-admits_reading c = let p = err_from_is_err_and c.from_residual.result c.from_residual.ensures.1 in
    rw (p.1, p.2) (tells-on _ (reading-stop _ _ _ _ _ c.read_ranged-ranged.ensures refl c.in_err-admits_reading.ensures.1) c.in_err-admits_reading.ensures)

pub invariant_of-disk : goal.invariant_of-disk
invariant_of-disk c = let a = c.args in record {
  room = checked-room _ _ (passed a.g a.image.now a.h c.read_ranged-ranged.result (not_for_reading a.h ∷ []) refl refl c.in_ok-admits_reading.ensures).disk;
}

pub size_of-requires : goal.size_of-requires
size_of-requires c = let a = c.args in
    (passed a.g a.image.now a.h c.read_ranged-ranged.result (not_for_reading a.h ∷ []) refl refl c.in_ok-admits_reading.ensures).slot

pub overflow_add-h : goal.overflow_add-h
overflow_add-h c = let a = c.args in let the-read-ranged = c.read_ranged-ranged in
    let p = passed a.g a.image.now a.h the-read-ranged.result (not_for_reading a.h ∷ []) refl
    refl c.in_ok-admits_reading.ensures in
    let q = read-reach a.g a.image.now a.h a.n a.room (sym the-read-ranged.ensures ∙ p.ranged') in
    omega arith

pub returns-then-size_of-h : goal.returns-then-size_of-h
returns-then-size_of-h c = let ten : 10 ≡ 0 → ⊥ = λ q. omega (arith, q) in
    let on = reading-then _ _ _ _ _ c.read_ranged-ranged.ensures refl c.in_ok-admits_reading.ensures ∙ first-hit
    (ap (λ (k : ℕ). ltb k (c.args.h.at + c.args.n)) (sym c.size_of.ensures.is) ∙ lt-ltb _ _ c.if-size_of-h.true) 10 _ in
    let t = tells _ (check-none _ _ _ c.requires c.in_ok-admits_reading.ensures) on ten in (c.refusal.ensures ∙ t.0, t.1)

pub returns : goal.returns
returns c = reading-then _ _ _ _ _ c.read_ranged-ranged.ensures refl c.in_ok-admits_reading.ensures
    ∙ first-skip (ap (λ (k : ℕ). ltb k (c.args.h.at + c.args.n)) (sym c.size_of.ensures.is) ∙ le-ltb _ _ c.if-size_of-h.false) _ _ ∙ first-none
