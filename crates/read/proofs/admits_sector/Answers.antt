use native.Mathlib.Omega.{arith}
use Rattle.std.proofs.lemmas.Result.{err_from_is_err_and}
use Rattle.refusal.proofs.Telling.{tells, tells-on}
use Rattle.read.proofs.ReadParts.{reading-stop, reading-then}
use Rattle.meaning.specs.Refusals.{not_for_reading}
use Rattle.passed.proofs.Checked.{check-none, checked-room, passed}
use Rattle.lists.specs.Tests.{first-hit, first-skip, first-none}
use borrow.Author.Tests.{lt-leb, le-leb}
use lib.Dec.{leb}
use Prim.Native.Nat.{ℕ}
use mathlib.Core.Path.{◌≡◌, refl, ap, sym, ◌∙◌}
use mathlib.Core.List.{[], ◌∷◌}
use Rattle.read.proofs.admits_sector.Goals as goal

pub returns-in_err-admits_reading : goal.returns-in_err-admits_reading
returns-in_err-admits_reading c = let p = err_from_is_err_and c.from_residual.result c.from_residual.ensures.1 in
    rw (p.1, p.2) (tells-on _ (reading-stop _ _ _ _ _ c.sector_ranged-ranged.ensures refl c.in_err-admits_reading.ensures.1) c.in_err-admits_reading.ensures)

pub invariant_of-disk : goal.invariant_of-disk
invariant_of-disk c = let a = c.args in record {
  room = checked-room _ _ (passed a.g a.image.now a.h c.sector_ranged-ranged.result (not_for_reading a.h ∷ []) refl refl c.in_ok-admits_reading.ensures).disk;
}

pub word-requires : goal.word-requires
word-requires c = let a = c.args in
    ((passed a.g a.image.now a.h c.sector_ranged-ranged.result (not_for_reading a.h ∷ []) refl refl c.in_ok-admits_reading.ensures).slot, omega arith)

pub returns-then-word-k : goal.returns-then-word-k
returns-then-word-k c = let ten : 10 ≡ 0 → ⊥ = λ q. omega (arith, q) in
    let on = reading-then _ _ _ _ _ c.sector_ranged-ranged.ensures refl c.in_ok-admits_reading.ensures ∙ first-hit
    (ap (λ (n : ℕ). leb n c.args.k) (sym c.word.ensures.is) ∙ le-leb _ _ c.if-word-k.true) 10 _ in
    let t = tells _ (check-none _ _ _ c.requires c.in_ok-admits_reading.ensures) on ten in (c.refusal.ensures ∙ t.0, t.1)

pub returns : goal.returns
returns c = reading-then _ _ _ _ _ c.sector_ranged-ranged.ensures refl c.in_ok-admits_reading.ensures
    ∙ first-skip (ap (λ (n : ℕ). leb n c.args.k) (sym c.word.ensures.is) ∙ lt-leb _ _ c.if-word-k.false) _ _ ∙ first-none
