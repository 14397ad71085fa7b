use mathlib.Core.Path.{sym, ◌∙◌}
use Rattle.lists.specs.Tests.{is-false, is-true}
use Rattle.check_whole.proofs.SlotBySlot.{fits}
use Rattle.fault_kinds.proofs.Passes.{so}
use Rattle.laws.specs.Passed.{check-one, check-none, check-fault}
use Rattle.fault_diagnosis.proofs.check.Goals as goal

pub returns-then-not-fits_geometry : goal.returns-then-not-fits_geometry
returns-then-not-fits_geometry c = c.refusal.ensures ∙ sym (check-one _ _ (is-false c.fits_geometry.ensures c.if-not-fits_geometry.true))

pub consistent-requires : goal.consistent-requires
consistent-requires c = fits _ _ (is-true c.fits_geometry.ensures c.if-not-fits_geometry.false)

pub returns-then-consistent : goal.returns-then-consistent
returns-then-consistent c = let if1 = c.if-not-fits_geometry in let fits-geometry = c.fits_geometry in
    c.none.ensures ∙ sym (check-none _ _ (is-true fits-geometry.ensures if1.false)
    (so c.consistent.ensures c.if-consistent.true))

pub fault_of-requires : goal.fault_of-requires
fault_of-requires c = fits _ _ (is-true c.fits_geometry.ensures c.if-not-fits_geometry.false)

pub returns : goal.returns
returns c = let if1 = c.if-not-fits_geometry in let fits-geometry = c.fits_geometry in
    c.fault_of.ensures ∙ sym (check-fault _ _ (is-true fits-geometry.ensures if1.false))
