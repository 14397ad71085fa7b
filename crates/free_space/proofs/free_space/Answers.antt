use Rattle.lists.specs.Tests.{is-false, is-true}
use Rattle.free_space.proofs.GatPass.{gat-fits, space-refused, space-accepted}
use Rattle.free_space.proofs.free_space.Goals as goal

pub returns-then-not-fits_geometry : goal.returns-then-not-fits_geometry
returns-then-not-fits_geometry c = space-refused _ _ c.refusal.ensures (is-false c.fits_geometry.ensures c.if-not-fits_geometry.true)

pub pass-seen-requires : goal.pass-seen-requires
pass-seen-requires c = gat-fits _ _ (is-true c.fits_geometry.ensures c.if-not-fits_geometry.false)

pub returns : goal.returns
returns c = space-accepted _ _ c.none.ensures (is-true c.fits_geometry.ensures c.if-not-fits_geometry.false)
    c.pass-seen.ensures.free c.pass-seen.ensures.longest'
