use Rattle.listing_text.proofs.PutBytes.{put_both}
use Rattle.listing_text.proofs.PutBytes.{put-none, put_as, stripped-more, stripped-all}
use mathlib.Core.Path.{refl}
use native.Mathlib.Omega.{arith}
use borrow.Author.Rules.{rules}
use Rattle.listing_text.proofs.put_stripped.Goals as goal

pub loop-b-init : goal.loop-b-init
loop-b-init c = (put-none 0 c.args.to.now c.args.at refl, refl)

pub put_kept-e-requires : goal.put_kept-e-requires
put_kept-e-requires c = omega (
  arith,
  c.loop-b.invariant.0.past,
  c.loop-b.invariant.0.fits,
  c.requires,
)

pub loop-b-preserved : goal.loop-b-preserved
loop-b-preserved c = (
  put_both c.loop-b.invariant.0 c.put_kept-e.ensures
      (stripped-more c.args.part.now
      c.loop-b.b-index (omega arith)) (omega arith),
  search rules,
)

pub returns : goal.returns
returns c = put_as c.loop-b.invariant.0 (stripped-all c.args.part.now c.loop-b.b-index (omega arith))
    (omega arith)
