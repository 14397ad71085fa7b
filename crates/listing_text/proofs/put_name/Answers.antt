use Rattle.listing_text.proofs.PutBytes.{put_both, type-part, type-length}
use Rattle.meaning.specs.Listing.{stripped, slashed}
use lib.ListN.{take}
use Prim.Native.Nat.{ℕ}
use mathlib.Core.List.{List, ◌++◌}
use mathlib.Core.Path.{ap}
use lib.Seq.{length-take-le}
use mathlib.Core.Path.{sym}
use native.Mathlib.Omega.{arith}
use Rattle.listing_text.proofs.put_name.Goals as goal

pub slice_bounds-put_stripped-end : goal.slice_bounds-put_stripped-end
slice_bounds-put_stripped-end c = sym (length-take-le 8 c.args.name.now
    (omega (arith, c.requires.1)))

pub put_stripped-e-requires : goal.put_stripped-e-requires
put_stripped-e-requires c = omega (
  arith,
  length-take-le 8 c.args.name.now
      (omega (arith, c.requires.1)),
  c.requires.0,
)

pub put_type-requires : goal.put_type-requires
put_type-requires c = (
  omega (
    arith,
    length-take-le 8 c.args.name.now
        (omega (arith, c.requires.1)),
    c.put_stripped-e.ensures.past,
    c.put_stripped-e.ensures.fits,
    c.requires.0,
  ),
  type-length c.args.name.now
      c.requires.1,
)

pub returns : goal.returns
returns c = let a = c.args in put_both c.put_stripped-e.ensures c.put_type.ensures
    (ap (λ (r : List ℕ). stripped (take 8 a.name.now) ++ slashed (stripped r)) (type-part a.name.now))
    (omega (
      arith,
      length-take-le 8 c.args.name.now
          (omega (arith, c.requires.1)),
    ))
