use mathlib.Core.Path.{sym}
use Rattle.lists.specs.Tests.{is-false, is-true, all-out}
use Rattle.layout.proofs.OneStep.{fits-size, fits-start, fits-length, fits-rest, fits-beyond}
use borrow.Author.Tests.{lt-leb}
use native.Mathlib.Nat.{mul-le-mul}
use native.Mathlib.Omega.{arith}
use Rattle.meaning.specs.Layout.{fits_geometry}
use Rattle.layout.proofs.fits_geometry.Goals.{then-not-is_size-via-then-not-is_size, then-not-is_size-via-else-not-is_size+then-g-lt1}
use Rattle.layout.proofs.fits_geometry.Goals.{then-not-is_size-via-else-not-is_size+else-g-lt1+then-g-gt-MOST_BLOCKS}
use Rattle.layout.proofs.fits_geometry.Goals.{then-not-is_size-via-else-not-is_size+else-g-lt1+else-g-gt-MOST_BLOCKS+then-g-lt1-2}
use Rattle.layout.proofs.fits_geometry.Goals.{then-not-is_size-via-else-not-is_size+else-g-lt1+else-g-gt-MOST_BLOCKS+else-g-lt1-2+then-g-gt-MOST_UNITS}
use Rattle.layout.proofs.fits_geometry.Goals.{then-g-w-ne0-via-then-g-w-ne0, then-g-w-ne0-via-else-g-w-ne0+then-image-bytes}
use Rattle.layout.proofs.fits_geometry.Goals.{then-g-w-ne0-via-else-g-w-ne0+else-image-bytes+then-most-g}
use Rattle.layout.proofs.fits_geometry.Goals as goal

pub returns-then-not-is_size : goal.returns-then-not-is_size
unfolding fits_geometry
returns-then-not-is_size c = elim c.then-not-is_size.branch [
  | then-not-is_size-via-then-not-is_size w ↦ fits-size _ _ (is-false c.is_size.ensures w.if-not-is_size.true)
  | then-not-is_size-via-else-not-is_size+then-g-lt1 w ↦ sym (all-out _ 0 (lt-leb _ _ w.if-g-lt1.true))
  | then-not-is_size-via-else-not-is_size+else-g-lt1+then-g-gt-MOST_BLOCKS w ↦ sym (all-out _ 1 (lt-leb _ _ w.if-g-gt-MOST_BLOCKS.true))
  | then-not-is_size-via-else-not-is_size+else-g-lt1+else-g-gt-MOST_BLOCKS+then-g-lt1-2 w ↦ sym (all-out _ 2 (lt-leb _ _ w.if-g-lt1-2.true))
  | then-not-is_size-via-else-not-is_size+else-g-lt1+else-g-gt-MOST_BLOCKS+else-g-lt1-2+then-g-gt-MOST_UNITS w ↦ sym
      (all-out _ 3 (lt-leb _ _ w.if-g-gt-MOST_UNITS.true))
]

pub overflow_mul-bytes : goal.overflow_mul-bytes
overflow_mul-bytes c = omega (arith, mul-le-mul c.granules-n.ensures.1 c.granule_bytes.ensures.few)

pub returns-then-g-w-ne0 : goal.returns-then-g-w-ne0
returns-then-g-w-ne0 c =
    let z = is-true c.is_size.ensures c.if-not-is_size.false in
    elim c.then-g-w-ne0.branch [
      | then-g-w-ne0-via-then-g-w-ne0 w ↦
          fits-start _ _ z c.if-g-lt1.false c.if-g-gt-MOST_BLOCKS.false c.if-g-lt1-2.false c.if-g-gt-MOST_UNITS.false c.granule_sectors-w.ensures.is
          w.if-g-w-ne0.true
      | then-g-w-ne0-via-else-g-w-ne0+then-image-bytes w ↦
          fits-length _ _ z c.if-g-lt1.false c.if-g-gt-MOST_BLOCKS.false c.if-g-lt1-2.false c.if-g-gt-MOST_UNITS.false c.granule_sectors-w.ensures.is
          w.if-g-w-ne0.false
          c.granules-n.ensures.0 c.granule_bytes.ensures.is w.if-image-bytes.true
      | then-g-w-ne0-via-else-g-w-ne0+else-image-bytes+then-most-g w ↦
          fits-beyond _ _ z c.if-g-lt1.false c.if-g-gt-MOST_BLOCKS.false c.if-g-lt1-2.false c.if-g-gt-MOST_UNITS.false c.granule_sectors-w.ensures.is
          w.if-g-w-ne0.false
          c.granules-n.ensures.0 c.granule_bytes.ensures.is w.if-image-bytes.false c.granules-n.ensures.1
          (let k = c.sector_numbers-most.ensures.is in let h = w.if-most-g.true in omega (arith, c.granule_sectors-w.ensures.is))
    ]

pub overflow_mul-result : goal.overflow_mul-result
overflow_mul-result c = omega (arith, mul-le-mul c.granules-n.ensures.1 c.granule_sectors-w.ensures.few)

pub returns : goal.returns
returns c = fits-rest _ _ (is-true c.is_size.ensures c.if-not-is_size.false) c.if-g-lt1.false c.if-g-gt-MOST_BLOCKS.false c.if-g-lt1-2.false
    c.if-g-gt-MOST_UNITS.false c.granule_sectors-w.ensures.is c.if-g-w-ne0.false c.granules-n.ensures.0 c.granule_bytes.ensures.is c.if-image-bytes.false
