use Rattle.drives_calls.proofs.OnDrive.{inside-0, inside-1}
use Rattle.drives.specs.Pair.{pair}
use Rattle.drives_calls.proofs.OnDrive.{handed-0, handed-1, place-0, place-1}
use Rattle.drives_calls.proofs.read_sector.Goals as goal

pub slice_bounds-result-end : goal.slice_bounds-result-end
slice_bounds-result-end c =
    let a = c.args in
    let the-sector-part = c.sector_part-p in
    inside-0 (pair a.g0 a.image0.now a.g1 a.image1.now) the-sector-part.ensures.lies c.if-p-eq0.true

pub returns-then-p-eq0 : goal.returns-then-p-eq0
returns-then-p-eq0 c =
    let a = c.args in
    let the-sector-part = c.sector_part-p in
    let the-fault-drive = c.fault_drive in
    let p = pair a.g0 a.image0.now a.g1 a.image1.now in
    let e = the-sector-part.ensures.is in
    record {
      what = handed-0 p e c.if-p-eq0.true
          the-fault-drive.ensures;
      place_at = place-0 p e a.image0.ref_ptr a.image1.ref_ptr c.if-p-eq0.true;
    }

pub slice_bounds-result-end-2 : goal.slice_bounds-result-end-2
slice_bounds-result-end-2 c =
    let a = c.args in
    let the-sector-part = c.sector_part-p in
    inside-1 (pair a.g0 a.image0.now a.g1 a.image1.now) the-sector-part.ensures.lies c.if-p-eq0.false

pub returns : goal.returns
returns c =
    let a = c.args in
    let the-sector-part = c.sector_part-p in
    let the-fault-drive = c.fault_drive in
    let p = pair a.g0 a.image0.now a.g1 a.image1.now in
    let e = the-sector-part.ensures.is in
    record {
      what = handed-1 p e c.if-p-eq0.false
          the-fault-drive.ensures;
      place_at = place-1 p e a.image0.ref_ptr a.image1.ref_ptr c.if-p-eq0.false;
    }
