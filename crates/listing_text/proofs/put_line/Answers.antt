use Rattle.listing_text.proofs.PutBytes.{put_then}
use Rattle.meaning.specs.Listing.{line}
use native.Mathlib.Omega.{arith}
use Rattle.listing_text.proofs.put_line.Goals as goal

pub returns : goal.returns
unfolding line
returns c = put_then {most = 55} (put_then {most = 54}
    (put_then {most = 33} c.put_name-name_end.ensures c.put_column-size_end.ensures (omega arith))
    c.put_column-end.ensures (omega arith)) c.put_byte.ensures (omega arith)
