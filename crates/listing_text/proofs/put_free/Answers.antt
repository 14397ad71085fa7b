use Rattle.listing_text.proofs.PutBytes.{put_then}
use Rattle.listing_text.specs.Put.{free_line}
use native.Mathlib.Omega.{arith}
use Rattle.listing_text.proofs.put_free.Goals as goal

pub returns : goal.returns
unfolding free_line
returns c = put_then {most = 55} (put_then {most = 25} c.put_word-word_end.ensures
    c.put_column-end.ensures (omega arith)) c.put_byte.ensures (omega arith)
