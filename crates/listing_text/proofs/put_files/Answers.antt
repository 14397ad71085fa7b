use Rattle.listing_text.proofs.PutBytes.{put_then}
use Rattle.listing_text.specs.Put.{files_line}
use native.Mathlib.Omega.{arith}
use Rattle.listing_text.proofs.put_files.Goals as goal

pub returns : goal.returns
unfolding files_line
returns c = put_then {most = 55} (put_then {most = 26} c.put_word-word_end.ensures
    c.put_column-end.ensures (omega arith)) c.put_byte.ensures (omega arith)
