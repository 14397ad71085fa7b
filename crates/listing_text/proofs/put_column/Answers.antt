use Rattle.listing_text.proofs.PutBytes.{put_then}
use native.Mathlib.Omega.{arith}
use Rattle.listing_text.proofs.put_column.Goals as goal

pub returns : goal.returns
returns c = put_then c.put_byte-e.ensures c.put_decimal.ensures (omega arith)
