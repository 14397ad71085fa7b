use native.Mathlib.Omega.{arith}
use mathlib.Core.List.{[]}
use mathlib.Core.Path.{sym}
use Rattle.listing_text.proofs.PutBytes.{put-none, put_as, stripped-blank, stripped-kept}
use Rattle.listing_text.proofs.put_kept.Goals as goal

pub returns-then-b-eq32 : goal.returns-then-b-eq32
returns-then-b-eq32 c = let a = c.args in put-none 1 a.to.now a.at (stripped-blank a.b [] c.if-b-eq32.true)

pub returns-else-b-eq32 : goal.returns-else-b-eq32
returns-else-b-eq32 c = let a = c.args in put_as c.put_byte.ensures (sym (stripped-kept a.b [] c.if-b-eq32.false)) (omega arith)
