use Rattle.listing_text.proofs.PutBytes.{put_both}
use Rattle.listing_text.proofs.PutBytes.{put-none, all-none, slashed-none, slashed-some}
use Rattle.meaning.specs.Listing.{stripped}
use mathlib.Core.Path.{sym, ◌∙◌}
use native.Mathlib.Omega.{arith}
use Rattle.listing_text.proofs.put_type.Goals as goal

pub returns-then-blank : goal.returns-then-blank
returns-then-blank c = let a = c.args in put-none 4 a.to.now a.at (slashed-none (stripped a.part.now)
    (sym (c.blank.ensures ∙ all-none a.part.now) ∙ c.if-blank.true))

pub returns : goal.returns
returns c = let a = c.args in put_both c.put_byte-e.ensures c.put_stripped.ensures
    (slashed-some (stripped a.part.now) (sym (c.blank.ensures ∙ all-none a.part.now) ∙ c.if-blank.false))
    (omega (arith, c.requires.1))
