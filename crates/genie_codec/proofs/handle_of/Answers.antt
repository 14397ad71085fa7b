use Rattle.genie_codec.specs.Codec.{two, four, handle_of}
use native.Mathlib.Omega.{arith}
use mathlib.Core.Path.{◌≡◌, ◌∙◌}
use Rattle.genie_codec.proofs.handle_of.Goals as goal

pub returns : goal.returns
unfolding handle_of
returns c = let b = c.args.b.now in
    let n : c.from-2.result ≡ two b 2 = c.from-2.ensures ∙ c.from_le_bytes-2.ensures ∙ omega arith in
    let m : c.from_le_bytes.result ≡ four b 4 = c.from_le_bytes.ensures ∙ omega arith in
    λ i. record { slot = c.from.ensures i; name = c.copy_from_slice.ensures.after i; at = m i; len = n i; level = c.from-3.ensures i }
