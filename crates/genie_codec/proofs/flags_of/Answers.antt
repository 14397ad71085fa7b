use Prim.Native.Nat.{◌+◌}
use Rattle.genie_codec.specs.Words.{flags_of}
use Rattle.genie_codec.proofs.flags_of.Goals as goal

pub returns : goal.returns
unfolding flags_of
returns c = let p = c.flag.ensures.0 in let q = c.flag-2.ensures.0 in let r = c.flag-3.ensures.0 in let s = c.flag-4.ensures.0 in λ i. p i + q i + r i + s i
