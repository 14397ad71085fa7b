use Prim.Native.Nat.{ℕ}
use mathlib.Core.Path.{ap, ◌∙◌}
use lib.ListN.{take, drop}
use Rattle.copy.proofs.OneByOne.{put-mid, part_length, from-length}
use Rattle.copy.proofs.put_part.Goals as goal

pub returns : goal.returns
returns c = let a = c.args in put-mid a.to.now (take a.n (drop a.from a.src.now)) a.at a.n
    (c.copy_into.ensures ∙ ap (λ (m : ℕ). take m (drop a.from a.src.now))
    (part_length a.to.now a.at a.n c.requires.0))
    (from-length a.src.now a.from a.n c.requires.1)
    c.requires.0
