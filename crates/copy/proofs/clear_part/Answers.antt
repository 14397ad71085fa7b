use Prim.Native.Nat.{ℕ}
use mathlib.Core.Path.{ap, ◌∙◌}
use lib.ListN.{replicate, length-replicate}
use Rattle.copy.proofs.OneByOne.{put-mid, part_length}
use Rattle.copy.proofs.clear_part.Goals as goal

pub returns : goal.returns
returns c = let a = c.args in
    put-mid a.to.now (replicate a.n 0) a.at a.n
    (c.fill.ensures.after (λ _ e. e) ∙ ap (λ (m : ℕ). replicate m 0) (part_length a.to.now a.at a.n c.requires))
    (length-replicate a.n 0) c.requires
