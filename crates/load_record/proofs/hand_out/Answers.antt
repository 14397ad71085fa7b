use Rattle.load_record.proofs.Bytes.{part-is}
use lib.ListN.{drop}
use mathlib.Core.List.{List, ◌++◌}
use mathlib.Core.Path.{ap, ◌∙◌}
use Prim.Native.Nat.{ℕ}
use Rattle.load_record.proofs.hand_out.Goals as goal

pub returns : goal.returns
returns c = let a = c.args in c.read_bytes.ensures ∙ ap (λ (l : List ℕ). l ++ drop a.n a.buffer.now)
    (part-is a.disk.now.g a.disk.now.image.now a.s c.requires.0 a.from a.n
    c.requires.1)
