use native.Mathlib.Omega.{arith}
use Prim.Native.Nat.{ℕ}
use mathlib.Core.Path.{ap, sym, ◌∙◌}
use lib.Seq.{sets}
use lib.ListN.{take, drop}
use Rattle.read.proofs.ReadParts.{place-fits, fetch-part}
use Rattle.read.proofs.read_part.Goals as goal

pub put_part-requires : goal.put_part-requires
put_part-requires c = let q = place-fits _ _ _ _ _ c.requires.0 c.requires.1
    c.requires.2 in
    (c.requires.3, omega arith)

pub returns : goal.returns
returns c = let a = c.args in c.put_part.ensures ∙ ap (sets a.buffer.now a.to)
    (ap (λ (k : ℕ). take a.n (drop k a.disk.now.image.now)) c.place-p.ensures ∙ sym
    (fetch-part _ _ _ _ _ c.requires.0
    c.requires.1 c.requires.2))
