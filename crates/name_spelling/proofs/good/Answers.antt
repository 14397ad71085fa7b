use mathlib.Core.List.{List}
use mathlib.Core.Path.{ap, ◌∙◌}
use native.Mathlib.Omega.{arith}
use Prim.Native.Nat.{ℕ, ◌+◌}
use Rattle.std.specs.List.{prefix_len}
use Rattle.meaning.specs.Names.{letter, blanks}
use Rattle.name_spelling.proofs.Name.{to-end}
use Rattle.name_spelling.proofs.Comes.{count-blanks, count-good}
use Rattle.name_spelling.proofs.good.Goals as goal

pub returns : goal.returns
returns c = let n = c.args.bytes.now in let p = prefix_len letter n in (
  rw (c.blanks.ensures.0, c.letters-n.ensures.0)
      (ap (λ (k : ℕ). p + k) (count-blanks _) ∙ ap (λ (xs : List ℕ). p + blanks xs) (to-end n p) ∙ count-good n),
  omega arith,
)
