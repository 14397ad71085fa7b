use Rattle.lists.specs.Tests.{is-false, is-true}
use Rattle.name_spelling.proofs.Comes.{all-blank}
use Rattle.name_spelling.proofs.Padded.{last-plain}
use Rattle.name_spelling.proofs.Name.{padded-more, padded-stop}
use mathlib.Core.Path.{sym, ap, ◌∙◌}
use Prim.Native.Nat.{ℕ, ◌-◌}
use lib.Dec.{eqb}
use lib.ListN.{length, take, drop}
use Rattle.meaning.specs.Lists.{every}
use native.Mathlib.Omega.{arith}
use Rattle.name_spelling.proofs.type_padded.Goals as goal

pub returns-then-not-letter : goal.returns-then-not-letter
returns-then-not-letter c = let n = c.args.name.now in
    c.blank.ensures ∙ all-blank (take (length n - 8) (drop 8 n)) ∙ ap (λ (k : ℕ). every (eqb 0x20) (take (k - 8) (drop 8 n))) c.requires ∙ sym
    (padded-stop n 11 8 (omega arith)
    (omega (arith, c.requires)) (is-false c.letter.ensures c.if-not-letter.true))

pub returns-then-not-letter-2 : goal.returns-then-not-letter-2
returns-then-not-letter-2 c = let n = c.args.name.now in
    c.blank-then-not-letter-2.ensures ∙ all-blank (take (length n - 9) (drop 9 n)) ∙ ap (λ (k : ℕ). every (eqb 0x20) (take (k - 9) (drop 9 n))) c.requires ∙ sym
    (padded-more n 11 8 (omega arith)
    (omega (arith, c.requires))
    (is-true c.letter.ensures c.if-not-letter.false) ∙ padded-stop
    n 11 9 (omega arith)
    (omega (arith, c.requires))
    (is-false c.letter-2.ensures c.if-not-letter-2.true))

pub returns : goal.returns
returns c = c.plain.ensures ∙ sym
    (padded-more c.args.name.now 11 8 (omega arith)
    (omega (arith, c.requires))
    (is-true c.letter.ensures c.if-not-letter.false) ∙ padded-more
    c.args.name.now 11 9 (omega arith)
    (omega (arith, c.requires))
    (is-true c.letter-2.ensures c.if-not-letter-2.false) ∙ last-plain
    c.args.name.now
    c.requires)
