use lib.Seq.{sets, take_all}
use lib.ListN.{length}
use mathlib.Core.Path.{◌≡◌, ap, ◌∙◌}
use mathlib.Core.List.{List}
use Prim.Native.Nat.{ℕ}
use native.Mathlib.Omega.{arith}
use borrow.Author.Rules.{rules}
use Rattle.genie_codec.proofs.put_name.Goals as goal

pub returns : goal.returns
returns c = let q : length c.args.name ≡ 11 = search rules in
    c.put_part.ensures ∙ ap (λ (m : List ℕ). sets c.args.b.now
    c.args.at m)
    (take_all 11 c.args.name (omega (arith, q)))
