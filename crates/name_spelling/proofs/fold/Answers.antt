use mathlib.Core.Path.{sym, ◌∙◌}
use mathlib.Core.List.{map}
use native.Mathlib.Omega.{arith}
use Rattle.meaning.specs.Names.{fold_byte, fold}
use Rattle.std.proofs.lemmas.List.{ext_get_or, get_or-map, length-map}
use Rattle.name_spelling.proofs.fold.Goals as goal

pub returns : goal.returns
unfolding fold
returns c = let m = c.map.ensures.items in ext_get_or 0 c.map.result (map fold_byte c.args.name) (omega (arith, length-map c.args.name fold_byte))
    (λ k lt. let z = m.at k 0 0 (omega (arith, lt)) in z.2.met ∙ sym (get_or-map fold_byte c.args.name k 0 0 (omega arith)))
