use mathlib.Core.Path.{ap, ◌∙◌}
use Rattle.differences.specs.Compare.{tells_none}
use Rattle.compare.proofs.name_only.Goals as goal

pub returns : goal.returns
returns c = let a = c.args in λ i. let x = (c.tells_none.ensures ∙ ap tells_none c.none.ensures) i in record {
  refusal = x.refusal;
  kind = a.kind;
  name = c.name_of.ensures i;
  at = x.at;
  contents = x.contents;
  size = x.size;
  date = x.date;
  other = x.other;
}
