use mathlib.Core.Path.{ap, ◌∙◌}
use Rattle.meaning.specs.Bits.{bit}
use Rattle.layout.proofs.Disk.flag.Goals as goal

pub returns : goal.returns
returns c = c.is_set.ensures ∙ ap (bit c.args.u) c.field.ensures.is
