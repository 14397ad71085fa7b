use mathlib.Core.Path.{ap}
use Rattle.meaning.specs.Layout.{round_up}
use Rattle.extent.proofs.granules_for.Goals as goal

pub returns : goal.returns
returns c = ap (round_up c.args.n) c.granule_bytes-w.ensures.is
