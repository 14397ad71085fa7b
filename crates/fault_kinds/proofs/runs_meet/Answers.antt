use Rattle.fault_kinds.proofs.Passes.{meet-of}
use mathlib.Core.Path.{◌∙◌}
use Rattle.fault_kinds.proofs.runs_meet.Goals as goal

pub returns : goal.returns
returns c = c.run_in.ensures ∙ meet-of _ _ _ _ _ _ c.run_start-b.ensures.is c.run_length-m.ensures.is
