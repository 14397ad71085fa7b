use Rattle.std.proofs.Common.{◌∙◌}
use Rattle.fault_kinds.proofs.Bridge.{walked_by}
use Rattle.fault_kinds.proofs.walked.Goals as goal

pub returns : goal.returns
returns c = c.is_some.ensures ∙ walked_by c.args.g c.args.image.now c.args.x c.first_file.result c.first_file.ensures
