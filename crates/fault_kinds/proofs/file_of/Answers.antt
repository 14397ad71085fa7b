use Rattle.fault_kinds.proofs.Bridge.{file_by}
use Rattle.fault_kinds.proofs.file_of.Goals as goal

pub returns : goal.returns
returns c = rw c.unwrap_or.ensures (file_by c.args.g c.args.image.now c.args.s c.first_file.result c.first_file.ensures c.requires.1)
