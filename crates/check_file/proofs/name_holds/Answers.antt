use Rattle.check_file.proofs.OneFile.{name-no, name-yes}
use native.Mathlib.Omega.{arith}
use Rattle.check_file.proofs.name_holds.Goals as goal

pub returns-then-hashes_to : goal.returns-then-hashes_to
returns-then-hashes_to c = name-yes _ _ _ c.args.disk.now.room c.requires (omega arith) c.hashes_to.ensures c.if-hashes_to.true
    c.well_formed-then-hashes_to.ensures

pub returns-else-hashes_to : goal.returns-else-hashes_to
returns-else-hashes_to c = name-no _ _ _ c.args.disk.now.room c.requires (omega arith) c.hashes_to.ensures c.if-hashes_to.false
