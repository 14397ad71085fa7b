use Prim.Native.Nat.{◌≤◌, ◌*◌}
use Rattle.look_up.proofs.Pass.{InRow}
use Rattle.look_up.proofs.Search.{Finding}
use Rattle.look_up.proofs.find.Given as goal

abbrev pub invariant-loop-s : goal.invariant-loop-s
invariant-loop-s l = InRow l.row l.columns l.s × (l.compared ≤ l.s) × Finding l.disk.g l.disk.image.now l.name l.s l.compared

abbrev pub invariant-loop-row : goal.invariant-loop-row
invariant-loop-row l = (l.compared ≤ 32 * l.row) × Finding l.disk.g l.disk.image.now l.name (32 * l.row) l.compared
