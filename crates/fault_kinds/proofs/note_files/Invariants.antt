use Rattle.fault_kinds.specs.Noted.{WalkNoted}
use Rattle.fault_kinds.proofs.note_files.Given as goal

abbrev pub invariant-loop-p : goal.invariant-loop-p
invariant-loop-p l = WalkNoted l.disk.g l.disk.image.now l.p l.files
