use Rattle.seek.proofs.SeekSteps.{slots_length}
use native.Mathlib.Omega.{arith}
use mathlib.Core.Path.{sym, ◌∙◌}
use Rattle.fault_kinds.proofs.slots.Goals as goal

pub returns : goal.returns
returns c = let a = c.args in let h = c.slots.ensures.is in
    record { is = h ∙ sym (slots_length a.disk.now.g a.disk.now.image.now (omega arith) (omega arith)); small = omega arith }
