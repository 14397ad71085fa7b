use mathlib.Core.Path.{sym, ◌∙◌}
use Rattle.fault_clear.proofs.Passes.{no_slot, clearing-skip, clearing-step}
use Rattle.layout.proofs.HasRoom.{slot-of}
use Rattle.lists.specs.Tests.{is-false, is-true}
use native.Mathlib.Omega.{arith}
use Rattle.fault_clear.proofs.taken_off.Goals.{then-not-is_slot-via-then-not-is_slot, then-not-is_slot-via-else-not-is_slot+then-not-flag}
use Rattle.fault_clear.proofs.taken_off.Goals as goal

pub flag-requires : goal.flag-requires
flag-requires c = (slot-of _ _ _ (is-true c.is_slot.ensures c.if-not-is_slot.false), omega arith)

pub returns-then-not-is_slot : goal.returns-then-not-is_slot
returns-then-not-is_slot c = λ q. elim c.then-not-is_slot.branch [
  | then-not-is_slot-via-then-not-is_slot w ↦ clearing-skip _ _ _ (no_slot _ _ _ (is-false c.is_slot.ensures w.if-not-is_slot.true)) c.requires
  | then-not-is_slot-via-else-not-is_slot+then-not-flag w ↦ clearing-skip _ _ _ (λ l. is-false w.flag.ensures w.if-not-flag.true) c.requires
]

pub entry_at-at-requires : goal.entry_at-at-requires
entry_at-at-requires c = slot-of _ _ _ (is-true c.is_slot.ensures c.if-not-is_slot.false)

pub returns : goal.returns
returns c = λ q. clearing-step _ _ _ c.take_runs.ensures (sym c.is_some.ensures ∙ q) c.requires
