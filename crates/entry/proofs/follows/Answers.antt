use Rattle.lists.specs.Tests.{not-both, all-out, is-false, is-true, all_yes, all_one}
use Rattle.layout.proofs.HasRoom.{slot-of}
use Rattle.meaning.specs.Consistent.{follows_by}
use native.Mathlib.Omega.{arith}
use Prim.Native.Nat.{ℕ}
use lib.Dec.{eqb}
use mathlib.Core.Bool.{Bool}
use mathlib.Core.Path.{◌≡◌, sym, ap, ◌∙◌}
use Rattle.entry.proofs.follows.Goals as goal
use Rattle.entry.proofs.follows.Goals.{then-is_slot, else-is_slot, then-field-flags, else-field-flags}

-- what a test of a byte that was read says of the byte
asked : {r b : ℕ} (k : ℕ) {v t : Bool} → r ≡ b → v ≡ eqb r k → v ≡ t → eqb b k ≡ t
asked k e q y = ap (λ (n : ℕ). eqb n k) (sym e) ∙ sym q ∙ y

pub field-requires : goal.field-requires
field-requires c = (slot-of _ _ _ (is-true c.is_slot.ensures c.if-is_slot.true), omega arith)

pub field-requires-then-field-flags : goal.field-requires-then-field-flags
field-requires-then-field-flags c = elim c.if-is_slot.branch [
  | then-is_slot w ↦ (slot-of _ _ _ (is-true c.is_slot.ensures w.if-is_slot.true), omega arith)
  | else-is_slot w ↦ not-both c.if-field-flags.true (w.value-is ∙ w.if-is_slot.false)
]

pub runs-requires : goal.runs-requires
runs-requires c = let yes = c.if-field-s.true in elim c.if-field-flags.branch [
  | then-field-flags w ↦ elim c.if-is_slot.branch [
    | then-is_slot v ↦ (slot-of _ _ _ (is-true c.is_slot.ensures v.if-is_slot.true))
    | else-is_slot v ↦ not-both w.if-field-flags.true (v.value-is ∙ v.if-is_slot.false)
  ]
  | else-field-flags w ↦ not-both yes (w.value-is ∙ w.if-field-flags.false)
]

pub returns-then-field-s : goal.returns-then-field-s
unfolding follows_by
returns-then-field-s c = let yes = c.if-field-s.true in elim c.if-field-flags.branch [
  | then-field-flags w ↦ elim c.if-is_slot.branch [
    | then-is_slot v ↦
        rw c.runs.ensures.is
        (sym (all_yes (is-true c.is_slot.ensures v.if-is_slot.true) _ ∙ all_yes (asked c.args.flags v.field.ensures.is v.value-is w.if-field-flags.true) _
        ∙ all_yes (asked c.args.s w.field-then-field-flags.ensures.is w.value-is yes) _ ∙ all_one _))
    | else-is_slot v ↦ not-both w.if-field-flags.true (v.value-is ∙ v.if-is_slot.false)
  ]
  | else-field-flags w ↦ not-both yes (w.value-is ∙ w.if-field-flags.false)
]

pub returns-else-field-s : goal.returns-else-field-s
unfolding follows_by
returns-else-field-s c = let no = c.if-field-s.false in elim c.if-field-flags.branch [
  | then-field-flags w ↦ no ∙ sym (all-out _ 2 (asked c.args.s w.field-then-field-flags.ensures.is w.value-is no))
  | else-field-flags w ↦ elim c.if-is_slot.branch [
    | then-is_slot v ↦ no ∙ sym (all-out _ 1 (asked c.args.flags v.field.ensures.is v.value-is w.if-field-flags.false))
    | else-is_slot v ↦ no ∙ sym (all-out _ 0 (is-false c.is_slot.ensures v.if-is_slot.false))
  ]
]
