use native.Mathlib.Omega.{arith}
use Rattle.lists.specs.Tests.{is-false, is-true}
use Rattle.check_whole.proofs.SlotBySlot.{room_of}
use Rattle.check_whole.proofs.Whole.{no_length, no-directory, way-slots, way-met, way-names}
use Rattle.check_whole.proofs.consistent.Goals.{then-among-ne0-via-then-among-ne0, then-among-ne0-via-else-among-ne0+then-not-slots_hold}
use Rattle.check_whole.proofs.consistent.Goals.{then-among-ne0-via-else-among-ne0+else-not-slots_hold+then-not-all_met}
use Rattle.check_whole.proofs.consistent.Goals as goal

pub returns-then-not-length_holds : goal.returns-then-not-length_holds
returns-then-not-length_holds c = no_length _ _ (is-false c.length_holds.ensures c.if-not-length_holds.true)

pub invariant_of-disk : goal.invariant_of-disk
invariant_of-disk c = record { room = room_of _ _ c.requires (is-true c.length_holds.ensures c.if-not-length_holds.false) }

pub returns-then-among-ne0 : goal.returns-then-among-ne0
returns-then-among-ne0 c = let room = room_of _ _ c.requires (is-true c.length_holds.ensures c.if-not-length_holds.false) in
    let m = c.gat_map.ensures in let b = c.directory_bits-bits.ensures in let a = c.among.ensures in elim c.then-among-ne0.branch [
      | then-among-ne0-via-then-among-ne0 w ↦ no-directory _ _ _ room m b a w.if-among-ne0.true
      | then-among-ne0-via-else-among-ne0+then-not-slots_hold w ↦
          way-slots _ _ room m b a w.if-among-ne0.false c.copy_hit.ensures w.slots_hold.ensures w.if-not-slots_hold.true
      | then-among-ne0-via-else-among-ne0+else-not-slots_hold+then-not-all_met w ↦
          way-met _ _ room m b a w.if-among-ne0.false c.copy_hit.ensures w.slots_hold.ensures w.if-not-slots_hold.false w.all_met.ensures
          w.if-not-all_met.true
    ]

pub returns : goal.returns
returns c = let long = is-true c.length_holds.ensures c.if-not-length_holds.false in
    way-names _ _ (room_of _ _ c.requires long) c.gat_map.ensures c.directory_bits-bits.ensures c.among.ensures c.if-among-ne0.false c.copy_hit.ensures
    c.slots_hold.ensures c.if-not-slots_hold.false c.all_met.ensures c.if-not-all_met.false long (λ i. omega (arith, c.type_inv.image i))
    c.names_differ.ensures
