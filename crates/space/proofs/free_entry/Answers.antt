use Rattle.space.proofs.free_entry.Goals as goal

pub mark_entry-requires : goal.mark_entry-requires
mark_entry-requires c = let p = c.requires in (p.0.room, record { slot = p.1.slot; run = λ k h. p.0.run _ k p.1 h })
