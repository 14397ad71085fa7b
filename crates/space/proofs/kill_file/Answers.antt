use Rattle.seek.proofs.Frame.{same-sound, same-used}
use Rattle.space.proofs.Folds.{freed-same, killed}
use Rattle.space.proofs.kill_file.Goals as goal

pub kill_chain-requires : goal.kill_chain-requires
kill_chain-requires c = let p = c.requires in let e = freed-same _ c.slots-most.result p.0 p.1 c.free_chain.ensures in
    (same-sound _ _ _ p.0 e, same-used _ _ _ p.0.room e p.1)

pub returns : goal.returns
returns c = let p = c.requires in killed _ p.0 p.1 c.slots-most.ensures.is c.free_chain.ensures c.kill_chain.ensures
