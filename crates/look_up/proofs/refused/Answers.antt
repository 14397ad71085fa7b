use Rattle.look_up.proofs.refused.Goals as goal

pub returns : goal.returns
returns c = λ i. record { refusal = c.args.refusal; handle = c.no_handle.ensures i }
