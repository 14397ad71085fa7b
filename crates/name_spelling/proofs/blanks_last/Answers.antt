use native.Mathlib.Omega.{arith}
use Rattle.name_spelling.proofs.Padded.{eight-begins, eight-room}
use Rattle.name_spelling.proofs.blanks_last.Goals as goal

pub overflow_add-letters : goal.overflow_add-letters
overflow_add-letters c = let z = eight-room c.args.name.now c.requires.0
    (λ i. omega (arith, c.shared_slice_known-1.given i)) c.requires.1 in
    let e = c.eight.ensures.is in omega arith

pub returns : goal.returns
returns c = rw c.eight.ensures.is (eight-begins c.args.name.now c.requires.0
    (λ i. omega (arith, c.shared_slice_known-1.given i)) c.requires.1)
