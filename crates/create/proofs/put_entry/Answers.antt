use mathlib.Core.Path.{◌≡◌, ◌∙◌}
use mathlib.Core.List.{[], ◌∷◌}
use Prim.Native.Nat.{◌/◌, ◌%◌}
use lib.ListN.{replicate}
use native.Mathlib.Omega.{arith}
use Rattle.create.proofs.Creating.{ranges, two_bytes}
use Rattle.create.proofs.put_entry.Goals as goal

pub overflow_mul-date : goal.overflow_mul-date
overflow_mul-date c = let r = ranges c.args.f c.requires.3 in omega arith

pub overflow_add-date : goal.overflow_add-date
overflow_add-date c = let r = ranges c.args.f c.requires.3 in omega arith

pub overflow_cast-entry : goal.overflow_cast-entry
overflow_cast-entry c = let r = ranges c.args.f c.requires.3 in omega arith

pub overflow_cast-entry-2 : goal.overflow_cast-entry-2
overflow_cast-entry-2 c = let r = ranges c.args.f c.requires.3 in omega arith

pub returns : goal.returns
returns c = let f = c.args.f in
    let rest : c.fill.new.self ≡ replicate 10 0xff = c.fill.ensures.after (λ y e. e) in
    let main : c.copy_from_slice.new.self ≡ f.main % 256 ∷ f.main / 256 ∷ []
    = c.copy_from_slice.ensures.after ∙ c.to_le_bytes.ensures ∙ two_bytes f.main (omega arith) in
    let worker : c.copy_from_slice-2.new.self ≡ f.worker % 256 ∷ f.worker / 256 ∷ []
    = c.copy_from_slice-2.ensures.after ∙ c.to_le_bytes-2.ensures ∙ two_bytes f.worker (omega arith) in
    rw (c.put.ensures, rest, main, worker, c.copy_from_slice-3.ensures.after, c.hash.ensures.is)
