use Rattle.std.proofs.Common.{rules, tests, arith, refl, ap, ◌∙◌}
use Rattle.std.proofs.lemmas.Iterator.{YieldsList-from_range}
use Rattle.std.proofs.lemmas.Iterator.Search.{any_from_yields_List}
use Rattle.meaning.specs.Lists.{some, each}
use Rattle.meaning.specs.Layout.{taken}
use Rattle.meaning.specs.Entries.{run_granules}
use Prim.Native.Nat.{ℕ}
use Rattle.back_taken.proofs.Steps.{found-in, numbers}
use Rattle.back_taken.proofs.OnDisk.{runs-are}
use Rattle.back_taken.proofs.entry_taken.Goals as goal

pub returns : goal.returns
returns c =
    let disk = c.args.disk.now in
    let n = c.runs-n in
    any_from_yields_List (λ (k : ℕ). some (taken disk.g disk.image.now) (run_granules disk.g disk.image.now c.args.s k)) c.any.new.self _ c.any.result
    c.any.ensures.ran (YieldsList-from_range 0 n.result n.result refl (omega arith)) (λ x b q k. search (rules, tests))
    ∙ found-in (taken disk.g disk.image.now) (run_granules disk.g disk.image.now c.args.s) _
    ∙ ap (some _) (ap (each _) (numbers 0 n.result) ∙ runs-are _ _ _ n.ensures.is)
