use Rattle.std.proofs.Common.{rules, tests, ◌∙◌}
use Rattle.std.proofs.lemmas.Iterator.{YieldsList-from_slice}
use Rattle.std.proofs.lemmas.Iterator.Search.{any_from_yields_List}
use Rattle.std.proofs.lemmas.Iterator.Adapters.{serves_from_places}
use Rattle.std.proofs.lemmas.List.{get_or_read}
use Rattle.meaning.specs.Lists.{some}
use Rattle.meaning.specs.Layout.{taken}
use Rattle.meaning.specs.Entries.{entry_granules}
use Prim.Native.Nat.{ℕ}
use Rattle.space.specs.OnDisk.{RunsOnDisk}
use Rattle.back_taken.proofs.Steps.{found-in}
use Rattle.back_taken.proofs.any_taken.Goals as goal

pub any-requires-clause-callable : goal.any-requires-clause-callable
any-requires-clause-callable c =
    let disk = c.args.disk.now in
    serves_from_places (YieldsList-from_slice c.args.entries.now cc) (λ x q r. search (rules, tests))
    (λ x k l e. let o : RunsOnDisk disk.g disk.image.now x.now = rw (get_or_read c.args.entries.now k x.now l e 0) (c.requires.entry k l) in search rules)

pub returns : goal.returns
returns c =
    let disk = c.args.disk.now in
    any_from_yields_List (λ (s : ℕ). some (taken disk.g disk.image.now) (entry_granules disk.g disk.image.now s)) c.any.new.self _ c.any.result
    c.any.ensures.ran (YieldsList-from_slice c.args.entries.now cc) (λ x b q k. search (rules, tests))
    ∙ found-in (taken disk.g disk.image.now) (entry_granules disk.g disk.image.now) c.args.entries.now
