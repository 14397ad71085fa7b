use Rattle.meaning.specs.Listing.{no_file}
use mathlib.Core.Path.{ap, ◌∙◌}
use Rattle.listing.proofs.Files.{telling-start, telling-more, telling-here, telling-end}
use Rattle.listing.proofs.told.Goals as goal

pub loop-s-init : goal.loop-s-init
loop-s-init c = telling-start _ _ _

pub returns-then-left-eq0 : goal.returns-then-left-eq0
returns-then-left-eq0 c = c.tell.ensures ∙ telling-here _ _ c.in-Some.ensures c.if-left-eq0.true c.loop-s.invariant

pub loop-s-preserved : goal.loop-s-preserved
loop-s-preserved c = telling-more _ _ c.in-Some.ensures _ _ c.if-left-eq0.false c.loop-s.invariant

pub returns : goal.returns
returns c = c.no_file.ensures ∙ ap no_file c.none.ensures ∙ telling-end _ _ c.in_default.ensures c.loop-s.invariant
