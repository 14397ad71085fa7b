use Rattle.growth_search.proofs.Search.{clear-off, clear_at}
use borrow.Author.Tests.{le-ltb}
use Rattle.growth_search.proofs.is_clear.Goals as goal

pub returns-then-n-granules : goal.returns-then-n-granules
returns-then-n-granules c = clear_at _ _ c.granules.ensures.0 c.if-n-granules.true c.taken.ensures

pub returns-else-n-granules : goal.returns-else-n-granules
returns-else-n-granules c = rw (le-ltb _ _ c.if-n-granules.false) (clear-off _ _ c.granules.ensures.0 c.if-n-granules.false)
