-- What is lent too short: 12, after 1 and the faults. c is what the check answered.
use Rattle.std.specs.Prelude.{cond}
use Rattle.meaning.specs.Refusal.{unplaced, naming}
use Rattle.meaning.specs.Refusals.{accepted}
use Rattle.meaning.specs.declared.Refusal.{Refusal}

unfoldable pub short : Refusal → Refusal
short c = cond (accepted c.number) (unplaced 12) c

-- compare: 12 after 1 and the faults of both images; it names neither
unfoldable pub short_of_two : Refusal → Refusal → Refusal
short_of_two c c' = cond (accepted c.number) (cond (accepted c'.number) (unplaced 12) (naming 2 c')) (naming 1 c)
