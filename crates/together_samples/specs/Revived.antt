-- Why demand 3 is about accepted interleavings only: a handle of a killed file is alive again if its slot holds a file of its name once
-- more, and whether it does can depend on the other list. Accepted in one order is not accepted in all.
use Rattle.std.specs.Prelude.{◌≡◌, refl, true, List, [], ◌∷◌}
use Rattle.meaning.specs.Calls.{number, leaves}
use Rattle.meaning_table.specs.Samples.{opened, puls, leer}
use Rattle.together.specs.Statement.{Step, creates, trims, kills, known, answer, Turn, one, two, Interleaving, none, left, right, start, answered, after}
use Rattle.together.specs.Statement.{Accepted}
use Rattle.together_samples.specs.Slots.{tiny, blank, new}

-- PULS01/DAT is created, killed and created again, and then trimmed by its first handle; LEER is created
abbrev mine : List Step
mine = creates new true ∷ kills 0 ∷ creates new true ∷ trims 0 ∷ []

abbrev theirs : List Step
theirs = creates new true ∷ []

-- theirs last: the slot is PULS01/DAT's again, and every call is accepted
abbrev theirs_last : List Turn
theirs_last = one (creates new true) ∷ one (kills 0) ∷ one (creates new true) ∷ one (trims 0) ∷ two (creates new true) ∷ []

last : Interleaving mine theirs theirs_last
last = left (left (left (left (right none))))

pub accepted : Accepted tiny puls leer (start blank) theirs_last
unfolding opened known answer number leaves
accepted = ((tt, refl), ((tt, refl), ((tt, refl), ((tt, refl), ((tt, refl), tt)))))

-- theirs after the kill: LEER has the slot, and the first handle of PULS01/DAT is stale
abbrev until_trim : List Turn
until_trim = one (creates new true) ∷ one (kills 0) ∷ two (creates new true) ∷ one (creates new true) ∷ []

between : Interleaving mine theirs (one (creates new true) ∷ one (kills 0) ∷ two (creates new true) ∷ one (creates new true) ∷ one (trims 0) ∷ [])
between = left (left (right (left (left none))))

pub stale : (answered tiny puls leer (after tiny puls leer (start blank) until_trim) (one (trims 0))).number ≡ 7
unfolding opened answer number leaves
stale = refl
