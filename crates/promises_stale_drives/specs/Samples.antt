-- That the premises can be met: in each drive the disk of `promises_stale`, whose free granules are full of 55H. A list on drive 1 creates its file, writes
-- two bytes behind a gap and reads all five; in between a list on drive 0 writes to a file of the same name.
use Rattle.std.specs.Prelude.{◌≡◌, refl, true, List, [], ◌∷◌, ◌++◌}
use Rattle.std.proofs.Common.{arith}
use Rattle.meaning.specs.Amount.{one_record}
use Rattle.meaning.specs.declared.Mode.TheVariants.{Sequential}
use Rattle.meaning_table.specs.Samples.{puls}
use Rattle.together.specs.Statement.{Step, creates, moves, writes, known, Turn, one, two, none, left, right}
use Rattle.drives.specs.Pair.{Pair, pair}
use Rattle.drives.specs.ByName.{create}
use Rattle.drives.specs.Cases.{opened}
use Rattle.promises_drives.specs.Statement.{zeroth, first}
use Rattle.promises_drives.specs.Interleaved.{read_of, write_of, answer, DriveWorld, start, after, Accepted}
use Rattle.promises_stale.specs.Samples.{tiny, used, new, read, mine, good, no-file, brought}
use Rattle.promises_stale_drives.specs.Statement.{handed_back, NoneStaleOn}
use Rattle.promises_stale_drives.specs.Kept.{nothing-stale-on}

abbrev bench : Pair
bench = pair tiny used tiny used

abbrev theirs : List Step
theirs = creates new true ∷ writes one_record Sequential 0 (5 ∷ 6 ∷ []) ∷ []

abbrev before : List Turn
before =
    one (creates new true) ∷ one (moves 0 3) ∷ one (writes one_record Sequential 0 (7 ∷ 8 ∷ [])) ∷ two (creates new true)
    ∷ two (writes one_record Sequential 0 (5 ∷ 6 ∷ [])) ∷ one (moves 0 0) ∷ []

accepted : Accepted 1 0 puls puls (start bench) (before ++ (one read ∷ []))
unfolding opened known answer create read_of write_of
accepted = ((tt, refl), ((tt, refl), ((tt, refl), ((tt, refl), ((tt, refl), ((tt, refl), ((tt, refl), tt)))))))

pub none-stale : NoneStaleOn 1 0 puls puls [] (start bench) (before ++ (one read ∷ []))
none-stale =
    nothing-stale-on bench 1 0 first zeroth puls puls (λ e. absurd (let z : ⊥ = omega (arith, e) in z)) good no-file mine theirs (before ++ (one read ∷ []))
    (left (left (left (right (right (left (left none))))))) brought (λ n hs. ((omega arith, omega arith), tt), (λ n hs. (refl, tt), tt)) accepted

-- the world in which it reads
abbrev w : DriveWorld
w = after 1 0 puls puls (start bench) before

pub read_is : handed_back w.drives 1 w.first.handles read ≡ 0 ∷ 0 ∷ 0 ∷ 7 ∷ 8 ∷ []
unfolding opened answer create read_of write_of
read_is = refl
