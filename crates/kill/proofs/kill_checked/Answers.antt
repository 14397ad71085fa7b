use Rattle.kill.proofs.Killing.{by-range, refused, accepted}
use Rattle.meaning.specs.Refusals.{protected}
use Rattle.passed.proofs.Checked.{passed, walks, handed}
use mathlib.Core.Path.{refl}
use mathlib.Core.List.{[], ◌∷◌}
use Rattle.kill.proofs.kill_checked.Goals as goal

pub returns-in-Err : goal.returns-in-Err
returns-in-Err c = let e = c.in-Err.ensures in
    refused _ _ _ (handed _ _ _ c.requires e.0) (by-range _ _ _ c.in_range-ranged.ensures refl) e.1

pub kill_file-requires : goal.kill_file-requires
kill_file-requires c = let a = c.args in walks a.g a.image.now a.h c.in_range-ranged.result
    (passed a.g a.image.now a.h c.in_range-ranged.result (protected a.g a.image.now 1 a.h ∷ []) refl refl c.in_default.ensures)

pub returns : goal.returns
returns c = accepted _ _ _ (handed _ _ 0 c.requires c.accepted.ensures) (by-range _ _ _ c.in_range-ranged.ensures refl) c.in_default.ensures
    c.kill_file.ensures
