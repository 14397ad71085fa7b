-- The theorems to the types of `Statement`.
use Rattle.std.specs.Prelude.{◌≡◌, refl, Bool, true, false, not, cond, List, [], ℕ, ◌/◌, T, length}
use Rattle.meaning.specs.Lists.{times}
use Rattle.meaning.specs.Layout.{byte, granule_bytes, granules_for, directory_granules}
use Rattle.meaning.specs.Entries.{size_of, keeps_space}
use Rattle.meaning.specs.Chain.{owned}
use Rattle.meaning.specs.Drop.{drop_one}
use Rattle.meaning.specs.Trim.{trim, surplus}
use Rattle.meaning.specs.declared.Geometry.{Geometry}
use Rattle.meaning.specs.declared.Handle.{Handle}
use Rattle.lists.specs.Members
use Rattle.lists.specs.Members.{In}
use Rattle.lists.specs.Sizes
use Rattle.laws.specs.Change
use Rattle.laws.specs.Passed
use Rattle.promises_bytes.specs.Statement.{DropSteps, TrimsBytes, EveryTrim, EveryWrite}
use Rattle.promises_bytes.specs.Steps
use Rattle.promises_bytes.specs.Behind

module _ (g : Geometry) (d : List ℕ) (h : Handle) (w : Passed.Holds g d h) where
  abbrev p : ℕ
  p = h.slot

  abbrev left : List ℕ
  left = times (surplus g d p) (drop_one g p) d

  steps : DropSteps g p (surplus g d p) d left
  steps =
      Steps.drop-steps g p (surplus g d p) d w.sound w.fits w.file w.user
      (Sizes.surplus-fits (Sizes.bytes_pos g) _ _ (Change.filed-at g d w.sound p w.file).fits)

  outside : (i : ℕ) → (In (i / granule_bytes g) (directory_granules g d) → ⊥) → byte left i ≡ byte d i
  outside =
      Steps.drops-outside g p (surplus g d p) d w.sound w.fits w.file w.user
      (Sizes.surplus-fits (Sizes.bytes_pos g) _ _ (Change.filed-at g d w.sound p w.file).fits)

  either : (b : Bool) → (i : ℕ) → (In (i / granule_bytes g) (directory_granules g d) → ⊥) → byte (cond b left d) i ≡ byte d i
  either true i o = outside i o
  either false i o = refl

pub every-trim : EveryTrim
unfolding trim
every-trim g d h e =
    let w = (Passed.holds g d h _ 4 [] e).0 in
    record {
      kept = λ t. rw (e, Members.T_true {b = keeps_space g d h.slot} t) refl;
      drops = λ t. rw (e, Members.no_false {b = keeps_space g d h.slot} t) (steps g d h w);
      outside = rw e (either g d h w (not (keeps_space g d h.slot)));
    }

pub every-write : EveryWrite
every-write = Behind.writes
