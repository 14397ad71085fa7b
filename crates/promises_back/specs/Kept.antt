-- The promises are kept: a theorem for each type of `Statement`
use Rattle.std.specs.Prelude.{◌≡◌, ◌≢◌, not, List, [], ◌∷◌, ℕ, length, T}
use Rattle.std.proofs.Common.{ap, sym, ◌∙◌, subst}
use Rattle.std.proofs.Math.Decide.{ℕ_discrete}
use Rattle.meaning.specs.Refusal.{unplaced}
use Rattle.meaning.specs.Layout.{fits_geometry}
use Rattle.meaning.specs.Entries.{system}
use Rattle.meaning.specs.Chain.{chain, owned}
use Rattle.meaning.specs.Kill.{kill, killed}
use Rattle.meaning.specs.BringBack.{bring_back}
use Rattle.meaning.specs.declared.Geometry.{Geometry}
use Rattle.lists.specs.Members
use Rattle.lists.specs.Members.{In}
use Rattle.laws.specs.Facts
use Rattle.laws.specs.Facts.{IsFile, Sound}
use Rattle.laws.specs.Places
use Rattle.laws.specs.Change
use Rattle.laws.specs.Kill
use Rattle.laws.specs.Steps
use Rattle.laws.specs.Frame.{Agree}
use Rattle.laws.specs.Passed
use Rattle.laws.specs.Undo
use Rattle.promises.specs.Promises.{Good, Stays}
use Rattle.promises.specs.Passing
use Rattle.promises.specs.Staying
use Rattle.promises.proofs.Kept
use Rattle.promises_back.specs.Statement.{EveryBack, Step, leaves_by, AllBring, Along, EveryState, KillUndone, EntriesBack}
use Rattle.promises_back.specs.Numbers
use Rattle.promises_back.specs.Serving
use Rattle.promises_back.specs.Passing as Back

module _ (g : Geometry) (d : List ℕ) (s : ℕ) where
  refuses : (bring_back g d s).0.refusal.number ≢ 0 → ((bring_back g d s).1 ≡ d) × ((bring_back g d s).0.slots ≡ 0) × ((bring_back g d s).0.granules ≡ 0)
  unfolding bring_back
  refuses k = (
    Passing.other-case (bring_back g d s).0.refusal.number _ d k,
    Passing.other-case (bring_back g d s).0.refusal.number _ 0 k,
    Passing.other-case (bring_back g d s).0.refusal.number _ 0 k,
  )

  stays : Good g d → Stays g d (bring_back g d s).1
  stays o = go (ℕ_discrete (bring_back g d s).0.refusal.number 0)
    where
      go : Dec ((bring_back g d s).0.refusal.number ≡ 0) → Stays g d (bring_back g d s).1
      go (yes e) = Serving.back-stays g d s e o
      go (no n) = subst (Stays g d) (sym (refuses n).0) (Staying.stays_same g d o)

pub every_back : EveryBack
every_back g d s = record { stays = stays g d s; serves = Serving.back-serves g d s; refuses = refuses g d s; numbers = Numbers.back-numbers g d s }

along : (g : Geometry) (d₀ d : List ℕ) → Stays g d₀ d → (cs : List Step) → AllBring cs → Along g d₀ d cs
unfolding leaves_by
along g d₀ d s [] b = s
along g d₀ d s (Step.calls c ∷ cs) b = (
  s,
  Kept.every_call g d c,
  along g d₀ (leaves_by g d (Step.calls c))
      (Kept.stays_after g d₀ d (leaves_by g d (Step.calls c)) s (Staying.stays g d s.good c b.0)) cs b.1,
)
along g d₀ d s (Step.brings x ∷ cs) b =
    (s, every_back g d x, along g d₀ (leaves_by g d (Step.brings x)) (Kept.stays_after g d₀ d (leaves_by g d (Step.brings x)) s (stays g d x s.good)) cs b)

pub every-state : EveryState
every-state g d k cs b = along g d d (Staying.stays_same g d k) cs b

-- Kill and bring back -----------------------------------------------------------------------------------------------------------------

undo : (g : Geometry) (d : List ℕ) (c : Sound g d) (k : Places.Fits g d) (p : ℕ) (f : IsFile g d p) → T (not (system g d p)) → T (fits_geometry g d)
    → bring_back g (killed g d p) p ≡ (record { refusal = unplaced 0; slots = length (chain g d p); granules = length (owned g d p) }, d)
undo g d c k p f u t =
    let fits = Members.true-T (Steps.fits-long g d (killed g d p) (Kill.kill-length g d c k p f) ∙ Members.T_true t) in
    let sound = Members.true-T (Facts.back g (killed g d p) (Change.changed g d (killed g d p) c p (Kill.kill-change g d c k p f u))) in
    Back.answers g (killed g d p) p (Back.accepts g (killed g d p) p fits sound (Undo.killed-back g d c k p f u))
    ∙ λ i. (
      record { refusal = unplaced 0; slots = ap length (Undo.killed-chain g d c k p f) i; granules = ap length (Undo.killed-owned g d c k p f) i },
      Undo.undone g d c k p f i,
    )

pub kill-undone : KillUndone
unfolding kill
kill-undone g d h e =
    let w = (Passed.holds g d h _ 1 [] e).0 in
    let t = (Passing.disk-passed g d _ e).0.fits in
    rw e (undo g d w.sound w.fits h.slot w.file w.user t)

pub entries-back : EntriesBack
unfolding kill bring_back
entries-back g d h e l a q =
    let w = (Passed.holds g d h _ 1 [] e).0 in
    let v = Back.back-accepted g l h.slot q in
    let agree : (x : ℕ) → In x (chain g d h.slot) → Agree g (killed g d h.slot) l x = rw e at a in
    rw q (Undo.as_before g d w.sound w.fits h.slot w.file l v.sound v.fits v.back agree)
