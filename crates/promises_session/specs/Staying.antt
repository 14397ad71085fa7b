-- A call of the trace leaves a good disk good, and so do any number of them, one after the other: by what is promised of the single calls
use Rattle.std.specs.Prelude.{◌≡◌, Bool, cond, List, [], ◌∷◌, ℕ, zero, suc, ◌<◌, ◌^◌, take}
use Rattle.std.proofs.Math.Bool.{true, false}
use native.Mathlib.Omega.{arith}
use Rattle.meaning.specs.Refusals.{accepted}
use Rattle.meaning.specs.Open.{open'}
use Rattle.meaning.specs.Calls as Single
use Rattle.meaning.specs.Calls.Call.{creates, writes, allots, trims, kills}
use Rattle.meaning.specs.declared.Geometry.{Geometry}
use Rattle.meaning.specs.declared.Handle.{Handle}
use Rattle.laws.specs.Bytes.{small_bytes, small-replicate}
use Rattle.promises.specs.Promises.{Good, Stays, Brings}
use Rattle.promises.proofs.Kept.{every_call, stays_after}
use Rattle.promises.specs.Staying
use Rattle.play_trace.specs.Steps.{Field, the_fill, width_of, value_of, numbers_for}
use Rattle.play_trace.specs.Packing.{StepFits, StepsFit}
use Rattle.play_trace.specs.declared.Call.{Call}
use Rattle.play_trace.specs.declared.Call.TheVariants.{Create, SequentialWrite, RandomWrite, Allot, Trim, Kill, Read}
use Rattle.play_trace.specs.declared.Step.{Step}
use Rattle.play_session.specs.Playing.{longest, undated, single, after_open, made, stepped, played}

module _ (g : Geometry) (d : List ℕ) (o : Good g d) where
  open_stays : (n : List ℕ) (len : ℕ) (c : Handle → Single.Call) → ((h : Handle) → Brings (c h)) → Stays g d (after_open g d n len c).1
  unfolding after_open
  open_stays n len c b = go (accepted (open' g d n len false 0).refusal.number)
    where
      go : (t : Bool) → Stays g d (cond t (single g d (c (open' g d n len false 0).handle)) ((open' g d n len false 0).refusal.number, d)).1
      go true = (every_call g d (c (open' g d n len false 0).handle)).stays o (b (open' g d n len false 0).handle)
      go false = Staying.stays_same g d o

  -- a step whose fill byte is a byte
  pub made-stays : (n : List ℕ) (k : ℕ) (c : Call) → value_of (numbers_for k c) the_fill < 2 ^ width_of the_fill → Stays g d (made g d n c).1
  unfolding made
  made-stays n k (Create a) f = (every_call g d (creates n (undated a.length) false)).stays o (omega arith, omega arith)
  made-stays n k (SequentialWrite a) f = open_stays n a.length _ (λ h. small_bytes _ (small-replicate longest f))
  made-stays n k (RandomWrite a) f = open_stays n a.length _ (λ h. small_bytes _ (small-replicate longest f))
  made-stays n k (Allot a) f = open_stays n longest _ (λ h. tt)
  made-stays n k Trim f = open_stays n longest trims (λ h. tt)
  made-stays n k Kill f = open_stays n longest kills (λ h. tt)
  made-stays n k (Read a) f = open_stays n a.length _ (λ h. tt)

  pub stepped-stays : (ns : List (List ℕ)) {n : ℕ} (s : Step) → StepFits n s → Stays g d (stepped g ns d s).1
  stepped-stays ns s f = made-stays _ s.file s.call (f.fits the_fill)

pub played-stays : (g : Geometry) (ns : List (List ℕ)) (n : ℕ) (ss : List Step) (d : List ℕ) → StepsFit n ss → Good g d → Stays g d (played g ns ss d).1
unfolding played
played-stays g ns n [] d f o = Staying.stays_same g d o
played-stays g ns n (s ∷ ss) d f o =
    let a = stepped-stays g d o ns s f.0 in
    stays_after g d _ _ a (played-stays g ns n ss (stepped g ns d s).1 f.1 a.good)

pub fit-take : (n k : ℕ) (ss : List Step) → StepsFit n ss → StepsFit n (take k ss)
fit-take n zero ss f = tt
fit-take n (suc k) [] f = tt
fit-take n (suc k) (s ∷ ss) f = (f.0, fit-take n k ss f.1)
