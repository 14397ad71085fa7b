-- An accepted bring back: the plain list of named files gains that file, and every other is as it was
use Rattle.std.specs.Prelude.{◌≡◌, ◌≢◌, ℕ, ◌+◌, length}
use Rattle.std.proofs.Math.Path.{ap, subst}
use Rattle.std.proofs.Common.{sym, ◌∙◌, arith}
use Rattle.std.proofs.Math.Bool.{not}
use mathlib.Core.List.{List, [], ◌∷◌}
use Rattle.meaning.specs.Layout.{taken, granules}
use Rattle.meaning.specs.Names.{hash}
use Rattle.meaning.specs.Entries.{name_of}
use Rattle.meaning.specs.Chain.{chain, owned}
use Rattle.meaning.specs.Free.{free_granules}
use Rattle.meaning.specs.LookUp.{named}
use Rattle.meaning.specs.BringBack.{bring_back}
use Rattle.meaning.specs.Plain.{Found, found, nothing, plain, back_as}
use Rattle.meaning.specs.declared.Geometry.{Geometry}
use Rattle.lists.specs.Members
use Rattle.lists.specs.Counting
use Rattle.laws.specs.Facts
use Rattle.laws.specs.Facts.{IsFile, Sound}
use Rattle.laws.specs.Places
use Rattle.laws.specs.Change
use Rattle.laws.specs.Named
use Rattle.laws.specs.Others
use Rattle.laws.specs.Touch
use Rattle.laws.specs.Bytes
use Rattle.laws.specs.Marking
use Rattle.laws.specs.BringBack
use Rattle.laws.specs.BringBack.{Back}
use Rattle.laws.specs.Words.{words}
use Rattle.promises.specs.Promises.{Becomes, Good, Stays}
use Rattle.promises.specs.Changing
use Rattle.promises.specs.Staying
use Rattle.promises_back.specs.Statement.{BringsBack}
use Rattle.promises_back.specs.Passing

module _ (g : Geometry) (d : List ℕ) (c : Sound g d) (k : Places.Fits g d) (s : ℕ) (w : Back g d s) where
  abbrev d' : List ℕ
  d' = Marking.marking g 1 (hash (name_of g d s)) d (owned g d s) (chain g d s)

  change : Change.Change g d d' s
  change = BringBack.back-change g d c k s w

  sound' : Sound g d'
  sound' = Change.changed g d d' c s change

  no-file : IsFile g d s → ⊥
  no-file f = w.dead (Facts.file-in-use g d s f)

  same : Others.Same g d d' s
  same = λ i a b e. BringBack.back-same g d c k s w i a

  here : named g d' (name_of g d s) ≡ s ∷ []
  here = Named.named-at g d' sound' s (name_of g d s) (BringBack.back-file g d c k s w) (BringBack.back-name g d c k s w)

  free : length (free_granules g d) ≡ length (free_granules g d') + length (owned g d s)
  unfolding free_granules
  free =
      Counting.more (λ n. not (taken g d' n)) (λ n. not (taken g d n)) (owned g d s) (Members.count-distinct 0 (granules g)) w.whole'.single
      (λ n i. Members.in_count n 0 (granules g) (omega arith) (omega (arith, (BringBack.back-marks g d c k s w).granules' n i)))
      (λ n i. ap not (Members.T_true {b = taken g d' n} (BringBack.back-taken g d c k s w n i)))
      (λ n i. ap not (Members.no_false {b = taken g d n} (w.free n i)))
      (λ n i o. ap not (sym (BringBack.back-keeps g d c k s w n (omega (arith, Members.count-in n 0 (granules g) i)) o)))

  becomes : Becomes g d d' (name_of g d s) nothing (found (back_as g d s))
  unfolding back_as
  becomes =
      let own : plain g d' (name_of g d s) ≡ found (back_as g d s) =
      Named.plain-is g d' sound' s (name_of g d s) (BringBack.back-file g d c k s w) (BringBack.back-name g d c k s w) ∙ ap {B = Found} found
      (BringBack.back-told g d c k s w) in
      let away : (m : List ℕ) → m ≢ name_of g d s → IsFile g d' s → name_of g d' s ≢ m = λ m n f e. n (sym e ∙ BringBack.back-name g d c k s w) in
      let touch : Touch.Touch g (chain g d' s) [] d d' =
      subst (λ (xs : List ℕ). Touch.Touch g xs [] d d') (sym (BringBack.back-chain g d c k s w))
      (Touch.touch-marking g 1 (hash (name_of g d s)) d (owned g d s) (chain g d s) (omega arith) (BringBack.back-marks g d c k s w).granules') in
      let l = Changing.left_after g d d' (name_of g d s) k s here touch in
      record {
        before = Named.plain-none g d (name_of g d s) w.new;
        after = own;
        list = Changing.one_list g d d' (name_of g d s) (found (back_as g d s)) own
            (λ m n. Others.others-plain g d d' c s change same m (λ f. absurd (no-file f)) (away m n));
        others = λ m n. Others.beyond-plain g d d' c s change same m (λ f. absurd (no-file f)) (away m n);
        slots' = λ m n. Others.names-stay g d d' c s change m (λ f. absurd (no-file f)) (away m n);
        untouched = l.untouched;
        spare = l.spare;
        free = omega (arith, free);
      }

  served : BringsBack g d d' s (length (chain g d s)) (length (owned g d s))
  served = record {
    becomes = becomes;
    here = here;
    chain' = BringBack.back-chain g d c k s w;
    owned' = BringBack.back-owned g d c k s w;
    slots = ap length (sym (BringBack.back-chain g d c k s w));
    granules' = ap length (sym (BringBack.back-owned g d c k s w));
    flags = BringBack.back-flags g d c k s w;
    bytes = BringBack.back-byte g d c k s w;
    hits = BringBack.back-hit g d c k s w;
    gat = BringBack.back-keeps g d c k s w;
    data' = BringBack.back-same g d c k s w;
  }

  stayed : Good g d → Stays g d d'
  stayed o = Staying.stays_by g d o d' (BringBack.back-length g d c k s w) (Facts.back g d' sound') (Others.reserved-stays g d d' c s change)
      (Bytes.small-marking g d k 1 (hash (name_of g d s)) (owned g d s) (chain g d s) (omega arith)
      (Bytes.hash-small (name_of g d s) (Bytes.name-small (name_of g d s) w.whole'.name)) (Bytes.bytes_small d o.bytes))

-- the same of what the call answers
module _ (g : Geometry) (d : List ℕ) (s : ℕ) (e : (bring_back g d s).0.refusal.number ≡ 0) where
  pub back-serves : BringsBack g d (bring_back g d s).1 s (bring_back g d s).0.slots (bring_back g d s).0.granules
  unfolding bring_back Marking.marking words
  back-serves = let w = Passing.back-accepted g d s e in rw e (served g d w.sound w.fits s w.back)

  pub back-stays : Good g d → Stays g d (bring_back g d s).1
  unfolding bring_back Marking.marking words
  back-stays o = let w = Passing.back-accepted g d s e in rw e (stayed g d w.sound w.fits s w.back o)
