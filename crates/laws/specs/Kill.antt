-- Kill: what is left is consistent, every other file is as it was, and the name is gone
use Rattle.std.specs.Prelude.{◌≡◌, not, List, ℕ, ◌/◌, ◌<◌, length, T}
use Rattle.std.proofs.Common.{arith}
use Rattle.meaning.specs.Layout.{byte, is_slot, taken, field, granules, hit, directory_granules, granule_bytes, above_ten}
use Rattle.meaning.specs.Entries.{in_use, system}
use Rattle.meaning.specs.Chain.{chain, owned}
use Rattle.meaning.specs.Kill.{killed}
use Rattle.meaning.specs.declared.Geometry.{Geometry}
use Rattle.lists.specs.Members.{In}
use Rattle.laws.specs.Bits
use Rattle.laws.specs.Facts
use Rattle.laws.specs.Facts.{IsFile, Sound}
use Rattle.laws.specs.Frame.{Agree}
use Rattle.laws.specs.Places
use Rattle.laws.specs.Change
use Rattle.laws.specs.Change.{entries_of, granules_of}
use Rattle.laws.specs.Marking
use Rattle.laws.specs.Words.{words}

-- kill clears: its stores are, by what the words mean, a marking with 0
module _ (g : Geometry) (d : List ℕ) (c : Sound g d) (k : Places.Fits g d) (p : ℕ) (f : IsFile g d p) where
  pub kill-marks : Marking.Marks g d 0 (owned g d p) (chain g d p)
  kill-marks = record {
    dir = Places.dir g d c.dir;
    fits = k;
    digit' = omega arith;
    granules' = λ n i. Change.owned-lt g d c p n f i;
    slots' = λ x i. (Change.members g d c p x f i).slot;
  }

  kill-above : above_ten g (killed g d p) ≡ above_ten g d
  unfolding Marking.marking words
  kill-above = Marking.mark-above g d 0 0 (owned g d p) (chain g d p) kill-marks

  kill-agrees : (x : ℕ) → T (is_slot g d x) → (In x (chain g d p) → ⊥) → Agree g d (killed g d p) x
  unfolding Marking.marking words
  kill-agrees = Marking.mark-agrees g d 0 0 (owned g d p) (chain g d p) kill-marks

  kill-hits : (x : ℕ) → T (is_slot g d x) → (In x (chain g d p) → ⊥) → hit g (killed g d p) x ≡ hit g d x
  unfolding Marking.marking words
  kill-hits = Marking.mark-hits g d 0 0 (owned g d p) (chain g d p) kill-marks

  pub kill-same : (i : ℕ) → (In (i / granule_bytes g) (directory_granules g d) → ⊥) → byte (killed g d p) i ≡ byte d i
  unfolding Marking.marking words
  kill-same = Marking.mark-same g d 0 0 (owned g d p) (chain g d p) kill-marks

  pub kill-length : length (killed g d p) ≡ length d
  unfolding Marking.marking words
  kill-length = Marking.mark-length g d 0 0 (owned g d p) (chain g d p) kill-marks

  kill-unhit : (x : ℕ) → In x (chain g d p) → hit g (killed g d p) x ≡ 0
  unfolding Marking.marking words
  kill-unhit = Marking.mark-hit g d 0 0 (owned g d p) (chain g d p) kill-marks

  pub kill-gone : (x : ℕ) → In x (chain g d p) → T (in_use g (killed g d p) x) → ⊥
  unfolding Marking.marking words
  kill-gone x i = rw (Marking.mark-flags g d 0 0 (owned g d p) (chain g d p) kill-marks x i, Bits.digit-same (field g d x 0) 4 0 (omega arith)) (λ t. t)

  pub kill-keeps : (n : ℕ) → n < granules g → (In n (owned g d p) → ⊥) → taken g (killed g d p) n ≡ taken g d n
  unfolding Marking.marking words
  kill-keeps = Marking.mark-keeps g d 0 0 (owned g d p) (chain g d p) kill-marks

  pub kill-freed : (n : ℕ) → In n (owned g d p) → T (taken g (killed g d p) n) → ⊥
  unfolding Marking.marking words
  kill-freed n i = rw (Marking.mark-granule g d 0 0 (owned g d p) (chain g d p) kill-marks n i) (λ t. t)

  pub no-file : IsFile g (killed g d p) p → ⊥
  no-file h = kill-gone p (Change.chain_head g d c p f.slot) (Facts.file-in-use g (killed g d p) p h)

  no-entry : {A : Type 0} (x : ℕ) → In x (entries_of g (killed g d p) p) → A
  no-entry x i = absurd (no-file (Change.entries-in g (killed g d p) p x i).0)

  no-granule : {A : Type 0} (n : ℕ) → In n (granules_of g (killed g d p) p) → A
  no-granule n i = absurd (no-file (Change.granules-in g (killed g d p) p n i).0)

  pub kill-change : T (not (system g d p)) → Change.Change g d (killed g d p) p
  kill-change u = record {
    above = kill-above;
    agrees = λ x t n m. kill-agrees x t (λ i. n (rw (Change.entries_of-is g d p f) i));
    hits = λ x t n m. kill-hits x t (λ i. n (rw (Change.entries_of-is g d p f) i));
    gone = λ x i n. kill-gone x (Change.entries-in g d p x i).1;
    unhit = λ x i n. kill-unhit x (Change.entries-in g d p x i).1;
    born = λ x i. no-entry x i;
    nonzero = λ x i. no-entry x i;
    keeps = λ n h a b. kill-keeps n h (λ i. a (rw (Change.granules_of-is g d p f) i));
    freed = λ n i a. kill-freed n (Change.granules-in g d p n i).1;
    fresh = λ n i. no-granule n i;
    off = λ n i j. (Change.filed-at g d c p f).off u n (Change.granules-in g d p n i).1 j;
    own = λ h. absurd (no-file h);
  }
