-- Kill, as the call answers it
use Rattle.std.specs.Prelude.{◌≡◌, ◌≢◌, true, not, List, [], ℕ, ◌+◌, length}
use Rattle.std.proofs.Common.{ap, sym, arith}
use Rattle.meaning.specs.Layout.{taken, granules}
use Rattle.meaning.specs.Entries.{name_of}
use Rattle.meaning.specs.Chain.{chain, owned}
use Rattle.meaning.specs.Consistent.{consistent}
use Rattle.meaning.specs.Free.{free_granules, reserved}
use Rattle.meaning.specs.LookUp.{named}
use Rattle.meaning.specs.Kill.{kill, killed}
use Rattle.meaning.specs.Plain.{nothing, plain}
use Rattle.promises_words.specs.Untouched.{hush, beyond}
use Rattle.meaning.specs.declared.Geometry.{Geometry}
use Rattle.meaning.specs.declared.Handle.{Handle}
use Rattle.lists.specs.Members
use Rattle.lists.specs.Counting
use Rattle.laws.specs.Facts
use Rattle.laws.specs.Places
use Rattle.laws.specs.Change
use Rattle.laws.specs.Others
use Rattle.laws.specs.Kill
use Rattle.laws.specs.Touch
use Rattle.laws.specs.Passed

pub record KillMeans (g : Geometry) (d d' : List ℕ) (p : ℕ) : Type 0 where
  pub long : length d' ≡ length d
  pub consistent' : consistent g d' ≡ true
  pub reserved' : reserved g d' ≡ reserved g d
  pub free : length (free_granules g d') ≡ length (free_granules g d) + length (owned g d p)
  pub gone : plain g d' (name_of g d p) ≡ nothing
  pub others : (n : List ℕ) → n ≢ name_of g d p → hush (plain g d' n) ≡ hush (plain g d n)
  pub beyond' : (n : List ℕ) → n ≢ name_of g d p → beyond g d' n ≡ beyond g d n
  pub names' : (n : List ℕ) → n ≢ name_of g d p → named g d' n ≡ named g d n
  pub touch : Touch.Touch g (chain g d p) [] d d'

kill-free : (g : Geometry) (d : List ℕ) (c : Facts.Sound g d) (k : Places.Fits g d) (p : ℕ) (f : Facts.IsFile g d p)
    → length (free_granules g (killed g d p)) ≡ length (free_granules g d) + length (owned g d p)
unfolding free_granules
kill-free g d c k p f =
    Counting.more (λ n. not (taken g d n)) (λ n. not (taken g (killed g d p) n)) (owned g d p) (Members.count-distinct 0 (granules g)) (c.single p f)
    (λ n i. Members.in_count n 0 (granules g) (omega arith) (omega (arith, Change.owned-lt g d c p n f i)))
    (λ n i. ap not (Members.T_true {b = taken g d n} (Change.owned-taken g d c p n f i)))
    (λ n i. ap not (Members.no_false {b = taken g (killed g d p) n} (Kill.kill-freed g d c k p f n i)))
    (λ n i o. ap not (Kill.kill-keeps g d c k p f n (omega (arith, Members.count-in n 0 (granules g) i)) o))

pub kill-means : (g : Geometry) (d : List ℕ) (h : Handle) → (kill g d h).0.refusal.number ≡ 0 → KillMeans g d (kill g d h).1 h.slot
unfolding kill
kill-means g d h e =
    let w = (Passed.holds g d h _ 1 [] e).0 in
    let p = h.slot in
    let x = Kill.kill-change g d w.sound w.fits p w.file w.user in
    let n = Kill.no-file g d w.sound w.fits p w.file in
    let s : Others.Same g d (killed g d p) p = λ i a b c. Kill.kill-same g d w.sound w.fits p w.file i a in
    rw e (record {
      long = Kill.kill-length g d w.sound w.fits p w.file;
      consistent' = Facts.back g (killed g d p) (Change.changed g d (killed g d p) w.sound p x);
      reserved' = Others.reserved-stays g d (killed g d p) w.sound p x;
      free = kill-free g d w.sound w.fits p w.file;
      gone = Others.gone-plain g d (killed g d p) w.sound p x w.file n;
      others = λ m k. Others.others-plain g d (killed g d p) w.sound p x s m (λ f q. k (sym q)) (λ f. absurd (n f));
      touch = Touch.touch-killed g d w.sound p w.file;
      beyond' = λ m k. Others.beyond-plain g d (killed g d p) w.sound p x s m (λ f q. k (sym q)) (λ f. absurd (n f));
      names' = λ m k. Others.names-stay g d (killed g d p) w.sound p x m (λ f q. k (sym q)) (λ f. absurd (n f));
    })
