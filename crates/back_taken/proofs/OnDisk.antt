-- Entries whose runs lie on the disk: their granules, and that an image with the same HIT and entries has them too.
use mathlib.Core.Path.{◌≡◌, ap}
use mathlib.Core.List.{List}
use mathlib.Core.Logic.{◌⊎◌, inl, inr}
use Prim.Native.Nat.{ℕ, zero, suc, ◌+◌, ◌≤◌, ◌<◌}
use native.Mathlib.Omega.{arith}
use lib.ListN.{get_or}
use Rattle.meaning.specs.Lists.{count, each}
use Rattle.meaning.specs.Layout.{granules}
use Rattle.meaning.specs.Entries.{runs, run_start, run_length, run_granules, entry_granules}
use Rattle.meaning.specs.declared.Geometry.{Geometry}
use Rattle.layout.specs.Room.{Room}
use Rattle.seek.proofs.Frame.{Same, same-slot, same_runs, same_start, same_len}
use Rattle.laws.specs.Entry.{runs-le}
use Rattle.lists.specs.Members
use Rattle.lists.specs.Members.{In}
use Rattle.space.specs.OnDisk.{RunsOnDisk}
use Rattle.back_taken.specs.Listed.{first_of}

-- every one of these granules is on the disk
abbrev pub Under : ℕ → List ℕ → Type 0
Under m xs = (n : ℕ) → In n xs → n < m

module _ (g : Geometry) where
  under-run : (a n : ℕ) → a + n ≤ granules g → Under (granules g) (count a n)
  under-run a n h x i = let k = Members.count-in x a n i in let l = k.1 in omega arith

  pub under-entry : (d : List ℕ) (s : ℕ) → RunsOnDisk g d s → Under (granules g) (entry_granules g d s)
  unfolding entry_granules
  under-entry d s o x i =
      let k = Members.each_in (run_granules g d s) x (count 0 (runs g d s)) i in
      let j = Members.count-in k.0 0 (runs g d s) k.1 in
      under-run (run_start g d s k.0) (run_length g d s k.0) (o.run k.0 (let l = j.1 in omega arith)) x k.2

  pub under-each : (d ps : List ℕ) → ((x : ℕ) → In x ps → RunsOnDisk g d x) → Under (granules g) (each (entry_granules g d) ps)
  under-each d ps f n i = let k = Members.each_in (entry_granules g d) n ps i in under-entry d k.0 (f k.0 k.1) n k.2

  pub listed_in : (d es : List ℕ) (n : ℕ) → ((j : ℕ) → j < n → RunsOnDisk g d (get_or es j 0)) → (x : ℕ) → In x (first_of es n) → RunsOnDisk g d x
  unfolding first_of
  listed_in d es zero f x i = Members.none_in i
  listed_in d es (suc n) f x i = by (Members.snoc-in (first_of es n) i) (λ j. listed_in d es n (λ k l. f k (omega arith)) x j)
    where
      by : In x (first_of es n) ⊎ (x ≡ get_or es n 0) → (In x (first_of es n) → RunsOnDisk g d x) → RunsOnDisk g d x
      by (inl j) ih = ih j
      by (inr q) ih = rw q (f n (omega arith))

  -- the runs of an entry, as many as were read
  pub runs-are : (d : List ℕ) (s : ℕ) {n : ℕ} → n ≡ runs g d s → each (run_granules g d s) (count 0 n) ≡ entry_granules g d s
  unfolding entry_granules
  runs-are d s q = ap (λ (k : ℕ). each (run_granules g d s) (count 0 k)) q

  pub same-on-disk : {d d' : List ℕ} {s : ℕ} → Room g d → Same g d d' → RunsOnDisk g d s → RunsOnDisk g d' s
  same-on-disk {d} {d'} {s} r e o =
      let sl = o.slot in let q = same_runs g d d' r e s sl in let four = runs-le g d s in
      record {
        slot = same-slot g d d' r e sl;
        run =
            λ k l. let l' : k < runs g d s = rw q at l in
            rw (same_start g d d' r e s k sl (omega arith), same_len g d d' r e s k sl (omega arith)) (o.run k l');
      }
