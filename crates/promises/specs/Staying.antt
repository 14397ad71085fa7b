-- What no call changes: the length of the image, that it is a good disk, which granules are reserved; and every granule is accounted for
use Rattle.std.specs.Prelude.{◌≡◌, refl, cond, ◌&&◌, List, [], ◌∷◌, ℕ, ◌+◌, ◌-◌, ◌<◌, length, take, replicate}
use Rattle.std.proofs.Common.{sym, ◌∙◌, subst, arith}
use Rattle.std.proofs.Math.Bool.{Bool, true, false}
use Rattle.std.proofs.Math.Decide.{ℕ_discrete}
use Rattle.std.proofs.Math.Dec.{T, leb, leb→le}
use Rattle.meaning.specs.Lists.{all}
use Rattle.meaning.specs.Layout.{highest}
use Rattle.lists.specs.Sizes
use Rattle.meaning.specs.Names.{well_formed, fold}
use Rattle.meaning.specs.Entries.{size_of, sectors_for}
use Rattle.meaning.specs.Chain.{place}
use Rattle.meaning.specs.Consistent.{consistent}
use Rattle.meaning.specs.Refusals.{new_in_range, cannot_grow}
use Rattle.meaning.specs.Handles.{in_range}
use Rattle.meaning.specs.Growth.{with_granules}
use Rattle.meaning.specs.LookUp.{missing}
use Rattle.meaning.specs.Create.{create, with_entry, new_slot}
use Rattle.meaning.specs.Amount.{how_many}
use Rattle.meaning.specs.Write.{write_of, size_after, to_write}
use Rattle.meaning.specs.Allot.{allot}
use Rattle.meaning.specs.Trim.{trim}
use Rattle.meaning.specs.Kill.{kill}
use Rattle.meaning.specs.Calls.{Call, number, leaves}
use Rattle.promises_words.specs.Given.{AreBytes}
use Rattle.meaning.specs.Free.{reserved}
use Rattle.meaning.specs.declared.Geometry.{Geometry}
use Rattle.meaning.specs.declared.Handle.{Handle}
use Rattle.meaning.specs.declared.NewFile.{NewFile}
use Rattle.meaning.specs.declared.Mode.{Mode}
use Rattle.lists.specs.Members
use Rattle.laws.specs.Facts
use Rattle.laws.specs.Places
use Rattle.laws.specs.Bytes
use Rattle.laws.specs.Bytes.{Small}
use Rattle.laws.specs.Tally
use Rattle.laws.specs.Steps
use Rattle.laws.specs.Passed
use Rattle.laws.specs.Passed.{passed, yes-T}
use Rattle.laws.specs.Words.{words}
use Rattle.promises.specs.KillMeans
use Rattle.promises.specs.CreateMeans
use Rattle.promises.specs.Promises.{Good, Stays, Brings}
use Rattle.promises.specs.Refusing
use Rattle.promises.specs.Passing
use Rattle.promises.specs.Grow
use Rattle.promises.specs.Trim
use Rattle.promises.specs.Over
use Rattle.promises.specs.WriteMeans

module _ (g : Geometry) (d : List ℕ) (k : Good g d) where
  s : Small d
  s = Bytes.bytes_small d k.bytes

  pub stays_by : (d' : List ℕ) → length d' ≡ length d → consistent g d' ≡ true → reserved g d' ≡ reserved g d → Small d' → Stays g d d'
  stays_by d' l c r b = record {
    long = l;
    good = record { fits = Steps.fits-long g d d' l ∙ k.fits; sound = c; bytes = Bytes.small_bytes d' b };
    reserved' = r;
    tally = Tally.tally g d' (Facts.sound g d' c);
  }

  pub stays_same : Stays g d d
  stays_same = stays_by d refl k.sound refl s

  fit : Places.Fits g d
  fit = Places.fits g d (Members.true-T k.fits)

  kill-stays : (h : Handle) → (kill g d h).0.refusal.number ≡ 0 → Stays g d (kill g d h).1
  kill-stays h e = let x = KillMeans.kill-means g d h e in stays_by (kill g d h).1 x.long x.consistent' x.reserved' (small e)
    where
      small : (kill g d h).0.refusal.number ≡ 0 → Small (kill g d h).1
      small e = unfold kill in rw e (Bytes.small-killed g d fit h.slot s)

  allot-stays : (h : Handle) (n : ℕ) → (allot g d h n).0.refusal.number ≡ 0 → Stays g d (allot g d h n).1
  allot-stays h n e = let x = Grow.allot-means g d h n e in stays_by (allot g d h n).1 x.long x.consistent' x.reserved' (x.small s)

  trim-stays : (h : Handle) → (trim g d h).0.refusal.number ≡ 0 → Stays g d (trim g d h).1
  trim-stays h e = let x = Trim.trim-means g d h e in stays_by (trim g d h).1 x.long x.consistent' x.reserved' (x.small s)

  write-small : (m : Mode) (h : Handle) (n : ℕ) (b : List ℕ) → AreBytes b → (write_of g d m h n b).0.refusal.number ≡ 0 → Small (write_of g d m h n b).1
  unfolding write_of words
  write-small m h n b ab e =
      let p = h.slot in let more = to_write g d m h n in
      let w = Passed.holds g d h _ 4 (cannot_grow g d p more) e in
      let x = Grow.larger-grew g d h more w.0 w.1 in
      let p₂ = Passed.disk-passed g d _ e in
      let p₃ = passed 12 _ _ (omega arith) p₂.1 in
      let tests : Bool = all (leb (h.at + n) (highest g) ∷ leb n (length b) ∷ []) in
      let range : T (in_range g h && tests) = yes-T (in_range g h && tests) p₃.0 in
      let top = leb→le (h.at + n) (highest g)
      (Members.and_l (leb (h.at + n) (highest g)) (all (leb n (length b) ∷ [])) (Members.and_r (in_range g h) tests range)) in
      let d₁ = with_granules g d p more in let F = place g d₁ p in let old = size_of g d p in
      let old-sectors = Bytes.size-sectors g d fit p s in
      let size = size_after m old (h.at + n) in
      let bound = Over.after-max m old (h.at + n) in
      let two : sectors_for size < 65536 = omega (arith, Sizes.bytes-are g, Sizes.sectors-most g) in
      rw e (Bytes.small_size g d fit _ p size
      (Bytes.small-store F (take n b) h.at
      (Bytes.small-store F (replicate (h.at - old) 0) old (x.kept.small s) (Bytes.small-replicate (h.at - old) (omega arith)))
      (Bytes.small-take n b (Bytes.bytes_small b ab))) two)

  write-stays : (m : Mode) (h : Handle) (n : ℕ) (b : List ℕ) → AreBytes b → (write_of g d m h n b).0.refusal.number ≡ 0 → Stays g d (write_of g d m h n b).1
  write-stays m h n b ab e =
      let x = (WriteMeans.write-wrote g d m h n b e).1 in
      stays_by (write_of g d m h n b).1 x.long x.consistent' x.reserved' (write-small m h n b ab e)

  create-small : (n : List ℕ) (f : NewFile) (checking : Bool) → f.main < 65536 → f.worker < 65536 → (create g d n f checking).0.refusal.number ≡ 0 → Small
      (create g d n f checking).1
  unfolding create
  create-small n f checking a b e =
      let p₂ = Passed.disk-passed g d _ e in
      let p₃ = passed 12 _ _ (omega arith) p₂.1 in
      let p₄ = passed 3 _ _ (omega arith) p₃.1 in
      let r = (Refusing.new-iff f).0 (yes-T (new_in_range f) p₃.0) in
      rw e (go (missing g d (fold n)) (Bytes.small-born g d fit (new_slot g d) (fold n) f s (yes-T (well_formed (fold n)) p₄.0) r.day r.month r.year
      a b))
    where
      go : (t : Bool) → Small (with_entry g d (new_slot g d) (fold n) f) → Small (cond t (with_entry g d (new_slot g d) (fold n) f) d)
      go true x = x
      go false x = s

  create-stays : (n : List ℕ) (f : NewFile) (checking : Bool) → f.main < 65536 → f.worker < 65536 → (create g d n f checking).0.refusal.number ≡ 0 → Stays
      g d (create g d n f checking).1
  create-stays n f checking a b e = go (create g d n f checking).0.old refl
    where
      go : (o : Bool) → (create g d n f checking).0.old ≡ o → Stays g d (create g d n f checking).1
      go true o = subst (Stays g d) (sym (Passing.old-stands g d n f checking o)) stays_same
      go false o = let x = CreateMeans.create-means g d n f checking e o in
          stays_by (create g d n f checking).1 x.long x.consistent' x.reserved' (create-small n f checking a b e)

  -- refused: nothing changes
  pub stays : (c : Call) → Brings c → Stays g d (leaves g d c)
  stays c b = go (ℕ_discrete (number g d c) 0)
    where
      served : (c : Call) → Brings c → number g d c ≡ 0 → Stays g d (leaves g d c)
      served Call.checks b e = unfold leaves in stays_same
      served (Call.looks_up n) b e = unfold leaves in stays_same
      served (Call.opens n len checking code) b e = unfold leaves in stays_same
      served (Call.creates n f checking) b e = unfold leaves number in create-stays n f checking b.0 b.1 e
      served (Call.reads a h x) b e = unfold leaves in stays_same
      served (Call.reads_sector h i) b e = unfold leaves in stays_same
      served (Call.writes a m h x) b e = unfold leaves number in write-stays m h (how_many a h.len x) x b e
      served (Call.allots h i) b e = unfold leaves number in allot-stays h i e
      served (Call.trims h) b e = unfold leaves number in trim-stays h e
      served (Call.kills h) b e = unfold leaves number in kill-stays h e
      served (Call.lists i) b e = unfold leaves in stays_same
      served Call.counts b e = unfold leaves in stays_same
      served Call.measures b e = unfold leaves in stays_same

      go : Dec (number g d c ≡ 0) → Stays g d (leaves g d c)
      go (yes e) = served c b e
      go (no n) = subst (Stays g d) (sym (Passing.as-stood g d c n)) stays_same
