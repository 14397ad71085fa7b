-- Calls that neither take nor give back a granule or an entry: what they leave
use Rattle.std.specs.Prelude.{◌≡◌, ◌≢◌, ◌⊎◌, Bool, false, not, ◌&&◌, ◌||◌, take, replicate, eqb, ltb}
use Rattle.std.proofs.Math.Path.{refl, ap, sym}
use Rattle.std.proofs.Common.{◌∙◌, subst, inl, inr, T_not, ltb→lt}
use Rattle.std.proofs.Math.Bool.{true, cond}
use mathlib.Core.List.{List, [], ◌∷◌, append-nil}
use Prim.Native.Nat.{ℕ, suc, ◌+◌, ◌-◌, ◌*◌, ◌/◌, ◌≤◌, max}
use native.Mathlib.Omega.{arith}
use Rattle.std.proofs.Math.ListN.{length, length-take}
use Rattle.std.proofs.Math.Dec.{T, eqb→eq, leb, leb→le}
use Rattle.meaning.specs.Lists.{keep, each, has, times, all}
use Rattle.meaning.specs.Layout.{entry_at, granule_bytes, directory_granules, above_ten}
use Rattle.lists.specs.Sizes
use Rattle.meaning.specs.Entries.{name_of, size_of, keeps_space}
use Rattle.meaning.specs.Chain.{chain, owned, place}
use Rattle.meaning.specs.Lists.{first_or}
use Rattle.meaning.specs.Growth.{grow_by, growth, or_else, disk_or, lacking, with_granules}
use Rattle.meaning.specs.Drop.{drop_one}
use Rattle.meaning.specs.Handles.{in_range}
use Rattle.meaning.specs.Names.{fold}
use Rattle.meaning.specs.Create.{create}
use Rattle.meaning.specs.Write.{write_of, size_after, with_size, store}
use Rattle.meaning.specs.Allot.{allot, granules_to}
use Rattle.meaning.specs.Trim.{trim}
use Rattle.meaning.specs.Kill.{kill}
use Rattle.meaning.specs.LookUp.{named, missing, candidates, carries}
use Rattle.meaning.specs.Open.{opened_at}
use Rattle.meaning.specs.Layout.{granules_for, highest}
use Rattle.meaning.specs.Plain.{File, Found, found, nothing, file_at, found_in, plain, written_to, allotted_to, trimmed, overwritten, born_as}
use Rattle.meaning.specs.declared.Geometry.{Geometry}
use Rattle.meaning.specs.declared.Handle.{Handle}
use Rattle.meaning.specs.declared.NewFile.{NewFile}
use Rattle.meaning.specs.declared.Mode.{Mode}
use Rattle.lists.specs.Members
use Rattle.lists.specs.Members.{In}
use Rattle.laws.specs.Facts
use Rattle.laws.specs.Facts.{Sound}
use Rattle.laws.specs.Change
use Rattle.laws.specs.Passed
use Rattle.promises.specs.KillMeans
use Rattle.laws.specs.Passed.{Holds}
use Rattle.laws.specs.Named
use Rattle.laws.specs.Others
use Rattle.promises.specs.CreateMeans
use Rattle.promises.specs.Grow
use Rattle.promises.specs.Trim
use Rattle.promises.specs.Over
use Rattle.promises.specs.WriteMeans
use Rattle.promises.specs.Write
use Rattle.laws.specs.Places
use Rattle.laws.specs.Words.{words}
use Rattle.together.specs.Statement.{Name, Quiet}

-- the entries and the granules of the file of that name, none if there is none
abbrev entries_of : Geometry → List ℕ → Name → List ℕ
entries_of g d n = each (chain g d) (named g d n)

abbrev granules_of : Geometry → List ℕ → Name → List ℕ
granules_of g d n = each (owned g d) (named g d n)

present : Found → ℕ
present nothing = 0
present (found f) = 1

pub not-both : {A : Type 0} (f : File) → nothing ≡ found f → A
unfolding present
not-both f e = absurd (let z : 0 ≡ 1 = ap present e in omega arith)

-- the number of granules, as the plain file tells it
plain-granules : (g : Geometry) (d : List ℕ) (n : Name) (f : File) → plain g d n ≡ found f → f.granules ≡ length (granules_of g d n)
unfolding plain found_in file_at words
plain-granules g d n f e = go (keep (carries g d n) (candidates g d n)) e
  where
    go : (ys : List ℕ) → found_in g d (take 1 ys) ≡ found f → f.granules ≡ length (each (owned g d) (take 1 ys))
    go [] e = not-both f e
    go (y ∷ ys) e = ap (λ (x : File). x.granules) (sym (Named.found-inj (file_at g d y) f e)) ∙ ap length (sym (append-nil (owned g d y)))

nothing-entries : (g : Geometry) (d : List ℕ) (n : Name) → plain g d n ≡ nothing → entries_of g d n ≡ []
unfolding plain found_in words
nothing-entries g d n e = go (keep (carries g d n) (candidates g d n)) e
  where
    go : (ys : List ℕ) → found_in g d (take 1 ys) ≡ nothing → each (chain g d) (take 1 ys) ≡ []
    go [] e = refl
    go (y ∷ ys) e = not-both (file_at g d y) (sym e)

found-entries : (g : Geometry) (d : List ℕ) (n : Name) (f : File) → Sound g d → plain g d n ≡ found f → entries_of g d n ≢ []
found-entries g d n f c e z = go (Named.look g d c n)
  where
    go : ((p : ℕ) × Facts.IsFile g d p × (name_of g d p ≡ n)) ⊎ ((p : ℕ) → Facts.IsFile g d p → name_of g d p ≢ n) → ⊥
    go (inl w) =
        let one : named g d n ≡ w.0 ∷ [] = ap (named g d) (sym w.2) ∙ Named.named-is g d c w.0 w.1 in
        let i = Change.chain_head g d c w.0 w.1.slot in
        Members.none_in (subst (λ (l : List ℕ). In w.0 l) (sym (append-nil (chain g d w.0)) ∙ sym (ap (each (chain g d)) one) ∙ z) i)
    go (inr w) = not-both f (sym (Named.plain-none g d n w) ∙ e)

-- whether there is a file, and how many granules it owns
unfoldable pub tally : Found → ℕ
tally nothing = 0
tally (found f) = suc f.granules

abbrev pub Even : Geometry → Name → List ℕ → List ℕ → Type 0
Even g n d d' = tally (plain g d' n) ≡ tally (plain g d n)

pub quiet-even : (g : Geometry) (n : Name) (d d' : List ℕ) → Sound g d → Sound g d' → Quiet g n d d' → Even g n d d'
unfolding tally
quiet-even g n d d' c c' q = go (plain g d n) (plain g d' n) refl refl
  where
    go : (x y : Found) → plain g d n ≡ x → plain g d' n ≡ y → tally y ≡ tally x
    go nothing nothing e e' = refl
    go nothing (found f') e e' = absurd (found-entries g d' n f' c' e' (q.entries ∙ nothing-entries g d n e))
    go (found f) nothing e e' = absurd (found-entries g d n f c e (sym q.entries ∙ nothing-entries g d' n e'))
    go (found f) (found f') e e' = ap suc (plain-granules g d' n f' e' ∙ ap length q.granules ∙ sym (plain-granules g d n f e))

-- Which calls are quiet ----------------------------------------------------------------------------------------------------

module _ (g : Geometry) (d : List ℕ) (n : Name) (h : Handle) (e : h.name ≡ n) where
  here : Holds g d h → plain g d n ≡ found (file_at g d h.slot)
  here w = Named.plain-is g d w.sound h.slot n w.file (w.name' ∙ e)

  same-granules : (d' : List ℕ) (f : File) → Holds g d h → Even g n d d' → plain g d' (name_of g d h.slot) ≡ found f → f.granules ≡ length
      (owned g d h.slot)
  unfolding file_at tally
  same-granules d' f w q o =
      let z : suc f.granules ≡ suc (length (owned g d h.slot)) = sym (ap tally (ap (plain g d') (sym (w.name' ∙ e)) ∙ o)) ∙ q ∙ ap tally (here w) in
      omega arith

  pub kill-never : (kill g d h).0.refusal.number ≡ 0 → Even g n d (kill g d h).1 → ⊥
  unfolding tally
  kill-never t q =
      let x = KillMeans.kill-means g d h t in
      let w : Holds g d h = unfold kill in (Passed.holds g d h _ 1 [] t).0 in
      let z : 0 ≡ suc (file_at g d h.slot).granules = sym (ap tally (ap (plain g (kill g d h).1) (sym (w.name' ∙ e)) ∙ x.gone)) ∙ q ∙ ap tally (here w)
      in
      omega arith

  pub allot-still : (k : ℕ) → (allot g d h k).0.refusal.number ≡ 0 → Even g n d (allot g d h k).1 → (allot g d h k).1 ≡ d
  allot-still k t q =
      let x = Grow.allot-means g d h k t in
      let w : Holds g d h = unfold allot in (Passed.holds g d h _ 4 _ t).0 in
      let m : max (length (owned g d h.slot)) (granules_to g k) ≡ length (owned g d h.slot) = many
      (same-granules (allot g d h k).1 (allotted_to g k (file_at g d h.slot)) w q x.own) in
      image (omega arith)
    where
      many : (allotted_to g k (file_at g d h.slot)).granules ≡ length (owned g d h.slot) → max (length (owned g d h.slot)) (granules_to g k) ≡ length
          (owned g d h.slot)
      many m = unfold allotted_to file_at in m

      image : lacking g d h.slot (granules_to g k) ≡ 0 → (allot g d h k).1 ≡ d
      image z = unfold allot grow_by growth or_else disk_or in rw t (ap (with_granules g d h.slot) z)

  pub trim-still : (trim g d h).0.refusal.number ≡ 0 → Even g n d (trim g d h).1 → (trim g d h).1 ≡ d
  trim-still t q =
      let x = Trim.trim-means g d h t in
      let w : Holds g d h = unfold trim in (Passed.holds g d h _ 4 [] t).0 in
      image (many (same-granules (trim g d h).1 (trimmed g (file_at g d h.slot)) w q x.own)) (Members.decide (keeps_space g d h.slot))
    where
      many : (trimmed g (file_at g d h.slot)).granules ≡ length (owned g d h.slot)
          → cond (keeps_space g d h.slot) (length (owned g d h.slot)) (granules_for g (length (file_at g d h.slot).bytes)) ≡ length
          (owned g d h.slot)
      many m = unfold trimmed file_at in m

      image : cond (keeps_space g d h.slot) (length (owned g d h.slot)) (granules_for g (length (file_at g d h.slot).bytes)) ≡ length
          (owned g d h.slot)
          → Members.Test (keeps_space g d h.slot) → (trim g d h).1 ≡ d
      image m (Members.Test.holds v) = unfold trim in rw (t, Members.T_true {b = keeps_space g d h.slot} v)
      image m (Members.Test.fails v) =
          let k : granules_for g (length (file_at g d h.slot).bytes) ≡ length (owned g d h.slot) = rw (Members.no_false {b = keeps_space g d h.slot} v)
          at m in
          let l = Others.file-length g d h.slot in
          let z : length (owned g d h.slot) - granules_for g (size_of g d h.slot) ≡ 0 = omega (arith, ap (granules_for g) l) in
          nothing-dropped v z
        where
          nothing-dropped : (T (keeps_space g d h.slot) → ⊥) → length (owned g d h.slot) - granules_for g (size_of g d h.slot) ≡ 0 → (trim g d h).1 ≡ d
          nothing-dropped v z = unfold trim in rw (t, Members.no_false {b = keeps_space g d h.slot} v) (ap (λ (y : ℕ). times y (drop_one g h.slot) d) z)

-- the image after a write that takes nothing
unfoldable pub written : Geometry → List ℕ → ℕ → Mode → ℕ → ℕ → List ℕ → List ℕ
written g d p m at len r =
    with_size g (store (place g d p) (store (place g d p) d (size_of g d p) (replicate (at - size_of g d p) 0)) at r) p
    (size_after m (size_of g d p) (at + len))

pub record QuietWrite (g : Geometry) (d : List ℕ) (m : Mode) (h : Handle) (many : ℕ) (b d' : List ℕ) : Type 0 where
  pub holds : Holds g d h
  pub image : d' ≡ written g d h.slot m h.at many (take many b)
  pub len : length (take many b) ≡ many
  pub fit : size_after m (size_of g d h.slot) (h.at + many) ≤ granule_bytes g * length (owned g d h.slot)

pub write-quiet : (g : Geometry) (d : List ℕ) (n : Name) (m : Mode) (h : Handle) (many : ℕ) (b : List ℕ) → h.name ≡ n
    → (write_of g d m h many b).0.refusal.number ≡ 0 → Even g n d (write_of g d m h many b).1
    → QuietWrite g d m h many b (write_of g d m h many b).1
unfolding growth or_else
write-quiet g d n m h many b e t q =
    let x = WriteMeans.write-wrote g d m h many b t in
    let p = h.slot in
    let l = length-b t in
    let k : max (length (owned g d p)) (granules_for g (size_after m (size_of g d p) (h.at + length (take many b)))) ≡ length (owned g d p) =
    owns (same-granules g d n h e (write_of g d m h many b).1 (written_to g m h.at (take many b) (file_at g d p)) x.0 q x.1.own) in
    let k' : max (length (owned g d p)) (granules_for g (size_after m (size_of g d p) (h.at + many))) ≡ length (owned g d p) =
    subst (λ (y : ℕ). max (length (owned g d p)) (granules_for g (size_after m (size_of g d p) (h.at + y))) ≡ length (owned g d p)) l k in
    record { holds = x.0; image = still (omega arith); len = l; fit = Sizes.round-fits (Sizes.bytes_pos g) _ _ (omega arith) }
  where
    length-b : (write_of g d m h many b).0.refusal.number ≡ 0 → length (take many b) ≡ many
    length-b t = unfold write_of all in (
        let p₂ = Passed.disk-passed g d _ t in
        let p₃ = Passed.passed 12 _ _ (omega arith) p₂.1 in
        let range : T (all (in_range g h ∷ leb (h.at + many) (highest g) ∷ leb many (length b) ∷ [])) = Passed.yes-T
        (all (in_range g h ∷ leb (h.at + many) (highest g) ∷ leb many (length b) ∷ [])) p₃.0 in
        let short = leb→le many (length b) (Members.and_l (leb many (length b)) true
        (Members.and_r (leb (h.at + many) (highest g)) _ (Members.and_r (in_range g h) _ range))) in
        length-take many b ∙ omega arith)

    owns : (written_to g m h.at (take many b) (file_at g d h.slot)).granules ≡ length (owned g d h.slot)
        → max (length (owned g d h.slot)) (granules_for g (size_after m (size_of g d h.slot) (h.at + length (take many b)))) ≡ length
        (owned g d h.slot)
    owns k =
        let o : length (overwritten m (file_at g d h.slot).bytes h.at (take many b)) ≡ size_after m (size_of g d h.slot) (h.at + length (take many b))
        =
        Over.overwritten-length m (file_at g d h.slot).bytes h.at (take many b) ∙ ap (λ (y : ℕ). size_after m y (h.at + length (take many b)))
        (Others.file-length g d h.slot) in
        ap (λ (y : ℕ). max (length (owned g d h.slot)) (granules_for g y)) (sym o) ∙ told k
      where
        told : (written_to g m h.at (take many b) (file_at g d h.slot)).granules ≡ length (owned g d h.slot)
            → max (length (owned g d h.slot)) (granules_for g (length (overwritten m (file_at g d h.slot).bytes h.at (take many b)))) ≡ length
            (owned g d h.slot)
        told k = unfold written_to file_at in k

    still : lacking g d h.slot (granules_for g (size_after m (size_of g d h.slot) (h.at + many))) ≡ 0
        → (write_of g d m h many b).1 ≡ written g d h.slot m h.at many (take many b)
    still z = unfold write_of written grow_by disk_or in rw t (ap (λ (y : ℕ).
        let d₁ = with_granules g d h.slot y in
        with_size g (store (place g d₁ h.slot) (store (place g d₁ h.slot) d₁ (size_of g d h.slot) (replicate (h.at - size_of g d h.slot) 0)) h.at
        (take many b)) h.slot
        (size_after m (size_of g d h.slot) (h.at + many))) z)

pub record QuietCreate (g : Geometry) (d : List ℕ) (n : Name) (f : NewFile) (checking : Bool) : Type 0 where
  pub image : (create g d n f checking).1 ≡ d
  pub handle : (create g d n f checking).0.handle ≡ opened_at g d (first_or 0 (named g d (fold n))) (fold n) f.len checking f.main
  pub old : T (missing g d (fold n)) → ⊥

pub create-quiet : (g : Geometry) (d : List ℕ) (n : Name) (f : NewFile) (checking : Bool) → (create g d n f checking).0.refusal.number ≡ 0 → Even g (fold n)
    d (create g d n f checking).1 → QuietCreate g d n f checking
create-quiet g d n f checking e q = go (Members.decide (missing g d (fold n)))
  where
    told-old : T (missing g d (fold n)) → (create g d n f checking).0.old ≡ false
    told-old t = unfold create in rw (e, Members.T_true {b = missing g d (fold n)} t)

    none : T (missing g d (fold n)) → plain g d (fold n) ≡ nothing
    none t = unfold plain found_in in at (named g d (fold n)) t
      where
        at : (xs : List ℕ) → T (eqb (length xs) 0) → found_in g d xs ≡ nothing
        at [] t = unfold found_in in refl
        at (x ∷ xs) t = let e = eqb→eq (length (x ∷ xs)) 0 t in absurd (omega arith)

    go : Members.Test (missing g d (fold n)) → QuietCreate g d n f checking
    go (Members.Test.fails t) = record {
      image = unfold create in rw (e, Members.no_false {b = missing g d (fold n)} t);
      handle = unfold create in rw (e, Members.no_false {b = missing g d (fold n)} t);
      old = t;
    }
    go (Members.Test.holds t) =
        let x = CreateMeans.create-means g d n f checking e (told-old t) in
        absurd (not-born x.born (none t))
      where
        not-born : plain g (create g d n f checking).1 (fold n) ≡ found (born_as f) → plain g d (fold n) ≡ nothing → ⊥
        not-born o v = unfold tally in (let z : suc (born_as f).granules ≡ 0 = sym (ap tally o) ∙ q ∙ ap tally v in omega arith)

-- Where the files lie --------------------------------------------------------------------------------------------------------

-- every name has the same slot, and every file the same granules
pub record Laid (g : Geometry) (d d' : List ℕ) : Type 0 where
  pub above : above_ten g d' ≡ above_ten g d
  pub names : (m : Name) → named g d' m ≡ named g d m
  pub files : (q : ℕ) → Facts.IsFile g d q → Facts.IsFile g d' q
  pub owns : (q : ℕ) → Facts.IsFile g d q → owned g d' q ≡ owned g d q

pub laid_same : (g : Geometry) (d : List ℕ) → Laid g d d
laid_same g d = record { above = refl; names = λ m. refl; files = λ q f. f; owns = λ q f. refl }

pub laid-trans : (g : Geometry) (a b c : List ℕ) → Laid g a b → Laid g b c → Laid g a c
laid-trans g a b c x y = record {
  above = y.above ∙ x.above;
  names = λ m. y.names m ∙ x.names m;
  files = λ q f. y.files q (x.files q f);
  owns = λ q f. y.owns q (x.files q f) ∙ x.owns q f;
}

-- the bytes of an entry
abbrev pub in_entry : Geometry → ℕ → ℕ → Bool
in_entry g p i = leb (entry_at g p) i && ltb i (entry_at g p + 32)

-- the bytes of its granules, the directory apart
abbrev pub in_data : Geometry → List ℕ → ℕ → ℕ → Bool
in_data g d p i = has (owned g d p) (i / granule_bytes g) && not (has (directory_granules g d) (i / granule_bytes g))

unfoldable pub region_of : Geometry → List ℕ → List ℕ → ℕ → Bool
region_of g d [] i = false
region_of g d (p ∷ ps) i = in_entry g p i || in_data g d p i

-- the bytes that calls on the file of that name may change without taking or giving back anything
unfoldable pub region : Geometry → List ℕ → Name → ℕ → Bool
region g d n i = region_of g d (named g d n) i

module _ (g : Geometry) (d : List ℕ) (c : Sound g d) where
  pub region-is : (p : ℕ) (n : Name) (i : ℕ) → Facts.IsFile g d p → name_of g d p ≡ n → region g d n i ≡ (in_entry g p i || in_data g d p i)
  unfolding region region_of
  region-is p n i f e = rw (← e, Named.named-is g d c p f)

  pub region-none : (n : Name) (i : ℕ) → ((p : ℕ) → Facts.IsFile g d p → name_of g d p ≢ n) → region g d n i ≡ false
  unfolding region region_of
  region-none n i w = rw (Named.none_named g d n w)

  pub region-laid : (d' : List ℕ) → Laid g d d' → (n : Name) (i : ℕ) → region g d' n i ≡ region g d n i
  unfolding region region_of words
  region-laid d' l n i = rw (l.names n) (go (Named.look g d c n))
    where
      go : ((p : ℕ) × Facts.IsFile g d p × (name_of g d p ≡ n)) ⊎ ((p : ℕ) → Facts.IsFile g d p → name_of g d p ≢ n)
          → region_of g d' (named g d n) i ≡ region_of g d (named g d n) i
      go (inl w) =
          let one : named g d n ≡ w.0 ∷ [] = ap (named g d) (sym w.2) ∙ Named.named-is g d c w.0 w.1 in
          rw one (rw (l.owns w.0 w.1, l.above))
      go (inr w) = rw (Named.none_named g d n w)

  in-entry-dir : (k : Places.Fits g d) (p i : ℕ) → Facts.IsFile g d p → T (in_entry g p i) → In (i / granule_bytes g) (directory_granules g d)
  in-entry-dir k p i f t =
      let a = leb→le (entry_at g p) i (Members.and_l (leb (entry_at g p) i) _ t) in
      let b = ltb→lt i (entry_at g p + 32) (Members.and_r (leb (entry_at g p) i) _ t) in
      let s = Places.slot g d p f.slot in
      let l = s.low in let q = s.sector in
      Write.in-directory g d i k.start-at (Places.dir g d c.dir) (omega arith) (omega arith)

  -- two files have no byte in common
  pub regions-apart : Places.Fits g d → (a b : Name) → a ≢ b → (i : ℕ) → T (region g d a i) → T (region g d b i) → ⊥
  regions-apart k a b ab i t u = go (Named.look g d c a) (Named.look g d c b)
    where
      data-not-entry : (p q : ℕ) → Facts.IsFile g d q → T (in_data g d p i) → T (in_entry g q i) → ⊥
      data-not-entry p q f x y =
          T_not (has (directory_granules g d) (i / granule_bytes g)) (Members.and_r (has (owned g d p) (i / granule_bytes g)) _ x)
          (Members.in-has (in-entry-dir k q i f y))

      entries : (p q : ℕ) → Facts.IsFile g d p → Facts.IsFile g d q → p ≢ q → T (in_entry g p i) → T (in_entry g q i) → ⊥
      entries p q f h n x y =
          let a = leb→le (entry_at g p) i (Members.and_l (leb (entry_at g p) i) _ x) in
          let b = ltb→lt i (entry_at g p + 32) (Members.and_r (leb (entry_at g p) i) _ x) in
          let a' = leb→le (entry_at g q) i (Members.and_l (leb (entry_at g q) i) _ y) in
          let b' = ltb→lt i (entry_at g q + 32) (Members.and_r (leb (entry_at g q) i) _ y) in
          let l = Facts.slot_lt g d p f.slot in let l' = Facts.slot_lt g d q h.slot in
          n (omega arith)

      apart : (p q : ℕ) → Facts.IsFile g d p → Facts.IsFile g d q → p ≢ q → T (in_entry g p i) ⊎ T (in_data g d p i)
          → T (in_entry g q i) ⊎ T (in_data g d q i) → ⊥
      apart p q f h n (inl x) (inl y) = entries p q f h n x y
      apart p q f h n (inl x) (inr y) = data-not-entry q p f y x
      apart p q f h n (inr x) (inl y) = data-not-entry p q h x y
      apart p q f h n (inr x) (inr y) =
          n (c.granules p q (i / granule_bytes g) f h
          (Members.has_in (i / granule_bytes g) (owned g d p) (Members.and_l (has (owned g d p) (i / granule_bytes g)) _ x))
          (Members.has_in (i / granule_bytes g) (owned g d q) (Members.and_l (has (owned g d q) (i / granule_bytes g)) _ y)))

      go : ((p : ℕ) × Facts.IsFile g d p × (name_of g d p ≡ a)) ⊎ ((p : ℕ) → Facts.IsFile g d p → name_of g d p ≢ a)
          → ((p : ℕ) × Facts.IsFile g d p × (name_of g d p ≡ b)) ⊎ ((p : ℕ) → Facts.IsFile g d p → name_of g d p ≢ b) → ⊥
      go (inr w) x = Members.false-no (region-none a i w) t
      go (inl v) (inr w) = Members.false-no (region-none b i w) u
      go (inl v) (inl w) =
          apart v.0 w.0 v.1 w.1 (λ e. ab (sym v.2 ∙ ap (name_of g d) e ∙ w.2))
          (Members.or-e (in_entry g v.0 i) (in_data g d v.0 i) (rw (region-is v.0 a i v.1 v.2) at t))
          (Members.or-e (in_entry g w.0 i) (in_data g d w.0 i) (rw (region-is w.0 b i w.1 w.2) at u))
