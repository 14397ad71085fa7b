-- Refusal numbers: a law over any list of them, and each call's list read as 01's table
use Rattle.std.specs.Prelude.{◌≡◌, ◌≢◌, ◌↔◌, ◌⊎◌, Bool, true, false, not, cond, ◌&&◌, ◌||◌, ℕ, zero, suc, ◌+◌, ◌*◌, ◌%◌, ◌≤◌, ◌<◌, eqb}
use Rattle.std.proofs.Math.Path.{refl, ap, subst}
use Rattle.std.proofs.Common.{sym, ◌∙◌, inl, inr, arith, T_not, eqb→eq, leb→le, le→leb, ltb→lt, lt→ltb, nltb→le}
use mathlib.Core.List.{List, [], ◌∷◌, ◌++◌}
use lib.ListN.{length, drop}
use Rattle.std.proofs.Math.Dec.{T, leb, ltb, not_T}
use Rattle.meaning.specs.Lists.{all, any, distinct, same, first_or, has}
use Rattle.meaning.specs.Layout.{fits_geometry, granule_sizes, granules, granule_bytes, granule_sectors, sectors, highest, most_blocks, most_units, is_slot}
use Rattle.meaning.specs.Layout.{granules_for, sector_numbers}
use Rattle.meaning.specs.Names.{well_formed, fold}
use Rattle.meaning.specs.Entries.{in_use, extension, in_use_primary, name_of, size_of, system, no_growth, main_code, worker_code, sector_count}
use Rattle.meaning.specs.Consistent.{consistent}
use Rattle.meaning.specs.Fault.{fault}
use Rattle.meaning.specs.Free.{free_granules, free_slots}
use Rattle.meaning.specs.Growth.{Grown, grown, no_slot, fails, growth, lacking}
use Rattle.meaning.specs.Choice.{NothingFits}
use Rattle.meaning.specs.Refusals.{first, new_in_range, cannot_grow, check, fault_numbers, by_number, disk_refusals}
use Rattle.meaning.specs.Handles.{in_range, good_length, fresh}
use Rattle.meaning.specs.LookUp.{named, missing, slot_of, look_up, look_up_refusals}
use Rattle.meaning.specs.Open.{full, admits, open', open_refusals}
use Rattle.meaning.specs.Create.{create, create_refusals}
use Rattle.meaning.specs.Amount.{how_many}
use Rattle.meaning.specs.Read.{read_of, read_sector, read_refusals, sector_refusals}
use Rattle.meaning.specs.Write.{write_of, write_refusals, size_after, to_write}
use Rattle.meaning.specs.Allot.{allot, allot_refusals, to_allot}
use Rattle.meaning.specs.Trim.{trim, trim_refusals}
use Rattle.meaning.specs.Kill.{kill, kill_refusals}
use Rattle.meaning.specs.Listing
use Rattle.meaning.specs.FreeSpace.{space_refusals, free_space}
use Rattle.meaning.specs.Calls.{Call, number}
use Rattle.meaning.specs.Plain.{File, found, nothing, file_at, found_in, plain, is_system}
use Rattle.meaning.specs.declared.Geometry.{Geometry}
use Rattle.meaning.specs.declared.Handle.{Handle}
use Rattle.meaning.specs.declared.NewFile.{NewFile}
use Rattle.meaning.specs.declared.Mode.{Mode}
use Rattle.lists.specs.Members
use Rattle.lists.specs.Members.{In, Distinct}
use Rattle.laws.specs.Facts
use Rattle.laws.specs.Places
use Rattle.lists.specs.First.{numbers_of, first-in}
use Rattle.laws.specs.Passed
use Rattle.laws.specs.Fault
use Rattle.laws.specs.Others
use Rattle.laws.specs.Words.{words}
use Rattle.laws.specs.Named
use Rattle.promises.specs.Fitting
use Rattle.promises.specs.Promises
use Rattle.promises.specs.Promises.{Table, Rows, Exactly, table, read_table, write_table, FitsGeometry, InRange, NewInRange, Live, Full, LengthInRange}

-- Any list of refusals ------------------------------------------------------------------------------------------------------------

-- the tests of a list are the cases of a table, each where no earlier one holds
abbrev pub Reading : List (ℕ × Bool) → Table → Type 0 → Type 0
Reading [] [] earlier = Unit {0}
Reading [] (r ∷ rs) earlier = ⊥
Reading (c ∷ cs) [] earlier = ⊥
Reading (c ∷ cs) (r ∷ rs) earlier = (c.0 ≡ r.0) × (earlier → (T c.1 ↔ r.1)) × Reading cs rs (earlier × (r.1 → ⊥))

-- the numbers after the first row, 0 among them, are not the first row's
rest-apart : (m : ℕ) (ns : List ℕ) → Distinct (0 ∷ m ∷ ns) → Distinct (0 ∷ ns) × (In m (0 ∷ ns) → ⊥)
rest-apart m ns (Members.Distinct.fresh z (Members.Distinct.fresh f r)) =
    (Members.Distinct.fresh (λ i. z (Members.In.there i)) r, λ i. go (Members.in-cons i))
  where
    go : (m ≡ 0) ⊎ In m ns → ⊥
    go (inl e) = z (Members.head_in ns (sym e))
    go (inr i) = f i

skip-in : (a m : ℕ) (ns : List ℕ) → In a (0 ∷ ns) → In a (0 ∷ m ∷ ns)
skip-in a m ns i = go (Members.in-cons i)
  where
    go : (a ≡ 0) ⊎ In a ns → In a (0 ∷ m ∷ ns)
    go (inl e) = Members.head_in (m ∷ ns) e
    go (inr j) = Members.In.there (Members.In.there j)

rows : (cs : List (ℕ × Bool)) (rs : Table) (e : Bool) (E : Type 0) → (T e ↔ E) → Reading cs rs E → Distinct (0 ∷ numbers_of cs)
    → (a : ℕ) → (T e → a ≡ first cs) → ((T e → ⊥) → In a (0 ∷ numbers_of cs) → ⊥) → Rows a E rs
unfolding first
rows [] [] e E i w n a y z = (λ q. i.0 (go (Members.decide e) q), λ x. y (i.1 x))
  where
    go : Members.Test e → a ≡ 0 → T e
    go (Members.Test.holds t) q = t
    go (Members.Test.fails t) q = absurd (z t (Members.head_in [] q))
rows [] (r ∷ rs) e E i w n a y z = absurd w
rows (c ∷ cs) [] e E i w n a y z = absurd w
rows (c ∷ cs) (r ∷ rs) e E i w n a y z =
    let k = rest-apart c.0 (numbers_of cs) n in (
      (λ q. there (Members.decide e) (Members.decide c.1) (q ∙ sym w.0) k, λ x. y (i.1 x.0) ∙ hit ((w.1 x.0).1 x.1) ∙ w.0),
      rows cs rs (e && not c.1) (E × (r.1 → ⊥)) (fore, back) w.2 k.0 a
          (λ t. y (Members.and_l e (not c.1) t) ∙ miss (Members.and_r e (not c.1) t))
          (λ t. none t (Members.decide e) (Members.decide c.1) k),
    )
  where
    hit : T c.1 → cond c.1 c.0 (first cs) ≡ c.0
    hit t = rw (Members.T_true {b = c.1} t)

    miss : T (not c.1) → cond c.1 c.0 (first cs) ≡ first cs
    miss t = rw (Members.no_false {b = c.1} (T_not c.1 t))

    there : Members.Test e → Members.Test c.1 → a ≡ c.0 → Distinct (0 ∷ numbers_of cs) × (In c.0 (0 ∷ numbers_of cs) → ⊥) → E × r.1
    there (Members.Test.fails t) b q k = absurd (z t (Members.In.there (Members.head_in (numbers_of cs) q)))
    there (Members.Test.holds t) (Members.Test.holds b) q k = (i.0 t, (w.1 (i.0 t)).0 b)
    there (Members.Test.holds t) (Members.Test.fails b) q k =
        absurd (k.1 (subst (λ (x : ℕ). In x (0 ∷ numbers_of cs)) (sym (miss (not_T c.1 b)) ∙ sym (y t) ∙ q) (first-in cs)))

    fore : T (e && not c.1) → E × (r.1 → ⊥)
    fore t = let x = i.0 (Members.and_l e (not c.1) t) in (x, λ v. T_not c.1 (Members.and_r e (not c.1) t) ((w.1 x).1 v))

    back : E × (r.1 → ⊥) → T (e && not c.1)
    back x = Members.and_i e (not c.1) (i.1 x.0) (not_T c.1 (λ t. x.1 ((w.1 x.0).0 t)))

    none : (T (e && not c.1) → ⊥) → Members.Test e → Members.Test c.1 → Distinct (0 ∷ numbers_of cs) × (In c.0 (0 ∷ numbers_of cs) → ⊥) → In a
        (0 ∷ numbers_of cs) → ⊥
    none t (Members.Test.fails u) b k j = z u (skip-in a c.0 (numbers_of cs) j)
    none t (Members.Test.holds u) (Members.Test.holds b) k j = k.1 (subst (λ (x : ℕ). In x (0 ∷ numbers_of cs)) (y u ∙ hit b) j)
    none t (Members.Test.holds u) (Members.Test.fails b) k j = t (Members.and_i e (not c.1) u (not_T c.1 b))

-- the rows of a call after those of the disk
abbrev pub own_rows : List (ℕ × Bool) → List (ℕ × Bool)
own_rows cs = drop (1 + length fault_numbers) cs

abbrev pub without : ℕ → Table → Table
without zero rs = rs
without (suc n) [] = []
without (suc n) (r ∷ rs) = without n rs

abbrev pub own_cases : Table → Table
own_cases rs = without (1 + length fault_numbers) rs

-- The law: a list whose numbers differ, and are not 0, answers each number exactly in its case
pub exactly : (cs : List (ℕ × Bool)) (rs : Table) → Reading cs rs (Unit {0}) → T (distinct (0 ∷ numbers_of cs)) → Exactly (first cs) rs
exactly cs rs w n = rows cs rs true (Unit {0}) (λ t. tt, λ t. tt) w (Members.distinct-says (0 ∷ numbers_of cs) n) (first cs) (λ t. refl) (λ t. absurd (t tt))

-- The cases -------------------------------------------------------------------------------------------------------------------------

pub not_iff : (b : Bool) {C : Type 0} → (T b ↔ C) → (T (not b) ↔ (C → ⊥))
not_iff b i = (λ t c. T_not b t (i.1 c), λ n. not_T b (λ t. n (i.0 t)))

false-iff : (b : Bool) → T (not b) ↔ (b ≡ false)
false-iff b = (λ t. Members.no_false (T_not b t), λ e. not_T b (Members.false-no e))

lt_iff : (m n : ℕ) → T (ltb m n) ↔ (m < n)
lt_iff m n = (ltb→lt m n, lt→ltb m n)

pub le_iff : (m n : ℕ) → T (leb m n) ↔ (m ≤ n)
le_iff m n = (leb→le m n, le→leb m n)

eq_iff : (m n : ℕ) → T (eqb m n) ↔ (m ≡ n)
eq_iff m n = (eqb→eq m n, λ e. Members.eq-T e)

both_iff : (a b : Bool) {A B : Type 0} → (T a ↔ A) → (T b ↔ B) → (T (all (a ∷ b ∷ [])) ↔ (A × B))
unfolding all
both_iff a b i j = (λ t. (i.0 (Members.and_l a (b && true) t), j.0 (Members.all-second a b t)), λ x. Members.all_two a b (i.1 x.0) (j.1 x.1))

either-iff : (a b : Bool) {A B : Type 0} → (T a ↔ A) → (T b ↔ B) → (T (any (a ∷ b ∷ [])) ↔ (A ⊎ B))
either-iff a b {A} {B} i j = (λ t. go (Members.any-e a b t), back)
  where
    go : T a ⊎ T b → A ⊎ B
    go (inl t) = inl (i.0 t)
    go (inr t) = inr (j.0 t)

    back : A ⊎ B → T (any (a ∷ b ∷ []))
    back (inl x) = Members.any-l a b (i.1 x)
    back (inr x) = Members.any-r a b (j.1 x)

ruleset parts = (Members.and_l, Members.and_r)

fits_iff : (g : Geometry) (d : List ℕ) → T (fits_geometry g d) ↔ FitsGeometry g d
unfolding fits_geometry words
fits_iff g d = (fore, back)
  where
    Sized : Type 0
    Sized = (g.granule ≡ 5) ⊎ ((g.granule ≡ 10) ⊎ (g.granule ≡ 20))

    size-of : T (has granule_sizes g.granule) → Sized
    size-of t = go (Members.or-e (eqb g.granule 5) (eqb g.granule 10 || (eqb g.granule 20 || false)) t)
      where
        go : T (eqb g.granule 5) ⊎ T (eqb g.granule 10 || (eqb g.granule 20 || false)) → Sized
        go (inl x) = inl (eqb→eq _ _ x)
        go (inr x) = more (Members.or-e (eqb g.granule 10) (eqb g.granule 20 || false) x)
          where
            last : T (eqb g.granule 20) ⊎ T false → Sized
            last (inl y) = inr (inr (eqb→eq _ _ y))
            last (inr y) = absurd y

            more : T (eqb g.granule 10) ⊎ T (eqb g.granule 20 || false) → Sized
            more (inl y) = inr (inl (eqb→eq _ _ y))
            more (inr y) = last (Members.or-e (eqb g.granule 20) false y)

    of_size : Sized → T (has granule_sizes g.granule)
    of_size (inl e) = subst (λ (n : ℕ). T (has granule_sizes n)) (sym e) tt
    of_size (inr (inl e)) = subst (λ (n : ℕ). T (has granule_sizes n)) (sym e) tt
    of_size (inr (inr e)) = subst (λ (n : ℕ). T (has granule_sizes n)) (sym e) tt

    fore : T (fits_geometry g d) → FitsGeometry g d
    fore t =
        let a : T (leb 1 g.blocks) = search parts depth 9 in
        let b : T (leb g.blocks most_blocks) = search parts depth 9 in
        let c : T (leb 1 g.units) = search parts depth 9 in
        let e : T (leb g.units most_units) = search parts depth 9 in
        let f : T (eqb (g.start % granule_sectors g) 0) = search parts depth 9 in
        let h : T (eqb (length d) (granules g * granule_bytes g)) = search parts depth 9 in
        let i : T (leb (g.start + 10) (sectors g)) = search parts depth 9 in
        let j : T (has granule_sizes g.granule) = search parts depth 9 in
        record {
          blocks-lo = leb→le _ _ a;
          blocks-hi = leb→le _ _ b;
          units-lo = leb→le _ _ c;
          units-hi = leb→le _ _ e;
          start-at = eqb→eq _ _ f;
          long = eqb→eq
              _ _ h;
          ten = leb→le _ _ i;
          sized = size-of j;
        }

    back : FitsGeometry g d → T (fits_geometry g d)
    back k =
        let a : T (leb 1 g.blocks) = le→leb _ _ k.blocks-lo in
        let b : T (leb g.blocks most_blocks) = le→leb _ _ k.blocks-hi in
        let c : T (leb 1 g.units) = le→leb _ _ k.units-lo in
        let e : T (leb g.units most_units) = le→leb _ _ k.units-hi in
        let f : T (eqb (g.start % granule_sectors g) 0) = Members.eq-T k.start-at in
        let h : T (eqb (length d) (granules g * granule_bytes g)) = Members.eq-T k.long in
        let i : T (leb (g.start + 10) (sectors g)) = le→leb _ _ k.ten in
        let j : T (has granule_sizes g.granule) = of_size k.sized in
        search Members.and_i depth 9

pub length-iff : (len : ℕ) → T (good_length len) ↔ LengthInRange len
unfolding good_length
length-iff len = both_iff (leb 1 len) (leb len 256) (le_iff 1 len) (le_iff len 256)

pub range-iff : (g : Geometry) (h : Handle) → T (in_range g h) ↔ InRange g h
unfolding words
range-iff g h = (fore, back)
  where
    fore : T (in_range g h) → InRange g h
    fore t =
        let a : T (leb h.at (highest g)) = search parts depth 6 in
        let b : T (good_length h.len) = search parts depth 6 in
        let e : T (leb h.level 7) = search parts depth 6 in
        record { at = leb→le _ _ a; length' = (length-iff h.len).0 b; level = leb→le _ _ e }

    back : InRange g h → T (in_range g h)
    back r =
        let a : T (leb h.at (highest g)) = le→leb _ _ r.at in
        let b : T (good_length h.len) = (length-iff h.len).1 r.length' in
        let e : T (leb h.level 7) = le→leb _ _ r.level in
        search Members.and_i depth 6

pub new-iff : (f : NewFile) → T (new_in_range f) ↔ NewInRange f
unfolding words
new-iff f = (fore, back)
  where
    fore : T (new_in_range f) → NewInRange f
    fore t =
        let a : T (leb f.day 31) = search parts depth 7 in
        let b : T (leb f.month 15) = search parts depth 7 in
        let c : T (leb f.year 15) = search parts depth 7 in
        let e : T (good_length f.len) = search parts depth 7 in
        record { day = leb→le _ _ a; month = leb→le _ _ b; year = leb→le _ _ c; length' = (length-iff f.len).0 e }

    back : NewInRange f → T (new_in_range f)
    back r =
        let a : T (leb f.day 31) = le→leb _ _ r.day in
        let b : T (leb f.month 15) = le→leb _ _ r.month in
        let c : T (leb f.year 15) = le→leb _ _ r.year in
        let e : T (good_length f.len) = (length-iff f.len).1 r.length' in
        search Members.and_i depth 7

pub live-iff : (g : Geometry) (d : List ℕ) (h : Handle) → T (fresh g d h) ↔ Live g d h
unfolding words
live-iff g d h = (fore, back)
  where
    fore : T (fresh g d h) → Live g d h
    fore t =
        let a : T (is_slot g d h.slot) = search parts depth 6 in
        let b : T (in_use g d h.slot) = search parts depth 6 in
        let c : T (not (extension g d h.slot)) = search parts depth 6 in
        let e : T (same (name_of g d h.slot) h.name) = search parts depth 6 in
        record { slot = a; used = b; first = c; name' = Members.same-eq _ _ e }

    back : Live g d h → T (fresh g d h)
    back r =
        let a : T (is_slot g d h.slot) = r.slot in
        let b : T (in_use_primary g d h.slot) = Members.and_i (in_use g d h.slot) (not (extension g d h.slot)) r.used r.first in
        let e : T (same (name_of g d h.slot) h.name) = subst (λ (l : List ℕ). T (same (name_of g d h.slot) l)) r.name'
        (Members.same_refl (name_of g d h.slot)) in
        search Members.and_i depth 6

pub found-not : (f : File) → found f ≡ nothing → ⊥
found-not f e = let z : ◌≡◌ {A = ℕ} 0 1 = cc in omega arith

-- 4: no file of that name
pub missing-iff : (g : Geometry) (d n : List ℕ) → T (missing g d n) ↔ (plain g d n ≡ nothing)
unfolding plain found_in
missing-iff g d n = go (named g d n)
  where
    go : (xs : List ℕ) → T (eqb (length xs) 0) ↔ (found_in g d xs ≡ nothing)
    go [] = (λ t. refl, λ e. tt)
    go (x ∷ xs) = (λ t. absurd (omega (arith, eqb→eq (length (x ∷ xs)) 0 t)), λ e. absurd (found-not (file_at g d x) e))

-- level 0, by the codes of the plain file
pub full-iff : (g : Geometry) (d : List ℕ) (s : ℕ) (checking : Bool) (code : ℕ) → T (full g d s checking code) ↔ Full g (file_at g d s) checking code
unfolding file_at words
full-iff g d s checking code = (λ t. fore (Members.or-e (not checking) _ t), back)
  where
    two : Bool
    two = eqb (main_code g d s) g.noPassword || (eqb code (main_code g d s) || false)

    late : T (eqb (main_code g d s) g.noPassword) ⊎ T (eqb code (main_code g d s) || false) → Full g (file_at g d s) checking code
    late (inl t) = inr (inl (eqb→eq _ _ t))
    late (inr t) = inr (inr (eqb→eq _ _ (last (Members.or-e (eqb code (main_code g d s)) false t))))
      where
        last : T (eqb code (main_code g d s)) ⊎ ⊥ → T (eqb code (main_code g d s))
        last (inl u) = u
        last (inr u) = absurd u

    fore : T (not checking) ⊎ T (eqb (main_code g d s) g.noPassword || (eqb code (main_code g d s) || false)) → Full g (file_at g d s) checking code
    fore (inl t) = inl ((false-iff checking).0 t)
    fore (inr t) = late (Members.or-e (eqb (main_code g d s) g.noPassword) (eqb code (main_code g d s) || false) t)

    back : Full g (file_at g d s) checking code → T (full g d s checking code)
    back (inl e) = Members.or_l (not checking) _ ((false-iff checking).1 e)
    back (inr (inl e)) = Members.or_r (not checking) _ (Members.or_l (eqb (main_code g d s) g.noPassword) _ (Members.eq-T e))
    back (inr (inr e)) = Members.or_r (not checking) _
        (Members.or_r (eqb (main_code g d s) g.noPassword) _ (Members.or_l (eqb code (main_code g d s)) false (Members.eq-T e)))

-- the code gives one of the two levels
pub admitted-iff : (g : Geometry) (d : List ℕ) (s : ℕ) (checking : Bool) (code : ℕ)
    → T (admits g d s checking code) ↔ (Full g (file_at g d s) checking code ⊎ (code ≡ Promises.worker_code (file_at g d s)))
unfolding admits file_at
admitted-iff g d s checking code =
    either-iff (full g d s checking code) (eqb code (worker_code g d s)) (full-iff g d s checking code) (eq_iff code (worker_code g d s))

-- 5: the code gives neither level
pub admits-iff : (g : Geometry) (d : List ℕ) (s : ℕ) (checking : Bool) (code : ℕ)
    → T (not (admits g d s checking code)) ↔ ((Full g (file_at g d s) checking code → ⊥) × (code ≢ Promises.worker_code (file_at g d s)))
unfolding admits file_at
admits-iff g d s checking code = (fore, back)
  where
    i : T (admits g d s checking code) ↔ (Full g (file_at g d s) checking code ⊎ (code ≡ worker_code g d s))
    i = admitted-iff g d s checking code

    fore : T (not (admits g d s checking code)) → (Full g (file_at g d s) checking code → ⊥) × (code ≢ worker_code g d s)
    fore t = (λ x. T_not (admits g d s checking code) t (i.1 (inl x)), λ x. T_not (admits g d s checking code) t (i.1 (inr x)))

    back : (Full g (file_at g d s) checking code → ⊥) × (code ≢ worker_code g d s) → T (not (admits g d s checking code))
    back x = not_T (admits g d s checking code) (λ t. go (i.0 t))
      where
        go : Full g (file_at g d s) checking code ⊎ (code ≡ worker_code g d s) → ⊥
        go (inl y) = x.0 y
        go (inr y) = x.1 y

-- the file of a name that is not missing
wrong-iff : (g : Geometry) (d n : List ℕ) (checking : Bool) (code : ℕ)
    → (T (missing g d n) → ⊥) → T (not (admits g d (slot_of g d n) checking code)) ↔ Promises.WrongCode g d n checking code
unfolding plain found_in first_or
wrong-iff g d n checking code = go (named g d n)
  where
    go : (xs : List ℕ) → (T (eqb (length xs) 0) → ⊥) → T (not (admits g d (first_or 0 xs) checking code))
        ↔ ((f : File) × (found_in g d xs ≡ found f) × (Full g f checking code → ⊥) × (code ≢ Promises.worker_code f))
    go [] k = absurd (k tt)
    go (x ∷ xs) k = (
      λ t. let y = (admits-iff g d x checking code).0 t in (file_at g d x, refl, y.0, y.1),
      λ y. let e : file_at g d x ≡ y.0 = Named.found-inj (file_at g d x) y.0 y.1 in
          (admits-iff g d x checking code).1 (rw e y.2, rw e y.3),
    )

wrong-created : (g : Geometry) (d n : List ℕ) (checking : Bool) (code : ℕ)
    → T (all (not (missing g d n) ∷ not (admits g d (slot_of g d n) checking code) ∷ [])) ↔ Promises.WrongCode g d n checking code
unfolding words
wrong-created g d n checking code = (
  λ t. (wrong-iff g d n checking code (T_not (missing g d n) (Members.and_l (not (missing g d n)) _ t))).0
      (Members.all-second (not (missing g d n)) (not (admits g d (slot_of g d n) checking code)) t),
  λ x. let k : T (missing g d n) → ⊥ = λ t. found-not x.0 (sym x.1 ∙ (missing-iff g d n).0 t) in
      Members.all_two (not (missing g d n)) (not (admits g d (slot_of g d n) checking code)) (not_T (missing g d n) k) ((wrong-iff g d n checking code k).1 x),
)

none-iff : (xs : List ℕ) → T (eqb (length xs) 0) ↔ (xs ≡ [])
none-iff [] = (λ t. refl, λ e. tt)
none-iff (x ∷ xs) = (λ t. absurd (omega (arith, eqb→eq (length (x ∷ xs)) 0 t)), λ e. absurd (let z : ◌≡◌ {A = ℕ} 0 1 = cc in omega arith))

fails-iff : (t : Grown) → T (fails t) ↔ (t ≡ no_slot)
unfolding fails
fails-iff (grown d) = (λ t. absurd t, λ e. absurd (let z : ◌≡◌ {A = ℕ} 0 1 = cc in omega arith))
fails-iff no_slot = (λ t. refl, λ e. tt)

-- The calls -------------------------------------------------------------------------------------------------------------------------

module _ (g : Geometry) (d : List ℕ) where
  no-fit : T (not (fits_geometry g d)) ↔ (FitsGeometry g d → ⊥)
  no-fit = not_iff (fits_geometry g d) (fits_iff g d)

  -- E, and none of these numbers is the fault's
  abbrev pub Past : List ℕ → Type 0 → Type 0
  Past [] E = E
  Past (k ∷ ks) E = Past ks (E × ((fault g d).number ≡ k → ⊥))

  past_first : (ks : List ℕ) (E : Type 0) → Past ks E → E
  past_first [] E x = x
  past_first (k ∷ ks) E x = (past_first ks (E × ((fault g d).number ≡ k → ⊥)) x).0

  past-none : (ks : List ℕ) (E : Type 0) → Past ks E → In (fault g d).number ks → ⊥
  past-none [] E x i = Members.none_in i
  past-none (k ∷ ks) E x i = go (Members.in-cons i) (past-none ks (E × ((fault g d).number ≡ k → ⊥)) x)
    where
      go : ((fault g d).number ≡ k) ⊎ In (fault g d).number ks → (In (fault g d).number ks → ⊥) → ⊥
      go (inl e) r = (past_first ks (E × ((fault g d).number ≡ k → ⊥)) x).1 e
      go (inr j) r = r j

  faults-reading : (ks : List ℕ) (cs : List (ℕ × Bool)) (rs : Table) (E : Type 0) → Reading cs rs (Past ks E)
      → Reading (by_number (fault g d).number ks ++ cs) (Promises.fault_cases g d ks rs) E
  faults-reading [] cs rs E r = r
  faults-reading (k ∷ ks) cs rs E r = (refl, λ x. eq_iff (fault g d).number k, faults-reading ks cs rs (E × ((fault g d).number ≡ k → ⊥)) r)

  -- 1 and the faults are passed
  abbrev pub Checked : Type 0
  Checked = Past fault_numbers (Unit {0} × ((FitsGeometry g d → ⊥) → ⊥))

  -- then the disk has no fault
  checked-sound : Checked → Facts.Sound g d
  checked-sound x = go (Members.in-cons (Fault.numbered g d))
    where
      go : ((fault g d).number ≡ 0) ⊎ In (fault g d).number fault_numbers → Facts.Sound g d
      go (inl e) = Facts.sound g d ((Fault.no_number g d).0 e)
      go (inr i) = absurd (past-none fault_numbers (Unit {0} × ((FitsGeometry g d → ⊥) → ⊥)) x i)

  -- a disk that fits and has no fault passes them
  past_of : (ks : List ℕ) (E : Type 0) → E → (In (fault g d).number ks → ⊥) → Past ks E
  past_of [] E x f = x
  past_of (k ∷ ks) E x f = past_of ks (E × ((fault g d).number ≡ k → ⊥)) (x, λ e. f (Members.head_in ks e)) (λ i. f (Members.In.there i))

  pub checked-of : ((FitsGeometry g d → ⊥) → ⊥) → consistent g d ≡ true → Checked
  checked-of f e = past_of fault_numbers (Unit {0} × ((FitsGeometry g d → ⊥) → ⊥)) (tt, f)
      (λ i. let k = Members.count-in (fault g d).number 21 10 i in omega (arith, k, (Fault.no_number g d).1 e))

  pub checked-fits : Checked → (FitsGeometry g d → ⊥) → ⊥
  checked-fits c = (past_first fault_numbers (Unit {0} × ((FitsGeometry g d → ⊥) → ⊥)) c).1

  -- a call's own rows
  rows-past : (ks : List ℕ) (rs : Table) (a : ℕ) (E : Type 0) → Rows a E (Promises.fault_cases g d ks rs) → Rows a (Past ks E) rs
  rows-past [] rs a E r = r
  rows-past (k ∷ ks) rs a E r = rows-past ks rs a (E × ((fault g d).number ≡ k → ⊥)) r.1

  pub own-rows : (rs : Table) (a : ℕ) → Exactly a (Promises.disk_cases g d rs) → Rows a Checked rs
  own-rows rs a r = rows-past fault_numbers rs a (Unit {0} × ((FitsGeometry g d → ⊥) → ⊥)) r.1

  -- the rows that every call has first
  pub disk-reading : (cs : List (ℕ × Bool)) (rs : Table) → Reading cs rs Checked → Reading (disk_refusals g d cs) (Promises.disk_cases g d rs) (Unit {0})
  disk-reading cs rs r = (refl, λ x. no-fit, faults-reading fault_numbers cs rs (Unit {0} × ((FitsGeometry g d → ⊥) → ⊥)) r)

  stale : (h : Handle) → T (not (fresh g d h)) ↔ (Live g d h → ⊥)
  stale h = not_iff (fresh g d h) (live-iff g d h)

  barred-iff : (most : ℕ) (h : Handle) → T (any (ltb most h.level ∷ system g d h.slot ∷ [])) ↔ ((most < h.level) ⊎ T (is_system (file_at g d h.slot)))
  unfolding file_at
  barred-iff most h = either-iff (ltb most h.level) (system g d h.slot) (lt_iff most h.level) (λ t. t, λ t. t)

  -- what a call that writes has passed before the tests of its growth
  record Writes (h : Handle) : Type 0 where
    fits : Places.Fits g d
    sound : Facts.Sound g d
    file : Facts.IsFile g d h.slot
    user : T (not (system g d h.slot))

  holds : (b : Bool) {C : Type 0} → (T b ↔ C) → ((C → ⊥) → ⊥) → T b
  holds b i n = Passed.yes-T b (λ t. n (λ x. T_not b t (i.1 x)))

  writes : (h : Handle) → Checked → ((Live g d h → ⊥) → ⊥)
      → ((4 < h.level) ⊎ T (is_system (file_at g d h.slot)) → ⊥) → Writes h
  unfolding file_at
  writes h c l u =
      let v = (live-iff g d h).0 (holds (fresh g d h) (live-iff g d h) l) in
      record {
        fits = Places.fits g d (holds (fits_geometry g d) (fits_iff g d) (checked-fits c));
        sound = checked-sound c;
        file = record { slot = v.slot; primary' = Members.and_i (in_use g d h.slot) (not (extension g d h.slot)) v.used v.first };
        user = not_T (system g d h.slot) (λ t. u (inr t));
      }

  stuck : (h : Handle) (k : ℕ) → Writes h → (length (free_granules g d) < k → ⊥) → T (fails (growth g h.slot k d)) ↔ NothingFits g d h.slot k
  stuck h k w n =
      let i = Fitting.growth-iff g h.slot k d (record {
        sound = w.sound;
        fits = w.fits;
        file = w.file;
        user = w.user;
        enough = nltb→le (length (free_granules g d)) k
            (not_T (ltb (length (free_granules g d)) k) (λ t. n (ltb→lt (length (free_granules g d)) k t)));
      }) in
      let j = fails-iff (growth g h.slot k d) in
      (λ t. i.0 (j.0 t), λ s. j.1 (i.1 s))

  growth-reading : (h : Handle) (k : ℕ) (E : Type 0) → (E → Writes h) → Reading (cannot_grow g d h.slot k) (Promises.growth_cases g d h k) E
  unfolding file_at
  growth-reading h k E w = (
    refl,
    λ x. both_iff (no_growth g d h.slot) (ltb 0 k) (λ t. t, λ t. t) (lt_iff 0 k),
    (refl, λ x. lt_iff (length (free_granules g d)) k, (refl, λ x. stuck h k (w x.0.0) x.1, tt)),
  )

  growth-needed : (h : Handle) (k k' : ℕ) → k ≡ k' → (E : Type 0) → (E → Writes h) → Reading (cannot_grow g d h.slot k) (Promises.growth_cases g d h k') E
  growth-needed h k k' e E w = subst (λ (n : ℕ). Reading (cannot_grow g d h.slot k) (Promises.growth_cases g d h n) E) e (growth-reading h k E w)

  check-numbers : Exactly (check g d).number (Promises.disk_cases g d [])
  unfolding check
  check-numbers = exactly (disk_refusals g d []) (Promises.disk_cases g d []) (disk-reading [] [] tt) tt

  -- what has passed them has nothing to tell
  pub checked-none : Checked → (check g d).number ≡ 0
  checked-none = (own-rows [] (check g d).number check-numbers).1

  look-numbers : (n : List ℕ) → Exactly (look_up g d n).refusal.number (table g d (Call.looks_up n))
  unfolding look_up
  look-numbers n = exactly (look_up_refusals g d n) (table g d (Call.looks_up n))
      (disk-reading (own_rows (look_up_refusals g d n)) (own_cases (table g d (Call.looks_up n)))
      (refl, λ x. false-iff (well_formed (fold n)), (refl, λ x. missing-iff g d (fold n), tt))) tt

  open-numbers : (n : List ℕ) (len : ℕ) (checking : Bool) (code : ℕ) → Exactly (open' g d n len checking code).refusal.number
      (table g d (Call.opens n len checking code))
  unfolding open'
  open-numbers n len checking code = exactly (open_refusals g d n len checking code) (table g d (Call.opens n len checking code))
      (disk-reading (own_rows (open_refusals g d n len checking code)) (own_cases (table g d (Call.opens n len checking code))) (
        refl,
        λ x. not_iff (good_length len) (length-iff len),
        (
          refl,
          λ x. false-iff (well_formed (fold n)),
          (
            refl,
            λ x. missing-iff g d (fold n),
            (refl, λ x. wrong-iff g d (fold n) checking code (λ t. x.1 ((missing-iff g d (fold n)).0 t)), tt),
          ),
        ),
      )) tt

  create-numbers : (n : List ℕ) (f : NewFile) (checking : Bool) → Exactly (create g d n f checking).0.refusal.number
      (table g d (Call.creates n f checking))
  unfolding create
  create-numbers n f checking = exactly (create_refusals g d n f checking) (table g d (Call.creates n f checking))
      (disk-reading (own_rows (create_refusals g d n f checking)) (own_cases (table g d (Call.creates n f checking))) (
        refl,
        λ x. not_iff (new_in_range f) (new-iff f),
        (
          refl,
          λ x. false-iff (well_formed (fold n)),
          (
            refl,
            λ x. wrong-created g d (fold n) checking f.main,
            (refl, λ x. both_iff (missing g d (fold n)) (eqb (length (free_slots g d)) 0) (missing-iff g d (fold n)) (none-iff (free_slots g d)), tt),
          ),
        ),
      )) tt

  pub three-iff : (a b c : Bool) {A B C : Type 0} → (T a ↔ A) → (T b ↔ B) → (T c ↔ C) → (T (all (a ∷ b ∷ c ∷ [])) ↔ (A × B × C))
  unfolding all
  three-iff a b c i j k = (
    λ t. (
      i.0 (Members.and_l a (b && (c && true)) t),
      j.0 (Members.and_l b (c && true) (Members.and_r a (b && (c && true)) t)),
      k.0
          (Members.all-second b c (Members.and_r a (b && (c && true)) t)),
    ),
    λ x. Members.and_i a (b && (c && true)) (i.1 x.0) (Members.all_two b c (j.1 x.1) (k.1 x.2)),
  )

  pub read-numbers : (h : Handle) (n : ℕ) (b : List ℕ) → Exactly (read_of g d h n b).0.refusal.number (read_table g d h n b)
  unfolding read_of
  read-numbers h n b = exactly (read_refusals g d h n (length b)) (read_table g d h n b)
      (disk-reading (own_rows (read_refusals g d h n (length b))) (own_cases (read_table g d h n b)) (
        refl,
        λ x. not_iff (all (in_range g h ∷ leb n (highest g) ∷ leb n (length b) ∷ []))
            (three-iff (in_range g h) (leb n (highest g)) (leb n (length b)) (range-iff g h) (le_iff n (highest g)) (le_iff n (length b))),
        (
          refl,
          λ x. stale h,
          (
            refl,
            λ x. lt_iff 5 h.level,
            (
              refl,
              λ x. subst (λ (s : ℕ). T (ltb (size_of g d h.slot) (h.at + n)) ↔ (s < h.at + n))
                  (sym (Others.file-length g d h.slot)) (lt_iff (size_of g d h.slot) (h.at + n)),
              tt,
            ),
          ),
        ),
      )) tt

  sector-numbers : (h : Handle) (k : ℕ) → Exactly (read_sector g d h k).refusal.number (table g d (Call.reads_sector h k))
  unfolding read_sector
  sector-numbers h k = exactly (sector_refusals g d h k) (table g d (Call.reads_sector h k))
      (disk-reading (own_rows (sector_refusals g d h k)) (own_cases (table g d (Call.reads_sector h k))) (
        refl,
        λ x. not_iff (all (in_range g h ∷ ltb k (sector_numbers g) ∷ []))
            (both_iff (in_range g h) (ltb k (sector_numbers g)) (range-iff g h) (lt_iff k (sector_numbers g))),
        (
          refl,
          λ x. stale h,
          (refl, λ x. lt_iff 5 h.level, (refl, λ x. le_iff (sector_count g d h.slot) k, tt)),
        ),
      )) tt

  pub write-numbers : (m : Mode) (h : Handle) (n : ℕ) (b : List ℕ) → Exactly (write_of g d m h n b).0.refusal.number (write_table g d m h n b)
  unfolding write_of
  write-numbers m h n b = exactly (write_refusals g d m h n (length b)) (write_table g d m h n b)
      (disk-reading (own_rows (write_refusals g d m h n (length b))) (own_cases (write_table g d m h n b)) (
        refl,
        λ x. not_iff (all (in_range g h ∷ leb (h.at + n) (highest g) ∷ leb n (length b) ∷ []))
            (three-iff (in_range g h) (leb (h.at + n) (highest g)) (leb n (length b)) (range-iff g h) (le_iff (h.at + n) (highest g)) (le_iff n (length b))),
        (
          refl,
          λ x. stale h,
          (refl, λ x. barred-iff 4 h, growth-needed h (to_write g d m h n) _ needed _ (λ x. writes h x.0.0.0 x.0.1 x.1)),
        ),
      )) tt
    where
      needed : to_write g d m h n ≡ Promises.lacks g d h (granules_for g (size_after m (length (file_at g d h.slot).bytes) (h.at + n)))
      needed = unfold file_at in ap (λ (s : ℕ). lacking g d h.slot (granules_for g (size_after m s (h.at + n)))) (sym (Others.file-length g d h.slot))

  allot-numbers : (h : Handle) (k : ℕ) → Exactly (allot g d h k).0.refusal.number (table g d (Call.allots h k))
  unfolding allot file_at
  allot-numbers h k = exactly (allot_refusals g d h k) (table g d (Call.allots h k))
      (disk-reading (own_rows (allot_refusals g d h k)) (own_cases (table g d (Call.allots h k))) (
        refl,
        λ x. not_iff (all (in_range g h ∷ ltb k (sector_numbers g) ∷ []))
            (both_iff (in_range g h) (ltb k (sector_numbers g)) (range-iff g h) (lt_iff k (sector_numbers g))),
        (refl, λ x. stale h, (refl, λ x. barred-iff 4 h, growth-reading h (to_allot g d h k) _ (λ x. writes h x.0.0.0 x.0.1 x.1))),
      )) tt

  trim-numbers : (h : Handle) → Exactly (trim g d h).0.refusal.number (table g d (Call.trims h))
  unfolding trim
  trim-numbers h = exactly (trim_refusals g d h) (table g d (Call.trims h))
      (disk-reading (own_rows (trim_refusals g d h)) (own_cases (table g d (Call.trims h)))
      (refl, λ x. not_iff (in_range g h) (range-iff g h), (refl, λ x. stale h, (refl, λ x. barred-iff 4 h, tt)))) tt

  kill-numbers : (h : Handle) → Exactly (kill g d h).0.refusal.number (table g d (Call.kills h))
  unfolding kill
  kill-numbers h = exactly (kill_refusals g d h) (table g d (Call.kills h))
      (disk-reading (own_rows (kill_refusals g d h)) (own_cases (table g d (Call.kills h)))
      (refl, λ x. not_iff (in_range g h) (range-iff g h), (refl, λ x. stale h, (refl, λ x. barred-iff 1 h, tt)))) tt

  -- the listing answers check's number
  pub list-number : (i : ℕ) → (Listing.list g d i).refusal.number ≡ (check g d).number
  unfolding Listing.list
  list-number i = go (Members.decide (eqb (check g d).number 0))
    where
      first-number : (xs : List ℕ) → (Listing.tell_first g d xs).refusal.number ≡ 0
      first-number [] = unfold Listing.tell_first in refl
      first-number (x ∷ xs) = unfold Listing.tell_first in refl

      n : ℕ
      n = (check g d).number

      go : Members.Test (eqb n 0)
          → (cond (eqb n 0) (Listing.tell_first g d (lib.ListN.drop i (Listing.listed g d))) (Listing.no_file (check g d))).refusal.number ≡ n
      go (Members.Test.holds t) = rw (Members.T_true {b = eqb n 0} t) (first-number (lib.ListN.drop i (Listing.listed g d)) ∙ sym (eqb→eq n 0 t))
      go (Members.Test.fails t) = rw (Members.no_false {b = eqb n 0} t)

  measure-numbers : Exactly (free_space g d).refusal.number (table g d Call.measures)
  unfolding free_space
  measure-numbers = exactly (space_refusals g d) (table g d Call.measures) (refl, λ x. no-fit, tt) tt

  pub numbers : (c : Call) → Exactly (number g d c) (table g d c)
  unfolding number Listing.counts
  numbers Call.checks = check-numbers
  numbers (Call.looks_up n) = look-numbers n
  numbers (Call.opens n len checking code) = open-numbers n len checking code
  numbers (Call.creates n f checking) = create-numbers n f checking
  numbers (Call.reads a h b) = read-numbers h (how_many a h.len b) b
  numbers (Call.reads_sector h k) = sector-numbers h k
  numbers (Call.writes a m h b) = write-numbers m h (how_many a h.len b) b
  numbers (Call.allots h k) = allot-numbers h k
  numbers (Call.trims h) = trim-numbers h
  numbers (Call.kills h) = kill-numbers h
  numbers (Call.lists i) = subst (λ (n : ℕ). Exactly n (Promises.disk_cases g d [])) (sym (list-number i)) check-numbers
  numbers Call.counts = check-numbers
  numbers Call.measures = measure-numbers
