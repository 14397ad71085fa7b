-- What demand 2 alone fixes: any two that keep the promises of one call on one disk give the same number, hand back the same bytes, the same
-- handle apart from its slot, the same counts, and leave the same plain files, a system file's bytes apart. The contract fixes the rest, which
-- is where things stand: slots, places and granules (STRENGTH.md). Nothing here uses what the right answer is.
use Rattle.std.specs.Prelude.{◌≡◌, refl, ◌≢◌, ◌↔◌, ◌⊎◌, Bool, true, false, List, [], ◌∷◌, ◌++◌, ℕ, ◌+◌, ◌*◌, ◌<◌, ◌≤◌, ltb, length}
use Rattle.std.proofs.Math.Path.{sym, ap}
use Rattle.std.proofs.Common.{subst, ◌∙◌, inl, inr, arith, ltb-true, ltb-false}
use Rattle.std.proofs.Math.Decide.{ℕ_discrete}
use Rattle.std.proofs.Math.ListN.{take, drop}
use Rattle.std.proofs.Math.Seq.{slice}
use Rattle.meaning.specs.Lists.{first_or}
use Rattle.meaning.specs.Names.{fold}
use Rattle.meaning.specs.Amount.{how_many}
use Rattle.meaning.specs.Handles.{moved_to, no_handle}
use Rattle.meaning.specs.Listing.{listed, no_file}
use Rattle.meaning.specs.Calls.{Call, AnswerTo}
use Rattle.meaning.specs.Calls.Call.{checks, looks_up, opens, creates, reads, reads_sector, writes, allots, trims, kills, lists, counts, measures}
use Rattle.meaning.specs.Plain.{File, Found, found, nothing, plain, with', file_at}
use Rattle.meaning.specs.declared.Geometry.{Geometry}
use Rattle.meaning.specs.declared.Handle.{Handle}
use Rattle.meaning.specs.declared.Listed.{Listed}
use Rattle.meaning.specs.declared.NewFile.{NewFile}
use Rattle.meaning.specs.declared.Created.{Created}
use Rattle.promises_words.specs.Untouched.{hush}
use Rattle.promises_words.specs.Given.{AreBytes}
use Rattle.differences.specs.Order.{never}
use Rattle.together.specs.Statement.{grip}
use Rattle.promises.specs.Said.{Said}
use Rattle.promises.specs.Promises
use Rattle.promises.specs.Promises.{Promised, Serves, Refuses, Becomes, Changes, Opened, Creates, Full, Table, Rows, Stretch}

-- Numbers ------------------------------------------------------------------------------------------------------------------------

-- a table fixes the number: the row's where its case is the first that holds, 0 where none does
pub one_number : (rs : Table) (E : Type 0) → E → (a b : ℕ) → Rows a E rs → Rows b E rs → a ≡ b
one_number [] E e a b x y = x.1 e ∙ sym (y.1 e)
one_number (r ∷ rs) E e a b x y = by (λ k. one_number rs (E × (r.1 → ⊥)) k a b x.1 y.1) (ℕ_discrete a r.0)
  where
    by : (E × (r.1 → ⊥) → a ≡ b) → Dec (a ≡ r.0) → a ≡ b
    by rest (yes p) = p ∙ sym (y.0.1 (x.0.0 p))
    by rest (no n) = rest (e, λ h. n (x.0.1 (e, h)))

-- What is compared ---------------------------------------------------------------------------------------------------------------

-- what is handed back: look up's slot and count, handles apart from their slots, the bytes read, of a sector too, the file told, the counts
abbrev pub SameAnswer : List ℕ → (c : Call) → AnswerTo c → AnswerTo c → Type 0
SameAnswer d checks r s = Unit {0}
SameAnswer d (looks_up n) r s = r.slot ≡ s.slot
SameAnswer d (opens n len checking code) r s = grip r.handle ≡ grip s.handle
SameAnswer d (creates n f checking) r s = (r.old ≡ s.old) × (grip r.handle ≡ grip s.handle)
SameAnswer d (reads a h b) r s = (r.0.handle ≡ s.0.handle) × (r.1 ≡ s.1)
SameAnswer d (reads_sector h k) r s = slice r.from r.to d ≡ slice s.from s.to d
SameAnswer d (writes a m h b) r s = r.handle ≡ s.handle
SameAnswer d (allots h k) r s = r.handle ≡ s.handle
SameAnswer d (trims h) r s = r.handle ≡ s.handle
SameAnswer d (kills h) r s = r.handle ≡ s.handle
SameAnswer d (lists i) r s = (r.more ≡ s.more) × (r.name ≡ s.name) × (r.size ≡ s.size) × (r.granules ≡ s.granules)
SameAnswer d counts r s = (r.files ≡ s.files) × (r.free ≡ s.free)
SameAnswer d measures r s = (r.free ≡ s.free) × (r.longest ≡ s.longest)

-- under every name the same file: attributes, size, granule count and, system files apart, bytes
abbrev pub SamePlain : Geometry → List ℕ → List ℕ → Type 0
SamePlain g d d' = (n : List ℕ) → hush (plain g d n) ≡ hush (plain g d' n)

pub record Fixed (g : Geometry) (d : List ℕ) (c : Call) (s s' : Said c) : Type 0 where
  pub number : s.number' ≡ s'.number'
  pub answer : SameAnswer d c s.answer s'.answer
  pub files : SamePlain g s.image s'.image

-- Files ----------------------------------------------------------------------------------------------------------------------------

-- one file stands under a name
file_in : File → Found → File
file_in z nothing = z
file_in z (found f) = f

pub one-file : {x : Found} {f f' : File} → x ≡ found f → x ≡ found f' → f ≡ f'
unfolding file_in
one-file {f = f} p q = ap (file_in f) (sym p ∙ q)

is_there : Found → ℕ
is_there nothing = 0
is_there (found f) = 1

pub there-or-not : {x : Found} {f : File} → x ≡ found f → x ≡ nothing → ⊥
unfolding is_there
there-or-not p q = let z : ◌≡◌ {A = ℕ} 1 0 = ap is_there (sym p ∙ q) in omega arith

pub same-becomes : (g : Geometry) (d d' d'' n : List ℕ) (was is was' is' : Found) → is ≡ is'
    → Becomes g d d' n was is → Becomes g d d'' n was' is' → SamePlain g d' d''
same-becomes g d d' d'' n was is was' is' e x y m = x.list m ∙ ap (λ (i : Found). hush (with' (plain g d) n i m)) e ∙ sym (y.list m)

same-changes : (g : Geometry) (d d' d'' : List ℕ) (h h' h'' : Handle) (u : File → Found) (moved : Handle)
    → Changes g d d' h h' u moved → Changes g d d'' h h'' u moved → (h' ≡ h'') × SamePlain g d' d''
same-changes g d d' d'' h h' h'' u moved x y = (
  x.handle' ∙ sym y.handle',
  same-becomes g d d' d'' h.name (found x.file) (u x.file) (found y.file) (u y.file) (ap u (sym x.mine ∙ y.mine)) x.becomes y.becomes,
)

-- Open and create --------------------------------------------------------------------------------------------------------------------

full? : (g : Geometry) (f : File) (checking : Bool) (code : ℕ) → Full g f checking code ⊎ (Full g f checking code → ⊥)
full? g f checking code = by checking (ℕ_discrete (Promises.main_code f) g.noPassword) (ℕ_discrete code (Promises.main_code f))
  where
    by : (b : Bool) → Dec (Promises.main_code f ≡ g.noPassword) → Dec (code ≡ Promises.main_code f) → Full g f b code ⊎ (Full g f b code → ⊥)
    by false p q = inl (inl refl)
    by true (yes p) q = inl (inr (inl p))
    by true (no p) (yes q) = inl (inr (inr q))
    by true (no p) (no q) = inr none
      where
        none : Full g f true code → ⊥
        none (inl e) = never e
        none (inr (inl e)) = p e
        none (inr (inr e)) = q e

same-opened : (g : Geometry) (d n : List ℕ) (len : ℕ) (checking : Bool) (code : ℕ) (h h' : Handle)
    → Opened g d n len checking code h → Opened g d n len checking code h' → grip h ≡ grip h'
same-opened g d n len checking code h h' x y =
    let f = one-file x.called y.called in
    let name = x.name'' ∙ sym y.name'' in let at = x.start ∙ sym y.start in let long = x.length' ∙ sym y.length' in
    let level = by (full? g x.file checking code) f in
    λ k. record { name = name k; at = at k; len = long k; level = level k }
  where
    by : Full g x.file checking code ⊎ (Full g x.file checking code → ⊥) → x.file ≡ y.file → h.level ≡ h'.level
    by (inl w) f = x.full w ∙ sym (y.full (subst (λ (z : File). Full g z checking code) f w))
    by (inr w) f =
        (x.worker w).1 ∙ ap Promises.stored_level f
        ∙ sym (y.worker (λ v. w (subst (λ (z : File). Full g z checking code) (sym f) v))).1

same-created : (g : Geometry) (d n : List ℕ) (f : NewFile) (checking : Bool) (r r' : Created) (d' d'' : List ℕ)
    → Creates g d n f checking r d' → Creates g d n f checking r' d'' → ((r.old ≡ r'.old) × (grip r.handle ≡ grip r'.handle)) × SamePlain g d' d''
same-created g d n f checking r r' d' d'' x y = by r.old refl r'.old refl
  where
    by : (a : Bool) → r.old ≡ a → (b : Bool) → r'.old ≡ b → ((r.old ≡ r'.old) × (grip r.handle ≡ grip r'.handle)) × SamePlain g d' d''
    by true p true q =
        let v = x.old p in let w = y.old q in (
          (p ∙ sym q, same-opened g d (fold n) f.len checking f.main r.handle r'.handle v.0 w.0),
          λ m. ap (λ (e : List ℕ). hush (plain g e m)) (v.1 ∙ sym w.1),
        )
    by true p false q = absurd (there-or-not (x.old p).0.called (y.new q).0.before)
    by false p true q = absurd (there-or-not (y.old q).0.called (x.new p).0.before)
    by false p false q = (
      (p ∙ sym q, ap grip (x.handle' p ∙ sym (y.handle' q))),
      same-becomes g d d' d'' (fold n) nothing _ nothing _ refl (x.new p).0 (y.new q).0,
    )

-- What is told ----------------------------------------------------------------------------------------------------------------------

same-listed : (r s : Listed) → r ≡ s → (r.more ≡ s.more) × (r.name ≡ s.name) × (r.size ≡ s.size) × (r.granules ≡ s.granules)
same-listed r s e = (ap (λ (x : Listed). x.more) e, ap (λ (x : Listed). x.name) e, ap (λ (x : Listed). x.size) e, ap (λ (x : Listed). x.granules) e)

told-listed : (g : Geometry) (d : List ℕ) (i : ℕ) (r s : Listed) → Promises.Lists g d i r → Promises.Lists g d i s → r ≡ s
told-listed g d i r s x y = by (ltb i (length (listed g d))) refl
  where
    by : (t : Bool) → ltb i (length (listed g d)) ≡ t → r ≡ s
    by true e = let l = ltb-true i (length (listed g d)) e in x.tells l ∙ sym (y.tells l)
    by false e = let l = ltb-false i (length (listed g d)) e in x.ends l ∙ sym (y.ends l)

-- One call --------------------------------------------------------------------------------------------------------------------------

module _ (g : Geometry) (d : List ℕ) where
  pub as-stood : (d' d'' : List ℕ) → d' ≡ d → d'' ≡ d → SamePlain g d' d''
  as-stood d' d'' p q m = ap (λ (e : List ℕ). hush (plain g e m)) (p ∙ sym q)

  accepted : AreBytes d → (c : Call) (s s' : Said c) → Serves g d c s → Serves g d c s'
      → SameAnswer d c s.answer s'.answer × SamePlain g s.image s'.image
  unfolding first_or
  accepted u checks s s' x y = (tt, as-stood s.image s'.image x.0 y.0)
  accepted u (looks_up n) s s' x y = (ap (first_or 0) (sym x.1.here ∙ y.1.here), as-stood s.image s'.image x.0 y.0)
  accepted u (opens n len checking code) s s' x y =
      (same-opened g d (fold n) len checking code s.answer.handle s'.answer.handle x.1 y.1, as-stood s.image s'.image x.0 y.0)
  accepted u (creates n f checking) s s' x y = same-created g d n f checking s.answer s'.answer s.image s'.image x y
  accepted u (reads a h b) s s' x y =
      let f = one-file x.1.called y.1.called in (
        (
          x.1.handle' ∙ sym y.1.handle',
          x.1.buffer ∙ ap (λ (z : File). take (how_many a h.len b) (drop h.at z.bytes) ++ drop (how_many a h.len b) b) f ∙ sym y.1.buffer,
        ),
        as-stood s.image s'.image x.0 y.0,
      )
  accepted u (reads_sector h k) s s' x y =
      let v = x.1 u in let w = y.1 u in let f = one-file v.called w.called in
      (v.part ∙ ap (λ (z : File). take 256 (drop (256 * k) z.bytes)) f ∙ sym w.part, as-stood s.image s'.image x.0 y.0)
  accepted u (writes a m h b) s s' x y = same-changes g d s.image s'.image h s.answer.handle s'.answer.handle _ _ x y
  accepted u (allots h k) s s' x y = same-changes g d s.image s'.image h s.answer.handle s'.answer.handle _ _ x y
  accepted u (trims h) s s' x y = same-changes g d s.image s'.image h s.answer.handle s'.answer.handle _ _ x y
  accepted u (kills h) s s' x y = same-changes g d s.image s'.image h s.answer.handle s'.answer.handle _ _ x y
  accepted u (lists i) s s' x y =
      (same-listed s.answer s'.answer (told-listed g d i s.answer s'.answer x.1 y.1), as-stood s.image s'.image x.0 y.0)
  accepted u counts s s' x y =
      ((x.1.files' ∙ sym y.1.files', x.1.free ∙ sym y.1.free), as-stood s.image s'.image x.0 y.0)
  accepted u measures s s' x y =
      let v = x.1 in let w = y.1 in
      let a = w.none-longer v.first s.answer.longest v.stretch in let b = v.none-longer w.first s'.answer.longest w.stretch in
      let e : s.answer.longest ≡ s'.answer.longest = omega (arith, a, b) in
      ((v.clear ∙ sym w.clear, e), as-stood s.image s'.image x.0 y.0)

  refused : (c : Call) (s s' : Said c) → Refuses g d c s → Refuses g d c s' → SameAnswer d c s.answer s'.answer
  refused checks s s' x y = tt
  refused (looks_up n) s s' x y = x.slot ∙ sym y.slot
  refused (opens n len checking code) s s' x y = ap grip (x ∙ sym y)
  refused (creates n f checking) s s' x y = (x.1 ∙ sym y.1, ap grip (x.0 ∙ sym y.0))
  refused (reads a h b) s s' x y = (x.0 ∙ sym y.0, x.1 ∙ sym y.1)
  refused (reads_sector h k) s s' x y =
      let p = x.0 ∙ sym y.0 in let q = x.1 ∙ sym y.1 in λ i. slice (p i) (q i) d
  refused (writes a m h b) s s' x y = x ∙ sym y
  refused (allots h k) s s' x y = x ∙ sym y
  refused (trims h) s s' x y = x ∙ sym y
  refused (kills h) s s' x y = x ∙ sym y
  refused (lists i) s s' x y = (
    ap (λ (r : Listed). r.more) x ∙ sym (ap (λ (r : Listed). r.more) y),
    ap (λ (r : Listed). r.name) x ∙ sym (ap (λ (r : Listed). r.name) y),
    ap (λ (r : Listed). r.size) x ∙ sym (ap (λ (r : Listed). r.size) y),
    ap (λ (r : Listed). r.granules) x ∙ sym (ap (λ (r : Listed). r.granules) y),
  )
  refused counts s s' x y = (x.0 ∙ sym y.0, x.1 ∙ sym y.1)
  refused measures s s' x y = (x.0 ∙ sym y.0, x.1 ∙ sym y.1)

  -- Any two that agree with the statements agree.
  pub any-two : AreBytes d → (c : Call) (s s' : Said c) → Promised g d c s → Promised g d c s' → Fixed g d c s s'
  any-two b c s s' x y =
      let n = one_number (Promises.table g d c) (Unit {0}) tt s.number' s'.number' x.numbers y.numbers in
      by n (ℕ_discrete s.number' 0)
    where
      by : s.number' ≡ s'.number' → Dec (s.number' ≡ 0) → Fixed g d c s s'
      by n (yes e) =
          let w = accepted b c s s' (x.serves e) (y.serves (sym n ∙ e)) in
          record { number = n; answer = w.0; files = w.1 }
      by n (no k) =
          let v = x.refuses k in let w = y.refuses (λ e. k (n ∙ e)) in
          record { number = n; answer = refused c s s' v.1 w.1; files = as-stood s.image s'.image v.0 w.0 }
