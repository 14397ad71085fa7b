-- Demand 3, its last sentence: if no call takes or gives back a granule or an entry, the two images are equal byte for byte
use Rattle.std.specs.Prelude.{◌≡◌, refl, ◌≢◌, ◌⊎◌, Bool, ℕ, ◌+◌, ◌<◌, length, set, take, eqb, leb}
use Rattle.std.proofs.Math.Path.{ap, sym, subst}
use Rattle.std.proofs.Common.{◌∙◌, inl, inr, arith, ext_get_or, lt→ltb, le→leb}
use mathlib.Core.List.{List, [], ◌∷◌, ◌++◌, head-eq_of_cons-eq}
use Rattle.std.proofs.Math.Dec.{T}
use Rattle.meaning.specs.Layout.{byte, entry_at}
use Rattle.meaning.specs.Entries.{name_of}
use Rattle.meaning.specs.Lists.{first_or}
use Rattle.meaning.specs.Refusals.{first}
use Rattle.meaning.specs.Handles.{moved_to}
use Rattle.meaning.specs.Names.{fold}
use Rattle.meaning.specs.Open.{open', opened_at}
use Rattle.meaning.specs.Read.{read_of}
use Rattle.meaning.specs.Write.{write_of}
use Rattle.meaning.specs.LookUp.{named, missing}
use Rattle.meaning.specs.Calls.{number, leaves}
use Rattle.meaning.specs.declared.Geometry.{Geometry}
use Rattle.meaning.specs.declared.Handle.{Handle}
use Rattle.meaning.specs.declared.Mode.{Mode}
use Rattle.lists.specs.Members
use Rattle.laws.specs.Facts
use Rattle.laws.specs.Facts.{Sound}
use Rattle.laws.specs.Places
use Rattle.laws.specs.Passed
use Rattle.laws.specs.Named
use Rattle.together.specs.Statement.{Name, Step, looks_up, opens, creates, moves, reads, reads_sector, writes, allots, trims, kills, Side, known, answer}
use Rattle.together.specs.Statement.{handle_at, many_by, Turn, one, two, Interleaving, none, left, right, World, start, next, after, Taken}
use Rattle.together.specs.State.{Held, Good}
use Rattle.together.proofs.Effects
use Rattle.together.proofs.Interleavings
use Rattle.together.proofs.Interleavings.{Fine, swap, swapped}
use Rattle.together.specs.Quiet
use Rattle.together.specs.Quiet.{Even, Laid, region, in_entry, in_data, written}
use Rattle.together.specs.Still
use Rattle.together.specs.Still.{Still, Agreed}

good-sound : (g : Geometry) (d : List ℕ) → Good g d → Sound g d
unfolding Good
good-sound g d k = Facts.sound g d k.1

good-fits : (g : Geometry) (d : List ℕ) → Good g d → Places.Fits g d
unfolding Good
good-fits g d k = Places.fits g d (Members.true-T k.0)

good-long : (g : Geometry) (d e : List ℕ) → Good g d → Good g e → length d ≡ length e
good-long g d e k l = (good-fits g d k).size ∙ sym (good-fits g e l).size

-- One call on one disk -----------------------------------------------------------------------------------------------------

still : (g : Geometry) (n : Name) (d : List ℕ) (s : Side) (c : Step) → Held (fold n) s.handles → T (known s.handles c) → (answer g n d s c).number ≡ 0
    → Even g (fold n) d (answer g n d s c).disk → Still g (fold n) d (answer g n d s c).disk
unfolding answer number leaves known
still g n d s looks_up h t e q = Still.still-same g (fold n) d d refl
still g n d s (opens len checking code) h t e q = Still.still-same g (fold n) d d refl
still g n d s (creates f checking) h t e q = Still.still-same g (fold n) d _ (Quiet.create-quiet g d n f checking e q).image
still g n d s (moves i at) h t e q = Still.still-same g (fold n) d d refl
still g n d s (reads a i b) h t e q = Still.still-same g (fold n) d d refl
still g n d s (reads_sector i j) h t e q = Still.still-same g (fold n) d d refl
still g n d s (writes a m i b) h t e q =
    let many = many_by s.handles a i b in
    Still.write-still g d (fold n) m (handle_at s.handles i) many b _ (Effects.held_at (fold n) s.handles i h t)
    (Quiet.write-quiet g d (fold n) m (handle_at s.handles i) many b (Effects.held_at (fold n) s.handles i h t) e q)
still g n d s (allots i j) h t e q = Still.still-same g (fold n) d _
    (Quiet.allot-still g d (fold n) (handle_at s.handles i) (Effects.held_at (fold n) s.handles i h t) j e q)
still g n d s (trims i) h t e q = Still.still-same g (fold n) d _
    (Quiet.trim-still g d (fold n) (handle_at s.handles i) (Effects.held_at (fold n) s.handles i h t) e q)
still g n d s (kills i) h t e q = absurd (Quiet.kill-never g d (fold n) (handle_at s.handles i) (Effects.held_at (fold n) s.handles i h t) e q)

-- The same call on two disks that agree on its file's region ------------------------------------------------------------------

open-handle : (g : Geometry) (d : List ℕ) (n : Name) (len : ℕ) (checking : Bool) (code : ℕ) → (open' g d n len checking code).refusal.number ≡ 0
    → ((open' g d n len checking code).handle ≡ opened_at g d (first_or 0 (named g d (fold n))) (fold n) len checking code) × (T (missing g d (fold n)) → ⊥)
unfolding open'
open-handle g d n len checking code e =
    let p₂ = Passed.disk-passed g d _ e in
    let p₃ = Passed.passed 12 _ _ (omega arith) p₂.1 in
    let p₄ = Passed.passed 3 _ _ (omega arith) p₃.1 in
    let p₅ = Passed.passed 4 _ _ (omega arith) p₄.1 in
    (rw e refl, p₅.0)

read-handle : (g : Geometry) (d : List ℕ) (h : Handle) (many : ℕ) (b : List ℕ) → (read_of g d h many b).0.refusal.number ≡ 0
    → (read_of g d h many b).0.handle ≡ moved_to h (h.at + many)
unfolding read_of
read-handle g d h many b e = rw e

write-handle : (g : Geometry) (d : List ℕ) (m : Mode) (h : Handle) (many : ℕ) (b : List ℕ) → (write_of g d m h many b).0.refusal.number ≡ 0
    → (write_of g d m h many b).0.handle ≡ moved_to h (h.at + many)
unfolding write_of
write-handle g d m h many b e = rw e

module _ (g : Geometry) (d₀ : List ℕ) (c₀ : Sound g d₀) (n : Name) where
  -- the bytes of its entry are the file's
  entry-region : (p : ℕ) → Facts.IsFile g d₀ p → name_of g d₀ p ≡ (fold n) → (k : ℕ) → k < 32 → T (region g d₀ (fold n) (entry_at g p + k))
  entry-region p f e k l = rw (Quiet.region-is g d₀ c₀ p (fold n) (entry_at g p + k) f e)
      (Members.or_l (in_entry g p (entry_at g p + k)) (in_data g d₀ p (entry_at g p + k))
      (Members.and_i (leb (entry_at g p) (entry_at g p + k)) _ (le→leb (entry_at g p) (entry_at g p + k) (omega arith))
      (lt→ltb (entry_at g p + k) (entry_at g p + 32) (omega arith))))

  named-one : (p : ℕ) → named g d₀ (fold n) ≡ p ∷ [] → Facts.IsFile g d₀ p × (name_of g d₀ p ≡ (fold n))
  named-one p e = go (Named.look g d₀ c₀ (fold n))
    where
      go : ((q : ℕ) × Facts.IsFile g d₀ q × (name_of g d₀ q ≡ (fold n))) ⊎ ((q : ℕ) → Facts.IsFile g d₀ q → name_of g d₀ q ≢ (fold n)) → Facts.IsFile g d₀ p ×
          (name_of g d₀ p ≡ (fold n))
      go (inl w) =
          let z : w.0 ≡ p = head-eq_of_cons-eq (sym (ap (named g d₀) (sym w.2) ∙ Named.named-is g d₀ c₀ w.0 w.1) ∙ e) in
          (rw (← z) w.1, rw (← z) w.2)
      go (inr w) = absurd (let z : 0 ≡ 1 = ap length (sym (Named.none_named g d₀ (fold n) w) ∙ e) in omega arith)

  named-first : (T (missing g d₀ (fold n)) → ⊥) → (k : ℕ) → k < 32 → T (region g d₀ (fold n) (entry_at g (first_or 0 (named g d₀ (fold n))) + k))
  unfolding first_or
  named-first o k l = go (Named.look g d₀ c₀ (fold n))
    where
      go : ((q : ℕ) × Facts.IsFile g d₀ q × (name_of g d₀ q ≡ (fold n))) ⊎ ((q : ℕ) → Facts.IsFile g d₀ q → name_of g d₀ q ≢ (fold n)) → T
          (region g d₀ (fold n) (entry_at g (first_or 0 (named g d₀ (fold n))) + k))
      go (inl w) =
          let one' : named g d₀ (fold n) ≡ w.0 ∷ [] = ap (named g d₀) (sym w.2) ∙ Named.named-is g d₀ c₀ w.0 w.1 in
          subst (λ (x : ℕ). T (region g d₀ (fold n) (entry_at g x + k))) (sym (ap (first_or 0) one')) (entry-region w.0 w.1 w.2 k l)
      go (inr w) = absurd (o (subst (λ (l : List ℕ). T (eqb (length l) 0)) (sym (Named.none_named g d₀ (fold n) w)) tt))

  module _ (d e : List ℕ) (ld : Laid g d₀ d) (le : Laid g d₀ e) (cd : Sound g d) (ce : Sound g e) (a : Agreed (region g d₀ (fold n)) d e) (hs : List Handle)
      (held : Held (fold n) hs) where
    same-open : (len : ℕ) (checking : Bool) (code : ℕ) → (T (missing g d (fold n)) → ⊥)
        → opened_at g d (first_or 0 (named g d (fold n))) (fold n) len checking code
        ≡ opened_at g e (first_or 0 (named g e (fold n))) (fold n) len checking code
    same-open len checking code o =
        let o₀ : T (missing g d₀ (fold n)) → ⊥ = λ t. o (subst (λ (l : List ℕ). T (eqb (length l) 0)) (sym (ld.names (fold n))) t) in
        ap (λ (l : List ℕ). opened_at g d (first_or 0 l) (fold n) len checking code) (ld.names (fold n))
        ∙ Still.agreed-open (region g d₀ (fold n)) g d e (first_or 0 (named g d₀ (fold n))) (fold n) len checking code (named-first o₀) a
        ∙ sym (ap (λ (l : List ℕ). opened_at g e (first_or 0 l) (fold n) len checking code) (le.names (fold n)))

    snoc : (h h' : Handle) → h ≡ h' → hs ++ (h ∷ []) ≡ hs ++ (h' ∷ [])
    snoc h h' q = ap (λ (x : Handle). hs ++ (x ∷ [])) q

    -- what the lists were handed back plays no part
    Alike : (o o' : List (List ℕ)) → Step → Type 0
    Alike o o' c = Agreed (region g d₀ (fold n)) (answer g n d (record { handles = hs; heard = o }) c).disk
        (answer g n e (record { handles = hs; heard = o' }) c).disk ×
        ((answer g n d (record { handles = hs; heard = o }) c).side.handles ≡ (answer g n e (record { handles = hs; heard = o' }) c).side.handles)

    agreed-eq : (x y : List ℕ) → x ≡ d → y ≡ e → Agreed (region g d₀ (fold n)) x y
    agreed-eq x y p q = rw (p, q) a

    write-alike : (m : Mode) (i many : ℕ) (b : List ℕ) (x y : List ℕ) → (handle_at hs i).name ≡ (fold n) → Quiet.QuietWrite g d m (handle_at hs i) many b x
        → Quiet.QuietWrite g e m (handle_at hs i) many b y → Agreed (region g d₀ (fold n)) x y
    write-alike m i many b x y z v w =
        let h = handle_at hs i in let p = h.slot in
        let k = named-one p (sym (ld.names (fold n)) ∙ ap (named g d) (sym (v.holds.name' ∙ z)) ∙ Named.named-is g d cd p v.holds.file) in
        subst (λ (r : List ℕ). Agreed (region g d₀ (fold n)) r y) (sym v.image)
        (subst (λ (r : List ℕ). Agreed (region g d₀ (fold n)) (written g d p m h.at many (take many b)) r) (sym w.image)
        (Still.agreed-write (region g d₀ (fold n)) g d e p m h.at many (take many b) (entry-region p k.0 k.1)
        (ld.owns p k.0 ∙ sym (le.owns p k.0)) a))

    alike : (o o' : List (List ℕ)) (c : Step) → T (known hs c) → (answer g n d (record { handles = hs; heard = o }) c).number ≡ 0 → (answer g n e
        (record { handles = hs; heard = o' }) c).number ≡ 0
        → Even g (fold n) d (answer g n d (record { handles = hs; heard = o }) c).disk → Even g (fold n) e
        (answer g n e (record { handles = hs; heard = o' }) c).disk → Alike o o' c
    unfolding answer number leaves known Alike
    alike o o' looks_up t x y q r = (a, refl)
    alike o o' (opens len checking code) t x y q r =
        let u = open-handle g d n len checking code x in let v = open-handle g e n len checking code y in
        (a, snoc _ _ (u.0 ∙ same-open len checking code u.1 ∙ sym v.0))
    alike o o' (creates f checking) t x y q r =
        let u = Quiet.create-quiet g d n f checking x q in let v = Quiet.create-quiet g e n f checking y r in
        (agreed-eq _ _ u.image v.image, snoc _ _ (u.handle ∙ same-open f.len checking f.main u.old ∙ sym v.handle))
    alike o o' (moves i at) t x y q r = (a, refl)
    alike o o' (reads v i b) t x y q r =
        let many = many_by hs v i b in (a, ap (set hs i) (read-handle g d (handle_at hs i) many b x ∙ sym (read-handle g e (handle_at hs i) many b y)))
    alike o o' (reads_sector i j) t x y q r = (a, refl)
    alike o o' (writes v m i b) t x y q r =
        let z = Effects.held_at (fold n) hs i held t in let h = handle_at hs i in let many = many_by hs v i b in (
          write-alike m i many b _ _ z (Quiet.write-quiet g d (fold n) m h many b z x q) (Quiet.write-quiet g e (fold n) m h many b z y r),
          ap (set hs i) (write-handle g d m h many b x ∙ sym (write-handle g e m h many b y)),
        )
    alike o o' (allots i j) t x y q r =
        let z = Effects.held_at (fold n) hs i held t in
        (agreed-eq _ _ (Quiet.allot-still g d (fold n) (handle_at hs i) z j x q) (Quiet.allot-still g e (fold n) (handle_at hs i) z j y r), refl)
    alike o o' (trims i) t x y q r =
        let z = Effects.held_at (fold n) hs i held t in
        (agreed-eq _ _ (Quiet.trim-still g d (fold n) (handle_at hs i) z x q) (Quiet.trim-still g e (fold n) (handle_at hs i) z y r), refl)
    alike o o' (kills i) t x y q r = absurd (Quiet.kill-never g d (fold n) (handle_at hs i) (Effects.held_at (fold n) hs i held t) x q)

sides-alike : (g : Geometry) (d₀ : List ℕ) (c₀ : Sound g d₀) (n : Name) (d e : List ℕ) → Laid g d₀ d → Laid g d₀ e → Sound g d → Sound g e → Agreed
    (region g d₀ (fold n)) d e
    → (s s' : Side) → Held (fold n) s.handles → s.handles ≡ s'.handles → (c : Step) → T (known s.handles c) → (answer g n d s c).number ≡ 0 → (answer g
    n e s' c).number ≡ 0
    → Even g (fold n) d (answer g n d s c).disk → Even g (fold n) e (answer g n e s' c).disk
    → Agreed (region g d₀ (fold n)) (answer g n d s c).disk (answer g n e s' c).disk × ((answer g n d s c).side.handles ≡ (answer g n e s' c).side.handles)
sides-alike g d₀ c₀ n d e ld le cd ce a s s' held q c t x y u v =
    subst (λ (hs : List Handle). (answer g n e (record { handles = hs; heard = s'.heard }) c).number ≡ 0 → Even g (fold n) e
    (answer g n e (record { handles = hs; heard = s'.heard }) c).disk
    → Agreed (region g d₀ (fold n)) (answer g n d s c).disk (answer g n e (record { handles = hs; heard = s'.heard }) c).disk ×
    ((answer g n d s c).side.handles ≡ (answer g n e (record { handles = hs; heard = s'.heard }) c).side.handles))
    q (λ y v. unfold Alike in alike g d₀ c₀ n d e ld le cd ce a s.handles held s.heard s'.heard c t x y u v) y v

-- Two lists ----------------------------------------------------------------------------------------------------------------

module _ (g : Geometry) (a b : Name) where
  -- accepted, and the list's file keeps its number of granules
  abbrev pub EvenTurn : World → Turn → Type 0
  EvenTurn w (one c) = Taken g a b w (one c) × Even g (fold a) w.disk (next g a b w (one c)).disk
  EvenTurn w (two c) = Taken g a b w (two c) × Even g (fold b) w.disk (next g a b w (two c)).disk

  abbrev pub Evenly : World → List Turn → Type 0
  Evenly w [] = Unit {0}
  Evenly w (z ∷ zs) = EvenTurn w z × Evenly (next g a b w z) zs

pub swap-evenly : (g : Geometry) (a b : Name) (zs : List Turn) (w : World) → Evenly g a b w zs → Evenly g b a (swap w) (swapped zs)
swap-evenly g a b [] w k = tt
swap-evenly g a b (one c ∷ zs) w k = (k.0, swap-evenly g a b zs (next g a b w (one c)) k.1)
swap-evenly g a b (two c ∷ zs) w k = (k.0, swap-evenly g a b zs (next g a b w (two c)) k.1)

-- the files lie where they lay on the disk d₀
record Steady (g : Geometry) (a b : Name) (d₀ : List ℕ) (w : World) : Type 0 where
  fine : Fine g a b w
  laid : Laid g d₀ w.disk

-- the first list has the same handles in both worlds, and its file the same bytes, where they lay on the disk d₀
record Meets (g : Geometry) (a : Name) (d₀ : List ℕ) (w w' : World) : Type 0 where
  bytes : Agreed (region g d₀ (fold a)) w.disk w'.disk
  handles' : w.first.handles ≡ w'.first.handles

swap-steady : (g : Geometry) (a b : Name) (d₀ : List ℕ) (w : World) → Steady g a b d₀ w → Steady g b a d₀ (swap w)
swap-steady g a b d₀ w k = record { fine = Interleavings.swap-fine g a b w k.fine; laid = k.laid }

module _ (g : Geometry) (a b : Name) (d₀ : List ℕ) where
  first-still : (w : World) (c : Step) → Steady g a b d₀ w → EvenTurn g a b w (one c) → Still g (fold a) w.disk (next g a b w (one c)).disk
  first-still w c k t = still g a w.disk w.first c k.fine.first' t.0.0 t.0.1 t.1

second-still : (g : Geometry) (a b : Name) (d₀ : List ℕ) (w : World) (c : Step) → Steady g a b d₀ w → EvenTurn g a b w (two c) → Still g (fold b) w.disk
    (next g a b w (two c)).disk
second-still g a b d₀ w c k t = first-still g b a d₀ (swap w) c (swap-steady g a b d₀ w k) t

module _ (g : Geometry) (a b : Name) (d₀ : List ℕ) (k₀ : Good g d₀) where
  abbrev c₀ : Sound g d₀
  c₀ = good-sound g d₀ k₀

  steady : (w : World) (z : Turn) → Steady g a b d₀ w → EvenTurn g a b w z → Steady g a b d₀ (next g a b w z)
  steady w (one c) k t = record {
    fine = Interleavings.fine-next g a b w (one c) k.fine t.0;
    laid = Quiet.laid-trans g d₀ w.disk (next g a b w (one c)).disk k.laid (first-still g a b d₀ w c k t).laid;
  }
  steady w (two c) k t = record {
    fine = Interleavings.fine-next g a b w (two c) k.fine t.0;
    laid = Quiet.laid-trans g d₀ w.disk (next g a b w (two c)).disk k.laid (second-still g a b d₀ w c k t).laid;
  }

  end-steady : (zs : List Turn) (w : World) → Steady g a b d₀ w → Evenly g a b w zs → Steady g a b d₀ (after g a b w zs)
  end-steady [] w k t = k
  end-steady (z ∷ zs) w k t = end-steady zs (next g a b w z) (steady w z k t.0) t.1

  -- a turn leaves the bytes that are not its file's
  spared : (n : Name) (w : World) (d' : List ℕ) → Steady g a b d₀ w → Still g n w.disk d' → (i : ℕ) → (T (region g d₀ n i) → ⊥) → byte d' i ≡ byte
      w.disk i
  spared n w d' k s i o = s.outside i (λ t. o (rw (Quiet.region-laid g d₀ c₀ w.disk k.laid n i) at t))

  -- the same turn of the first list, in two worlds
  own_meets : (w w' : World) (c : Step) → Steady g a b d₀ w → Steady g a b d₀ w' → EvenTurn g a b w (one c) → EvenTurn g a b w' (one c) → Meets g a d₀ w w'
      → Meets g a d₀ (next g a b w (one c)) (next g a b w' (one c))
  own_meets w w' c k k' t t' m =
      let x = sides-alike g d₀ c₀ a w.disk w'.disk k.laid k'.laid (good-sound g w.disk k.fine.good)
      (good-sound g w'.disk k'.fine.good) m.bytes
      w.first w'.first k.fine.first' m.handles' c t.0.0 t.0.1 t'.0.1 t.1 t'.1 in
      record { bytes = x.0; handles' = x.1 }

  -- a turn of the second list leaves the first list's part
  other-meets : fold a ≢ fold b → (w : World) (c : Step) → Steady g a b d₀ w → EvenTurn g a b w (two c) → Meets g a d₀ (next g a b w (two c)) w
  other-meets ab w c k t = record {
    bytes = record {
      long = good-long g (next g a b w (two c)).disk w.disk (steady w (two c) k t).fine.good k.fine.good;
      bytes = λ i u. spared (fold b) w (next g a b w (two c)).disk k (second-still g a b d₀ w c k t) i
          (λ v. Quiet.regions-apart g d₀ c₀ (good-fits g d₀ k₀) (fold a) (fold b) ab i u v);
    };
    handles' = refl;
  }

  meets-trans : (w w' w'' : World) → Meets g a d₀ w w' → Meets g a d₀ w' w'' → Meets g a d₀ w w''
  meets-trans w w' w'' m n = record {
    bytes = record { long = m.bytes.long ∙ n.bytes.long; bytes = λ i t. m.bytes.bytes i t ∙ n.bytes.bytes i t };
    handles' = m.handles' ∙ n.handles';
  }

  meets-sym : (w w' : World) → Meets g a d₀ w w' → Meets g a d₀ w' w
  meets-sym w w' m = record { bytes = record { long = sym m.bytes.long; bytes = λ i t. sym (m.bytes.bytes i t) }; handles' = sym m.handles' }

  -- the first list has no further turn
  no-turn : fold a ≢ fold b → {ys : List Step} {zs : List Turn} → Interleaving [] ys zs → (w v : World) → Steady g a b d₀ v → Evenly g a b v zs → Meets g a d₀
      w v → Meets g a d₀ w (after g a b v zs)
  no-turn ab none w v k t m = m
  no-turn ab (right {y = c} i) w v k t m =
      let u = next g a b v (two c) in no-turn ab i w u (steady v (two c) k t.0) t.1 (meets-trans w v u m (meets-sym u v (other-meets ab v c k t.0)))

  -- the turns up to the first list's next one, and then the rest
  next-turn : fold a ≢ fold b → {x : Step} {xs ys : List Step} {zs : List Turn} → Interleaving (x ∷ xs) ys zs → (w v end : World) → Steady g a b d₀ v → Evenly
      g a b v zs → Meets g a d₀ w v
      → ((ys' : List Step) (zs' : List Turn) → Interleaving xs ys' zs' → (u : World) → Steady g a b d₀ u → EvenTurn g a b u (one x) → Evenly g a b
      (next g a b u (one x)) zs' → Meets g a d₀ w u
      → Meets g a d₀ end (after g a b (next g a b u (one x)) zs'))
      → Meets g a d₀ end (after g a b v zs)
  next-turn ab (left i) w v end k t m f = f _ _ i v k t.0 t.1 m
  next-turn ab (right {y = c} i) w v end k t m f =
      let u = next g a b v (two c) in
      next-turn ab i w u end (steady v (two c) k t.0) t.1 (meets-trans w v u m (meets-sym u v (other-meets ab v c k t.0))) f

  -- so the first list's part is the same at the end of two interleavings
  end-meets : fold a ≢ fold b → {xs ys ys' : List Step} {zs zs' : List Turn} → Interleaving xs ys zs → Interleaving xs ys' zs' → (w v : World) → Steady g a b
      d₀ w → Steady g a b d₀ v
      → Evenly g a b w zs → Evenly g a b v zs' → Meets g a d₀ w v → Meets g a d₀ (after g a b w zs) (after g a b v zs')
  end-meets ab none j w v k l t s m = no-turn ab j w v l s m
  end-meets ab (left {x = c} {zs = zs} i) j w v k l t s m =
      next-turn ab j w v (after g a b (next g a b w (one c)) zs) l s m (λ ys' zs' j' u h e s' n.
      end-meets ab i j' (next g a b w (one c)) (next g a b u (one c)) (steady w (one c) k t.0) (steady u (one c) h e) t.1 s'
      (own_meets w u c k h t.0 e n))
  end-meets ab (right {y = c} i) j w v k l t s m =
      let u = next g a b w (two c) in end-meets ab i j u v (steady w (two c) k t.0) l t.1 s (meets-trans u w v (other-meets ab w c k t.0) m)

  -- and what is neither list's stays as it was
  rest-kept : (i : ℕ) → (T (region g d₀ (fold a) i) → ⊥) → (T (region g d₀ (fold b) i) → ⊥) → (zs : List Turn) (w : World) → Steady g a b d₀ w → Evenly g a b
      w zs
      → byte (after g a b w zs).disk i ≡ byte w.disk i
  rest-kept i p q [] w k t = refl
  rest-kept i p q (one c ∷ zs) w k t =
      rest-kept i p q zs (next g a b w (one c)) (steady w (one c) k t.0) t.1 ∙ spared (fold a) w (next g a b w (one c)).disk k
      (first-still g a b d₀ w c k t.0) i p
  rest-kept i p q (two c ∷ zs) w k t =
      rest-kept i p q zs (next g a b w (two c)) (steady w (two c) k t.0) t.1 ∙ spared (fold b) w (next g a b w (two c)).disk k
      (second-still g a b d₀ w c k t.0) i q

  start-steady : Steady g a b d₀ (start d₀)
  start-steady = record { fine = Interleavings.start_fine g a b d₀ k₀; laid = Quiet.laid_same g d₀ }

  start-meets : Meets g a d₀ (start d₀) (start d₀)
  start-meets = record { bytes = record { long = refl; bytes = λ i t. refl }; handles' = refl }

pub same-disks : (g : Geometry) (a b : Name) → fold a ≢ fold b → (d : List ℕ) → Good g d → {xs ys : List Step} {zs zs' : List Turn} → Interleaving xs ys zs →
    Interleaving xs ys zs'
    → Evenly g a b (start d) zs → Evenly g a b (start d) zs' → (after g a b (start d) zs).disk ≡ (after g a b (start d) zs').disk
same-disks g a b ab d k {zs = zs} {zs' = zs'} i i' t t' =
    let w = after g a b (start d) zs in let w' = after g a b (start d) zs' in
    let s = start-steady g a b d k in
    let long = good-long g w.disk w'.disk (end-steady g a b d k zs (start d) s t).fine.good (end-steady g a b d k zs' (start d) s t').fine.good in
    let mine = (end-meets g a b d k ab i i' (start d) (start d) s s t t' (start-meets g a b d k)).bytes in
    let s' = start-steady g b a d k in
    let theirs : Agreed (region g d (fold b)) w.disk w'.disk =
    subst (λ (v : World). Agreed (region g d (fold b)) v.disk w'.disk) (Interleavings.swap-after g a b zs (start d))
    (subst (λ (v : World). Agreed (region g d (fold b)) (after g b a (start d) (swapped zs)).disk v.disk) (Interleavings.swap-after g a b zs' (start d))
    (end-meets g b a d k (λ q. ab (sym q)) (Interleavings.swap-lists i) (Interleavings.swap-lists i') (start d) (start d) s' s'
    (swap-evenly g a b zs (start d) t) (swap-evenly g a b zs' (start d) t')
    (start-meets g b a d k)).bytes) in
    ext_get_or 0 w.disk w'.disk long (λ j h. point mine theirs j (Members.decide (region g d (fold a) j)) (Members.decide (region g d (fold b) j)))
  where
    point : Agreed (region g d (fold a)) (after g a b (start d) zs).disk (after g a b (start d) zs').disk → Agreed (region g d (fold b))
        (after g a b (start d) zs).disk (after g a b (start d) zs').disk
        → (j : ℕ) → Members.Test (region g d (fold a) j) → Members.Test (region g d (fold b) j) → byte (after g a b (start d) zs).disk j ≡ byte
        (after g a b (start d) zs').disk j
    point mine theirs j (Members.Test.holds p) q = mine.bytes j p
    point mine theirs j (Members.Test.fails p) (Members.Test.holds q) = theirs.bytes j q
    point mine theirs j (Members.Test.fails p) (Members.Test.fails q) =
        rest-kept g a b d k j p q zs (start d) (start-steady g a b d k) t ∙ sym (rest-kept g a b d k j p q zs' (start d) (start-steady g a b d k) t')
