-- The theorem to the type of `Statement`: a file that its list created has, at every turn, no byte that is neither 0 nor written by the list.
use Rattle.std.specs.Prelude.{◌≡◌, refl, ◌≢◌, ◌⊎◌, Bool, false, not, cond, ℕ, zero, suc, ◌+◌, ◌-◌, ◌*◌, ◌≤◌, T, ltb, length, get_or, set, take, drop, replicate}
use Rattle.std.proofs.Common.{ap, sym, ◌∙◌, inl, inr, arith, T_not, length-drop, take-append-drop, ne_eqb}
use Rattle.std.proofs.Math.Path.{subst}
use mathlib.Core.List.{List, [], ◌∷◌, ◌++◌}
use Rattle.std.proofs.Math.Decide.{ℕ_discrete}
use Rattle.std.proofs.Math.ListN.{get_or-map}
use Rattle.std.proofs.Math.Seq.{slice}
use Rattle.meaning.specs.Lists.{first}
use Rattle.meaning.specs.Bits.{digit}
use Rattle.meaning.specs.Names.{fold}
use Rattle.meaning.specs.Handles.{no_handle}
use Rattle.meaning.specs.Amount.{how_many}
use Rattle.meaning.specs.Calls.{number}
use Rattle.meaning.specs.Read.{read_of, read_sector}
use Rattle.meaning.specs.Write.{size_after}
use Rattle.meaning.specs.Plain.{File, Found, found, nothing, file_at, plain, is_system, born_as, overwritten, written_to, allotted_to, trimmed}
use Rattle.meaning.specs.declared.Geometry.{Geometry}
use Rattle.meaning.specs.declared.Handle.{Handle}
use Rattle.meaning.specs.declared.NewFile.{NewFile}
use Rattle.meaning.specs.declared.Mode.{Mode}
use Rattle.promises_words.specs.Given.{AreBytes}
use Rattle.promises_words.specs.Untouched.{hush}
use Rattle.lists.specs.Members
use Rattle.lists.specs.Members.{In}
use Rattle.promises.specs.Sector
use Rattle.together.specs.Statement.{Name, Step, looks_up, opens, creates, moves, reads, reads_sector, writes, allots, trims, kills}
use Rattle.together.specs.Statement.{Brings, AllBring, known, answer, handle_at, many_by, Grip, grip, Turn, one, two, Interleaving}
use Rattle.together.specs.Statement.{none, left, right, Side, World, start, next, Accepted}
use Rattle.together.specs.State
use Rattle.together.specs.State.{FileState, stands, state_of, grip_at, changed, born, effect, Held}
use Rattle.together.proofs.Effects
use Rattle.together.proofs.Heard.{call-bytes}
use Rattle.together.proofs.Interleavings
use Rattle.together.proofs.Interleavings.{Fine}
use Rattle.load.specs.Records.{told_at, record_from, past}
use Rattle.load.specs.Load.{asked, bytes_of, load_refusals, load_record}
use Rattle.load.specs.declared.Item.{Item}
use Rattle.promises_load.specs.Cutting
use Rattle.promises_load.specs.Cutting.{Seen}
use Rattle.promises_load.specs.Interleaved.{called}
use Rattle.promises_stale.specs.Statement.{handed_back, puts, Own, LoadsOwn, NoneStale, NothingStale}

-- Parts of lists ------------------------------------------------------------------------------------------------------------------

in_take : (n : ℕ) (xs : List ℕ) {x : ℕ} → In x (take n xs) → In x xs
in_take n xs {x} i = subst (λ (l : List ℕ). In x l) (take-append-drop n xs) (Members.in-append-l (drop n xs) i)

in-drop : (n : ℕ) (xs : List ℕ) {x : ℕ} → In x (drop n xs) → In x xs
in-drop n xs {x} i = subst (λ (l : List ℕ). In x l) (take-append-drop n xs) (Members.in-append-r (take n xs) i)

-- of the front of two lists that lies in the first
in-front : (n : ℕ) (xs ys : List ℕ) {x : ℕ} → n ≤ length xs → In x (take n (xs ++ ys)) → In x xs
in-front zero xs ys h i = Members.none_in i
in-front (suc n) [] ys h i = absurd (omega arith)
in-front (suc n) (y ∷ xs) ys {x} h i = go (Members.in-cons i) (in-front n xs ys (omega arith))
  where
    go : (x ≡ y) ⊎ In x (take n (xs ++ ys)) → (In x (take n (xs ++ ys)) → In x xs) → In x (y ∷ xs)
    go (inl e) r = Members.head_in xs e
    go (inr j) r = Members.In.there (r j)

take_long : (n : ℕ) (xs : List ℕ) → n ≤ length xs → n ≤ length (take n xs)
take_long zero xs h = omega arith
take_long (suc n) [] h = absurd (omega arith)
take_long (suc n) (x ∷ xs) h = omega (arith, take_long n xs (omega arith))

drop-long : (m n : ℕ) (xs : List ℕ) → m + n ≤ length xs → n ≤ length (drop m xs)
drop-long zero n xs h = omega arith
drop-long (suc m) n [] h = absurd (omega arith)
drop-long (suc m) n (x ∷ xs) h = drop-long m n xs (omega arith)

zeros : (n : ℕ) {x : ℕ} → In x (replicate n 0) → x ≡ 0
zeros zero i = Members.none_in i
zeros (suc n) {x} i = go (Members.in-cons i) (zeros n)
  where
    go : (x ≡ 0) ⊎ In x (replicate n 0) → (In x (replicate n 0) → x ≡ 0) → x ≡ 0
    go (inl e) r = e
    go (inr j) r = r j

-- A file of the list's own ----------------------------------------------------------------------------------------------------------

own-more : (ws vs : List ℕ) {bs : List ℕ} → Own ws bs → Own (ws ++ vs) bs
own-more ws vs o x i = go (o x i)
  where
    go : (x ≡ 0) ⊎ In x ws → (x ≡ 0) ⊎ In x (ws ++ vs)
    go (inl e) = inl e
    go (inr j) = inr (Members.in-append-l vs j)

-- no file, or one that is no system file and has no other bytes
abbrev Mine : List ℕ → Found → Type 0
Mine ws nothing = Unit {0}
Mine ws (found f) = T (not (is_system f)) × Own ws f.bytes

mine-more : (ws vs : List ℕ) (x : Found) → Mine ws x → Mine (ws ++ vs) x
mine-more ws vs nothing m = tt
mine-more ws vs (found f) m = (m.0, own-more ws vs m.1)

-- what does not count of a system file counts of this one
hush-mine : (ws : List ℕ) (f : File) → T (not (is_system f)) → Own ws f.bytes → Mine ws (hush (found f))
unfolding hush
hush-mine ws f u o = (u, rw (Members.no_false {b = is_system f} (T_not (is_system f) u)) o)

mine-whole : (ws : List ℕ) (f : File) → Mine ws (hush (found f)) → Own ws f.bytes
unfolding hush
mine-whole ws f m =
    let e : is_system f ≡ false = Members.no_false {b = is_system f} (T_not (is_system f) m.0) in
    subst (λ (b : Bool). Own ws (cond b (replicate (length f.bytes) 0) f.bytes)) e m.1

-- What a call makes of it -----------------------------------------------------------------------------------------------------------

-- a write puts its bytes, and zeros before them
own-written : (ws : List ℕ) (m : Mode) (old : List ℕ) (i : ℕ) (r : List ℕ) → Own ws old → Own (ws ++ r) (overwritten m old i r)
unfolding overwritten
own-written ws m old i r o x k =
    parts (Members.append-in x (take i old ++ replicate (i - length old) 0) (r ++ drop (i + length r) old)
    (in_take (size_after m (length old) (i + length r)) ((take i old ++ replicate (i - length old) 0) ++ (r ++ drop (i + length r) old)) k))
  where
    before : In x (take i old) ⊎ In x (replicate (i - length old) 0) → (x ≡ 0) ⊎ In x (ws ++ r)
    before (inl j) = own-more ws r o x (in_take i old j)
    before (inr j) = inl (zeros (i - length old) j)

    behind : In x r ⊎ In x (drop (i + length r) old) → (x ≡ 0) ⊎ In x (ws ++ r)
    behind (inl j) = inr (Members.in-append-r ws j)
    behind (inr j) = own-more ws r o x (in-drop (i + length r) old j)

    parts : In x (take i old ++ replicate (i - length old) 0) ⊎ In x (r ++ drop (i + length r) old) → (x ≡ 0) ⊎ In x (ws ++ r)
    parts (inl j) = before (Members.append-in x (take i old) (replicate (i - length old) 0) j)
    parts (inr j) = behind (Members.append-in x r (drop (i + length r) old) j)

first-kept : (l : List ℕ) (v : ℕ) → get_or (set l 1 v) 0 0 ≡ get_or l 0 0
first-kept [] v = refl
first-kept (x ∷ l) v = refl

mine-born : (ws : List ℕ) (f : NewFile) (x : Found) → Mine ws x → Mine ws (born f x)
unfolding born born_as digit
mine-born ws f nothing m = hush-mine ws (born_as f) tt (λ y i. Members.none_in i)
mine-born ws f (found x) m = m

mine-written : (g : Geometry) (ws : List ℕ) (m : Mode) (i : ℕ) (r : List ℕ) (x : Found) → Mine ws x → Mine (ws ++ r) (changed (written_to g m i r) x)
unfolding changed written_to
mine-written g ws m i r nothing k = tt
mine-written g ws m i r (found f) k =
    hush-mine (ws ++ r) (written_to g m i r f) (rw (first-kept f.attributes _) k.0) (own-written ws m f.bytes i r k.1)

mine-allotted : (g : Geometry) (ws : List ℕ) (j : ℕ) (x : Found) → Mine ws x → Mine ws (changed (allotted_to g j) x)
unfolding changed allotted_to
mine-allotted g ws j nothing k = tt
mine-allotted g ws j (found f) k = hush-mine ws (allotted_to g j f) k.0 k.1

mine-trimmed : (g : Geometry) (ws : List ℕ) (x : Found) → Mine ws x → Mine ws (changed (trimmed g) x)
unfolding changed trimmed
mine-trimmed g ws nothing k = tt
mine-trimmed g ws (found f) k = hush-mine ws (trimmed g f) k.0 k.1

module _ (g : Geometry) (n : Name) (d : List ℕ) (hs : List Handle) (ws : List ℕ) (k : Mine ws (stands g d n)) where
  abbrev now : FileState
  now = state_of g n d hs

  grip-at : (i : ℕ) → grip_at now i ≡ grip (handle_at hs i)
  grip-at i = get_or-map grip hs i no_handle

  mine-effect : (c : Step) → Mine (ws ++ puts hs c) (effect g n c now).file
  unfolding effect
  mine-effect looks_up = mine-more ws [] (stands g d n) k
  mine-effect (opens len checking code) = mine-more ws [] (stands g d n) k
  mine-effect (creates f checking) = mine-more ws [] (born f (stands g d n)) (mine-born ws f (stands g d n) k)
  mine-effect (moves i at) = mine-more ws [] (stands g d n) k
  mine-effect (reads a i buffer) = mine-more ws [] (stands g d n) k
  mine-effect (reads_sector i j) = mine-more ws [] (stands g d n) k
  mine-effect (writes a m i bytes) =
      subst (λ (q : Grip). Mine (ws ++ puts hs (writes a m i bytes)) (changed (written_to g m q.at (take (how_many a q.len bytes) bytes)) (stands g d n)))
      (sym (grip-at i)) (mine-written g ws m (handle_at hs i).at (take (many_by hs a i bytes) bytes) (stands g d n) k)
  mine-effect (allots i j) = mine-more ws [] (changed (allotted_to g j) (stands g d n)) (mine-allotted g ws j (stands g d n) k)
  mine-effect (trims i) = mine-more ws [] (changed (trimmed g) (stands g d n)) (mine-trimmed g ws (stands g d n) k)
  mine-effect (kills i) = tt

-- What a call hands back --------------------------------------------------------------------------------------------------------------

module _ (g : Geometry) (n : Name) (d : List ℕ) (hs : List Handle) (held : Held (fold n) hs) (ws : List ℕ) (k : Mine ws (stands g d (fold n))) where
  under-name : (f : File) → plain g d (fold n) ≡ found f → Own ws f.bytes
  unfolding stands
  under-name f c = mine-whole ws f (subst (λ (x : Found). Mine ws (hush x)) c k)

  file-own : (h : Handle) (f : File) → h.name ≡ fold n → plain g d h.name ≡ found f → Own ws f.bytes
  file-own h f e c = under-name f (ap (plain g d) (sym e) ∙ c)

  read-own : (h : Handle) (m : ℕ) (b : List ℕ) → h.name ≡ fold n → (read_of g d h m b).0.refusal.number ≡ 0 → Own ws (take m (read_of g d h m b).1)
  read-own h m b e z x i =
      let r = Sector.read-serves g d h m b z in
      let bs = r.file.bytes in
      let long : m ≤ length (take m (drop h.at bs)) = take_long m (drop h.at bs) (drop-long h.at m bs r.inside) in
      let j = in-front m (take m (drop h.at bs)) (drop m b) long (subst (λ (l : List ℕ). In x (take m l)) r.buffer i) in
      file-own h r.file e r.called x (in-drop h.at bs (in_take m (drop h.at bs) j))

  sector-own : AreBytes d → (h : Handle) (j : ℕ) → h.name ≡ fold n → (read_sector g d h j).refusal.number ≡ 0
      → Own ws (slice (read_sector g d h j).from (read_sector g d h j).to d)
  sector-own u h j e z x i =
      let r = Sector.sector-serves g d u h j z in
      let bs = r.file.bytes in
      let m = subst (λ (l : List ℕ). In x l) r.part i in
      file-own h r.file e r.called x (in-drop (256 * j) bs (in_take 256 (drop (256 * j) bs) m))

-- What a load read hands back -----------------------------------------------------------------------------------------------------------

-- the record that is told stands in the file, whole
told-inside : (bs : List ℕ) (i : ℕ) → (record_from bs i).count ≤ length (drop (record_from bs i).from bs)
unfolding record_from told_at
told-inside bs i = let p = past bs (length bs) i in rw (length-drop (p + 4) bs) (by (Cutting.seen bs p))
  where
    by : {x : Item} → Seen bs (past bs (length bs) i) x → x.rest - 2 ≤ length bs - (past bs (length bs) i + 4)
    by (Seen.broken t n) = omega arith
    by (Seen.stands k o t) = omega arith

module _ (g : Geometry) (n : Name) (d : List ℕ) (s : Side) (held : Held (fold n) s.handles) (ws : List ℕ) (k : Mine ws (stands g d (fold n))) where
  -- what stands under the name is no system file
  user : (f : File) → plain g d (fold n) ≡ found f → T (not (is_system f))
  unfolding stands hush
  user f e = (subst (λ (x : Found). Mine ws (hush x)) e k).0

  load-own : (i : ℕ) (b : List ℕ) → T (ltb i (length s.handles)) → let r = load_record g d (handle_at s.handles i) b in Own ws (take r.0.count r.1)
  unfolding load_record
  load-own i b t = by (ℕ_discrete (first (load_refusals g d h (length b))) 0)
    where
      h : Handle
      h = handle_at s.handles i

      by : Dec (first (load_refusals g d h (length b)) ≡ 0) → Own ws (take (load_record g d h b).0.count (load_record g d h b).1)
      by (no z) = rw (ne_eqb (first (load_refusals g d h (length b))) 0 z) (λ x j. Members.none_in j)
      by (yes z) = rw z (λ x j.
          let bs = bytes_of g d h.slot in
          let r = asked g d h in
          let m = in-front r.count (take r.count (drop r.from bs)) (drop r.count b)
          (take_long r.count (drop r.from bs) (told-inside bs h.at)) j in
          let c = called g n d s held i b (t, z, user) in
          under-name g n d s.handles held ws k (file_at g d h.slot) c x (in-drop r.from bs (in_take r.count (drop r.from bs) m)))

-- Turn by turn ----------------------------------------------------------------------------------------------------------------------

module _ (g : Geometry) (a b : Name) where
  first-bytes : (w : World) (c : Step) → Fine g a b w → AreBytes w.disk → Brings c → AreBytes (next g a b w (one c)).disk
  first-bytes w c k u q = call-bytes g a w.disk w.first c k.good u q

  second-bytes : (w : World) (c : Step) → Fine g a b w → AreBytes w.disk → Brings c → AreBytes (next g a b w (two c)).disk
  second-bytes w c k u q = call-bytes g b w.disk w.second c k.good u q

  back-own : (w : World) (ws : List ℕ) → Fine g a b w → AreBytes w.disk → Mine ws (stands g w.disk (fold a)) → (c : Step)
      → T (known w.first.handles c) → (answer g a w.disk w.first c).number ≡ 0 → Own ws (handed_back g w.disk w.first.handles c)
  unfolding answer number known
  back-own w ws k u m looks_up t z = λ x i. Members.none_in i
  back-own w ws k u m (opens len checking code) t z = λ x i. Members.none_in i
  back-own w ws k u m (creates f checking) t z = λ x i. Members.none_in i
  back-own w ws k u m (moves j at) t z = λ x i. Members.none_in i
  back-own w ws k u m (reads q j buffer) t z =
      let hs = w.first.handles in
      read-own g a w.disk hs k.first' ws m (handle_at hs j) (many_by hs q j buffer) buffer (Effects.held_at (fold a) hs j k.first' t) z
  back-own w ws k u m (reads_sector j s) t z =
      let hs = w.first.handles in
      sector-own g a w.disk hs k.first' ws m u (handle_at hs j) s (Effects.held_at (fold a) hs j k.first' t) z
  back-own w ws k u m (writes q mode j bytes) t z = λ x i. Members.none_in i
  back-own w ws k u m (allots j s) t z = λ x i. Members.none_in i
  back-own w ws k u m (trims j) t z = λ x i. Members.none_in i
  back-own w ws k u m (kills j) t z = λ x i. Members.none_in i

  loads-own : (w : World) (ws : List ℕ) → Fine g a b w → Mine ws (stands g w.disk (fold a)) → LoadsOwn g a b ws w
  loads-own w ws k m i buffer t = load-own g a w.disk w.first k.first' ws m i buffer t

  turns : fold a ≢ fold b → {xs ys : List Step} {zs : List Turn} → Interleaving xs ys zs → (ws : List ℕ) (w : World) → Fine g a b w → AreBytes w.disk
      → AllBring xs → AllBring ys → Accepted g a b w zs → Mine ws (stands g w.disk (fold a)) → NoneStale g a b ws w zs
  turns ab none ws w k u p q t m = loads-own w ws k m
  turns ab (left {x = c} i) ws w k u p q t m = (
    loads-own w ws k m,
    back-own w ws k u m c t.0.0 t.0.1,
    turns ab i (ws ++ puts w.first.handles c) (next g a b w (one c)) (Interleavings.fine-next g a b w (one c) k t.0) (first-bytes w c k u p.0)
        p.1 q t.1
        (subst (λ (o : FileState). Mine (ws ++ puts w.first.handles c) o.file) (sym (Interleavings.own_turn g a b w c k t.0))
        (mine-effect g (fold a) w.disk w.first.handles ws m c)),
  )
  turns ab (right {y = c} i) ws w k u p q t m = (
    loads-own w ws k m,
    turns ab i ws (next g a b w (two c)) (Interleavings.fine-next g a b w (two c) k t.0) (second-bytes w c k u q.0) p q.1 t.1
        (subst (λ (o : FileState). Mine ws o.file) (sym (Interleavings.other-turn g a b ab w c k t.0)) m),
  )

pub nothing-stale : NothingStale
unfolding State.Good stands hush
nothing-stale g a b ab d k e xs ys zs i p q t =
    turns g a b ab i [] (start d) (Interleavings.start_fine g a b d (k.fits, k.sound)) k.bytes p q t
    (subst (λ (x : Found). Mine [] (hush x)) (sym e) tt)
