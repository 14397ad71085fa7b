-- Every call of two images that are alike but for what is not read: the same refusals in the same order, the same answer, and images left alike.
use Rattle.std.specs.Prelude.{◌≡◌, ◌≢◌, ◌⊎◌, ◌&&◌, set}
use Rattle.std.proofs.Math.Path.{refl, ap, sym, subst}
use Rattle.std.proofs.Common.{◌∙◌, T_not, length-take}
use Rattle.std.proofs.Math.Logic.{inl, inr}
use Rattle.std.proofs.Math.Bool.{Bool, true, false, not, cond}
use mathlib.Core.List.{List, [], ◌∷◌, ◌++◌, map}
use Prim.Native.Nat.{ℕ, zero, suc, ◌+◌, ◌-◌, ◌*◌, ◌/◌, ◌%◌, ◌≤◌, ◌<◌}
use native.Mathlib.Omega.{arith}
use Rattle.std.proofs.Math.Dec.{T, eqb, leb, ltb, not_T, eqb→eq, nltb→le}
use Rattle.std.proofs.Math.ListN.{length, take, drop, replicate, length-append}
use Rattle.std.proofs.lemmas.List.{length-replicate}
use Rattle.std.proofs.Math.Seq.{get_or-set_other}
use Rattle.meaning.specs.Lists.{count, keep, has, same, all, any, first, first_or, times, through, every, distinct, some}
use Rattle.meaning.specs.Bits.{put_digit, bit, with_bit, without_bit}
use Rattle.meaning.specs.Layout.{byte, granule_bytes, granules, fits_geometry, taken, take_granule, free_granule, hit, hit_at, entry_at, is_slot}
use Rattle.meaning.specs.Layout.{slots, field, set_field, highest, sector_numbers, granules_for, directory_granules, directory_sectors, above_ten}
use Rattle.meaning.specs.Names.{hash, comes_in, well_formed}
use Rattle.meaning.specs.Entries.{in_use, extension, in_use_primary, sector_count, no_growth, keeps_space}
use Rattle.meaning.specs.Entries.{marker, link, name_of, size_of, system, end_byte_for, sectors_for}
use Rattle.meaning.specs.Chain.{chain, owned, files, place}
use Rattle.meaning.specs.Consistent.{name_holds, size_holds}
use Rattle.meaning.specs.Free.{free_granules, free_slots}
use Rattle.meaning.specs.Growth.{fails, growth, lacking, with_granules}
use Rattle.meaning.specs.Drop.{drop_one}
use Rattle.meaning.specs.Refusal.{unplaced, carried, carried_two}
use Rattle.meaning.specs.Refusals.{by_number, fault_numbers, disk_refusals, refusal, accepted, bad_name, new_in_range, handle_refusals}
use Rattle.meaning.specs.Refusals.{not_for_reading, protected}
use Rattle.meaning.specs.Refusals.{bad_at, name_refusal, cannot_grow, check}
use Rattle.meaning.specs.Handles.{good_length, in_range, fresh, no_handle, moved_to}
use Rattle.meaning.specs.LookUp.{slot_of, candidates, carries, compared_in, named, look_up, missing}
use Rattle.meaning.specs.Open.{open_refusals, full, admits, open', opened_at}
use Rattle.meaning.specs.Create.{create, new_slot, with_entry, new_entry, create_refusals}
use Rattle.meaning.specs.Read.{fetch, read_of, read_sector, read_refusals, sector_refusals, sector_bytes}
use Rattle.meaning.specs.Write.{write_of, to_write, store, size_after, with_size, write_refusals}
use Rattle.meaning.specs.Allot.{allot, to_allot, granules_to, allot_refusals}
use Rattle.meaning.specs.Trim.{trim, surplus, trim_refusals}
use Rattle.meaning.specs.Kill.{kill_entry, killed, kill, kill_refusals}
use Rattle.meaning.specs.BringBack.{killed_entry_holds, whole, back_entry, brought_back, bring_back, bring_back_refusals}
use Rattle.meaning.specs.Listing
use Rattle.meaning.specs.Listing.{shown, listed, tell_first, no_file}
use Rattle.meaning.specs.FreeSpace.{free_space}
use Rattle.meaning.specs.declared.Geometry.{Geometry}
use Rattle.meaning.specs.declared.Handle.{Handle}
use Rattle.meaning.specs.declared.Part.{Part}
use Rattle.meaning.specs.declared.Refusal.{Refusal}
use Rattle.meaning.specs.declared.NewFile.{NewFile}
use Rattle.meaning.specs.declared.Mode.{Mode}
use Rattle.lists.specs.Members
use Rattle.lists.specs.Members.{In}
use Rattle.lists.specs.First
use Rattle.lists.specs.Sizes
use Rattle.lists.specs.Tests
use Rattle.laws.specs.Entry
use Rattle.laws.specs.Facts
use Rattle.laws.specs.Facts.{Sound, IsFile}
use Rattle.laws.specs.Fault as LawsFault
use Rattle.laws.specs.Bits as LawsBits
use Rattle.laws.specs.Named
use Rattle.laws.specs.Places
use Rattle.laws.specs.Change
use Rattle.laws.specs.Others
use Rattle.laws.specs.BringBack as LawsBack
use Rattle.laws.specs.Passed
use Rattle.laws.specs.Store.{store_other}
use Rattle.laws.specs.Rewrite
use Rattle.promises.specs.Grow
use Rattle.promises_unread.specs.Statement.{Kinds, BytesAlike, ReadAlike, LeftAlike, Apart}
use Rattle.promises_unread.specs.Reads
use Rattle.promises_unread.specs.Reads.{unless, only, two, one-slot}
use Rattle.promises_unread.specs.Stores
use Rattle.promises_unread.specs.Stores.{AlikePair, Slot}
use Rattle.promises_unread.specs.Growing

-- Refusals, one after the other: what comes later is asked where what comes before did not hold -----------------------------------

held : (b : Bool) → not b ≡ false → T b
held true e = tt
held false e = Tests.not-both refl e

module _ (g : Geometry) (d : List ℕ) where
  -- what is tested after 1 and 21 to 30 is asked of a consistent disk
  after-disk : (cs cs' : List (ℕ × Bool)) → (Passed.Served g d → first cs ≡ first cs') → first (disk_refusals g d cs) ≡ first (disk_refusals g d cs')
  unfolding first
  after-disk cs cs' f =
      unless (not (fits_geometry g d)) 1 _ _ (λ e. go (held (fits_geometry g d) e) (Members.in-cons (LawsFault.numbered g d)))
    where
      n : ℕ
      n = (Rattle.meaning.specs.Fault.fault g d).number

      go : T (fits_geometry g d) → (n ≡ 0) ⊎ In n fault_numbers → first (by_number n fault_numbers ++ cs) ≡ first (by_number n fault_numbers ++ cs')
      go t (inl z) =
          let miss : In n fault_numbers → ⊥ = λ i. let k = Members.count-in n 21 10 i in omega (arith, k, z) in
          First.number-miss n fault_numbers cs miss ∙ f (record { fits = t; sound = Facts.sound g d ((LawsFault.no_number g d).0 z) })
          ∙ sym (First.number-miss n fault_numbers cs' miss)
      go t (inr i) = First.number-hit n fault_numbers cs i ∙ sym (First.number-hit n fault_numbers cs' i)

  -- and after 12 and 7, of a handle that is not stale
  after-handle : (x : Handle) (b : Bool) (cs cs' : List (ℕ × Bool)) → (Passed.Served g d → T (fresh g d x) → first cs ≡ first cs')
      → first (handle_refusals g d x b cs) ≡ first (handle_refusals g d x b cs')
  unfolding first
  after-handle x b cs cs' f =
      after-disk ((12, not b) ∷ (7, not (fresh g d x)) ∷ cs) ((12, not b) ∷ (7, not (fresh g d x)) ∷ cs')
      (λ s. unless (not b) 12 _ _ (λ e. unless (not (fresh g d x)) 7 _ _ (λ h. f s (held (fresh g d x) h))))

-- Acceptance ----------------------------------------------------------------------------------------------------------------------

accepts : (n : ℕ) → accepted n ≡ true → n ≡ 0
accepts n e = eqb→eq n 0 (Members.true-T e)

module _ (u : Kinds) (g : Geometry) (d d' : List ℕ) (a : ReadAlike u g d d') where
  -- an image that is changed only where the call is accepted
  left : (b : Bool) (x y : List ℕ) → (b ≡ true → ReadAlike u g x y) → ReadAlike u g (cond b x d) (cond b y d')
  left true x y f = f refl
  left false x y f = a

  -- how many directory sectors above 10 there are
  abbrev tall : ℕ
  tall = above_ten g d

  both-sound : Places.Fits g d → Sound g d → AlikePair u g tall d d'
  both-sound k c = record { alike = a; fits = k; dir = Places.dir g d c.dir; tall = refl }

  slot-of : (s : ℕ) → T (is_slot g d s) → Slot tall s
  slot-of s t = Stores.of-slot u g tall d s refl t

  -- What calls test ---------------------------------------------------------------------------------------------------------

  pub disk_refusals-same : disk_refusals g d ≡ disk_refusals g d'
  disk_refusals-same =
      λ i rest. (1, not (Reads.fits-same u g d d' a i)) ∷ (by_number (Reads.fault-same u g d d' a i).number fault_numbers ++ rest)

  pub refusal-same : refusal g d ≡ refusal g d'
  refusal-same = λ i n. carried (Reads.check-same u g d d' a i) n

  name-refusal-same : name_refusal g d ≡ name_refusal g d'
  name-refusal-same = λ i n k. carried_two (Reads.check-same u g d d' a i) (bad_at n) k

  fresh-same : (x : Handle) → fresh g d x ≡ fresh g d' x
  unfolding fresh
  fresh-same x =
      Reads.third (is_slot g d x.slot) (in_use_primary g d x.slot) _ _ (λ t v.
      ap (λ (n : List ℕ). same n x.name)
      (Reads.name-at u g d d' a x.slot (Reads.primary-live u g d d' a x.slot v) (Reads.not-extension u g d d' a x.slot v)))
      ∙ (λ i. all (Reads.is_slot-same u g d d' a i x.slot ∷ Reads.primaries u g d d' a i x.slot ∷ same (name_of g d' x.slot) x.name ∷ []))

  -- what a call by a handle has passed that is not stale
  pub fresh-file : (x : Handle) → T (fresh g d x) → IsFile g d x.slot
  unfolding fresh all
  fresh-file x t = record {
    slot = Members.and_l (is_slot g d x.slot) _ t;
    primary' = Members.and_l (in_use_primary g d x.slot) _ (Members.and_r (is_slot g d x.slot) _ t);
  }

  size-of : (x : Handle) → T (fresh g d x) → size_of g d x.slot ≡ size_of g d' x.slot
  size-of x t = Reads.file-size u g d d' a x.slot (fresh-file x t)

  -- a file's bytes 00 and 01
  file-bytes : (p : ℕ) → IsFile g d p → BytesAlike u (field g d p) (field g d' p)
  file-bytes p f = Reads.bytes-at u g d d' a p (Reads.file-live u g d d' a p f)

  pub handle_refusals-same : handle_refusals g d ≡ handle_refusals g d'
  handle_refusals-same = λ i x ranged rest. disk_refusals-same i ((12, not ranged) ∷ (7, not (fresh-same x i)) ∷ rest)

  -- 7 before 6: the system flag is asked of a file
  protect-at : (most : ℕ) (x : Handle) → T (fresh g d x) → protected g d most x ≡ protected g d' most x
  protect-at most x t = let e = (file-bytes x.slot (fresh-file x t)).flags in λ i. (6, any (ltb most x.level ∷ bit 6 (e i) ∷ []))

  guard_number : (most : ℕ) (x : Handle)
      → first (handle_refusals g d x (in_range g x) (protected g d most x ∷ [])) ≡ first (handle_refusals g d' x (in_range g x) (protected g d' most x ∷ []))
  guard_number most x =
      after-handle g d x (in_range g x) (protected g d most x ∷ []) (protected g d' most x ∷ []) (λ v t.
      ap (λ (c : ℕ × Bool). first (c ∷ [])) (protect-at most x t))
      ∙ (λ i. first (handle_refusals-same i x (in_range g x) (protected g d' most x ∷ [])))

  -- Calls by name -----------------------------------------------------------------------------------------------------------

  candidates-same : (n : List ℕ) → candidates g d n ≡ candidates g d' n
  unfolding candidates
  candidates-same n =
      Members.keep-eq _ _ (slots g d) (λ s j. ap (λ (h : ℕ). eqb h (hash n)) (a.hits s (Facts.slots-in g d s j)))
      ∙ (λ i. keep (λ s. eqb (hit g d' s) (hash n)) (Reads.slots_same u g d d' a i))

  carries-at : (n : List ℕ) (s : ℕ) → carries g d n s ≡ carries g d' n s
  unfolding carries
  carries-at n s =
      two (in_use_primary g d s) _ _ (λ t. ap (λ (m : List ℕ). same m n)
      (Reads.name-at u g d d' a s (Reads.primary-live u g d d' a s t) (Reads.not-extension u g d d' a s t)))
      ∙ (λ i. all (Reads.primaries u g d d' a i s ∷ same (name_of g d' s) n ∷ []))

  carries_same : carries g d ≡ carries g d'
  carries_same = λ i n s. carries-at n s i

  compared_in-same : (n ss : List ℕ) → compared_in g d n ss ≡ compared_in g d' n ss
  unfolding compared_in
  compared_in-same n [] = refl
  compared_in-same n (s ∷ ss) = λ i. cond (carries_same i n s) 1 (suc (compared_in-same n ss i))

  pub named-same : (n : List ℕ) → named g d n ≡ named g d' n
  unfolding named
  named-same n = λ i. take 1 (keep (carries_same i n) (candidates-same n i))

  pub look-up : (n : List ℕ) → look_up g d n ≡ look_up g d' n
  unfolding look_up
  look-up n =
      λ i. let m = (comes_in n).name in
      let no = first (disk_refusals-same i (bad_name n ∷ (4, eqb (length (named-same m i)) 0) ∷ [])) in
      record {
        refusal = name-refusal-same i n no;
        slot = cond (accepted no) (first_or 0 (named-same m i)) 0;
        compared = cond (has (0 ∷ 4 ∷ []) no) (compared_in-same m (candidates-same m i) i) 0;
      }

  -- the slot of a name that is not missing is a file's
  named-file : (n : List ℕ) → missing g d n ≡ false → IsFile g d (slot_of g d n)
  unfolding named first_or
  named-file n e = go (keep (carries g d n) (candidates g d n)) (λ x i. (Named.named_in g d n x i).0) e
    where
      go : (xs : List ℕ) → ((x : ℕ) → In x xs → IsFile g d x) → eqb (length (take 1 xs)) 0 ≡ false → IsFile g d (first_or 0 (take 1 xs))
      go [] f z = Tests.not-both refl z
      go (x ∷ xs) f z = f x Members.In.here

  -- codes and level of a file
  code_at : (s k : ℕ) → IsFile g d s → 2 ≤ k → k < 0x16 → field g d s k ≡ field g d' s k
  code_at s k f l h = Reads.low-at u g d d' a s k (Reads.file-live u g d d' a s f) (Reads.is-first u g d d' a s f) l h

  full_at : (s : ℕ) → IsFile g d s → (checking : Bool) (code : ℕ) → full g d s checking code ≡ full g d' s checking code
  unfolding full
  full_at s f checking code =
      let low = code_at s 0x10 f (omega arith) (omega arith) in let high = code_at s 0x11 f (omega arith) (omega arith) in
      λ i. any (not checking ∷ eqb (low i + 256 * high i) g.noPassword ∷ eqb code (low i + 256 * high i) ∷ [])

  admits-at : (s : ℕ) → IsFile g d s → (checking : Bool) (code : ℕ) → admits g d s checking code ≡ admits g d' s checking code
  unfolding admits
  admits-at s f checking code =
      let low = code_at s 0x12 f (omega arith) (omega arith) in let high = code_at s 0x13 f (omega arith) (omega arith) in
      λ i. any (full_at s f checking code i ∷ eqb code (low i + 256 * high i) ∷ [])

  opened-at : (s : ℕ) → IsFile g d s → (n : List ℕ) (len : ℕ) (checking : Bool) (code : ℕ)
      → opened_at g d s n len checking code ≡ opened_at g d' s n len checking code
  opened-at s f n len checking code =
      let e = (file-bytes s f).flags in
      λ i. record { slot = s; name = n; at = 0; len = len; level = cond (full_at s f checking code i) 0 (e i % 8) }

  -- 4 before 5: the codes are asked where the name is found
  open-number : (n : List ℕ) (len : ℕ) (checking : Bool) (code : ℕ)
      → first (open_refusals g d n len checking code) ≡ first (open_refusals g d' n len checking code)
  unfolding first
  open-number n len checking code =
      let m = (comes_in n).name in
      after-disk g d
      ((12, not (good_length len)) ∷ bad_name n ∷ (4, missing g d m) ∷ (5, not (admits g d (slot_of g d m) checking code)) ∷ [])
      ((12, not (good_length len)) ∷ bad_name n ∷ (4, missing g d m) ∷ (5, not (admits g d' (slot_of g d m) checking code)) ∷ []) (λ v.
      ap (λ (z : ℕ). cond (not (good_length len)) 12 (cond (not (well_formed m)) 3 z))
      (unless (missing g d m) 4 _ _ (λ e. ap (λ (b : Bool). cond (not b) 5 0) (admits-at (slot_of g d m) (named-file m e) checking code))))
      ∙ (λ i. first (disk_refusals-same i ((12, not (good_length len)) ∷ bad_name n ∷ (4, eqb (length (named-same m i)) 0)
      ∷ (5, not (admits g d' (first_or 0 (named-same m i)) checking code)) ∷ [])))

  -- who was accepted was found
  found_name : (n : List ℕ) (len : ℕ) (checking : Bool) (code : ℕ) → accepted (first (open_refusals g d n len checking code)) ≡ true
      → missing g d (comes_in n).name ≡ false
  found_name n len checking code e =
      let p = Passed.disk-passed g d _ (accepts _ e) in
      let p₁ = Passed.passed 12 _ _ (omega arith) p.1 in
      let p₂ = Passed.passed 3 _ _ (omega arith) p₁.1 in
      Members.no_false (Passed.passed 4 _ _ (omega arith) p₂.1).0

  pub open-same : (n : List ℕ) (len : ℕ) (checking : Bool) (code : ℕ) → open' g d n len checking code ≡ open' g d' n len checking code
  unfolding open'
  open-same n len checking code =
      let m = (comes_in n).name in let no = first (open_refusals g d n len checking code) in
      ap (λ (h : Handle). record { refusal = name_refusal g d n no; handle = h })
      (only (accepted no) no_handle _ _ (λ e. opened-at (slot_of g d m) (named-file m (found_name n len checking code e)) m len checking code))
      ∙ (λ i. let k = open-number n len checking code i in
      record {
        refusal = name-refusal-same i n k;
        handle = cond (accepted k) (opened_at g d' (first_or 0 (named-same m i)) m len checking code) no_handle;
      })

  -- Create ------------------------------------------------------------------------------------------------------------------

  -- 5 where the name is found
  create-number : (n : List ℕ) (f : NewFile) (checking : Bool) → first (create_refusals g d n f checking) ≡ first (create_refusals g d' n f checking)
  unfolding first
  create-number n f checking =
      let m = (comes_in n).name in let none = missing g d m in
      after-disk g d
      ((12, not (new_in_range f)) ∷ bad_name n ∷ (5, all (not none ∷ not (admits g d (slot_of g d m) checking f.main) ∷ []))
      ∷ (8, all (none ∷ eqb (length (free_slots g d)) 0 ∷ [])) ∷ [])
      ((12, not (new_in_range f)) ∷ bad_name n ∷ (5, all (not none ∷ not (admits g d' (slot_of g d m) checking f.main) ∷ []))
      ∷ (8, all (none ∷ eqb (length (free_slots g d)) 0 ∷ [])) ∷ []) (λ v.
      ap (λ (b : Bool). cond (not (new_in_range f)) 12 (cond (not (well_formed m)) 3 (cond b 5 (cond (all (none ∷ eqb (length (free_slots g d)) 0 ∷ [])) 8 0))))
      (asked none _ _ (λ e. ap not (admits-at (slot_of g d m) (named-file m e) checking f.main))))
      ∙ (λ i. let none' = eqb (length (named-same m i)) 0 in
      first (disk_refusals-same i ((12, not (new_in_range f)) ∷ bad_name n
      ∷ (5, all (not none' ∷ not (admits g d' (first_or 0 (named-same m i)) checking f.main) ∷ []))
      ∷ (8, all (none' ∷ eqb (length (Reads.free_slots-same u g d d' a i)) 0 ∷ [])) ∷ [])))
    where
      asked : (b x y : Bool) → (b ≡ false → x ≡ y) → all (not b ∷ x ∷ []) ≡ all (not b ∷ y ∷ [])
      asked b x y h = two (not b) x y (λ e. h (Members.no_false (T_not b e)))

  created : (n : List ℕ) (f : NewFile) (checking : Bool) → (create g d n f checking).0 ≡ (create g d' n f checking).0
  unfolding create
  created n f checking =
      let m = (comes_in n).name in let no = first (create_refusals g d n f checking) in let none = missing g d m in
      ap (λ (h : Handle). record { refusal = name_refusal g d n no; old = accepted no && not none; handle = cond (accepted no) h no_handle })
      (unless none (record { slot = new_slot g d; name = m; at = 0; len = f.len; level = 0 }) _ _ (λ e.
      opened-at (slot_of g d m) (named-file m e) m f.len checking f.main))
      ∙ (λ i. let k = create-number n f checking i in let new = eqb (length (named-same m i)) 0 in
      record {
        refusal = name-refusal-same i n k;
        old = accepted k && not new;
        handle = cond (accepted k)
            (cond new (record { slot = first_or 0 (Reads.free_slots-same u g d d' a i); name = m; at = 0; len = f.len; level = 0 })
            (opened_at g d' (first_or 0 (named-same m i)) m f.len checking f.main)) no_handle;
      })

  -- what passed 8 and is new has a free slot
  new-slot : (n : List ℕ) (f : NewFile) (checking : Bool) → (accepted (first (create_refusals g d n f checking)) && missing g d (comes_in n).name) ≡ true
      → Passed.Served g d × T (well_formed (comes_in n).name) × T (is_slot g d (new_slot g d))
  unfolding all first_or
  new-slot n f checking e =
      let m = (comes_in n).name in
      let no = first (create_refusals g d n f checking) in
      let p = Passed.disk-passed g d _ (accepts no (Tests.and_l (accepted no) (missing g d m) e)) in
      let p₁ = Passed.passed 12 _ _ (omega arith) p.1 in
      let p₂ = Passed.passed 3 _ _ (omega arith) p₁.1 in
      let p₃ = Passed.passed 5 _ _ (omega arith) p₂.1 in
      let p₄ = Passed.passed 8 _ _ (omega arith) p₃.1 in (
        p.0,
        Passed.yes-T (well_formed m) p₂.0,
        go (free_slots g d) refl
            (λ q. p₄.0 (Members.and_i (missing g d m) _ (Members.true-T (Tests.and_r (accepted no) (missing g d m) e))
            (Members.and_i (eqb (length (free_slots g d)) 0) true q tt))),
      )
    where
      go : (xs : List ℕ) → free_slots g d ≡ xs → (T (eqb (length (free_slots g d)) 0) → ⊥) → T (is_slot g d (first_or 0 (free_slots g d)))
      go [] q z = absurd (z (rw q tt))
      go (x ∷ xs) q z = rw q (Growing.free-slot g d x (rw q Members.In.here))

  -- a well-formed name has 11 bytes, and a new entry 32
  new-length : (n : List ℕ) (f : NewFile) → T (well_formed n) → length (new_entry n f) ≡ 32
  unfolding well_formed all
  new-length n f t =
      let l : length n ≡ 11 = eqb→eq (length n) 11 (Members.and_l (eqb (length n) 11) _ t) in
      let e = length-append n (f.main % 256 ∷ f.main / 256 ∷ f.worker % 256 ∷ f.worker / 256 ∷ 0 ∷ 0 ∷ replicate 10 0xff) in
      omega (arith, e, l)

  pub create-same : (n : List ℕ) (f : NewFile) (checking : Bool) → LeftAlike u g (create g d n f checking) (create g d' n f checking)
  unfolding create
  create-same n f checking = (
    created n f checking,
    subst (λ (l : List ℕ). ReadAlike u g (create g d n f checking).1 l)
        (λ i. let m = (comes_in n).name in
        cond (accepted (create-number n f checking i) && eqb (length (named-same m i)) 0)
        (with_entry g d' (first_or 0 (Reads.free_slots-same u g d d' a i)) m f) d')
        (left (accepted (first (create_refusals g d n f checking)) && missing g d (comes_in n).name) _ _ (λ e.
        let w = new-slot n f checking e in
        let x = new_slot g d in
        let b = both-sound (Places.fits g d w.0.fits) w.0.sound in
        let t = slot-of x w.2 in
        (Stores.both-hit u g tall _ _ x _ (Stores.not-count u g tall d d' x b t)
        (Stores.both-sets u g tall (new_entry (comes_in n).name f) d d' x (new-length (comes_in n).name f w.1) t b)).alike)),
  )

  -- Reads -------------------------------------------------------------------------------------------------------------------

  -- 7 before 10: the size is asked of a file
  pub read_number : (x : Handle) (n : ℕ) (b : List ℕ) → first (read_refusals g d x n (length b)) ≡ first (read_refusals g d' x n (length b))
  unfolding first
  read_number x n b =
      let range : Bool = all (in_range g x ∷ leb n (highest g) ∷ leb n (length b) ∷ []) in
      after-handle g d x range (not_for_reading x ∷ (10, ltb (size_of g d x.slot) (x.at + n)) ∷ [])
      (not_for_reading x ∷ (10, ltb (size_of g d' x.slot) (x.at + n)) ∷ []) (λ v t.
      ap (λ (z : ℕ). first (not_for_reading x ∷ (10, ltb z (x.at + n)) ∷ [])) (size-of x t))
      ∙ (λ i. first (handle_refusals-same i x range (not_for_reading x ∷ (10, ltb (size_of g d' x.slot) (x.at + n)) ∷ [])))

  pub read_answer : (x : Handle) (n : ℕ) (b : List ℕ) → (read_of g d x n b).0 ≡ (read_of g d' x n b).0
  unfolding read_of
  read_answer x n b =
      λ i. let no = read_number x n b i in
      record { refusal = refusal-same i no; handle = cond (accepted no) (moved_to x (x.at + n)) x }

  -- a place outside the directory's granules
  pub off_byte : Sound g d → Places.Fits g d → (i : ℕ) → (In (i / granule_bytes g) (directory_granules g d) → ⊥) → byte d i ≡ byte d' i
  unfolding directory_sectors
  off_byte c k i n = go (Places.outside g d i k.start-at (Places.dir g d c.dir) n)
    where
      go : (i < 256 * g.start) ⊎ (256 * (g.start + directory_sectors g d) ≤ i) → byte d i ≡ byte d' i
      go (inl h) = a.rest i (inl h)
      go (inr h) = a.rest i (inr (omega arith, λ s t. let q = Places.slot g d s t in inr (omega (arith, q.low, q.sector))))

  -- a file that has no granule of the directory: so has none that is no system file
  pub apart : Sound g d → (p : ℕ) → IsFile g d p → Apart g d p → (n : ℕ) → In n (owned g d p) → In n (directory_granules g d) → ⊥
  apart c p f (inl e) = (Change.filed-at g d c p f).off (not_T (system g d p) (λ t. Members.false-no e t))
  apart c p f (inr o) = o

  -- its bytes are the same
  pub fetch-same : Sound g d → Places.Fits g d → (p : ℕ) → IsFile g d p → Apart g d p → (i n : ℕ) → i + n ≤ size_of g d p → fetch g d p i n ≡ fetch g d' p i n
  unfolding fetch
  fetch-same c k p f o i n h =
      Members.map-eq (λ j. byte d (place g d p j)) (λ j. byte d' (place g d p j)) (count i n) (λ j m.
      let r = Members.count-in j i n m in
      let l : j < granule_bytes g * length (owned g d p) = omega (arith, r, (Change.filed-at g d c p f).fits) in
      off_byte c k (place g d p j) (apart c p f o _ (Others.place_in g d p j l)))
      ∙ (λ z. map (λ j. byte d' (Reads.place_at u g d d' a p (Reads.sound-chain u g d d' a c p f) z j)) (count i n))

  pub read-buffer : (x : Handle) (n : ℕ) (b : List ℕ) → Apart g d x.slot → (read_of g d x n b).1 ≡ (read_of g d' x n b).1
  unfolding read_of
  read-buffer x n b o =
      only (accepted (first (read_refusals g d x n (length b)))) b _ _ (λ e.
      let p = Passed.disk-passed g d _ (accepts _ e) in
      let p₁ = Passed.passed 12 _ _ (omega arith) p.1 in
      let p₂ = Passed.passed 7 _ _ (omega arith) p₁.1 in
      let p₃ = Passed.passed 6 _ _ (omega arith) p₂.1 in
      let p₄ = Passed.passed 10 _ _ (omega arith) p₃.1 in
      let size = nltb→le (size_of g d x.slot) (x.at + n) (not_T (ltb (size_of g d x.slot) (x.at + n)) p₄.0) in
      ap (λ (l : List ℕ). l ++ drop n b)
      (fetch-same p.0.sound (Places.fits g d p.0.fits) x.slot (fresh-file x (Passed.yes-T (fresh g d x) p₂.0)) o x.at n size))
      ∙ (λ i. cond (accepted (read_number x n b i)) (fetch g d' x.slot x.at n ++ drop n b) b)

  many-of : (x : Handle) → T (fresh g d x) → sector_count g d x.slot ≡ sector_count g d' x.slot
  many-of x t =
      let f = fresh-file x t in Reads.count_at u g d d' a x.slot (Reads.file-live u g d d' a x.slot f) (Reads.is-first u g d d' a x.slot f)

  sector-number : (x : Handle) (k : ℕ) → first (sector_refusals g d x k) ≡ first (sector_refusals g d' x k)
  unfolding first
  sector-number x k =
      let range : Bool = all (in_range g x ∷ ltb k (sector_numbers g) ∷ []) in
      after-handle g d x range (not_for_reading x ∷ (10, leb (sector_count g d x.slot) k) ∷ [])
      (not_for_reading x ∷ (10, leb (sector_count g d' x.slot) k) ∷ []) (λ v t.
      ap (λ (z : ℕ). first (not_for_reading x ∷ (10, leb z k) ∷ [])) (many-of x t))
      ∙ (λ i. first (handle_refusals-same i x range (not_for_reading x ∷ (10, leb (sector_count g d' x.slot) k) ∷ [])))

  -- who was accepted has a consistent disk and a handle that is not stale
  sector-passed : (x : Handle) (k : ℕ) → accepted (first (sector_refusals g d x k)) ≡ true → Passed.Served g d × T (fresh g d x)
  sector-passed x k e =
      let p = Passed.disk-passed g d _ (accepts _ e) in
      let p₁ = Passed.passed 12 _ _ (omega arith) p.1 in
      (p.0, Passed.yes-T (fresh g d x) (Passed.passed 7 _ _ (omega arith) p₁.1).0)

  part : (c : Refusal) (b : Bool) (from from' n n' : ℕ) → (b ≡ true → (from ≡ from') × (n ≡ n'))
      → ◌≡◌ {A = Part} (record { refusal = c; from = cond b from 0; to = cond b (from + n) 0 })
      (record { refusal = c; from = cond b from' 0; to = cond b (from' + n') 0 })
  part c true from from' n n' f = let e = f refl in λ i. record { refusal = c; from = e.0 i; to = e.0 i + e.1 i }
  part c false from from' n n' f = refl

  pub read-sector : (x : Handle) (k : ℕ) → read_sector g d x k ≡ read_sector g d' x k
  unfolding read_sector
  read-sector x k =
      let s = x.slot in let no = first (sector_refusals g d x k) in
      part (refusal g d no) (accepted no) _ _ _ _ (λ e.
      let p = sector-passed x k e in let many = many-of x p.1 in let size = size-of x p.1 in
      let f = fresh-file x p.1 in (
        ap (λ (F : ℕ → ℕ). F (256 * k)) (Reads.place_at u g d d' a s (Reads.sound-chain u g d d' a p.0.sound s f)),
        λ i. cond (eqb (suc k) (many i)) (size i - 256 * k) 256,
      ))
      ∙ (λ i. let z = sector-number x k i in
      record {
        refusal = refusal-same i z;
        from = cond (accepted z) (place g d' s (256 * k)) 0;
        to = cond (accepted z) (place g d' s (256 * k) + sector_bytes g d' s k) 0;
      })

  -- Allot and write ---------------------------------------------------------------------------------------------------------

  -- what a file lacks of the granules wanted, on a consistent disk
  lacking-at : Sound g d → (p : ℕ) → IsFile g d p → (wanted : ℕ) → lacking g d p wanted ≡ lacking g d' p wanted
  lacking-at c p f wanted = ap (λ (l : List ℕ). wanted - length l) (Reads.owned_at u g d d' a p (Reads.sound-chain u g d d' a c p f))

  -- 6 and 9 before 8: the growth is asked of a file that is no system file, where there are granules enough
  grow-number : (x : Handle) (b : Bool) (k k' : ℕ) → (Passed.Served g d → T (fresh g d x) → k ≡ k')
      → first (handle_refusals g d x b (protected g d 4 x ∷ cannot_grow g d x.slot k))
      ≡ first (handle_refusals g d' x b (protected g d' 4 x ∷ cannot_grow g d' x.slot k'))
  unfolding first
  grow-number x b k k' q =
      let s = x.slot in
      after-handle g d x b (protected g d 4 x ∷ cannot_grow g d s k) (protected g d' 4 x ∷ cannot_grow g d' s k') (λ v t.
      unless (any (ltb 4 x.level ∷ system g d s ∷ [])) 6 _ _ (λ z.
      let user = not_T (system g d s) (λ y. Members.false-no z (Members.any-r (ltb 4 x.level) (system g d s) y)) in
      ap (λ (n : ℕ). cond (all (no_growth g d s ∷ ltb 0 k ∷ [])) 11 n)
      (unless (ltb (length (free_granules g d)) k) 9 _ _ (λ y.
      let room = nltb→le (length (free_granules g d)) k (not_T (ltb (length (free_granules g d)) k) (λ w. Members.false-no y w)) in
      let k₁ = Places.fits g d v.fits in
      ap (λ (c : Bool). cond c 8 0)
      (Growing.both-fail (Growing.both-growth u g s tall k d d' v.sound k₁ (fresh-file x t) user room (both-sound k₁ v.sound)))))
      ∙ (let e = (file-bytes s (fresh-file x t)).one in
      λ i. first ((11, all (bit 6 (e i) ∷ ltb 0 (q v t i) ∷ [])) ∷ (9, ltb (length (Reads.free_granules-same u g d d' a i)) (q v t i))
      ∷ (8, fails (growth g s (q v t i) d')) ∷ [])))
      ∙ ap (λ (c : ℕ × Bool). first (c ∷ cannot_grow g d' s k')) (protect-at 4 x t))
      ∙ (λ i. first (handle_refusals-same i x b (protected g d' 4 x ∷ cannot_grow g d' s k')))

  both-granules : (x : Handle) (k : ℕ) → Passed.Holds g d x → first (cannot_grow g d x.slot k) ≡ 0
      → AlikePair u g tall (with_granules g d x.slot k) (with_granules g d' x.slot k)
  both-granules x k h e =
      let p₁ = Passed.passed 11 _ _ (omega arith) e in
      let p₂ = Passed.passed 9 _ _ (omega arith) p₁.1 in
      let room = nltb→le (length (free_granules g d)) k (not_T (ltb (length (free_granules g d)) k) p₂.0) in
      let w = both-sound h.fits h.sound in
      Growing.both-disk (Growing.both-growth u g x.slot tall k d d' h.sound h.fits h.file h.user room w) w

  to_allot-of : (x : Handle) (k : ℕ) → Passed.Served g d → T (fresh g d x) → to_allot g d x k ≡ to_allot g d' x k
  to_allot-of x k v t = lacking-at v.sound x.slot (fresh-file x t) (granules_to g k)

  allot-number : (x : Handle) (k : ℕ) → first (allot_refusals g d x k) ≡ first (allot_refusals g d' x k)
  allot-number x k = grow-number x (all (in_range g x ∷ ltb k (sector_numbers g) ∷ [])) (to_allot g d x k) (to_allot g d' x k) (to_allot-of x k)

  pub allot-same : (x : Handle) (k : ℕ) → LeftAlike u g (allot g d x k) (allot g d' x k)
  unfolding allot
  allot-same x k = (
    λ i. record { refusal = refusal-same i (allot-number x k i); handle = x },
    subst (λ (l : List ℕ). ReadAlike u g (allot g d x k).1 l)
        (λ i. cond (accepted (allot-number x k i)) (with_granules g d' x.slot (to_allot g d' x k)) d')
        (left (accepted (first (allot_refusals g d x k))) _ _ (λ e.
        let h = Passed.holds g d x _ 4 (cannot_grow g d x.slot (to_allot g d x k)) (accepts _ e) in
        subst (λ (n : ℕ). ReadAlike u g (with_granules g d x.slot (to_allot g d x k)) (with_granules g d' x.slot n))
        (lacking-at h.0.sound x.slot h.0.file (granules_to g k))
        (both-granules x (to_allot g d x k) h.0 h.1).alike)),
  )

  to_write-of : (m : Mode) (x : Handle) (n : ℕ) → Passed.Served g d → T (fresh g d x) → to_write g d m x n ≡ to_write g d' m x n
  to_write-of m x n v t =
      lacking-at v.sound x.slot (fresh-file x t) _
      ∙ ap (λ (z : ℕ). lacking g d' x.slot (granules_for g (size_after m z (x.at + n)))) (size-of x t)

  write-number : (m : Mode) (x : Handle) (n : ℕ) (b : List ℕ) → first (write_refusals g d m x n (length b)) ≡ first (write_refusals g d' m x n (length b))
  write-number m x n b =
      grow-number x (all (in_range g x ∷ leb (x.at + n) (highest g) ∷ leb n (length b) ∷ [])) (to_write g d m x n) (to_write g d' m x n) (to_write-of m x n)

  -- the bytes of a write, in an image that has the granules for them: no byte of the file lies in the directory
  module _ (p m : ℕ) (c : Sound g d) (k : Places.Fits g d) (f : IsFile g d p) (us : T (not (system g d p))) (w : AlikePair u g m d d') where
    not_there : (j : ℕ) → j < granule_bytes g * length (owned g d p)
        → (place g d p j < 256 * g.start) ⊎ (256 * (g.start + directory_sectors g d) ≤ place g d p j)
    not_there j l =
        Places.outside g d (place g d p j) k.start-at (Places.dir g d c.dir) (λ i. (Change.filed-at g d c p f).off us _ (Others.place_in g d p j l) i)

    -- no byte of the file is one of its entry
    kept : (old at : ℕ) (r : List ℕ) → at + length r ≤ granule_bytes g * length (owned g d p)
        → field g (store (place g d p) (store (place g d p) d old (replicate (at - old) 0)) at r) p 0 ≡ field g d p 0
    unfolding field
    kept old at r end =
        store_other (place g d p) r _ at (entry_at g p + 0) (λ j h l. away j (not_there j (omega arith)))
        ∙ store_other (place g d p) (replicate (at - old) 0) d old (entry_at g p + 0)
        (λ j h l. away j (not_there j (omega (arith, rw (length-replicate {A = ℕ} (at - old) 0) at l))))
      where
        away : (j : ℕ) → (place g d p j < 256 * g.start) ⊎ (256 * (g.start + directory_sectors g d) ≤ place g d p j) → entry_at g p + 0 ≢ place g d p j
        away j (inl q) = omega arith
        away j (inr q) = let z = Places.slot g d p f.slot in omega (arith, z.low, z.sector)

    both-write : (old at size : ℕ) (r : List ℕ) → at + length r ≤ granule_bytes g * length (owned g d p)
        → AlikePair u g m (with_size g (store (place g d p) (store (place g d p) d old (replicate (at - old) 0)) at r) p size)
        (with_size g (store (place g d' p) (store (place g d' p) d' old (replicate (at - old) 0)) at r) p size)
    unfolding directory_sectors
    both-write old at size r end =
        let F = place g d p in
        let t = Stores.of-slot u g m d p w.tall f.slot in
        let d₂ = store F d old (replicate (at - old) 0) in
        let d₂' = store F d' old (replicate (at - old) 0) in
        let w₂ = Stores.both_bytes u g m F (replicate (at - old) 0) d d' old
        (λ j h l. not_there j (omega (arith, rw (length-replicate {A = ℕ} (at - old) 0) at l))) w in
        let w₃ = Stores.both_bytes u g m F r d₂ d₂' at
        (λ j h l. subst (λ (n : ℕ). (F j < 256 * g.start) ⊎ (256 * (g.start + (10 + n)) ≤ F j)) (w.tall ∙ sym w₂.tall) (not_there j (omega arith))) w₂ in
        let d₃ = store F d₂ at r in let d₃' = store F d₂' at r in
        let low : (e e' : List ℕ) (j v : ℕ) → 1 ≤ j → j < 0x16 → AlikePair u g m e e' → AlikePair u g m (set_field g e p j v) (set_field g e' p j v) =
        λ e e' j v l h z. Stores.both-field u g m e e' p j v t (omega arith) (omega arith) (omega arith) (λ i q. omega arith) z in
        subst (λ (G : ℕ → ℕ). AlikePair u g m (with_size g d₃ p size) (with_size g (store G (store G d' old (replicate (at - old) 0)) at r) p size))
        (Reads.place_at u g d d' a p (Reads.sound-chain u g d d' a c p f))
        (subst (λ (y : ℕ). AlikePair u g m (with_size g d₃ p size)
        (set_field g (set_field g (set_field g (set_field g d₃' p 3 (end_byte_for size)) p 0x14 (sectors_for size % 256)) p 0x15 (sectors_for size / 256))
        p 1 (with_bit 5 y)))
        (Reads.bytes-at u g d₃ d₃' w₃.alike p
        (Reads.live u g d₃ d₃' w₃.alike p (subst (λ (y : ℕ). T (bit 4 y)) (sym (kept old at r end)) (Facts.file-in-use g d p f)))).one
        (low _ _ 1 _ (omega arith) (omega arith) (low _ _ 0x15 _ (omega arith) (omega arith) (low _ _ 0x14 _ (omega arith) (omega arith)
        (low d₃ d₃' 3 _ (omega arith) (omega arith) w₃)))))

  -- Trim and kill -----------------------------------------------------------------------------------------------------------

  surplus-at : Sound g d → (p : ℕ) → IsFile g d p → surplus g d p ≡ surplus g d' p
  surplus-at c p f =
      let size = Reads.file-size u g d d' a p f in let own = Reads.owned_at u g d d' a p (Reads.sound-chain u g d d' a c p f) in
      λ i. length (own i) - granules_for g (size i)

  trim-number : (x : Handle) → first (trim_refusals g d x) ≡ first (trim_refusals g d' x)
  trim-number x = guard_number 4 x

  trims-both : (x : Handle) → (accepted (first (trim_refusals g d x)) && not (keeps_space g d x.slot))
      ≡ (accepted (first (trim_refusals g d' x)) && not (keeps_space g d' x.slot))
  trims-both x =
      Reads.and-only (accepted (first (trim_refusals g d x))) _ _ (λ e.
      ap (λ (y : ℕ). not (bit 7 y)) (file-bytes x.slot (Passed.holds g d x _ 4 [] (accepts _ e)).0.file).one)
      ∙ (λ i. accepted (trim-number x i) && not (keeps_space g d' x.slot))

  pub trim_same : (x : Handle) → LeftAlike u g (trim g d x) (trim g d' x)
  unfolding trim
  trim_same x = (
    λ i. record { refusal = refusal-same i (trim-number x i); handle = x },
    subst (λ (l : List ℕ). ReadAlike u g (trim g d x).1 l)
        (λ i. cond (trims-both x i) (times (surplus g d' x.slot) (drop_one g x.slot) d') d')
        (left (accepted (first (trim_refusals g d x)) && not (keeps_space g d x.slot)) _ _ (λ e.
        let h = (Passed.holds g d x _ 4 [] (accepts _ (Tests.and_l (accepted (first (trim_refusals g d x))) _ e))).0 in
        let fit = (Change.filed-at g d h.sound x.slot h.file).fits in
        subst (λ (k : ℕ). ReadAlike u g (times (surplus g d x.slot) (drop_one g x.slot) d) (times k (drop_one g x.slot) d'))
        (surplus-at h.sound x.slot h.file)
        (Growing.both-times u g x.slot tall (surplus g d x.slot) d d' h.sound h.fits h.file h.user
        (Sizes.surplus-fits (Sizes.bytes_pos g) _ _ fit) (both-sound h.fits h.sound)).alike)),
  )

  kill-number : (x : Handle) → first (kill_refusals g d x) ≡ first (kill_refusals g d' x)
  kill-number x = guard_number 1 x

  -- one entry's bit 4 and HIT byte, for kill and for bring back: the flags become F of what they were, bit 7 the same
  module _ (F : ℕ → ℕ) (seven : (x : ℕ) → bit 7 (F x) ≡ bit 7 x) (four : (x : ℕ) → (bit 4 (F x) ≡ false) ⊎ (u.dead ≡ false)) (m v : ℕ) where
    abbrev flagged : List ℕ → ℕ → List ℕ
    flagged l s = set (set_field g l s 0 (F (field g l s 0))) (hit_at g s) v

    -- the flags of another slot stay
    flags-stay : (l : List ℕ) (s y : ℕ) → (s < 256) × (y < 256) → y ≢ s → field g (flagged l s) y 0 ≡ field g l y 0
    unfolding field set_field
    flags-stay l s y h n =
        get_or-set_other (set l (entry_at g s + 0) (F (byte l (entry_at g s + 0)))) (hit_at g s) (entry_at g y + 0) v 0 (omega (arith, h.0))
        ∙ get_or-set_other l (entry_at g s + 0) (entry_at g y + 0) (F (byte l (entry_at g s + 0))) 0 (λ q. n (one-slot g.start y s h.1 h.0 (omega arith)))

    both-flags : (xs e e' : List ℕ) → Members.Distinct xs → ((s : ℕ) → In s xs → Slot m s × ((s < 256) × (s ≢ 0x1f)))
        → ((s : ℕ) → In s xs → (u.dead && not (in_use g e s)) ≡ false) → AlikePair u g m e e'
        → AlikePair u g m (through flagged e xs) (through flagged e' xs)
    both-flags [] e e' q h z w = w
    both-flags (s ∷ xs) e e' (Members.Distinct.fresh n q) h z w =
        both-flags xs (flagged e s) (flagged e' s) q (λ y i. h y (Members.In.there i))
        (λ y i. ap (λ (x : ℕ). u.dead && not (bit 4 x))
        (flags-stay e s y ((h s Members.In.here).1.0, (h y (Members.In.there i)).1.0) (λ r. n (subst (λ (x : ℕ). In x xs) r i))) ∙ z y (Members.In.there i))
        (Stores.both-hit u g m _ _ s v (h s Members.In.here).1
        (subst (λ (y : ℕ). AlikePair u g m (set_field g e s 0 (F (field g e s 0))) (set_field g e' s 0 (F y)))
        (Reads.bytes-at u g e e' w.alike s (z s Members.In.here)).flags
        (Stores.both-flag u g m e e' s (F (field g e s 0)) (h s Members.In.here).0 (inl (seven (field g e s 0))) (four (field g e s 0)) w)))

  bit-seven : (v : ℕ) → v < 2 → (x : ℕ) → bit 7 (put_digit x 4 v) ≡ bit 7 x
  bit-seven v h x = ap (λ (y : ℕ). eqb y 1) (LawsBits.digit-other x 4 7 v h (omega arith))

  bit-four : (x : ℕ) → bit 4 (without_bit 4 x) ≡ false
  bit-four x = ap (λ (y : ℕ). eqb y 1) (LawsBits.digit-same x 4 0 (omega arith))

  -- granules of the GAT leave the flags
  freed-flags : (v : ℕ) (ns l : List ℕ) (s : ℕ) → ((n : ℕ) → In n ns → n < granules g) → Places.Fits g d
      → field g (through (λ l n. Places.marked g v l n) l ns) s 0 ≡ field g l s 0
  unfolding field
  freed-flags v [] l s f k = refl
  freed-flags v (n ∷ ns) l s f k =
      freed-flags v ns (Places.marked g v l n) s (λ x i. f x (Members.In.there i)) k
      ∙ get_or-set_other l _ (entry_at g s + 0) _ 0 (let b = Places.block-lt g d n k (f n Members.In.here) in omega (arith, b, k.blocks-hi))

  pub kill-same : (x : Handle) → LeftAlike u g (kill g d x) (kill g d' x)
  unfolding kill kill_entry free_granule
  kill-same x = (
    λ i. record { refusal = refusal-same i (kill-number x i); handle = x },
    subst (λ (l : List ℕ). ReadAlike u g (kill g d x).1 l)
        (λ i. cond (accepted (kill-number x i)) (killed g d' x.slot) d')
        (left (accepted (first (kill_refusals g d x))) _ _ (λ e.
        let p = x.slot in
        let h = (Passed.holds g d x _ 1 [] (accepts _ e)).0 in
        let w = both-sound h.fits h.sound in
        let chains = Reads.sound-chain u g d d' a h.sound p h.file in
        let own = Reads.owned_at u g d d' a p chains in let ch = Reads.chain-at u g d d' a p chains in
        let lt : (n : ℕ) → In n (owned g d p) → n < granules g = λ n i. Change.owned-lt g d h.sound p n h.file i in
        subst (λ (l : List ℕ). ReadAlike u g (killed g d p) l)
        (λ i. through (kill_entry g) (through (free_granule g) d' (own i)) (ch i))
        (both-flags (without_bit 4) (bit-seven 0 (omega arith)) (λ y. inl (bit-four y)) tall 0 (chain g d p) _ _ (h.sound.once p h.file)
        (λ s i. let t = slot-of s (Change.members g d h.sound p s h.file i).slot in (t, Stores.not-count u g tall d d' s w t))
        (λ s i. ap (λ (y : ℕ). u.dead && not (bit 4 y)) (freed-flags 0 (owned g d p) d s lt h.fits) ∙ chains s i)
        (Stores.both-through u g tall (free_granule g) (owned g d p) d d' (λ l l' n i z. Stores.both-free u g tall l l' n (lt n i) z) w)).alike)),
  )

  -- Listing, counts, free space -----------------------------------------------------------------------------------------------

  pub listed_same : listed g d ≡ listed g d'
  unfolding listed shown
  listed_same =
      Members.keep-eq (λ p. not (system g d p)) (λ p. not (system g d' p)) (files g d)
      (λ p j. ap (λ (y : ℕ). not (bit 6 y)) (file-bytes p (Facts.files-in g d p j)).flags)
      ∙ (λ i. keep (λ p. not (system g d' p)) (Reads.files-same u g d d' a i))

  pub listed-files : (k p : ℕ) → In p (drop k (listed g d)) → IsFile g d p
  unfolding listed
  listed-files k p i = Facts.files-in g d p (Members.keep-in (shown g d) p (files g d) (dropped k (listed g d) i)).0
    where
      dropped : {q : ℕ} (n : ℕ) (xs : List ℕ) → In q (drop n xs) → In q xs
      dropped zero xs j = j
      dropped (suc n) [] j = j
      dropped (suc n) (y ∷ xs) j = Members.In.there (dropped n xs j)

  pub tell_first-same : Sound g d → (ps : List ℕ) → ((p : ℕ) → In p ps → IsFile g d p) → tell_first g d ps ≡ tell_first g d' ps
  unfolding tell_first
  tell_first-same c [] f = refl
  tell_first-same c (p ∷ ps) f =
      let h = f p Members.In.here in
      let name = Reads.file-name u g d d' a p h in let size = Reads.file-size u g d d' a p h in
      let own = Reads.owned_at u g d d' a p (Reads.sound-chain u g d d' a c p h) in
      λ i. record { refusal = unplaced 0; more = true; name = name i; size = size i; granules = length (own i) }

  pub list_same : (n : ℕ) → Listing.list g d n ≡ Listing.list g d' n
  unfolding Listing.list
  list_same n =
      only (accepted (check g d).number) (no_file (check g d)) _ _ (λ e.
      tell_first-same (Passed.check-passed g d (accepts _ e)).sound (drop n (listed g d)) (listed-files n))
      ∙ (λ i. let c = Reads.check-same u g d d' a i in cond (accepted c.number) (tell_first g d' (drop n (listed_same i))) (no_file c))

  pub counts_same : Listing.counts g d ≡ Listing.counts g d'
  unfolding Listing.counts
  counts_same =
      λ i. let c = Reads.check-same u g d d' a i in
      record {
        refusal = c;
        files = cond (accepted c.number) (length (listed_same i)) 0;
        free = cond (accepted c.number) (length (Reads.free_granules-same u g d d' a i)) 0;
      }

  pub free-space : free_space g d ≡ free_space g d'
  unfolding free_space
  free-space =
      λ i. let no = first ((1, not (Reads.fits-same u g d d' a i)) ∷ []) in
      record {
        refusal = unplaced no;
        free = cond (accepted no) (length (Reads.free_granules-same u g d d' a i)) 0;
        longest = cond (accepted no) (Reads.longest-same u g d d' a i) 0;
      }

  -- Bring back --------------------------------------------------------------------------------------------------------------

  -- where dead entries are the same: what is asked of a name and of a size is asked of a primary entry
  whole-at : u.dead ≡ false → (s : ℕ) → whole g d s ≡ whole g d' s
  unfolding whole all
  whole-at z s =
      let v = Reads.live-any u g d d' a z in
      let ch = Reads.chain-at u g d d' a s (λ x i. v x) in let own = Reads.owned_at u g d d' a s (λ x i. v x) in
      let flags = (Reads.bytes-at u g d d' a s (v s)).flags in
      Reads.and-only (not (extension g d s)) _ _ (λ e.
      let x : extension g d s ≡ false = Members.no_false (T_not (extension g d s) (Members.true-T {b = not (extension g d s)} e)) in
      let name = Reads.name_holds-at u g d d' a s (v s) x in let size = Reads.size_holds-at u g d d' a s (λ x i. v x) (v s) x in
      λ i. all (name i ∷ every (Reads.killed-at u g d d' a z i) (ch i) ∷ distinct (ch i) ∷ distinct (own i) ∷ size i ∷ []))
      ∙ (λ i. not (bit 7 (flags i)) && all (name_holds g d' s ∷ every (killed_entry_holds g d') (chain g d' s)
      ∷ distinct (chain g d' s) ∷ distinct (owned g d' s) ∷ size_holds g d' s ∷ []))

  whole-first : (s : ℕ) → T (whole g d s) → extension g d s ≡ false
  whole-first s t = Members.no_false (T_not (extension g d s) (LawsBack.whole_says g d s t).first)

  -- a whole file's granules are on the disk, its entries in slots
  whole-granule : (s n : ℕ) → T (whole g d s) → In n (owned g d s) → n < granules g
  unfolding owned
  whole-granule s n t i =
      let w = LawsBack.whole_says g d s t in
      let e = Members.each_in (Rattle.meaning.specs.Entries.entry_granules g d) n (chain g d s) i in
      Places.runs-granule-lt g d e.0 n (w.entries e.0 e.1).run e.2

  whole-slot : (s x : ℕ) → T (is_slot g d s) → T (whole g d s) → In x (chain g d s) → T (is_slot g d x)
  whole-slot s x t u i = go (Entry.chain-pred g d s x i)
    where
      at : (z : ℕ) → marker g d z ≡ 0xfe → link g d z ≡ x → (marker g d z ≡ 0xff) ⊎ Entry.LinkedBy g d 0x80 z → T (is_slot g d x)
      at z m l (inl e) = absurd (omega arith)
      at z m l (inr q) = rw l at q.next.slot

      go : Entry.Pred g d s x (chain g d s) → T (is_slot g d x)
      go (Entry.Pred.first e) = rw e t
      go (Entry.Pred.after z j m l) = at z m l ((LawsBack.whole_says g d s u).entries z (Members.front-in s i j)).linked

  -- 18 before 19 and 20: the name and the GAT are asked where the file is whole
  back-number : u.dead ≡ false → (s : ℕ) → first (bring_back_refusals g d s) ≡ first (bring_back_refusals g d' s)
  unfolding first
  back-number z s =
      let v = Reads.live-any u g d d' a z in
      let own = Reads.owned_at u g d d' a s (λ x i. v x) in let flags = (Reads.bytes-at u g d d' a s (v s)).flags in
      after-disk g d
      ((12, not (is_slot g d s)) ∷ (17, bit 4 (field g d s 0)) ∷ (6, bit 6 (field g d s 0)) ∷ (18, not (whole g d s))
      ∷ (19, not (missing g d (name_of g d s))) ∷ (20, some (taken g d) (owned g d s)) ∷ [])
      ((12, not (is_slot g d s)) ∷ (17, bit 4 (field g d s 0)) ∷ (6, bit 6 (field g d s 0)) ∷ (18, not (whole g d s))
      ∷ (19, not (missing g d (name_of g d' s))) ∷ (20, some (taken g d') (owned g d s)) ∷ []) (λ y.
      ap (λ (n : ℕ). cond (not (is_slot g d s)) 12 (cond (bit 4 (field g d s 0)) 17 (cond (bit 6 (field g d s 0)) 6 n)))
      (unless (not (whole g d s)) 18 _ _ (λ e.
      let t = held (whole g d s) e in
      let bits = Reads.some-eq (taken g d) (taken g d') (owned g d s) (λ n i. a.gat n (whole-granule s n t i)) in
      let name = Reads.name-at u g d d' a s (v s) (whole-first s t) in
      λ i. cond (not (missing g d (name i))) 19 (cond (bits i) 20 0))))
      ∙ (λ i. first (disk_refusals-same i ((12, not (Reads.is_slot-same u g d d' a i s)) ∷ (17, bit 4 (flags i))
      ∷ (6, bit 6 (flags i)) ∷ (18, not (whole-at z s i)) ∷ (19, not (eqb (length (named-same (name_of g d' s) i)) 0))
      ∷ (20, some (taken g d') (own i)) ∷ [])))

  pub back-same : u.dead ≡ false → (s : ℕ) → LeftAlike u g (bring_back g d s) (bring_back g d' s)
  unfolding bring_back back_entry take_granule
  back-same z s = (
    (let own = Reads.owned_at u g d d' a s (λ x i. Reads.live-any u g d d' a z x) in
        let ch = Reads.chain-at u g d d' a s (λ x i. Reads.live-any u g d d' a z x) in
        λ i. let no = back-number z s i in
        record {
          refusal = refusal-same i no;
          slots = cond (accepted no) (length (ch i)) 0;
          granules = cond (accepted no) (length (own i)) 0;
        }),
    subst (λ (l : List ℕ). ReadAlike u g (bring_back g d s).1 l)
        (λ i. cond (accepted (back-number z s i)) (brought_back g d' s) d')
        (left (accepted (first (bring_back_refusals g d s))) _ _ (λ e.
        let p = Passed.disk-passed g d _ (accepts _ e) in
        let p₁ = Passed.passed 12 _ _ (omega arith) p.1 in
        let p₂ = Passed.passed 17 _ _ (omega arith) p₁.1 in
        let p₃ = Passed.passed 6 _ _ (omega arith) p₂.1 in
        let p₄ = Passed.passed 18 _ _ (omega arith) p₃.1 in
        let t = Passed.yes-T (is_slot g d s) p₁.0 in
        let y = Passed.yes-T (whole g d s) p₄.0 in
        let w = both-sound (Places.fits g d p.0.fits) p.0.sound in
        let v = Reads.live-any u g d d' a z in
        let own = Reads.owned_at u g d d' a s (λ x i. v x) in let ch = Reads.chain-at u g d d' a s (λ x i. v x) in
        let name = Reads.name-at u g d d' a s (v s) (whole-first s y) in
        subst (λ (l : List ℕ). ReadAlike u g (brought_back g d s) l)
        (λ i. through (back_entry g (hash (name i))) (through (take_granule g) d' (own i)) (ch i))
        (both-flags (with_bit 4) (bit-seven 1 (omega arith)) (λ x. inr z) tall (hash (name_of g d s)) (chain g d s) _ _ (LawsBack.whole_says g d s y).once
        (λ x i. let q = slot-of x (whole-slot s x t y i) in (q, Stores.not-count u g tall d d' x w q))
        (λ x i. ap (λ (b : Bool). b && not (in_use g (through (take_granule g) d (owned g d s)) x)) z)
        (Stores.both-through u g tall (take_granule g) (owned g d s) d d'
        (λ l l' n i q. Stores.both-take u g tall l l' n (whole-granule s n y i) q) w)).alike)),
  )

-- Write ---------------------------------------------------------------------------------------------------------------------------

module _ (u : Kinds) (g : Geometry) (d d' : List ℕ) (a : ReadAlike u g d d') where
  -- the image that a write of so many bytes leaves, of the old size and the grown image
  abbrev written : Mode → Handle → ℕ → List ℕ → ℕ → List ℕ → List ℕ
  written m x n b old e =
      with_size g (store (place g e x.slot) (store (place g e x.slot) e old (replicate (x.at - old) 0)) x.at (take n b)) x.slot
      (size_after m old (x.at + n))

  -- where it is accepted: the grown images are alike, the one is consistent, and the file has granules enough
  both-written : (m : Mode) (x : Handle) (n : ℕ) (b : List ℕ) → first (write_refusals g d m x n (length b)) ≡ 0
      → ReadAlike u g (written m x n b (size_of g d x.slot) (with_granules g d x.slot (to_write g d m x n)))
      (written m x n b (size_of g d' x.slot) (with_granules g d' x.slot (to_write g d' m x n)))
  both-written m x n b e =
      let s = x.slot in let k = to_write g d m x n in
      let h = Passed.holds g d x _ 4 (cannot_grow g d s k) e in
      let y = Grow.larger-grew g d x k h.0 h.1 in
      let w = both-granules u g d d' a x k h.0 h.1 in
      let own : length (owned g (with_granules g d s k) s) ≡ length (owned g d s) + k =
      ap length y.owned' ∙ length-append (owned g d s) y.new ∙ ap (λ (z : ℕ). length (owned g d s) + z) y.many in
      let size = size_after m (size_of g d s) (x.at + n) in
      let fit : size ≤ granule_bytes g * length (owned g (with_granules g d s k) s) = Sizes.round-fits (Sizes.bytes_pos g) size _ (omega (arith, own)) in
      let end = Rewrite.after-end m (size_of g d s) (x.at + n) in
      let short : length (take n b) ≤ n = le-take n b in
      let old = Reads.file-size u g d d' a s h.0.file in
      let more = lacking-at u g d d' a h.0.sound s h.0.file _ ∙ ap (λ (z : ℕ). lacking g d' s (granules_for g (size_after m z (x.at + n)))) old in
      subst (ReadAlike u g (written m x n b (size_of g d s) (with_granules g d s k)))
      (λ i. written m x n b (old i) (with_granules g d' s (more i)))
      (both-write u g _ _ w.alike s (above_ten g d) y.kept.sound y.kept.fits y.kept.file y.kept.user w (size_of g d s) x.at size (take n b)
      (omega (arith, fit, end, short))).alike
    where
      le-take : (n : ℕ) (b : List ℕ) → length (take n b) ≤ n
      le-take n b = let l = length-take n b in omega arith

  pub write_same : (m : Mode) (x : Handle) (n : ℕ) (b : List ℕ) → LeftAlike u g (write_of g d m x n b) (write_of g d' m x n b)
  unfolding write_of
  write_same m x n b = (
    λ i. let no = write-number u g d d' a m x n b i in
        record { refusal = refusal-same u g d d' a i no; handle = cond (accepted no) (moved_to x (x.at + n)) x },
    subst (λ (l : List ℕ). ReadAlike u g (write_of g d m x n b).1 l)
        (λ i. cond (accepted (write-number u g d d' a m x n b i))
        (written m x n b (size_of g d' x.slot) (with_granules g d' x.slot (to_write g d' m x n))) d')
        (left u g d d' a (accepted (first (write_refusals g d m x n (length b)))) _ _ (λ e. both-written m x n b (accepts _ e))),
  )
