-- The promises of `ButForFlag`, proved.
use Rattle.std.specs.Prelude.{◌≡◌, ◌⊎◌, Bool, true, ◌&&◌, replicate}
use Rattle.std.proofs.Math.Path.{refl, ap}
use Rattle.std.proofs.Common.{sym, subst, ◌∙◌, ⊎_elim}
use Rattle.std.proofs.Math.Bool.{false, not, cond}
use mathlib.Core.List.{List, [], ◌∷◌, ◌++◌, map}
use Prim.Native.Nat.{ℕ, suc, max, ◌+◌, ◌-◌, ◌*◌}
use Rattle.std.proofs.Math.Dec.{eqb, leb, ltb}
use Rattle.std.proofs.Math.ListN.{length, take, drop}
use Rattle.meaning.specs.Lists.{count, keep, has, all, first, first_or, times, through, every, distinct, some, last_or}
use Rattle.meaning.specs.Layout.{granule_sectors, granule_bytes, granules, fits_geometry, taken, take_granule, free_granule, hit, directory_sectors}
use Rattle.meaning.specs.Layout.{is_slot, slots}
use Rattle.meaning.specs.Layout.{field, set_field, highest, sector_numbers, granules_for, byte}
use Rattle.meaning.specs.Names.{hash, comes_in}
use Rattle.meaning.specs.Entries.{name_of, size_of, runs_from, runs, sector_count, keeps_space, no_growth, extension, in_use, system, run_start, run_length}
use Rattle.meaning.specs.Chain.{files}
use Rattle.meaning.specs.Consistent.{name_holds, pairs_hold, follows_by, link_holds_by, runs_hold, consistent}
use Rattle.meaning.specs.Free.{free_granules, free_slots}
use Rattle.meaning.specs.Growth.{Grown, fails, disk_or, or_else, grow_by, growth, lacking}
use Rattle.meaning.specs.Drop.{unhooked, drop_one}
use Rattle.meaning.specs.Refusal.{unplaced, carried, carried_two}
use Rattle.meaning.specs.Refusals.{bad_geometry, by_number, fault_numbers, disk_refusals, refusal, accepted, bad_name, new_in_range, stale, handle_refusals}
use Rattle.meaning.specs.Refusals.{not_for_reading, protected, bad_at, name_refusal}
use Rattle.meaning.specs.Handles.{good_length, in_range, fresh, no_handle, moved_to}
use Rattle.meaning.specs.LookUp.{candidates, carries, compared_in, named, look_up, missing}
use Rattle.meaning.specs.Open.{full, admits, open', opened_at}
use Rattle.meaning.specs.Create.{create, with_entry}
use Rattle.meaning.specs.Amount.{how_many}
use Rattle.meaning.specs.Read.{fetch, read_of, read_sector, sector_bytes}
use Rattle.meaning.specs.Write.{write_of, to_write, store, size_after, with_size}
use Rattle.meaning.specs.Allot.{allot, to_allot, granules_to}
use Rattle.meaning.specs.Trim.{trim}
use Rattle.meaning.specs.Kill.{kill_entry, kill}
use Rattle.meaning.specs.BringBack.{whole, back_entry, killed_entry_holds, bring_back}
use Rattle.meaning.specs.Listing
use Rattle.meaning.specs.Listing.{shown, listed, tell_first, no_file}
use Rattle.meaning.specs.Stretch
use Rattle.meaning.specs.FreeSpace.{longest_in, free_space}
use Rattle.meaning.specs.Calls.{Call, checks, looks_up, opens, creates, reads, reads_sector, writes, allots, trims, kills, lists, counts, measures}
use Rattle.meaning.specs.declared.Geometry.{Geometry}
use Rattle.meaning.specs.declared.Handle.{Handle}
use Rattle.meaning.specs.declared.NewFile.{NewFile}
use Rattle.meaning.specs.declared.Mode.{Mode}
use Rattle.meaning.specs.declared.Created.{Created}
use Rattle.promises_data.specs.Alike.{stated, ButForFlag, Agrees, GrowsAlike, EveryCall, EveryDisk, EveryBack}
use Rattle.promises_data.specs.Flag.{slots_same, chain_same, owned-same, files-same, place_same, size_holds-same, fault-same, check-same}
use Rattle.promises_data.specs.Flag.{consistent-same}

module _ (g : Geometry) (b : Bool) (d : List ℕ) where
  -- What calls test ---------------------------------------------------------------------------------------------------------

  disk_refusals-same : disk_refusals g d ≡ disk_refusals (stated b g) d
  unfolding fits_geometry granules granule_bytes granule_sectors
  disk_refusals-same = λ i rest. bad_geometry g d ∷ (by_number (fault-same g b d i).number fault_numbers ++ rest)

  refusal-same : refusal g d ≡ refusal (stated b g) d
  refusal-same = λ i n. carried (check-same g b d i) n

  name-refusal-same : name_refusal g d ≡ name_refusal (stated b g) d
  name-refusal-same = λ i n k. carried_two (check-same g b d i) (bad_at n) k

  handle_refusals-same : handle_refusals g d ≡ handle_refusals (stated b g) d
  unfolding fresh is_slot directory_sectors name_of field
  handle_refusals-same = λ i x ranged rest. disk_refusals-same i ((12, not ranged) ∷ stale g d x ∷ rest)

  -- Calls by name -----------------------------------------------------------------------------------------------------------

  candidates-same : candidates g d ≡ candidates (stated b g) d
  unfolding candidates hit
  candidates-same = λ i n. keep (λ s. eqb (hit g d s) (hash n)) (slots_same g b d i)

  carries_same : carries g d ≡ carries (stated b g) d
  unfolding carries name_of field
  carries_same = refl

  compared_in-same : (n ss : List ℕ) → compared_in g d n ss ≡ compared_in (stated b g) d n ss
  unfolding compared_in
  compared_in-same n [] = refl
  compared_in-same n (s ∷ ss) = λ i. cond (carries_same i n s) 1 (suc (compared_in-same n ss i))

  pub named-same : named g d ≡ named (stated b g) d
  unfolding named
  named-same = λ i n. take 1 (keep (carries_same i n) (candidates-same i n))

  look-up : (n : List ℕ) → look_up g d n ≡ look_up (stated b g) d n
  unfolding look_up
  look-up n =
      λ i. let m = (comes_in n).name in
      let no = first (disk_refusals-same i (bad_name n ∷ (4, eqb (length (named-same i m)) 0) ∷ [])) in
      record {
        refusal = name-refusal-same i n no;
        slot = cond (accepted no) (first_or 0 (named-same i m)) 0;
        compared = cond (has (0 ∷ 4 ∷ []) no) (compared_in-same m (candidates-same i m) i) 0;
      }

  admits-same : admits g d ≡ admits (stated b g) d
  unfolding admits full field
  admits-same = refl

  opened_at-same : opened_at g d ≡ opened_at (stated b g) d
  unfolding full field
  opened_at-same = refl

  open-same : (n : List ℕ) (len : ℕ) (checking : Bool) (code : ℕ) → open' g d n len checking code ≡ open' (stated b g) d n len checking code
  unfolding open'
  open-same n len checking code =
      λ i. let m = (comes_in n).name in
      let no = first (disk_refusals-same i ((12, not (good_length len)) ∷ bad_name n ∷ (4, eqb (length (named-same i m)) 0)
      ∷ (5, not (admits-same i (first_or 0 (named-same i m)) checking code)) ∷ [])) in
      record {
        refusal = name-refusal-same i n no;
        handle = cond (accepted no) (opened_at-same i (first_or 0 (named-same i m)) m len checking code) no_handle;
      }

  -- Create, with the free slots in its hands: under this geometry at one end, under that at the other.
  with_entry-same : with_entry g d ≡ with_entry (stated b g) d
  with_entry-same = refl

  abbrev created : 𝕀 → List ℕ → Bool → List ℕ → NewFile → Bool → Created × List ℕ
  created i slots' new n f checking =
      let m = (comes_in n).name in
      let s = first_or 0 (named-same i m) in
      let x = first_or 0 slots' in
      let no = first (disk_refusals-same i ((12, not (new_in_range f)) ∷ bad_name n
      ∷ (5, all (not new ∷ not (admits-same i s checking f.main) ∷ []))
      ∷ (8, all (new ∷ eqb (length slots') 0 ∷ [])) ∷ [])) in (
        record {
          refusal = name-refusal-same i n no;
          old = accepted no && not new;
          handle = cond (accepted no)
              (cond new (record { slot = x; name = m; at = 0; len = f.len; level = 0 })
              (opened_at-same i s m f.len checking f.main)) no_handle;
        },
        cond (accepted no && new) (with_entry-same i x m f) d,
      )

  -- whether there is no file of that name
  abbrev new-same : 𝕀 → List ℕ → Bool
  new-same i n = eqb (length (named-same i (comes_in n).name)) 0

  -- the same slots are free
  create-slots : free_slots g d ≡ free_slots (stated b g) d → (n : List ℕ) (f : NewFile) (checking : Bool)
      → create g d n f checking ≡ create (stated b g) d n f checking
  unfolding create named
  create-slots e n f checking = λ i. created i (e i) (new-same i n) n f checking

  -- a file of that name is there
  never-taken : (a : Bool) (x y z : List ℕ) → cond (a && false) x z ≡ cond (a && false) y z
  never-taken true x y z = refl
  never-taken false x y z = refl

  created-old : (slots' slots'' n : List ℕ) (f : NewFile) (checking : Bool) → created 0 slots' false n f checking ≡ created 0 slots'' false n f checking
  unfolding all
  created-old slots' slots'' n f checking =
      let c = (created 0 slots' false n f checking).0 in
      let at : List ℕ → List ℕ = λ xs. with_entry g d (first_or 0 xs) (comes_in n).name f in
      λ i. (c, never-taken (accepted c.refusal.number) (at slots') (at slots'') d i)

  create-found : (n : List ℕ) (f : NewFile) (checking : Bool) → missing g d (comes_in n).name ≡ false
      → create g d n f checking ≡ create (stated b g) d n f checking
  unfolding create named
  create-found n f checking e =
      ap (λ (new : Bool). created 0 (free_slots g d) new n f checking) e
      ∙ created-old (free_slots g d) (free_slots (stated b g) d) n f checking
      ∙ (λ i. created i (free_slots (stated b g) d) false n f checking)
      ∙ ap (λ (new : Bool). created 1 (free_slots (stated b g) d) new n f checking) (sym e ∙ (λ i. new-same i n))

  -- Reads -------------------------------------------------------------------------------------------------------------------

  pub fetch-same : fetch g d ≡ fetch (stated b g) d
  unfolding fetch
  fetch-same = λ i s k n. map (λ j. byte d (place_same g b d i s j)) (count k n)

  read-of : (x : Handle) (n : ℕ) (buffer : List ℕ) → read_of g d x n buffer ≡ read_of (stated b g) d x n buffer
  unfolding read_of in_range granule_bytes granule_sectors size_of field
  read-of x n buffer =
      λ i. let no = first (handle_refusals-same i x (all (in_range g x ∷ leb n (highest g) ∷ leb n (length buffer) ∷ []))
      (not_for_reading x ∷ (10, ltb (size_of g d x.slot) (x.at + n)) ∷ [])) in (
        record { refusal = refusal-same i no; handle = cond (accepted no) (moved_to x (x.at + n)) x },
        cond (accepted no) (fetch-same i x.slot x.at n ++ drop n buffer) buffer,
      )

  read-sector : (x : Handle) (k : ℕ) → read_sector g d x k ≡ read_sector (stated b g) d x k
  unfolding read_sector in_range granule_bytes granule_sectors size_of field
  read-sector x k =
      λ i. let no = first (handle_refusals-same i x (all (in_range g x ∷ ltb k (sector_numbers g) ∷ []))
      (not_for_reading x ∷ (10, leb (sector_count g d x.slot) k) ∷ [])) in
      let from = place_same g b d i x.slot (256 * k) in
      record {
        refusal = refusal-same i no;
        from = cond (accepted no) from 0;
        to = cond (accepted no) (from + sector_bytes g d x.slot k) 0;
      }

  -- Kill, listing, counts, free space -------------------------------------------------------------------------------------------

  kill-same : (x : Handle) → kill g d x ≡ kill (stated b g) d x
  unfolding kill in_range granule_bytes granule_sectors kill_entry free_granule set_field field
  kill-same x =
      λ i. let no = first (handle_refusals-same i x (in_range g x) (protected g d 1 x ∷ [])) in (
        record { refusal = refusal-same i no; handle = x },
        cond (accepted no)
            (through (kill_entry g) (through (free_granule g) d (owned-same g b d i x.slot)) (chain_same g b d i x.slot)) d,
      )

  listed_same : listed g d ≡ listed (stated b g) d
  unfolding listed shown field
  listed_same = λ i. keep (shown g d) (files-same g b d i)

  tell_first-same : (ps : List ℕ) → tell_first g d ps ≡ tell_first (stated b g) d ps
  unfolding tell_first name_of size_of field
  tell_first-same [] = refl
  tell_first-same (p ∷ ps) =
      λ i. record { refusal = unplaced 0; more = true; name = name_of g d p; size = size_of g d p; granules = length (owned-same g b d i p) }

  list_same : (n : ℕ) → Listing.list g d n ≡ Listing.list (stated b g) d n
  unfolding Listing.list
  list_same n =
      λ i. let c = check-same g b d i in cond (accepted c.number) (tell_first-same (drop n (listed_same i)) i) (no_file c)

  free_granules-same : free_granules g d ≡ free_granules (stated b g) d
  unfolding free_granules taken granules
  free_granules-same = refl

  counts_same : Listing.counts g d ≡ Listing.counts (stated b g) d
  unfolding Listing.counts
  counts_same =
      λ i. let c = check-same g b d i in
      record {
        refusal = c;
        files = cond (accepted c.number) (length (listed_same i)) 0;
        free = cond (accepted c.number) (length (free_granules-same i)) 0;
      }

  taken-same : (n : ℕ) → taken g d n ≡ taken (stated b g) d n
  unfolding taken
  taken-same n = refl

  longest_in-same : (ns : List ℕ) → longest_in g d ns ≡ longest_in (stated b g) d ns
  longest_in-same ns = λ i. Stretch.longest_in (λ n. taken-same n i) ns

  free-space : free_space g d ≡ free_space (stated b g) d
  unfolding free_space fits_geometry granules granule_bytes granule_sectors
  free-space =
      λ i. let no = first (bad_geometry g d ∷ []) in
      record {
        refusal = unplaced no;
        free = cond (accepted no) (length (free_granules-same i)) 0;
        longest = cond (accepted no) (longest_in-same (count 0 (granules g)) i) 0;
      }

  -- Bring back --------------------------------------------------------------------------------------------------------------

  whole_same : whole g d ≡ whole (stated b g) d
  unfolding whole name_holds name_of pairs_hold link_holds_by follows_by is_slot directory_sectors runs_hold granules runs runs_from field
  whole_same =
      λ i s. all (not (extension g d s) ∷ name_holds g d s ∷ every (killed_entry_holds g d) (chain_same g b d i s)
      ∷ distinct (chain_same g b d i s) ∷ distinct (owned-same g b d i s) ∷ size_holds-same g b d i s ∷ [])

  bring-back : (s : ℕ) → bring_back g d s ≡ bring_back (stated b g) d s
  unfolding bring_back back_entry take_granule set_field name_of is_slot directory_sectors taken field
  bring-back s =
      λ i. let chain' = chain_same g b d i s in let owned' = owned-same g b d i s in
      let no = first (disk_refusals-same i ((12, not (is_slot g d s))
      ∷ (17, in_use g d s) ∷ (6, system g d s) ∷ (18, not (whole_same i s)) ∷ (19, not (eqb (length (named-same i (name_of g d s))) 0))
      ∷ (20, some (taken g d) owned') ∷ [])) in (
        record {
          refusal = refusal-same i no;
          slots = cond (accepted no) (length chain') 0;
          granules = cond (accepted no) (length owned') 0;
        },
        cond (accepted no) (through (back_entry g (hash (name_of g d s))) (through (take_granule g) d owned') chain') d,
      )

-- Trim --------------------------------------------------------------------------------------------------------------------

module _ (g : Geometry) (b : Bool) (p : ℕ) where
  -- one granule less, on any disk
  drop_one-same : drop_one g p ≡ drop_one (stated b g) p
  unfolding drop_one unhooked free_granule set_field runs runs_from field
  drop_one-same =
      λ i d. let e = last_or p (chain_same g b d i p) in let k = runs g d e - 1 in
      let n = run_start g d e k + run_length g d e k - 1 in
      let shorter = set_field g d e (0x17 + 2 * k) (field g d e (0x17 + 2 * k) - 1) in
      let emptied = set_field g (set_field g d e (0x16 + 2 * k) 0xff) e (0x17 + 2 * k) 0xff in
      free_granule g
      (cond (ltb 1 (run_length g d e k)) shorter
      (cond (extension g d e && eqb k 0) (unhooked g emptied e (field g d e 1)) emptied))
      n

module _ (g : Geometry) (b : Bool) (d : List ℕ) where
  trim_same : (x : Handle) → trim g d x ≡ trim (stated b g) d x
  unfolding trim in_range granule_bytes granule_sectors size_of field
  trim_same x =
      λ i. let s = x.slot in
      let no = first (handle_refusals-same g b d i x (in_range g x) (protected g d 4 x ∷ [])) in
      let surplus = length (owned-same g b d i s) - granules_for g (size_of g d s) in (
        record { refusal = refusal-same g b d i no; handle = x },
        cond (accepted no && not (keeps_space g d s)) (times surplus (drop_one-same g b s i) d) d,
      )

  -- Write and allot, with the growth in their hands -------------------------------------------------------------------------------

  lacking-same : lacking g d ≡ lacking (stated b g) d
  lacking-same = λ i s wanted. wanted - length (owned-same g b d i s)

  to_write-same : (m : Mode) (x : Handle) (n : ℕ) → to_write g d m x n ≡ to_write (stated b g) d m x n
  unfolding granule_bytes granule_sectors size_of field
  to_write-same m x n = λ i. lacking-same i x.slot (granules_for g (size_after m (size_of g d x.slot) (x.at + n)))

  -- what cannot grow: k granules more are wanted, and the growth comes to w
  abbrev cannot : 𝕀 → ℕ → ℕ → Grown → List (ℕ × Bool)
  cannot i s k w =
      (11, all (no_growth g d s ∷ ltb 0 k ∷ [])) ∷ (9, ltb (length (free_granules-same g b d i)) k) ∷ (8, fails w) ∷ []

  grows : (x : Handle) (k k' : ℕ) → k ≡ k' → GrowsAlike g (stated b g) d x k → growth g x.slot k d ≡ growth (stated b g) x.slot k' d
  grows x k k' e w = w ∙ ap (λ (n : ℕ). growth (stated b g) x.slot n d) e

  write-of : (m : Mode) (x : Handle) (n : ℕ) (buffer : List ℕ) → GrowsAlike g (stated b g) d x (to_write g d m x n)
      → write_of g d m x n buffer ≡ write_of (stated b g) d m x n buffer
  unfolding write_of in_range granule_bytes granule_sectors size_of set_field field
  write-of m x n buffer same' =
      let w = grows x (to_write g d m x n) (to_write (stated b g) d m x n) (to_write-same m x n) same' in
      λ i. let s = x.slot in let old = size_of g d s in let end = x.at + n in
      let no = first (handle_refusals-same g b d i x (all (in_range g x ∷ leb end (highest g) ∷ leb n (length buffer) ∷ []))
      (protected g d 4 x ∷ cannot i s (to_write-same m x n i) (w i))) in
      let d₁ = disk_or d (w i) in
      let f = place_same g b d₁ i s in
      let d₂ = store f d₁ old (replicate (x.at - old) 0) in
      let d₃ = store f d₂ x.at (take n buffer) in (
        record { refusal = refusal-same g b d i no; handle = cond (accepted no) (moved_to x end) x },
        cond (accepted no) (with_size g d₃ s (size_after m old end)) d,
      )

  to_allot-same : (x : Handle) (k : ℕ) → to_allot g d x k ≡ to_allot (stated b g) d x k
  unfolding granule_sectors
  to_allot-same x k = λ i. lacking-same i x.slot (granules_to g k)

  allot-same : (x : Handle) (k : ℕ) → GrowsAlike g (stated b g) d x (to_allot g d x k) → allot g d x k ≡ allot (stated b g) d x k
  unfolding allot in_range granule_bytes granule_sectors field
  allot-same x k same' =
      let w = grows x (to_allot g d x k) (to_allot (stated b g) d x k) (to_allot-same x k) same' in
      λ i. let no = first (handle_refusals-same g b d i x (all (in_range g x ∷ ltb k (sector_numbers g) ∷ []))
      (protected g d 4 x ∷ cannot i x.slot (to_allot-same x k i) (w i))) in (
        record { refusal = refusal-same g b d i no; handle = x },
        cond (accepted no) (disk_or d (w i)) d,
      )

  -- Every call --------------------------------------------------------------------------------------------------------------

  agrees : (c : Call) → Agrees g (stated b g) d c
  agrees checks = check-same g b d
  agrees (looks_up n) = look-up g b d n
  agrees (opens n len checking code) = open-same g b d n len checking code
  agrees (creates n f checking) = λ e. ⊎_elim (create-found g b d n f checking) (λ s. create-slots g b d s n f checking) e
  agrees (reads a x buffer) = read-of g b d x (how_many a x.len buffer) buffer
  agrees (reads_sector x k) = read-sector g b d x k
  agrees (writes a m x buffer) = write-of m x (how_many a x.len buffer) buffer
  agrees (allots x k) = allot-same x k
  agrees (trims x) = trim_same x
  agrees (kills x) = kill-same g b d x
  agrees (lists n) = list_same g b d n
  agrees counts = counts_same g b d
  agrees measures = free-space g b d

-- a geometry alike but for the flag is this one, stated by that one's flag
pub alike_is : (g h : Geometry) → ButForFlag g h → stated h.system g ≡ h
alike_is g h e =
    λ i. record { blocks = e.blocks i; units = e.units i; start = e.start i; noPassword = e.noPassword i; system = h.system; granule = e.granule i }

pub every-disk : EveryDisk
every-disk g h e d = subst (λ (x : Geometry). consistent g d ≡ consistent x d) (alike_is g h e) (consistent-same g h.system d)

pub every_back : EveryBack
every_back g h e d s = subst (λ (x : Geometry). bring_back g d s ≡ bring_back x d s) (alike_is g h e) (bring-back g h.system d s)

pub every_call : EveryCall
every_call g h e d c = subst (λ (x : Geometry). Agrees g x d c) (alike_is g h e) (agrees g h.system d c)

-- a file that needs no granule grows alike
pub none_needed : (g h : Geometry) (d : List ℕ) (x : Handle) (k : ℕ) → k ≡ 0 → GrowsAlike g h d x k
unfolding grow_by or_else growth
none_needed g h d x k e = rw e
