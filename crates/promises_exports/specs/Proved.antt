-- What is promised of a host's call is so: where the slice is long enough the call is that of demand 2 (promises: Kept), with the handle that its bytes
-- hold; where it is too short, 1, a fault's number or 12 is told, and nothing is touched.
use Rattle.std.specs.Prelude.{ℕ, ◌≤◌, ◌≡◌, ◌≢◌, ◌⊎◌, Bool, true, false, not, List, [], ◌∷◌, T, length, get_or}
use Rattle.std.proofs.Math.Path.{refl}
use Rattle.std.proofs.Common.{sym, ap, subst, ◌∙◌, inl, inr, arith, eq-eqb, ne_eqb, ltb-false}
use Rattle.std.proofs.Math.Bool.{cond}
use Rattle.std.proofs.Math.Decide.{ℕ_discrete}
use Rattle.std.proofs.lemmas.List.Edits.{sets}
use Rattle.meaning.specs.Amount.{one_record, whole_buffer, how_many}
use Rattle.meaning.specs.Refusal.{placed, slot_told}
use Rattle.meaning.specs.Lists.{every, has}
use Rattle.meaning.specs.Refusals.{first, disk_refusals, fault_numbers, check, refusal}
use Rattle.meaning.specs.Fault.{fault}
use Rattle.meaning.specs.LookUp.{look_up}
use Rattle.meaning.specs.Open.{open'}
use Rattle.meaning.specs.Create.{create}
use Rattle.meaning.specs.Read.{read_of, read_sector}
use Rattle.meaning.specs.Write.{write_of}
use Rattle.meaning.specs.Listing
use Rattle.meaning.specs.FreeSpace.{free_space}
use Rattle.meaning.specs.Calls.{Call, number, leaves}
use Rattle.meaning.specs.declared.Geometry.{Geometry}
use Rattle.meaning.specs.declared.Listed.{Listed}
use Rattle.meaning.specs.declared.Refusal.{Refusal}
use Rattle.lists.specs.Tests.{first-at}
use Rattle.lists.specs.First.{numbers_of}
use Rattle.lists.specs.Members.{In, in-cons, none_in, count-in}
use Rattle.promises.specs.Said.{says}
use Rattle.promises.specs.Promises.{Stays, Refuses, Table, Rows, Exactly, table, disk_cases}
use Rattle.promises.specs.Refusing.{exactly, disk-reading}
use Rattle.promises.specs.Staying.{stays_same}
use Rattle.promises.proofs.Kept.{every_call, every-write, stays_after}
use Rattle.promises_numbers.specs.Statement.{rows_of}
use Rattle.promises_numbers.specs.Kept.{every-number}
use Rattle.promises_fault.specs.Statement.{FaultIs, length', slot, granule, sound}
use Rattle.promises_fault.specs.Kept.{every-fault}
use Rattle.promises_fault.specs.Handed.{hands-on}
use Rattle.laws.specs.Carried.{carried-own}
use Rattle.genie_codec.specs.Codec.{handle_bytes, handle_of, stored, HandleFits}
use Rattle.genie_codec.specs.Words.{mode_of, told}
use Rattle.genie_codec.proofs.Fitting.{open-fits, create-fits, read_fits, write-fits}
use Rattle.genie.specs.Exports as exports
use Rattle.genie.specs.Exports.{moves, tells}
use Rattle.promises_handles.specs.HandleBytes.{stored_back, stored-length, stored-zeros}
use Rattle.promises_exports.specs.Host.{HostCall, checks, looks_up, opens, creates, reads, reads_sector, writes, allots, trims, kills, lists, counts}
use Rattle.promises_exports.specs.Host.{measures}
use Rattle.promises_exports.specs.Host.{LeftToHost, left_by, call_of, goes_out, too_short, lent_handle, lent_buffer, handle_stood}
use Rattle.promises_exports.specs.Host.{HostPromised, HostPromise, EveryHostCall, AllBring, Along, EveryHostState, EveryHostWrite}

pub no_truth : false ≡ true → ⊥
no_truth e = subst (λ (t : Bool). T (not t)) e tt

-- A number that is given exactly in its case is 0 or one of its table: where it is none of these no case holds, and then it is 0.
among : (n : ℕ) (rs : Table) (E : Type 0) → E → Rows n E rs → (n ≡ 0) ⊎ In n (rows_of rs)
among n [] E e x = inl (x.1 e)
among n (r ∷ rs) E e x = by (λ k. among n rs (E × (r.1 → ⊥)) k x.1) (ℕ_discrete n r.0)
  where
    later : (n ≡ 0) ⊎ In n (rows_of rs) → (n ≡ 0) ⊎ In n (r.0 ∷ rows_of rs)
    later (inl z) = inl z
    later (inr i) = inr (In.there i)

    by : (E × (r.1 → ⊥) → (n ≡ 0) ⊎ In n (rows_of rs)) → Dec (n ≡ r.0) → (n ≡ 0) ⊎ In n (r.0 ∷ rows_of rs)
    by rest (yes p) = inr (subst (λ (k : ℕ). In k (r.0 ∷ rows_of rs)) (sym p) In.here)
    by rest (no q) = later (rest (e, λ h. q (x.0.1 (e, h))))

pub numbered-by : (rs : Table) (n : ℕ) → Exactly n rs → In n (0 ∷ rows_of rs)
numbered-by rs n x = whole (among n rs (Unit {0}) tt x)
  where
    whole : (n ≡ 0) ⊎ In n (rows_of rs) → In n (0 ∷ rows_of rs)
    whole (inl z) = subst (λ (k : ℕ). In k (0 ∷ rows_of rs)) (sym z) In.here
    whole (inr i) = In.there i

-- Long enough, and too short --------------------------------------------------------------------------------------------------------------

module _ (g : Geometry) (d : List ℕ) where
  -- the number is that of demand 2's call
  pub number_is : (c : HostCall) → too_short c ≡ false → (left_by g d c).number ≡ number g d (call_of c)
  unfolding number moves tells
  number_is checks e = refl
  number_is (looks_up n) e = refl
  number_is (opens n len checking code b) e = rw e refl
  number_is (creates n f checking b) e = rw e refl
  number_is (reads one_record b x) e = rw e refl
  number_is (reads whole_buffer b x) e = rw e refl
  number_is (reads_sector b k) e = rw e refl
  number_is (writes one_record m b x) e = rw e refl
  number_is (writes whole_buffer m b x) e = rw e refl
  number_is (allots b k) e = rw e refl
  number_is (trims b) e = rw e refl
  number_is (kills b) e = rw e refl
  number_is (lists i b) e = rw e refl
  number_is counts e = refl
  number_is measures e = refl

  -- and so is the image
  pub image-is : (c : HostCall) → too_short c ≡ false → (left_by g d c).image ≡ leaves g d (call_of c)
  unfolding leaves moves
  image-is checks e = refl
  image-is (looks_up n) e = refl
  image-is (opens n len checking code b) e = refl
  image-is (creates n f checking b) e = rw e refl
  image-is (reads one_record b x) e = refl
  image-is (reads whole_buffer b x) e = refl
  image-is (reads_sector b k) e = refl
  image-is (writes one_record m b x) e = rw e refl
  image-is (writes whole_buffer m b x) e = rw e refl
  image-is (allots b k) e = rw e refl
  image-is (trims b) e = rw e refl
  image-is (kills b) e = rw e refl
  image-is (lists i b) e = refl
  image-is counts e = refl
  image-is measures e = refl

  -- what is lent too short is turned away
  abbrev pub turned : ℕ
  turned = first (disk_refusals g d ((12, true) ∷ []))

  turned-number : (c : HostCall) → too_short c ≡ true → (left_by g d c).number ≡ turned
  unfolding exports.too_short
  turned-number checks e = absurd (no_truth e)
  turned-number (looks_up n) e = absurd (no_truth e)
  turned-number counts e = absurd (no_truth e)
  turned-number measures e = absurd (no_truth e)
  turned-number (opens n len checking code b) e = rw e refl
  turned-number (creates n f checking b) e = rw e refl
  turned-number (reads one_record b x) e = rw e refl
  turned-number (reads whole_buffer b x) e = rw e refl
  turned-number (reads_sector b k) e = rw e refl
  turned-number (writes one_record m b x) e = rw e refl
  turned-number (writes whole_buffer m b x) e = rw e refl
  turned-number (allots b k) e = rw e refl
  turned-number (trims b) e = rw e refl
  turned-number (kills b) e = rw e refl
  turned-number (lists i b) e = rw e refl

  turned-image : (c : HostCall) → too_short c ≡ true → (left_by g d c).image ≡ d
  turned-image checks e = refl
  turned-image (looks_up n) e = refl
  turned-image (opens n len checking code b) e = refl
  turned-image (creates n f checking b) e = rw e refl
  turned-image (reads a b x) e = refl
  turned-image (reads_sector b k) e = refl
  turned-image (writes one_record m b x) e = rw e refl
  turned-image (writes whole_buffer m b x) e = rw e refl
  turned-image (allots b k) e = rw e refl
  turned-image (trims b) e = rw e refl
  turned-image (kills b) e = rw e refl
  turned-image (lists i b) e = refl
  turned-image counts e = refl
  turned-image measures e = refl

  turned-handle : (c : HostCall) → too_short c ≡ true → (left_by g d c).handle ≡ handle_stood c
  turned-handle checks e = refl
  turned-handle (looks_up n) e = refl
  turned-handle (opens n len checking code b) e = rw e refl
  turned-handle (creates n f checking b) e = rw e refl
  turned-handle (reads one_record b x) e = rw e refl
  turned-handle (reads whole_buffer b x) e = rw e refl
  turned-handle (reads_sector b k) e = refl
  turned-handle (writes one_record m b x) e = rw e refl
  turned-handle (writes whole_buffer m b x) e = rw e refl
  turned-handle (allots b k) e = refl
  turned-handle (trims b) e = refl
  turned-handle (kills b) e = refl
  turned-handle (lists i b) e = refl
  turned-handle counts e = refl
  turned-handle measures e = refl

  turned-buffer : (c : HostCall) → too_short c ≡ true → (left_by g d c).buffer ≡ lent_buffer c
  turned-buffer checks e = refl
  turned-buffer (looks_up n) e = refl
  turned-buffer (opens n len checking code b) e = refl
  turned-buffer (creates n f checking b) e = refl
  turned-buffer (reads one_record b x) e = rw e refl
  turned-buffer (reads whole_buffer b x) e = rw e refl
  turned-buffer (reads_sector b k) e = refl
  turned-buffer (writes one_record m b x) e = refl
  turned-buffer (writes whole_buffer m b x) e = refl
  turned-buffer (allots b k) e = refl
  turned-buffer (trims b) e = refl
  turned-buffer (kills b) e = refl
  turned-buffer (lists i b) e = rw e refl
  turned-buffer counts e = refl
  turned-buffer measures e = refl

  pub turned-exactly : Exactly turned (disk_cases g d ((12, Unit {0}) ∷ []))
  turned-exactly =
      exactly (disk_refusals g d ((12, true) ∷ [])) (disk_cases g d ((12, Unit {0}) ∷ []))
      (disk-reading g d ((12, true) ∷ []) ((12, Unit {0}) ∷ []) (refl, λ x. (λ t. tt, λ t. tt), tt)) tt

  -- 12 at the latest: it is refused
  pub never-accepted : turned ≢ 0
  never-accepted z = no_truth (sym (first-at (disk_refusals g d ((12, true) ∷ [])) z refl 11))

  -- What goes out is what is said of the call of demand 2 ----------------------------------------------------------------------------------------

  out-is : (c : HostCall) → too_short c ≡ false → left_by g d c ≡ goes_out c (says g d (call_of c))
  unfolding number leaves moves tells
  out-is checks e = refl
  out-is (looks_up n) e = refl
  out-is (opens n len checking code b) e = rw e refl
  out-is (creates n f checking b) e = rw e refl
  out-is (reads one_record b x) e = rw e refl
  out-is (reads whole_buffer b x) e = rw e refl
  out-is (reads_sector b k) e = rw e refl
  out-is (writes one_record m b x) e = rw e refl
  out-is (writes whole_buffer m b x) e = rw e refl
  out-is (allots b k) e = rw e refl
  out-is (trims b) e = rw e refl
  out-is (kills b) e = rw e refl
  out-is (lists i b) e = rw e refl
  out-is counts e = refl
  out-is measures e = refl

  -- Each number is of its table -----------------------------------------------------------------------------------------------------------------

  pub numbered : (c : Call) → In (number g d c) (0 ∷ rows_of (table g d c))
  numbered c = numbered-by (table g d c) (number g d c) (every_call g d c).numbers

  -- Under a refusal every lent byte is as it stood ----------------------------------------------------------------------------------------------

  refused : (c : Call) → number g d c ≢ 0 → Refuses g d c (says g d c)
  refused c z = ((every_call g d c).refuses z).1

  stood-handle : (c : HostCall) → too_short c ≡ false → number g d (call_of c) ≢ 0 → (left_by g d c).handle ≡ handle_stood c
  unfolding number moves
  stood-handle checks e z = refl
  stood-handle (looks_up n) e z = refl
  stood-handle (opens n len checking code b) e z = rw e
      (ap (stored b) (refused (Call.opens n len checking code) z) ∙ stored-zeros b (ltb-false (length b) handle_bytes e))
  stood-handle (creates n f checking b) e z = rw e
      (ap (stored b) (refused (Call.creates n f checking) z).0 ∙ stored-zeros b (ltb-false (length b) handle_bytes e))
  stood-handle (reads one_record b x) e z = rw e (rw (ne_eqb _ 0 z) refl)
  stood-handle (reads whole_buffer b x) e z = rw e (rw (ne_eqb _ 0 z) refl)
  stood-handle (reads_sector b k) e z = refl
  stood-handle (writes one_record m b x) e z = rw e (rw (ne_eqb _ 0 z) refl)
  stood-handle (writes whole_buffer m b x) e z = rw e (rw (ne_eqb _ 0 z) refl)
  stood-handle (allots b k) e z = refl
  stood-handle (trims b) e z = refl
  stood-handle (kills b) e z = refl
  stood-handle (lists i b) e z = refl
  stood-handle counts e z = refl
  stood-handle measures e z = refl

  stood-buffer : (c : HostCall) → too_short c ≡ false → number g d (call_of c) ≢ 0 → (left_by g d c).buffer ≡ lent_buffer c
  unfolding number moves tells
  stood-buffer checks e z = refl
  stood-buffer (looks_up n) e z = refl
  stood-buffer (opens n len checking code b) e z = refl
  stood-buffer (creates n f checking b) e z = refl
  stood-buffer (reads one_record b x) e z = rw e (refused (Call.reads one_record (handle_of b) x) z).1
  stood-buffer (reads whole_buffer b x) e z = rw e (refused (Call.reads whole_buffer (handle_of b) x) z).1
  stood-buffer (reads_sector b i) e z = refl
  stood-buffer (writes one_record m b x) e z = refl
  stood-buffer (writes whole_buffer m b x) e z = refl
  stood-buffer (allots b i) e z = refl
  stood-buffer (trims b) e z = refl
  stood-buffer (kills b) e z = refl
  stood-buffer (lists i b) e z = rw e (ap (λ (l : Listed). cond l.more (sets b 0 l.name) b) (refused (Call.lists i) z))
  stood-buffer counts e z = refl
  stood-buffer measures e z = refl

  -- What an accepted call hands over ----------------------------------------------------------------------------------------------------------------

  -- What an accepted call hands to the host is what the definitions of demand 2's calls answer: the slice holds the handle, where the numbers of the one
  -- that came in fit their bytes, as those of any 19 bytes do (promises_handles: bytes-fit); the buffer is that of the call, and so are the numbers told.
  abbrev pub HandsOver : HostCall → LeftToHost → Type 0
  HandsOver checks l = Unit {0}
  HandsOver (looks_up n) l = (get_or l.told 2 0 ≡ (look_up g d n).slot) × (get_or l.told 3 0 ≡ (look_up g d n).compared)
  HandsOver (opens n len checking code b) l = handle_of l.handle ≡ (open' g d n len checking code).handle
  HandsOver (creates n f checking b) l = let c = (create g d n f checking).0 in (handle_of l.handle ≡ c.handle) × (get_or l.told 2 0 ≡ told c.old)
  HandsOver (reads a b x) l =
      let r = read_of g d (handle_of b) (how_many a (handle_of b).len x) x in
      (HandleFits (handle_of b) → handle_of l.handle ≡ r.0.handle) × (l.buffer ≡ r.1)
  HandsOver (reads_sector b k) l = let p = read_sector g d (handle_of b) k in (get_or l.told 1 0 ≡ p.from) × (get_or l.told 2 0 ≡ p.to) × (l.handle ≡ b)
  HandsOver (writes a m b x) l =
      let r = write_of g d (mode_of m) (handle_of b) (how_many a (handle_of b).len x) x in
      (HandleFits (handle_of b) → handle_of l.handle ≡ r.0.handle) × (l.buffer ≡ x)
  HandsOver (allots b k) l = l.handle ≡ b
  HandsOver (trims b) l = l.handle ≡ b
  HandsOver (kills b) l = l.handle ≡ b
  HandsOver (lists i b) l =
      let p = Listing.list g d i in
      (get_or l.told 1 0 ≡ p.size) × (get_or l.told 2 0 ≡ p.granules) × (get_or l.told 3 0 ≡ told p.more)
      × (l.buffer ≡ cond p.more (sets b 0 p.name) b)
  HandsOver counts l = (get_or l.told 1 0 ≡ (Listing.counts g d).files) × (get_or l.told 2 0 ≡ (Listing.counts g d).free)
  HandsOver measures l = (get_or l.told 0 0 ≡ (free_space g d).free) × (get_or l.told 1 0 ≡ (free_space g d).longest)

  hands : (c : HostCall) → too_short c ≡ false → number g d (call_of c) ≡ 0 → HandsOver c (left_by g d c)
  unfolding number moves tells
  hands checks e z = tt
  hands (looks_up n) e z = (refl, refl)
  hands (opens n len checking code b) e z =
      rw e (stored_back b _ (open-fits g d n len checking code) (ltb-false (length b) handle_bytes e))
  hands (creates n f checking b) e z = rw e (stored_back b _ (create-fits g d n f checking) (ltb-false (length b) handle_bytes e), refl)
  hands (reads one_record b x) e z =
      rw e (rw (eq-eqb _ 0 z) (λ f. stored_back b _ (read_fits g d (handle_of b) (handle_of b).len x f) (ltb-false (length b) handle_bytes e), refl))
  hands (reads whole_buffer b x) e z =
      rw e (rw (eq-eqb _ 0 z) (λ f. stored_back b _ (read_fits g d (handle_of b) (length x) x f) (ltb-false (length b) handle_bytes e), refl))
  hands (reads_sector b k) e z = rw e (refl, refl, refl)
  hands (writes one_record m b x) e z =
      rw e (rw (eq-eqb _ 0 z)
      (λ f. stored_back b _ (write-fits g d (mode_of m) (handle_of b) (handle_of b).len x f) (ltb-false (length b) handle_bytes e), refl))
  hands (writes whole_buffer m b x) e z =
      rw e (rw (eq-eqb _ 0 z) (λ f. stored_back b _ (write-fits g d (mode_of m) (handle_of b) (length x) x f) (ltb-false (length b) handle_bytes e), refl))
  hands (allots b k) e z = refl
  hands (trims b) e z = refl
  hands (kills b) e z = refl
  hands (lists i b) e z = rw e (refl, refl, refl, refl)
  hands counts e z = (refl, refl)
  hands measures e z = (refl, refl)

  -- the slice of the handle is as long as it was
  pub handle-length : (c : HostCall) → too_short c ≡ false → number g d (call_of c) ≡ 0 → length (left_by g d c).handle ≡ length (lent_handle c)
  unfolding number moves
  handle-length checks e z = refl
  handle-length (looks_up n) e z = refl
  handle-length (opens n len checking code b) e z = rw e (stored-length b _)
  handle-length (creates n f checking b) e z = rw e (stored-length b _)
  handle-length (reads one_record b x) e z = rw e (rw (eq-eqb _ 0 z) (stored-length b _))
  handle-length (reads whole_buffer b x) e z = rw e (rw (eq-eqb _ 0 z) (stored-length b _))
  handle-length (reads_sector b k) e z = refl
  handle-length (writes one_record m b x) e z = rw e (rw (eq-eqb _ 0 z) (stored-length b _))
  handle-length (writes whole_buffer m b x) e z = rw e (rw (eq-eqb _ 0 z) (stored-length b _))
  handle-length (allots b k) e z = refl
  handle-length (trims b) e z = refl
  handle-length (kills b) e z = refl
  handle-length (lists i b) e z = refl
  handle-length counts e z = refl
  handle-length measures e z = refl

  -- All of it ------------------------------------------------------------------------------------------------------------------------------------

  of-call : (c : HostCall) → too_short c ≡ false → HostPromised g d c (left_by g d c)
  of-call c e =
      let p = every_call g d (call_of c) in
      let n = number_is c e in
      let u : (left_by g d c).number ≢ 0 → number g d (call_of c) ≢ 0 = λ z y. z (n ∙ y) in
      record {
        exactly = rw e (rw n p.numbers);
        refuses = λ z. record {
          image = image-is c e ∙ (p.refuses (u z)).0;
          handle = stood-handle c e (u z);
          buffer = stood-buffer c e (u z);
        };
        stays = λ o b. subst (Stays g d) (sym (image-is c e)) (p.stays o b);
        said = λ f. (says g d (call_of c), p, out-is c e);
      }

  of-short : (c : HostCall) → too_short c ≡ true → HostPromised g d c (left_by g d c)
  of-short c e =
      let n = turned-number c e in
      record {
        exactly = rw e (rw n turned-exactly);
        refuses = λ z. record { image = turned-image c e; handle = turned-handle c e; buffer = turned-buffer c e };
        stays = λ o b. subst (Stays g d) (sym (turned-image c e)) (stays_same g d o);
        said = λ f. absurd (no_truth (sym f ∙ e));
      }

-- The slot that goes with a fault's number ------------------------------------------------------------------------------------------------------

module _ (g : Geometry) (d : List ℕ) where
  -- a fault is a number with a slot or none, and names no image
  alone : {r : Refusal} → FaultIs g d r → FaultIs g d (placed r.number r.at)
  alone (length' a) = length' a
  alone (slot s k a b c e) = slot s k a b c e
  alone (granule n a b c e) = granule n a b c e
  alone (sound a b c) = sound a b c

  pub fault-placed : {r : Refusal} → r ≡ fault g d → FaultIs g d (placed r.number r.at)
  fault-placed e = alone (subst (FaultIs g d) (sym e) (every-fault g d).told)

  -- where the disk's refusals come first, and what the check found is handed on
  pub with-own : (cs : List (ℕ × Bool)) → T (every (λ n. not (has fault_numbers n)) (numbers_of cs)) → let n = first (disk_refusals g d cs) in
      In n fault_numbers → FaultIs g d (placed n (refusal g d n).at)
  with-own cs o i =
      fault-placed (hands-on g d cs o i (refusal g d (first (disk_refusals g d cs))) (λ e. carried-own (check g d) e))

  -- of a slice that is too short
  short-told : (c : HostCall) → too_short c ≡ true → get_or (left_by g d c).told 0 0 ≡ (refusal g d (turned g d)).at
  unfolding exports.too_short
  short-told checks e = absurd (no_truth e)
  short-told (looks_up n) e = absurd (no_truth e)
  short-told counts e = absurd (no_truth e)
  short-told measures e = absurd (no_truth e)
  short-told (opens n len checking code b) e = rw e refl
  short-told (creates n f checking b) e = rw e refl
  short-told (reads one_record b x) e = rw e refl
  short-told (reads whole_buffer b x) e = rw e refl
  short-told (reads_sector b k) e = rw e refl
  short-told (writes one_record m b x) e = rw e refl
  short-told (writes whole_buffer m b x) e = rw e refl
  short-told (allots b k) e = rw e refl
  short-told (trims b) e = rw e refl
  short-told (kills b) e = rw e refl
  short-told (lists i b) e = rw e refl

  at_least : (n : ℕ) → In n fault_numbers → 21 ≤ n
  at_least n i = (count-in n 21 10 i).0

  -- a call by name tells the slot beside the place
  by_name : (r : Refusal) → In r.number fault_numbers → r ≡ fault g d → FaultIs g d (placed r.number (slot_told r))
  unfolding slot_told
  by_name r i e = rw (ne_eqb r.number 3 (λ z. omega (arith, z, at_least r.number i))) (fault-placed e)

  -- free space looks at no fault
  none_of : In (number g d Call.measures) fault_numbers → ⊥
  none_of i = by (in-cons (every-number g d Call.measures).one_of)
    where
      n : ℕ
      n = number g d Call.measures

      one : (n ≡ 1) ⊎ In n [] → ⊥
      one (inl e) = omega (arith, e, at_least n i)
      one (inr j) = none_in j

      by : (n ≡ 0) ⊎ In n (1 ∷ []) → ⊥
      by (inl e) = omega (arith, e, at_least n i)
      by (inr j) = one (in-cons j)

  fault-out : (c : HostCall) → In (number g d (call_of c)) fault_numbers → let l = goes_out c (says g d (call_of c)) in
      FaultIs g d (placed l.number (get_or l.told 0 0))
  unfolding number moves tells
  fault-out checks i = fault-placed ((every-fault g d).handed Call.checks i)
  fault-out (looks_up n) i = by_name _ i ((every-fault g d).handed (Call.looks_up n) i)
  fault-out (opens n len checking code b) i = by_name _ i ((every-fault g d).handed (Call.opens n len checking code) i)
  fault-out (creates n f checking b) i = by_name _ i ((every-fault g d).handed (Call.creates n f checking) i)
  fault-out (reads a b x) i = fault-placed ((every-fault g d).handed (Call.reads a (handle_of b) x) i)
  fault-out (reads_sector b k) i = fault-placed ((every-fault g d).handed (Call.reads_sector (handle_of b) k) i)
  fault-out (writes a m b x) i = fault-placed ((every-fault g d).handed (Call.writes a (mode_of m) (handle_of b) x) i)
  fault-out (allots b k) i = fault-placed ((every-fault g d).handed (Call.allots (handle_of b) k) i)
  fault-out (trims b) i = fault-placed ((every-fault g d).handed (Call.trims (handle_of b)) i)
  fault-out (kills b) i = fault-placed ((every-fault g d).handed (Call.kills (handle_of b)) i)
  fault-out (lists j b) i = fault-placed ((every-fault g d).handed (Call.lists j) i)
  fault-out counts i = fault-placed ((every-fault g d).handed Call.counts i)
  fault-out measures i = absurd (none_of i)

  with-fault : (c : HostCall) → In (left_by g d c).number fault_numbers → FaultIs g d (placed (left_by g d c).number (get_or (left_by g d c).told 0 0))
  with-fault c i = by (too_short c) refl
    where
      by : (t : Bool) → too_short c ≡ t → FaultIs g d (placed (left_by g d c).number (get_or (left_by g d c).told 0 0))
      by false e =
          subst (λ (l : LeftToHost). FaultIs g d (placed l.number (get_or l.told 0 0))) (sym (out-is g d c e))
          (fault-out c (subst (λ (n : ℕ). In n fault_numbers) (number_is g d c e) i))
      by true e =
          let n = turned-number g d c e in
          let w = with-own ((12, true) ∷ []) tt (subst (λ (n : ℕ). In n fault_numbers) n i) in
          subst (λ (s : ℕ). FaultIs g d (placed (left_by g d c).number s)) (sym (short-told c e))
          (subst (λ (k : ℕ). FaultIs g d (placed k (refusal g d (turned g d)).at)) (sym n) w)

-- demands 1 and 2, of every call that a host makes
pub every-host-call : EveryHostCall
every-host-call g d c = record { is = refl; promised = by (too_short c) refl; fault = with-fault g d c }
  where
    by : (t : Bool) → too_short c ≡ t → HostPromised g d c (left_by g d c)
    by true e = of-short g d c e
    by false e = of-call g d c e

along : (g : Geometry) (d₀ d : List ℕ) → Stays g d₀ d → (cs : List HostCall) → AllBring cs → Along g d₀ d cs
along g d₀ d s [] b = s
along g d₀ d s (c ∷ cs) b =
    let p = every-host-call g d c in
    let d' = (left_by g d c).image in (s, p, along g d₀ d' (stays_after g d₀ d d' s (p.promised.stays s.good b.0)) cs b.1)

-- from each state that a host's calls reach
pub every-host-state : EveryHostState
every-host-state g d o cs b = along g d d (stays_same g d o) cs b

-- an accepted call was lent slices that are long enough
pub long-enough : (g : Geometry) (d : List ℕ) (c : HostCall) → (left_by g d c).number ≡ 0 → too_short c ≡ false
long-enough g d c z = by (too_short c) refl
  where
    by : (t : Bool) → too_short c ≡ t → t ≡ false
    by true e = absurd (never-accepted g d (sym (turned-number g d c e) ∙ z))
    by false e = refl

-- an accepted call hands over what the definitions answer
pub handed-over : (g : Geometry) (d : List ℕ) (c : HostCall) → (left_by g d c).number ≡ 0 → HandsOver g d c (left_by g d c)
handed-over g d c z = let e = long-enough g d c z in hands g d c e (sym (number_is g d c e) ∙ z)

-- what is written is what is read back
pub every-host-write : EveryHostWrite
unfolding number leaves
every-host-write g d a m b x x' z l same =
    let h = handle_of b in let n = how_many a h.len x in
    let w = writes a m b x in let e = long-enough g d w z in
    let d' = (left_by g d w).image in
    let back = every-write g d (mode_of m) h n x (sym (number_is g d w e) ∙ z) in
    let i : d' ≡ (write_of g d (mode_of m) h n x).1 = image-is g d w e in
    let ok : number g d' (Call.reads a h x') ≡ 0
    = ap (λ (k : ℕ). (read_of g d' h k x').0.refusal.number) same ∙ ap (λ (y : List ℕ). (read_of g y h n x').0.refusal.number) i ∙ back.accepted' x' l in
    let r = number_is g d' (reads a b x') e ∙ ok in
    record {
      accepted = r;
      bytes = (handed-over g d' (reads a b x') r).1 ∙ ap (λ (k : ℕ). (read_of g d' h k x').1) same
          ∙ ap (λ (y : List ℕ). (read_of g y h n x').1) i ∙ back.bytes' x' l;
    }

-- so it is of whatever leaves what the contract says
pub promise-by : (g : Geometry) (d : List ℕ) (c : HostCall) {l : LeftToHost} → l ≡ left_by g d c → HostPromise g d c l
promise-by g d c e = subst (HostPromise g d c) (sym e) (every-host-call g d c)
