-- What is read of two images that are alike but for what is not read: each definition of `meaning` on the way to a call's answer is the same of both.
-- What is made of an entry's flags, byte 01, blocks, marker, the second bytes of its runs and the link of a marker FEH is the same of any number, be it a
-- slot or not. The GAT and the HIT are read of a granule and of a slot only, name, size and codes of a primary entry only; where a number might be none,
-- another test comes before: a run off the disk (26) before its GAT bit (27), an extension's chain before the name of its file.
use Rattle.std.specs.Prelude.{◌≡◌, ◌≢◌, ◌⊎◌, ◌&&◌, ◌||◌}
use Rattle.std.proofs.Math.Path.{refl, ap, sym}
use Rattle.std.proofs.Common.{◌∙◌, subst, inl, inr, arith, ne_eqb, eqb→eq}
use Rattle.std.proofs.Math.Bool.{Bool, true, false, not, cond, beq}
use mathlib.Core.List.{List, [], ◌∷◌, ◌++◌}
use Prim.Native.Nat.{ℕ, zero, suc, ◌+◌, ◌-◌, ◌*◌, ◌/◌, ◌%◌, ◌≤◌, ◌<◌}
use Rattle.std.proofs.Math.Decide.{dec_lt}
use Rattle.std.proofs.Math.Dec.{T, T_not, eqb, leb, ltb}
use Rattle.std.proofs.Math.ListN.{length, get_or}
use Rattle.meaning.specs.Lists.{count, keep, each, every, some, has, same, distinct, all, any, first, first_or}
use Rattle.meaning.specs.Bits.{bit, digit}
use Rattle.meaning.specs.Layout.{byte, granule_sectors, granule_bytes, granules, sectors, fits_geometry, taken, hit, directory_sectors, is_slot, slots, field}
use Rattle.meaning.specs.Layout.{entry_at, directory_granules, sector, round_up}
use Rattle.meaning.specs.Names.{hash, well_formed}
use Rattle.meaning.specs.BringBack.{killed_entry_holds}
use Rattle.meaning.specs.Entries.{system, in_use, extension, in_use_primary, name_of, sector_count, size_of, size_from, block, pair_byte, runs, run_granules}
use Rattle.meaning.specs.Entries.{entry_granules}
use Rattle.meaning.specs.Entries.{pair_unit}
use Rattle.meaning.specs.Entries.{pair_length, pair_start, marker, link}
use Rattle.meaning.specs.Chain.{chain_from, chain, owned, files, place, granule_of}
use Rattle.meaning.specs.Consistent.{length_holds, hit_holds, name_holds, pairs_hold, follows_by, link_holds_by, runs_hold, gat_holds, size_holds}
use Rattle.meaning.specs.Consistent.{met, directory_taken, count_holds, consistent}
use Rattle.meaning.specs.Fault.{used_extension, hands_on, ends, bad_entry, walk_from, walk, walked, met_from, file_of, good_extension, hit_fault, name_fault}
use Rattle.meaning.specs.Fault.{duplicate_fault, chain_fault, run_fault, gat_fault, shared_fault, chain_whole, size_fault, directory_fault, fault_at}
use Rattle.meaning.specs.Fault.{lowest, fault}
use Rattle.meaning.specs.Refusal.{unplaced, placed, carried}
use Rattle.meaning.specs.Refusals.{by_number, fault_numbers, check}
use Rattle.meaning.specs.Free.{free_granules, kept, permitted, free_slot, free_slots, lowest_free, longest_free}
use Rattle.meaning.specs.Stretch.{stretch, longest_in, low_end}
use Rattle.meaning.specs.declared.Refusal.{Refusal}
use Rattle.meaning.specs.declared.Geometry.{Geometry}
use Rattle.lists.specs.Members
use Rattle.lists.specs.Members.{In}
use Rattle.lists.specs.First
use Rattle.lists.specs.Sizes
use Rattle.lists.specs.Tests
use Rattle.laws.specs.Change
use Rattle.laws.specs.Facts
use Rattle.laws.specs.Facts.{IsFile}
use Rattle.laws.specs.Places
use Rattle.laws.specs.Entry
use Rattle.laws.specs.Fault as LawsFault
use Rattle.laws.specs.Frame
use Rattle.laws.specs.Kinds as LawsKinds
use Rattle.laws.specs.Walk
use Rattle.promises_unread.specs.Statement.{stopped, Kinds, BytesAlike, EntryAlike, ReadAlike}

-- a test made only where an earlier one failed
pub unless : {A : Type 0} (b : Bool) (z x y : A) → (b ≡ false → x ≡ y) → cond b z x ≡ cond b z y
unless true z x y f = refl
unless false z x y f = f refl

-- or only where it held
pub only : {A : Type 0} (b : Bool) (z x y : A) → (b ≡ true → x ≡ y) → cond b x z ≡ cond b y z
only true z x y f = f refl
only false z x y f = refl

pub and-only : (a b c : Bool) → (a ≡ true → b ≡ c) → (a && b) ≡ (a && c)
and-only true b c f = f refl
and-only false b c f = refl

-- Entries ------------------------------------------------------------------------------------------------------------------------

-- every byte is the same
pub whole-alike : (u : Kinds) (f f' : ℕ → ℕ) → ((k : ℕ) → k < 32 → f k ≡ f' k) → EntryAlike u f f'
whole-alike u f f' e = record {
  used = ap (bit 4) (e 0 (omega arith));
  bytes = λ z. record {
    flags = e 0 (omega arith);
    one = e 1 (omega arith);
    low = λ k l h q. e k (omega arith);
    block = λ k h. e (0x16 + 2 * k) (omega arith);
    second = λ k h q. e (0x17 + 2 * k) (omega arith);
    marker = e 0x1e (omega arith);
    link = λ q. e 0x1f (omega arith);
  };
}

pub third : (a b x y : Bool) → (T a → T b → x ≡ y) → all (a ∷ b ∷ x ∷ []) ≡ all (a ∷ b ∷ y ∷ [])
unfolding all
third true true x y f = rw (f tt tt)
third true false x y f = refl
third false b x y f = refl

-- of three, the later two where the first holds
pub under : (a b b' c c' : Bool) → (T a → b ≡ b') → (T a → c ≡ c') → all (a ∷ b ∷ c ∷ []) ≡ all (a ∷ b' ∷ c' ∷ [])
unfolding all
under true b b' c c' f h = rw (f tt, h tt)
under false b b' c c' f h = refl

pub two : (a x y : Bool) → (T a → x ≡ y) → all (a ∷ x ∷ []) ≡ all (a ∷ y ∷ [])
unfolding all
two true x y f = rw (f tt)
two false x y f = refl

-- a test of several that fails on both
no_second : (a a' b b' : Bool) (x x' y y' : Bool) → b ≡ false → b' ≡ false → all (a ∷ b ∷ x ∷ y ∷ []) ≡ all (a' ∷ b' ∷ x' ∷ y' ∷ [])
no_second a a' b b' x x' y y' e e' = Tests.all-out (a ∷ b ∷ x ∷ y ∷ []) 1 e ∙ sym (Tests.all-out (a' ∷ b' ∷ x' ∷ y' ∷ []) 1 e')

no_third : (a a' b b' : Bool) {c c' : Bool} → c ≡ false → c' ≡ false → all (a ∷ b ∷ c ∷ []) ≡ all (a' ∷ b' ∷ c' ∷ [])
no_third a a' b b' {c} {c'} e e' = Tests.all-out (a ∷ b ∷ c ∷ []) 2 e ∙ sym (Tests.all-out (a' ∷ b' ∷ c' ∷ []) 2 e')

pub some-eq : (p q : ℕ → Bool) (xs : List ℕ) → ((x : ℕ) → In x xs → p x ≡ q x) → some p xs ≡ some q xs
some-eq p q [] f = refl
some-eq p q (x ∷ xs) f =
    let e = f x Members.In.here in let r = some-eq p q xs (λ y j. f y (Members.In.there j)) in λ i. e i || r i

-- no pair up to k begins with FFH
pub not_stopped : (f : ℕ → ℕ) (k : ℕ) → ((j : ℕ) → j < k + 1 → f (0x16 + 2 * j) ≢ 0xff) → stopped f k ≡ false
unfolding stopped
not_stopped f k h = Members.no_false (λ t.
    let x = LawsKinds.some_in (λ j. eqb (f (0x16 + 2 * j)) 0xff) (count 0 (k + 1)) t in
    h x.0 (omega (arith, Members.count-in x.0 0 (k + 1) x.1)) (eqb→eq _ _ x.2))

-- it hangs on the blocks up to there alone
pub stopped-eq : (f f' : ℕ → ℕ) (k : ℕ) → ((j : ℕ) → j < k + 1 → f (0x16 + 2 * j) ≡ f' (0x16 + 2 * j)) → stopped f k ≡ stopped f' k
unfolding stopped
stopped-eq f f' k h = some-eq _ _ (count 0 (k + 1)) (λ j i. ap (λ (x : ℕ). eqb x 0xff) (h j (omega (arith, Members.count-in j 0 (k + 1) i))))

-- the place of the entry of any number, as that of a slot's: row and sector from 0 to 7 and 0 to 31
at_slot : (start r q : ℕ) → r + q / 8 < 32
    → 256 * (start + 2 + (32 * (q % 8) + (r + q / 8)) % 32) + 32 * ((32 * (q % 8) + (r + q / 8)) / 32) ≡ 256 * (start + 2 + r) + 32 * q
at_slot start r q h = omega arith

-- two slots with one place are one
pub one-slot : (start x y : ℕ) → x < 256 → y < 256 → 256 * (start + 2 + x % 32) + 32 * (x / 32) ≡ 256 * (start + 2 + y % 32) + 32 * (y / 32) → x ≡ y
one-slot start x y h l e =
    let q = Sizes.same_width {w = 8} (x % 32) (y % 32) (x / 32) (y / 32) (omega arith) (omega arith) (omega arith) in omega (arith, q)

module _ (u : Kinds) (g : Geometry) (d d' : List ℕ) (a : ReadAlike u g d d') where
  -- an entry's place is that of some slot's, or it has no byte of a slot's entry
  pub any_entry : (s : ℕ) → EntryAlike u (field g d s) (field g d' s)
  unfolding field
  any_entry s = go (dec_lt t' 32) (Members.decide (is_slot g d t))
    where
      t' : ℕ
      t' = s % 32 + s / 32 / 8

      t : ℕ
      t = 32 * (s / 32 % 8) + t'

      slot_lt : (x : ℕ) → T (is_slot g d x) → x < 256
      slot_lt = Facts.slot_lt g d

      here : t' < 32 → entry_at g t ≡ entry_at g s
      here h = at_slot g.start (s % 32) (s / 32) h

      out : ((x : ℕ) → T (is_slot g d x) → entry_at g x ≢ entry_at g s) → EntryAlike u (λ k. byte d (entry_at g s + k)) (λ k. byte d' (entry_at g s + k))
      out f = whole-alike u _ _ (λ k h. a.rest (entry_at g s + k) (inr (omega arith, λ x v. side k h x (slot_lt x v) (f x v))))
        where
          side : (k : ℕ) → k < 32 → (x : ℕ) → x < 256 → entry_at g x ≢ entry_at g s → (entry_at g s + k < entry_at g x) ⊎ (entry_at g x + 32 ≤ entry_at g s + k)
          side k h x l n = by (dec_lt (entry_at g s + k) (entry_at g x))
            where
              by : Dec (entry_at g s + k < entry_at g x) → (entry_at g s + k < entry_at g x) ⊎ (entry_at g x + 32 ≤ entry_at g s + k)
              by (yes q) = inl q
              by (no q) = inr (omega arith)

      go : Dec (t' < 32) → Members.Test (is_slot g d t) → EntryAlike u (λ k. byte d (entry_at g s + k)) (λ k. byte d' (entry_at g s + k))
      go (yes h) (Members.Test.holds v) = subst (λ (e : ℕ). EntryAlike u (λ k. byte d (e + k)) (λ k. byte d' (e + k))) (here h) (a.entries t v)
      go (yes h) (Members.Test.fails v) =
          out (λ x w q. v (subst (λ (y : ℕ). T (is_slot g d y)) (one-slot g.start x t (slot_lt x w) (omega arith) (q ∙ sym (here h))) w))
      go (no h) v = out (λ x w q. let l = slot_lt x w in omega arith)

  -- Readers ------------------------------------------------------------------------------------------------------------------

  pub useds : in_use g d ≡ in_use g d'
  useds = λ i s. (any_entry s).used i

  -- an entry that is read: in use, or any where dead ones are the same too
  abbrev pub Live : ℕ → Type 0
  Live s = (u.dead && not (in_use g d s)) ≡ false

  and_no : (b c : Bool) → c ≡ false → (b && c) ≡ false
  and_no true c e = e
  and_no false c e = refl

  pub live : (s : ℕ) → T (in_use g d s) → Live s
  live s t = and_no u.dead (not (in_use g d s)) (ap not (Members.T_true {b = in_use g d s} t))

  pub live-any : u.dead ≡ false → (s : ℕ) → Live s
  live-any e s = ap (λ (b : Bool). b && not (in_use g d s)) e

  pub bytes-at : (s : ℕ) → Live s → BytesAlike u (field g d s) (field g d' s)
  bytes-at s v = (any_entry s).bytes v

  pub block_at : (s k : ℕ) → Live s → k < 4 → block g d s k ≡ block g d' s k
  block_at s k v h = (bytes-at s v).block k h

  -- of a marker FEH
  pub link_at : (s : ℕ) → Live s → eqb (marker g d s) 0xfe ≡ true → link g d s ≡ link g d' s
  link_at s v e = (bytes-at s v).link (and_no u.behind (not (eqb (marker g d s) 0xfe)) (ap not e))

  -- bytes 02 to 15 of a primary entry
  pub low-at : (s k : ℕ) → Live s → extension g d s ≡ false → 2 ≤ k → k < 0x16 → field g d s k ≡ field g d' s k
  low-at s k v e l h = (bytes-at s v).low k l h (and_no u.extensions (extension g d s) e)

  -- its bytes 00 to 15
  pub first-at : (s k : ℕ) → Live s → extension g d s ≡ false → k < 0x16 → field g d s k ≡ field g d' s k
  first-at s zero v e h = (bytes-at s v).flags
  first-at s (suc zero) v e h = (bytes-at s v).one
  first-at s (suc (suc k)) v e h = low-at s (suc (suc k)) v e (omega arith) h

  primary-at : (s : ℕ) → in_use_primary g d s ≡ in_use_primary g d' s
  primary-at s =
      and-only (in_use g d s) _ _ (λ e. ap (λ (x : ℕ). not (bit 7 x)) (bytes-at s (live s (Members.true-T e))).flags)
      ∙ (λ i. useds i s && not (extension g d' s))

  pub primaries : in_use_primary g d ≡ in_use_primary g d'
  primaries = λ i s. primary-at s i

  pub is-first : (p : ℕ) → IsFile g d p → extension g d p ≡ false
  is-first p f = Members.no_false (T_not (extension g d p) (Facts.file-first g d p f))

  pub file-live : (p : ℕ) → IsFile g d p → Live p
  file-live p f = live p (Facts.file-in-use g d p f)

  pub not-extension : (p : ℕ) → T (in_use_primary g d p) → extension g d p ≡ false
  not-extension p t = Members.no_false (T_not (extension g d p) (Members.and_r (in_use g d p) (not (extension g d p)) t))

  pub primary-live : (p : ℕ) → T (in_use_primary g d p) → Live p
  primary-live p t = live p (Members.and_l (in_use g d p) (not (extension g d p)) t)

  pub is_slot-same : is_slot g d ≡ is_slot g d'
  unfolding is_slot directory_sectors
  is_slot-same = λ i s. all (ltb s 256 ∷ ltb (sector s + 2) (10 + a.above i) ∷ [])

  pub slots_same : slots g d ≡ slots g d'
  unfolding slots
  slots_same = λ i. keep (is_slot-same i) (count 0 256)

  pub directory_sectors-same : directory_sectors g d ≡ directory_sectors g d'
  unfolding directory_sectors
  directory_sectors-same = λ i. 10 + a.above i

  pub directory_granules-same : directory_granules g d ≡ directory_granules g d'
  directory_granules-same = λ i. count (g.start / granule_sectors g) (round_up (directory_sectors-same i) (granule_sectors g))

  -- Entries ------------------------------------------------------------------------------------------------------------------

  pub runs-at : (s : ℕ) → Live s → runs g d s ≡ runs g d' s
  runs-at s v = sym (Frame.runs-blocks g d d' s (λ k h. sym (block_at s k v h)))

  -- the bytes of a run's pair
  pub run_at : (s k : ℕ) → Live s → k < runs g d s → pair_byte g d s k ≡ pair_byte g d' s k
  run_at s k v h =
      (bytes-at s v).second k (omega (arith, Entry.runs-le g d s)) (and_no u.behind (stopped (field g d s) k) (not_stopped (field g d s) k (λ j l.
      Entry.runs-has g d s j (omega arith))))

  pub run-block : (s k : ℕ) → Live s → k < runs g d s → block g d s k ≡ block g d' s k
  run-block s k v h = block_at s k v (omega (arith, Entry.runs-le g d s))

  pub granules-at : (s : ℕ) → Live s → entry_granules g d s ≡ entry_granules g d' s
  unfolding entry_granules
  granules-at s v =
      Members.each-eq (run_granules g d s) (run_granules g d' s) (count 0 (runs g d s)) (λ k j.
      let h = Members.count-in k 0 (runs g d s) j in
      let p = run_at s k v (omega arith) in let q = run-block s k v (omega arith) in
      λ i. count (pair_start g.units (q i) (p i)) (pair_length (p i)))
      ∙ ap (λ (n : ℕ). each (run_granules g d' s) (count 0 n)) (runs-at s v)

  pub name-at : (s : ℕ) → Live s → extension g d s ≡ false → name_of g d s ≡ name_of g d' s
  name-at s v e = sym (Frame.name_of-bytes g d d' s (λ k l h. sym (low-at s k v e (omega arith) (omega arith))))

  pub count_at : (s : ℕ) → Live s → extension g d s ≡ false → sector_count g d s ≡ sector_count g d' s
  count_at s v e =
      let p = low-at s 0x14 v e (omega arith) (omega arith) in let q = low-at s 0x15 v e (omega arith) (omega arith) in λ i. p i + 256 * q i

  pub size-at : (s : ℕ) → Live s → extension g d s ≡ false → size_of g d s ≡ size_of g d' s
  unfolding size_of
  size-at s v e = let p = count_at s v e in let q = low-at s 3 v e (omega arith) (omega arith) in λ i. size_from (p i) (q i)

  -- of a file
  pub file-name : (p : ℕ) → IsFile g d p → name_of g d p ≡ name_of g d' p
  file-name p f = name-at p (file-live p f) (is-first p f)

  pub file-size : (p : ℕ) → IsFile g d p → size_of g d p ≡ size_of g d' p
  file-size p f = size-at p (file-live p f) (is-first p f)

  -- Chains -------------------------------------------------------------------------------------------------------------------

  -- the link is followed where the marker is FEH
  chain_from-at : (n s : ℕ) → ((x : ℕ) → In x (chain_from g d n s) → Live x) → chain_from g d n s ≡ chain_from g d' n s
  unfolding chain_from
  chain_from-at zero s f = refl
  chain_from-at (suc n) s f =
      let v = f s Members.In.here in
      ap (λ (l : List ℕ). s ∷ l) (only (eqb (marker g d s) 0xfe) [] _ _ (λ e.
      chain_from-at n (link g d s) (λ x i. f x (Members.In.there (subst (λ (b : Bool). In x (cond b (chain_from g d n (link g d s)) [])) (sym e) i)))
      ∙ ap (chain_from g d' n) (link_at s v e)))
      ∙ ap (λ (m : ℕ). s ∷ cond (eqb m 0xfe) (chain_from g d' n (link g d' s)) []) (bytes-at s v).marker

  -- every entry of the chain is read
  abbrev pub LiveChain : ℕ → Type 0
  LiveChain p = (x : ℕ) → In x (chain g d p) → Live x

  pub chain-at : (p : ℕ) → LiveChain p → chain g d p ≡ chain g d' p
  unfolding chain
  chain-at p f = chain_from-at (length (slots g d)) p f ∙ (λ i. chain_from g d' (length (slots_same i)) p)

  pub owned_at : (p : ℕ) → LiveChain p → owned g d p ≡ owned g d' p
  unfolding owned
  owned_at p f =
      Members.each-eq (entry_granules g d) (entry_granules g d') (chain g d p) (λ x i. granules-at x (f x i))
      ∙ ap (each (entry_granules g d')) (chain-at p f)

  pub sound-chain : Facts.Sound g d → (p : ℕ) → IsFile g d p → LiveChain p
  sound-chain c p f x i = live x (Change.members g d c p x f i).used

  pub files-same : files g d ≡ files g d'
  unfolding files
  files-same = λ i. keep (primaries i) (slots_same i)

  pub place_at : (p : ℕ) → LiveChain p → place g d p ≡ place g d' p
  unfolding place
  place_at p f = let e = owned_at p f in λ i k. granule_bytes g * get_or (e i) (granule_of g k) 0 + k % granule_bytes g

  -- Tests --------------------------------------------------------------------------------------------------------------------

  pub length_holds-same : length_holds g d ≡ length_holds g d'
  unfolding length_holds
  length_holds-same =
      λ i. all (has (0 ∷ 5 ∷ 10 ∷ 15 ∷ 20 ∷ []) (a.above i) ∷ leb (g.start + directory_sectors-same i) (sectors g) ∷ [])

  -- of a primary entry
  pub name_holds-at : (p : ℕ) → Live p → extension g d p ≡ false → name_holds g d p ≡ name_holds g d' p
  unfolding name_holds
  name_holds-at p v e = let n = name-at p v e in let f = (bytes-at p v).flags in λ i. well_formed (n i) && not (bit 5 (f i))

  pub pairs-at : (s : ℕ) → Live s → pairs_hold g d s ≡ pairs_hold g d' s
  unfolding pairs_hold
  pairs-at s v =
      Members.every-eq (λ k. ltb k (runs g d s) || eqb (block g d s k) 0xff) (λ k. ltb k (runs g d s) || eqb (block g d' s k) 0xff) (count 0 4)
      (λ k j. ap (λ (x : ℕ). ltb k (runs g d s) || eqb x 0xff) (block_at s k v (omega (arith, Members.count-in k 0 4 j))))
      ∙ ap (λ (n : ℕ). every (λ k. ltb k n || eqb (block g d' s k) 0xff) (count 0 4)) (runs-at s v)

  -- with flags of an entry in use it is asked of one in use
  pub follows-at : (flags : ℕ) → (bit 4 flags ≡ true) ⊎ (u.dead ≡ false) → (s x : ℕ) → follows_by g d flags s x ≡ follows_by g d' flags s x
  unfolding follows_by
  follows-at flags o s x = go (Members.decide (in_use g d x)) o
    where
      read : Live x → all (is_slot g d x ∷ eqb (field g d x 0) flags ∷ eqb (field g d x 1) s ∷ leb 1 (runs g d x) ∷ [])
          ≡ all (is_slot g d' x ∷ eqb (field g d' x 0) flags ∷ eqb (field g d' x 1) s ∷ leb 1 (runs g d' x) ∷ [])
      read v =
          let e = bytes-at x v in let r = runs-at x v in
          λ i. all (is_slot-same i x ∷ eqb (e.flags i) flags ∷ eqb (e.one i) s ∷ leb 1 (r i) ∷ [])

      other : (f : ℕ) → bit 4 f ≡ false → bit 4 flags ≡ true → eqb f flags ≡ false
      other f z y = ne_eqb f flags (λ q. Tests.not-both y (ap (bit 4) (sym q) ∙ z))

      go : Members.Test (in_use g d x) → (bit 4 flags ≡ true) ⊎ (u.dead ≡ false)
          → all (is_slot g d x ∷ eqb (field g d x 0) flags ∷ eqb (field g d x 1) s ∷ leb 1 (runs g d x) ∷ [])
          ≡ all (is_slot g d' x ∷ eqb (field g d' x 0) flags ∷ eqb (field g d' x 1) s ∷ leb 1 (runs g d' x) ∷ [])
      go (Members.Test.holds t) q = read (live x t)
      go (Members.Test.fails t) (inr e) = read (live-any e x)
      go (Members.Test.fails t) (inl y) =
          let z : in_use g d x ≡ false = Members.no_false t in
          no_second (is_slot g d x) (is_slot g d' x) _ _ _ _ _ _ (other (field g d x 0) z y) (other (field g d' x 0) (sym (λ i. useds i x) ∙ z) y)

  link-holds : (flags s : ℕ) → (bit 4 flags ≡ true) ⊎ (u.dead ≡ false) → Live s → link_holds_by g d flags s ≡ link_holds_by g d' flags s
  unfolding link_holds_by all
  link-holds flags s o v =
      let m = (bytes-at s v).marker in let r = runs-at s v in
      ap (λ (b : Bool). any (eqb (marker g d s) 0xff ∷ b ∷ []))
      (and-only (eqb (marker g d s) 0xfe) _ _ (λ e. ap (λ (x : ℕ). follows_by g d flags s x && (eqb (runs g d s) 4 && true)) (link_at s v e)))
      ∙ (λ i. any (eqb (m i) 0xff ∷ all (eqb (m i) 0xfe ∷ follows-at flags o s (link g d' s) i ∷ eqb (r i) 4 ∷ []) ∷ []))

  pub runs-hold : (s : ℕ) → Live s → runs_hold g d s ≡ runs_hold g d' s
  unfolding runs_hold
  runs-hold s v =
      Members.every-eq (held (block g d s) (pair_byte g d s)) (held (block g d' s) (pair_byte g d' s)) (count 0 (runs g d s)) (λ k j.
      let h = Members.count-in k 0 (runs g d s) j in
      let p = run_at s k v (omega arith) in let q = run-block s k v (omega arith) in
      λ i. held (λ n. q i) (λ n. p i) k)
      ∙ ap (λ (n : ℕ). every (held (block g d' s) (pair_byte g d' s)) (count 0 n)) (runs-at s v)
    where
      held : (ℕ → ℕ) → (ℕ → ℕ) → ℕ → Bool
      held blocks pairs k =
          all (ltb (pair_unit (pairs k)) g.units ∷ leb (pair_start g.units (blocks k) (pairs k) + pair_length (pairs k)) (granules g) ∷ [])

  -- an entry of a killed file, where dead entries are the same
  pub killed-at : u.dead ≡ false → killed_entry_holds g d ≡ killed_entry_holds g d'
  killed-at e = λ i x. all (pairs-at x (live-any e x) i ∷ link-holds 0x80 x (inr e) (live-any e x) i ∷ runs-hold x (live-any e x) i ∷ [])

  pub size_holds-at : (p : ℕ) → LiveChain p → Live p → extension g d p ≡ false → size_holds g d p ≡ size_holds g d' p
  unfolding size_holds
  size_holds-at p f v e =
      let n = count_at p v e in let l = low-at p 3 v e (omega arith) (omega arith) in let z = size-at p v e in let o = owned_at p f in
      λ i. all (count_holds (n i) (l i) ∷ leb (z i) (granule_bytes g * length (o i)) ∷ [])

  -- of a slot
  pub hit_holds-same : (s : ℕ) → T (is_slot g d s) → hit_holds g d s ≡ hit_holds g d' s
  unfolding hit_holds
  hit_holds-same s t = λ i. beq (not (eqb (a.hits s t i) 0)) (useds i s)

  -- where the entry's runs lie on the disk
  pub gat_holds-at : (s : ℕ) → Live s → T (runs_hold g d s) → gat_holds g d s ≡ gat_holds g d' s
  unfolding gat_holds
  gat_holds-at s v t =
      Members.every-eq (taken g d) (taken g d') (entry_granules g d s)
      (λ n i. a.gat n (Places.runs-granule-lt g d s n (Entry.runs-say g d s t) i))
      ∙ ap (every (taken g d')) (granules-at s v)

  -- where the directory fits the image
  pub directory_taken-same : T (length_holds g d) → directory_taken g d ≡ directory_taken g d'
  directory_taken-same t =
      Members.every-eq (taken g d) (taken g d') (directory_granules g d) (λ n i. a.gat n (Places.directory-lt g d n (Places.dir g d t) i))
      ∙ (λ i. every (taken g d') (directory_granules-same i))

  -- Faults -------------------------------------------------------------------------------------------------------------------

  used-at : (x : ℕ) → used_extension g d x ≡ used_extension g d' x
  unfolding used_extension
  used-at x =
      third (is_slot g d x) (in_use g d x) _ _ (λ t v. ap (bit 7) (bytes-at x (live x v)).flags)
      ∙ (λ i. all (is_slot-same i x ∷ useds i x ∷ extension g d' x ∷ []))

  hands-on : (s : ℕ) → Live s → hands_on g d s ≡ hands_on g d' s
  unfolding hands_on all
  hands-on s v =
      let p = pairs-at s v in let m = (bytes-at s v).marker in let r = runs-at s v in
      ap (λ (b : Bool). pairs_hold g d s && b)
      (and-only (eqb (marker g d s) 0xfe) _ _ (λ e. ap (λ (x : ℕ). used_extension g d x && (eqb (runs g d s) 4 && true)) (link_at s v e)))
      ∙ (λ i. all (p i ∷ eqb (m i) 0xfe ∷ used-at (link g d' s) i ∷ eqb (r i) 4 ∷ []))

  -- who hands on has marker FEH
  hands-link : (s : ℕ) → Live s → hands_on g d s ≡ true → link g d s ≡ link g d' s
  hands-link s v e = link_at s v (Members.T_true (Members.eq-T (Walk.hands-says g d s (Members.true-T e)).marked))

  -- a walk starts at an entry in use, and goes on to such
  walk_from-at : (n : ℕ) (before : List ℕ) (s : ℕ) → T (in_use g d s) → walk_from g d n before s ≡ walk_from g d' n before s
  unfolding walk_from
  walk_from-at zero before s t = refl
  walk_from-at (suc n) before s t =
      ap (λ (l : List ℕ). cond (has before s) [] (s ∷ l))
      (only (hands_on g d s) [] _ _ (λ e.
      walk_from-at n (s ∷ before) (link g d s) (Walk.hands-says g d s (Members.true-T e)).next.used
      ∙ ap (walk_from g d' n (s ∷ before)) (hands-link s (live s t) e)))
      ∙ ap (λ (b : Bool). cond (has before s) [] (s ∷ cond b (walk_from g d' n (s ∷ before) (link g d' s)) [])) (hands-on s (live s t))

  walk_at : (p : ℕ) → T (in_use g d p) → walk g d p ≡ walk g d' p
  unfolding walk
  walk_at p t = walk_from-at (length (slots g d)) [] p t ∙ (λ i. walk_from g d' (length (slots_same i)) [] p)

  file-walk : (p : ℕ) → In p (files g d) → walk g d p ≡ walk g d' p
  file-walk p i = walk_at p (Facts.file-in-use g d p (Facts.files-in g d p i))

  walked_same : walked g d ≡ walked g d'
  unfolding walked
  walked_same = Members.each-eq (walk g d) (walk g d') (files g d) file-walk ∙ ap (each (walk g d')) files-same

  -- what no walk meets counts for nothing; what one meets is in use
  met-from : (x : ℕ) → met_from g d x ≡ met_from g d' x
  unfolding met_from
  met-from x =
      Members.keep-eq _ _ (slots g d) (λ b j. go b (Members.decide (in_use g d b)))
      ∙ (λ i. keep (λ b. all (eqb (link g d' b) x ∷ hands_on g d' b ∷ has (walked g d') b ∷ [])) (slots_same i))
    where
      asked : (l l' h w : Bool) → (h ≡ true → l ≡ l') → all (l ∷ h ∷ w ∷ []) ≡ all (l' ∷ h ∷ w ∷ [])
      asked l l' true w f = ap (λ (z : Bool). all (z ∷ true ∷ w ∷ [])) (f refl)
      asked l l' false w f = Tests.all-out (l ∷ false ∷ w ∷ []) 1 refl ∙ sym (Tests.all-out (l' ∷ false ∷ w ∷ []) 1 refl)

      go : (b : ℕ) → Members.Test (in_use g d b)
          → all (eqb (link g d b) x ∷ hands_on g d b ∷ has (walked g d) b ∷ []) ≡ all (eqb (link g d' b) x ∷ hands_on g d' b ∷ has (walked g d') b ∷ [])
      go b (Members.Test.holds t) =
          let h = hands-on b (live b t) in
          asked (eqb (link g d b) x) (eqb (link g d' b) x) (hands_on g d b) (has (walked g d) b)
          (λ e. ap (λ (l : ℕ). eqb l x) (hands-link b (live b t) e))
          ∙ (λ i. all (eqb (link g d' b) x ∷ h i ∷ has (walked_same i) b ∷ []))
      go b (Members.Test.fails t) =
          let none : has (walked g d) b ≡ false = Members.no_false (λ w.
          let p = Walk.walked-in g d b (Members.has_in b (walked g d) w) in t (Walk.walk-used g d p.0 b p.1 p.2).used) in
          no_third (eqb (link g d b) x) (eqb (link g d' b) x) (hands_on g d b) (hands_on g d' b) none (ap (λ (w : List ℕ). has w b) (sym walked_same) ∙ none)

  met_from-same : met_from g d ≡ met_from g d'
  met_from-same = λ i x. met-from x i

  file-of-same : (s : ℕ) → file_of g d s ≡ file_of g d' s
  unfolding file_of
  file-of-same s =
      ap (first_or s) (Members.keep-eq (λ p. has (walk g d p) s) (λ p. has (walk g d' p) s) (files g d) (λ p j. ap (λ (w : List ℕ). has w s) (file-walk p j)))
      ∙ (λ i. first_or s (keep (λ p. has (walk g d' p) s) (files-same i)))

  file_of-same : file_of g d ≡ file_of g d'
  file_of-same = λ i s. file-of-same s i

  -- the file of an entry in use is in use, be it the entry itself
  file-used : (s : ℕ) → T (in_use g d s) → T (in_use g d (file_of g d s))
  unfolding file_of first_or
  file-used s t =
      go (keep (λ p. has (walk g d p) s) (files g d))
      (λ p i. Facts.file-in-use g d p (Facts.files-in g d p (Members.keep-in (λ p. has (walk g d p) s) p (files g d) i).0))
    where
      go : (ps : List ℕ) → ((p : ℕ) → In p ps → T (in_use g d p)) → T (in_use g d (first_or s ps))
      go [] f = t
      go (p ∷ ps) f = f p Members.In.here

  used-follows : bit 4 0x90 ≡ true
  unfolding digit
  used-follows = refl

  good_extension-same : good_extension g d ≡ good_extension g d'
  unfolding good_extension
  good_extension-same =
      λ i x. all (eqb (length (met_from-same i x)) 1 ∷ every (λ b. follows-at 0x90 (inl used-follows) b x i) (met_from-same i x) ∷ [])

  -- the file of a primary entry in use, and of an extension that is met, is a file
  file-of : (s : ℕ) → T (is_slot g d s) → T (in_use g d s) → T (any (not (extension g d s) ∷ good_extension g d s ∷ [])) → IsFile g d (file_of g d s)
  file-of s t v w = go (Members.any-e (not (extension g d s)) (good_extension g d s) w)
    where
      go : T (not (extension g d s)) ⊎ T (good_extension g d s) → IsFile g d (file_of g d s)
      go (inl e) =
          let f : IsFile g d s = record { slot = t; primary' = Members.and_i (in_use g d s) (not (extension g d s)) v e } in
          (LawsKinds.file_of-is g d s s f (Walk.walk_first g d s f)).0
      go (inr e) =
          let m = (LawsKinds.good-says g d s e).met in
          let l = LawsKinds.met-says g d m.0 s m.1 in
          let p = Walk.walked-in g d m.0 l.by in
          (LawsKinds.file_of-is g d s p.0 p.1
          (subst (λ (x : ℕ). In x (walk g d p.0)) l.to (Walk.walk-goes g d p.0 m.0 p.1 p.2 l.on))).0

  hit_fault-same : (s : ℕ) → T (is_slot g d s) → hit_fault g d s ≡ hit_fault g d' s
  unfolding hit_fault
  hit_fault-same s t =
      ap (λ (b : Bool). any (not (hit_holds g d s) ∷ b ∷ []))
      (third (in_use g d s) (any (not (extension g d s) ∷ good_extension g d s ∷ [])) _ _ (λ v w.
      ap (λ (n : List ℕ). not (eqb (hit g d s) (hash n))) (file-name (file_of g d s) (file-of s t v w)))
      ∙ under (in_use g d s) _ _ _ _ (λ v. let f = (bytes-at s (live s v)).flags in λ i. any (not (bit 7 (f i)) ∷ good_extension-same i s ∷ [])) (λ v. refl))
      ∙ (λ i. any (not (hit_holds-same s t i)
      ∷ all (useds i s ∷ any (not (extension g d' s) ∷ good_extension g d' s ∷ [])
      ∷ not (eqb (a.hits s t i) (hash (name_of g d' (file_of-same i s)))) ∷ []) ∷ []))

  name_fault-same : (p : ℕ) → name_fault g d p ≡ name_fault g d' p
  unfolding name_fault
  name_fault-same p =
      two (in_use_primary g d p) _ _ (λ t. ap not (name_holds-at p (primary-live p t) (not-extension p t)))
      ∙ (λ i. all (primaries i p ∷ not (name_holds g d' p) ∷ []))

  duplicate_fault-same : (p : ℕ) → duplicate_fault g d p ≡ duplicate_fault g d' p
  unfolding duplicate_fault
  duplicate_fault-same p =
      two (in_use_primary g d p) _ _ (λ t.
      some-eq _ _ (files g d) (λ q j.
      let m = file-name q (Facts.files-in g d q j) in let n = name-at p (primary-live p t) (not-extension p t) in λ i. ltb q p && same (m i) (n i)))
      ∙ (λ i. all (primaries i p ∷ some (λ q. ltb q p && same (name_of g d' q) (name_of g d' p)) (files-same i) ∷ []))

  chain-fault : (s : ℕ) → chain_fault g d s ≡ chain_fault g d' s
  unfolding chain_fault bad_entry ends
  chain-fault s =
      two (in_use g d s) _ _ (λ t.
      let v = live s t in let h = hands-on s v in let p = pairs-at s v in let m = (bytes-at s v).marker in let f = (bytes-at s v).flags in
      λ i. any (not (any (h i ∷ all (p i ∷ eqb (m i) 0xff ∷ []) ∷ [])) ∷ all (bit 7 (f i) ∷ not (good_extension-same i s) ∷ []) ∷ []))
      ∙ (λ i. all (useds i s
      ∷ any (not (any (hands_on g d' s ∷ all (pairs_hold g d' s ∷ eqb (marker g d' s) 0xff ∷ []) ∷ []))
      ∷ all (extension g d' s ∷ not (good_extension g d' s) ∷ []) ∷ []) ∷ []))

  chain_fault-same : chain_fault g d ≡ chain_fault g d'
  chain_fault-same = λ i s. chain-fault s i

  run_fault-same : (s : ℕ) → run_fault g d s ≡ run_fault g d' s
  unfolding run_fault
  run_fault-same s = two (in_use g d s) _ _ (λ t. ap not (runs-hold s (live s t))) ∙ (λ i. all (useds i s ∷ not (runs_hold g d' s) ∷ []))

  -- no run is off the disk, or the entry is not in use
  gat_fault-same : (s : ℕ) → run_fault g d s ≡ false → gat_fault g d s ≡ gat_fault g d' s
  unfolding gat_fault run_fault
  gat_fault-same s e =
      two (in_use g d s) _ _ (λ t. ap not (gat_holds-at s (live s t) (on t))) ∙ (λ i. all (useds i s ∷ not (gat_holds g d' s) ∷ []))
    where
      on : T (in_use g d s) → T (runs_hold g d s)
      on t = First.yes-T (runs_hold g d s) (λ n. Members.false-no e (Members.all_two (in_use g d s) (not (runs_hold g d s)) t n))

  shared_fault-same : (s : ℕ) → shared_fault g d s ≡ shared_fault g d' s
  unfolding shared_fault
  shared_fault-same s =
      two (in_use g d s) _ _ (λ t. let e = granules-at s (live s t) in
      ap (λ (b : Bool). any (not (distinct (entry_granules g d s)) ∷ b ∷ []))
      (some-eq _ _ (slots g d) (λ r j. third (ltb r s) (in_use g d r) _ _ (λ w v. let q = granules-at r (live r v) in λ i. some (has (q i)) (e i))))
      ∙ (λ i. any (not (distinct (e i))
      ∷ some (λ r. all (ltb r s ∷ useds i r ∷ some (has (entry_granules g d' r)) (entry_granules g d' s) ∷ [])) (slots_same i) ∷ [])))
      ∙ (λ i. all (useds i s
      ∷ any (not (distinct (entry_granules g d' s))
      ∷ some (λ r. all (ltb r s ∷ in_use g d' r ∷ some (has (entry_granules g d' r)) (entry_granules g d' s) ∷ [])) (slots g d') ∷ []) ∷ []))

  whole-chain-at : (p : ℕ) → T (in_use g d p) → chain_whole g d p ≡ chain_whole g d' p
  unfolding chain_whole
  whole-chain-at p t = let w = walk_at p t in λ i. every (λ s. not (chain_fault-same i s)) (w i)

  -- where the chain of a file is whole, its entries are those that its walk meets, all of them in use
  walked-chain : (p : ℕ) → IsFile g d p → T (chain_whole g d p) → (n s : ℕ) → In s (walk g d p) → (x : ℕ) → In x (chain_from g d n s) → In x (walk g d p)
  unfolding chain_from chain_whole
  walked-chain p f w zero s i x j = Members.none_in j
  walked-chain p f w (suc n) s i x j = go (Members.in-cons j) (λ y k. walked-chain p f w n (link g d s) y x k)
    where
      firm : LawsKinds.Firm g d s
      firm = LawsKinds.firm g d s (Walk.walk-used g d p s f i).used (λ z. T_not (chain_fault g d s) (Members.every-all (λ s. not (chain_fault g d s)) w i) z)

      onward : T (hands_on g d s) ⊎ T (ends g d s) → eqb (marker g d s) 0xfe ≡ true → T (hands_on g d s)
      onward (inl h) e = h
      onward (inr h) e =
          let z : marker g d s ≡ 0xfe = eqb→eq _ _ (Members.true-T {b = eqb (marker g d s) 0xfe} e) in
          absurd (omega (arith, z, (LawsKinds.ends-says g d s h).1))

      into : (b : Bool) → eqb (marker g d s) 0xfe ≡ b → In x (cond b (chain_from g d n (link g d s)) [])
          → (In (link g d s) (walk g d p) → In x (chain_from g d n (link g d s)) → In x (walk g d p)) → In x (walk g d p)
      into true e k r = r (Walk.walk-goes g d p s f i (onward firm.upright e)) k
      into false e k r = Members.none_in k

      go : (x ≡ s) ⊎ In x (cond (eqb (marker g d s) 0xfe) (chain_from g d n (link g d s)) [])
          → (In (link g d s) (walk g d p) → In x (chain_from g d n (link g d s)) → In x (walk g d p)) → In x (walk g d p)
      go (inl e) r = subst (λ (y : ℕ). In y (walk g d p)) (sym e) i
      go (inr k) r = into (eqb (marker g d s) 0xfe) refl k r

  whole-live : (p : ℕ) → IsFile g d p → T (chain_whole g d p) → LiveChain p
  unfolding chain
  whole-live p f w x i = live x (Walk.walk-used g d p x f (walked-chain p f w (length (slots g d)) p (Walk.walk_first g d p f) x i)).used

  -- asked of a primary entry in use whose chain is whole
  size_fault-same : (p : ℕ) → T (is_slot g d p) → size_fault g d p ≡ size_fault g d' p
  unfolding size_fault
  size_fault-same p s =
      third (in_use_primary g d p) (chain_whole g d p) _ _ (λ t v.
      ap not (size_holds-at p (whole-live p (record { slot = s; primary' = t }) v) (primary-live p t) (not-extension p t)))
      ∙ under (in_use_primary g d p) _ _ _ _ (λ t. whole-chain-at p (Members.and_l (in_use g d p) (not (extension g d p)) t)) (λ t. refl)
      ∙ (λ i. all (primaries i p ∷ chain_whole g d' p ∷ not (size_holds g d' p) ∷ []))

  directory_fault-same : (s : ℕ) → directory_fault g d s ≡ directory_fault g d' s
  unfolding directory_fault
  directory_fault-same s =
      under (in_use g d s) _ _ _ _
      (λ t. ap (λ (x : ℕ). not (bit 6 x)) (bytes-at (file_of g d s) (live (file_of g d s) (file-used s t))).flags ∙ (λ i. not (system g d' (file_of-same i s))))
      (λ t. let e = granules-at s (live s t) in λ i. some (has (directory_granules-same i)) (e i))
      ∙ (λ i. all (useds i s ∷ not (system g d' (file_of g d' s)) ∷ some (has (directory_granules g d')) (entry_granules g d' s) ∷ []))

  -- 26 before 27: the GAT is asked where the runs lie on the disk
  fault_at-same : (s : ℕ) → T (is_slot g d s) → fault_at g d s ≡ fault_at g d' s
  unfolding fault_at first
  fault_at-same s t =
      let rest : ℕ = cond (shared_fault g d s) 28 (cond (size_fault g d s) 29 (cond (directory_fault g d s) 30 0)) in
      ap (λ (x : ℕ). cond (hit_fault g d s) 22 (cond (name_fault g d s) 23 (cond (duplicate_fault g d s) 24 (cond (chain_fault g d s) 25 x))))
      (unless (run_fault g d s) 26 (cond (gat_fault g d s) 27 rest) (cond (gat_fault g d' s) 27 rest)
      (λ e. ap (λ (b : Bool). cond b 27 rest) (gat_fault-same s e)))
      ∙ (λ i. first ((22, hit_fault-same s t i) ∷ (23, name_fault-same s i) ∷ (24, duplicate_fault-same s i) ∷ (25, chain_fault-same i s)
      ∷ (26, run_fault-same s i) ∷ (27, gat_fault g d' s) ∷ (28, shared_fault-same s i) ∷ (29, size_fault-same s t i)
      ∷ (30, directory_fault-same s i) ∷ []))

  lowest-same : (after : Refusal) (ss : List ℕ) → ((s : ℕ) → In s ss → T (is_slot g d s)) → lowest g d after ss ≡ lowest g d' after ss
  unfolding lowest
  lowest-same after [] f = refl
  lowest-same after (s ∷ ss) f =
      let e = fault_at-same s (f s Members.In.here) in
      let r = lowest-same after ss (λ x j. f x (Members.In.there j)) in
      λ i. cond (eqb (e i) 0) (r i) (placed (e i) s)

  -- the one fault of both, on any two images
  pub fault-same : fault g d ≡ fault g d'
  unfolding fault
  fault-same =
      let told : Bool → Refusal = λ b. cond b (unplaced 0) (unplaced 30) in
      only (length_holds g d) (unplaced 21) _ _ (λ e.
      ap (λ (b : Bool). lowest g d (told b) (slots g d)) (directory_taken-same (Members.true-T e))
      ∙ lowest-same (told (directory_taken g d')) (slots g d) (Facts.slots-in g d))
      ∙ (λ i. cond (length_holds-same i) (lowest g d' (told (directory_taken g d')) (slots_same i)) (unplaced 21))

  pub fits-same : fits_geometry g d ≡ fits_geometry g d'
  unfolding fits_geometry
  fits-same = rw a.long

  pub check-same : check g d ≡ check g d'
  unfolding check
  check-same = λ i. carried (fault-same i) (first ((1, not (fits-same i)) ∷ (by_number (fault-same i).number fault_numbers ++ [])))

  -- What is free -------------------------------------------------------------------------------------------------------------

  pub free_granules-same : free_granules g d ≡ free_granules g d'
  unfolding free_granules
  free_granules-same =
      Members.keep-eq _ _ (count 0 (granules g))
      (λ n j. ap not (a.gat n (omega (arith, Members.count-in n 0 (granules g) j))))

  pub free_slots-same : free_slots g d ≡ free_slots g d'
  unfolding free_slots free_slot permitted all
  free_slots-same = Members.keep-eq (free_slot g d) (free_slot g d') (count 0 256) (λ s j. at s)
    where
      asked : (b c x y : Bool) → (b ≡ true → x ≡ y) → all (all (b ∷ c ∷ []) ∷ x ∷ []) ≡ all (all (b ∷ c ∷ []) ∷ y ∷ [])
      asked true c x y f = rw (f refl)
      asked false c x y f = refl

      at : (s : ℕ) → free_slot g d s ≡ free_slot g d' s
      at s =
          asked (is_slot g d s) (not (kept g s)) (eqb (hit g d s) 0) (eqb (hit g d' s) 0)
          (λ e. ap (λ (x : ℕ). eqb x 0) (a.hits s (Members.true-T e)))
          ∙ (λ i. all (all (is_slot-same i s ∷ not (kept g s) ∷ []) ∷ eqb (hit g d' s) 0 ∷ []))

-- Stretches of granules of the disk ------------------------------------------------------------------------------------------

module _ (t t' : ℕ → Bool) where
  stretch-eq : (ns : List ℕ) → ((n : ℕ) → In n ns → t n ≡ t' n) → stretch t ns ≡ stretch t' ns
  unfolding stretch
  stretch-eq [] f = refl
  stretch-eq (n ∷ ns) f =
      let e = f n Members.In.here in let r = stretch-eq ns (λ m j. f m (Members.In.there j)) in λ i. cond (e i) 0 (suc (r i))

  longest-eq : (ns : List ℕ) → ((n : ℕ) → In n ns → t n ≡ t' n) → longest_in t ns ≡ longest_in t' ns
  unfolding longest_in
  longest-eq [] f = refl
  longest-eq (n ∷ ns) f =
      let e = stretch-eq (n ∷ ns) f in let r = longest-eq ns (λ m j. f m (Members.In.there j)) in λ i. Prim.Native.Nat.max (e i) (r i)

  low_end-eq : (ns : List ℕ) → ((n : ℕ) → In n ns → t n ≡ t' n) → low_end t ns ≡ low_end t' ns
  unfolding low_end
  low_end-eq [] f = refl
  low_end-eq (n ∷ ns) f =
      let e = stretch-eq (n ∷ ns) f in
      let l = longest-eq ns (λ m j. f m (Members.In.there j)) in
      let r = low_end-eq ns (λ m j. f m (Members.In.there j)) in
      λ i. cond (leb (l i) (e i)) n (r i)

module _ (u : Kinds) (g : Geometry) (d d' : List ℕ) (a : ReadAlike u g d d') where
  on-disk : (n : ℕ) → In n (count 0 (granules g)) → taken g d n ≡ taken g d' n
  on-disk n j = a.gat n (omega (arith, Members.count-in n 0 (granules g) j))

  pub longest-same : longest_in (taken g d) (count 0 (granules g)) ≡ longest_in (taken g d') (count 0 (granules g))
  longest-same = longest-eq (taken g d) (taken g d') (count 0 (granules g)) on-disk

  pub longest_free-same : longest_free g d ≡ longest_free g d'
  longest_free-same = low_end-eq (taken g d) (taken g d') (count 0 (granules g)) on-disk

  pub lowest_free-same : lowest_free g d ≡ lowest_free g d'
  lowest_free-same = λ i. first_or 0 (free_granules-same u g d d' a i)

  -- 01's own word: a disk is consistent exactly where it has no fault
  pub consistent-same : consistent g d ≡ consistent g d'
  consistent-same = Members.both-T
      (λ t. Members.true-T ((LawsFault.no-fault g d').0 (sym (fault-same u g d d' a) ∙ (LawsFault.no-fault g d).1 (Members.T_true t))))
      (λ t. Members.true-T ((LawsFault.no-fault g d).0 (fault-same u g d d' a ∙ (LawsFault.no-fault g d').1 (Members.T_true t))))
