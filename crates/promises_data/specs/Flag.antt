-- What of a disk does not hang on the flag: each definition of `meaning` on the way to a call's answer is the same under both. Where it calls
-- itself, that is by induction; elsewhere by its own text, with what is the same put in.
use Rattle.std.specs.Prelude.{◌≡◌, Bool, ◌&&◌, ◌||◌}
use Rattle.std.proofs.Math.Path.{refl, ap}
use Rattle.std.proofs.Math.Bool.{not, cond}
use mathlib.Core.List.{List, [], ◌∷◌, ◌++◌}
use Prim.Native.Nat.{ℕ, zero, suc, ◌+◌, ◌*◌, ◌%◌}
use Rattle.std.proofs.Math.Dec.{eqb, leb, ltb}
use Rattle.std.proofs.Math.ListN.{length, get_or}
use Rattle.meaning.specs.Lists.{keep, each, every, some, has, same, distinct, all, any, first, first_or}
use Rattle.meaning.specs.Layout.{granule_sectors, granule_bytes, granules, fits_geometry, taken, hit, directory_sectors, is_slot, slots, field}
use Rattle.meaning.specs.Layout.{directory_granules}
use Rattle.meaning.specs.Names.{hash}
use Rattle.meaning.specs.Entries.{name_of, size_of, runs_from, runs, entry_granules, sector_count, end_byte, marker, link, in_use, extension}
use Rattle.meaning.specs.Entries.{system, in_use_primary}
use Rattle.meaning.specs.Chain.{chain_from, chain, owned, files, place, granule_of}
use Rattle.meaning.specs.Consistent.{length_holds, hit_holds, hash_holds, name_holds, pairs_hold, follows_by, link_holds_by, runs_hold, gat_holds, size_holds}
use Rattle.meaning.specs.Consistent.{off_directory, slot_holds, file_holds, names_differ, met, directory_taken, consistent}
use Rattle.meaning.specs.Fault.{used_extension, hands_on, ends, bad_entry, walk_from, walk, walked, met_from, file_of, good_extension, hit_fault, name_fault}
use Rattle.meaning.specs.Fault.{duplicate_fault, chain_fault, run_fault, gat_fault, shared_fault, chain_whole, size_fault, directory_fault}
use Rattle.meaning.specs.Fault.{fault_at, lowest, fault}
use Rattle.meaning.specs.Refusal.{unplaced, placed, carried}
use Rattle.meaning.specs.Refusals.{bad_geometry, by_number, fault_numbers, check}
use Rattle.meaning.specs.declared.Refusal.{Refusal}
use Rattle.promises_data.specs.Alike.{stated}
use Rattle.meaning.specs.declared.Geometry.{Geometry}

module _ (g : Geometry) (b : Bool) (d : List ℕ) where
  pub slots_same : slots g d ≡ slots (stated b g) d
  unfolding slots is_slot directory_sectors
  slots_same = refl

  chain_from-same : (n s : ℕ) → chain_from g d n s ≡ chain_from (stated b g) d n s
  unfolding chain_from field
  chain_from-same zero s = refl
  chain_from-same (suc n) s = ap (λ (xs : List ℕ). s ∷ cond (eqb (marker g d s) 0xfe) xs []) (chain_from-same n (link g d s))

  pub chain_same : chain g d ≡ chain (stated b g) d
  unfolding chain
  chain_same = λ i s. chain_from-same (length (slots_same i)) s i

  pub entry_granules-same : entry_granules g d ≡ entry_granules (stated b g) d
  unfolding entry_granules runs runs_from field
  entry_granules-same = refl

  pub owned-same : owned g d ≡ owned (stated b g) d
  unfolding owned
  owned-same = λ i s. each (entry_granules-same i) (chain_same i s)

  pub files-same : files g d ≡ files (stated b g) d
  unfolding files field
  files-same = λ i. keep (in_use_primary g d) (slots_same i)

  pub place_same : place g d ≡ place (stated b g) d
  unfolding place granule_bytes granule_sectors
  place_same = λ i s k. granule_bytes g * get_or (owned-same i s) (granule_of g k) 0 + k % granule_bytes g

  pub size_holds-same : size_holds g d ≡ size_holds (stated b g) d
  unfolding size_holds size_of granule_bytes granule_sectors field
  size_holds-same =
      λ i p. all ((not (eqb (sector_count g d p) 0) || eqb (end_byte g d p) 0) ∷ leb (size_of g d p) (granule_bytes g * length (owned-same i p)) ∷ [])

  hands_on-same : hands_on g d ≡ hands_on (stated b g) d
  unfolding hands_on pairs_hold used_extension is_slot directory_sectors runs runs_from field
  hands_on-same = refl

  walk_from-same : (n : ℕ) (before : List ℕ) (s : ℕ) → walk_from g d n before s ≡ walk_from (stated b g) d n before s
  unfolding walk_from field
  walk_from-same zero before s = refl
  walk_from-same (suc n) before s =
      λ i. cond (has before s) [] (s ∷ cond (hands_on-same i s) (walk_from-same n (s ∷ before) (link g d s) i) [])

  walk_same : walk g d ≡ walk (stated b g) d
  unfolding walk
  walk_same = λ i p. walk_from-same (length (slots_same i)) [] p i

  walked_same : walked g d ≡ walked (stated b g) d
  unfolding walked
  walked_same = λ i. each (walk_same i) (files-same i)

  met_from-same : met_from g d ≡ met_from (stated b g) d
  unfolding met_from field
  met_from-same = λ i x. keep (λ e. all (eqb (link g d e) x ∷ hands_on-same i e ∷ has (walked_same i) e ∷ [])) (slots_same i)

  file_of-same : file_of g d ≡ file_of (stated b g) d
  unfolding file_of
  file_of-same = λ i s. first_or s (keep (λ p. has (walk_same i p) s) (files-same i))

  good_extension-same : good_extension g d ≡ good_extension (stated b g) d
  unfolding good_extension follows_by is_slot directory_sectors runs runs_from field
  good_extension-same = λ i x. all (eqb (length (met_from-same i x)) 1 ∷ every (λ e. follows_by g d 0x90 e x) (met_from-same i x) ∷ [])

  hit_fault-same : hit_fault g d ≡ hit_fault (stated b g) d
  unfolding hit_fault hit_holds hit name_of field
  hit_fault-same =
      λ i s. any (not (hit_holds g d s)
      ∷ all (in_use g d s ∷ any (not (extension g d s) ∷ good_extension-same i s ∷ [])
      ∷ not (eqb (hit g d s) (hash (name_of g d (file_of-same i s)))) ∷ []) ∷ [])

  name_fault-same : name_fault g d ≡ name_fault (stated b g) d
  unfolding name_fault name_holds name_of field
  name_fault-same = refl

  duplicate_fault-same : duplicate_fault g d ≡ duplicate_fault (stated b g) d
  unfolding duplicate_fault name_of field
  duplicate_fault-same = λ i p. all (in_use_primary g d p ∷ some (λ q. ltb q p && same (name_of g d q) (name_of g d p)) (files-same i) ∷ [])

  chain_fault-same : chain_fault g d ≡ chain_fault (stated b g) d
  unfolding chain_fault bad_entry ends pairs_hold runs runs_from field
  chain_fault-same =
      λ i s. all (in_use g d s
      ∷ any (not (any (hands_on-same i s ∷ ends g d s ∷ [])) ∷ all (extension g d s ∷ not (good_extension-same i s) ∷ []) ∷ []) ∷ [])

  run_fault-same : run_fault g d ≡ run_fault (stated b g) d
  unfolding run_fault runs_hold granules runs runs_from field
  run_fault-same = refl

  gat_fault-same : gat_fault g d ≡ gat_fault (stated b g) d
  unfolding gat_fault gat_holds taken entry_granules runs runs_from field
  gat_fault-same = refl

  shared_fault-same : shared_fault g d ≡ shared_fault (stated b g) d
  unfolding shared_fault field
  shared_fault-same =
      λ i s. all (in_use g d s
      ∷ any (not (distinct (entry_granules-same i s))
      ∷ some (λ t. all (ltb t s ∷ in_use g d t ∷ some (has (entry_granules-same i t)) (entry_granules-same i s) ∷ [])) (slots_same i)
      ∷ []) ∷ [])

  chain_whole-same : chain_whole g d ≡ chain_whole (stated b g) d
  unfolding chain_whole
  chain_whole-same = λ i p. every (λ s. not (chain_fault-same i s)) (walk_same i p)

  size_fault-same : size_fault g d ≡ size_fault (stated b g) d
  unfolding size_fault field
  size_fault-same = λ i p. all (in_use_primary g d p ∷ chain_whole-same i p ∷ not (size_holds-same i p) ∷ [])

  directory_fault-same : directory_fault g d ≡ directory_fault (stated b g) d
  unfolding directory_fault directory_sectors granule_sectors field
  directory_fault-same =
      λ i s. all (in_use g d s ∷ not (system g d (file_of-same i s)) ∷ some (has (directory_granules g d)) (entry_granules-same i s) ∷ [])

  fault_at-same : fault_at g d ≡ fault_at (stated b g) d
  unfolding fault_at
  fault_at-same =
      λ i s. first ((22, hit_fault-same i s) ∷ (23, name_fault-same i s) ∷ (24, duplicate_fault-same i s) ∷ (25, chain_fault-same i s)
      ∷ (26, run_fault-same i s) ∷ (27, gat_fault-same i s) ∷ (28, shared_fault-same i s) ∷ (29, size_fault-same i s)
      ∷ (30, directory_fault-same i s) ∷ [])

  lowest-same : (after : Refusal) (ss : List ℕ) → lowest g d after ss ≡ lowest (stated b g) d after ss
  unfolding lowest
  lowest-same after [] = refl
  lowest-same after (s ∷ ss) = λ i. cond (eqb (fault_at-same i s) 0) (lowest-same after ss i) (placed (fault_at-same i s) s)

  -- "no image contradicts it": a disk has one and the same fault under both
  pub fault-same : fault g d ≡ fault (stated b g) d
  unfolding fault length_holds taken granules directory_sectors granule_sectors
  fault-same =
      λ i. cond (length_holds g d) (lowest-same (cond (directory_taken g d) (unplaced 0) (unplaced 30)) (slots_same i) i) (unplaced 21)

  pub check-same : check g d ≡ check (stated b g) d
  unfolding check fits_geometry granules granule_bytes granule_sectors
  check-same = λ i. carried (fault-same i) (first (bad_geometry g d ∷ (by_number (fault-same i).number fault_numbers ++ [])))

  -- The same of 01's own word -------------------------------------------------------------------------------------------------

  hash_holds-same : hash_holds g d ≡ hash_holds (stated b g) d
  unfolding hash_holds hit name_of field
  hash_holds-same = λ i p. every (λ s. eqb (hit g d s) (hash (name_of g d p))) (chain_same i p)

  off_directory-same : off_directory g d ≡ off_directory (stated b g) d
  unfolding off_directory directory_sectors granule_sectors field
  off_directory-same = λ i p. any (system g d p ∷ every (λ n. not (has (directory_granules g d) n)) (owned-same i p) ∷ [])

  slot_holds-same : slot_holds g d ≡ slot_holds (stated b g) d
  unfolding slot_holds hit_holds hit pairs_hold link_holds_by follows_by is_slot directory_sectors runs_hold gat_holds taken granules entry_granules runs
      runs_from field
  slot_holds-same = refl

  file_holds-same : file_holds g d ≡ file_holds (stated b g) d
  unfolding file_holds name_holds name_of field
  file_holds-same = λ i p. all (name_holds g d p ∷ hash_holds-same i p ∷ size_holds-same i p ∷ off_directory-same i p ∷ [])

  names_differ-same : (ps : List ℕ) → names_differ g d ps ≡ names_differ (stated b g) d ps
  unfolding names_differ name_of field
  names_differ-same [] = refl
  names_differ-same (p ∷ ps) = λ i. every (λ q. not (same (name_of g d p) (name_of g d q))) ps && names_differ-same ps i

  met-same : met g d ≡ met (stated b g) d
  unfolding met
  met-same = λ i. each (chain_same i) (files-same i)

  pub consistent-same : consistent g d ≡ consistent (stated b g) d
  unfolding consistent length_holds taken granules directory_sectors granule_sectors field
  consistent-same =
      λ i. all (length_holds g d
      ∷ every (slot_holds-same i) (slots_same i)
      ∷ every (file_holds-same i) (files-same i)
      ∷ names_differ-same (files-same i) i
      ∷ distinct (met-same i) ∷ every (has (met-same i)) (keep (in_use g d) (slots_same i))
      ∷ distinct (each (owned-same i) (files-same i)) ∷ directory_taken g d ∷ [])
