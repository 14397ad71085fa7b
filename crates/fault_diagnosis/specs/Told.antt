-- What is told slot by slot, and after the slots.
use Rattle.std.specs.Prelude.{Bool, not, cond, List, [], ◌∷◌, ℕ, eqb}
use Rattle.std.specs.declared.option.Option.{Option}
use Rattle.std.specs.declared.option.Option.TheVariants.{None, Some}
use Rattle.fault_diagnosis.specs.declared.Kind.{Kind}
use Rattle.fault_diagnosis.specs.declared.Kind.TheVariants.{Hit, Name, DuplicateName, Chain, Run, Gat, SharedGranule, Size, Directory}
use Rattle.meaning.specs.Lists.{same, all}
use Rattle.meaning.specs.Layout.{is_slot, hit}
use Rattle.meaning.specs.Names.{hash}
use Rattle.meaning.specs.Entries.{in_use_primary, name_of}
use Rattle.meaning.specs.Consistent.{directory_taken}
use Rattle.meaning.specs.Refusal.{unplaced}
use Rattle.meaning.specs.Fault.{file_of, fault_at}
use Rattle.meaning.specs.declared.Geometry.{Geometry}
use Rattle.meaning.specs.declared.Refusal.{Refusal}

-- the number of a kind of fault, and of what is found at a slot: 0 where it is none
abbrev pub number_of : Kind → ℕ
number_of Hit = 22
number_of Name = 23
number_of DuplicateName = 24
number_of Chain = 25
number_of Run = 26
number_of Gat = 27
number_of SharedGranule = 28
number_of Size = 29
number_of Directory = 30

abbrev pub number_told : Option Kind → ℕ
number_told None = 0
number_told (Some k) = number_of k

module _ (g : Geometry) (d : List ℕ) where
  -- the HIT byte is not the hash of the file's name
  abbrev pub hash_differs : ℕ → Bool
  hash_differs s = not (eqb (hit g d s) (hash (name_of g d (file_of g d s))))

  -- a file of that name starts at slot q
  unfoldable pub same_file : List ℕ → ℕ → Bool
  same_file n q = all (is_slot g d q ∷ in_use_primary g d q ∷ same (name_of g d q) n ∷ [])

  -- the fault's number at s, 0 where s is no slot
  unfoldable pub fault_in : ℕ → ℕ
  fault_in s = cond (is_slot g d s) (fault_at g d s) 0

  -- after all slots: a clear directory granule
  unfoldable pub after_slots : Refusal
  after_slots = cond (directory_taken g d) (unplaced 0) (unplaced 30)
