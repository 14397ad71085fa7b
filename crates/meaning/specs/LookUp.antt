-- Look up (01, Calls).
use Rattle.std.specs.Prelude.{ℕ, suc, Bool, cond, List, [], ◌∷◌, eqb, length, take}
use Rattle.meaning.specs.Lists.{keep, has, same, all, first_or}
use Rattle.meaning.specs.Layout
use Rattle.meaning.specs.Names
use Rattle.meaning.specs.Entries
use Rattle.meaning.specs.Refusals
use Rattle.meaning.specs.declared.Geometry.{Geometry}
use Rattle.meaning.specs.declared.LookedUp.{LookedUp}

module _ (g : Geometry) (d : List ℕ) where
  -- by rising slot number; only slots whose HIT byte equals the hash are compared
  unfoldable pub candidates : List ℕ → List ℕ
  candidates n = keep (λ s. eqb (Layout.hit g d s) (Names.hash n)) (Layout.slots g d)

  -- the primary entry's slot: an extension never matches
  unfoldable pub carries : List ℕ → ℕ → Bool
  carries n s = all (Entries.in_use_primary g d s ∷ same (Entries.name_of g d s) n ∷ [])

  -- how many entries were compared, the found one included; extensions with that hash count too
  unfoldable pub compared_in : List ℕ → List ℕ → ℕ
  compared_in n [] = 0
  compared_in n (s ∷ ss) = cond (carries n s) 1 (suc (compared_in n ss))

  -- the slot of the file of that name, alone in a list; or none
  unfoldable pub named : List ℕ → List ℕ
  named n = take 1 (keep (carries n) (candidates n))

  -- 4: name not found
  abbrev pub missing : List ℕ → Bool
  missing n = eqb (length (named n)) 0

  -- the slot of the file of that name, where it is not missing
  abbrev pub slot_of : List ℕ → ℕ
  slot_of n = first_or 0 (named n)

  abbrev pub look_up_refusals : List ℕ → List (ℕ × Bool)
  look_up_refusals n = Refusals.disk_refusals g d (Refusals.bad_name n ∷ (4, missing (Names.comes_in n).name) ∷ [])

  -- look up returns its count as well under 4, and 0 under 1, 2 (now 21 to 30) and 3
  unfoldable pub look_up : List ℕ → LookedUp
  look_up n =
      let no = Refusals.first (look_up_refusals n) in let m = (Names.comes_in n).name in
      record {
        refusal = Refusals.name_refusal g d n no;
        slot = cond (Refusals.accepted no) (slot_of m) 0;
        compared = cond (has (0 ∷ 4 ∷ []) no) (compared_in m (candidates m)) 0;
      }
