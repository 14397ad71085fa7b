-- Open (01, Calls).
use Rattle.std.specs.Prelude.{ℕ, Bool, not, cond, List, [], ◌∷◌, eqb}
use Rattle.meaning.specs.Lists.{any}
use Rattle.meaning.specs.Names
use Rattle.meaning.specs.Entries
use Rattle.meaning.specs.Refusals
use Rattle.meaning.specs.Handles
use Rattle.meaning.specs.LookUp
use Rattle.meaning.specs.declared.Geometry.{Geometry}
use Rattle.meaning.specs.declared.Handle.{Handle}
use Rattle.meaning.specs.declared.Answer.{Answer}

module _ (g : Geometry) (d : List ℕ) where
  -- level 0 if checking is off, the main code is the "no password" code, or the given code equals the main code
  unfoldable pub full : ℕ → Bool → ℕ → Bool
  full s checking code = any (not checking ∷ eqb (Entries.main_code g d s) g.noPassword ∷ eqb code (Entries.main_code g d s) ∷ [])

  -- or it equals the worker code; else refused
  unfoldable pub admits : ℕ → Bool → ℕ → Bool
  admits s checking code = any (full s checking code ∷ eqb code (Entries.worker_code g d s) ∷ [])

  -- Position 0, record length as given; the stored level if the given code equals the worker code only.
  abbrev pub opened_at : ℕ → List ℕ → ℕ → Bool → ℕ → Handle
  opened_at s n len checking code = record { slot = s; name = n; at = 0; len = len; level = cond (full s checking code) 0 (Entries.access_level g d s) }

  -- 5: wrong password code
  abbrev pub open_refusals : List ℕ → ℕ → Bool → ℕ → List (ℕ × Bool)
  open_refusals n len checking code =
      let m = (Names.comes_in n).name in
      Refusals.disk_refusals g d ((12, not (Handles.good_length len)) ∷ Refusals.bad_name n
      ∷ (4, LookUp.missing g d m) ∷ (5, not (admits (LookUp.slot_of g d m) checking code)) ∷ [])

  unfoldable pub open' : List ℕ → ℕ → Bool → ℕ → Answer
  open' n len checking code =
      let no = Refusals.first (open_refusals n len checking code) in let m = (Names.comes_in n).name in
      record {
        refusal = Refusals.name_refusal g d n no;
        handle = cond (Refusals.accepted no) (opened_at (LookUp.slot_of g d m) m len checking code) Handles.no_handle;
      }
