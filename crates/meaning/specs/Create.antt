-- Create (01, Calls).
use Rattle.std.specs.Prelude.{ℕ, ◌/◌, ◌%◌, Bool, not, cond, ◌&&◌, List, [], ◌∷◌, ◌++◌, eqb, length, replicate, set}
use Rattle.std.proofs.lemmas.List.Edits.{sets}
use Rattle.meaning.specs.Lists.{all, first_or}
use Rattle.meaning.specs.Layout
use Rattle.meaning.specs.Names
use Rattle.meaning.specs.Entries
use Rattle.meaning.specs.Free
use Rattle.meaning.specs.Refusals
use Rattle.meaning.specs.Handles
use Rattle.meaning.specs.LookUp
use Rattle.meaning.specs.Open
use Rattle.meaning.specs.declared.Geometry.{Geometry}
use Rattle.meaning.specs.declared.NewFile.{NewFile}
use Rattle.meaning.specs.declared.Created.{Created}

-- Entry: flags 10H, given date, size 0, given length (256 stands as 0), both codes as given, 16 to 1F all FFH. Byte 01 is the day alone.
abbrev pub new_entry : List ℕ → NewFile → List ℕ
new_entry n f =
    0x10 ∷ f.day ∷ Entries.date_byte f.year f.month ∷ 0 ∷ f.len % 256 ∷ (n ++
    (f.main % 256 ∷ f.main / 256 ∷ f.worker % 256 ∷ f.worker / 256 ∷ 0 ∷ 0 ∷ replicate 10 0xff))

module _ (g : Geometry) (d : List ℕ) where
  -- the first permitted slot, by rising slot number, of those with HIT byte 0; where there is one
  abbrev pub new_slot : ℕ
  new_slot = first_or 0 (Free.free_slots g d)

  -- the disk with a new file of that name in slot x
  abbrev pub with_entry : ℕ → List ℕ → NewFile → List ℕ
  with_entry x n f = set (sets d (Layout.entry_at g x) (new_entry n f)) (Layout.hit_at g x) (Names.hash n)

  -- 5 under open's password rule, the given main code counting; 8 only if the name is not found
  abbrev pub create_refusals : List ℕ → NewFile → Bool → List (ℕ × Bool)
  create_refusals n f checking =
      let m = (Names.comes_in n).name in
      Refusals.disk_refusals g d ((12, not (Refusals.new_in_range f)) ∷ Refusals.bad_name n
      ∷ (5, all (not (LookUp.missing g d m) ∷ not (Open.admits g d (LookUp.slot_of g d m) checking f.main) ∷ []))
      ∷ (8, all (LookUp.missing g d m ∷ eqb (length (Free.free_slots g d)) 0 ∷ [])) ∷ [])

  -- An existing file is opened and reported as old. Otherwise the first permitted slot is taken. The new handle has level 0.
  unfoldable pub create : List ℕ → NewFile → Bool → Created × List ℕ
  create n f checking =
      let m = (Names.comes_in n).name in
      let s = LookUp.slot_of g d m in
      let x = new_slot in
      let new = LookUp.missing g d m in
      let no = Refusals.first (create_refusals n f checking) in (
        record {
          refusal = Refusals.name_refusal g d n no;
          old = Refusals.accepted no && not new;
          handle = cond (Refusals.accepted no)
              (cond new (record { slot = x; name = m; at = 0; len = f.len; level = 0 })
              (Open.opened_at g d s m f.len checking f.main)) Handles.no_handle;
        },
        cond (Refusals.accepted no && new) (with_entry x m f) d,
      )
