-- Which slots are permitted (02, §4): "On a data disk only slots 00H and 01H are kept." On a system disk it is 01's rule.
use Rattle.std.specs.Prelude.{◌≡◌, Bool, true, false, cond, List, [], ◌∷◌, map, ℕ, ◌+◌, ◌<◌, ◌≤◌, length, ltb}
use Rattle.std.proofs.Math.Path.{refl, ap}
use Rattle.std.proofs.Common.{ap₂, ◌∙◌, lt-ltb, le-ltb}
use Rattle.std.proofs.Math.Bool.{not}
use Rattle.meaning.specs.Lists.{count, keep, all}
use Rattle.meaning.specs.Layout.{is_slot, row, sector, directory_sectors}
use Rattle.meaning.specs.Free.{kept, permitted}
use Rattle.meaning.specs.declared.Geometry.{Geometry}
use Rattle.lists.specs.Members

-- 01's rule
abbrev pub kept_for_system : ℕ → Bool
kept_for_system s = all (ltb (row s) 4 ∷ ltb (sector s) 8 ∷ [])

-- the same of either kind of disk, by the flag and the directory's length alone
abbrev permitted_by : Bool → ℕ → ℕ → Bool
permitted_by system sectors s = all (all (ltb s 256 ∷ ltb (sector s + 2) sectors ∷ []) ∷ not (cond system (kept_for_system s) (ltb s 2)) ∷ [])

and_yes : (b : Bool) → all (b ∷ true ∷ []) ≡ b
unfolding all
and_yes true = refl
and_yes false = refl

and_no : (b : Bool) → all (b ∷ false ∷ []) ≡ false
unfolding all
and_no true = refl
and_no false = refl

-- how many slots are permitted, by the flag and the directory's length
abbrev pub room_by : Bool → ℕ → ℕ
room_by system sectors = length (keep (permitted_by system sectors) (count 0 256))

-- the lengths that a directory may have
abbrev pub lengths : List ℕ
lengths = 10 ∷ 15 ∷ 20 ∷ 25 ∷ 30 ∷ []

pub data-rooms : map (room_by false) lengths ≡ 62 ∷ 102 ∷ 142 ∷ 182 ∷ 222 ∷ []
unfolding all
data-rooms = refl

pub system-rooms : map (room_by true) lengths ≡ 32 ∷ 72 ∷ 112 ∷ 152 ∷ 192 ∷ []
unfolding all
system-rooms = refl

counted-222 : room_by false 30 ≡ 222
unfolding all
counted-222 = refl

module _ (g : Geometry) (d : List ℕ) where
  kept-system : g.system ≡ true → (s : ℕ) → kept g s ≡ kept_for_system s
  unfolding kept
  kept-system h s = rw (kept, h) refl

  kept-data : g.system ≡ false → (s : ℕ) → kept g s ≡ ltb s 2
  unfolding kept
  kept-data h s = rw (kept, h) refl

  -- On a system disk: "Rows 0 to 3 with s 0 to 7 are kept for system files and never permitted", 01's text as it stood.
  pub on-a-system-disk : g.system ≡ true → (s : ℕ) → permitted g d s ≡ all (is_slot g d s ∷ not (kept_for_system s) ∷ [])
  unfolding permitted
  on-a-system-disk h s = ap (λ (k : Bool). all (is_slot g d s ∷ not k ∷ [])) (kept-system h s)

  by_number : g.system ≡ false → (s : ℕ) → permitted g d s ≡ all (is_slot g d s ∷ not (ltb s 2) ∷ [])
  unfolding permitted
  by_number h s = ap (λ (k : Bool). all (is_slot g d s ∷ not k ∷ [])) (kept-data h s)

  -- On a data disk: every slot of the directory but these two.
  pub on-a-data-disk : g.system ≡ false → (s : ℕ) → 2 ≤ s → permitted g d s ≡ is_slot g d s
  on-a-data-disk h s l = by_number h s ∙ ap (λ (b : Bool). all (is_slot g d s ∷ not b ∷ [])) (le-ltb s 2 l) ∙ and_yes (is_slot g d s)

  pub kept-on-a-data-disk : g.system ≡ false → (s : ℕ) → s < 2 → permitted g d s ≡ false
  kept-on-a-data-disk h s l = by_number h s ∙ ap (λ (b : Bool). all (is_slot g d s ∷ not b ∷ [])) (lt-ltb s 2 l) ∙ and_no (is_slot g d s)

  permitted-by : (s : ℕ) → permitted g d s ≡ permitted_by g.system (directory_sectors g d) s
  unfolding permitted kept is_slot
  permitted-by s = refl

  -- how many slots are permitted on this disk
  abbrev pub room : ℕ
  room = length (keep (permitted g d) (count 0 256))

  pub room-is : room ≡ room_by g.system (directory_sectors g d)
  room-is = ap length (Members.keep-eq (permitted g d) (permitted_by g.system (directory_sectors g d)) (count 0 256) (λ s i. permitted-by s))

  -- "lets data disks hold 222 files, 224 less the two every disk has"
  pub files-222 : g.system ≡ false → directory_sectors g d ≡ 30 → room ≡ 222
  files-222 h e = room-is ∙ ap₂ room_by h e ∙ counted-222
