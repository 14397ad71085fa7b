-- What a caller holds of an open file (01, Calls): its range, whether it is stale, and what a call makes of it.
use Rattle.std.specs.Prelude.{ℕ, Bool, List, [], ◌∷◌, leb, replicate}
use Rattle.meaning.specs.Lists.{all, same}
use Rattle.meaning.specs.Layout
use Rattle.meaning.specs.Entries
use Rattle.meaning.specs.declared.Geometry.{Geometry}
use Rattle.meaning.specs.declared.Handle.{Handle}

-- a refused open or create hands back a handle of zeros
abbrev pub no_handle : Handle
no_handle = record { slot = 0; name = replicate 11 0; at = 0; len = 0; level = 0 }

-- the handle at another position
abbrev pub moved_to : Handle → ℕ → Handle
moved_to h at = record { slot = h.slot; name = h.name; at = at; len = h.len; level = h.level }

-- record length (1 to 256)
unfoldable pub good_length : ℕ → Bool
good_length len = all (leb 1 len ∷ leb len 256 ∷ [])

-- position (0 to the highest one; 01: 1,966,080), record length and level (0 to 7): tested by each call that is given a handle
unfoldable pub in_range : Geometry → Handle → Bool
in_range g h = all (leb h.at (Layout.highest g) ∷ good_length h.len ∷ leb h.level 7 ∷ [])

-- A handle is stale unless its slot is one the directory has, in use, primary and carries its name.
unfoldable pub fresh : Geometry → List ℕ → Handle → Bool
fresh g d h = all (Layout.is_slot g d h.slot ∷ Entries.in_use_primary g d h.slot ∷ same (Entries.name_of g d h.slot) h.name ∷ [])
