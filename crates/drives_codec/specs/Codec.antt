-- A handle of two drives as the bytes that a host holds (02 §9, "Handles carry the drive number"): the 19 of a handle, then the drive.
use Rattle.std.specs.Prelude.{List, cond, ℕ, ◌%◌, ltb, length, set}
use Rattle.meaning.specs.Layout.{byte}
use Rattle.genie_codec.specs.Codec
use Rattle.drives.specs.Pair.{no_drive_handle, handle_on}
use Rattle.drives.specs.declared.DriveHandle.{DriveHandle}

-- so many bytes are a handle; of a longer slice only the first 20 are used
abbrev pub handle_bytes : ℕ
handle_bytes = 20

-- so where the slice has a handle's bytes, and so where it has fewer
abbrev pub long : {A : Type 0} → List ℕ → A → A → A
long b under whole = cond (ltb (length b) handle_bytes) under whole

-- The calls on one image take the same bytes: they use the first 19. Fewer than 20 are taken for the zeros that a refused open leaves.
unfoldable pub handle_of : List ℕ → DriveHandle
handle_of b = long b no_drive_handle (handle_on (byte b 19) (Codec.handle_of b))

-- the handle's bytes at the start of a slice, the rest of it untouched; a shorter slice stays as it stood
unfoldable pub stored : List ℕ → DriveHandle → List ℕ
stored b h = long b b (set (Codec.stored b h.handle) 19 (h.drive % 256))

-- An outgoing handle under 20 bytes is 12 in 12's place. That is where a record length out of range is 12, so open and create are given 0.
unfoldable pub length_for : List ℕ → ℕ → ℕ
length_for b len = long b 0 len
