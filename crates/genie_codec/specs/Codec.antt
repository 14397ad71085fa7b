-- A handle as the bytes that a host holds: slot, level, record length (2, low byte first), position (4, low byte first), name (11).
use Rattle.std.specs.Prelude.{◌≡◌, refl, List, [], ◌∷◌, ◌++◌, ℕ, zero, suc, ◌+◌, ◌*◌, ◌/◌, ◌%◌, ◌<◌, length, take, drop, replicate}
use Rattle.std.proofs.Common.{arith, take_all}
use Rattle.std.proofs.lemmas.List.Edits.{sets}
use Rattle.meaning.specs.Layout.{byte}
use Rattle.meaning.specs.Handles.{no_handle}
use Rattle.meaning.specs.declared.Handle.{Handle}

-- so many bytes are a handle; of a longer slice only the first 19 are used
abbrev pub handle_bytes : ℕ
handle_bytes = 19

-- and so many a name
abbrev pub name_bytes : ℕ
name_bytes = 11

-- numbers of two and of four bytes, low byte first
abbrev pub two : List ℕ → ℕ → ℕ
two b i = byte b i + 256 * byte b (i + 1)

abbrev pub four : List ℕ → ℕ → ℕ
four b i = two b i + 65536 * two b (i + 2)

-- every value that the bytes can hold is a handle
unfoldable pub handle_of : List ℕ → Handle
handle_of b = record { slot = byte b 0; name = take 11 (drop 8 b); at = four b 4; len = two b 2; level = byte b 1 }

-- so many bytes of a number, low byte first
abbrev pub low_first : ℕ → ℕ → List ℕ
low_first zero x = []
low_first (suc n) x = x % 256 ∷ low_first n (x / 256)

-- and back. A number that does not fit its bytes would be cut; none that a call hands back is such (proofs/Fitting.antt).
unfoldable pub bytes_of : Handle → List ℕ
bytes_of h = low_first 1 h.slot ++ (low_first 1 h.level ++ (low_first 2 h.len ++ (low_first 4 h.at ++ h.name)))

-- the handle's bytes at the start of a slice, the rest of it untouched
unfoldable pub stored : List ℕ → Handle → List ℕ
stored b h = sets b 0 (bytes_of h)

-- the numbers of a handle fit its bytes
pub record HandleFits (h : Handle) : Type 0 where
  pub slot : h.slot < 256
  pub level : h.level < 256
  pub len : h.len < 65536
  pub at : h.at < 4294967296
  pub name : length h.name ≡ 11

-- a handle put into bytes and read from them is the same handle
pub there_and_back : (h : Handle) → HandleFits h → handle_of (bytes_of h) ≡ h
unfolding handle_of bytes_of
there_and_back h f =
    let a : h.slot % 256 ≡ h.slot = omega (arith, f.slot) in
    let b : h.level % 256 ≡ h.level = omega (arith, f.level) in
    let c : h.len % 256 + 256 * (h.len / 256 % 256) ≡ h.len = omega (arith, f.len) in
    let e : h.at % 256 + 256 * (h.at / 256 % 256) + 65536 * (h.at / 256 / 256 % 256 + 256 * (h.at / 256 / 256 / 256 % 256)) ≡ h.at = omega (arith, f.at)
    in
    let n : take 11 h.name ≡ h.name = take_all 11 h.name (omega (arith, f.name)) in
    λ i. record { slot = a i; name = n i; at = e i; len = c i; level = b i }

-- a refused open or create leaves a handle of zeros
pub zeros : bytes_of no_handle ≡ replicate 19 0
unfolding bytes_of
zeros = refl
