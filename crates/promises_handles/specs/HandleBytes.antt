-- A handle as the bytes that a host holds (host/include/genie.h): what is stored is what is read again, any 19 bytes are a handle whose numbers fit,
-- a refused open or create leaves 19 zeros, and a position set in bytes 4 to 7 is that position and changes nothing else.
use Rattle.std.specs.Prelude.{◌≡◌, List, ◌++◌, ℕ, ◌+◌, ◌*◌, ◌/◌, ◌%◌, ◌≤◌, ◌<◌, length, take, drop, set, replicate}
use Rattle.std.proofs.Common.{sym, ap, ◌∙◌, arith, length-take, length-drop, length-set, take_all, drop-set-lt, get_or-set_same, get_or-set_other}
use Rattle.std.proofs.lemmas.List.Edits.{sets, sets-eq}
use Rattle.std.proofs.Math.Seq.{length-sets, take-append_seam}
use Rattle.meaning.specs.Layout.{byte}
use Rattle.meaning.specs.Handles.{no_handle, moved_to}
use Rattle.meaning.specs.declared.Handle.{Handle}
use Rattle.promises_words.specs.Given.{AreBytes}
use Rattle.laws.specs.Bytes.{bytes_small}
use Rattle.genie_codec.specs.Codec.{handle_bytes, two, four, handle_of, bytes_of, stored, low_first, HandleFits, there_and_back, zeros}

-- Stored and read again -----------------------------------------------------------------------------------------------------------------

bytes-length : (h : Handle) → HandleFits h → length (bytes_of h) ≡ handle_bytes
unfolding bytes_of
bytes-length h f = omega (arith, f.name)

stored_is : (b : List ℕ) (h : Handle) → HandleFits h → handle_bytes ≤ length b → stored b h ≡ bytes_of h ++ drop handle_bytes b
unfolding stored
stored_is b h f l =
    let e : 0 + length (bytes_of h) ≡ handle_bytes = omega (arith, bytes-length h f) in
    sets-eq (bytes_of h) b 0 (omega (arith, e)) ∙ ap (λ (n : ℕ). bytes_of h ++ drop n b) e

-- only the first 19 bytes are read
front : (h : Handle) (rest : List ℕ) → HandleFits h → handle_of (bytes_of h ++ rest) ≡ handle_of (bytes_of h)
unfolding handle_of bytes_of
front h rest f =
    let n : take 11 (h.name ++ rest) ≡ take 11 h.name
    = ap (λ (k : ℕ). take k (h.name ++ rest)) (sym f.name) ∙ take-append_seam h.name rest ∙ sym (take_all 11 h.name (omega (arith, f.name))) in
    let x = bytes_of h in ap (λ (m : List ℕ). record { slot = byte x 0; name = m; at = four x 4; len = two x 2; level = byte x 1 }) n

-- a handle stored in a host's bytes and read from them again is that handle
pub stored_back : (b : List ℕ) (h : Handle) → HandleFits h → handle_bytes ≤ length b → handle_of (stored b h) ≡ h
stored_back b h f l = ap handle_of (stored_is b h f l) ∙ front h (drop handle_bytes b) f ∙ there_and_back h f

-- the slice is as long as before
pub stored-length : (b : List ℕ) (h : Handle) → length (stored b h) ≡ length b
unfolding stored
stored-length b h = length-sets b 0 (bytes_of h)

-- "a refused open or create leaves a handle of zeros", and what stands behind it as it stood
pub stored-zeros : (b : List ℕ) → handle_bytes ≤ length b → stored b no_handle ≡ replicate handle_bytes 0 ++ drop handle_bytes b
unfolding stored
stored-zeros b l = ap (sets b 0) zeros ∙ sets-eq (replicate handle_bytes 0) b 0 l

-- Any bytes are a handle ----------------------------------------------------------------------------------------------------------------

pub bytes_fit : (b : List ℕ) → AreBytes b → handle_bytes ≤ length b → HandleFits (handle_of b)
unfolding handle_of
bytes_fit b a l =
    let s = (bytes_small b a).below in
    record {
      slot = s 0;
      level = s 1;
      len = omega (arith, s 2, s 3);
      at = omega (arith, s 4, s 5, s 6, s 7);
      name = omega (arith, length-take 11 (drop 8 b), length-drop 8 b);
    }

-- A position that the host sets -----------------------------------------------------------------------------------------------------------

-- "bytes 4 to 7", low byte first
abbrev pub set_position : List ℕ → ℕ → List ℕ
set_position b at = sets b 4 (low_first 4 at)

-- so many positions the four bytes hold
abbrev pub positions : ℕ
positions = 4294967296

pub position-set : (b : List ℕ) (at : ℕ) → handle_bytes ≤ length b → handle_of (set_position b at) ≡ moved_to (handle_of b) (at % positions)
unfolding handle_of
position-set b at l =
    let b₀ = at % 256 in let b₁ = at / 256 % 256 in let b₂ = at / 256 / 256 % 256 in let b₃ = at / 256 / 256 / 256 % 256 in
    let c₁ = set b 4 b₀ in let c₂ = set c₁ 5 b₁ in let c₃ = set c₂ 6 b₂ in let c₄ = set c₃ 7 b₃ in
    let under : (i : ℕ) → i < 4 → byte c₄ i ≡ byte b i
    = λ i k. get_or-set_other c₃ 7 i b₃ 0 (λ e. omega (arith, e)) ∙ get_or-set_other c₂ 6 i b₂ 0 (λ e. omega (arith, e))
    ∙ get_or-set_other c₁ 5 i b₁ 0 (λ e. omega (arith, e)) ∙ get_or-set_other b 4 i b₀ 0 (λ e. omega (arith, e)) in
    let q₀ : byte c₄ 4 ≡ b₀
    = get_or-set_other c₃ 7 4 b₃ 0 (λ e. omega (arith, e)) ∙ get_or-set_other c₂ 6 4 b₂ 0 (λ e. omega (arith, e))
    ∙ get_or-set_other c₁ 5 4 b₁ 0 (λ e. omega (arith, e)) ∙ get_or-set_same b 4 b₀ 0 (omega arith) in
    let q₁ : byte c₄ 5 ≡ b₁
    = get_or-set_other c₃ 7 5 b₃ 0 (λ e. omega (arith, e)) ∙ get_or-set_other c₂ 6 5 b₂ 0 (λ e. omega (arith, e))
    ∙ get_or-set_same c₁ 5 b₁ 0 (omega (arith, length-set b 4 b₀)) in
    let q₂ : byte c₄ 6 ≡ b₂
    = get_or-set_other c₃ 7 6 b₃ 0 (λ e. omega (arith, e)) ∙ get_or-set_same c₂ 6 b₂ 0 (omega (arith, length-set b 4 b₀, length-set c₁ 5 b₁)) in
    let q₃ : byte c₄ 7 ≡ b₃ = get_or-set_same c₃ 7 b₃ 0 (omega (arith, length-set b 4 b₀, length-set c₁ 5 b₁, length-set c₂ 6 b₂)) in
    let at' : byte c₄ 4 + 256 * byte c₄ 5 + 65536 * (byte c₄ 6 + 256 * byte c₄ 7) ≡ at % positions = omega (arith, q₀, q₁, q₂, q₃) in
    let name' : take 11 (drop 8 c₄) ≡ take 11 (drop 8 b)
    = ap (take 11) (drop-set-lt 8 c₃ 7 b₃ (omega arith) ∙ drop-set-lt 8 c₂ 6 b₂ (omega arith) ∙ drop-set-lt 8 c₁ 5 b₁ (omega arith)
    ∙ drop-set-lt 8 b 4 b₀ (omega arith)) in
    λ i. record {
      slot = under 0 (omega arith) i;
      name = name' i;
      at = at' i;
      len = (under 2 (omega arith) i) + 256 * (under 3 (omega arith) i);
      level = under 1 (omega arith) i;
    }

pub position-length : (b : List ℕ) (at : ℕ) → length (set_position b at) ≡ length b
position-length b at = length-sets b 4 (low_first 4 at)
