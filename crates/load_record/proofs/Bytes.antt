-- A file's bytes by their places on the disk.
use mathlib.Core.Path.{◌≡◌, refl, sym, ap, ◌∙◌}
use mathlib.Core.List.{List, ◌++◌}
use Prim.Native.Nat.{ℕ, ◌+◌, ◌-◌, ◌≤◌, ◌<◌}
use native.Mathlib.Omega.{arith}
use native.Mathlib.Nat.{zero-add}
use lib.ListN.{length, get_or, take, drop}
use lib.Seq.{take_at, drop_at}
use Rattle.meaning.specs.Layout.{byte}
use Rattle.lists.specs.Sizes
use Rattle.meaning.specs.Chain.{place}
use Rattle.meaning.specs.Entries.{size_of}
use Rattle.meaning.specs.Read.{fetch}
use Rattle.meaning.specs.Plain.{file_at}
use Rattle.meaning.specs.declared.Geometry.{Geometry}
use Rattle.lists.specs.Members
use Rattle.read.specs.Part.{Owned}
use Rattle.read.proofs.ReadParts.{fetch-append, length-fetch, place-fits}
use Rattle.load.specs.Load.{bytes_of}
use Rattle.load_record.specs.Program.{Program}

module _ (g : Geometry) (d : List ℕ) (s : ℕ) where
  bytes-are : bytes_of g d s ≡ fetch g d s 0 (size_of g d s)
  unfolding file_at
  bytes-are = refl

  fetch-at : (n i : ℕ) → i < n → get_or (fetch g d s 0 n) i 0 ≡ byte d (place g d s i)
  unfolding fetch
  fetch-at n i l = Members.map-count (λ j. byte d (place g d s j)) 0 n i l ∙ ap (λ (j : ℕ). byte d (place g d s j)) (zero-add i)

  module _ {size : ℕ} (p : Program g d s size) where
    pub long : size ≡ length (bytes_of g d s)
    long = p.is ∙ sym (ap length bytes-are ∙ length-fetch g d s 0 (size_of g d s))

    pub byte-is : (i : ℕ) → i < size → byte d (place g d s i) ≡ get_or (bytes_of g d s) i 0
    byte-is i l = let q = p.is in sym (ap (λ (bs : List ℕ). get_or bs i 0) bytes-are ∙ fetch-at (size_of g d s) i (omega arith))

    pub part : (i n : ℕ) → i + n ≤ size → 1 ≤ n → Owned g d s i n
    part i n l m = let o = p.owned in let h = p.high in record { some = m; owned = omega arith; high = omega arith }

    pub byte_fits : (i : ℕ) → i < size → place g d s i < length d
    byte_fits i l =
        let q = place-fits g d s i 1 p.file (part i 1 (omega arith) (omega arith))
        (record { inside = omega (arith, (Sizes.split (Sizes.bytes_pos g) i).rest) }) in
        omega arith

    -- n bytes from byte i on, taken from the file
    pub part-is : (i n : ℕ) → i + n ≤ size → fetch g d s i n ≡ take n (drop i (bytes_of g d s))
    part-is i n l =
        let z = p.is in
        let q : i + (n + (size_of g d s - (i + n))) ≡ size_of g d s = omega arith in
        let w : bytes_of g d s ≡ fetch g d s 0 i ++ (fetch g d s i n ++ fetch g d s (i + n) (size_of g d s - (i + n))) =
        bytes-are ∙ ap (fetch g d s 0) (sym q) ∙ fetch-append g d s 0 i (n + (size_of g d s - (i + n)))
        ∙ ap (λ (k : ℕ). fetch g d s 0 i ++ fetch g d s k (n + (size_of g d s - (i + n)))) (zero-add i)
        ∙ ap (λ (r : List ℕ). fetch g d s 0 i ++ r) (fetch-append g d s i n (size_of g d s - (i + n))) in
        sym (ap (λ (bs : List ℕ). take n (drop i bs)) w
        ∙ ap (take n) (drop_at (fetch g d s 0 i) (fetch g d s i n ++ fetch g d s (i + n) (size_of g d s - (i + n))) i (length-fetch g d s 0 i))
        ∙ take_at (fetch g d s i n) (fetch g d s (i + n) (size_of g d s - (i + n))) n (length-fetch g d s i n))
