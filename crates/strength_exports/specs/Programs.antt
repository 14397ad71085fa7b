-- A host's programs (host/include/genie.h): what speaks through images, slices of 19 bytes and more that hold handles, and other lent bytes. Such a
-- one meets the statements where all that it leaves to the host keeps the promises at the exports (promises_exports: HostPromised), none of which
-- says what the right answer is.
use Rattle.std.specs.Prelude.{◌≡◌, List, [], ◌∷◌, ℕ}
use Rattle.meaning.specs.Amount.{Amount}
use Rattle.meaning.specs.declared.Geometry.{Geometry}
use Rattle.genie_codec.specs.Codec.{handle_of}
use Rattle.promises_exports.specs.Host.{HostCall, LeftToHost, HostPromised, left_by, reads}
use Rattle.promises_exports.specs.Proved.{every-host-call}
use Rattle.strength.specs.Programs.{Door, Program, Meets, by_itself, each-kept}

abbrev pub of_host : Door
of_host = record { Asked = HostCall; Reply = λ c. LeftToHost; number = λ c l. l.number; image = λ c l. l.image; Kept = HostPromised }

-- the program that leaves what the exported functions leave meets them
pub right-meets : Meets of_host (by_itself of_host left_by)
right-meets = each-kept of_host left_by (λ g d c. (every-host-call g d c).promised)

-- one that answers always alike: two reads of one length into one buffer get the same bytes
abbrev pub AlwaysAlike : Program of_host → Type 0
AlwaysAlike p =
    (g : Geometry) (d : List ℕ) (a : Amount) (b b' x : List ℕ) → (handle_of b).len ≡ (handle_of b').len
    → (p g d (reads a b x ∷ [])).0.buffer ≡ (p g d (reads a b' x ∷ [])).0.buffer
