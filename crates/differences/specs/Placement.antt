-- Placement on disk is no difference (02 §1).
use Rattle.std.specs.Prelude.{ℕ, ◌≡◌, refl, List}
use Rattle.meaning.specs.Plain.{File}
use Rattle.differences.specs.Compare.{unlike}

-- the same file in another number of granules
abbrev owning : ℕ → File → File
owning k f = record { attributes = f.attributes; granules = k; bytes = f.bytes }

pub granules-apart : (n : List ℕ) (f f' : File) (k k' : ℕ) → unlike n (owning k f) (owning k' f') ≡ unlike n f f'
unfolding unlike
granules-apart n f f' k k' = refl
