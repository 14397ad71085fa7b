-- The premises can be met: a program file on a small whole disk, read record by record, computed. The disk is of 12 granules, the directory at the
-- front in granules 0 and 1.
use Rattle.std.specs.Prelude.{ℕ, ◌+◌, ◌≡◌, refl, List, [], ◌∷◌, ◌++◌, replicate}
use Rattle.meaning_table.specs.Samples.{laid, leer, three, hits, e80}
use Rattle.meaning_table.specs.Samples
use Rattle.meaning.specs.declared.Handle.{Handle}
use Rattle.load.specs.Cases
use Rattle.load.specs.Cut.{starts}
use Rattle.load.specs.Load.{load_record}
use Rattle.promises_load.specs.Statement.{read_from, Admitted}

-- one byte for 6000H, then the start address 6000H
abbrev program : List ℕ
program = 0x01 ∷ 0x03 ∷ 0x00 ∷ 0x60 ∷ 0xc9 ∷ 0x02 ∷ 0x02 ∷ 0x00 ∷ 0x60 ∷ []

-- LEER in slot 80H: nine bytes in granule 2
abbrev entry : List ℕ
entry =
    0x10 ∷ 0x09 ∷ 0x3a ∷ 0x09 ∷ 0x00 ∷ (leer ++ (0x00 ∷ 0x00 ∷ 0x00 ∷ 0x00 ∷ 0x01 ∷ 0x00 ∷ 0x00 ∷ 0x40 ∷ replicate 8 0xff))

abbrev disk : List ℕ
disk = laid 0 ((0, 0x07 ∷ 0x07 ∷ 0x07 ∷ 0x07 ∷ []) ∷ (hits + 0x80, 0x70 ∷ []) ∷ (e80, entry) ∷ (2560, program) ∷ []) 15360

abbrev handle : Handle
handle = record { slot = 0x80; name = leer; at = 0; len = 1; level = 0 }

-- all definitions that are computed, opened by one name
unfoldable opened : ℕ
unfolding Samples.opened Cases.opened load_record read_from
opened = 0

admitted : Admitted three disk handle (replicate 255 0)
unfolding opened
admitted = refl

read_whole : read_from three disk 10 handle (replicate 255 0)
    ≡ record { records = record { address = 0x6000; bytes = 0xc9 ∷ [] } ∷ []; end = starts 0x6000 }
unfolding opened
read_whole = refl
