-- A statement that says enough refuses what is wrong. Each control of this crate is a disk, or an answer, that breaks one field of a
-- statement, and the theorem that the statement does not hold of it; where a field follows from others the same control breaks those too. So
-- a statement that is made to say less is no longer refused here, though all that is proved of the library would still be proved.
--
-- This file: the disk, of 6 granules, and small words.
use Rattle.std.specs.Prelude.{ℕ, ◌+◌, ◌≡◌, Bool, true, false, cond, List, [], ◌∷◌, ◌++◌, eqb, length, get_or, replicate}
use Rattle.std.proofs.Common.{sym, ◌∙◌, eq-eqb}
use Rattle.meaning.specs.Plain.{File, Found, found, nothing}
use Rattle.meaning.specs.declared.Geometry.{Geometry}
use Rattle.meaning.specs.declared.Handle.{Handle}
use Rattle.meaning_table.specs.Samples.{laid, changed, held, puls, leer, hits, e80, e81, e82}
use Rattle.differences.specs.Order.{never}

-- 3 blocks of 2 units, the directory at the front
abbrev pub six : Geometry
six = record { blocks = 3; units = 2; start = 0; noPassword = 0x9999; system = true; granule = 5 }

-- an entry of a file of two bytes: flags, name, and the second byte of its pair in block 1; main code 1234H, worker code 5678H
abbrev pub entry : ℕ → List ℕ → ℕ → List ℕ
entry flags name second =
    flags ∷ 0x09 ∷ 0x3a ∷ 0x02 ∷ 0x00 ∷ (name ++ (0x34 ∷ 0x12 ∷ 0x78 ∷ 0x56 ∷ 0x01 ∷ 0x00 ∷ 0x01 ∷ second ∷ replicate 8 0xff))

-- PULS01/DAT in slot 80H owns granule 2, LEER in slot 81H granule 3; level 5. Granules 0, 1 and 4 are reserved, 5 is free. GAT byte 3 is of no
-- block.
abbrev pub base : List ℕ
base =
    laid 0 ((0, 0x03 ∷ 0x03 ∷ 0x01 ∷ 0x55 ∷ []) ∷ (hits + 0x80, 0xc1 ∷ 0x70 ∷ []) ∷ (e80, entry 0x15 puls 0x00) ∷ (e81, entry 0x15 leer 0x20)
    ∷ (2560, 0x61 ∷ 0x62 ∷ []) ∷ (3840, 0x63 ∷ 0x64 ∷ []) ∷ []) 7680

-- the same with these bytes in these places
abbrev pub but : List (ℕ × ℕ) → List ℕ
but cs = changed base cs

-- LEER, as it stands there
abbrev pub attributes_of : List ℕ
attributes_of = 0x15 ∷ 0x09 ∷ 0x3a ∷ 0x00 ∷ 0x34 ∷ 0x12 ∷ 0x78 ∷ 0x56 ∷ []

abbrev pub of_leer : File
of_leer = record { attributes = attributes_of; granules = 1; bytes = 0x63 ∷ 0x64 ∷ [] }

-- its handle, at that position, with that record length and level
abbrev pub hold : ℕ → ℕ → ℕ → Handle
hold at len level = held 0x81 leer at len level

-- a name that no file bears
abbrev pub neu : List ℕ
neu = 0x4e ∷ 0x45 ∷ 0x55 ∷ replicate 8 0x20

-- Words ----------------------------------------------------------------------------------------------------------------------------

-- two numbers that differ
pub differ : (a b : ℕ) → eqb a b ≡ false → a ≡ b → ⊥
differ a b f e = never (sym (eq-eqb a b e) ∙ f)

-- what stands under a name: whether it is there, its first byte, how many attributes are told
abbrev pub there_in : Found → ℕ
there_in nothing = 0
there_in (found f) = 1

abbrev pub first_in : Found → ℕ
first_in nothing = 0
first_in (found f) = get_or f.bytes 0 0

abbrev pub told_in : Found → ℕ
told_in nothing = 0
told_in (found f) = length f.attributes

abbrev pub byte_of : Bool → ℕ
byte_of b = cond b 1 0
