-- `Compares`: what is told of two disks, by running number.
use Rattle.std.specs.Prelude.{ℕ, zero, suc, ◌+◌, ◌<◌, ◌≤◌, ◌≡◌, refl, ◌⊎◌, Bool, true, false, List, [], ◌∷◌, length, get_or}
use Rattle.std.proofs.Common.{ap, sym, ◌∙◌, inl, inr, arith}
use Rattle.meaning.specs.Refusal.{unplaced}
use Rattle.meaning.specs.Plain.{File, Found, found, nothing, plain, is_system}
use Rattle.meaning_table.specs.Samples.{puls, leer, opened}
use Rattle.differences.specs.Compare.{before, name_only, tells_none}
use Rattle.differences.specs.Order.{never}
use Rattle.differences.specs.declared.Difference.{Difference}
use Rattle.promises_compare.specs.Statement.{Compares, Agree, neither, by_name, equal, Equal, Says, only_first, only_second, in_both}
use Rattle.promises_controls.specs.Disks.{six, base, but, of_leer, attributes_of, differ, byte_of}

-- the disk, and the same with another byte in each file
abbrev both' : List ℕ
both' = but ((2560, 0x99) ∷ (3840, 0x99) ∷ [])

-- what is told of them, by somebody
abbrev Told : List ℕ → ℕ → (ℕ → Difference) → Type 0
Told d most told = Compares six base six d most told

-- LEER in both, the contents parting at the first byte
abbrev unlike : List ℕ → Difference
unlike n = record { refusal = unplaced 0; kind = 3; name = n; at = 0; contents = true; size = false; date = false; other = false }

-- the first of these, the second of these, then "no more"
one_by_one : Difference → Difference → ℕ → Difference
one_by_one x y zero = x
one_by_one x y (suc zero) = y
one_by_one x y (suc (suc k)) = tells_none (unplaced 0)

silent : ℕ → Difference
silent i = tells_none (unplaced 0)

-- two files of other bytes do not agree
abbrev ByteApart : ℕ → ℕ → Found → Found → Type 0
ByteApart a b x y = Agree x y → a ≡ b

unequal : {f f' : File} → is_system f ≡ false → is_system f' ≡ false → Agree (found f) (found f') → get_or f.bytes 0 0 ≡ get_or f'.bytes 0 0
unequal p q (by_name (inl e)) = never (sym e ∙ p)
unequal p q (by_name (inr e)) = never (sym e ∙ q)
unequal p q (equal e) = ap (λ (b : List ℕ). get_or b 0 0) e.bytes

leer-unequal : Agree (plain six base leer) (plain six both' leer) → ⊥
unfolding opened
leer-unequal a =
    differ 0x63 0x99 refl (unequal {f = of_leer} {f' = record { attributes = attributes_of; granules = 1; bytes = 0x99 ∷ 0x64 ∷ [] }} refl refl a)

-- none: "no more" at number 0, though the lists do not agree
none : Told both' 0 silent → ⊥
unfolding silent
none c = leer-unequal (c.none.0 refl leer)

-- every': LEER's difference is not told
every : Told both' 0 silent → ⊥
every c = let w = c.every' leer leer-unequal in omega (arith, w.1)

-- ends: more is told than there is
ends : Told both' 0 (one_by_one (unlike leer) (unlike puls)) → ⊥
unfolding one_by_one
ends c = differ 3 0 refl (ap (λ (x : Difference). x.kind) (c.ends 0 (omega arith)))

-- tells: told as a file of the first disk alone
kind_of : {x : Difference} {f f' : File} → Says x (found f) (found f') → x.kind ≡ 3
kind_of (in_both e u) = e

tells : Told both' 2 (one_by_one (name_only leer 1) (unlike puls)) → ⊥
unfolding opened one_by_one kind_of
tells c =
    differ 1 3 refl (kind_of {x = name_only leer 1} {f = of_leer} {f' = record { attributes = attributes_of; granules = 1; bytes = 0x99 ∷ 0x64 ∷ [] }}
    (c.tells 0 (omega arith)))

-- is_one': a file that is the same on both
is_one : Told base 1 (one_by_one (unlike leer) (tells_none (unplaced 0))) → ⊥
unfolding opened one_by_one
is_one c = (c.is_one' 0 (omega arith)).1 (equal {f = of_leer} {f' = of_leer} (record { attributes = refl; bytes = refl }))

-- rises: PULS01/DAT before LEER
rises : Told both' 2 (one_by_one (unlike puls) (unlike leer)) → ⊥
unfolding opened one_by_one before
rises c = differ 0 1 refl (ap byte_of (c.rises 0 1 (omega arith) (omega arith)))

-- once: LEER twice
once : Told both' 2 (one_by_one (unlike leer) (unlike leer)) → ⊥
unfolding one_by_one
once c = differ 0 1 refl (c.once 0 1 (omega arith) (omega arith) refl)
