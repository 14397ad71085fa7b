-- `Agree`, demand 3: what two interleavings end with.
use Rattle.std.specs.Prelude.{ℕ, ◌+◌, ◌≡◌, refl, ◌≢◌, Bool, true, false, List, [], ◌∷◌, map, length, get_or}
use Rattle.std.proofs.Common.{ap, sym, ◌∙◌}
use Rattle.meaning.specs.Plain.{File, Found, found, nothing, plain}
use Rattle.meaning.specs.declared.Handle.{Handle}
use Rattle.meaning_table.specs.Samples.{puls, leer, hits, e80, e81, e82, opened}
use Rattle.together.specs.Statement.{Same, both, Alike, Agree, World, Side, Grip, AllQuiet, after, start}
use Rattle.promises_controls.specs.Disks.{six, base, but, of_leer, attributes_of, hold, neu, differ, byte_of, first_in}

-- a list that has nothing
nobody : Side
nobody = record { handles = []; heard = [] }

-- two worlds: their disks, and what the first list has in each
abbrev World' : List ℕ → Side → World
World' d s = record { disk = d; first = s; second = nobody }

-- two lists, on LEER and on a file that is not there, that made no call
abbrev End : List ℕ → Side → List ℕ → Side → Type 0
End d s d' s' = Agree six leer neu base [] [] [] (World' d s) (World' d' s')

alike_in : {f f' : File} → Same (found f) (found f') → Alike f f'
alike_in (both a) = a

-- LEER as these bytes make it
abbrev leer_of : List ℕ → ℕ → List ℕ → File
leer_of attributes granules bytes = record { attributes = attributes; granules = granules; bytes = bytes }

-- files: LEER, of which the lists are, has another byte; another date; another size; another granule
bytes : End base nobody (but ((3840, 0x99) ∷ [])) nobody → ⊥
unfolding opened nobody alike_in
bytes a =
    differ 0x63 0x99 refl
    (ap (λ (b : List ℕ). get_or b 0 0) ((alike_in {f = of_leer} {f' = leer_of attributes_of 1 (0x99 ∷ 0x64 ∷ [])} (a.files leer)).bytes tt))

attributes : End base nobody (but ((e81 + 2, 0x3b) ∷ [])) nobody → ⊥
unfolding opened nobody alike_in
attributes a =
    differ 0x3a 0x3b refl (ap (λ (b : List ℕ). get_or b 2 0)
    (alike_in {f = of_leer} {f' = leer_of (0x15 ∷ 0x09 ∷ 0x3b ∷ 0x00 ∷ 0x34 ∷ 0x12 ∷ 0x78 ∷ 0x56 ∷ []) 1 (0x63 ∷ 0x64 ∷ [])} (a.files leer)).attributes)

size : End base nobody (but ((e81 + 3, 0x01) ∷ [])) nobody → ⊥
unfolding opened nobody alike_in
size a = differ 2 1 refl (alike_in {f = of_leer} {f' = leer_of attributes_of 1 (0x63 ∷ [])} (a.files leer)).size

granules : End base nobody (but ((e81 + 0x17, 0x21) ∷ [])) nobody → ⊥
unfolding opened nobody alike_in
granules a = differ 1 2 refl (alike_in {f = of_leer} {f' = leer_of attributes_of 2 (0x63 ∷ 0x64 ∷ [])} (a.files leer)).granules

-- third: PULS01/DAT is another than it was, on both disks alike
apart : (n : List ℕ) → first_in nothing ≡ 0 → get_or n 0 0 ≡ 0x50 → (n ≢ leer) × (n ≢ neu)
apart n z e = (
  λ q. differ 0x50 0x4c refl (sym e ∙ ap (λ (m : List ℕ). get_or m 0 0) q),
  λ q. differ 0x50 0x4e refl (sym e ∙ ap (λ (m : List ℕ). get_or m 0 0) q),
)

third : End (but ((2560, 0x99) ∷ [])) nobody (but ((2560, 0x99) ∷ [])) nobody → ⊥
unfolding opened nobody
third a =
    let w = apart puls refl refl in
    differ 0x99 0x61 refl (ap first_in ((a.third puls w.0 w.1).0 (leer_of attributes_of 1 (0x61 ∷ 0x62 ∷ [])) refl tt))

third-same : End (but ((e80 + 3, 0x01) ∷ [])) nobody (but ((e80 + 3, 0x01) ∷ [])) nobody → ⊥
unfolding opened nobody alike_in
third-same a =
    let w = apart puls refl refl in
    differ 2 1 refl (alike_in {f = leer_of attributes_of 1 (0x61 ∷ 0x62 ∷ [])} {f' = leer_of attributes_of 1 (0x61 ∷ [])} (a.third puls w.0 w.1).1).size

-- image: nothing was taken or given back, and a byte of a dead entry differs
image : End base nobody (but ((e82 + 7, 0x99) ∷ [])) nobody → ⊥
unfolding opened nobody
image a = differ 0 0x99 refl (ap (λ (d : List ℕ). get_or d (e82 + 7) 0) (a.image tt))

-- consistent': a HIT byte is lost, of either disk
consistent-first : End (but ((hits + 0x81, 0x00) ∷ [])) nobody base nobody → ⊥
unfolding opened nobody
consistent-first a = differ 0 1 refl (ap byte_of a.consistent'.0)

consistent-second : End base nobody (but ((hits + 0x81, 0x00) ∷ [])) nobody → ⊥
unfolding opened nobody
consistent-second a = differ 0 1 refl (ap byte_of a.consistent'.1)

-- handles: another position
holding : ℕ → Side
holding at = record { handles = hold at 256 0 ∷ []; heard = [] }

at_in : List Grip → ℕ
at_in [] = 0
at_in (x ∷ xs) = x.at

handles : End base (holding 0) base (holding 1) → ⊥
unfolding opened nobody holding at_in
handles a = differ 0 1 refl (ap at_in a.handles.0)

-- heard: other bytes
hearing : ℕ → Side
hearing b = record { handles = []; heard = (b ∷ []) ∷ [] }

heard : End base (hearing 7) base (hearing 8) → ⊥
unfolding opened nobody hearing
heard a = differ 7 8 refl (ap (λ (bs : List (List ℕ)). get_or (get_or bs 0 []) 0 0) (a.heard refl tt tt).0)
