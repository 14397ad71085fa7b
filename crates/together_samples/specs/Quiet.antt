-- The last sentence of demand 3 is about something: two lists that take and give back nothing, and leave the same image in two orders
use Rattle.std.specs.Prelude.{ℕ, ◌≡◌, refl, true, List, [], ◌∷◌, replicate}
use Rattle.std.proofs.Common.{ap, sym, ◌∙◌}
use Rattle.meaning.specs.Amount.{one_record}
use Rattle.meaning.specs.Lists.{each}
use Rattle.meaning.specs.Layout.{fits_geometry}
use Rattle.meaning.specs.Names.{fold}
use Rattle.meaning.specs.Chain.{chain, owned}
use Rattle.meaning.specs.Consistent.{consistent}
use Rattle.meaning.specs.LookUp.{named}
use Rattle.meaning.specs.Calls.{number, leaves}
use Rattle.meaning_table.specs.Samples.{opened, puls, leer, laid}
use Rattle.meaning.specs.declared.Mode.TheVariants.{Sequential, Random}
use Rattle.together.specs.Statement.{Name, Step, opens, moves, writes, known, answer, Turn, one, two, none, left, right, start, after, Accepted, Quiet}
use Rattle.together.specs.Statement.{AllQuiet}
use Rattle.together.proofs.Demand3.{demand3}
use Rattle.together_samples.specs.Slots.{differ, tiny}

-- PULS01/DAT in slot 80H with granule 2, LEER in slot 81H with granule 3, 2 bytes each
abbrev owning : List ℕ
owning =
    laid 0 (
    (0, 3 ∷ 3 ∷ [])
    ∷ (0x180, 0xc1 ∷ 0x70 ∷ [])
    ∷ (640, 0x10 ∷ 0x09 ∷ 0x3a ∷ 0x02 ∷ 0x00 ∷ puls)
    ∷ (656, 0 ∷ 0 ∷ 0 ∷ 0 ∷ 1 ∷ 0 ∷ 1 ∷ 0x00 ∷ replicate 8 0xff)
    ∷ (896, 0x10 ∷ 0x09 ∷ 0x3a ∷ 0x02 ∷ 0x00 ∷ leer)
    ∷ (912, 0 ∷ 0 ∷ 0 ∷ 0 ∷ 1 ∷ 0 ∷ 1 ∷ 0x20 ∷ replicate 8 0xff)
    ∷ []) 5120

-- two bytes behind a gap; three bytes over the two
abbrev mine : List Step
mine = opens 2 true 0 ∷ moves 0 9 ∷ writes one_record Random 0 (7 ∷ 8 ∷ []) ∷ []

abbrev theirs : List Step
theirs = opens 3 true 0 ∷ writes one_record Sequential 0 (9 ∷ 9 ∷ 9 ∷ []) ∷ []

abbrev mine_first : List Turn
mine_first =
    one (opens 2 true 0) ∷ one (moves 0 9) ∷ one (writes one_record Random 0 (7 ∷ 8 ∷ []))
    ∷ two (opens 3 true 0) ∷ two (writes one_record Sequential 0 (9 ∷ 9 ∷ 9 ∷ [])) ∷ []

abbrev in_turn : List Turn
in_turn =
    two (opens 3 true 0) ∷ one (opens 2 true 0) ∷ two (writes one_record Sequential 0 (9 ∷ 9 ∷ 9 ∷ [])) ∷ one (moves 0 9)
    ∷ one (writes one_record Random 0 (7 ∷ 8 ∷ [])) ∷ []

pub accepted : Accepted tiny puls leer (start owning) mine_first
unfolding opened known answer number leaves
accepted = ((tt, refl), ((tt, refl), ((tt, refl), ((tt, refl), ((tt, refl), tt)))))

pub accepted' : Accepted tiny puls leer (start owning) in_turn
unfolding opened known answer number leaves
accepted' = ((tt, refl), ((tt, refl), ((tt, refl), ((tt, refl), ((tt, refl), tt)))))

fits : fits_geometry tiny owning ≡ true
unfolding opened
fits = refl

sound : consistent tiny owning ≡ true
unfolding opened
sound = refl

-- the disk of the first order between the two writes, and the one at the end
abbrev d₁ : List ℕ
d₁ = (after tiny puls leer (start owning) (one (opens 2 true 0) ∷ one (moves 0 9) ∷ one (writes one_record Random 0 (7 ∷ 8 ∷ [])) ∷ [])).disk

abbrev d₂ : List ℕ
d₂ = (after tiny puls leer (start owning) mine_first).disk

-- the entries of a file, and its granules
abbrev lies_at : List ℕ → Name → List ℕ × List ℕ
lies_at d n = (each (chain tiny d) (named tiny d n), each (owned tiny d) (named tiny d n))

mine₀ : lies_at owning puls ≡ (0x80 ∷ [], 2 ∷ [])
unfolding opened
mine₀ = refl

mine₁ : lies_at d₁ puls ≡ (0x80 ∷ [], 2 ∷ [])
unfolding opened answer number leaves
mine₁ = refl

theirs₁ : lies_at d₁ leer ≡ (0x81 ∷ [], 3 ∷ [])
unfolding opened answer number leaves
theirs₁ = refl

theirs₂ : lies_at d₂ leer ≡ (0x81 ∷ [], 3 ∷ [])
unfolding opened answer number leaves
theirs₂ = refl

same : (n : Name) (d d' : List ℕ) (at : List ℕ × List ℕ) → lies_at d n ≡ at → lies_at d' n ≡ at → Quiet tiny n d d'
same n d d' at p q = record { entries = ap (λ (x : List ℕ × List ℕ). x.0) (q ∙ sym p); granules = ap (λ (x : List ℕ × List ℕ). x.1) (q ∙ sym p) }

still : (n : Name) (d : List ℕ) → Quiet tiny n d d
still n d = record { entries = refl; granules = refl }

quiet : AllQuiet tiny puls leer (start owning) mine_first
unfolding fold answer number leaves
quiet = (still puls owning, (still puls owning, (same puls owning d₁ _ mine₀ mine₁, (still leer d₁, (same leer d₁ d₂ _ theirs₁ theirs₂, tt)))))

pub equal : d₂ ≡ (after tiny puls leer (start owning) in_turn).disk
equal =
    (demand3 tiny puls leer differ owning fits sound mine theirs mine_first in_turn (left (left (left (right (right none)))))
    (right (left (right (left (left none)))))
    accepted accepted').image quiet
