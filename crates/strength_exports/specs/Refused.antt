-- The programs of 01's last section do not meet the statements either where they speak through a host's bytes: what they leave is said of the calls
-- that refuse them (strength: Refused), whose handles are stored in 19 bytes.
use Rattle.std.specs.Prelude.{◌≡◌, refl, List, [], ◌∷◌, ℕ, get_or}
use Rattle.std.proofs.Common.{sym, ap, subst, ◌∙◌}
use Rattle.meaning.specs.Amount.{one_record}
use Rattle.meaning.specs.Names.{fold}
use Rattle.meaning.specs.declared.Geometry.{Geometry}
use Rattle.meaning_table.specs.Samples.{three, sample}
use Rattle.promises.specs.Promises.{Promised, matching}
use Rattle.genie_codec.specs.Codec.{handle_of, bytes_of}
use Rattle.genie.specs.Exports.{moves}
use Rattle.promises_exports.specs.Host.{HostCall, LeftToHost, checks, looks_up, reads, kills}
use Rattle.strength.specs.Programs.{Program, Meets, RefusesAll, ChangesNothing, FirstOnly}
use Rattle.strength.specs.Refused.{check-refused, from, reads-alike, to_kill, killing, kill-unchanged, killed-twice}
use Rattle.strength_exports.specs.Programs.{of_host, AlwaysAlike}

number_of : {l l' : LeftToHost} → l ≡ l' → l.number ≡ l'.number
number_of e = ap (λ (l : LeftToHost). l.number) e

image-of : {l l' : LeftToHost} → l ≡ l' → l.image ≡ l'.image
image-of e = ap (λ (l : LeftToHost). l.image) e

buffer-of : {l l' : LeftToHost} → l ≡ l' → l.buffer ≡ l'.buffer
buffer-of e = ap (λ (l : LeftToHost). l.buffer) e

told_of : (i : ℕ) {l l' : LeftToHost} → l ≡ l' → get_or l.told i 0 ≡ get_or l'.told i 0
told_of i e = ap (λ (l : LeftToHost). get_or l.told i 0) e

pub refuses-all : (p : Program of_host) → Meets of_host p → RefusesAll of_host p → ⊥
refuses-all p m r =
    let x = (m three sample (checks ∷ [])).0.said refl in
    check-refused x.0 x.1 (λ e. r three sample checks (number_of x.2 ∙ e))

-- a read of one byte at that position, the handle in 19 bytes
abbrev read_at : ℕ → HostCall
read_at i = reads one_record (bytes_of (from i)) (0 ∷ [])

pub always-alike : (p : Program of_host) → Meets of_host p → AlwaysAlike p → ⊥
unfolding handle_of bytes_of moves
always-alike p m r =
    let x = (m three sample (read_at 255 ∷ [])).0.said refl in
    let y = (m three sample (read_at 256 ∷ [])).0.said refl in
    reads-alike x.0 y.0 x.1 y.1
    (sym (buffer-of x.2) ∙ r three sample one_record (bytes_of (from 255)) (bytes_of (from 256)) (0 ∷ []) refl ∙ buffer-of y.2)

abbrev kill_by : HostCall
kill_by = kills (bytes_of to_kill)

pub changes-nothing : (p : Program of_host) → Meets of_host p → ChangesNothing of_host p → ⊥
unfolding handle_of bytes_of
changes-nothing p m r =
    let x = (m three sample (kill_by ∷ [])).0.said refl in
    kill-unchanged x.0 x.1 (sym (image-of x.2) ∙ r three sample kill_by)

pub first-only : (p : Program of_host) → Meets of_host p → FirstOnly of_host p → ⊥
unfolding handle_of bytes_of
first-only p m r =
    let k = m three sample (kill_by ∷ kill_by ∷ []) in
    let x = k.0.said refl in
    let y = k.1.0.said refl in
    killed-twice x.0 y.0 x.1 (subst (λ (d : List ℕ). Promised three d killing y.0) (image-of x.2) y.1)
    (sym (number_of y.2) ∙ (r three sample kill_by (kill_by ∷ [])).0)

-- an invented comparison count
pub count-fixed : (p : Program of_host) → Meets of_host p → (g : Geometry) (d n : List ℕ) → let l = (p g d (looks_up n ∷ [])).0 in
    l.number ≡ 0 → get_or l.told 3 0 ≡ matching g d (fold n) (get_or l.told 2 0)
count-fixed p m g d n e =
    let x = (m g d (looks_up n ∷ [])).0.said refl in
    told_of 3 x.2 ∙ (x.1.serves (sym (number_of x.2) ∙ e)).1.compared ∙ ap (matching g d (fold n)) (sym (told_of 2 x.2))
