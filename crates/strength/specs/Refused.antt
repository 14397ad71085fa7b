-- The four programs of 01's last section do not meet the statements, each by the promise that 01 names: a disk and calls that show it. Each is
-- refused by what it says of those calls, whoever says it and through whatever door.
use Rattle.std.specs.Prelude.{◌≡◌, refl, ◌≢◌, List, [], ◌∷◌, ◌++◌, ℕ, get_or, take, drop}
use Rattle.std.proofs.Common.{sym, ap, ◌∙◌, arith}
use Rattle.meaning.specs.Amount.{one_record}
use Rattle.meaning.specs.Names.{fold}
use Rattle.meaning.specs.Calls.{Call, number}
use Rattle.meaning.specs.Plain.{File, found, plain, file_at}
use Rattle.meaning_table.specs.Samples.{opened, three, sample, puls, held}
use Rattle.meaning.specs.declared.Geometry.{Geometry}
use Rattle.meaning.specs.declared.Handle.{Handle}
use Rattle.meaning.specs.Calls.Call.{checks, looks_up, reads, kills}
use Rattle.promises.specs.Said.{Said}
use Rattle.promises.specs.Promises
use Rattle.promises.specs.Promises.{Promised, matching}
use Rattle.promises.proofs.Kept.{every_call}
use Rattle.strength.specs.Programs.{Program, Meets, RefusesAll, AlwaysAlike, ChangesNothing, FirstOnly, of_calls}
use Rattle.strength.specs.Fixed.{one_number, one-file, there-or-not}

-- `numbers`: each number exactly in its case. So the number is the one that the definitions give, whoever says it.
numbered : (g : Geometry) (d : List ℕ) (c : Call) (s : Said c) → Promised g d c s → s.number' ≡ number g d c
numbered g d c s x = one_number (Promises.table g d c) (Unit {0}) tt s.number' (number g d c) x.numbers (every_call g d c).numbers

-- Refuses every call: on this disk the check gives no number.
served : number three sample checks ≡ 0
unfolding opened number
served = refl

pub check-refused : (s : Said checks) → Promised three sample checks s → s.number' ≢ 0 → ⊥
check-refused s x r = r (numbered three sample checks s x ∙ served)

pub refuses-all : (p : Program of_calls) → Meets of_calls p → RefusesAll of_calls p → ⊥
refuses-all p m r = check-refused (p three sample (checks ∷ [])).0 (m three sample (checks ∷ [])).0 (r three sample checks)

-- Answers always alike: `Reads` says which bytes. Two bytes of one file differ.
abbrev pub from : ℕ → Handle
from i = held 0xa3 puls i 1 0

abbrev pub byte_at : ℕ → Call
byte_at i = reads one_record (from i) (0 ∷ [])

first_read : number three sample (byte_at 255) ≡ 0
unfolding opened number
first_read = refl

second-read : number three sample (byte_at 256) ≡ 0
unfolding opened number
second-read = refl

file-there : plain three sample puls ≡ found (file_at three sample 0xa3)
unfolding opened
file-there = refl

first_byte : take 1 (drop 255 (file_at three sample 0xa3).bytes) ≡ 0x43 ∷ []
unfolding opened
first_byte = refl

second-byte : take 1 (drop 256 (file_at three sample 0xa3).bytes) ≡ 0x44 ∷ []
unfolding opened
second-byte = refl

pub reads-alike : (s : Said (byte_at 255)) (s' : Said (byte_at 256)) → Promised three sample (byte_at 255) s → Promised three sample (byte_at 256) s'
    → s.answer.1 ≡ s'.answer.1 → ⊥
reads-alike s s' x x' r =
    let v = (x.serves (numbered three sample (byte_at 255) s x ∙ first_read)).1 in
    let w = (x'.serves (numbered three sample (byte_at 256) s' x' ∙ second-read)).1 in
    let a : s.answer.1 ≡ 0x43 ∷ [] =
    v.buffer ∙ ap (λ (f : File). take 1 (drop 255 f.bytes) ++ []) (one-file v.called file-there) ∙ ap (λ (b : List ℕ). b ++ []) first_byte in
    let b : s'.answer.1 ≡ 0x44 ∷ [] =
    w.buffer ∙ ap (λ (f : File). take 1 (drop 256 f.bytes) ++ []) (one-file w.called file-there) ∙ ap (λ (b : List ℕ). b ++ []) second-byte in
    let z : ◌≡◌ {A = ℕ} 0x43 0x44 = ap (λ (b : List ℕ). get_or b 0 0) (sym a ∙ r ∙ b) in
    omega arith

pub always-alike : (p : Program of_calls) → Meets of_calls p → AlwaysAlike p → ⊥
always-alike p m r =
    reads-alike (p three sample (byte_at 255 ∷ [])).0 (p three sample (byte_at 256 ∷ [])).0
    (m three sample (byte_at 255 ∷ [])).0 (m three sample (byte_at 256 ∷ [])).0 (r three sample one_record (from 255) (from 256) (0 ∷ []) refl)

-- Changes nothing: it satisfies the interleaving rule, but `Changes` says what a kill leaves: no file of that name.
abbrev pub to_kill : Handle
to_kill = held 0xa3 puls 0 256 1

abbrev pub killing : Call
killing = kills to_kill

killed : number three sample killing ≡ 0
unfolding opened number
killed = refl

pub kill-unchanged : (s : Said killing) → Promised three sample killing s → s.image ≡ sample → ⊥
kill-unchanged s x r =
    let v = (x.serves (numbered three sample killing s x ∙ killed)).becomes in
    there-or-not v.before (sym (ap (λ (d : List ℕ). plain three d puls) r) ∙ v.after)

pub changes-nothing : (p : Program of_calls) → Meets of_calls p → ChangesNothing of_calls p → ⊥
changes-nothing p m r = kill-unchanged (p three sample (killing ∷ [])).0 (m three sample (killing ∷ [])).0 (r three sample killing)

-- Serves the first call and fakes the others: the promises hold from each state reached. After a kill the file is gone, so no second one is
-- accepted, whatever image the program has left.
pub killed-twice : (s s' : Said killing) → Promised three sample killing s → Promised three s.image killing s' → s'.number' ≡ 0 → ⊥
killed-twice s s' x y r =
    there-or-not (y.serves r).becomes.before (x.serves (numbered three sample killing s x ∙ killed)).becomes.after

pub first-only : (p : Program of_calls) → Meets of_calls p → FirstOnly of_calls p → ⊥
first-only p m r =
    let q = p three sample (killing ∷ killing ∷ []) in let k = m three sample (killing ∷ killing ∷ []) in
    killed-twice q.0 q.1.0 k.0 k.1.0 (r three sample killing (killing ∷ [])).0

-- An invented comparison count falls to the look-up rule: so many slots up to the one told have the hash.
pub count-fixed : (p : Program of_calls) → Meets of_calls p → (g : Geometry) (d n : List ℕ) → (p g d (looks_up n ∷ [])).0.number' ≡ 0
    → (p g d (looks_up n ∷ [])).0.answer.compared ≡ matching g d (fold n) (p g d (looks_up n ∷ [])).0.answer.slot
count-fixed p m g d n e = ((m g d (looks_up n ∷ [])).0.serves e).1.compared
