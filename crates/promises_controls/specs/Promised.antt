-- `Promised`: what is said of a call, and left.
use Rattle.std.specs.Prelude.{ℕ, ◌+◌, ◌≡◌, refl, true, List, [], ◌∷◌, get_or}
use Rattle.std.proofs.Common.{ap}
use Rattle.meaning.specs.Amount.{one_record}
use Rattle.meaning.specs.Refusal.{unplaced}
use Rattle.meaning.specs.Calls.Call.{checks, looks_up, opens, reads, reads_sector, kills, counts}
use Rattle.meaning.specs.declared.Handle.{Handle}
use Rattle.meaning_table.specs.Samples.{leer, held, e82, opened}
use Rattle.promises.specs.Promises.{Promised}
use Rattle.promises_controls.specs.Disks.{six, base, but, hold, neu, differ}

-- a byte of a dead entry is another
abbrev other : List ℕ
other = but ((e82 + 7, 0x99) ∷ [])

byte_there : List ℕ → ℕ
byte_there d = get_or d (e82 + 7) 0

-- told: one number beside the answer, another in it
told : Promised six base checks (record { number' = 0; answer = unplaced 1; image = base }) → ⊥
told p = differ 1 0 refl p.told

-- serves: a check that writes
check-writes : Promised six base checks (record { number' = 0; answer = unplaced 0; image = other }) → ⊥
unfolding byte_there
check-writes p = differ 0x99 0 refl (ap byte_there (p.serves refl).0)

-- refuses: a kill that is refused, and writes; that moves the handle
refused-writes : Promised six base (kills (hold 0 256 2))
    (record { number' = 6; answer = record { refusal = unplaced 6; handle = hold 0 256 2 }; image = other }) → ⊥
unfolding byte_there
refused-writes p = differ 0x99 0 refl (ap byte_there (p.refuses (differ 6 0 refl)).0)

refused-moves : Promised six base (kills (hold 0 256 2)) (record
    { number' = 6; answer = record { refusal = unplaced 6; handle = hold 1 256 2 }; image = base }) → ⊥
refused-moves p = differ 1 0 refl (ap (λ (h : Handle). h.at) (p.refuses (differ 6 0 refl)).1)

-- a read that is refused, and leaves another buffer; an open, and a handle that is not of zeros; a sector, and a part; look up, and a slot
refused-read : Promised six base (reads one_record (hold 2 1 0) (7 ∷ []))
    (record { number' = 10; answer = (record { refusal = unplaced 10; handle = hold 2 1 0 }, 8 ∷ []); image = base }) → ⊥
refused-read p = differ 8 7 refl (ap (λ (b : List ℕ). get_or b 0 0) (p.refuses (differ 10 0 refl)).1.1)

refused-open : Promised six base (opens neu 256 true 0) (record
    { number' = 4; answer = record { refusal = unplaced 4; handle = hold 0 256 0 }; image = base }) → ⊥
refused-open p = differ 0x81 0 refl (ap (λ (h : Handle). h.slot) (p.refuses (differ 4 0 refl)).1)

refused-sector : Promised six base (reads_sector (hold 0 256 0) 1)
    (record { number' = 10; answer = record { refusal = unplaced 10; from = 0; to = 1 }; image = base }) → ⊥
refused-sector p = differ 1 0 refl (p.refuses (differ 10 0 refl)).1.1

refused-look : Promised six base (looks_up neu) (record { number' = 4; answer = record { refusal = unplaced 4; slot = 1; compared = 0 }; image = base }) → ⊥
refused-look p = differ 1 0 refl (p.refuses (differ 4 0 refl)).1.slot

refused-counts : Promised six base counts (record { number' = 22; answer = record { refusal = unplaced 22; files = 1; free = 0 }; image = base }) → ⊥
refused-counts p = differ 1 0 refl (p.refuses (differ 22 0 refl)).1.0
