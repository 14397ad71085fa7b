-- A refusal as a value: its number, what goes with it, and the image that it names.
use Rattle.std.specs.Prelude.{ℕ, cond, eqb}
use Rattle.meaning.specs.Names.{no_place}
use Rattle.meaning.specs.declared.Refusal.{Refusal}

-- told where nothing goes with a number: no slot has this one
abbrev pub nowhere : ℕ
nowhere = 256

-- a number with nothing beside it; 0 with nothing beside it is acceptance
abbrev pub unplaced : ℕ → Refusal
unplaced n = record { number = n; image = 0; at = nowhere }

-- a fault's number with its slot (02 §2: "say what is inconsistent, and where"), or 3 with its place (02 §7: "3 now carries a place, 0 to 10")
abbrev pub placed : ℕ → ℕ → Refusal
placed n s = record { number = n; image = 0; at = s }

-- the same refusal, naming an image
abbrev pub naming : ℕ → Refusal → Refusal
naming i c = record { number = c.number; image = i; at = c.at }

-- what goes with number n where c was found before: c's, if the number is c's own; else nothing
unfoldable pub beside : Refusal → ℕ → Refusal
beside c n = cond (eqb n c.number) c (unplaced n)

-- the refusal of number n, where c was found before
abbrev pub carried : Refusal → ℕ → Refusal
carried c n = record { number = n; image = (beside c n).image; at = (beside c n).at }

-- what goes with number n where c was found before, and e after it: c's or e's, if the number is its own; else nothing
unfoldable pub beside_two : Refusal → Refusal → ℕ → Refusal
beside_two c e n = cond (eqb n c.number) c (beside e n)

-- the refusal of number n, where c was found before, and e after it
abbrev pub carried_two : Refusal → Refusal → ℕ → Refusal
carried_two c e n = record { number = n; image = (beside_two c e n).image; at = (beside_two c e n).at }

-- What goes with a number is a place under 3, and a slot under any other ------------------------------------------------------

-- the place that a refusal tells of; `no_place` under any number but 3
unfoldable pub place_of : Refusal → ℕ
place_of c = cond (eqb c.number 3) c.at no_place

-- the slot that it tells of; `nowhere` where there is none
unfoldable pub slot_told : Refusal → ℕ
slot_told c = cond (eqb c.number 3) nowhere c.at
