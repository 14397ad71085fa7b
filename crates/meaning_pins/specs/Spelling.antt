-- Which names are well formed (01): a name may begin with a digit, and may hold 5BH to 5DH; the type is padded right as the name is.
use Rattle.std.specs.Prelude.{ℕ, ◌≡◌, refl, true, false, List, [], ◌∷◌, ◌++◌, replicate}
use Rattle.meaning.specs.Names.{well_formed}
use Rattle.meaning.specs.LookUp.{look_up}
use Rattle.meaning.specs.Refusal.{unplaced, placed}
use Rattle.meaning_table.specs.Samples.{three, gaps, opened}

-- a name of one letter, and a type
abbrev typed : ℕ → ℕ → ℕ → List ℕ
typed a b c = 0x41 ∷ (replicate 7 0x20 ++ (a ∷ b ∷ c ∷ []))

-- the lowest and the highest digit, the first letter and the three codes behind the last, in the name and in the type; no type, and no blank
digits-and-brackets : (well_formed (0x30 ∷ 0x39 ∷ 0x41 ∷ 0x5a ∷ 0x5b ∷ 0x5c ∷ 0x5d ∷ 0x20 ∷ 0x5d ∷ 0x39 ∷ 0x20 ∷ []) ≡ true)
    × (well_formed (0x39 ∷ replicate 10 0x20) ≡ true) × (well_formed (0x5d ∷ replicate 10 0x41) ≡ true)
unfolding opened
digits-and-brackets = (refl, refl, refl)

-- 2FH, 3AH, 40H and 5EH, beside those, are not allowed: of the name or of the type
beside-them : (well_formed (0x41 ∷ 0x2f ∷ replicate 9 0x20) ≡ false) × (well_formed (0x41 ∷ 0x3a ∷ replicate 9 0x20) ≡ false)
    × (well_formed (typed 0x40 0x20 0x20) ≡ false) × (well_formed (typed 0x41 0x5e 0x20) ≡ false)
unfolding opened
beside-them = (refl, refl, refl, refl)

-- a call by such a name: it is looked for; with a blank inside the type, or 40H there, it is refused
looked-for : look_up three gaps (0x30 ∷ 0x5d ∷ replicate 9 0x20) ≡ record { refusal = unplaced 4; slot = 0; compared = 0 }
unfolding opened
looked-for = refl

type-with-a-blank : look_up three gaps (typed 0x41 0x20 0x42) ≡ record { refusal = placed 3 10; slot = 0; compared = 0 }
unfolding opened
type-with-a-blank = refl

type-with-40H : look_up three gaps (typed 0x41 0x40 0x20) ≡ record { refusal = placed 3 9; slot = 0; compared = 0 }
unfolding opened
type-with-40H = refl
