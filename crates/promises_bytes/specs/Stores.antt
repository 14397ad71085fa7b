-- Bytes put one after the other at places that differ: each holds its own in the end, and no other place has changed.
use Rattle.std.specs.Prelude.{◌≡◌, refl, ◌≢◌, List, [], ◌∷◌, ℕ, ◌+◌, ◌*◌, ◌<◌, length, set}
use Rattle.std.proofs.Common.{sym, ◌∙◌, arith, length-set, get_or-set_same, get_or-set_other}
use Rattle.meaning.specs.Layout.{byte}
use Rattle.promises_bytes.specs.Statement.{Stores, AllAt, Away}

abbrev pub puts : List ℕ → Stores → List ℕ
puts d [] = d
puts d (s ∷ ss) = puts (set d s.0 s.1) ss

-- the places differ
abbrev pub Apart : Stores → Type 0
Apart [] = Unit {0}
Apart (s ∷ ss) = Away s.0 ss × Apart ss

-- and lie in an image of that length
abbrev pub Below : ℕ → Stores → Type 0
Below n [] = Unit {0}
Below n (s ∷ ss) = (s.0 < n) × Below n ss

pub puts-length : (ss : Stores) (d : List ℕ) → length (puts d ss) ≡ length d
puts-length [] d = refl
puts-length (s ∷ ss) d = puts-length ss (set d s.0 s.1) ∙ length-set d s.0 s.1

pub puts-away : (ss : Stores) (d : List ℕ) (i : ℕ) → Away i ss → byte (puts d ss) i ≡ byte d i
puts-away [] d i a = refl
puts-away (s ∷ ss) d i a = puts-away ss (set d s.0 s.1) i a.1 ∙ get_or-set_other d s.0 i s.1 0 a.0

pub puts-at : (ss : Stores) (d : List ℕ) (n : ℕ) → length d ≡ n → Apart ss → Below n ss → AllAt (puts d ss) ss
puts-at [] d n e a b = tt
puts-at (s ∷ ss) d n e a b = (
  puts-away ss (set d s.0 s.1) s.0 a.0 ∙ get_or-set_same d s.0 s.1 0 (rw e b.0),
  puts-at ss (set d s.0 s.1) n (length-set d s.0 s.1 ∙ e) a.1 b.1,
)

-- one byte more, elsewhere
pub at_after : (ss : Stores) (d : List ℕ) (i v : ℕ) → Away i ss → AllAt d ss → AllAt (set d i v) ss
at_after [] d i v a h = tt
at_after (s ∷ ss) d i v a h = (get_or-set_other d i s.0 v 0 (λ q. a.0 (sym q)) ∙ h.0, at_after ss d i v a.1 h.1)
