-- Worked cases of the two rules, computed
use Rattle.std.specs.Prelude.{◌≡◌, refl, Bool, false, not, ◌&&◌, ◌||◌, List, [], ◌∷◌, ◌++◌, ℕ, eqb}
use Rattle.std.proofs.Common.{arith}
use Rattle.meaning.specs.Lists.{count, keep, first_or}
use Rattle.meaning.specs.Choice.{State, Last, no_run, last_run, Choice}
use Rattle.meaning.specs.Stretch.{stretch, longest_in, low_end}
use Rattle.laws_choice.specs.Theorem.{Grown, grown, no_slot, grow, and_then, or_else, growth}
use Rattle.laws_choice.specs.Rules
use Rattle.laws_choice.specs.Rules.{first_rule, second_rule, take_one}

has : List ℕ → ℕ → Bool
has [] n = false
has (x ∷ xs) n = eqb n x || has xs n

-- a disk with these granules free
disk : List ℕ → Last → ℕ → State
disk free last room = record { taken = λ n. not (has free n); last = last; room = room }

-- the granules that a growth took, and the file's last run after it
data Answer : Type 0 where
  stuck : Answer
  took : List ℕ → Last → ℕ → Answer

answer : ℕ → State → Grown State → Answer
answer granules v (grown w) = took (keep (λ n. w.taken n && not (v.taken n)) (count 0 granules)) w.last w.room
answer granules v no_slot = stuck

run : ℕ → ℕ → Last
run first many = last_run (record { first = first; many = many })

second : ℕ → ℕ → ℕ → State → Answer
second limit granules k v = answer granules v (grow (second_rule limit granules) k v)

-- 01's rule alone
first : ℕ → ℕ → ℕ → State → Answer
first limit granules k v = answer granules v (grow (first_rule limit granules) k v)

-- 01's where it fits, else the second
whole : ℕ → ℕ → ℕ → State → Answer
whole limit granules k v = answer granules v (growth (first_rule limit granules) (second_rule limit granules) k v)

-- (a) a file without a run, no slot: four pairs. A long free stretch stands open behind scattered granules.
a : State
a = disk (0 ∷ 2 ∷ 4 ∷ 6 ∷ 8 ∷ count 20 10) no_run 4

a_first : first 32 30 8 a ≡ stuck
unfolding a first answer grow and_then take_one first_or disk has run
a_first = refl

a-whole : whole 32 30 8 a ≡ took (count 20 8) (run 20 8) 3
unfolding a whole growth or_else answer grow and_then take_one first_or disk has run stretch longest_in low_end
a-whole = refl

a-four : whole 32 30 4 a ≡ took (0 ∷ 2 ∷ 4 ∷ 6 ∷ []) (run 6 1) 0
unfolding a whole growth or_else answer grow and_then take_one first_or disk has run stretch longest_in low_end
a-four = refl

-- (c) last run 5 to 7, one pair
c : State
c = disk (0 ∷ 2 ∷ (count 8 5 ++ (count 20 5 ++ count 30 5))) (run 5 3) 1

c-eight : whole 32 35 8 c ≡ took (count 8 5 ++ count 20 3) (run 20 3) 0
unfolding c whole growth or_else answer grow and_then take_one first_or disk has run stretch longest_in low_end
c-eight = refl

c-ten : whole 32 35 10 c ≡ took (count 8 5 ++ count 20 5) (run 20 5) 0
unfolding c whole growth or_else answer grow and_then take_one first_or disk has run stretch longest_in low_end
c-ten = refl

c-eleven : whole 32 35 11 c ≡ stuck
unfolding c whole growth or_else answer grow and_then take_one first_or disk has run stretch longest_in low_end
c-eleven = refl

-- (d) last run 9 to 39 (31 granules), one pair: 40 lengthens, then 41 to 48 are a run of their own
d : State
d = disk (0 ∷ (count 40 10 ++ (60 ∷ 61 ∷ []))) (run 9 31) 1

d-nine : whole 32 62 9 d ≡ took (count 40 9) (run 41 8) 0
unfolding d whole growth or_else answer grow and_then take_one first_or disk has run stretch longest_in low_end
d-nine = refl

-- 01 as far as it goes, then the rest, is not good enough: limit 2, last run 1 and 2, free 0, 3, 4, one pair, two granules
mix : State
mix = disk (0 ∷ 3 ∷ 4 ∷ []) (run 1 2) 1

mix_first : first 2 5 2 mix ≡ stuck
unfolding mix first answer grow and_then take_one first_or disk has run
mix_first = refl

mix-whole : whole 2 5 2 mix ≡ took (3 ∷ 4 ∷ []) (run 3 2) 0
unfolding mix whole growth or_else answer grow and_then take_one first_or disk has run stretch longest_in low_end
mix-whole = refl

-- the longest stretch by its whole length, and asked anew at each run: limit 3, free 10 to 13, 20 to 22, 0, 2, two runs
anew : State
anew = disk (0 ∷ 2 ∷ (count 10 4 ++ count 20 3)) no_run 2

anew-six : second 3 23 6 anew ≡ took (count 10 3 ++ count 20 3) (run 20 3) 0
unfolding anew second answer grow and_then take_one first_or disk has run stretch longest_in low_end
anew-six = refl

anew-seven : second 3 23 7 anew ≡ stuck
unfolding anew second answer grow and_then take_one first_or disk has run stretch longest_in low_end
anew-seven = refl

-- the lower of two as long
tie : State
tie = disk (0 ∷ (count 5 2 ++ count 9 2)) no_run 1

tie-two : second 32 12 2 tie ≡ took (5 ∷ 6 ∷ []) (run 5 2) 0
unfolding tie second answer grow and_then take_one first_or disk has run stretch longest_in low_end
tie-two = refl

-- the same with 32: free 100 to 132, 200 to 231, 0, 2, two pairs, 64 granules; there is none of 65
large : State
large = disk (0 ∷ 2 ∷ (count 100 33 ++ count 200 32)) no_run 2

large-all : whole 32 232 64 large ≡ took (count 100 32 ++ count 200 32) (run 200 32) 0
unfolding large whole growth or_else answer grow and_then take_one first_or disk has run stretch longest_in low_end
large-all = refl

large-more : whole 32 232 65 large ≡ stuck
unfolding large whole growth or_else answer grow and_then take_one first_or disk has run stretch longest_in low_end
large-more = refl

-- so, by the theorem, no choice of 65 granules fits there, whichever way it be taken
large-stuck : grow (second_rule 32 232) 65 large ≡ no_slot
unfolding large grow and_then take_one disk has stretch longest_in low_end
large-stuck = refl

large-none : Choice 32 232 large 65 → ⊥
unfolding large disk
large-none = (Rules.stuck-iff 32 232 (omega arith) large (Rules.stands-none 232 large refl) 65).0 large-stuck
