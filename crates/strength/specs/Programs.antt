-- How strong the statements are (01, last section). A program is whatever answers a list of calls on a disk. It meets the statements where what
-- it says of each call, and leaves, keeps what is promised of it, on the disk that it left after the call before.
use Rattle.std.specs.Prelude.{◌≡◌, ◌≢◌, ℕ}
use mathlib.Core.List.{List, [], ◌∷◌}
use Rattle.meaning.specs.Amount.{Amount}
use Rattle.meaning.specs.Calls.{Call}
use Rattle.meaning.specs.Calls.Call.{reads}
use Rattle.meaning.specs.declared.Geometry.{Geometry}
use Rattle.meaning.specs.declared.Handle.{Handle}
use Rattle.promises.specs.Said.{Said, says}
use Rattle.promises.specs.Promises.{Promised}
use Rattle.promises.proofs.Kept.{every_call}

-- what a program is asked, and what it says of that: a number and the image that it leaves among it; and what is promised of what is said. 01's
-- calls are so (`of_calls`), and so are those that a host makes, whose handles are bytes (strength_exports).
pub record Door : Type 1 where
  pub Asked : Type 0
  pub Reply : Asked → Type 0
  pub number : (c : Asked) → Reply c → ℕ
  pub image : (c : Asked) → Reply c → List ℕ
  pub Kept : Geometry → List ℕ → (c : Asked) → Reply c → Type 0

module _ (o : Door) where
  -- what is said of each call of a list
  abbrev pub Replies : List o.Asked → Type 0
  Replies [] = Unit {0}
  Replies (c ∷ cs) = o.Reply c × Replies cs

  abbrev pub Program : Type 0
  Program = Geometry → List ℕ → (cs : List o.Asked) → Replies cs

  -- each call is promised on the disk that was left after the one before: from each state reached
  abbrev pub Keeps : Geometry → List ℕ → (cs : List o.Asked) → Replies cs → Type 0
  Keeps g d [] r = Unit {0}
  Keeps g d (c ∷ cs) r = o.Kept g d c r.0 × Keeps g (o.image c r.0) cs r.1

  abbrev pub Meets : Program → Type 0
  Meets p = (g : Geometry) (d : List ℕ) (cs : List o.Asked) → Keeps g d cs (p g d cs)

  -- a program that answers each call by itself meets them where each of its answers is kept
  unfoldable pub by_itself : ((g : Geometry) (d : List ℕ) (c : o.Asked) → o.Reply c) → Program
  by_itself f g d [] = tt
  by_itself f g d (c ∷ cs) = (f g d c, by_itself f g (o.image c (f g d c)) cs)

  pub each-kept : (f : (g : Geometry) (d : List ℕ) (c : o.Asked) → o.Reply c)
      → ((g : Geometry) (d : List ℕ) (c : o.Asked) → o.Kept g d c (f g d c)) → Meets (by_itself f)
  unfolding by_itself
  each-kept f k g d [] = tt
  each-kept f k g d (c ∷ cs) = (k g d c, each-kept f k g (o.image c (f g d c)) cs)

  -- Three programs ---------------------------------------------------------------------------------------------------------------

  -- one that refuses every call
  abbrev pub RefusesAll : Program → Type 0
  RefusesAll p = (g : Geometry) (d : List ℕ) (c : o.Asked) → o.number c (p g d (c ∷ [])).0 ≢ 0

  -- one that changes nothing
  abbrev pub ChangesNothing : Program → Type 0
  ChangesNothing p = (g : Geometry) (d : List ℕ) (c : o.Asked) → o.image c (p g d (c ∷ [])).0 ≡ d

  -- one that serves the first call of a list and fakes the others: accepted, it says of each, and leaves the image as the first left it,
  -- whatever it hands back
  abbrev pub Faked : List ℕ → (cs : List o.Asked) → Replies cs → Type 0
  Faked d [] r = Unit {0}
  Faked d (c ∷ cs) r = (o.number c r.0 ≡ 0) × (o.image c r.0 ≡ d) × Faked d cs r.1

  abbrev pub FirstOnly : Program → Type 0
  FirstOnly p =
      (g : Geometry) (d : List ℕ) (c : o.Asked) (cs : List o.Asked) → Faked (o.image c (p g d (c ∷ cs)).0) cs (p g d (c ∷ cs)).1

-- 01's calls ---------------------------------------------------------------------------------------------------------------------

-- what is said of them keeps the promises of demand 2
abbrev pub of_calls : Door
of_calls = record { Asked = Call; Reply = Said; number = λ c s. s.number'; image = λ c s. s.image; Kept = Promised }

-- the program that says what the definitions say, as the library does: it meets the statements
pub right-meets : Meets of_calls (by_itself of_calls says)
right-meets = each-kept of_calls says every_call

-- a fourth: one that answers always alike: two reads of one length into one buffer get the same bytes
abbrev pub AlwaysAlike : Program of_calls → Type 0
AlwaysAlike p =
    (g : Geometry) (d : List ℕ) (a : Amount) (h h' : Handle) (b : List ℕ) → h.len ≡ h'.len
    → (p g d (reads a h b ∷ [])).0.answer.1 ≡ (p g d (reads a h' b ∷ [])).0.answer.1
