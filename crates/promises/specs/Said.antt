-- What is said of a call: its number, what it hands back, and the image that it leaves. The promises speak of these, whoever says them; what
-- the definitions of `meaning` say, and so the library, is `says`.
use Rattle.std.specs.Prelude.{List, ℕ}
use Rattle.meaning.specs.Calls.{Call, AnswerTo, does, number, leaves}
use Rattle.meaning.specs.declared.Geometry.{Geometry}

pub record Said (c : Call) : Type 0 where
  pub number' : ℕ
  pub answer : AnswerTo c
  pub image : List ℕ

abbrev pub says : Geometry → List ℕ → (c : Call) → Said c
says g d c = record { number' = number g d c; answer = (does g d c).0; image = leaves g d c }
