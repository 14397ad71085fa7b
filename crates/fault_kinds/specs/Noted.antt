-- What the walks come to, written down for each slot (02 §2): the first file whose walk meets it, and what leads to it.
use Rattle.std.specs.Prelude.{◌≡◌, false, cond, List, [], ◌∷◌, ℕ, ◌-◌, ◌≤◌, ◌<◌, eqb, length, get_or, set}
use Rattle.meaning.specs.Lists.{count, keep, first_or}
use Rattle.meaning.specs.Fault.{good_extension}
use Rattle.meaning.specs.declared.Geometry.{Geometry}
use Rattle.fault_kinds.specs.Tests.{starts_to, first_file, leads, good_from}

-- v at place s, unless something stands there already
unfoldable pub noted : List ℕ → ℕ → ℕ → List ℕ
noted m v s = cond (eqb (get_or m s 0) 0) (set m s v) m

unfoldable pub notes : List ℕ → ℕ → List ℕ → List ℕ
notes m v [] = m
notes m v (s ∷ ss) = notes (noted m v s) v ss

-- a slot that is written down as its number plus 1, 0 where there is none
abbrev pub slot_or : ℕ → ℕ → ℕ
slot_or z v = cond (eqb v 0) z (v - 1)

-- what stands where something is told a second time: 2
abbrev pub again : ℕ → ℕ → ℕ
again c t = cond (eqb c 0) t 2

module _ (g : Geometry) (d : List ℕ) where
  -- the walks from files below slot p are written down
  pub record WalkNoted (p : ℕ) (files : List ℕ) : Type 0 where
    pub long : length files ≡ 256
    pub first : (x : ℕ) → x < 256 → first_file g d x ≡ slot_or (first_or 256 (keep (starts_to g d x) (count p (256 - p)))) (get_or files x 0)

  -- those from all files
  pub record FileNoted (files : List ℕ) : Type 0 where
    pub long : length files ≡ 256
    pub first : (x : ℕ) → x < 256 → first_file g d x ≡ slot_or 256 (get_or files x 0)

  -- what leads to slot x from slots below b: 0 nothing, 1 one entry that x follows, 2 else
  pub record Led (b x c : ℕ) : Type 0 where
    pub few : c ≤ 2
    pub bad : c ≡ 2 → good_extension g d x ≡ false
    pub rest : c < 2 → good_extension g d x ≡ good_from g d x c (keep (leads g d x) (count b (256 - b)))

  pub record Leading (b : ℕ) (goods : List ℕ) : Type 0 where
    pub long : length goods ≡ 256
    pub led : (x : ℕ) → x < 256 → Led b x (get_or goods x 0)

  -- 1 for each extension that is in order
  pub record Told (goods : List ℕ) : Type 0 where
    pub long : length goods ≡ 256
    pub good : (x : ℕ) → x < 256 → good_extension g d x ≡ eqb (get_or goods x 0) 1
