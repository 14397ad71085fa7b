-- What the playback's loop keeps: after i steps image and results are those of the first i, and the disk is good, so that what the check answered
-- of the first disk still holds.
use mathlib.Core.Path.{◌≡◌, refl, sym, ap, subst, ◌∙◌}
use mathlib.Core.List.{List, [], ◌∷◌, ◌++◌, append_assoc}
use Prim.Native.Nat.{ℕ, suc, ◌+◌, ◌≤◌, ◌<◌}
use native.Mathlib.Numerals.{add-one}
use native.Mathlib.Omega.{arith}
use lib.ListN.{length, get_or, set, take, drop, length-set}
use lib.Seq.{take-suc, set_at, drop-cons, take-length, length-take-le}
use Rattle.meaning.specs.Refusals.{check}
use Rattle.meaning.specs.declared.Geometry.{Geometry}
use Rattle.meaning.specs.declared.Refusal.{Refusal}
use Rattle.lists.specs.Members
use Rattle.laws.specs.Facts
use Rattle.laws.specs.Bytes.{small_bytes}
use Rattle.laws.specs.Passed.{check-passed, check-none, served-check}
use Rattle.promises.specs.Promises.{Good, Stays}
use Rattle.play_trace.specs.Steps.{no_step}
use Rattle.play_trace.specs.Reading.{Trace, Reading, read_trace, steps_of, names_of}
use Rattle.play_trace.specs.declared.Step.{Step}
use Rattle.promises_trace.specs.Promises.{step_fits}
use Rattle.play_session.specs.Playing.{made, stepped, played, one_each}
use Rattle.promises_session.specs.Staying.{stepped-stays}
use Rattle.play.specs.Told.{told}

module _ (g : Geometry) (ns : List (List ℕ)) where
  -- one step more at the end
  results-snoc : (ss : List Step) (s : Step) (d : List ℕ)
      → (played g ns (ss ++ (s ∷ [])) d).0 ≡ (played g ns ss d).0 ++ ((stepped g ns (played g ns ss d).1 s).0 ∷ [])
  unfolding played
  results-snoc [] s d = refl
  results-snoc (x ∷ ss) s d = ap (λ (r : List ℕ). (stepped g ns d x).0 ∷ r) (results-snoc ss s (stepped g ns d x).1)

  image-snoc : (ss : List Step) (s : Step) (d : List ℕ) → (played g ns (ss ++ (s ∷ [])) d).1 ≡ (stepped g ns (played g ns ss d).1 s).1
  unfolding played
  image-snoc [] s d = refl
  image-snoc (x ∷ ss) s d = image-snoc ss s (stepped g ns d x).1

-- after i of the steps: the results stand at the front of the buffer, and the rest of it is as it stood
pub record Playing (g : Geometry) (r : Reading Trace) (calls : ℕ) (d₀ rs₀ d rs : List ℕ) (i : ℕ) : Type 0 where
  pub results : rs ≡ (played g (names_of r) (take i (steps_of r)) d₀).0 ++ drop i rs₀
  pub image : d ≡ (played g (names_of r) (take i (steps_of r)) d₀).1
  pub good : Good g d
  pub long : length d ≡ length d₀
  pub room : length rs ≡ length rs₀
  pub within : i ≤ calls

-- a disk that the check has passed, and whose members are bytes
pub good-disk : (g : Geometry) (d : List ℕ) {c : Refusal} → c ≡ check g d → c.number ≡ 0 → ((i : ℕ) → get_or d i 0 < 256) → Good g d
good-disk g d e z b =
    let w = check-passed g d (sym (ap (λ (x : Refusal). x.number) e) ∙ z) in
    record { fits = Members.T_true w.fits; sound = Facts.back g d w.sound; bytes = small_bytes d (record { below = b }) }

-- What the check answered of the first disk, 0, it answers of every good one.
pub still : (g : Geometry) (d d' : List ℕ) {c : Refusal} → c ≡ check g d → c.number ≡ 0 → Good g d' → c ≡ check g d'
still g d d' e z o =
    e ∙ served-check g d (check-passed g d (sym (ap (λ (x : Refusal). x.number) e) ∙ z)) ∙ sym (check-none g d' o.fits o.sound)

pub playing-first : (g : Geometry) (r : Reading Trace) (calls : ℕ) (d rs : List ℕ) → Good g d → Playing g r calls d rs d rs 0
unfolding played
playing-first g r calls d rs o = record { results = refl; image = refl; good = o; long = refl; room = refl; within = omega arith }

pub playing-on : {g : Geometry} (t : List ℕ) {calls : ℕ} {d₀ rs₀ d rs : List ℕ} {i : ℕ} → Playing g (read_trace t) calls d₀ rs₀ d rs i → i < calls
    → calls ≡ length (steps_of (read_trace t)) → calls ≤ length rs₀ → {s : Step} {x : List ℕ} {v : ℕ} {d' : List ℕ}
    → s ≡ get_or (steps_of (read_trace t)) i no_step → x ≡ get_or (names_of (read_trace t)) s.file [] → (v, d') ≡ made g d x s.call
    → Playing g (read_trace t) calls d₀ rs₀ d' (set rs i v) (i + 1)
playing-on {g} t {calls} {d₀} {rs₀} {d} {rs} {i} p l n w {s} {x} {v} {d'} es ex e =
    let ns = names_of (read_trace t) in
    let ss = steps_of (read_trace t) in
    let a : (v, d') ≡ stepped g ns d s = e ∙ ap (λ (y : List ℕ). made g d y s.call) ex in
    let f = step_fits t i (omega (arith, n)) in
    let stays : Stays g d (stepped g ns d (get_or ss i no_step)).1 = stepped-stays g d p.good ns (get_or ss i no_step) f in
    let a₁ : (v, d') ≡ stepped g ns d (get_or ss i no_step) = a ∙ ap (λ (y : Step). stepped g ns d y) es in
    let a₂ : (v, d') ≡ stepped g ns (played g ns (take i ss) d₀).1 (get_or ss i no_step) = a₁ ∙ ap (λ (y : List ℕ). stepped g ns y (get_or ss i no_step))
    p.image in
    let taken : take (i + 1) ss ≡ take i ss ++ (get_or ss i no_step ∷ []) = ap (λ (k : ℕ). take k ss) (add-one i) ∙ take-suc ss i no_step (omega (arith, n)) in
    let k : length (played g ns (take i ss) d₀).0 ≡ i = one_each g ns (take i ss) d₀ ∙ length-take-le i ss (omega (arith, n)) in
    let h : set rs i v ≡ (played g ns (take i ss) d₀).0 ++ (v ∷ drop (i + 1) rs₀)
    = ap (λ (y : List ℕ). set y i v) (p.results ∙ ap (λ (y : List ℕ). (played g ns (take i ss) d₀).0 ++ y) (drop-cons rs₀ i 0 (omega (arith, w))))
    ∙ set_at (played g ns (take i ss) d₀).0 (get_or rs₀ i 0) (drop (suc i) rs₀) v i k
    ∙ ap (λ (m : ℕ). (played g ns (take i ss) d₀).0 ++ (v ∷ drop m rs₀)) (sym (add-one i)) in
    let u : (played g ns (take (i + 1) ss) d₀).0 ≡ (played g ns (take i ss) d₀).0 ++ (v ∷ [])
    = ap (λ (y : List Step). (played g ns y d₀).0) taken ∙ results-snoc g ns (take i ss) (get_or ss i no_step) d₀
    ∙ ap (λ (y : ℕ × List ℕ). (played g ns (take i ss) d₀).0 ++ (y.0 ∷ [])) (sym a₂) in
    record {
      results = h ∙ sym (ap (λ (y : List ℕ). y ++ drop (i + 1) rs₀) u ∙ append_assoc (played g ns (take i ss) d₀).0 (v ∷ []) (drop (i + 1) rs₀));
      image = ap (λ (y : ℕ × List ℕ). y.1) a₂ ∙ sym (ap (λ (y : List Step). (played g ns y d₀).1) taken ∙ image-snoc g ns (take i ss) (get_or ss i no_step) d₀);
      good = subst (Good g) (sym (ap (λ (y : ℕ × List ℕ). y.1) a₁)) stays.good;
      long = ap (λ (y : ℕ × List ℕ). length y.1) a₁ ∙ stays.long ∙ p.long;
      room = length-set rs i v ∙ p.room;
      within = omega arith;
    }

pub playing-last : {g : Geometry} (r : Reading Trace) {calls : ℕ} {d₀ rs₀ d rs : List ℕ} {i : ℕ} → Playing g r calls d₀ rs₀ d rs i → calls ≤ i → calls ≡
    length (steps_of r)
    → (rs, d) ≡ told g r d₀ rs₀
playing-last {g} r {calls} {d₀} {rs₀} {d} {rs} {i} p l n =
    let k : i ≡ length (steps_of r) = omega (arith, p.within) in
    let t : take i (steps_of r) ≡ steps_of r = ap (λ (m : ℕ). take m (steps_of r)) k ∙ take-length (steps_of r) in
    λ j. ((p.results ∙ (λ j. (played g (names_of r) (t j) d₀).0 ++ drop (k j) rs₀)) j, (p.image ∙ ap (λ (y : List Step). (played g (names_of r) y d₀).1) t) j)
