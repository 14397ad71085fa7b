-- What each exported function hands back, case by case.
use mathlib.Core.Path.{◌≡◌, refl, sym, ap, ◌∙◌}
use mathlib.Core.List.{List, [], ◌∷◌}
use mathlib.Core.Bool.{Bool, true, false, not, cond}
use Prim.Native.Nat.{ℕ}
use lib.Seq.{sets}
use native.Mathlib.Omega.{arith}
use native.Mathlib.Decide.{ℕ_discrete}
use borrow.Author.Tests.{eq-eqb, ne_eqb, not-true, not-false}
use Rattle.meaning.specs.Names.{comes_in, no_place}
use Rattle.meaning.specs.Refusal.{place_of, slot_told}
use Rattle.meaning.specs.Refusals.{first, check, refusal, disk_refusals}
use Rattle.meaning.specs.declared.Geometry.{Geometry}
use Rattle.meaning.specs.declared.Answer.{Answer}
use Rattle.meaning.specs.declared.Created.{Created}
use Rattle.meaning.specs.declared.Incoming.{Incoming}
use Rattle.meaning.specs.declared.LookedUp.{LookedUp}
use Rattle.meaning.specs.declared.Listed.{Listed}
use Rattle.laws.specs.Carried.{carried-own, carried_other}
use Rattle.lists.specs.Tests.{first-hit}
use Rattle.passed.proofs.Checked.{check-stop, check-then}
use Rattle.refusal.specs.Short.{short}
use Rattle.name_spelling.specs.Hands.{Hands}
use Rattle.name_spelling.proofs.Comes.{hands-bad, hands-good, hands-name}
use Rattle.refusal.proofs.Lent.{stops, is-short}
use Rattle.genie_codec.specs.Codec.{stored}
use Rattle.genie_codec.specs.Words.{told}
use Rattle.genie.specs.Exports.{too_short, moves, opens, creates, looks, names, tells}

-- what an export answers of the disk that its numbers state
pub at-disk : {T : Type 0} {g g' : Geometry} {x : T} (f : Geometry → T) → g ≡ g' → x ≡ f g → x ≡ f g'
at-disk f e q = q ∙ ap f e

-- what is lent too short: the check's refusal, or 12
pub short-is : (g : Geometry) (d : List ℕ) → too_short g d ≡ short (check g d)
unfolding too_short
short-is g d = by (ℕ_discrete (check g d).number 0)
  where
    by : Dec ((check g d).number ≡ 0) → refusal g d (first (disk_refusals g d ((12, true) ∷ []))) ≡ short (check g d)
    by (yes z) =
        ap (refusal g d) (check-then g d ((12, true) ∷ []) refl z ∙ first-hit refl 12 [])
        ∙ carried_other (check g d) (λ e. omega (arith, e, z)) ∙ is-short (check g d) z
    by (no z) = carried-own (check g d) (sym (check-stop g d ((12, true) ∷ []) refl z)) ∙ stops (check g d) z

-- refused and accepted, of a call that moves
pub stays : (b : List ℕ) (a : Answer) (x : List ℕ) {p : Answer × List ℕ} → (a.refusal.number ≡ 0 → ⊥) → ◌≡◌ {A = Answer × List ℕ} (a, x) p
    → ◌≡◌ {A = ℕ × ℕ × List ℕ × List ℕ} (a.refusal.number, a.refusal.at, b, x) (moves b p)
unfolding moves
stays b a x h q = ap (λ (t : Bool). (a.refusal.number, a.refusal.at, cond t (stored b a.handle) b, x)) (sym (ne_eqb a.refusal.number 0 h)) ∙ ap
    (moves b) q

pub moved : (b : List ℕ) (a : Answer) (x : List ℕ) {p : Answer × List ℕ} {b' : List ℕ} → a.refusal.number ≡ 0 → b' ≡ stored b a.handle
    → ◌≡◌ {A = Answer × List ℕ} (a, x) p → ◌≡◌ {A = ℕ × ℕ × List ℕ × List ℕ} (0, a.refusal.at, b', x) (moves b p)
unfolding moves
moved b a x h e q =
    ap (λ (c : List ℕ). (0, a.refusal.at, c, x)) e ∙ ap (λ (n : ℕ). (n, a.refusal.at, stored b a.handle, x)) (sym h)
    ∙ ap (λ (t : Bool). (a.refusal.number, a.refusal.at, cond t (stored b a.handle) b, x)) (sym (eq-eqb a.refusal.number 0 h)) ∙ ap (moves b) q

-- the slot and the place that go out with a refusal of a call by name
pub opened : (b : List ℕ) (a : Answer) {a' : Answer} {s p : ℕ} {b' : List ℕ} → s ≡ slot_told a.refusal → p ≡ place_of a.refusal
    → b' ≡ stored b a.handle → a ≡ a'
    → ◌≡◌ {A = ℕ × ℕ × ℕ × List ℕ} (a.refusal.number, s, p, b') (opens b a')
opened b a e f h q = (λ i. (a.refusal.number, e i, f i, h i)) ∙ ap (opens b) q

pub created : (b d' : List ℕ) (c : Created) {p : Created × List ℕ} {s k n : ℕ} {b' : List ℕ} → s ≡ slot_told c.refusal → k ≡ place_of c.refusal
    → n ≡ told c.old
    → b' ≡ stored b c.handle → ◌≡◌ {A = Created × List ℕ} (c, d') p
    → ◌≡◌ {A = ℕ × ℕ × ℕ × ℕ × List ℕ × List ℕ} (c.refusal.number, s, k, n, b', d') (creates b p)
created b d' c e f h m q = (λ i. (c.refusal.number, e i, f i, h i, m i, d')) ∙ ap (creates b) q

pub looked : (l : LookedUp) {l' : LookedUp} {s p : ℕ} → s ≡ slot_told l.refusal → p ≡ place_of l.refusal → l ≡ l'
    → ◌≡◌ {A = ℕ × ℕ × ℕ × ℕ × ℕ} (l.refusal.number, s, p, l.slot, l.compared) (looks l')
looked l e f q = (λ i. (l.refusal.number, e i, f i, l.slot, l.compared)) ∙ ap looks q

-- the check of a name: bad, or folded
module _ (n b : List ℕ) {r : Incoming} (h : Hands n r) where
  pub names-bad : (r.place ≡ no_place → ⊥) → ◌≡◌ {A = ℕ × ℕ × List ℕ} (3, r.place, b) (names b n)
  unfolding names
  names-bad z = (λ i. (3, h.place i, b)) ∙ sym (ap (λ (t : Bool). cond t (0, no_place, sets b 0 (comes_in n).name) (3, (comes_in n).place, b)) (hands-bad h z))

  pub names-good : {b' : List ℕ} → r.place ≡ no_place → b' ≡ sets b 0 r.name → ◌≡◌ {A = ℕ × ℕ × List ℕ} (0, r.place, b') (names b n)
  unfolding names
  names-good z e =
      (λ i. (0, z i, (e ∙ ap (sets b 0) (hands-name h z)) i))
      ∙ sym (ap (λ (t : Bool). cond t (0, no_place, sets b 0 (comes_in n).name) (3, (comes_in n).place, b)) (hands-good h z))

-- nothing told, and a file told
pub nothing : (b : List ℕ) (l : Listed) {l' : Listed} → not l.more ≡ true → l ≡ l'
    → ◌≡◌ {A = ℕ × ℕ × ℕ × ℕ × ℕ × List ℕ} (l.refusal.number, l.refusal.at, l.size, l.granules, 0, b) (tells b l')
unfolding tells
nothing b l h q =
    ap (λ (t : Bool). (l.refusal.number, l.refusal.at, l.size, l.granules, told t, cond t (sets b 0 l.name) b)) (sym (not-true l.more h)) ∙ ap
    (tells b) q

pub file : (b : List ℕ) (l : Listed) {l' : Listed} {b' : List ℕ} → not l.more ≡ false → b' ≡ sets b 0 l.name → l ≡ l'
    → ◌≡◌ {A = ℕ × ℕ × ℕ × ℕ × ℕ × List ℕ} (l.refusal.number, l.refusal.at, l.size, l.granules, 1, b') (tells b l')
unfolding tells
file b l h e q =
    ap (λ (r : List ℕ). (l.refusal.number, l.refusal.at, l.size, l.granules, 1, r)) e
    ∙ ap (λ (t : Bool). (l.refusal.number, l.refusal.at, l.size, l.granules, told t, cond t (sets b 0 l.name) b)) (sym (not-false l.more h)) ∙ ap
    (tells b) q
