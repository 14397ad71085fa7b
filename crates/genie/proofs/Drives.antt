-- What each exported function over two drives hands back, case by case.
use mathlib.Core.Path.{◌≡◌, sym, ap, ◌∙◌}
use mathlib.Core.List.{List}
use mathlib.Core.Bool.{Bool, cond}
use Prim.Native.Nat.{ℕ}
use borrow.Author.Tests.{eq-eqb, ne_eqb}
use Rattle.meaning.specs.Refusal.{place_of, slot_told}
use Rattle.meaning.specs.declared.Geometry.{Geometry}
use Rattle.drives.specs.Pair.{fault_drive}
use Rattle.drives.specs.declared.DriveAnswer.{DriveAnswer}
use Rattle.drives.specs.declared.DriveCreated.{DriveCreated}
use Rattle.drives.specs.declared.DriveLookedUp.{DriveLookedUp}
use Rattle.drives.specs.declared.DrivePart.{DrivePart}
use Rattle.drives_codec.specs.Codec.{stored}
use Rattle.genie_codec.specs.Words.{told}
use Rattle.genie.specs.Drives.{looks, opens, creates, after, reads, writes, changes, lies}

-- what an export answers of the drives that its numbers state
pub at-drives : {T : Type 0} {g g' h h' : Geometry} {x : T} (f : Geometry → Geometry → T) → g ≡ g' → h ≡ h' → x ≡ f g h → x ≡ f g' h'
at-drives f e e' q = q ∙ (λ i. f (e i) (e' i))

pub looked : (l : DriveLookedUp) {l' : DriveLookedUp} {f s p : ℕ} → f ≡ fault_drive l.refusal → s ≡ slot_told l.refusal → p ≡ place_of l.refusal
    → l ≡ l' → ◌≡◌ {A = ℕ × ℕ × ℕ × ℕ × ℕ × ℕ × ℕ} (l.refusal.number, f, s, p, l.drive, l.slot, l.compared) (looks l')
looked l e u v q = (λ i. (l.refusal.number, e i, u i, v i, l.drive, l.slot, l.compared)) ∙ ap looks q

pub opened : (b : List ℕ) (a : DriveAnswer) {a' : DriveAnswer} {f s p : ℕ} {b' : List ℕ} → f ≡ fault_drive a.refusal → s ≡ slot_told a.refusal
    → p ≡ place_of a.refusal → b' ≡ stored b a.handle → a ≡ a'
    → ◌≡◌ {A = ℕ × ℕ × ℕ × ℕ × List ℕ} (a.refusal.number, f, s, p, b') (opens b a')
opened b a e u v h q = (λ i. (a.refusal.number, e i, u i, v i, h i)) ∙ ap (opens b) q

pub created : (b d d' : List ℕ) (c : DriveCreated) {r : DriveCreated × List ℕ × List ℕ} {f s p o : ℕ} {b' : List ℕ} → f ≡ fault_drive c.refusal
    → s ≡ slot_told c.refusal → p ≡ place_of c.refusal → o ≡ told c.old → b' ≡ stored b c.handle
    → ◌≡◌ {A = DriveCreated × List ℕ × List ℕ} (c, d, d') r
    → ◌≡◌ {A = ℕ × ℕ × ℕ × ℕ × ℕ × List ℕ × List ℕ × List ℕ} (c.refusal.number, f, s, p, o, b', d, d') (creates b r)
created b d d' c e u v w h q = (λ i. (c.refusal.number, e i, u i, v i, w i, h i, d, d')) ∙ ap (creates b) q

-- refused and accepted, of a call that moves
module _ (b : List ℕ) (a : DriveAnswer) where
  pub stays : (a.refusal.number ≡ 0 → ⊥) → b ≡ after b a
  unfolding after
  stays z = ap (λ (t : Bool). cond t (stored b a.handle) b) (sym (ne_eqb a.refusal.number 0 z))

  pub moved : {b' : List ℕ} → a.refusal.number ≡ 0 → b' ≡ stored b a.handle → b' ≡ after b a
  unfolding after
  moved z e = e ∙ ap (λ (t : Bool). cond t (stored b a.handle) b) (sym (eq-eqb a.refusal.number 0 z))

  module _ {n f : ℕ} {b' : List ℕ} (k : n ≡ a.refusal.number) (e : f ≡ fault_drive a.refusal) (h : b' ≡ after b a) where
    pub reading : (x : List ℕ) {r : DriveAnswer × List ℕ} → ◌≡◌ {A = DriveAnswer × List ℕ} (a, x) r
        → ◌≡◌ {A = ℕ × ℕ × ℕ × List ℕ × List ℕ} (n, f, a.refusal.at, b', x) (reads b r)
    reading x q = (λ i. (k i, e i, a.refusal.at, h i, x)) ∙ ap (reads b) q

    pub writing : (d d' : List ℕ) {r : DriveAnswer × List ℕ × List ℕ} → ◌≡◌ {A = DriveAnswer × List ℕ × List ℕ} (a, d, d') r
        → ◌≡◌ {A = ℕ × ℕ × ℕ × List ℕ × List ℕ × List ℕ} (n, f, a.refusal.at, b', d, d') (writes b r)
    writing d d' q = (λ i. (k i, e i, a.refusal.at, h i, d, d')) ∙ ap (writes b) q

pub changing : (a : DriveAnswer) (d d' : List ℕ) {r : DriveAnswer × List ℕ × List ℕ} {f : ℕ} → f ≡ fault_drive a.refusal
    → ◌≡◌ {A = DriveAnswer × List ℕ × List ℕ} (a, d, d') r → ◌≡◌ {A = ℕ × ℕ × ℕ × List ℕ × List ℕ} (a.refusal.number, f, a.refusal.at, d, d') (changes r)
changing a d d' e q = (λ i. (a.refusal.number, e i, a.refusal.at, d, d')) ∙ ap changes q

pub lying : (x : DrivePart) {x' : DrivePart} {f : ℕ} → f ≡ fault_drive x.refusal → x ≡ x'
    → ◌≡◌ {A = ℕ × ℕ × ℕ × ℕ × ℕ × ℕ} (x.refusal.number, f, x.refusal.at, x.drive, x.from, x.to) (lies x')
lying x e q = (λ i. (x.refusal.number, e i, x.refusal.at, x.drive, x.from, x.to)) ∙ ap lies q
