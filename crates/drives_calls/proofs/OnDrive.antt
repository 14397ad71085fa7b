-- A call on the drive of a number, case by case; calls by handle.
use mathlib.Core.Path.{◌≡◌, refl, sym, ap, subst, ◌∙◌}
use mathlib.Core.Bool.{Bool, true, false, cond}
use mathlib.Core.List.{List}
use Prim.Native.Nat.{ℕ, ◌+◌, ◌-◌, ◌≤◌}
use native.Mathlib.Omega.{arith}
use native.Mathlib.Decide.{ℕ_discrete}
use lib.Dec.{eqb}
use lib.ListN.{length, take, drop}
use borrow.Author.Tests.{eq-eqb, ne_eqb}
use borrow.Rule.Slice.Shared.{by_byte}
use Rattle.read.proofs.ReadParts.{part-ptr}
use Rattle.meaning.specs.Refusals.{first}
use Rattle.meaning.specs.Read
use Rattle.meaning.specs.declared.Geometry.{Geometry}
use Rattle.meaning.specs.declared.Handle.{Handle}
use Rattle.meaning.specs.declared.Answer.{Answer}
use Rattle.meaning.specs.declared.Part.{Part}
use Rattle.meaning.specs.declared.Refusal.{Refusal}
use Rattle.read.specs.Part as one
use Rattle.drives.specs.Pair.{Pair, image, no_such_drive, on_drive, fault_drive, drive_of, answered}
use Rattle.drives.specs.ByHandle.{unheld, part_on, no_part, changing, sector_on, read_sector}
use Rattle.drives.specs.declared.DriveHandle.{DriveHandle}
use Rattle.drives.specs.declared.DriveAnswer.{DriveAnswer}
use Rattle.drives.specs.declared.DrivePart.{DrivePart}
use Rattle.drives_calls.specs.Part.{part_of, one_of, DriveLies}

module _ {A : Type 0} (n : ℕ) (call : ℕ → A) (none : A) where
  pub on-0 : n ≡ 0 → call 0 ≡ on_drive n call none
  unfolding on_drive
  on-0 z = ap (λ (t : Bool). cond t (call 0) (cond (eqb n 1) (call 1) none)) (sym (eq-eqb n 0 z))

  beyond-0 : (n ≡ 0 → ⊥) → cond (eqb n 1) (call 1) none ≡ on_drive n call none
  unfolding on_drive
  beyond-0 y = ap (λ (t : Bool). cond t (call 0) (cond (eqb n 1) (call 1) none)) (sym (ne_eqb n 0 y))

  pub on-1 : (n ≡ 0 → ⊥) → n ≡ 1 → call 1 ≡ on_drive n call none
  on-1 y z = ap (λ (t : Bool). cond t (call 1) none) (sym (eq-eqb n 1 z)) ∙ beyond-0 y

  pub on_none : (n ≡ 0 → ⊥) → (n ≡ 1 → ⊥) → none ≡ on_drive n call none
  on_none y z = ap (λ (t : Bool). cond t (call 1) none) (sym (ne_eqb n 1 z)) ∙ beyond-0 y

-- a call that reads into a buffer
module _ (h : DriveHandle) (call : ℕ → Answer × List ℕ) (b : List ℕ) where
  abbrev reading : DriveAnswer × List ℕ
  reading = on_drive h.drive (λ n. (answered n (call n).0, (call n).1)) (unheld h, b)

  pub read-0 : {r : DriveAnswer} {a : Answer} {b' : List ℕ} → h.drive ≡ 0 → r ≡ answered 0 a → ◌≡◌ {A = Answer × List ℕ} (a, b') (call 0)
      → ◌≡◌ {A = DriveAnswer × List ℕ} (r, b') reading
  read-0 {b' = b'} z e q =
      (λ i. (e i, b')) ∙ ap (λ (x : Answer × List ℕ). (answered 0 x.0, x.1)) q ∙ on-0 h.drive (λ n. (answered n (call n).0, (call n).1)) (unheld h, b)
      z

  pub read-1 : {r : DriveAnswer} {a : Answer} {b' : List ℕ} → (h.drive ≡ 0 → ⊥) → h.drive ≡ 1 → r ≡ answered 1 a
      → ◌≡◌ {A = Answer × List ℕ} (a, b') (call 1) → ◌≡◌ {A = DriveAnswer × List ℕ} (r, b') reading
  read-1 {b' = b'} y z e q =
      (λ i. (e i, b')) ∙ ap (λ (x : Answer × List ℕ). (answered 1 x.0, x.1)) q
      ∙ on-1 h.drive (λ n. (answered n (call n).0, (call n).1)) (unheld h, b) y z

  pub read_none : {r : DriveAnswer} → (h.drive ≡ 0 → ⊥) → (h.drive ≡ 1 → ⊥) → r ≡ unheld h → ◌≡◌ {A = DriveAnswer × List ℕ} (r, b) reading
  read_none y z e = (λ i. (e i, b)) ∙ on_none h.drive (λ n. (answered n (call n).0, (call n).1)) (unheld h, b) y z

-- a call that changes an image
module _ (p : Pair) (h : DriveHandle) (call : ℕ → Answer × List ℕ) where
  abbrev on : ℕ → DriveAnswer × List ℕ × List ℕ
  on n = (answered n (call n).0, cond (eqb n 0) (call n).1 (image p 0), cond (eqb n 1) (call n).1 (image p 1))

  pub changed-0 : {r : DriveAnswer} {a : Answer} {d : List ℕ} → h.drive ≡ 0 → r ≡ answered 0 a → ◌≡◌ {A = Answer × List ℕ} (a, d) (call 0)
      → ◌≡◌ {A = DriveAnswer × List ℕ × List ℕ} (r, d, p.image1) (changing p h call)
  changed-0 {d = d} z e q =
      (λ i. (e i, d, p.image1)) ∙ ap (λ (x : Answer × List ℕ). (answered 0 x.0, x.1, p.image1)) q
      ∙ on-0 h.drive on (unheld h, p.image0, p.image1) z

  pub changed-1 : {r : DriveAnswer} {a : Answer} {d : List ℕ} → (h.drive ≡ 0 → ⊥) → h.drive ≡ 1 → r ≡ answered 1 a
      → ◌≡◌ {A = Answer × List ℕ} (a, d) (call 1) → ◌≡◌ {A = DriveAnswer × List ℕ × List ℕ} (r, p.image0, d) (changing p h call)
  changed-1 {d = d} y z e q =
      (λ i. (e i, p.image0, d)) ∙ ap (λ (x : Answer × List ℕ). (answered 1 x.0, p.image0, x.1)) q
      ∙ on-1 h.drive on (unheld h, p.image0, p.image1) y z

  pub unchanged : {r : DriveAnswer} → (h.drive ≡ 0 → ⊥) → (h.drive ≡ 1 → ⊥) → r ≡ unheld h
      → ◌≡◌ {A = DriveAnswer × List ℕ × List ℕ} (r, p.image0, p.image1) (changing p h call)
  unchanged y z e = (λ i. (e i, p.image0, p.image1)) ∙ on_none h.drive on (unheld h, p.image0, p.image1) y z

-- Read sector -----------------------------------------------------------------------------------------------------------------------

-- a refused sector read hands back an empty part
empty : (g : Geometry) (d : List ℕ) (h : Handle) (k : ℕ) → ((Read.read_sector g d h k).refusal.number ≡ 0 → ⊥) → (Read.read_sector g d h k).to ≡ 0
unfolding Read.read_sector
empty g d h k z = rw (ne_eqb (first (Read.sector_refusals g d h k)) 0 z) refl

module _ (p : Pair) (h : DriveHandle) (k : ℕ) where
  pub part-0 : {r : DrivePart} {a : Part} → h.drive ≡ 0 → r ≡ part_on 0 a → a ≡ sector_on p h k 0 → r ≡ read_sector p h k
  unfolding read_sector
  part-0 z e q = e ∙ ap (part_on 0) q ∙ on-0 h.drive (λ n. part_on n (sector_on p h k n)) (no_part no_such_drive) z

  pub part-1 : {r : DrivePart} {a : Part} → (h.drive ≡ 0 → ⊥) → h.drive ≡ 1 → r ≡ part_on 1 a → a ≡ sector_on p h k 1 → r ≡ read_sector p h k
  unfolding read_sector
  part-1 y z e q = e ∙ ap (part_on 1) q ∙ on-1 h.drive (λ n. part_on n (sector_on p h k n)) (no_part no_such_drive) y z

  pub part_none : {r : DrivePart} {c : Refusal} → (h.drive ≡ 0 → ⊥) → (h.drive ≡ 1 → ⊥) → r ≡ no_part c → c ≡ no_such_drive → r ≡ read_sector p h k
  unfolding read_sector
  part_none y z e q = e ∙ ap no_part q ∙ on_none h.drive (λ n. part_on n (sector_on p h k n)) (no_part no_such_drive) y z

  -- it lies inside the image of its drive, and under a refusal of drive 1 at place 0 of drive 0's
  on-its-own : (c : Refusal) → drive_of 0 c ≡ 0
  unfolding drive_of
  on-its-own c = by (eqb c.number 0)
    where
      by : (t : Bool) → ◌≡◌ {A = ℕ} (cond t 0 0) 0
      by true = refl
      by false = refl

  pub lies-0 : {r : DrivePart} {a : Part} → r ≡ part_on 0 a → one.Lies a (length p.image0) → DriveLies p r
  lies-0 {a = a} e l =
      rw e (record { forward = l.forward; inside = rw (on-its-own a.refusal) l.inside })

  pub lies-1 : {r : DrivePart} {a : Part} → r ≡ part_on 1 a → a ≡ sector_on p h k 1 → one.Lies a (length p.image1) → DriveLies p r
  unfolding drive_of
  lies-1 {a = a} e q l = rw e (record { forward = l.forward; inside = by (ℕ_discrete a.refusal.number 0) })
    where
      by : Dec (a.refusal.number ≡ 0) → a.to ≤ length (image p (drive_of 1 a.refusal))
      by (yes z) = rw z l.inside
      by (no z) =
          rw (ne_eqb a.refusal.number 0 z)
          (let w : ((sector_on p h k 1).refusal.number ≡ 0 → ⊥) = λ v. z (ap (λ (x : Part). x.refusal.number) q ∙ v) in
          let t = ap (λ (x : Part). x.to) q ∙ empty p.geometry1 p.image1 h.handle k w in omega arith)

  pub lies-none : {r : DrivePart} {c : Refusal} → r ≡ no_part c → DriveLies p r
  lies-none e = rw e (record { forward = omega arith; inside = omega arith })

-- a part lies inside the image that it is taken of
module _ (p : Pair) {a : DrivePart} (l : DriveLies p a) where
  pub inside-0 : a.drive ≡ 0 → a.to ≤ length p.image0
  inside-0 z = subst (λ (t : Bool). a.to ≤ length (cond t p.image0 p.image1)) (eq-eqb a.drive 0 z) l.inside

  pub inside-1 : (a.drive ≡ 0 → ⊥) → a.to ≤ length p.image1
  inside-1 z = subst (λ (t : Bool). a.to ≤ length (cond t p.image0 p.image1)) (ne_eqb a.drive 0 z) l.inside

-- the part as it is handed back
module _ (p : Pair) {a a' : DrivePart} (q : a ≡ a') where
  pub handed-0 : {f : ℕ} → a.drive ≡ 0 → f ≡ fault_drive a.refusal
      → ◌≡◌ {A = ℕ × ℕ × ℕ × ℕ × List ℕ} (a.refusal.number, f, a.refusal.at, a.drive, take (a.to - a.from) (drop a.from p.image0)) (part_of p a')
  unfolding part_of
  handed-0 z e =
      (λ i. (a.refusal.number, e i, a.refusal.at, a.drive, take (a.to - a.from) (drop a.from (cond (eqb (sym z i) 0) p.image0 p.image1))))
      ∙ ap (part_of p) q

  pub handed-1 : {f : ℕ} → (a.drive ≡ 0 → ⊥) → f ≡ fault_drive a.refusal
      → ◌≡◌ {A = ℕ × ℕ × ℕ × ℕ × List ℕ} (a.refusal.number, f, a.refusal.at, a.drive, take (a.to - a.from) (drop a.from p.image1)) (part_of p a')
  unfolding part_of
  handed-1 z e =
      (λ i. (
        a.refusal.number,
        e i,
        a.refusal.at,
        a.drive,
        take (a.to - a.from) (drop a.from (cond (sym (ne_eqb a.drive 0 z) i) p.image0 p.image1)),
      ))
      ∙ ap (part_of p) q

  abbrev place_in : (ℕ × ℕ) → (ℕ × ℕ) → DrivePart → ℕ × ℕ
  place_in u v x = ((one_of x.drive u v).0, (one_of x.drive u v).1 + x.from)

  pub place-0 : (u v : ℕ × ℕ) → a.drive ≡ 0 → ◌≡◌ {A = ℕ × ℕ} (u.0, by_byte a.from u.1) (place_in u v a')
  place-0 u v z =
      (λ i. (u.0, part-ptr a.from u.1 i))
      ∙ (λ i. ((cond (eqb (sym z i) 0) u v).0, (cond (eqb (sym z i) 0) u v).1 + a.from)) ∙ ap (place_in u v) q

  pub place-1 : (u v : ℕ × ℕ) → (a.drive ≡ 0 → ⊥) → ◌≡◌ {A = ℕ × ℕ} (v.0, by_byte a.from v.1) (place_in u v a')
  place-1 u v z =
      (λ i. (v.0, part-ptr a.from v.1 i))
      ∙ (λ i. ((cond (sym (ne_eqb a.drive 0 z) i) u v).0, (cond (sym (ne_eqb a.drive 0 z) i) u v).1 + a.from)) ∙ ap (place_in u v) q
