-- Laws of one call of the trace: a refused open, and each call behind an open that was accepted.
use mathlib.Core.Path.{◌≡◌, sym, ap, ◌∙◌}
use mathlib.Core.Bool.{false}
use mathlib.Core.List.{List}
use Prim.Native.Nat.{ℕ}
use borrow.Author.Tests.{ne_eqb}
use Rattle.meaning.specs.Open.{open'}
use Rattle.meaning.specs.Create.{create}
use Rattle.meaning.specs.Read.{read_record}
use Rattle.meaning.specs.Write.{write_record}
use Rattle.meaning.specs.Allot.{allot}
use Rattle.meaning.specs.Trim.{trim}
use Rattle.meaning.specs.Kill.{kill}
use Rattle.meaning.specs.Amount.{one_record}
use Rattle.meaning.specs.Calls as Single
use Rattle.meaning.specs.Calls.Call.{creates, reads, writes, allots, trims, kills}
use Rattle.meaning.specs.declared.Geometry.{Geometry}
use Rattle.meaning.specs.declared.Handle.{Handle}
use Rattle.meaning.specs.declared.Mode.{Mode}
use Rattle.meaning.specs.declared.NewFile.{NewFile}
use Rattle.meaning.specs.declared.Answer.{Answer}
use Rattle.meaning.specs.declared.Created.{Created}
use Rattle.play_session.specs.Playing.{single, after_open}

module _ (g : Geometry) (d : List ℕ) where
  pub open-refused : (n : List ℕ) (len : ℕ) (c : Handle → Single.Call) {k : ℕ} → (k ≡ (open' g d n len false 0).refusal.number) × (k ≡ 0 → ⊥)
      → (k, d) ≡ after_open g d n len c
  unfolding after_open
  open-refused n len c {k} p = sym (rw (sym p.0, ne_eqb k 0 p.1))

  pub open_made : (n : List ℕ) (len : ℕ) (c : Handle → Single.Call) {h : Handle} {r : ℕ × List ℕ}
      → (h ≡ (open' g d n len false 0).handle) × ((open' g d n len false 0).refusal.number ≡ 0) → r ≡ single g d (c h) → r ≡ after_open g d n len c
  unfolding after_open
  open_made n len c {h} {r} p q = q ∙ ap (λ (x : Handle). single g d (c x)) p.0 ∙ sym (rw p.1)

  pub create-is : (n : List ℕ) (f : NewFile) {a : Created} {d' : List ℕ} → (a, d') ≡ create g d n f false → (a.refusal.number, d') ≡ single g d
      (creates n f false)
  unfolding Single.number Single.leaves
  create-is n f e = λ j. ((e j).0.refusal.number, (e j).1)

  pub write-is : (m : Mode) (h : Handle) (b : List ℕ) {a : Answer} {d' : List ℕ} → (a, d') ≡ write_record g d m h b → (a.refusal.number, d') ≡ single g d
      (writes one_record m h b)
  unfolding Single.number Single.leaves
  write-is m h b e = λ j. ((e j).0.refusal.number, (e j).1)

  pub allot-is : (h : Handle) (k : ℕ) {a : Answer} {d' : List ℕ} → (a, d') ≡ allot g d h k → (a.refusal.number, d') ≡ single g d (allots h k)
  unfolding Single.number Single.leaves
  allot-is h k e = λ j. ((e j).0.refusal.number, (e j).1)

  pub trim-is : (h : Handle) {a : Answer} {d' : List ℕ} → (a, d') ≡ trim g d h → (a.refusal.number, d') ≡ single g d (trims h)
  unfolding Single.number Single.leaves
  trim-is h e = λ j. ((e j).0.refusal.number, (e j).1)

  pub kill-is : (h : Handle) {a : Answer} {d' : List ℕ} → (a, d') ≡ kill g d h → (a.refusal.number, d') ≡ single g d (kills h)
  unfolding Single.number Single.leaves
  kill-is h e = λ j. ((e j).0.refusal.number, (e j).1)

  pub read_is : (h : Handle) (b : List ℕ) {a : Answer} {b' : List ℕ} → (a, b') ≡ read_record g d h b → (a.refusal.number, d) ≡ single g d
      (reads one_record h b)
  unfolding Single.number Single.leaves
  read_is h b e = λ j. ((e j).0.refusal.number, d)
