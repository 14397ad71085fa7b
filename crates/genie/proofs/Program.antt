-- What the reader of program files hands back, case by case.
use mathlib.Core.Path.{◌≡◌, sym, ap, ◌∙◌}
use mathlib.Core.List.{List}
use mathlib.Core.Bool.{Bool, cond}
use Prim.Native.Nat.{ℕ}
use borrow.Author.Tests.{eq-eqb, ne_eqb}
use Rattle.load.specs.Records.{data_code}
use Rattle.load.specs.declared.Loaded.{Loaded}
use Rattle.genie_codec.specs.Codec.{stored}
use Rattle.genie.specs.Program.{tells_record}

abbrev Told : Type 0
Told = ℕ × ℕ × ℕ × ℕ × ℕ × ℕ × List ℕ × List ℕ

-- no data record, and a data record
pub none_told : (b : List ℕ) (a : Loaded) (x : List ℕ) {p : Loaded × List ℕ} → (a.kind ≡ data_code → ⊥) → ◌≡◌ {A = Loaded × List ℕ} (a, x) p
    → ◌≡◌ {A = Told} (a.refusal.number, a.refusal.at, a.kind, a.address, a.count, a.position, b, x) (tells_record b p)
unfolding tells_record
none_told b a x h q =
    ap (λ (t : Bool). (a.refusal.number, a.refusal.at, a.kind, a.address, a.count, a.position, cond t (stored b a.handle) b, x))
    (sym (ne_eqb a.kind data_code h)) ∙ ap (tells_record b) q

pub record-told : (b : List ℕ) (a : Loaded) (x : List ℕ) {p : Loaded × List ℕ} {b' : List ℕ} → a.kind ≡ data_code → b' ≡ stored b a.handle
    → ◌≡◌ {A = Loaded × List ℕ} (a, x) p
    → ◌≡◌ {A = Told} (a.refusal.number, a.refusal.at, a.kind, a.address, a.count, a.position, b', x) (tells_record b p)
unfolding tells_record
record-told b a x h e q =
    ap (λ (c : List ℕ). (a.refusal.number, a.refusal.at, a.kind, a.address, a.count, a.position, c, x)) e
    ∙ ap (λ (t : Bool). (a.refusal.number, a.refusal.at, a.kind, a.address, a.count, a.position, cond t (stored b a.handle) b, x))
    (sym (eq-eqb a.kind data_code h)) ∙ ap (tells_record b) q
