-- The same of bring back (02 §11), of compare (02 §1) and of the fault (02 §2), which are promised in statements of their own.
use Rattle.std.specs.Prelude.{◌≡◌, refl, ◌≢◌, ◌↔◌, Bool, true, false, List, [], ℕ, ◌<◌, ◌≤◌, ltb, length, get_or}
use Rattle.std.proofs.Common.{sym, ap, subst, ◌∙◌, arith, ltb-true, ltb-false}
use Rattle.std.proofs.Math.Decide.{ℕ_discrete}
use Rattle.meaning.specs.Chain.{chain, owned}
use Rattle.meaning.specs.Entries.{name_of}
use Rattle.meaning.specs.Plain.{File, Found, found, nothing, plain}
use Rattle.meaning.specs.declared.Geometry.{Geometry}
use Rattle.meaning.specs.declared.BroughtBack.{BroughtBack}
use Rattle.meaning.specs.declared.Refusal.{Refusal}
use Rattle.differences.specs.declared.Difference.{Difference}
use Rattle.promises_words.specs.Untouched.{hush}
use Rattle.promises_back.specs.Statement.{BackPromised, BringsBack, back_table}
use Rattle.promises_fault.specs.Statement.{FaultIs}
use Rattle.promises_fault.specs.Kept.{every-fault}
use Rattle.promises_compare.specs.Statement.{Says, only_first, only_second, in_both, Unlike, Parts, Compares}
use Rattle.strength.specs.Fixed.{one_number, same-becomes, SamePlain, one-file, there-or-not}

-- Bring back ----------------------------------------------------------------------------------------------------------------------

pub record BackFixed (g : Geometry) (r r' : BroughtBack) (d' d'' : List ℕ) : Type 0 where
  pub number : r.refusal.number ≡ r'.refusal.number
  pub slots : r.slots ≡ r'.slots
  pub granules : r.granules ≡ r'.granules
  pub files : SamePlain g d' d''

pub back-two : (g : Geometry) (d : List ℕ) (s : ℕ) (r r' : BroughtBack) (d' d'' : List ℕ)
    → BackPromised g d s r d' → BackPromised g d s r' d'' → BackFixed g r r' d' d''
back-two g d s r r' d' d'' x y =
    let n = one_number (back_table g d s) (Unit {0}) tt r.refusal.number r'.refusal.number x.numbers y.numbers in
    by n (ℕ_discrete r.refusal.number 0)
  where
    by : r.refusal.number ≡ r'.refusal.number → Dec (r.refusal.number ≡ 0) → BackFixed g r r' d' d''
    by n (yes e) =
        let v = x.serves e in let w = y.serves (sym n ∙ e) in
        record {
          number = n;
          slots = v.slots ∙ ap length v.chain' ∙ sym (ap length w.chain') ∙ sym w.slots;
          granules = v.granules' ∙ ap length v.owned' ∙ sym (ap length w.owned') ∙ sym w.granules';
          files = same-becomes g d d' d'' (name_of g d s) nothing _ nothing _ refl v.becomes w.becomes;
        }
    by n (no k) =
        let v = x.refuses k in let w = y.refuses (λ e. k (n ∙ e)) in
        record {
          number = n;
          slots = v.1 ∙ sym w.1;
          granules = v.2 ∙ sym w.2;
          files = λ m. ap (λ (e : List ℕ). hush (plain g e m)) (v.0 ∙ sym w.0);
        }

-- The fault ------------------------------------------------------------------------------------------------------------------------

-- number and slot, by what each kind of fault means
pub fault-two : (g : Geometry) (d : List ℕ) (r r' : Refusal) → FaultIs g d r → FaultIs g d r' → r ≡ r'
fault-two g d r r' x y = (every-fault g d).one r x ∙ sym ((every-fault g d).one r' y)

-- Compare --------------------------------------------------------------------------------------------------------------------------

-- one position is where two contents part
one-parting : (xs ys : List ℕ) (k k' : ℕ) → Parts xs ys k → Parts xs ys k' → k ≡ k'
one-parting xs ys k k' x y = by (ltb k k') refl (ltb k' k) refl
  where
    by : (a : Bool) → ltb k k' ≡ a → (b : Bool) → ltb k' k ≡ b → k ≡ k'
    by true p b q =
        let l = ltb-true k k' p in
        absurd (x.part (omega (arith, y.within.0)) (omega (arith, y.within.1)) (y.alike k l))
    by false p true q =
        let l = ltb-true k' k q in
        absurd (y.part (omega (arith, x.within.0)) (omega (arith, x.within.1)) (x.alike k' l))
    by false p false q = let a = ltb-false k k' p in let b = ltb-false k' k q in omega arith

-- a flag that holds exactly in a case
one-flag : (a b : Bool) (E : Type 0) → (a ≡ true) ↔ E → (b ≡ true) ↔ E → a ≡ b
one-flag true b E x y = sym (y.1 (x.0 refl))
one-flag false true E x y = x.1 (y.0 refl)
one-flag false false E x y = refl

-- of a file in both but unlike: where the contents part, and what differs
pub record SameUnlike (x y : Difference) : Type 0 where
  pub at : x.at ≡ y.at
  pub contents : x.contents ≡ y.contents
  pub size : x.size ≡ y.size
  pub date : x.date ≡ y.date
  pub other : x.other ≡ y.other

pub record SameDifference (x y : Difference) : Type 0 where
  pub name : x.name ≡ y.name
  pub kind : x.kind ≡ y.kind
  pub unlike : x.kind ≡ 3 → SameUnlike x y

-- what two say of the same two files
same-said : (x y : Difference) (a b : Found) → x.name ≡ y.name → Says x a b → Says y a b → SameDifference x y
same-said x y (found f) nothing n (only_first p) (only_first q) =
    record { name = n; kind = p ∙ sym q; unlike = λ e. absurd (let z : ◌≡◌ {A = ℕ} 1 3 = sym p ∙ e in let w : ⊥ = omega arith in w) }
same-said x y nothing (found f) n (only_second p) (only_second q) =
    record { name = n; kind = p ∙ sym q; unlike = λ e. absurd (let z : ◌≡◌ {A = ℕ} 2 3 = sym p ∙ e in let w : ⊥ = omega arith in w) }
same-said x y (found f) (found f') n (in_both p u) (in_both q v) = record {
  name = n;
  kind = p ∙ sym q;
  unlike = λ e. record {
    at = one-parting f.bytes f'.bytes x.at y.at u.position v.position;
    contents = one-flag x.contents y.contents _ u.contents v.contents;
    size = one-flag x.size y.size _ u.size v.size;
    date = one-flag x.date y.date _ u.date v.date;
    other = one-flag x.other y.other _ u.other v.other;
  };
}
same-said x y nothing nothing n p q = elim p [ ]

-- Whatever one tells the other tells too, and alike; each tells it once, and by rising names.
pub compare-two : (g : Geometry) (d : List ℕ) (g' : Geometry) (d' : List ℕ) (most most' : ℕ) (told told' : ℕ → Difference)
    → Compares g d g' d' most told → Compares g d g' d' most' told' → (i : ℕ) → i < most
    → (j : ℕ) × (j < most') × SameDifference (told i) (told' j)
compare-two g d g' d' most most' told told' x y i l =
    let w = y.every' (told i).name (x.is_one' i l).1 in
    let s = subst (λ (n : List ℕ). Says (told' w.0) (plain g d n) (plain g' d' n)) w.2 (y.tells w.0 w.1) in
    (w.0, w.1, same-said (told i) (told' w.0) (plain g d (told i).name) (plain g' d' (told i).name) (sym w.2) (x.tells i l) s)
