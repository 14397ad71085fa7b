-- Walks written down, file after file, and what leads to a slot, entry after entry.
use mathlib.Core.Path.{◌≡◌, refl, sym, ap, ◌∙◌}
use mathlib.Core.List.{List, [], ◌∷◌}
use mathlib.Core.Bool.{Bool, true, false, cond, ◌||◌}
use Prim.Native.Nat.{ℕ, zero, suc, ◌+◌, ◌-◌, ◌≤◌, ◌<◌}
use native.Mathlib.Omega.{arith}
use native.Mathlib.Decide.{ℕ_discrete}
use lib.Dec.{eqb}
use lib.ListN.{length, get_or, set, replicate, length-set}
use lib.Seq.{get_or-set_same, get_or-set_other}
use borrow.Author.Tests.{eq-eqb, ne_eqb}
use Rattle.meaning.specs.Lists.{count, keep, has, first_or}
use Rattle.meaning.specs.Layout.{is_slot, slots}
use Rattle.meaning.specs.Entries.{in_use_primary, link}
use Rattle.meaning.specs.Fault.{hands_on, walked, good_extension}
use Rattle.meaning.specs.declared.Geometry.{Geometry}
use Rattle.lists.specs.Tests.{all-no, all_yes, all_one, all_none, all-out, keep-yes, keep-no}
use Rattle.lists.specs.Ranges.{count-more, count_none}
use Rattle.fault_kinds.specs.Reach.{reach}
use Rattle.fault_kinds.specs.Tests.{starts_to, first_file, leads, tally, good_from}
use Rattle.fault_kinds.specs.Noted.{noted, notes, slot_or, again, WalkNoted, FileNoted, Led, Leading, Told}
use Rattle.fault_kinds.proofs.Passes.{good-bad, good-on, good-end, tally-none, reach-stop, reach-on, reach-none}
use Rattle.fault_kinds.proofs.Bridge.{good_start}

-- Notes -------------------------------------------------------------------------------------------------------------------

pub noted-long : (m : List ℕ) (v s : ℕ) → length (noted m v s) ≡ length m
unfolding noted
noted-long m v s = go (eqb (get_or m s 0) 0)
  where
    go : (b : Bool) → length (cond b (set m s v) m) ≡ length m
    go true = length-set m s v
    go false = refl

pub notes-long : (v : ℕ) (ss m : List ℕ) → length (notes m v ss) ≡ length m
unfolding notes
notes-long v [] m = refl
notes-long v (s ∷ ss) m = notes-long v ss (noted m v s) ∙ noted-long m v s

-- what stands at x is kept
noted-full : (m : List ℕ) (v s x : ℕ) → (get_or m x 0 ≡ 0 → ⊥) → get_or (noted m v s) x 0 ≡ get_or m x 0
unfolding noted
noted-full m v s x h = by (ℕ_discrete (get_or m s 0) 0) (ℕ_discrete x s)
  where
    by : Dec (get_or m s 0 ≡ 0) → Dec (x ≡ s) → get_or (cond (eqb (get_or m s 0) 0) (set m s v) m) x 0 ≡ get_or m x 0
    by (yes e) (yes q) = absurd (h (ap (λ (k : ℕ). get_or m k 0) q ∙ e))
    by (yes e) (no q) = rw (eq-eqb (get_or m s 0) 0 e) (get_or-set_other m s x v 0 q)
    by (no e) q = rw (ne_eqb (get_or m s 0) 0 e)

noted_here : (m : List ℕ) (v s : ℕ) → s < length m → get_or m s 0 ≡ 0 → get_or (noted m v s) s 0 ≡ v
unfolding noted
noted_here m v s l e = rw (eq-eqb (get_or m s 0) 0 e) (get_or-set_same m s v 0 l)

noted_other : (m : List ℕ) (v s x : ℕ) → (x ≡ s → ⊥) → get_or (noted m v s) x 0 ≡ get_or m x 0
unfolding noted
noted_other m v s x h = go (eqb (get_or m s 0) 0)
  where
    go : (b : Bool) → get_or (cond b (set m s v) m) x 0 ≡ get_or m x 0
    go true = get_or-set_other m s x v 0 h
    go false = refl

pub notes-full : (v : ℕ) (ss m : List ℕ) (x : ℕ) → (get_or m x 0 ≡ 0 → ⊥) → get_or (notes m v ss) x 0 ≡ get_or m x 0
unfolding notes
notes-full v [] m x h = refl
notes-full v (s ∷ ss) m x h =
    let e = noted-full m v s x h in notes-full v ss (noted m v s) x (λ z. h (sym e ∙ z)) ∙ e

pub notes-in : (v : ℕ) (ss m : List ℕ) (x : ℕ) → 1 ≤ v → x < length m → get_or m x 0 ≡ 0 → has ss x ≡ true → get_or (notes m v ss) x 0 ≡ v
unfolding notes
notes-in v [] m x p l e h = absurd (let z : ◌≡◌ {A = ℕ} 0 1 = cc in let q : ⊥ = omega arith in q)
notes-in v (s ∷ ss) m x p l e h = by (ℕ_discrete x s) (λ k. notes-in v ss (noted m v s) x p (rw (noted-long m v s) l) k)
  where
    by : Dec (x ≡ s) → (get_or (noted m v s) x 0 ≡ 0 → has ss x ≡ true → get_or (notes (noted m v s) v ss) x 0 ≡ v) → get_or (notes (noted m v s) v ss) x 0 ≡ v
    by (yes q) r =
        let y : get_or (noted m v s) x 0 ≡ v = ap (λ (k : ℕ). get_or (noted m v s) k 0) q
        ∙ noted_here m v s (rw q at l) (ap (λ (k : ℕ). get_or m k 0) (sym q) ∙ e)
        in
        notes-full v ss (noted m v s) x (λ z. let w : ⊥ = omega arith in w) ∙ y
    by (no q) r = r (noted_other m v s x q ∙ e) (ap (λ (b : Bool). b || has ss x) (sym (ne_eqb x s q)) ∙ h)

pub notes-out : (v : ℕ) (ss m : List ℕ) (x : ℕ) → has ss x ≡ false → get_or (notes m v ss) x 0 ≡ get_or m x 0
unfolding notes
notes-out v [] m x h = refl
notes-out v (s ∷ ss) m x h = by (ℕ_discrete x s) (λ k. notes-out v ss (noted m v s) x k)
  where
    by : Dec (x ≡ s) → (has ss x ≡ false → get_or (notes (noted m v s) v ss) x 0 ≡ get_or (noted m v s) x 0)
        → get_or (notes (noted m v s) v ss) x 0 ≡ get_or m x 0
    by (yes q) r = absurd (let z : true ≡ false = sym (ap (λ (b : Bool). b || has ss x) (eq-eqb x s q)) ∙ h in let w : ◌≡◌ {A = ℕ} 0 1 = cc in let y : ⊥ =
        omega arith in y)
    by (no q) r = r (ap (λ (b : Bool). b || has ss x) (sym (ne_eqb x s q)) ∙ h) ∙ noted_other m v s x q

zeros : (n k : ℕ) → get_or (replicate {A = ℕ} n 0) k 0 ≡ 0
zeros zero k = refl
zeros (suc n) zero = refl
zeros (suc n) (suc k) = zeros n k

module _ (g : Geometry) (d : List ℕ) where
  -- Files -----------------------------------------------------------------------------------------------------------------

  pub walking_start : WalkNoted g d 0 (replicate 256 0)
  unfolding first_file
  walking_start = record {
    long = refl;
    first = λ x l. sym (ap (λ (v : ℕ). slot_or (first_or 256 (keep (starts_to g d x) (count 0 (256 - 0)))) v) (zeros 256 x));
  }

  rest_out : (x p : ℕ) → p < 256 → starts_to g d x p ≡ false → keep (starts_to g d x) (count p (256 - p)) ≡ keep (starts_to g d x)
      (count (p + 1) (256 - (p + 1)))
  rest_out x p h t = ap (keep (starts_to g d x)) (count-more h) ∙ keep-no (starts_to g d x) t (count (p + 1) (256 - (p + 1)))

  rest_in : (x p : ℕ) → p < 256 → starts_to g d x p ≡ true → first_or 256 (keep (starts_to g d x) (count p (256 - p))) ≡ p
  unfolding first_or
  rest_in x p h t = ap (first_or 256) (ap (keep (starts_to g d x)) (count-more h) ∙ keep-yes (starts_to g d x) t (count (p + 1) (256 - (p + 1))))

  -- slot p starts no file
  pub walking_skip : (p : ℕ) {files : List ℕ} → p < 256 → ((x : ℕ) → starts_to g d x p ≡ false) → WalkNoted g d p files → WalkNoted g d (p + 1) files
  walking_skip p {files} h t w = record {
    long = w.long;
    first = λ x l. w.first x l ∙ ap (λ (k : List ℕ). slot_or (first_or 256 k) (get_or files x 0)) (rest_out x p h (t x));
  }

  pub no-slot-starts : (p : ℕ) → is_slot g d p ≡ false → (x : ℕ) → starts_to g d x p ≡ false
  unfolding starts_to
  no-slot-starts p e x = all-no e _

  pub no-file-starts : (p : ℕ) → in_use_primary g d p ≡ false → (x : ℕ) → starts_to g d x p ≡ false
  unfolding starts_to
  no-file-starts p e x = all-out _ 1 e

  file-starts : (p : ℕ) → is_slot g d p ≡ true → in_use_primary g d p ≡ true → (x : ℕ) → starts_to g d x p ≡ has (reach g d (length (slots g d)) p) x
  unfolding starts_to
  file-starts p e f x = all_yes e _ ∙ all_yes f _ ∙ all_one _

  -- it does, and its walk is written down
  pub walking-step : (p : ℕ) {files files' : List ℕ} {n : ℕ} → p < 256 → is_slot g d p ≡ true → in_use_primary g d p ≡ true → n ≡ length (slots g d)
      → files' ≡ notes files (p + 1) (reach g d n p) → WalkNoted g d p files → WalkNoted g d (p + 1) files'
  walking-step p {files} {files'} {n} h a b z e w = record {
    long = ap (length {A = ℕ}) e ∙ notes-long (p + 1) (reach g d n p) files ∙ w.long;
    first = λ x l. by x l (has (reach g d n p) x) refl (ℕ_discrete (get_or files x 0) 0);
  }
    where
      starts : (x : ℕ) → starts_to g d x p ≡ has (reach g d n p) x
      starts x = file-starts p a b x ∙ ap (λ (k : ℕ). has (reach g d k p) x) (sym z)

      at : (x : ℕ) → get_or files' x 0 ≡ get_or (notes files (p + 1) (reach g d n p)) x 0
      at x = ap (λ (m : List ℕ). get_or m x 0) e

      by : (x : ℕ) → x < 256 → (t : Bool) → has (reach g d n p) x ≡ t → Dec (get_or files x 0 ≡ 0)
          → first_file g d x ≡ slot_or (first_or 256 (keep (starts_to g d x) (count (p + 1) (256 - (p + 1))))) (get_or files' x 0)
      by x l true q (yes v) =
          let y : get_or files' x 0 ≡ p + 1 = at x ∙ notes-in (p + 1) (reach g d n p) files x (omega arith) (let k = w.long in omega arith) v q in
          let c : p + 1 - 1 ≡ p = omega arith in
          w.first x l ∙ ap (λ (k : ℕ). slot_or (first_or 256 (keep (starts_to g d x) (count p (256 - p)))) k) v ∙ rest_in x p h (starts x ∙ q)
          ∙ sym (ap (λ (k : ℕ). slot_or (first_or 256 (keep (starts_to g d x) (count (p + 1) (256 - (p + 1))))) k) y
          ∙ ap (λ (t : Bool). cond t (first_or 256 (keep (starts_to g d x) (count (p + 1) (256 - (p + 1))))) (p + 1 - 1)) (ne_eqb (p + 1) 0 (omega arith)) ∙ c)
      by x l false q (yes v) =
          let y : get_or files' x 0 ≡ get_or files x 0 = at x ∙ notes-out (p + 1) (reach g d n p) files x q in
          w.first x l ∙ ap (λ (k : List ℕ). slot_or (first_or 256 k) (get_or files x 0)) (rest_out x p h (starts x ∙ q))
          ∙ ap (λ (k : ℕ). slot_or (first_or 256 (keep (starts_to g d x) (count (p + 1) (256 - (p + 1))))) k) (sym y)
      by x l t q (no v) =
          let y : get_or files' x 0 ≡ get_or files x 0 = at x ∙ notes-full (p + 1) (reach g d n p) files x v in
          w.first x l ∙ ap (λ (b : Bool). cond b (first_or 256 (keep (starts_to g d x) (count p (256 - p)))) (get_or files x 0 - 1))
          (ne_eqb (get_or files x 0) 0 v)
          ∙ sym (ap (λ (k : ℕ). slot_or (first_or 256 (keep (starts_to g d x) (count (p + 1) (256 - (p + 1))))) k) y
          ∙ ap (λ (b : Bool). cond b (first_or 256 (keep (starts_to g d x) (count (p + 1) (256 - (p + 1))))) (get_or files x 0 - 1))
          (ne_eqb (get_or files x 0) 0 v))

  -- the walk from p, written down as far as s
  module _ (n p left s v : ℕ) (files₀ files : List ℕ) {m : List ℕ} (i : notes files₀ v (reach g d n p) ≡ notes files v (reach g d left s))
      (k : m ≡ noted files v s) where
    pub noting-stop : 0 < left → hands_on g d s ≡ false → m ≡ notes files₀ v (reach g d n p)
    unfolding notes
    noting-stop h f = k ∙ sym (i ∙ ap (notes files v) (reach-stop g d s h f))

    pub noting-on : {t : ℕ} → 0 < left → hands_on g d s ≡ true → t ≡ link g d s → notes files₀ v (reach g d n p) ≡ notes m v (reach g d (left - 1) t)
    unfolding notes
    noting-on {t} h f e = i ∙ ap (notes files v) (reach-on g d s h f e) ∙ ap (λ (l : List ℕ). notes l v (reach g d (left - 1) t)) (sym k)

  pub noting-none : (n p left s v : ℕ) (files₀ files : List ℕ) → notes files₀ v (reach g d n p) ≡ notes files v (reach g d left s) → left ≤ 0
      → files ≡ notes files₀ v (reach g d n p)
  unfolding notes
  noting-none n p left s v files₀ files i h = sym (i ∙ ap (notes files v) (reach-none g d s h))

  pub walking-end : (p : ℕ) {files : List ℕ} → 256 ≤ p → WalkNoted g d p files → FileNoted g d files
  unfolding first_or
  walking-end p {files} h w = record {
    long = w.long;
    first = λ x l. w.first x l ∙ ap (λ (k : List ℕ). slot_or (first_or 256 (keep (starts_to g d x) k)) (get_or files x 0)) (count_none h);
  }

  -- Extensions ------------------------------------------------------------------------------------------------------------

  pub leading-start : Leading g d 0 (replicate 256 0)
  leading-start = record {
    long = refl;
    led = λ x l. rw (zeros 256 x) (record { few = omega arith; bad = λ e. absurd (let z : ⊥ = omega arith in z); rest = λ h. good_start g d x });
  }

  -- nothing leads from b to x
  led-none : (b x c : ℕ) → b < 256 → leads g d x b ≡ false → Led g d b x c → Led g d (b + 1) x c
  led-none b x c h t w = record {
    few = w.few;
    bad = w.bad;
    rest = λ k. let z : c + 0 ≡ c = omega arith in
        good-on g d x c b (w.rest k) h (tally-none g d x b t) (λ e. let q : ⊥ = omega arith in q)
        ∙ ap (λ (j : ℕ). good_from g d x j (keep (leads g d x) (count (b + 1) (256 - (b + 1))))) z;
  }

  -- b leads to x: t is 1 where x follows, else 2
  led-some : (b x c t : ℕ) → b < 256 → t ≡ tally g d x b → 1 ≤ t → t ≤ 2 → Led g d b x c → Led g d (b + 1) x (again c t)
  led-some b x c t h e l m w = by (ℕ_discrete c 0) (ℕ_discrete t 2)
    where
      false_of : good_extension g d x ≡ false → Led g d (b + 1) x 2
      false_of f = record { few = omega arith; bad = λ z. f; rest = λ k. absurd (let z : ⊥ = omega arith in z) }

      by : Dec (c ≡ 0) → Dec (t ≡ 2) → Led g d (b + 1) x (again c t)
      by (yes z) (yes q) = rw (z, q) (false_of (sym (good-bad g d x c b (w.rest (omega arith)) h e q)))
      by (yes z) (no q) =
          rw z (record {
            few = m;
            bad = λ k. absurd (q k);
            rest = λ k. good-on g d x c b (w.rest (omega arith)) h e q ∙ ap
                (λ (j : ℕ). good_from g d x j (keep (leads g d x) (count (b + 1) (256 - (b + 1))))) (let y : c + t ≡ t = omega arith in y);
          })
      by (no z) q = rw (ne_eqb c 0 z) (false_of (two q))
        where
          many : (k : ℕ) (l : List ℕ) → 2 ≤ k → good_from g d x k l ≡ false
          many k l y = all-no (ne_eqb (k + length l) 1 (λ u. let v : ⊥ = omega arith in v)) _

          one : Dec (c ≡ 2) → Dec (t ≡ 2) → good_extension g d x ≡ false
          one (yes y) u = w.bad y
          one (no y) (yes u) = sym (good-bad g d x c b (w.rest (let f = w.few in omega arith)) h e u)
          one (no y) (no u) = good-on g d x c b (w.rest (let f = w.few in omega arith)) h e u
              ∙ many (c + t) (keep (leads g d x) (count (b + 1) (256 - (b + 1)))) (omega arith)

          two : Dec (t ≡ 2) → good_extension g d x ≡ false
          two u = one (ℕ_discrete c 2) u

  no_lead : (b x : ℕ) → (link g d b ≡ x → ⊥) → leads g d x b ≡ false
  unfolding leads
  no_lead b x h = all-out _ 1 (ne_eqb (link g d b) x h)

  pub no-slot-leads : (b : ℕ) → is_slot g d b ≡ false → (x : ℕ) → leads g d x b ≡ false
  unfolding leads
  no-slot-leads b e x = all-no e _

  pub no-hand-leads : (b : ℕ) → hands_on g d b ≡ false → (x : ℕ) → leads g d x b ≡ false
  unfolding leads
  no-hand-leads b e x = all-out _ 2 e

  pub no-walk-leads : (b : ℕ) → has (walked g d) b ≡ false → (x : ℕ) → leads g d x b ≡ false
  unfolding leads
  no-walk-leads b e x = all-out _ 3 e

  pub leads-to : (b : ℕ) {x : ℕ} → is_slot g d b ≡ true → x ≡ link g d b → hands_on g d b ≡ true → has (walked g d) b ≡ true → leads g d x b ≡ true
  unfolding leads
  leads-to b a e h w = all_yes a _ ∙ all_yes (eq-eqb _ _ (sym e)) _ ∙ all_yes h _ ∙ all_yes w _ ∙ all_none

  -- from slot b no walk goes on
  pub leading-skip : (b : ℕ) {goods : List ℕ} → b < 256 → ((x : ℕ) → leads g d x b ≡ false) → Leading g d b goods → Leading g d (b + 1) goods
  leading-skip b h t w = record { long = w.long; led = λ x l. led-none b x _ h (t x) (w.led x l) }

  -- it goes on to y
  pub leading_step : (b y t : ℕ) {goods : List ℕ} → b < 256 → y ≡ link g d b → y < 256 → t ≡ tally g d y b → 1 ≤ t → t ≤ 2 → Leading g d b goods
      → Leading g d (b + 1) (set goods y (again (get_or goods y 0) t))
  leading_step b y t {goods} h e z q l m w = record {
    long = length-set goods y _ ∙ w.long;
    led = λ x k. by x k (ℕ_discrete x y);
  }
    where
      by : (x : ℕ) → x < 256 → Dec (x ≡ y) → Led g d (b + 1) x (get_or (set goods y (again (get_or goods y 0) t)) x 0)
      by x k (yes u) = rw (u, get_or-set_same goods y (again (get_or goods y 0) t) 0 (let j = w.long in omega arith))
          (led-some b y (get_or goods y 0) t h q l m (w.led y z))
      by x k (no u) = rw (get_or-set_other goods y x (again (get_or goods y 0) t) 0 u)
          (led-none b x (get_or goods x 0) h (no_lead b x (λ v. u (sym (e ∙ v)))) (w.led x k))

  pub leading_end : (b : ℕ) {goods : List ℕ} → 256 ≤ b → Leading g d b goods → Told g d goods
  leading_end b {goods} h w = record { long = w.long; good = λ x l. by x (get_or goods x 0) (w.led x l) (ℕ_discrete (get_or goods x 0) 2) }
    where
      by : (x c : ℕ) → Led g d b x c → Dec (c ≡ 2) → good_extension g d x ≡ eqb c 1
      by x c k (yes e) = k.bad e ∙ sym (ap (λ (j : ℕ). eqb j 1) e)
      by x c k (no e) = sym (good-end g d x c b (k.rest (let f = k.few in omega arith)) h)
