-- Eight blocks met in one step: their bytes as one number, and what the pass has seen after them.
use mathlib.Core.Path.{◌≡◌, refl, sym, ap, subst, ◌∙◌}
use mathlib.Core.List.{List, [], ◌∷◌}
use Prim.Native.Nat.{ℕ, zero, suc, ◌+◌, ◌-◌, ◌*◌, ◌%◌, ◌^◌, ◌≤◌, ◌<◌}
use native.Mathlib.Omega.{arith}
use native.Mathlib.Nat.{add-zero, zero-mul, suc-mul, pow-succ'}
use lib.ListN.{length, get_or, take, drop}
use Rattle.meaning.specs.Layout.{byte}
use Rattle.meaning.specs.declared.Geometry.{Geometry}
use Rattle.layout.specs.Number.{number}
use Rattle.space.proofs.Eights.{byte_of, eight-long}
use Rattle.free_space.specs.Pass.{ended, EightBlocks}
use Rattle.free_space.specs.declared.Seen.{Seen}
use Rattle.free_space.proofs.GatPass.{bits-clear, bits-set, ended-again, Going, going_step}

-- The number of eight bytes -------------------------------------------------------------------------------------------------

all-zero : (xs : List ℕ) → number xs ≡ 0 → (k : ℕ) → get_or xs k 0 ≡ 0
unfolding number
all-zero [] e k = refl
all-zero (x ∷ xs) e zero = omega arith
all-zero (x ∷ xs) e (suc k) = all-zero xs (omega arith) k

all-full : (n : ℕ) (xs : List ℕ) → length xs ≡ n → ((i : ℕ) → i < n → get_or xs i 0 < 256) → number xs + 1 ≡ 256 ^ n
    → (k : ℕ) → k < n → get_or xs k 0 ≡ 255
unfolding number
all-full zero xs l s e k h = absurd (let z : ⊥ = omega arith in z)
all-full (suc n) [] l s e k h = absurd (let z : ⊥ = omega arith in z)
all-full (suc n) (x ∷ xs) l s e zero h = let p = pow-succ' 256 n in let q : x < 256 = s 0 (omega arith) in omega arith
all-full (suc n) (x ∷ xs) l s e (suc k) h =
    let p = pow-succ' 256 n in let q : x < 256 = s 0 (omega arith) in
    all-full n xs (omega arith) (λ i j. s (suc i) (omega arith)) (omega arith) k (omega arith)

module _ (g : Geometry) (d : List ℕ) (b at : ℕ) (e : at ≡ 256 * g.start + b) where
  pub octet-is : {r : ℕ} → r ≡ number (take 8 (drop at d)) → at + 8 ≤ length d → ((i : ℕ) → get_or d i 0 < 256) → g.units ≡ 8 → b + 8 ≤ g.blocks
      → EightBlocks g d b r
  octet-is f h s u l =
      record {
        clear = λ z. (u, l, λ k j. sym (byte_of g d b at e k j) ∙ all-zero (take 8 (drop at d)) (sym f ∙ z) k);
        full = λ z. (
          u,
          l,
          λ k j. sym (byte_of g d b at e k j) ∙ all-full 8 (take 8 (drop at d)) (eight-long g d b at e h)
              (λ i m. subst (λ (x : ℕ). x < 256) (sym (byte_of g d b at e i m)) (s (256 * g.start + (b + i)))) (ap (λ (x : ℕ). x + 1) (sym f ∙ z)) k j,
        );
      }

-- fewer than eight blocks are left, or blocks are smaller: 1
pub octet-none : (g : Geometry) (d : List ℕ) (b : ℕ) → EightBlocks g d b 1
octet-none g d b =
    record {
      clear = λ z. absurd (let q : ⊥ = omega arith in q);
      full = λ z. absurd (let q : ⊥ = omega arith in q);
    }

-- What was seen after them --------------------------------------------------------------------------------------------------

module _ (g : Geometry) (d : List ℕ) (some : 1 ≤ g.units) where
  abbrev gat : ℕ → ℕ
  gat b = byte d (256 * g.start + b)

  -- n blocks are free
  going-clear : (n b : ℕ) (p : Seen) → Going g d b p → b + n ≤ g.blocks → ((k : ℕ) → k < n → gat (b + k) % 2 ^ g.units ≡ 0)
      → Going g d (b + n) (record { free = p.free; here = p.here + n * g.units; longest = p.longest })
  going-clear zero b p t h f =
      let e : p.here ≡ p.here + 0 * g.units = sym (ap (λ (x : ℕ). p.here + x) (zero-mul g.units) ∙ add-zero p.here) in
      subst (λ (x : ℕ). Going g d x (record { free = p.free; here = p.here + 0 * g.units; longest = p.longest })) (sym (add-zero b))
      (subst (λ (x : ℕ). Going g d b (record { free = p.free; here = x; longest = p.longest })) e t)
  going-clear (suc n) b p t h f =
      let q : Seen = record { free = p.free; here = p.here + g.units; longest = p.longest } in
      let z : gat b % 2 ^ g.units ≡ 0 = ap (λ (x : ℕ). gat x % 2 ^ g.units) (sym (add-zero b)) ∙ f 0 (omega arith) in
      let s : Going g d (b + 1) q = going_step g d some t (omega arith) refl (bits-clear g.units (gat b) p z) in
      let r = going-clear n (b + 1) q s (omega arith)
      (λ k l. let v : b + 1 + k ≡ b + suc k = omega arith in ap (λ (x : ℕ). gat x % 2 ^ g.units) v ∙ f (suc k) (omega arith)) in
      let e : p.here + g.units + n * g.units ≡ p.here + suc n * g.units = omega (arith, suc-mul n g.units) in
      let i : b + 1 + n ≡ b + suc n = omega arith in
      subst (λ (x : ℕ). Going g d x (record { free = p.free; here = p.here + suc n * g.units; longest = p.longest })) i
      (subst (λ (x : ℕ). Going g d (b + 1 + n) (record { free = p.free; here = x; longest = p.longest })) e r)

  -- n + 1 blocks are taken
  going-full : (n b : ℕ) (p : Seen) → Going g d b p → b + suc n ≤ g.blocks → ((k : ℕ) → k < suc n → gat (b + k) % 2 ^ g.units ≡ 2 ^ g.units - 1)
      → Going g d (b + suc n) (ended p)
  going-full zero b p t h f =
      let z : gat b % 2 ^ g.units ≡ 2 ^ g.units - 1 = ap (λ (x : ℕ). gat x % 2 ^ g.units) (sym (add-zero b)) ∙ f 0 (omega arith) in
      going_step g d some t (omega arith) refl (bits-set g.units (gat b) p some z)
  going-full (suc n) b p t h f =
      let z : gat b % 2 ^ g.units ≡ 2 ^ g.units - 1 = ap (λ (x : ℕ). gat x % 2 ^ g.units) (sym (add-zero b)) ∙ f 0 (omega arith) in
      let s : Going g d (b + 1) (ended p) = going_step g d some t (omega arith) refl (bits-set g.units (gat b) p some z) in
      let r = going-full n (b + 1) (ended p) s (omega arith)
      (λ k l. let v : b + 1 + k ≡ b + suc k = omega arith in ap (λ (x : ℕ). gat x % 2 ^ g.units) v ∙ f (suc k) (omega arith)) in
      let i : b + 1 + suc n ≡ b + suc (suc n) = omega arith in
      subst (λ (x : ℕ). Going g d x (ended p)) i (subst (Going g d (b + 1 + suc n)) (ended-again p) r)

  module _ (b : ℕ) {r : ℕ} (p : Seen) (o : EightBlocks g d b r) (t : Going g d b p) where
    pub eight-clear : r ≡ 0 → Going g d (b + 8) (record { free = p.free; here = p.here + 64; longest = p.longest })
    eight-clear z =
        let w = o.clear z in
        let e : 8 * g.units ≡ 64 = omega (arith, w.0) in
        subst (λ (x : ℕ). Going g d (b + 8) (record { free = p.free; here = p.here + x; longest = p.longest })) e
        (going-clear 8 b p t w.1 (λ k l. ap (λ (x : ℕ). x % 2 ^ g.units) (w.2 k l) ∙ ap (λ (u : ℕ). 0 % 2 ^ u) w.0))

    pub eight-full : r ≡ 18446744073709551615 → Going g d (b + 8) (ended p)
    eight-full z =
        let w = o.full z in
        going-full 7 b p t w.1 (λ k l. ap (λ (x : ℕ). x % 2 ^ g.units) (w.2 k l)
        ∙ ap (λ (u : ℕ). 255 % 2 ^ u) w.0 ∙ sym (ap (λ (u : ℕ). 2 ^ u - 1) w.0))
