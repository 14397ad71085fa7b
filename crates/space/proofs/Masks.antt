-- n bits of a byte from bit u on, by one mask: set, clear and looked at. Every case is computed, once for all three.
use mathlib.Core.Path.{◌≡◌, refl, sym, ap, subst, ◌∙◌}
use mathlib.Core.List.{[], ◌∷◌}
use mathlib.Core.Bool.{Bool, true, false, not}
use Prim.Native.Nat.{ℕ, ◌+◌, ◌-◌, ◌*◌, ◌%◌, ◌^◌, ◌≤◌, ◌<◌}
use native.Mathlib.Omega.{arith}
use lib.Bits.{bit_and, bit_or}
use lib.Dec.{eqb, ltb}
use borrow.Author.Tests.{eqb-true, ltb-true}
use Rattle.meaning.specs.Lists.{all, count, through, some}
use Rattle.meaning.specs.Bits.{put_digit, digit, bit}
use Rattle.layout.specs.Room.{Read}
use Rattle.lists.specs.Below.{all_below, all-below, alike, alike-eq}
use Rattle.lists.specs.Tests.{all-at}
use Rattle.space.specs.Marks.{put_bit, mask}

unfoldable put : Bool → ℕ → ℕ → ℕ → ℕ
unfolding put_digit
put s x u n = through (put_bit s) x (count u n)

unfoldable any_bit : ℕ → ℕ → ℕ → Bool
unfolding digit
any_bit x u n = some (λ k. bit k x) (count u n)

unfoldable masked : ℕ → ℕ → ℕ → Bool
masked u n x =
    all (eqb (bit_or x (mask u n)) (put true x u n) ∷ ltb (bit_or x (mask u n)) 256
    ∷ eqb (x - bit_and x (mask u n)) (put false x u n) ∷ ltb (x - bit_and x (mask u n)) 256
    ∷ alike (not (eqb (bit_and x (mask u n)) 0)) (any_bit x u n) ∷ [])

masked-all : all_below 9 (λ u. all_below (9 - u) (λ n. all_below 256 (masked u n))) ≡ true
unfolding masked put any_bit put_digit digit all alike
masked-all = refl

module _ (x u n : ℕ) (h : x < 256) (k : u + n ≤ 8) where
  every_byte : masked u n x ≡ true
  every_byte =
      all-below 256 (masked u n)
      (all-below (9 - u) (λ n. all_below 256 (masked u n))
      (all-below 9 (λ u. all_below (9 - u) (λ n. all_below 256 (masked u n))) masked-all u (omega arith)) n (omega arith)) x h

  module _ {m : ℕ} (q : m ≡ mask u n) where
    pub bits-set : {s : Bool} → s ≡ true → Read (through (put_bit s) x (count u n)) (bit_or x m)
    unfolding masked put
    bits-set e = rw e (rw q (record { is = eqb-true _ _ (all-at _ every_byte 0); small = ltb-true _ _ (all-at _ every_byte 1) }))

    pub bits-clear : {s : Bool} → s ≡ false → Read (through (put_bit s) x (count u n)) (x - bit_and x m)
    unfolding masked put
    bits-clear e = rw e (rw q (record { is = eqb-true _ _ (all-at _ every_byte 2); small = ltb-true _ _ (all-at _ every_byte 3) }))

    pub any-bit : not (eqb (bit_and x m) 0) ≡ some (λ k. bit k x) (count u n)
    unfolding masked any_bit
    any-bit = ap (λ (y : ℕ). not (eqb (bit_and x y) 0)) q ∙ alike-eq _ _ (all-at _ every_byte 4)

-- the mask as the code has it, and that it is a byte
unfoldable coded : ℕ → ℕ → Bool
coded u n = all (eqb ((1 * 2 ^ n % 18446744073709551616 - 1) * 2 ^ u % 18446744073709551616) (mask u n) ∷ ltb (mask u n) 256 ∷ [])

coded-all : all_below 9 (λ u. all_below (9 - u) (coded u)) ≡ true
unfolding coded all
coded-all = refl

module _ (u n : ℕ) (h : u + n ≤ 8) where
  each-mask : coded u n ≡ true
  each-mask = all-below (9 - u) (coded u) (all-below 9 (λ u. all_below (9 - u) (coded u)) coded-all u (omega arith)) n (omega arith)

  pub mask-small : mask u n < 256
  unfolding coded
  mask-small = ltb-true _ _ (all-at _ each-mask 1)

  pub mask-coded : Read (mask u n) ((1 * 2 ^ n % 18446744073709551616 - 1) * 2 ^ u % 18446744073709551616)
  unfolding coded
  mask-coded =
      let e = eqb-true _ _ (all-at _ each-mask 0) in
      record { is = e; small = subst (λ (x : ℕ). x < 256) (sym e) mask-small }
