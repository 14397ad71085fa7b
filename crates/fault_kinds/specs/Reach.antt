-- A walk by plain steps, without regard to whom it has met: it comes to the same entries (02 §2).
use Rattle.std.proofs.Math.Path.{◌≡◌, refl, ap}
use Rattle.std.specs.Prelude.{◌⊎◌, Bool, length, T, eqb}
use Rattle.std.proofs.Math.Logic.{inl, inr}
use Rattle.std.proofs.Math.Bool.{true, false, not, cond}
use mathlib.Core.List.{List, [], ◌∷◌}
use Prim.Native.Nat.{ℕ, zero, suc}
use Rattle.std.proofs.Common.{arith, eqb→eq, T_not}
use Rattle.meaning.specs.Lists.{has}
use Rattle.meaning.specs.Layout.{slots}
use Rattle.meaning.specs.Entries.{marker, link}
use Rattle.meaning.specs.Chain.{chain, chain_from}
use Rattle.meaning.specs.Fault.{hands_on, ends, walk_from, walk, chain_fault, chain_whole}
use Rattle.meaning.specs.declared.Geometry.{Geometry}
use Rattle.lists.specs.Members
use Rattle.lists.specs.Members.{In}
use Rattle.laws.specs.Facts.{IsFile}
use Rattle.laws.specs.Walk
use Rattle.laws.specs.Kinds

module _ (g : Geometry) (d : List ℕ) where
  unfoldable pub reach : ℕ → ℕ → List ℕ
  reach zero s = []
  reach (suc left) s = s ∷ cond (hands_on g d s) (reach left (link g d s)) []

  reach-cons : (left s x : ℕ) → In x (reach (suc left) s) → (x ≡ s) ⊎ (T (hands_on g d s) × In x (reach left (link g d s)))
  unfolding reach
  reach-cons left s x i = go (hands_on g d s) refl (Members.in-cons i)
    where
      go : (b : Bool) → hands_on g d s ≡ b → (x ≡ s) ⊎ In x (cond b (reach left (link g d s)) []) → (x ≡ s) ⊎
          (T (hands_on g d s) × In x (reach left (link g d s)))
      go b e (inl q) = inl q
      go true e (inr j) = inr (Members.true-T e, j)
      go false e (inr j) = Members.none_in j

  walk_from-reach : (left : ℕ) (before : List ℕ) (s x : ℕ) → In x (walk_from g d left before s) → In x (reach left s)
  unfolding walk_from reach
  walk_from-reach zero before s x i = i
  walk_from-reach (suc left) before s x i = go (Walk.walk-cons g d left before s x i) (walk_from-reach left (s ∷ before) (link g d s) x)
    where
      rest : List ℕ
      rest = walk_from g d left (s ∷ before) (link g d s)

      go : (x ≡ s) ⊎ (T (hands_on g d s) × In x rest) → (In x rest → In x (reach left (link g d s))) → In x
          (s ∷ cond (hands_on g d s) (reach left (link g d s)) [])
      go (inl e) r = Members.head_in _ e
      go (inr j) r = rw (Members.T_true {b = hands_on g d s} j.0) (Members.In.there (r j.1))

  reach-walk : (p : ℕ) → IsFile g d p → (left s x : ℕ) → In s (walk g d p) → In x (reach left s) → In x (walk g d p)
  unfolding reach
  reach-walk p f zero s x m i = Members.none_in i
  reach-walk p f (suc left) s x m i = go (reach-cons left s x i) (reach-walk p f left (link g d s) x)
    where
      go : (x ≡ s) ⊎ (T (hands_on g d s) × In x (reach left (link g d s))) →
          (In (link g d s) (walk g d p) → In x (reach left (link g d s)) → In x (walk g d p)) → In x (walk g d p)
      go (inl e) r = rw e m
      go (inr j) r = r (Walk.walk-goes g d p s f m j.0) j.1

  -- whom the walk from a file meets
  pub meets : (p s : ℕ) → IsFile g d p → has (walk g d p) s ≡ has (reach (length (slots g d)) p) s
  unfolding walk
  meets p s f =
      Members.both-T {a = has (walk g d p) s} {b = has (reach (length (slots g d)) p) s}
      (λ t. Members.in-has (walk_from-reach (length (slots g d)) [] p s (Members.has_in s (walk g d p) t)))
      (λ t. Members.in-has (reach-walk p f (length (slots g d)) p s (Walk.walk_first g d p f) (Members.has_in s (reach (length (slots g d)) p) t)))

  -- an entry without a chain fault hands on exactly if its marker is FEH
  marked-hands : (s : ℕ) → Kinds.Firm g d s → eqb (marker g d s) 0xfe ≡ hands_on g d s
  marked-hands s k = Members.both-T {a = eqb (marker g d s) 0xfe} {b = hands_on g d s} (λ t. go t k.upright)
      (λ t. Members.eq-T (Walk.hands-says g d s t).marked)
    where
      go : T (eqb (marker g d s) 0xfe) → T (hands_on g d s) ⊎ T (ends g d s) → T (hands_on g d s)
      go t (inl h) = h
      go t (inr e) = absurd (omega (arith, eqb→eq (marker g d s) 0xfe t, (Kinds.ends-says g d s e).1))

  firm-at : (p s : ℕ) → IsFile g d p → T (chain_whole g d p) → In s (walk g d p) → Kinds.Firm g d s
  unfolding chain_whole
  firm-at p s f w i = Kinds.firm g d s (Walk.walk-used g d p s f i).used (T_not (chain_fault g d s) (Members.every-all (λ s. not (chain_fault g d s)) w i))

  chain-reach : (p : ℕ) → IsFile g d p → T (chain_whole g d p) → (left s : ℕ) → In s (walk g d p) → chain_from g d left s ≡ reach left s
  unfolding chain_from reach
  chain-reach p f w zero s i = refl
  chain-reach p f w (suc left) s i =
      rw (marked-hands s (firm-at p s f w i)) (go (Members.decide (hands_on g d s)) (chain-reach p f w left (link g d s)))
    where
      go : Members.Test (hands_on g d s) → (In (link g d s) (walk g d p) → chain_from g d left (link g d s) ≡ reach left (link g d s))
          → ◌≡◌ {A = List ℕ} (s ∷ cond (hands_on g d s) (chain_from g d left (link g d s)) []) (s ∷ cond (hands_on g d s) (reach left (link g d s)) [])
      go (Members.Test.holds t) r = ap {B = List ℕ} (λ (l : List ℕ). s ∷ cond (hands_on g d s) l []) (r (Walk.walk-goes g d p s f i t))
      go (Members.Test.fails t) r = rw (Members.no_false {b = hands_on g d s} t)

  -- a whole chain is what the plain steps come to
  pub whole-chain : (p : ℕ) → IsFile g d p → T (chain_whole g d p) → chain g d p ≡ reach (length (slots g d)) p
  unfolding chain
  whole-chain p f w = chain-reach p f w (length (slots g d)) p (Walk.walk_first g d p f)
