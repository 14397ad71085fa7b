-- The plain list of named files of a sound disk
use Rattle.std.specs.Prelude.{◌≡◌, refl, ◌≢◌, ◌⊎◌, List, [], ◌∷◌, ℕ, take}
use Rattle.std.proofs.Common.{subst, inl, inr}
use Rattle.std.proofs.Math.Dec.{eqb}
use Rattle.meaning.specs.Lists.{keep, same}
use Rattle.meaning.specs.Layout.{slots, hit}
use Rattle.meaning.specs.Names.{hash}
use Rattle.meaning.specs.Entries.{in_use_primary, name_of}
use Rattle.meaning.specs.LookUp.{candidates, carries, named}
use Rattle.meaning.specs.Plain
use Rattle.meaning.specs.Plain.{found, nothing, file_at, found_in, plain}
use Rattle.meaning.specs.declared.Geometry.{Geometry}
use Rattle.lists.specs.Members
use Rattle.lists.specs.Members.{In}
use Rattle.laws.specs.Facts
use Rattle.laws.specs.Facts.{IsFile, Sound}
use Rattle.laws.specs.Change
use Rattle.laws.specs.Words.{words}

only : (p : ℕ) (xs : List ℕ) → In p xs → ((x : ℕ) → In x xs → x ≡ p) → take 1 xs ≡ p ∷ []
only p [] i f = Members.none_in i
only p (x ∷ xs) i f = rw (f x Members.In.here)

empty : (xs : List ℕ) → ((x : ℕ) → In x xs → ⊥) → xs ≡ []
empty [] f = refl
empty (x ∷ xs) f = absurd (f x Members.In.here)

pub found-inj : (a b : Plain.File) → found a ≡ found b → a ≡ b
found-inj a b e = cc

module _ (g : Geometry) (d : List ℕ) where
  pub named_in : (n : List ℕ) (x : ℕ) → In x (keep (carries g d n) (candidates g d n)) → IsFile g d x × (name_of g d x ≡ n)
  unfolding words
  named_in n x i =
      let a = Members.keep-in (carries g d n) x (candidates g d n) i in
      let b = Members.keep-in (λ s. eqb (hit g d s) (hash n)) x (slots g d) a.0 in (
        record { slot = Facts.slots-in g d x b.0; primary' = Members.and_l (in_use_primary g d x) _ a.1 },
        Members.same-eq _ _
            (Members.all-second (in_use_primary g d x) (same (name_of g d x) n) a.1),
      )

  pub none_named : (n : List ℕ) → ((p : ℕ) → IsFile g d p → name_of g d p ≢ n) → named g d n ≡ []
  unfolding words
  none_named n f = rw (empty (keep (carries g d n) (candidates g d n)) (λ x i. let k = named_in n x i in f x k.0 k.1))

  module _ (c : Sound g d) where
    pub in-named : (p : ℕ) → IsFile g d p → In p (keep (carries g d (name_of g d p)) (candidates g d (name_of g d p)))
    unfolding words
    in-named p f =
        Members.in-keep (carries g d (name_of g d p))
        (Members.in-keep (λ s. eqb (hit g d s) (hash (name_of g d p))) (Facts.in-slots g d p f.slot)
        (Members.eq-T ((Change.filed-at g d c p f).hashes p (Change.chain_head g d c p f.slot))))
        (Members.all_two (in_use_primary g d p) (same (name_of g d p) (name_of g d p)) f.primary' (Members.same_refl (name_of g d p)))

    pub named-is : (p : ℕ) → IsFile g d p → named g d (name_of g d p) ≡ p ∷ []
    unfolding words
    named-is p f = only p _ (in-named p f) (λ x i. let k = named_in (name_of g d p) x i in c.names x p k.0 f k.1)

    pub named-at : (p : ℕ) (n : List ℕ) → IsFile g d p → name_of g d p ≡ n → named g d n ≡ p ∷ []
    named-at p n f e = subst (λ (m : List ℕ). named g d m ≡ p ∷ []) e (named-is p f)

    -- there is a file of that name, or none
    pub look : (n : List ℕ) → ((p : ℕ) × IsFile g d p × (name_of g d p ≡ n)) ⊎ ((p : ℕ) → IsFile g d p → name_of g d p ≢ n)
    look n = go (keep (carries g d n) (candidates g d n)) refl
      where
        go : (xs : List ℕ) → keep (carries g d n) (candidates g d n) ≡ xs → ((p : ℕ) × IsFile g d p × (name_of g d p ≡ n)) ⊎
            ((p : ℕ) → IsFile g d p → name_of g d p ≢ n)
        go [] e = inr (λ p f q. Members.none_in (subst (λ (l : List ℕ). In p l) e
            (subst (λ (m : List ℕ). In p (keep (carries g d m) (candidates g d m))) q (in-named p f))))
        go (x ∷ xs) e = let k = named_in n x (rw e Members.In.here) in inl (x, k.0, k.1)

    pub plain-is : (p : ℕ) (n : List ℕ) → IsFile g d p → name_of g d p ≡ n → plain g d n ≡ found (file_at g d p)
    unfolding plain found_in
    plain-is p n f e = rw (named-at p n f e)

  pub plain-none : (n : List ℕ) → ((p : ℕ) → IsFile g d p → name_of g d p ≢ n) → plain g d n ≡ nothing
  unfolding plain found_in
  plain-none n f = rw (none_named n f)
