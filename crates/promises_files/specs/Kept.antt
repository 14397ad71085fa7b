-- The theorem to the type of `Statement`.
use Rattle.std.specs.Prelude.{◌≡◌, refl, ◌≢◌, ◌⊎◌, List, ℕ}
use Rattle.std.proofs.Common.{sym, ◌∙◌, inl, inr, arith}
use Rattle.meaning.specs.Entries.{name_of}
use Rattle.meaning.specs.Plain.{File, found, nothing, file_at, plain}
use Rattle.meaning.specs.declared.Geometry.{Geometry}
use Rattle.laws.specs.Facts
use Rattle.laws.specs.Facts.{IsFile, Sound}
use Rattle.laws.specs.Named
use Rattle.promises_files.specs.Statement.{EveryFile}

-- a file is not nothing
some-not-none : (f : File) → found f ≡ nothing → ⊥
some-not-none f e = let z : ◌≡◌ {A = ℕ} 0 1 = cc in omega (arith, z)

module _ (g : Geometry) (d : List ℕ) (c : Sound g d) where
  only : (n : List ℕ) (f : File) → plain g d n ≡ found f → (p : ℕ) × IsFile g d p × (name_of g d p ≡ n) × (file_at g d p ≡ f)
  only n f e = go (Named.look g d c n)
    where
      go : ((p : ℕ) × IsFile g d p × (name_of g d p ≡ n)) ⊎ ((p : ℕ) → IsFile g d p → name_of g d p ≢ n)
          → (p : ℕ) × IsFile g d p × (name_of g d p ≡ n) × (file_at g d p ≡ f)
      go (inl k) = (k.0, k.1, k.2, Named.found-inj (file_at g d k.0) f (sym (Named.plain-is g d c k.0 n k.1 k.2) ∙ e))
      go (inr k) = absurd (some-not-none f (sym e ∙ Named.plain-none g d n k))

pub every-file : EveryFile
every-file g d e =
    let c = Facts.sound g d e in
    record {
      every = λ p f. Named.plain-is g d c p (name_of g d p) f refl;
      only = only g d c;
      once = c.names;
      none = λ n. (λ z p f q. some-not-none (file_at g d p) (sym (Named.plain-is g d c p n f q) ∙ z), λ k. Named.plain-none g d n k);
    }
