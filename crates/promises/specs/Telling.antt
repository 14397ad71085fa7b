-- The listing: each file that is no system file, once, by rising slot; and the counts
use Rattle.std.specs.Prelude.{◌≡◌, ◌≢◌, ◌⊎◌, true, List, [], ◌∷◌, ℕ, suc, ◌<◌, drop}
use Rattle.std.proofs.Math.Path.{refl, sym, subst}
use Rattle.std.proofs.Common.{ap, ◌∙◌, inl, inr, arith, drop_of_length-le, drop-cons}
use Rattle.std.proofs.Math.Bool.{not}
use Rattle.std.proofs.Math.ListN.{length}
use Rattle.std.proofs.Math.Dec.{T}
use Rattle.meaning.specs.Layout.{is_slot, slots}
use Rattle.meaning.specs.Entries.{in_use_primary, system, name_of}
use Rattle.meaning.specs.Chain.{owned, files}
use Rattle.meaning.specs.Refusal.{unplaced}
use Rattle.meaning.specs.Refusals.{check}
use Rattle.meaning.specs.Listing
use Rattle.meaning.specs.Listing.{shown, listed, tell_first, no_file}
use Rattle.meaning.specs.Plain
use Rattle.meaning.specs.Plain.{found, nothing, file_at, plain, is_system}
use Rattle.meaning.specs.declared.Geometry.{Geometry}
use Rattle.lists.specs.Members
use Rattle.lists.specs.Members.{In, Distinct}
use Rattle.laws.specs.Facts
use Rattle.laws.specs.Facts.{Sound, IsFile}
use Rattle.laws.specs.Named
use Rattle.laws.specs.Others
use Rattle.laws.specs.Store
use Rattle.laws.specs.Rising
use Rattle.laws.specs.Rising.{Rising}
use Rattle.promises.specs.Promises.{Lists, Counted, ith}
use Rattle.promises.specs.Refusing

module _ (g : Geometry) (d : List ℕ) where
  listed-rising : Rising (listed g d)
  unfolding listed files slots
  listed-rising = Rising.keep-rising (shown g d) (Rising.keep-rising (in_use_primary g d) (Rising.keep-rising (is_slot g d) (Rising.count-rising 0 256)))

  listed-distinct : Distinct (listed g d)
  unfolding listed
  listed-distinct = Members.keep-distinct (shown g d) (Facts.files-distinct g d)

  listed_in : (p : ℕ) → In p (listed g d) → IsFile g d p × T (not (system g d p))
  unfolding listed shown
  listed_in p i = let k = Members.keep-in (λ q. not (system g d q)) p (files g d) i in (Facts.files-in g d p k.0, k.1)

  in-listed : (p : ℕ) → IsFile g d p → T (not (system g d p)) → In p (listed g d)
  unfolding listed shown
  in-listed p f t = Members.in-keep (λ q. not (system g d q)) (Facts.in-files g d p f) t

  ith-in : (i : ℕ) → i < length (listed g d) → IsFile g d (ith g d i) × T (not (system g d (ith g d i)))
  ith-in i h = listed_in (ith g d i) (Others.get_or-in (listed g d) i h)

  tell : (p : ℕ) (ps : List ℕ) → tell_first g d (p ∷ ps) ≡ record
      { refusal = unplaced 0; more = true; name = name_of g d p; size = length (file_at g d p).bytes; granules = (file_at g d p).granules }
  unfolding tell_first file_at
  tell p ps = λ i. record { refusal = unplaced 0; more = true; name = name_of g d p; size = sym (Others.file-length g d p) i; granules = length (owned g d p) }

  no_more : tell_first g d [] ≡ no_file (unplaced 0)
  unfolding tell_first
  no_more = refl

  pub list-serves : (i : ℕ) → (Listing.list g d i).refusal.number ≡ 0 → Sound g d → Lists g d i (Listing.list g d i)
  unfolding Listing.list
  list-serves i e c =
      let n : (check g d).number ≡ 0 = sym (Refusing.list-number g d i) ∙ e in
      record {
        tells = λ h. rw n (ap (tell_first g d) (drop-cons (listed g d) i 0 h) ∙ tell (ith g d i) (drop (suc i) (listed g d)));
        file = λ h. Named.plain-is g d c (ith g d i) (name_of g d (ith g d i)) (ith-in i h).0 refl;
        shown = λ h. user (ith g d i) (ith-in i h).1;
        rising = λ j a h. Rising.get_or-rising listed-rising j i a h;
        ends = λ h. rw n (ap (tell_first g d) (drop_of_length-le (listed g d) h) ∙ no_more);
      }
    where
      user : (p : ℕ) → T (not (system g d p)) → T (not (is_system (file_at g d p)))
      user p t = unfold file_at in t

  told : Sound g d → (n : List ℕ) (f : Plain.File) → plain g d n ≡ found f → T (not (is_system f))
      → (i : ℕ) × (i < length (listed g d)) × (name_of g d (ith g d i) ≡ n) × ((j : ℕ) → j < length (listed g d) → name_of g d (ith g d j) ≡ n → j ≡ i)
  told c n f e t = go (Named.look g d c n)
    where
      user : (p : ℕ) → f ≡ file_at g d p → T (not (system g d p))
      user p q = unfold file_at in subst (λ (x : Plain.File). T (not (is_system x))) q t

      go : ((p : ℕ) × IsFile g d p × (name_of g d p ≡ n)) ⊎ ((p : ℕ) → IsFile g d p → name_of g d p ≢ n)
          → (i : ℕ) × (i < length (listed g d)) × (name_of g d (ith g d i) ≡ n) × ((j : ℕ) → j < length (listed g d) → name_of g d (ith g d j) ≡ n → j ≡ i)
      go (inl w) =
          let p = w.0 in
          let q : f ≡ file_at g d p = Named.found-inj f (file_at g d p) (sym e ∙ Named.plain-is g d c p n w.1 w.2) in
          let k = Rising.in-get_or (in-listed p w.1 (user p q)) in (
            k.0,
            k.1,
            ap (name_of g d) k.2 ∙ w.2,
            λ j h m. Store.get_or-inj listed-distinct j k.0 h k.1
                (c.names (ith g d j) p (ith-in j h).0 w.1 (m ∙ sym w.2) ∙ sym k.2),
          )
      go (inr w) = absurd (lost (sym e ∙ Named.plain-none g d n w))
        where
          lost : found f ≡ nothing → ⊥
          lost q = let z : ◌≡◌ {A = ℕ} 0 1 = cc in omega arith

  pub counts-serves : (Listing.counts g d).refusal.number ≡ 0 → Sound g d → Counted g d (Listing.counts g d)
  unfolding Listing.counts
  counts-serves e c = record { files' = rw e; free = rw e; told = told c }
