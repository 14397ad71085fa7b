-- What the tests of a slot's fault say (02 §2), opened.
use Rattle.std.specs.Prelude.{◌≡◌, refl, ◌⊎◌, true, ◌&&◌, List, [], ◌∷◌, ℕ, length, T, eqb}
use Rattle.std.proofs.Common.{inl, inr, arith, T_not}
use Rattle.std.proofs.Math.Bool.{Bool, not}
use Rattle.std.proofs.Math.Dec.{eqb→eq}
use Rattle.meaning.specs.Lists.{has, some, all, any, every, first_or, keep}
use Rattle.meaning.specs.Layout.{is_slot, slots}
use Rattle.meaning.specs.Entries.{in_use, extension, marker, link}
use Rattle.meaning.specs.Chain.{files}
use Rattle.meaning.specs.Consistent.{pairs_hold, follows_by}
use Rattle.meaning.specs.Fault.{hands_on, ends, bad_entry, walk, walked, met_from, good_extension, chain_fault, file_of}
use Rattle.meaning.specs.declared.Geometry.{Geometry}
use Rattle.lists.specs.Members
use Rattle.lists.specs.Members.{In}
use Rattle.laws.specs.Facts
use Rattle.laws.specs.Facts.{IsFile}
use Rattle.laws.specs.Entry
use Rattle.laws.specs.Entry.{Follows}
use Rattle.lists.specs.First.{yes-T}

-- Lists -------------------------------------------------------------------------------------------------------------------------

pub some_in : (p : ℕ → Bool) (xs : List ℕ) → T (some p xs) → (x : ℕ) × In x xs × T (p x)
some_in p [] t = absurd t
some_in p (y ∷ xs) t = go (Members.or-e (p y) (some p xs) t) (some_in p xs)
  where
    go : T (p y) ⊎ T (some p xs) → (T (some p xs) → (x : ℕ) × In x xs × T (p x)) → (x : ℕ) × In x (y ∷ xs) × T (p x)
    go (inl u) r = (y, Members.In.here, u)
    go (inr u) r = let k = r u in (k.0, Members.In.there k.1, k.2)

pub in_some : (p : ℕ → Bool) {x : ℕ} {xs : List ℕ} → In x xs → T (p x) → T (some p xs)
in_some p {x} (Members.In.here {xs = xs}) t = Members.or_l (p x) (some p xs) t
in_some p (Members.In.there {y = y} {xs = xs} i) t = Members.or_r (p y) (some p xs) (in_some p i t)

pub first-in : (z : ℕ) {y : ℕ} {xs : List ℕ} → In y xs → In (first_or z xs) xs
unfolding first_or
first-in z Members.In.here = Members.In.here
first-in z (Members.In.there i) = Members.In.here

one_in : (xs : List ℕ) → length xs ≡ 1 → (x : ℕ) × In x xs
one_in [] e = absurd (omega arith)
one_in (x ∷ xs) e = (x, Members.In.here)

-- members that are all alike, none twice, are one
pub alone : (x : ℕ) {y : ℕ} (xs : List ℕ) → Members.Distinct xs → In y xs → ((z : ℕ) → In z xs → z ≡ x) → length xs ≡ 1
alone x [] d i f = Members.none_in i
alone x (a ∷ []) d i f = refl
alone x (a ∷ b ∷ xs) (Members.Distinct.fresh n d) i f =
    absurd (n (Members.head_in xs (rw (f a Members.In.here, f b (Members.In.there Members.In.here)))))

pub all_three : (a b c : Bool) → T a → T b → T c → T (all (a ∷ b ∷ c ∷ []))
unfolding all
all_three a b c t u v = Members.and_i a (b && (c && true)) t (Members.and_i b (c && true) u (Members.and_i c true v tt))

pub all-says : (a b c : Bool) → T (all (a ∷ b ∷ c ∷ [])) → T a × T b × T c
unfolding all
all-says a b c t =
    let u = Members.and_r a (b && (c && true)) t in
    (Members.and_l a (b && (c && true)) t, Members.and_l b (c && true) u, Members.and_l c true (Members.and_r b (c && true) u))

pub two-says : (a b : Bool) → T (all (a ∷ b ∷ [])) → T a × T b
unfolding all
two-says a b t = (Members.and_l a (b && true) t, Members.all-second a b t)

-- Entries -----------------------------------------------------------------------------------------------------------------------

-- b leads to x, and some walk meets it
pub record Leads (g : Geometry) (d : List ℕ) (b x : ℕ) : Type 0 where
  pub to : link g d b ≡ x
  pub on : T (hands_on g d b)
  pub by : In b (walked g d)

module _ (g : Geometry) (d : List ℕ) where
  pub met-says : (b x : ℕ) → In b (met_from g d x) → Leads g d b x
  unfolding met_from
  met-says b x i =
      let k = all-says (eqb (link g d b) x) (hands_on g d b) (has (walked g d) b)
      (Members.keep-in (λ b. all (eqb (link g d b) x ∷ hands_on g d b ∷ has (walked g d) b ∷ [])) b (slots g d) i).1 in
      record { to = eqb→eq _ _ k.0; on = k.1; by = Members.has_in b (walked g d) k.2 }

  pub says-met : (b x : ℕ) → T (is_slot g d b) → Leads g d b x → In b (met_from g d x)
  unfolding met_from
  says-met b x t l =
      Members.in-keep (λ b. all (eqb (link g d b) x ∷ hands_on g d b ∷ has (walked g d) b ∷ [])) (Facts.in-slots g d b t)
      (all_three (eqb (link g d b) x) (hands_on g d b) (has (walked g d) b) (Members.eq-T l.to) l.on (Members.in-has l.by))

  pub met-distinct : (x : ℕ) → Members.Distinct (met_from g d x)
  unfolding met_from
  met-distinct x = Members.keep-distinct (λ b. all (eqb (link g d b) x ∷ hands_on g d b ∷ has (walked g d) b ∷ [])) (Facts.slots-distinct g d)

  -- an extension in order: it is met, and follows whatever it is met from
  pub record GoodExtension (x : ℕ) : Type 0 where
    pub met : (b : ℕ) × In b (met_from g d x)
    pub follow : (b : ℕ) → In b (met_from g d x) → Follows g d b x

  pub good-says : (x : ℕ) → T (good_extension g d x) → GoodExtension x
  unfolding good_extension follows_by
  good-says x t =
      let k = two-says (eqb (length (met_from g d x)) 1) (every (λ b. follows_by g d 0x90 b x) (met_from g d x)) t in
      record {
        met = one_in (met_from g d x) (eqb→eq _ _ k.0);
        follow = λ b i. Entry.follows-says g d 0x90 b x
            (Members.every-all (λ b. follows_by g d 0x90 b x) k.1 i);
      }

  pub says-good : (x : ℕ) → length (met_from g d x) ≡ 1 → ((b : ℕ) → In b (met_from g d x) → Follows g d b x) → T (good_extension g d x)
  unfolding good_extension follows_by
  says-good x e f =
      Members.all_two (eqb (length (met_from g d x)) 1) (every (λ b. follows_by g d 0x90 b x) (met_from g d x)) (Members.eq-T e)
      (Members.all-every (λ b. follows_by g d 0x90 b x) (met_from g d x) (λ b i. Entry.says-follows g d 0x90 b x (f b i)))

  -- no chain fault at a slot in use
  pub record Firm (s : ℕ) : Type 0 where
    pub upright : T (hands_on g d s) ⊎ T (ends g d s)
    pub good : T (extension g d s) → T (good_extension g d s)

  pub firm : (s : ℕ) → T (in_use g d s) → (T (chain_fault g d s) → ⊥) → Firm s
  unfolding chain_fault bad_entry
  firm s u n = record {
    upright = Members.any-e (hands_on g d s) (ends g d s)
        (yes-T (any (hands_on g d s ∷ ends g d s ∷ [])) (λ b. faulty (Members.any-l (bad_entry g d s) unlike b)));
    good = λ x. yes-T (good_extension g d s)
        (λ b. faulty (Members.any-r (bad_entry g d s) unlike (Members.all_two (extension g d s) (not (good_extension g d s)) x b)));
  }
    where
      unlike : Bool
      unlike = all (extension g d s ∷ not (good_extension g d s) ∷ [])

      faulty : T (any (bad_entry g d s ∷ unlike ∷ [])) → ⊥
      faulty t = n (Members.all_two (in_use g d s) (any (bad_entry g d s ∷ unlike ∷ [])) u t)

  pub not-faulty : (s : ℕ) → (T (in_use g d s) → Firm s) → T (chain_fault g d s) → ⊥
  unfolding chain_fault bad_entry
  not-faulty s f t =
      let k = two-says (in_use g d s) (any (bad_entry g d s ∷ unlike ∷ [])) t in
      go (f k.0) (Members.any-e (bad_entry g d s) unlike k.1)
    where
      unlike : Bool
      unlike = all (extension g d s ∷ not (good_extension g d s) ∷ [])

      up : T (hands_on g d s) ⊎ T (ends g d s) → T (any (hands_on g d s ∷ ends g d s ∷ []))
      up (inl h) = Members.any-l (hands_on g d s) (ends g d s) h
      up (inr h) = Members.any-r (hands_on g d s) (ends g d s) h

      go : Firm s → T (bad_entry g d s) ⊎ T unlike → ⊥
      go k (inl b) = T_not (any (hands_on g d s ∷ ends g d s ∷ [])) b (up k.upright)
      go k (inr b) = let h = two-says (extension g d s) (not (good_extension g d s)) b in T_not (good_extension g d s) h.1 (k.good h.0)

  pub ends-says : (s : ℕ) → T (ends g d s) → T (pairs_hold g d s) × (marker g d s ≡ 0xff)
  unfolding ends
  ends-says s t = let k = two-says (pairs_hold g d s) (eqb (marker g d s) 0xff) t in (k.0, eqb→eq _ _ k.1)

  pub says-ends : (s : ℕ) → T (pairs_hold g d s) → marker g d s ≡ 0xff → T (ends g d s)
  unfolding ends
  says-ends s p m = Members.all_two (pairs_hold g d s) (eqb (marker g d s) 0xff) p (Members.eq-T m)

  -- the file of an entry that some walk meets
  pub file_of-is : (s p : ℕ) → IsFile g d p → In s (walk g d p) → IsFile g d (file_of g d s) × In s (walk g d (file_of g d s))
  unfolding file_of
  file_of-is s p f i =
      let j = first-in s (Members.in-keep (λ p. has (walk g d p) s) (Facts.in-files g d p f) (Members.in-has i)) in
      let k = Members.keep-in (λ p. has (walk g d p) s) (first_or s (keep (λ p. has (walk g d p) s) (files g d))) (files g d) j in
      (Facts.files-in g d _ k.0, Members.has_in s (walk g d (first_or s (keep (λ p. has (walk g d p) s) (files g d)))) k.1)
