-- What a change of one file leaves of all others: their bytes, and the reserved granules
use Rattle.std.specs.Prelude.{◌≡◌, ◌≢◌, ◌⊎◌, not, ◌&&◌, List, [], ◌∷◌, ℕ, zero, suc, ◌+◌, ◌*◌, ◌/◌, ◌%◌, ◌<◌, get_or, T, ltb}
use Rattle.std.proofs.Math.Path.{ap, sym}
use Rattle.std.proofs.Common.{◌∙◌, inl, inr, arith, T_not, ltb→lt}
use Rattle.std.proofs.Math.Bool.{cond}
use Rattle.std.proofs.Math.Decide.{ℕ_discrete}
use Rattle.std.proofs.Math.ListN.{length, replicate}
use Rattle.std.proofs.lemmas.List.{length-map}
use Rattle.std.proofs.Math.Dec.{not_T}
use Rattle.meaning.specs.Lists.{count, each, has}
use Rattle.meaning.specs.Layout.{byte, taken, field, granules, directory_granules, granule_bytes}
use Rattle.lists.specs.Sizes
use Rattle.meaning.specs.Entries.{system, name_of, size_of}
use Rattle.meaning.specs.Chain.{owned, files, place}
use Rattle.meaning.specs.LookUp.{named}
use Rattle.meaning.specs.Plain.{Found, found, nothing, file_at, found_in, plain}
use Rattle.promises_words.specs.Untouched.{hush, beyond_at, beyond_in, beyond}
use Rattle.meaning.specs.Free.{reserved}
use Rattle.meaning.specs.declared.Geometry.{Geometry}
use Rattle.lists.specs.Members
use Rattle.lists.specs.Members.{In, length-count}
use Rattle.laws.specs.Facts
use Rattle.laws.specs.Facts.{IsFile, Sound}
use Rattle.laws.specs.Frame
use Rattle.laws.specs.Change
use Rattle.laws.specs.Change.{granules_of}
use Rattle.laws.specs.Named
use Rattle.laws.specs.Words.{words}

pub get_or-in : (xs : List ℕ) (i : ℕ) → i < length xs → In (get_or xs i 0) xs
get_or-in [] i h = absurd (omega arith)
get_or-in (x ∷ xs) zero h = Members.In.here
get_or-in (x ∷ xs) (suc i) h = Members.In.there (get_or-in xs i (omega arith))

-- in which granule a byte of a file lies
pub place_in : (g : Geometry) (d : List ℕ) (p i : ℕ) → i < granule_bytes g * length (owned g d p) → In (place g d p i / granule_bytes g) (owned g d p)
unfolding place
place_in g d p i h =
    let e : (granule_bytes g * get_or (owned g d p) (i / granule_bytes g) 0 + i % granule_bytes g) / granule_bytes g
    ≡ get_or (owned g d p) (i / granule_bytes g) 0 =
    Sizes.at_width _ _ (Sizes.split (Sizes.bytes_pos g) i).rest in
    rw e (get_or-in (owned g d p) (i / granule_bytes g) (Sizes.width-lt (Sizes.bytes_pos g) i _ h))

-- outside the directory and the file's granules, before and after, nothing changed
abbrev pub Same : Geometry → List ℕ → List ℕ → ℕ → Type 0
Same g d d' p = (i : ℕ) → (In (i / granule_bytes g) (directory_granules g d) → ⊥) → (In (i / granule_bytes g) (granules_of g d p) → ⊥)
    → (In (i / granule_bytes g) (granules_of g d' p) → ⊥) → byte d' i ≡ byte d i

-- the name n stands at the same slot in both, and not at p; or at none
pub data Elsewhere (g : Geometry) (d d' : List ℕ) (p : ℕ) (n : List ℕ) : Type 0 where
  bears : (q : ℕ) → IsFile g d q → q ≢ p → named g d n ≡ q ∷ [] → named g d' n ≡ q ∷ [] → Elsewhere g d d' p n
  lacks : named g d n ≡ [] → named g d' n ≡ [] → Elsewhere g d d' p n

pub attribute-low : (k : ℕ) → In k (0 ∷ 1 ∷ 2 ∷ 4 ∷ count 0x10 4) → k < 0x16
attribute-low k i = ltb→lt k 0x16 (Members.every-all (λ k. ltb k 0x16) tt i)

attribute-lt : (k : ℕ) → In k (0 ∷ 1 ∷ 2 ∷ 4 ∷ count 0x10 4) → k < 32
attribute-lt k i = ltb→lt k 32 (Members.every-all (λ k. ltb k 32) tt i)

pub file-length : (g : Geometry) (d : List ℕ) (p : ℕ) → length (file_at g d p).bytes ≡ size_of g d p
unfolding file_at words
file-length g d p = length-map (count 0 (size_of g d p)) _ ∙ length-count 0 (size_of g d p)

module _ (g : Geometry) (d d' : List ℕ) (c : Sound g d) (p : ℕ) (h : Change.Change g d d' p) where
  others-at : (n : List ℕ) → (IsFile g d p → name_of g d p ≢ n) → (IsFile g d' p → name_of g d' p ≢ n) → Elsewhere g d d' p n
  others-at n a b = go (Named.look g d c n)
    where
      go : ((q : ℕ) × IsFile g d q × (name_of g d q ≡ n)) ⊎ ((q : ℕ) → IsFile g d q → name_of g d q ≢ n) → Elsewhere g d d' p n
      go (inl w) =
          let q = w.0 in let f = w.1 in
          let e : q ≢ p = λ e. a (rw e at f) (rw e at w.2) in
          Elsewhere.bears q f e (Named.named-at g d c q n f w.2)
          (Named.named-at g d' (Change.changed g d d' c p h) q n (Change.file-stays g d d' c p h q f e) (Change.name-stays g d d' c p h q f e ∙ w.2))
      go (inr w) = Elsewhere.lacks (Named.none_named g d n w) (Named.none_named g d' n (λ q f e. other q f e (ℕ_discrete q p)))
        where
          other : (q : ℕ) → IsFile g d' q → name_of g d' q ≡ n → Dec (q ≡ p) → ⊥
          other q f e (yes k) = b (rw k at f) (rw k at e)
          other q f e (no k) = let v = Change.file-was g d d' c p h q f k in w q v (sym (Change.name-stays g d d' c p h q v k) ∙ e)

  -- every other name stands at the same slot, or at none, as before
  pub names-stay : (n : List ℕ) → (IsFile g d p → name_of g d p ≢ n) → (IsFile g d' p → name_of g d' p ≢ n) → named g d' n ≡ named g d n
  names-stay n a b = go (others-at n a b)
    where
      go : Elsewhere g d d' p n → named g d' n ≡ named g d n
      go (Elsewhere.bears q f e x y) = y ∙ sym x
      go (Elsewhere.lacks x y) = y ∙ sym x

  size-stays : (q : ℕ) → IsFile g d q → q ≢ p → size_of g d' q ≡ size_of g d q
  unfolding words
  size-stays q f n = let a = Change.spared-first g d d' c p h q f n in rw (a 3 (omega arith), a 0x14 (omega arith), a 0x15 (omega arith))

  attributes-stay : (q : ℕ) → IsFile g d q → q ≢ p → (file_at g d' q).attributes ≡ (file_at g d q).attributes
  unfolding file_at
  attributes-stay q f n = Members.map-eq (field g d' q) (field g d q) _ (λ k i. Change.spared-first g d d' c p h q f n k (attribute-lt k i))

  granules-stay : (q : ℕ) → IsFile g d q → q ≢ p → (file_at g d' q).granules ≡ (file_at g d q).granules
  unfolding file_at
  granules-stay q f n = ap length (Change.owned-stays g d d' c p h q f n)

  module _ (s : Same g d d' p) where
    byte-stays : (q i : ℕ) → IsFile g d q → q ≢ p → T (not (system g d q)) → i < size_of g d q → byte d' (place g d q i) ≡ byte d (place g d q i)
    byte-stays q i f n t b =
        let o = place_in g d q i (omega (arith, (Change.filed-at g d c q f).fits)) in
        s (place g d q i) ((Change.filed-at g d c q f).off t _ o) (Change.foreign-granule g d d' c p h q _ f n o)
        (Change.foreign-granule' g d d' c p h q _ f n o)

    bytes-stay : (q : ℕ) → IsFile g d q → q ≢ p → T (not (system g d q)) → (file_at g d' q).bytes ≡ (file_at g d q).bytes
    unfolding file_at place words
    bytes-stay q f n t =
        rw (size-stays q f n, Change.owned-stays g d d' c p h q f n)
        (Members.map-eq _ _ (count 0 (size_of g d q)) (λ i j. byte-stays q i f n t (omega (arith, Members.count-in i 0 (size_of g d q) j))))

    -- a system file's bytes apart
    pub hushed : (q : ℕ) → IsFile g d q → q ≢ p → hush (found (file_at g d' q)) ≡ hush (found (file_at g d q))
    unfolding hush file_at
    hushed q f n = λ i. found (record {
      attributes = attributes-stay q f n i;
      granules = granules-stay q f n i;
      bytes = same (Members.decide (system g d q)) i;
    })
      where
        same : Members.Test (system g d q) → cond (system g d' q) (replicate (length (file_at g d' q).bytes) 0) (file_at g d' q).bytes ≡ cond (system g d q)
            (replicate (length (file_at g d q).bytes) 0) (file_at g d q).bytes
        same (Members.Test.holds t) = rw (Change.spared-first g d d' c p h q f n 0 (omega arith), Members.T_true {b = system g d q} t)
            (ap (λ (m : ℕ). replicate {A = ℕ} m 0) (file-length g d' q ∙ size-stays q f n ∙ sym (file-length g d q)))
        same (Members.Test.fails t) = rw (Change.spared-first g d d' c p h q f n 0 (omega arith), Members.no_false {b = system g d q} t)
            (bytes-stay q f n (not_T (system g d q) t))

    -- its bytes beyond the directory, a system file's too
    beyond-bytes : (q : ℕ) → IsFile g d q → q ≢ p → (beyond_at g d' q).bytes ≡ (beyond_at g d q).bytes
    unfolding beyond_at place
    beyond-bytes q f n =
        rw (size-stays q f n, Change.owned-stays g d d' c p h q f n, Frame.directory-eq g d d' h.above)
        (Members.map-eq _ _ (count 0 (size_of g d q)) (λ j k. one j (omega (arith, Members.count-in j 0 (size_of g d q) k))
        (Members.in? (place g d q j / granule_bytes g) (directory_granules g d))))
      where
        one : (j : ℕ) → j < size_of g d q → In (place g d q j / granule_bytes g) (directory_granules g d) ⊎
            (In (place g d q j / granule_bytes g) (directory_granules g d) → ⊥)
            → cond (has (directory_granules g d) (place g d q j / granule_bytes g)) 0 (byte d' (place g d q j)) ≡ cond
            (has (directory_granules g d) (place g d q j / granule_bytes g)) 0 (byte d (place g d q j))
        one j b (inl t) = rw (Members.T_true {b = has (directory_granules g d) (place g d q j / granule_bytes g)} (Members.in-has t))
        one j b (inr t) =
            let o = place_in g d q j (omega (arith, (Change.filed-at g d c q f).fits)) in
            rw (s (place g d q j) t (Change.foreign-granule g d d' c p h q _ f n o) (Change.foreign-granule' g d d' c p h q _ f n o))

    pub beyond-stays : (q : ℕ) → IsFile g d q → q ≢ p → beyond_at g d' q ≡ beyond_at g d q
    unfolding beyond_at
    beyond-stays q f n = λ i. record { attributes = attributes-stay q f n i; granules = granules-stay q f n i; bytes = beyond-bytes q f n i }

    -- what stands under any other name
    pub others-plain : (n : List ℕ) → (IsFile g d p → name_of g d p ≢ n) → (IsFile g d' p → name_of g d' p ≢ n) → hush (plain g d' n) ≡ hush (plain g d n)
    unfolding plain found_in
    others-plain n a b = go (others-at n a b)
      where
        go : Elsewhere g d d' p n → hush (found_in g d' (named g d' n)) ≡ hush (found_in g d (named g d n))
        go (Elsewhere.bears q f e x y) = rw (x, y) (hushed q f e)
        go (Elsewhere.lacks x y) = rw (x, y)

    pub beyond-plain : (n : List ℕ) → (IsFile g d p → name_of g d p ≢ n) → (IsFile g d' p → name_of g d' p ≢ n) → beyond g d' n ≡ beyond g d n
    unfolding beyond beyond_in
    beyond-plain n a b = go (others-at n a b)
      where
        go : Elsewhere g d d' p n → beyond_in g d' (named g d' n) ≡ beyond_in g d (named g d n)
        go (Elsewhere.bears q f e x y) = rw (x, y) (ap {B = Found} found (beyond-stays q f e))
        go (Elsewhere.lacks x y) = rw (x, y)

  -- a file that is gone
  pub gone-plain : IsFile g d p → (IsFile g d' p → ⊥) → plain g d' (name_of g d p) ≡ nothing
  gone-plain f n = Named.plain-none g d' (name_of g d p) (λ q k e. other q k e (ℕ_discrete q p))
    where
      other : (q : ℕ) → IsFile g d' q → name_of g d' q ≡ name_of g d p → Dec (q ≡ p) → ⊥
      other q k e (yes m) = n (rw m at k)
      other q k e (no m) = let v = Change.file-was g d d' c p h q k m in m (c.names q p v f (sym (Change.name-stays g d d' c p h q v m) ∙ e))

  -- in no run
  unowned : (n : ℕ) → (In n (granules_of g d p) → ⊥) → (In n (granules_of g d' p) → ⊥) → In n (each (owned g d') (files g d')) → In n
      (each (owned g d) (files g d))
  unowned n a b i = let k = Members.each_in (owned g d') n (files g d') i in go k.0 (Facts.files-in g d' k.0 k.1) k.2 (ℕ_discrete k.0 p)
    where
      go : (q : ℕ) → IsFile g d' q → In n (owned g d' q) → Dec (q ≡ p) → In n (each (owned g d) (files g d))
      go q f i (yes e) = absurd (b (rw (Change.granules_of-is g d' p (rw e at f)) (rw e at i)))
      go q f i (no e) = let v = Change.file-was g d d' c p h q f e in
          Members.in-each (owned g d) (Facts.in-files g d q v) (rw (Change.owned-stays g d d' c p h q v e) at i)

  unowned' : (n : ℕ) → (In n (granules_of g d p) → ⊥) → In n (each (owned g d) (files g d)) → In n (each (owned g d') (files g d'))
  unowned' n a i = let k = Members.each_in (owned g d) n (files g d) i in go k.0 (Facts.files-in g d k.0 k.1) k.2 (ℕ_discrete k.0 p)
    where
      go : (q : ℕ) → IsFile g d q → In n (owned g d q) → Dec (q ≡ p) → In n (each (owned g d') (files g d'))
      go q f i (yes e) = absurd (a (rw (Change.granules_of-is g d p (rw e at f)) (rw e at i)))
      go q f i (no e) = Members.in-each (owned g d') (Facts.in-files g d' q (Change.file-stays g d d' c p h q f e))
          (rw (Change.owned-stays g d d' c p h q f e) i)

  in-own : (n : ℕ) → In n (granules_of g d p) → In n (each (owned g d) (files g d))
  in-own n i = let k = Change.granules-in g d p n i in Members.in-each (owned g d) (Facts.in-files g d p k.0) k.1

  in-own' : (n : ℕ) → In n (granules_of g d' p) → In n (each (owned g d') (files g d'))
  in-own' n i = let k = Change.granules-in g d' p n i in Members.in-each (owned g d') (Facts.in-files g d' p k.0) k.1

  reserved-one : (n : ℕ) → n < granules g → (taken g d' n && not (has (each (owned g d') (files g d')) n)) ≡
      (taken g d n && not (has (each (owned g d) (files g d)) n))
  reserved-one n l = Members.both-T
      (λ t. fore (Members.and_l (taken g d' n) _ t)
      (λ i. T_not (has (each (owned g d') (files g d')) n) (Members.and_r (taken g d' n) _ t) (Members.in-has i)))
      (λ t. back (Members.and_l (taken g d n) _ t) (λ i. T_not (has (each (owned g d) (files g d)) n) (Members.and_r (taken g d n) _ t) (Members.in-has i)))
    where
      fore : T (taken g d' n) → (In n (each (owned g d') (files g d')) → ⊥) → T (taken g d n && not (has (each (owned g d) (files g d)) n))
      fore t a =
          let b : In n (granules_of g d' p) → ⊥ = λ i. a (in-own' n i) in
          let e : In n (granules_of g d p) → ⊥ = λ i. h.freed n i b t in
          Members.and_i (taken g d n) _ (rw (h.keeps n l e b) at t)
          (not_T (has (each (owned g d) (files g d)) n) (λ u. a (unowned' n e (Members.has_in n _ u))))

      back : T (taken g d n) → (In n (each (owned g d) (files g d)) → ⊥) → T (taken g d' n && not (has (each (owned g d') (files g d')) n))
      back t a =
          let e : In n (granules_of g d p) → ⊥ = λ i. a (in-own n i) in
          let b : In n (granules_of g d' p) → ⊥ = λ i. h.fresh n i e t in
          Members.and_i (taken g d' n) _ (rw (h.keeps n l e b) t)
          (not_T (has (each (owned g d') (files g d')) n) (λ u. a (unowned n e b (Members.has_in n _ u))))

  pub reserved-stays : reserved g d' ≡ reserved g d
  unfolding reserved
  reserved-stays = Members.keep-eq _ _ (count 0 (granules g)) (λ n i. reserved-one n (omega (arith, Members.count-in n 0 (granules g) i)))
