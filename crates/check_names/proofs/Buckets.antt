-- Files in lists by a number of their name: one more file, the search along a list, and what the search says of all files.
use mathlib.Core.Path.{◌≡◌, refl, sym, ap, ◌∙◌, subst}
use mathlib.Core.Logic.{◌≢◌, ⊎_elim}
use mathlib.Core.List.{List, [], ◌∷◌}
use mathlib.Core.Bool.{Bool, true, false, not, cond, ◌&&◌}
use Prim.Native.Nat.{ℕ, zero, suc, ◌+◌, ◌-◌, ◌*◌, ◌≤◌, ◌<◌}
use native.Mathlib.Omega.{arith}
use native.Mathlib.Nat.{add-zero}
use native.Mathlib.Numerals.{add-one}
use native.Mathlib.Decide.{ℕ_discrete}
use lib.ListN.{get_or, set, take, drop, replicate, length-set}
use lib.Seq.{get_or-set_same, get_or-set_other}
use borrow.Author.Tests.{eq-eqb, ne_eqb, not-false}
use Rattle.meaning.specs.Lists.{every, same, all}
use Rattle.meaning.specs.Layout.{is_slot, entry_at, directory_sectors}
use Rattle.meaning.specs.Entries.{in_use_primary, name_of}
use Rattle.meaning.specs.Chain.{files}
use Rattle.meaning.specs.Consistent.{names_differ}
use Rattle.meaning.specs.declared.Geometry.{Geometry}
use Rattle.lists.specs.Members
use Rattle.lists.specs.Members.{In}
use Rattle.laws.specs.Facts
use Rattle.layout.specs.Room.{Room, Slot}
use Rattle.lists.specs.Tests.{all_yes, all-no, all_one, all-at}
use Rattle.layout.proofs.HasRoom.{slot-of, slot-yes, slot-no, entry-fits}
use Rattle.layout.proofs.OneStep.{name-part}
use Rattle.check_names.specs.Buckets.{key, key_of, unlike, in_bucket, bucket, Linked, Buckets, Joined, Differing, BucketsVisited}

module _ (g : Geometry) (d : List ℕ) where
  -- who stands in a bucket
  in-bucket : (b n q : ℕ) → In q (bucket g d b n) → (q < n) × (in_bucket g d b q ≡ true)
  unfolding bucket
  in-bucket b zero q i = Members.none_in i
  in-bucket b (suc n) q i = by (λ j. in-bucket b n q j) (in_bucket g d b n) refl i
    where
      by : (In q (bucket g d b n) → (q < n) × (in_bucket g d b q ≡ true)) → (t : Bool) → in_bucket g d b n ≡ t → In q
          (cond t (n ∷ bucket g d b n) (bucket g d b n)) → (q < suc n) × (in_bucket g d b q ≡ true)
      by ih true e i = ⊎_elim (λ z. (omega arith, ap (in_bucket g d b) z ∙ e)) (λ j. let w = ih j in (omega arith, w.1)) (Members.in-cons i)
      by ih false e i = let w = ih i in (omega arith, w.1)

  bucket-in : (b n q : ℕ) → q < n → in_bucket g d b q ≡ true → In q (bucket g d b n)
  unfolding bucket
  bucket-in b zero q l e = absurd (let z : ⊥ = omega arith in z)
  bucket-in b (suc n) q l e = by (λ j. bucket-in b n q j e) (in_bucket g d b n) refl (ℕ_discrete q n)
    where
      by : (q < n → In q (bucket g d b n)) → (t : Bool) → in_bucket g d b n ≡ t → Dec (q ≡ n) → In q (cond t (n ∷ bucket g d b n) (bucket g d b n))
      by ih true f (yes z) = Members.head_in (bucket g d b n) z
      by ih true f (no z) = In.there (ih (omega arith))
      by ih false f (yes z) = absurd (let x : true ≡ false = sym e ∙ ap (in_bucket g d b) z ∙ f in Members.false-no x tt)
      by ih false f (no z) = ih (omega arith)

  bucket-yes : (b n : ℕ) → in_bucket g d b n ≡ true → bucket g d b (n + 1) ≡ n ∷ bucket g d b n
  unfolding bucket
  bucket-yes b n e = ap (bucket g d b) (add-one n) ∙ ap (λ (t : Bool). cond t (n ∷ bucket g d b n) (bucket g d b n)) e

  bucket-no : (b n : ℕ) → in_bucket g d b n ≡ false → bucket g d b (n + 1) ≡ bucket g d b n
  unfolding bucket
  bucket-no b n e = ap (bucket g d b) (add-one n) ∙ ap (λ (t : Bool). cond t (n ∷ bucket g d b n) (bucket g d b n)) e

  slot-true : (s : ℕ) → Slot g d s → is_slot g d s ≡ true
  slot-true s h = slot-yes g d s h.low h.held

  member : (b s : ℕ) → Slot g d s → in_use_primary g d s ≡ true → key_of g d s ≡ b → in_bucket g d b s ≡ true
  unfolding in_bucket
  member b s h p e = all_yes (slot-true s h) _ ∙ all_yes p _ ∙ all_one _ ∙ eq-eqb _ _ e

  stranger : (b s : ℕ) → (key_of g d s ≡ b → ⊥) → in_bucket g d b s ≡ false
  unfolding in_bucket all
  stranger b s e = rw (ne_eqb (key_of g d s) b e) (none (is_slot g d s) (in_use_primary g d s))
    where
      none : (x y : Bool) → (x && (y && (false && true))) ≡ false
      none true true = refl
      none true false = refl
      none false y = refl

  outsider : (b s : ℕ) → in_use_primary g d s ≡ false → in_bucket g d b s ≡ false
  unfolding in_bucket all
  outsider b s e = rw e (none (is_slot g d s))
    where
      none : (x : Bool) → (x && false) ≡ false
      none true = refl
      none false = refl

  no_slot : (b s : ℕ) → is_slot g d s ≡ false → in_bucket g d b s ≡ false
  unfolding in_bucket
  no_slot b s e = all-no e _

  -- the search along a list, from x on
  pub record Searching (next whole : List ℕ) (s x : ℕ) : Type 0 where
    pub rest : List ℕ
    pub linked : Linked g d next x rest
    pub says : every (unlike g d s) whole ≡ every (unlike g d s) rest

  pub searching-start : (next whole : List ℕ) (s x : ℕ) → Linked g d next x whole → Searching next whole s x
  searching-start next whole s x l = record { rest = whole; linked = l; says = refl }

  -- what stands at x, where x is not the end
  pub record Here (next whole : List ℕ) (s x : ℕ) : Type 0 where
    pub slot : Slot g d (x - 1)
    pub more : List ℕ
    pub on : Linked g d next (get_or next (x - 1) 0) more
    pub says : every (unlike g d s) whole ≡ (unlike g d s (x - 1) && every (unlike g d s) more)

  pub here : (next whole : List ℕ) (s x : ℕ) → Searching next whole s x → 0 < x → Here next whole s x
  unfolding Linked
  here next whole s x f h = by f.rest f.linked f.says
    where
      by : (rest : List ℕ) → Linked g d next x rest → every (unlike g d s) whole ≡ every (unlike g d s) rest → Here next whole s x
      by [] l e = absurd (let z : ⊥ = omega arith in z)
      by (q ∷ qs) l e =
          let z : x - 1 ≡ q = omega (arith, l.1) in
          record {
            slot = subst (Slot g d) (sym z) l.0;
            more = qs;
            on = subst (λ (k : ℕ). Linked g d next (get_or next k 0) qs) (sym z) l.2;
            says = e ∙ ap (λ (k : ℕ). unlike g d s k && every (unlike g d s) qs) (sym z);
          }

  pub searching-found : (next whole : List ℕ) (s x : ℕ) → Here next whole s x → unlike g d s (x - 1) ≡ false → false ≡ every (unlike g d s) whole
  searching-found next whole s x w e = sym (w.says ∙ ap (λ (t : Bool). t && every (unlike g d s) w.more) e)

  pub searching-on : (next whole : List ℕ) (s x : ℕ) → Here next whole s x → unlike g d s (x - 1) ≡ true → Searching next whole s (get_or next (x - 1) 0)
  searching-on next whole s x w e =
      record { rest = w.more; linked = w.on; says = w.says ∙ ap (λ (t : Bool). t && every (unlike g d s) w.more) e }

  pub searching-end : (next whole : List ℕ) (s x : ℕ) → Searching next whole s x → x ≤ 0 → true ≡ every (unlike g d s) whole
  unfolding Linked
  searching-end next whole s x f h = by f.rest f.linked f.says
    where
      by : (rest : List ℕ) → Linked g d next x rest → every (unlike g d s) whole ≡ every (unlike g d s) rest → true ≡ every (unlike g d s) whole
      by [] l e = sym e
      by (q ∷ qs) l e = absurd (let y = l.1 in let z : ⊥ = omega arith in z)

  -- no file so far
  pub buckets-none : Buckets g d 0 (replicate 256 0) (replicate 256 0)
  unfolding bucket Linked
  buckets-none = record {
    heads = refl;
    nexts = refl;
    linked = λ b l. zeros 256 b;
    falls = λ k. let z = zeros 256 k in omega arith;
    low = λ b. let z = zeros 256 b in omega arith;
  }
    where
      zeros : (n k : ℕ) → get_or (replicate {A = ℕ} n 0) k 0 ≡ 0
      zeros zero k = refl
      zeros (suc n) zero = refl
      zeros (suc n) (suc k) = zeros n k

  -- a store of `next` at a slot that stands in no list
  linked-set : (next : List ℕ) (s v x : ℕ) (l : List ℕ) → ((q : ℕ) → In q l → q < s) → Linked g d next x l → Linked g d (set next s v) x l
  unfolding Linked
  linked-set next s v x [] h k = k
  linked-set next s v x (q ∷ l) h k =
      let ne : q ≢ s = λ z. let lt = h q In.here in omega arith in (
        k.0,
        k.1,
        subst (λ (y : ℕ). Linked g d (set next s v) y l) (sym (get_or-set_other next s q v 0 ne))
            (linked-set next s v (get_or next q 0) l (λ q i. h q (In.there i)) k.2),
      )

  below : (b n q : ℕ) → In q (bucket g d b n) → q < n
  below b n q i = (in-bucket b n q i).0

  -- slot s is no file: the lists are those up to s
  pub buckets-skip : (s : ℕ) (head next : List ℕ) → Buckets g d s head next → ((b : ℕ) → in_bucket g d b s ≡ false) → Buckets g d (s + 1) head next
  buckets-skip s head next w h = record {
    heads = w.heads;
    nexts = w.nexts;
    linked = λ b l. subst (Linked g d next (get_or head b 0)) (sym (bucket-no b s (h b))) (w.linked b l);
    falls = w.falls;
    low = λ b. let z = w.low b in omega arith;
  }

  pub skip-slot : (s : ℕ) (head next : List ℕ) → Buckets g d s head next → is_slot g d s ≡ false → Buckets g d (s + 1) head next
  skip-slot s head next w e = buckets-skip s head next w (λ b. no_slot b s e)

  pub skip-entry : (s : ℕ) (head next : List ℕ) → Buckets g d s head next → in_use_primary g d s ≡ false → Buckets g d (s + 1) head next
  skip-entry s head next w e = buckets-skip s head next w (λ b. outsider b s e)

  -- slot s joins the list of its number
  pub buckets-join : (s : ℕ) (head next : List ℕ) → Buckets g d s head next → Slot g d s → in_use_primary g d s ≡ true → key_of g d s < 256
      → Buckets g d (s + 1) (set head (key_of g d s) (s + 1)) (set next s (get_or head (key_of g d s) 0))
  buckets-join s head next w h p l = record {
    heads = length-set head _ _ ∙ w.heads;
    nexts = length-set next _ _ ∙ w.nexts;
    linked = λ b k. linked' b k (ℕ_discrete b (key_of g d s));
    falls = λ k. falls' k (ℕ_discrete k s);
    low = λ b. low' b (ℕ_discrete b (key_of g d s));
  }
    where
      b₀ : ℕ
      b₀ = key_of g d s

      n' : List ℕ
      n' = set next s (get_or head b₀ 0)

      kept : (b : ℕ) → b < 256 → Linked g d n' (get_or head b 0) (bucket g d b s)
      kept b k = linked-set next s (get_or head b₀ 0) (get_or head b 0) (bucket g d b s) (λ q i. below b s q i) (w.linked b k)

      linked' : (b : ℕ) → b < 256 → Dec (b ≡ b₀) → Linked g d n' (get_or (set head b₀ (s + 1)) b 0) (bucket g d b (s + 1))
      linked' b k (yes e) = rw (e, bucket-yes b₀ s (member b₀ s h p refl), get_or-set_same head b₀ (s + 1) 0 (omega (arith, w.heads)))
          (mine (get_or-set_same next s (get_or head b₀ 0) 0 (let z = h.low in omega (arith, w.nexts))))
        where
          mine : get_or n' s 0 ≡ get_or head b₀ 0 → Linked g d n' (s + 1) (s ∷ bucket g d b₀ s)
          mine z = unfold Linked in (h, refl, subst (λ (y : ℕ). Linked g d n' y (bucket g d b₀ s)) (sym z) (kept b₀ l))
      linked' b k (no e) = rw (bucket-no b s (stranger b s (λ q. e (sym q))), get_or-set_other head b₀ b (s + 1) 0 e) (kept b k)

      falls' : (k : ℕ) → Dec (k ≡ s) → get_or n' k 0 ≤ k
      falls' k (yes e) = rw (e, get_or-set_same next s (get_or head b₀ 0) 0 (let z = h.low in omega (arith, w.nexts))) (w.low b₀)
      falls' k (no e) = rw (get_or-set_other next s k (get_or head b₀ 0) 0 e) (w.falls k)

      low' : (b : ℕ) → Dec (b ≡ b₀) → get_or (set head b₀ (s + 1)) b 0 ≤ s + 1
      low' b (yes e) = rw (e, get_or-set_same head b₀ (s + 1) 0 (omega (arith, w.heads))) (omega arith)
      low' b (no e) = rw (get_or-set_other head b₀ b (s + 1) 0 e) (let z = w.low b in omega arith)

  -- the list that slot s looks through, and what looking gives
  pub first-list : (s : ℕ) (head next : List ℕ) {b x : ℕ} → Buckets g d s head next → b ≡ key_of g d s → b < 256 → x ≡ get_or head b 0
      → Linked g d next x (bucket g d (key_of g d s) s)
  first-list s head next w e l r =
      subst (λ (y : ℕ). Linked g d next y (bucket g d (key_of g d s) s)) (sym r)
      (subst (λ (k : ℕ). Linked g d next (get_or head k 0) (bucket g d (key_of g d s) s)) (sym e) (w.linked (key_of g d s) (omega arith)))

  pub joined-no : (s : ℕ) (head next : List ℕ) {f : Bool} → f ≡ every (unlike g d s) (bucket g d (key_of g d s) s) → f ≡ false
      → Joined g d s head next false
  joined-no s head next e t = record { answer = sym t ∙ e; joined = λ z. absurd (Members.false-no (sym z) tt) }

  pub joined-yes : (s : ℕ) (head next : List ℕ) {b x : ℕ} {f : Bool} → Buckets g d s head next → Slot g d s → in_use_primary g d s ≡ true
      → b ≡ key_of g d s → b < 256 → x ≡ get_or head b 0 → f ≡ every (unlike g d s) (bucket g d (key_of g d s) s) → f ≡ true
      → Joined g d s (set head b (s + 1)) (set next s x) true
  joined-yes s head next {b} {x} w h p e l r q t =
      record {
        answer = sym t ∙ q;
        joined = λ z. subst (λ (y : ℕ). Buckets g d (s + 1) (set head b (s + 1)) (set next s y)) (sym r)
            (subst (λ (k : ℕ). Buckets g d (s + 1) (set head k (s + 1)) (set next s (get_or head k 0))) (sym e) (buckets-join s head next w h p (omega arith)));
      }

  -- a slot's number plus 1 is a byte
  pub next_low : (s : ℕ) → Room g d → Slot g d s → s + 1 < 256
  next_low s r h =
      let a = h.low in let b = h.held in let c = r.thirty in omega arith

  -- what comparing the names' bytes says
  pub compared : (s q n at : ℕ) {r : Bool} → Room g d → Slot g d s → Slot g d q → n ≡ 11 → at ≡ entry_at g s
      → r ≡ same (take 11 (drop (entry_at g q + 5) d)) (take n (drop (at + 5) d)) → unlike g d s q ≡ not r
  unfolding unlike
  compared s q n at k h l z y e =
      let a = entry-fits g d s k h in let b = entry-fits g d q k l in
      rw (name-part g d s (omega arith), name-part g d q (omega arith))
      (ap not (sym (e ∙ ap (λ (m : ℕ). same (take 11 (drop (entry_at g q + 5) d)) (take m (drop (at + 5) d))) z
      ∙ ap (λ (m : ℕ). same (take 11 (drop (entry_at g q + 5) d)) (take 11 (drop (m + 5) d))) y)))

  -- the number that the code makes of the bytes of a name
  pub keyed : (s n at : ℕ) {b : ℕ} → Room g d → Slot g d s → n ≡ 11 → at ≡ entry_at g s → b ≡ key (take n (drop (at + 5) d))
      → b ≡ key_of g d s
  keyed s n at k h z y e =
      let a = entry-fits g d s k h in
      e ∙ ap (λ (m : ℕ). key (take m (drop (at + 5) d))) z ∙ ap (λ (m : ℕ). key (take 11 (drop (m + 5) d))) y
      ∙ ap key (sym (name-part g d s (omega arith)))

  pub differing-start : Differing g d 0 (replicate 256 0) (replicate 256 0)
  differing-start = record { low = omega arith; lists = buckets-none; apart = λ p q a. absurd (let z : ⊥ = omega arith in z) }

  filed : (s : ℕ) → Facts.IsFile g d s → is_slot g d s ≡ true
  filed s f = Members.T_true f.slot

  firsted : (s : ℕ) → Facts.IsFile g d s → in_use_primary g d s ≡ true
  firsted s f = Members.T_true f.primary'

  -- one slot further, where that slot is no file
  apart_more : (s : ℕ) → ((p q : ℕ) → p < s → q < s → Facts.IsFile g d p → Facts.IsFile g d q → name_of g d p ≡ name_of g d q → p ≡ q)
      → ((q : ℕ) → q < s → Facts.IsFile g d s → Facts.IsFile g d q → name_of g d q ≡ name_of g d s → ⊥)
      → (p q : ℕ) → p < s + 1 → q < s + 1 → Facts.IsFile g d p → Facts.IsFile g d q → name_of g d p ≡ name_of g d q → p ≡ q
  apart_more s f h p q a b i j e = by (ℕ_discrete p s) (ℕ_discrete q s)
    where
      by : Dec (p ≡ s) → Dec (q ≡ s) → p ≡ q
      by (yes x) (yes y) = x ∙ sym y
      by (yes x) (no y) = absurd (h q (omega arith) (subst (Facts.IsFile g d) x i) j (sym e ∙ ap (name_of g d) x))
      by (no x) (yes y) = absurd (h p (omega arith) (subst (Facts.IsFile g d) y j) i (e ∙ ap (name_of g d) y))
      by (no x) (no y) = f p q (omega arith) (omega arith) i j e

  pub differing-shut : (s : ℕ) (head next : List ℕ) → Differing g d s head next → s < 256 → is_slot g d s ≡ false → Differing g d (s + 1) head next
  differing-shut s head next w l e =
      record {
        low = omega arith;
        lists = skip-slot s head next w.lists e;
        apart = apart_more s w.apart (λ q b i j z. Members.false-no e i.slot);
      }

  pub differing-other : (s : ℕ) (head next : List ℕ) → Differing g d s head next → s < 256 → in_use_primary g d s ≡ false → Differing g d (s + 1) head next
  differing-other s head next w l e =
      record {
        low = omega arith;
        lists = skip-entry s head next w.lists e;
        apart = apart_more s w.apart (λ q b i j z. Members.false-no e i.primary');
      }

  -- a file with the same name stands in the same list
  listed : (s q : ℕ) → Facts.IsFile g d s → Facts.IsFile g d q → name_of g d q ≡ name_of g d s → in_bucket g d (key_of g d s) q ≡ true
  listed s q i j e =
      member (key_of g d s) q (slot-of g d q (filed q j)) (firsted q j) (ap key e)

  pub differing-on : (s : ℕ) (head next head' next' : List ℕ) {r : Bool} → Differing g d s head next → s < 256 → Joined g d s head' next' r → r ≡
      true
      → Differing g d (s + 1) head' next'
  differing-on s head next head' next' w l k e =
      record {
        low = omega arith;
        lists = k.joined e;
        apart = apart_more s w.apart (λ q b i j z.
            Members.false-no (unlike-same s q z) (Members.every-all (unlike g d s) (Members.true-T (sym k.answer ∙ e))
            (bucket-in (key_of g d s) s q b (listed s q i j z))));
      }
    where
      unlike-same : (s q : ℕ) → name_of g d q ≡ name_of g d s → unlike g d s q ≡ false
      unlike-same s q z = unfold unlike in rw (z, Members.T_true {b = same (name_of g d s) (name_of g d s)} (Members.same_refl (name_of g d s)))

  some-false : (p : ℕ → Bool) (xs : List ℕ) → every p xs ≡ false → (x : ℕ) × In x xs × (p x ≡ false)
  some-false p [] e = absurd (Members.false-no e tt)
  some-false p (x ∷ xs) e = by (λ z. some-false p xs z) (p x) refl
    where
      by : (every p xs ≡ false → (x : ℕ) × In x xs × (p x ≡ false)) → (t : Bool) → p x ≡ t → (y : ℕ) × In y (x ∷ xs) × (p y ≡ false)
      by ih true q = let w = ih (sym (ap (λ (t : Bool). t && every p xs) q) ∙ e) in (w.0, In.there w.1, w.2)
      by ih false q = (x, In.here, q)

  same_of : (s q : ℕ) → unlike g d s q ≡ false → name_of g d q ≡ name_of g d s
  unfolding unlike
  same_of s q z = Members.same-eq (name_of g d q) (name_of g d s) (Members.true-T (not-false (same (name_of g d q) (name_of g d s)) z))

  slot-in : (b q : ℕ) → in_bucket g d b q ≡ true → is_slot g d q ≡ true
  unfolding in_bucket
  slot-in b q z = all-at _ z 0

  first-in : (b q : ℕ) → in_bucket g d b q ≡ true → in_use_primary g d q ≡ true
  unfolding in_bucket
  first-in b q z = all-at _ z 1

  -- two files with one name
  pub differing-found : (s : ℕ) (head' next' : List ℕ) {r : Bool} → Slot g d s → in_use_primary g d s ≡ true → Joined g d s head' next' r → r ≡ false
      → false ≡ names_differ g d (files g d)
  differing-found s head' next' h p k e =
      let w = some-false (unlike g d s) (bucket g d (key_of g d s) s) (sym k.answer ∙ e) in
      let q = w.0 in let m = in-bucket (key_of g d s) s q w.1 in
      let n = same_of s q w.2 in
      let fs : Facts.IsFile g d s = record { slot = Members.true-T (slot-true s h); primary' = Members.true-T p } in
      let fq : Facts.IsFile g d q = record {
        slot = Members.true-T (slot-in (key_of g d s) q m.1);
        primary' = Members.true-T (first-in (key_of g d s) q m.1);
      } in
      sym (Members.no_false (λ t. let z = Facts.differ-says g d {p = q} {q = s} t (Facts.in-files g d q fq) (Facts.in-files g d s fs) n in let lt = m.0 in
      omega arith))

  pub differing-end : (s : ℕ) (head next : List ℕ) → Differing g d s head next → 256 ≤ s → true ≡ names_differ g d (files g d)
  differing-end s head next w l =
      sym (Members.T_true (Facts.says-differ g d (Facts.files-distinct g d) (λ p q i j e.
      let a = Facts.files-in g d p i in let b = Facts.files-in g d q j in
      let x = Facts.slot_lt g d p a.slot in let y = Facts.slot_lt g d q b.slot in
      w.apart p q (omega arith) (omega arith) a b e)))

  -- slots that the directory lacks
  shut-run : (j s : ℕ) (head next : List ℕ) → Differing g d s head next → s + j ≤ 256 → ((i : ℕ) → i < j → is_slot g d (s + i) ≡ false) → Differing g d (s + j)
      head next
  shut-run zero s head next w l h = subst (λ (k : ℕ). Differing g d k head next) (sym (add-zero s)) w
  shut-run (suc j) s head next w l h =
      subst (λ (k : ℕ). Differing g d k head next) (let z : s + j + 1 ≡ s + suc j = omega arith in z)
      (differing-shut (s + j) head next (shut-run j s head next w (omega arith) (λ i q. h i (omega arith))) (omega arith) (h j (omega arith)))

  -- the end of a row
  pub row-end : (row s : ℕ) (head next : List ℕ) → Room g d → Differing g d s head next → row < 8 → s ≡ 32 * row + (directory_sectors g d - 2)
      → BucketsVisited g d (32 * (row + 1)) head next true
  row-end row s head next room w l q =
      let a = room.ten in let b = room.thirty in let k = directory_sectors g d in
      record {
        bad = λ z. absurd (Members.false-no z tt);
        good = λ z.
            subst (λ (n : ℕ). Differing g d n head next) (let y : s + (34 - k) ≡ 32 * (row + 1) = omega arith in y)
            (shut-run (34 - k) s head next w (omega arith) (λ i h. slot-no g d (s + i) (omega arith) (omega arith)));
      }

  -- a file with the name of one before it
  pub row-found : (row : ℕ) {s : ℕ} {head next : List ℕ} {r : Bool} → BucketsVisited g d s head next r → r ≡ false
      → BucketsVisited g d (32 * (row + 1)) head next false
  row-found row w t = record { bad = λ z. w.bad t; good = λ z. absurd (Members.false-no (sym z) tt) }

  -- the two ways through a slot
  pub visit-other : (s : ℕ) (head next : List ℕ) {f : Bool} → Differing g d s head next → s < 256 → f ≡ in_use_primary g d s → f ≡ false
      → BucketsVisited g d (s + 1) head next (not f)
  visit-other s head next w l e t =
      rw t (record { bad = λ z. absurd (Members.false-no z tt); good = λ z. differing-other s head next w l (sym e ∙ t) })

  pub visit-file : (s : ℕ) (head next head' next' : List ℕ) {r f : Bool} → Differing g d s head next → Slot g d s → f ≡ in_use_primary g d s → f ≡ true
      → Joined g d s head' next' r → BucketsVisited g d (s + 1) head' next' r
  visit-file s head next head' next' w k e t j =
      record { bad = λ z. differing-found s head' next' k (sym e ∙ t) j z; good = λ z. differing-on s head next head' next' w k.low j z }
