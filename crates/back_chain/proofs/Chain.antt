-- The chain of a killed file, entry by entry.
use Rattle.std.specs.Prelude.{Some, None}
use mathlib.Core.Path.{◌≡◌, refl, sym, ap, ◌∙◌}
use mathlib.Core.List.{List, [], ◌∷◌, ◌++◌, append-nil}
use mathlib.Core.Bool.{Bool, true, false, cond}
use mathlib.Core.Logic.{◌⊎◌, inl, inr}
use Prim.Native.Nat.{ℕ, ◌+◌, ◌-◌, ◌*◌, ◌≤◌, ◌<◌}
use native.Mathlib.Omega.{arith}
use native.Mathlib.Nat.{sub-zero}
use lib.ListN.{length, get_or, set, replicate, get_or-replicate, length-append}
use lib.Dec.{eqb}
use borrow.Author.Tests.{ne_eqb}
use Rattle.meaning.specs.Lists.{every, each, distinct, all}
use Rattle.meaning.specs.Layout.{most_blocks}
use Rattle.meaning.specs.Entries.{marker, link, entry_granules}
use Rattle.meaning.specs.Chain.{chain_from}
use Rattle.meaning.specs.Consistent.{follows_by, link_holds_by}
use Rattle.meaning.specs.BringBack
use Rattle.meaning.specs.declared.Geometry.{Geometry}
use Rattle.layout.specs.Room.{Room, Slot}
use Rattle.lists.specs.Tests.{all-at, all_yes, all_none, and_l, and_r, any_last, not-both, every-count}
use Rattle.layout.proofs.HasRoom.{slot-of}
use Rattle.seek.proofs.SeekSteps.{chain-none}
use Rattle.check_map.specs.Marks.{marked, allows}
use Rattle.check_map.specs.Owners.{standing}
use Rattle.check_map.proofs.MarkLists.{marked_append, allows-append}
use Rattle.check_map.proofs.Maps.{allows-says, says-allows}
use Rattle.check_map.proofs.Standing.{blank-open}
use Rattle.lists.specs.Ranges.{every_append, left-more, left-none}
use Rattle.lists.specs.Members
use Rattle.lists.specs.Members.{In, Distinct}
use Rattle.space.specs.OnDisk.{RunsOnDisk}
use Rattle.back_taken.specs.Listed.{first_of}
use Rattle.back_chain.specs.Line.{Visits, Lined}
use Rattle.back_taken.proofs.Steps.{first-steps}
use Rattle.back_chain.proofs.First.{first-put, first-in}
use Rattle.back_taken.proofs.OnDisk.{under-each}
use Rattle.meaning.specs.Consistent.{runs_hold}
use Rattle.meaning.specs.Entries.{runs}
use borrow.Author.Tests.{leb-true}

snoc-cons : (xs : List ℕ) (x : ℕ) (ys : List ℕ) → (xs ++ (x ∷ [])) ++ ys ≡ xs ++ (x ∷ ys)
snoc-cons [] x ys = refl
snoc-cons (y ∷ xs) x ys = ap (λ (l : List ℕ). y ∷ l) (snoc-cons xs x ys)

-- a map of slots on which nothing is marked yet
abbrev fresh : List ℕ
fresh = replicate 256 1

-- places that stand open are allowed if none stands twice
open-allows : (b xs : List ℕ) → ((k : ℕ) → In k xs → 1 ≤ get_or b k 0) → Distinct xs → allows b 1 0 xs ≡ true
open-allows b xs u e = says-allows 1 0 xs b (record { high = u; once = e })

open-once : (b xs : List ℕ) → allows b 1 0 xs ≡ true → distinct xs ≡ true
open-once b xs e = Members.T_true (Members.says-distinct (allows-says 1 0 xs b (omega arith) e).once)

-- the part of a test that belongs to what follows
later : (b xs ys : List ℕ) {m : List ℕ} → m ≡ marked b 0 xs → allows b 1 0 (xs ++ ys) ≡ true → allows m 1 0 ys ≡ true
later b xs ys {m} q e = ap (λ (l : List ℕ). allows l 1 0 ys) q ∙ and_r (allows b 1 0 xs) (allows (marked b 0 xs) 1 0 ys) (sym (allows-append b 1 0 xs ys) ∙ e)

-- and the test of both, from the parts
joined : (b xs ys : List ℕ) {m : List ℕ} → m ≡ marked b 0 xs → allows b 1 0 xs ≡ true → allows m 1 0 ys ≡ true → allows b 1 0 (xs ++ ys) ≡ true
joined b xs ys {m} q a c =
    let c' : allows (marked b 0 xs) 1 0 ys ≡ true = ap (λ (l : List ℕ). allows l 1 0 ys) (sym q) ∙ c in
    allows-append b 1 0 xs ys ∙ rw (a, c')

-- runs that hold lie on the disk
on-disk : (g : Geometry) (d : List ℕ) (s : ℕ) → Slot g d s → runs_hold g d s ≡ true → RunsOnDisk g d s
unfolding runs_hold
on-disk g d s sl h =
    record { slot = sl; run = λ k l. leb-true _ _ (all-at _ (every-count _ 0 (runs g d s) k h (omega arith) (omega arith)) 1) }

module _ (g : Geometry) (d : List ℕ) where
  abbrev holds : ℕ → Bool
  holds = BringBack.killed_entry_holds g d

  -- the owner map on which nothing is taken yet, as numbers
  abbrev blank : List ℕ
  blank = standing g d (replicate most_blocks 0)

  abbrev own : List ℕ → List ℕ
  own cs = each (entry_granules g d) cs

  -- what the walk says of a chain
  abbrev pub said : List ℕ → Bool
  said cs = all (every holds cs ∷ distinct cs ∷ distinct (own cs) ∷ [])

  -- the entries ps are walked: each holds, and the maps have lost their slots and granules
  pub record Walked' (ps m met : List ℕ) (size : ℕ) : Type 0 where
    pub hold : every holds ps ≡ true
    pub own_open : allows blank 1 0 (own ps) ≡ true
    pub map : m ≡ marked blank 0 (own ps)
    pub open-met : allows fresh 1 0 ps ≡ true
    pub meets : met ≡ marked fresh 0 ps
    pub size_is : size ≡ length (own ps)
    pub lie : (x : ℕ) → In x ps → RunsOnDisk g d x

  pub walked_start : Walked' [] blank fresh 0
  unfolding allows marked
  walked_start = record { hold = refl; own_open = refl; map = refl; open-met = refl; meets = refl; size_is = refl; lie = λ x i. Members.none_in i }

  own-snoc : (ps : List ℕ) (x : ℕ) → own (ps ++ (x ∷ [])) ≡ own ps ++ entry_granules g d x
  own-snoc ps x = Members.each_append (entry_granules g d) ps (x ∷ []) ∙ ap (λ (l : List ℕ). own ps ++ l) (Members.each-one (entry_granules g d) x)

  lies : (x : ℕ) → Slot g d x → holds x ≡ true → RunsOnDisk g d x
  lies x sl h = on-disk g d x sl (all-at _ h 2)

  lie-snoc : {ps : List ℕ} {at : ℕ} → ((x : ℕ) → In x ps → RunsOnDisk g d x) → RunsOnDisk g d at → (x : ℕ) → In x (ps ++ (at ∷ [])) → RunsOnDisk g d x
  lie-snoc {ps} {at} f o x i = by (Members.snoc-in ps i)
    where
      by : In x ps ⊎ (x ≡ at) → RunsOnDisk g d x
      by (inl j) = f x j
      by (inr q) = rw q o

  -- one entry more
  pub walked_more : {ps m m' met met' : List ℕ} {size at v : ℕ} → Walked' ps m met size → Slot g d at → Visits g d at m m' met met' (Some v)
      → Walked' (ps ++ (at ∷ [])) m' met' (size + v)
  walked_more {ps} {m} {m'} {met} {met'} {size} {at} {v} w sl e =
      let t : all (holds at ∷ allows m 1 0 (entry_granules g d at) ∷ allows met 1 0 (at ∷ []) ∷ []) ≡ true = sym e.answer in
      let k : holds at ≡ true = all-at _ t 0 in
      let h = w.hold in
      record {
        hold = every_append holds ps (at ∷ []) ∙ rw (h, k);
        own_open = ap (allows blank 1 0) (own-snoc ps at) ∙ joined blank (own ps) (entry_granules g d at) w.map w.own_open (all-at _ t 1);
        map =
            e.visited.map ∙ ap (λ (l : List ℕ). marked l 0 (entry_granules g d at)) w.map ∙ sym (marked_append blank 0 (own ps) (entry_granules g d at))
            ∙ ap (marked blank 0) (sym (own-snoc ps at));
        open-met = joined fresh ps (at ∷ []) w.meets w.open-met (all-at _ t 2);
        meets = e.visited.meets ∙ ap (λ (l : List ℕ). marked l 0 (at ∷ [])) w.meets ∙ sym (marked_append fresh 0 ps (at ∷ []));
        size_is =
            ap (λ (j : ℕ). j + v) w.size_is ∙ ap (λ (j : ℕ). length (own ps) + j) e.visited.granules-is
            ∙ sym (length-append (own ps) (entry_granules g d at)) ∙ ap {B = ℕ} length (sym (own-snoc ps at));
        lie = lie-snoc w.lie (lies at sl k);
      }

  -- all entries are walked
  pub walked-said : {ps m met : List ℕ} {size : ℕ} → Walked' ps m met size → said ps ≡ true
  walked-said {ps} w = all_yes w.hold _ ∙ all_yes (open-once fresh ps w.open-met) _ ∙ all_yes (open-once blank (own ps) w.own_open) _ ∙ all_none

  -- an entry that does not hold with those before it: nor does the chain, whatever follows
  pub walked-bad : {ps m m' met met' : List ℕ} {size at : ℕ} → Room g d → Walked' ps m met size → Slot g d at → Visits g d at m m' met met' None
      → (rest : List ℕ) → said (ps ++ (at ∷ rest)) ≡ false
  walked-bad {ps} {m} {m'} {met} {met'} {size} {at} r w sl e rest = by (said (ps ++ (at ∷ rest))) refl
    where
      by : (t : Bool) → said (ps ++ (at ∷ rest)) ≡ t → said (ps ++ (at ∷ rest)) ≡ false
      by false q = q
      by true q =
          let k : holds at ≡ true = and_l (holds at) (every holds rest)
          (and_r (every holds ps) (every holds (at ∷ rest)) (sym (every_append holds ps (at ∷ rest)) ∙ all-at _ q 0)) in
          let lie = lie-snoc w.lie (lies at sl k) in
          let once : Distinct ((ps ++ (at ∷ [])) ++ rest) = rw (snoc-cons ps at rest)
          (Members.distinct-says (ps ++ (at ∷ rest)) (Members.true-T (all-at _ q 1))) in
          let own_is : own (ps ++ (at ∷ rest)) ≡ own (ps ++ (at ∷ [])) ++ own rest
          = ap own (sym (snoc-cons ps at rest)) ∙ Members.each_append (entry_granules g d) (ps ++ (at ∷ [])) rest in
          let own-once : Distinct (own (ps ++ (at ∷ [])) ++ own rest) = rw own_is at
          (Members.distinct-says (own (ps ++ (at ∷ rest))) (Members.true-T (all-at _ q 2))) in
          let a : allows fresh 1 0 (ps ++ (at ∷ [])) ≡ true
          = open-allows fresh (ps ++ (at ∷ [])) (λ x i. let q : ◌≡◌ {A = ℕ} (get_or fresh x 0) 1 = get_or-replicate 256 x 1 0 (lie x i).slot.low in omega arith)
          (Members.distinct-l (ps ++ (at ∷ [])) rest once) in
          let b : allows blank 1 0 (own (ps ++ (at ∷ []))) ≡ true
          = open-allows blank (own (ps ++ (at ∷ []))) (λ n i. blank-open g d n (under-each g d (ps ++ (at ∷ [])) lie n i))
          (Members.distinct-l (own (ps ++ (at ∷ []))) (own rest) own-once) in
          let b' : allows blank 1 0 (own ps ++ entry_granules g d at) ≡ true = rw (own-snoc ps at) at b in
          let all_hold : false ≡ true
          = e.answer ∙ all_yes k _ ∙ all_yes (later blank (own ps) (entry_granules g d at) w.map b') _ ∙ all_yes (later fresh ps (at ∷ []) w.meets a) _
          ∙ all_none in
          not-both all_hold refl

  -- The chain: n entries of it are walked and written down, `at` is the next --------------------------------------------------

  pub record Lining (most s : ℕ) (es m met : List ℕ) (at n size : ℕ) : Type 0 where
    pub few : n ≤ most
    pub small : size ≤ 128 * n
    pub slot : Slot g d at
    pub chain-is : chain_from g d most s ≡ first_of es n ++ chain_from g d (most - n) at
    pub walked : Walked' (first_of es n) m met size

  pub lining-start : (most s : ℕ) (es : List ℕ) → Slot g d s → Lining most s es blank fresh s 0 0
  lining-start most s es sl =
      let e = (first-steps es).none in
      record {
        few = omega arith;
        small = omega arith;
        slot = sl;
        chain-is = ap (λ (k : ℕ). chain_from g d k s) (sym (sub-zero most)) ∙ ap (λ (l : List ℕ). l ++ chain_from g d (most - 0) s) (sym e);
        walked = rw e walked_start;
      }

  -- the chain from `at` on: the entry, and what its marker leads to
  chain-here : {most n : ℕ} (at : ℕ) → n < most → chain_from g d (most - n) at ≡ at ∷ cond (eqb (marker g d at) 0xfe)
      (chain_from g d (most - (n + 1)) (link g d at)) []
  unfolding chain_from
  chain-here at h = ap (λ (k : ℕ). chain_from g d k at) (left-more h)

  pub lining-bad : {most s at n size : ℕ} {es es' m m' met met' : List ℕ} → Room g d → Lining most s es m met at n size → n < most
      → Visits g d at m m' met met' None → Lined g d most s es' None
  lining-bad {most} {s} {at} {n} {size} {es} {es'} r i h e =
      let c = i.chain-is ∙ ap (λ (l : List ℕ). first_of es n ++ l) (chain-here at h) in
      record { few = tt; answer = sym (ap said c ∙ walked-bad r i.walked i.slot e _); written = tt }

  -- one entry more is written down
  pub lining-put : {most s at n size v : ℕ} {es m m' met met' : List ℕ} → Lining most s es m met at n size → n < length es
      → Visits g d at m m' met met' (Some v) → Walked' (first_of (set es n at) (n + 1)) m' met' (size + v)
  lining-put {at = at} {n = n} {es = es} i h e = rw (first-put es n at h) (walked_more i.walked i.slot e)

  put-chain : {most s at n size : ℕ} {es m met : List ℕ} → Lining most s es m met at n size → n < length es → n < most
      → chain_from g d most s ≡ first_of (set es n at) (n + 1) ++ cond (eqb (marker g d at) 0xfe) (chain_from g d (most - (n + 1)) (link g d at)) []
  put-chain {most} {s} {at} {n} {size} {es} i h l =
      i.chain-is ∙ ap (λ (k : List ℕ). first_of es n ++ k) (chain-here at l)
      ∙ sym (snoc-cons (first_of es n) at (cond (eqb (marker g d at) 0xfe) (chain_from g d (most - (n + 1)) (link g d at)) []))
      ∙ ap (λ (k : List ℕ). k ++ cond (eqb (marker g d at) 0xfe) (chain_from g d (most - (n + 1)) (link g d at)) []) (sym (first-put es n at h))

  -- the whole chain is written down
  done : {most s n size : ℕ} {es m met : List ℕ} → chain_from g d most s ≡ first_of es n → Walked' (first_of es n) m met size → n ≤ 256 → size ≤ 32768
      → Lined g d most s es (Some (record { slots = n; granules = size }))
  done {most} {s} {n} {size} {es} c w l k =
      record {
        few = k;
        answer = sym (ap said c ∙ walked-said w);
        written =
            record {
              entries-are = c;
              granules-are = w.size_is ∙ ap (λ (z : List ℕ). length (own z)) (sym c);
              listed = record { few = l; entry = λ j h. w.lie (get_or es j 0) (first-in es j n h) };
            };
      }

  pub lining-stop : {most s at n size x v : ℕ} {es m m' met met' : List ℕ} → Lining most s es m met at n size → n < length es → n < most → most ≤
      256
      → Visits g d at m m' met met' (Some v) → x ≡ marker g d at → x ≡ 0xff
      → Lined g d most s (set es n at) (Some (record { slots = n + 1; granules = size + v }))
  lining-stop {most} {s} {at} {n} {size} {x} {v} {es} i h l b e q f =
      let a = i.small in let few = e.visited.few in
      let z : eqb (marker g d at) 0xfe ≡ false = ne_eqb (marker g d at) 0xfe (λ y. let w : 0xff ≡ 0xfe = sym f ∙ q ∙ y in omega arith) in
      done
      (put-chain i h l ∙ ap (λ (t : Bool). first_of (set es n at) (n + 1) ++ cond t (chain_from g d (most - (n + 1)) (link g d at)) []) z ∙ append-nil
      (first_of (set es n at) (n + 1)))
      (lining-put i h e) (omega arith) (omega arith)

  -- a link that holds leads on to a slot
  links : (x : ℕ) → link_holds_by g d 0x80 x ≡ true → (marker g d x ≡ 0xff → ⊥) → (eqb (marker g d x) 0xfe ≡ true) × Slot g d (link g d x)
  unfolding link_holds_by follows_by
  links x h n =
      let k = any_last _ _ h (ne_eqb (marker g d x) 0xff n) in
      (all-at _ k 0, slot-of g d (link g d x) (all-at _ (all-at _ k 1) 0))

  pub lining-more : {most s at n size x t v : ℕ} {es m m' met met' : List ℕ} → Lining most s es m met at n size → n < length es → n < most
      → Visits g d at m m' met met' (Some v) → x ≡ marker g d at → (x ≡ 0xff → ⊥) → t ≡ link g d at
      → Lining most s (set es n at) m' met' t (n + 1) (size + v)
  lining-more {most} {s} {at} {n} {size} {x} {t} {v} {es} i h l e q f u =
      let a = i.small in let few = e.visited.few in
      let ok : all (holds at ∷ _) ≡ true = sym e.answer in
      let k = links at (all-at _ (all-at _ ok 0) 1) (λ y. f (q ∙ y)) in
      record {
        few = omega arith;
        small = omega arith;
        slot = rw u k.1;
        chain-is =
            put-chain i h l ∙ ap (λ (b : Bool). first_of (set es n at) (n + 1) ++ cond b (chain_from g d (most - (n + 1)) (link g d at)) []) k.0
            ∙ ap (λ (y : ℕ). first_of (set es n at) (n + 1) ++ chain_from g d (most - (n + 1)) y) (sym u);
        walked = lining-put i h e;
      }

  pub lining-end : {most s at n size : ℕ} {es m met : List ℕ} → Lining most s es m met at n size → most ≤ n → most ≤ 256 → Lined g d most s es
      (Some (record { slots = n; granules = size }))
  lining-end {most} {s} {at} {n} {size} {es} i h b =
      let a = i.small in let few = i.few in
      done
      (i.chain-is ∙ ap (λ (l : List ℕ). first_of es n ++ l) (chain-none g d (most - n) at (left-none h)) ∙ append-nil (first_of es n))
      i.walked (omega arith) (omega arith)
