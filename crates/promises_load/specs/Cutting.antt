-- A load file asked record by record gives what the file read whole and cut gives.
use Rattle.std.proofs.Math.Path.{◌≡◌, refl}
use Rattle.std.proofs.Common.{sym, ap, ap₂, ◌∙◌, length-drop, drop-cons, get_or-drop}
use Rattle.std.specs.Prelude.{List, [], ◌∷◌, Bool, true, false, not, ℕ, zero, suc, ◌+◌, ◌-◌, ◌*◌, ◌≤◌, ◌<◌, drop, T, eqb, leb, ltb}
use Rattle.std.proofs.Math.Bool.{cond}
use native.Mathlib.Omega.{arith}
use Rattle.std.proofs.Math.Decide.{dec_lt, dec_le, ℕ_discrete}
use Rattle.std.proofs.Math.ListN.{length, get_or, take}
use Rattle.std.proofs.Math.Seq.{drop-drop}
use borrow.Author.Tests.{le-leb, lt-leb, lt-ltb, le-ltb, eq-eqb, ne_eqb}
use Rattle.meaning.specs.Lists.{first, has}
use Rattle.meaning.specs.Refusals.{accepted}
use Rattle.load.specs.Records.{data_code, start_code, comment_code, is_code, data_bytes, follows, bad_count, code_at, count_at, address_at, end_of}
use Rattle.load.specs.Records.{item_refusals}
use Rattle.load.specs.Records.{position_of, item_at, past, told_at, record_from}
use Rattle.load.specs.Cut.{Record, Pieces, starts, breaks, ending, onto, cut_whole, cut_behind, cut_one, cut_from, cut}
use Rattle.load.specs.Load.{load_numbers}
use Rattle.load.specs.declared.Item.{Item}
use Rattle.load.specs.declared.NextRecord.{NextRecord}
use Rattle.promises_load.specs.Statement.{record_of, end_by, asked_from}

drop-out : (l : List ℕ) (i : ℕ) → length l ≤ i → drop i l ≡ []
drop-out l i h = empty (drop i l) (length-drop i l ∙ (let z : length l - i ≡ 0 = omega arith in z))
  where
    empty : (xs : List ℕ) → length xs ≡ 0 → xs ≡ []
    empty [] e = refl
    empty (x ∷ xs) e = absurd (let z : ⊥ = omega arith in z)

-- a data record has an address
data-two : (c n : ℕ) → c ≡ data_code → 2 ≤ follows c n
unfolding follows
data-two c n e = rw (eq-eqb c data_code e) (omega arith)

module _ (bs : List ℕ) where
  -- what cutting makes of what stands at place i; `more` is what it makes of the file behind it
  abbrev pub stepped : (ℕ → Pieces) → ℕ → Item → Pieces
  stepped more i x =
      cond (accepted x.number)
      (cond (eqb x.code data_code) (onto (record { address = address_at bs i; bytes = take (x.rest - 2) (drop (i + 4) bs) }) (more (i + 2 + x.rest)))
      (cond (eqb x.code start_code) (ending (starts (address_at bs i))) (more (i + 2 + x.rest))))
      (ending (breaks x.number x.position))

  abbrev pub ahead : ℕ → ℕ → Pieces
  ahead m p = cut_from m p (drop p bs)

  -- what stands at place i, in file order
  data Case (i : ℕ) : Type 0 where
    at_end : length bs ≤ i → Case i
    strange : i < length bs → is_code (code_at bs i) ≡ false → Case i
    lacks_count : i < length bs → is_code (code_at bs i) ≡ true → length bs ≤ i + 1 → Case i
    badly : i < length bs → is_code (code_at bs i) ≡ true → i + 1 < length bs → bad_count (code_at bs i) (count_at bs i) ≡ true → Case i
    shortly : i < length bs → is_code (code_at bs i) ≡ true → i + 1 < length bs → bad_count (code_at bs i) (count_at bs i) ≡ false
        → length bs < end_of bs i → Case i
    wholly : i < length bs → is_code (code_at bs i) ≡ true → i + 1 < length bs → bad_count (code_at bs i) (count_at bs i) ≡ false
        → end_of bs i ≤ length bs → Case i

  cases : (i : ℕ) → Case i
  cases i = by (dec_lt i (length bs))
    where
      last : i < length bs → is_code (code_at bs i) ≡ true → i + 1 < length bs → bad_count (code_at bs i) (count_at bs i) ≡ false
          → Dec (length bs < end_of bs i) → Case i
      last h k l b (yes o) = shortly h k l b o
      last h k l b (no o) = wholly h k l b (omega arith)

      counted : i < length bs → is_code (code_at bs i) ≡ true → i + 1 < length bs → (t : Bool) → bad_count (code_at bs i) (count_at bs i) ≡ t → Case i
      counted h k l true b = badly h k l b
      counted h k l false b = last h k l b (dec_lt (length bs) (end_of bs i))

      there : i < length bs → is_code (code_at bs i) ≡ true → Dec (i + 1 < length bs) → Case i
      there h k (yes l) = counted h k l (bad_count (code_at bs i) (count_at bs i)) refl
      there h k (no l) = lacks_count h k (omega arith)

      coded : i < length bs → (t : Bool) → is_code (code_at bs i) ≡ t → Case i
      coded h true k = there h k (dec_lt (i + 1) (length bs))
      coded h false k = strange h k

      by : Dec (i < length bs) → Case i
      by (yes h) = coded h (is_code (code_at bs i)) refl
      by (no h) = at_end (omega arith)

  item-is : (i n : ℕ) → first (item_refusals bs i) ≡ n
      → item_at bs i
      ≡ record {
        number = n;
        position = position_of bs i n;
        code = cond (accepted n) (code_at bs i) 0;
        rest = cond (accepted n) (follows (code_at bs i) (count_at bs i)) 0;
      }
  unfolding item_at
  item-is i n e = rw e

  -- either nothing whole, under a number, or a whole record or comment
  pub data Seen (i : ℕ) : Item → Type 0 where
    broken : {n p : ℕ} → T (has load_numbers n) → (n ≡ 0 → ⊥) → Seen i (record { number = n; position = p; code = 0; rest = 0 })
    stands : {c r : ℕ} → is_code c ≡ true → i + 2 + r ≤ length bs → (c ≡ data_code → 2 ≤ r) → Seen i (record { number = 0; position = 0; code = c; rest = r })

  pub seen : (i : ℕ) → Seen i (item_at bs i)
  unfolding first position_of
  seen i = by (cases i)
    where
      by : Case i → Seen i (item_at bs i)
      by (at_end h) = rw (item-is i 32 (rw (le-leb _ _ h) refl)) (broken {n = 32} tt (λ (q : ◌≡◌ {A = ℕ} 32 0). omega arith))
      by (strange h k) = rw (item-is i 31 (rw (lt-leb _ _ h, k) refl)) (broken {n = 31} tt (λ (q : ◌≡◌ {A = ℕ} 31 0). omega arith))
      by (lacks_count h k l) = rw (item-is i 32 (rw (lt-leb _ _ h, k, le-leb _ _ l) refl)) (broken {n = 32} tt (λ (q : ◌≡◌ {A = ℕ} 32 0). omega arith))
      by (badly h k l b) = rw (item-is i 33 (rw (lt-leb _ _ h, k, lt-leb _ _ l, b) refl)) (broken {n = 33} tt (λ (q : ◌≡◌ {A = ℕ} 33 0). omega arith))
      by (shortly h k l b o) =
          rw (item-is i 32 (rw (lt-leb _ _ h, k, lt-leb _ _ l, b, lt-ltb _ _ o) refl)) (broken {n = 32} tt (λ (q : ◌≡◌ {A = ℕ} 32 0). omega arith))
      by (wholly h k l b o) = rw (item-is i 0 (rw (lt-leb _ _ h, k, lt-leb _ _ l, b, le-ltb _ _ o) refl)) (stands k o (data-two (code_at bs i) (count_at bs i)))

  one_byte : (i : ℕ) → i < length bs → drop i bs ≡ code_at bs i ∷ drop (i + 1) bs
  one_byte i l = let s : suc i ≡ i + 1 = omega arith in drop-cons bs i 0 l ∙ ap (λ (k : ℕ). code_at bs i ∷ drop k bs) s

  two_bytes : (i : ℕ) → i + 1 < length bs → drop i bs ≡ code_at bs i ∷ count_at bs i ∷ drop (i + 2) bs
  two_bytes i l =
      let s : i + 1 + 1 ≡ i + 2 = omega arith in
      one_byte i (omega arith) ∙ ap (λ (r : List ℕ). code_at bs i ∷ r) (one_byte (i + 1) l ∙ ap (λ (k : ℕ). count_at bs i ∷ drop k bs) s)

  module _ (m i : ℕ) (inside : i ≤ length bs) where
    -- the file ends
    ends-here : length bs ≤ i → cut_from (suc m) i (drop i bs) ≡ stepped (ahead m) i (item_at bs i)
    unfolding first position_of cut_from cut_one
    ends-here h =
        let e : i ≡ length bs = omega arith in
        rw (item-is i 32 (rw (le-leb _ _ h) refl), drop-out bs i h) (ap (λ (k : ℕ). ending (breaks 32 k)) e)

    module _ (h : i < length bs) where
      unknown : is_code (code_at bs i) ≡ false → cut_from (suc m) i (drop i bs) ≡ stepped (ahead m) i (item_at bs i)
      unfolding first position_of cut_from
      unknown k = rw (item-is i 31 (rw (lt-leb _ _ h, k) refl)) (by (dec_lt (i + 1) (length bs)))
        where
          by : Dec (i + 1 < length bs) → cut_one (cut_from m) i (drop i bs) ≡ ending (breaks 31 i)
          by (yes l) = unfold cut_one in rw (two_bytes i l, k)
          by (no l) = unfold cut_one in rw (one_byte i h, drop-out bs (i + 1) (omega arith), k)

      module _ (k : is_code (code_at bs i) ≡ true) where
        no-count : length bs ≤ i + 1 → cut_from (suc m) i (drop i bs) ≡ stepped (ahead m) i (item_at bs i)
        unfolding first position_of cut_from cut_one
        no-count l =
            let e : i + 1 ≡ length bs = omega arith in
            rw (item-is i 32 (rw (lt-leb _ _ h, k, le-leb _ _ l) refl), one_byte i h, drop-out bs (i + 1) l, k) (ap (λ (z : ℕ). ending (breaks 32 z)) e)

        module _ (l : i + 1 < length bs) where
          begins : cut_from (suc m) i (drop i bs) ≡ cut_behind (cut_from m) (code_at bs i) (count_at bs i) (i + 2) (drop (i + 2) bs)
          unfolding cut_from cut_one
          begins = rw (two_bytes i l, k)

          bad-count : bad_count (code_at bs i) (count_at bs i) ≡ true → cut_from (suc m) i (drop i bs) ≡ stepped (ahead m) i (item_at bs i)
          unfolding first position_of cut_behind
          bad-count b =
              let e : i + 2 - 1 ≡ i + 1 = omega arith in
              begins ∙ rw (item-is i 33 (rw (lt-leb _ _ h, k, lt-leb _ _ l, b) refl), b) (ap (λ (z : ℕ). ending (breaks 33 z)) e)

          module _ (b : bad_count (code_at bs i) (count_at bs i) ≡ false) where
            abbrev rest : ℕ
            rest = follows (code_at bs i) (count_at bs i)

            left : length (drop (i + 2) bs) ≡ length bs - (i + 2)
            left = length-drop (i + 2) bs

            cut_short : length bs < end_of bs i → cut_from (suc m) i (drop i bs) ≡ stepped (ahead m) i (item_at bs i)
            unfolding first position_of cut_behind
            cut_short o =
                let e : i + 2 + length (drop (i + 2) bs) ≡ length bs = omega (arith, left) in
                let s : length (drop (i + 2) bs) < rest = omega (arith, left) in
                begins ∙ rw (item-is i 32 (rw (lt-leb _ _ h, k, lt-leb _ _ l, b, lt-ltb _ _ o) refl), b, lt-ltb _ _ s)
                (ap (λ (z : ℕ). ending (breaks 32 z)) e)

            address_is : get_or (drop (i + 2) bs) 0 0 + 256 * get_or (drop (i + 2) bs) 1 0 ≡ address_at bs i
            address_is =
                let a : i + 2 + 0 ≡ i + 2 = omega arith in let z : i + 2 + 1 ≡ i + 3 = omega arith in
                ap₂ (λ (x y : ℕ). x + 256 * y) (get_or-drop (i + 2) bs 0 0 ∙ ap (λ (j : ℕ). get_or bs j 0) a)
                (get_or-drop (i + 2) bs 1 0 ∙ ap (λ (j : ℕ). get_or bs j 0) z)

            on : drop rest (drop (i + 2) bs) ≡ drop (i + 2 + rest) bs
            on = drop-drop rest (i + 2) bs

            data-bytes : code_at bs i ≡ data_code → take (data_bytes (count_at bs i)) (drop 2 (drop (i + 2) bs)) ≡ take (rest - 2) (drop (i + 4) bs)
            unfolding follows
            data-bytes c =
                let a : 2 + data_bytes (count_at bs i) - 2 ≡ data_bytes (count_at bs i) = omega arith in let z : i + 2 + 2 ≡ i + 4 = omega arith in
                rw (eq-eqb _ _ c, a, drop-drop 2 (i + 2) bs) (ap (λ (j : ℕ). take (data_bytes (count_at bs i)) (drop j bs)) z)

            whole : end_of bs i ≤ length bs → cut_from (suc m) i (drop i bs) ≡ stepped (ahead m) i (item_at bs i)
            unfolding first position_of cut_behind cut_whole
            whole o =
                let s : rest ≤ length (drop (i + 2) bs) = omega (arith, left) in
                begins ∙ rw (item-is i 0 (rw (lt-leb _ _ h, k, lt-leb _ _ l, b, le-ltb _ _ o) refl), b, le-ltb _ _ s) (by (ℕ_discrete (code_at bs i) data_code))
              where
                by : Dec (code_at bs i ≡ data_code)
                    → cond (eqb (code_at bs i) data_code)
                    (onto (record {
                      address = get_or (drop (i + 2) bs) 0 0 + 256 * get_or (drop (i + 2) bs) 1 0;
                      bytes = take (data_bytes (count_at bs i))
                          (drop 2 (drop (i + 2) bs));
                    })
                    (cut_from m (i + 2 + rest) (drop rest (drop (i + 2) bs))))
                    (cond (eqb (code_at bs i) start_code) (ending (starts (get_or (drop (i + 2) bs) 0 0 + 256 * get_or (drop (i + 2) bs) 1 0)))
                    (cut_from m (i + 2 + rest) (drop rest (drop (i + 2) bs))))
                    ≡ cond (eqb (code_at bs i) data_code)
                    (onto (record { address = address_at bs i; bytes = take (rest - 2) (drop (i + 4) bs) })
                    (cut_from m (i + 2 + rest) (drop (i + 2 + rest) bs)))
                    (cond (eqb (code_at bs i) start_code) (ending (starts (address_at bs i))) (cut_from m (i + 2 + rest) (drop (i + 2 + rest) bs)))
                by (yes c) = rw (eq-eqb _ _ c, on, address_is, data-bytes c) refl
                by (no c) = rw (ne_eqb _ _ c, on, address_is) refl

    -- one record or comment is cut off
    pub cut_step : cut_from (suc m) i (drop i bs) ≡ stepped (ahead m) i (item_at bs i)
    cut_step = by (cases i)
      where
        by : Case i → cut_from (suc m) i (drop i bs) ≡ stepped (ahead m) i (item_at bs i)
        by (at_end h) = ends-here h
        by (strange h k) = unknown h k
        by (lacks_count h k l) = no-count h k l
        by (badly h k l b) = bad-count h k l b
        by (shortly h k l b o) = cut_short h k l b o
        by (wholly h k l b o) = whole h k l b o
