-- The theorem to the type of `Statement`: the files told are the same, and so is the row of each.
use Rattle.std.specs.Prelude.{◌≡◌, ◌⊎◌, true, cond, ℕ, ◌/◌, length}
use Rattle.std.proofs.Math.Path.{ap}
use Rattle.std.proofs.Common.{subst, ◌∙◌, inl, inr, eqb→eq, take-append-drop}
use mathlib.Core.List.{List, [], ◌∷◌}
use Rattle.std.proofs.Math.Dec.{ltb}
use Rattle.std.proofs.Math.ListN.{take, drop}
use Rattle.std.proofs.Math.Seq.{sets}
use Rattle.meaning.specs.Lists.{each, first}
use Rattle.meaning.specs.Refusals.{accepted, refusal}
use Rattle.meaning.specs.Listing.{listed}
use Rattle.meaning.specs.declared.Geometry.{Geometry}
use Rattle.meaning.specs.declared.Refusal.{Refusal}
use Rattle.lists.specs.Members
use Rattle.lists.specs.Members.{In}
use Rattle.laws.specs.Facts.{Sound, IsFile}
use Rattle.laws.specs.Passed
use Rattle.list_rows.specs.Rows.{row_bytes, row_of, row, told_from, rows_from, rows_refusals, list_from}
use Rattle.list_rows.specs.declared.Rows.{Rows}
use Rattle.promises_unread.specs.Statement.{Kinds, ReadAlike}
use Rattle.promises_unread.specs.Reads.{only}
use Rattle.promises_unread.specs.Answers
use Rattle.promises_unread_rows.specs.Statement.{EveryTable}

module _ (u : Kinds) (g : Geometry) (d d' : List ℕ) (a : ReadAlike u g d d') (number : ℕ) (table : List ℕ) where
  abbrev room : ℕ
  room = length table

  one-file : (p q : ℕ) → IsFile g d p → In q (p ∷ []) → IsFile g d q
  one-file p q f i = go (Members.in-cons i)
    where
      go : (q ≡ p) ⊎ In q [] → IsFile g d q
      go (inl e) = rw e f
      go (inr j) = Members.none_in j

  row_same : Sound g d → (p : ℕ) → IsFile g d p → row g d p ≡ row g d' p
  unfolding row
  row_same s p f = ap (row_of p) (Answers.tell_first-same u g d d' a s (p ∷ []) (λ q i. one-file p q f i))

  told-files : (p : ℕ) → In p (told_from g d number room) → IsFile g d p
  unfolding told_from
  told-files p i =
      let ps = drop number (listed g d) in
      Answers.listed-files u g d d' a number p
      (subst (λ (l : List ℕ). In p l) (take-append-drop (room / row_bytes) ps) (Members.in-append-l (drop (room / row_bytes) ps) i))

  rows_same : Sound g d → rows_from g d number table ≡ rows_from g d' number table
  unfolding rows_from told_from
  rows_same s =
      ap (λ (l : List ℕ). (length (told_from g d number room), sets table 0 l))
      (Members.each-eq (row g d) (row g d') (told_from g d number room) (λ p i. row_same s p (told-files p i)))
      ∙ (λ i. let ps = take (room / row_bytes) (drop number (Answers.listed_same u g d d' a i)) in (length ps, sets table 0 (each (row g d') ps)))

  -- what is answered under the number n, of these rows
  abbrev answered : (ℕ → Refusal) → ℕ → ℕ × List ℕ → Rows × List ℕ
  answered c n r = (record { refusal = c n; told = cond (accepted n) r.0 0 }, cond (accepted n) r.1 table)

  -- the rows are asked where the call is accepted
  told_same : (c : ℕ → Refusal) (n : ℕ) (r r' : ℕ × List ℕ) → (accepted n ≡ true → r ≡ r') → answered c n r ≡ answered c n r'
  told_same c n r r' f =
      let many = only (accepted n) 0 r.0 r'.0 (λ e. ap (λ (x : ℕ × List ℕ). x.0) (f e)) in
      let left = only (accepted n) table r.1 r'.1 (λ e. ap (λ (x : ℕ × List ℕ). x.1) (f e)) in
      λ i. (record { refusal = c n; told = many i }, left i)

  table_same : list_from g d number table ≡ list_from g d' number table
  unfolding list_from
  table_same =
      told_same (refusal g d) (first (rows_refusals g d room)) (rows_from g d number table) (rows_from g d' number table)
      (λ e. rows_same (Passed.disk-passed g d _ (eqb→eq _ _ (Members.true-T e))).0.sound)
      ∙ (λ i. answered (Answers.refusal-same u g d d' a i) (first (Answers.disk_refusals-same u g d d' a i ((12, ltb room row_bytes) ∷ [])))
      (rows_from g d' number table))

pub every-table : EveryTable
every-table u g d d' a number table = table_same u g d d' a number table
