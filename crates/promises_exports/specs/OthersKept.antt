-- What is promised of the other exports is so.
use Rattle.std.specs.Prelude.{ℕ, ◌≡◌, ◌≢◌, Bool, not, cond, length}
use Rattle.std.proofs.Math.Path.{refl, ap}
use Rattle.std.proofs.Common.{subst, arith, T_not, lt→ltb, ne_eqb}
use Rattle.std.proofs.Math.Bool.{true, false}
use mathlib.Core.List.{List, [], ◌∷◌}
use Rattle.std.proofs.Math.Decide.{ℕ_discrete}
use Rattle.std.proofs.Math.Dec.{not_T, ltb, ltb→lt}
use Rattle.std.proofs.lemmas.List.Edits.{sets}
use Rattle.meaning.specs.Names.{well_formed, comes_in, fold, no_place}
use Rattle.meaning.specs.Refusal.{unplaced, naming}
use Rattle.meaning.specs.Refusals.{first, accepted, bad_name, check, disk_refusals}
use Rattle.meaning.specs.BringBack.{bring_back}
use Rattle.meaning.specs.Calls.{Call, number}
use Rattle.meaning.specs.declared.Geometry.{Geometry}
use Rattle.differences.specs.Compare.{compare}
use Rattle.load.specs.Load.{load_record, load_refusals}
use Rattle.play_trace.specs.Reading.{read_trace, tell}
use Rattle.play_session.specs.Playing.{play, play_refusals}
use Rattle.list_rows.specs.Rows.{list_from, rows_refusals}
use Rattle.lists.specs.First.{first-in}
use Rattle.lists.specs.Members.{In, in-append-l, in-append-r, no_false, false-no}
use Rattle.promises_words.specs.Given.{AreBytes}
use Rattle.promises.specs.Promises.{Exactly, disk_cases, BadAt}
use Rattle.promises.specs.Refusing.{exactly, own_rows}
use Rattle.promises.proofs.Kept.{every-name}
use Rattle.promises_back.specs.Statement.{back_table}
use Rattle.promises_back.specs.Kept.{every_back}
use Rattle.promises_session.specs.Kept.{every-play}
use Rattle.promises_rows.specs.Numbers.{rows_cases, rows-numbers}
use Rattle.promises_rows.specs.RowByRow.{row_is, row-of-a-file, none-left-out, rest-stands, nothing-told}
use Rattle.promises_load.specs.Numbers.{load-numbers}
use Rattle.promises_compare.proofs.Kept.{every-pair, every-refusal}
use Rattle.refusal.specs.Short.{short_of_two}
use Rattle.genie_codec.specs.Codec.{handle_bytes, name_bytes, handle_of}
use Rattle.genie.specs.Exports.{names, exported_name, exported_bring_back, exported_play, too_short}
use Rattle.genie.specs.Table.{exported_list_from}
use Rattle.genie.specs.Compared.{exported_compare, tells_difference}
use Rattle.genie.specs.Program.{exported_load_record, tells_record}
use Rattle.promises_numbers.specs.Statement.{rows_of}
use Rattle.promises_fault.specs.Kept.{every-fault}
use Rattle.promises_exports.specs.Proved.{numbered-by, numbered, fault-placed, with-own}
use Rattle.promises_exports.specs.Others.{ExportFixed, name_table, NameTold, NameChecked, BroughtBackBy, PlaysBack, PlayedBack, ListedFrom, ComparedWith}
use Rattle.promises_exports.specs.Others.{RecordLoaded}

-- by the length of the buffer, and by whether the name is good
abbrev checked_name : List ℕ → List ℕ → Bool → Bool → ℕ × ℕ × List ℕ
checked_name n b s t = cond s (12, no_place, b) (cond t (0, no_place, sets b 0 (comes_in n).name) (3, (comes_in n).place, b))

-- its refusals, in the table's order
abbrev name_refusals : List ℕ → List ℕ → List (ℕ × Bool)
name_refusals n b = (12, ltb (length b) name_bytes) ∷ bad_name n ∷ []

first-name : (n b : List ℕ) (s t : Bool) → first ((12, s) ∷ (3, not t) ∷ []) ≡ (checked_name n b s t).0
unfolding first
first-name n b true t = refl
first-name n b false true = refl
first-name n b false false = refl

name-numbers : (n b : List ℕ) → Exactly (exported_name n b).0 (name_table n b)
unfolding names
name-numbers n b =
    subst (λ (k : ℕ). Exactly k (name_table n b)) (first-name n b (ltb (length b) name_bytes) (well_formed (comes_in n).name))
    (exactly (name_refusals n b) (name_table n b) (
      refl,
      λ x. (ltb→lt (length b) name_bytes, lt→ltb (length b) name_bytes),
      (refl, λ x. (λ t. no_false (T_not (well_formed (fold n)) t), λ e. not_T (well_formed (fold n)) (false-no e)), tt),
    ) tt)

name-folded : (n b : List ℕ) (s t : Bool) → let x = checked_name n b s t in x.0 ≡ 0 → x.2 ≡ sets b 0 (comes_in n).name
name-folded n b true t z = absurd (let q : ⊥ = omega (arith, z) in q)
name-folded n b false true z = refl
name-folded n b false false z = absurd (let q : ⊥ = omega (arith, z) in q)

name-place : (n b : List ℕ) (s t : Bool) → well_formed (fold n) ≡ t → let x = checked_name n b s t in x.0 ≡ 3 → BadAt (fold n) x.1
name-place n b true t f z = absurd (let q : ⊥ = omega (arith, z) in q)
name-place n b false true f z = absurd (let q : ⊥ = omega (arith, z) in q)
name-place n b false false f z = (every-name n).0.bad f

pub name-checked : (n b : List ℕ) → NameChecked n b (exported_name n b)
unfolding names
name-checked n b = by (ltb (length b) name_bytes) (well_formed (comes_in n).name) refl (name-numbers n b)
  where
    stood : (s t : Bool) → let x = checked_name n b s t in x.0 ≢ 0 → (x.2 ∷ []) ≡ (b ∷ [])
    stood true t z = refl
    stood false true z = absurd (z refl)
    stood false false z = refl

    by : (s t : Bool) → well_formed (fold n) ≡ t → let x = checked_name n b s t in Exactly x.0 (name_table n b)
        → ExportFixed x x x.0 (12 ∷ 3 ∷ []) (x.2 ∷ []) (b ∷ []) (NameTold n b x)
    by s t f e =
        let x = checked_name n b s t in
        record {
          is = refl;
          numbered = numbered-by (name_table n b) x.0 e;
          refuses = stood s t;
          does = record { numbers = e; folded = name-folded n b s t; place = name-place n b s t f };
        }

module _ (g : Geometry) (d : List ℕ) where
  pub brought-back : (s : ℕ) → BroughtBackBy g d s (exported_bring_back g d s)
  brought-back s =
      let p = every_back g d s in
      record {
        is = refl;
        numbered = numbered-by (back_table g d s) (bring_back g d s).0.refusal.number p.numbers;
        refuses = λ z. ap (λ (x : List ℕ). x ∷ []) (p.refuses z).0;
        does = (
          record { stays = p.stays; serves = p.serves; refuses = p.refuses; numbers = p.numbers },
          λ i. fault-placed g d ((every-fault g d).back s i),
        );
      }

  plays-back : (t rs : List ℕ) → AreBytes t → PlaysBack g d t rs (exported_play g d t rs)
  unfolding play
  plays-back t rs a =
      let p = every-play g d t rs a in
      record {
        numbers = p.numbers;
        stays = p.stays;
        serves = λ z. let w = p.serves z in (w.reading, w.reads', w.calls, w.image, w.results);
        place = p.placed.place;
        fault = with-own g d (own_rows (play_refusals g d (tell (read_trace t)) (length rs))) tt;
      }

  pub played-back : (t rs : List ℕ) → PlayedBack g d t rs (exported_play g d t rs)
  unfolding play
  played-back t rs =
      record {
        is = refl;
        numbered = first-in (play_refusals g d (tell (read_trace t)) (length rs));
        refuses = λ z. rw (ne_eqb _ 0 z) refl;
        does = plays-back t rs;
      }

  pub listed-from : (k : ℕ) (t : List ℕ) → ListedFrom g d k t (exported_list_from g d k t)
  unfolding list_from
  listed-from k t =
      let n = rows-numbers g d k t in
      record {
        is = refl;
        numbered = numbered-by (rows_cases g d (length t)) (list_from g d k t).0.refusal.number n;
        refuses = λ z. ap (λ (x : List ℕ). x ∷ []) (nothing-told g d k t z).1;
        does = record {
          numbers = n;
          row = λ z i l. (row_is g d k t z i l, row-of-a-file g d k t z i l);
          all' = λ z. none-left-out g d k t z;
          rest = λ z. rest-stands g d k t z;
          fault = with-own g d (own_rows (rows_refusals g d (length t))) tt;
        };
      }

  -- where a slice is too short
  short-number : In (too_short g d).number (0 ∷ rows_of (disk_cases g d ((12, Unit {0}) ∷ [])))
  unfolding too_short
  short-number = first-in (disk_refusals g d ((12, true) ∷ []))

  pub record-loaded : (b buffer : List ℕ) → RecordLoaded g d b buffer (exported_load_record g d b buffer)
  unfolding load_record tells_record too_short
  record-loaded b buffer = by (ltb (length b) handle_bytes) refl
    where
      by : (t : Bool) → ltb (length b) handle_bytes ≡ t → RecordLoaded g d b buffer (exported_load_record g d b buffer)
      by true e =
          record {
            is = refl;
            numbered = rw e (in-append-l (7 ∷ 6 ∷ 31 ∷ 32 ∷ 33 ∷ []) short-number);
            refuses = λ z. rw e refl;
            does = (
              λ l. absurd (let q : ⊥ = omega (arith, l, ltb→lt (length b) handle_bytes (rw e tt)) in q),
              rw e (with-own g d ((12, true) ∷ []) tt),
            );
          }
      by false e =
          record {
            is = refl;
            numbered = rw e (first-in (load_refusals g d (handle_of b) (length buffer)));
            refuses = λ z. rw e (rw (ne_eqb _ 0 (rw e at z)) refl);
            does = (λ l. rw e (load-numbers g d (handle_of b) buffer), rw e (with-own g d (own_rows (load_refusals g d (handle_of b) (length buffer))) tt));
          }

  check-number : In (check g d).number (0 ∷ rows_of (disk_cases g d ((12, Unit {0}) ∷ [])))
  unfolding number
  check-number = in-append-l (12 ∷ []) (numbered g d Call.checks)

module _ (g : Geometry) (d : List ℕ) (g' : Geometry) (d' : List ℕ) (i : ℕ) (b : List ℕ) where
  abbrev DiskNumbers : List ℕ
  DiskNumbers = rows_of (disk_cases g d ((12, Unit {0}) ∷ []))

  short-of-two : In (short_of_two (check g d) (check g' d')).number (0 ∷ DiskNumbers)
  unfolding short_of_two
  short-of-two = by (accepted (check g d).number) (accepted (check g' d').number)
    where
      by : (s t : Bool) → In (cond s (cond t (unplaced 12) (naming 2 (check g' d'))) (naming 1 (check g d))).number (0 ∷ DiskNumbers)
      by true true = in-append-r (0 ∷ rows_of (disk_cases g d [])) In.here
      by true false = check-number g' d'
      by false t = check-number g d

  -- what is told of two disks: nothing, with a number of the first or of the second, or a difference with 0
  told-number : In (compare g d g' d' i).refusal.number (0 ∷ DiskNumbers)
  told-number = by (ℕ_discrete (check g d).number 0) (ℕ_discrete (check g' d').number 0)
    where
      by : Dec ((check g d).number ≡ 0) → Dec ((check g' d').number ≡ 0) → In (compare g d g' d' i).refusal.number (0 ∷ DiskNumbers)
      by (no y) t = rw ((every-refusal g d g' d').first i y) (check-number g d)
      by (yes y) (no z) = rw ((every-refusal g d g' d').second i y z) (check-number g' d')
      by (yes y) (yes z) = rw ((every-refusal g d g' d').neither i y z) In.here

  told-kind : (compare g d g' d' i).refusal.number ≢ 0 → (compare g d g' d' i).kind ≡ 0
  told-kind k = by (ℕ_discrete (check g d).number 0) (ℕ_discrete (check g' d').number 0)
    where
      by : Dec ((check g d).number ≡ 0) → Dec ((check g' d').number ≡ 0) → (compare g d g' d' i).kind ≡ 0
      by (no y) t = rw ((every-refusal g d g' d').first i y) refl
      by (yes y) (no z) = rw ((every-refusal g d g' d').second i y z) refl
      by (yes y) (yes z) = absurd (k ((every-refusal g d g' d').neither i y z))

  pub compared-with : ComparedWith g d g' d' i b (exported_compare g d g' d' i b)
  unfolding tells_difference
  compared-with = by (ltb (length b) name_bytes) refl
    where
      by : (t : Bool) → ltb (length b) name_bytes ≡ t → ComparedWith g d g' d' i b (exported_compare g d g' d' i b)
      by true e =
          record {
            is = refl;
            numbered = rw e short-of-two;
            refuses = λ z. rw e refl;
            does = λ l. absurd (let q : ⊥ = omega (arith, l, ltb→lt (length b) name_bytes (rw e tt)) in q);
          }
      by false e =
          record {
            is = refl;
            numbered = rw e told-number;
            refuses = λ z. rw e (rw (told-kind (rw e at z)) refl);
            does = λ l. (compare g d g' d', every-refusal g d g' d', every-pair g d g' d', rw e refl);
          }
