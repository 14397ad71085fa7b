-- Each number of load record is given exactly in its case, in the order of test: 1; 21 to 30; 12; 7; 6; then 31, 32 or 33, whichever the plain
-- file has first from the handle's position on.
use Rattle.std.specs.Prelude.{◌≡◌, ◌↔◌, true, ◌&&◌, List, [], ◌∷◌, ℕ, ◌≤◌, ◌<◌, T, ltb, eqb, length}
use Rattle.std.proofs.Math.Path.{refl}
use Rattle.std.proofs.Math.Dec.{leb, lt→ltb, leb→le}
use Rattle.std.proofs.Common.{ltb→lt, le→leb, eqb→eq}
use Rattle.meaning.specs.Lists.{all}
use Rattle.meaning.specs.Plain.{file_at}
use Rattle.meaning.specs.Handles.{in_range, fresh}
use Rattle.meaning.specs.declared.Geometry.{Geometry}
use Rattle.meaning.specs.declared.Handle.{Handle}
use Rattle.lists.specs.Members
use Rattle.load.specs.Records.{record_from, unknown_code, file_ends, wrong_count}
use Rattle.load.specs.Load.{most_bytes, load_refusals, load_record}
use Rattle.promises.specs.Promises.{Table, Exactly, InRange, handle_cases}
use Rattle.promises.specs.Refusing.{own_rows, own_cases, exactly, not_iff, range-iff, live-iff, disk-reading}

module _ (g : Geometry) (d : List ℕ) where
  -- from the place on the file's bytes have that number first
  abbrev pub Told : Handle → ℕ → ℕ × Type 0
  Told h k = (k, (record_from (file_at g d h.slot).bytes h.at).number ≡ k)

  -- 12 the handle's numbers or a buffer under 255 bytes; 6 a level over 5
  abbrev pub load_cases : Handle → ℕ → Table
  load_cases h room =
      handle_cases g d h (InRange g h × (most_bytes ≤ room))
      ((6, 5 < h.level) ∷ Told h unknown_code ∷ Told h file_ends ∷ Told h wrong_count ∷ [])

  ranged-iff : (h : Handle) (room : ℕ) → T (all (in_range g h ∷ leb most_bytes room ∷ [])) ↔ (InRange g h × (most_bytes ≤ room))
  unfolding all
  ranged-iff h room = (
    λ t. (
      (range-iff g h).0 (Members.and_l (in_range g h) (leb most_bytes room && true) t),
      leb→le most_bytes room (Members.all-second (in_range g h) (leb most_bytes room) t),
    ),
    λ x. Members.all_two (in_range g h) (leb most_bytes room) ((range-iff g h).1 x.0) (le→leb most_bytes room x.1),
  )

  told-iff : (h : Handle) (k : ℕ) → T (eqb (record_from (file_at g d h.slot).bytes h.at).number k) ↔ (Told h k).1
  told-iff h k = (eqb→eq (record_from (file_at g d h.slot).bytes h.at).number k, λ e. Members.eq-T e)

  pub load-numbers : (h : Handle) (b : List ℕ) → Exactly (load_record g d h b).0.refusal.number (load_cases h (length b))
  unfolding load_record
  load-numbers h b =
      exactly (load_refusals g d h (length b)) (load_cases h (length b))
      (disk-reading g d (own_rows (load_refusals g d h (length b))) (own_cases (load_cases h (length b))) (
        refl,
        λ x. not_iff (all (in_range g h ∷ leb most_bytes (length b) ∷ [])) (ranged-iff h (length b)),
        (
          refl,
          λ x. not_iff (fresh g d h) (live-iff g d h),
          (
            refl,
            λ x. (ltb→lt 5 h.level, lt→ltb 5 h.level),
            (refl, λ x. told-iff h unknown_code, (refl, λ x. told-iff h file_ends, (refl, λ x. told-iff h wrong_count, tt))),
          ),
        ),
      )) tt
