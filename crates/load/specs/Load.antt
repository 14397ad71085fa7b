-- Read program files (02 §12): one record a call.
use Rattle.std.specs.Prelude.{ℕ, Bool, cond, List, [], ◌∷◌, ◌++◌, leb, eqb, length, take, drop}
use Rattle.meaning.specs.Lists.{all}
use Rattle.meaning.specs.Refusals
use Rattle.meaning.specs.Handles
use Rattle.meaning.specs.Plain.{file_at}
use Rattle.meaning.specs.declared.Geometry.{Geometry}
use Rattle.meaning.specs.declared.Handle.{Handle}
use Rattle.load.specs.Records.{record_from, unknown_code, file_ends, wrong_count}
use Rattle.load.specs.declared.NextRecord.{NextRecord}
use Rattle.load.specs.declared.Loaded.{Loaded}

-- "12 if the buffer is under 255 bytes": the most data bytes that a record has
abbrev pub most_bytes : ℕ
most_bytes = 255

abbrev pub load_numbers : List ℕ
load_numbers = unknown_code ∷ file_ends ∷ wrong_count ∷ []

module _ (g : Geometry) (d : List ℕ) where
  -- the bytes of the plain file at slot s
  abbrev pub bytes_of : ℕ → List ℕ
  bytes_of s = (file_at g d s).bytes

  -- "a reader that keeps hold of the lent image and its place in the file": the place is the handle's position
  abbrev pub asked : Handle → NextRecord
  asked h = record_from (bytes_of h.slot) h.at

  -- 1; 21 to 30; 12 (the handle's numbers; the buffer, `room` its length); 7; 6 (level over 5 for reading); then 31, 32 or 33, whichever the file has
  -- first
  abbrev pub load_refusals : Handle → ℕ → List (ℕ × Bool)
  load_refusals h room =
      Refusals.handle_refusals g d h (all (Handles.in_range g h ∷ leb most_bytes room ∷ []))
      (Refusals.not_for_reading h ∷ Refusals.by_number (asked h).number load_numbers)

  -- "hands out one record at a time with address and bytes, …, the bytes into a lent buffer": they go to its start, the rest of it is untouched. The
  -- place moves past a data record. Under a refusal nothing moves, and the position is told where the number is the file's own.
  unfoldable pub load_record : Handle → List ℕ → Loaded × List ℕ
  load_record h b =
      let r = asked h in let no = Refusals.first (load_refusals h (length b)) in let yes' = Refusals.accepted no in (
        record {
          refusal = Refusals.refusal g d no;
          kind = cond yes' r.kind 0;
          address = cond yes' r.address 0;
          count = cond yes' r.count 0;
          position = cond (eqb no r.number) r.position 0;
          handle = cond yes' (Handles.moved_to h r.next) h;
        },
        cond yes' (take r.count (drop r.from (bytes_of h.slot)) ++ drop r.count b) b,
      )
