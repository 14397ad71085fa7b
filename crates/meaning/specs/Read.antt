-- Read record and read sector (01, Calls); read bytes, which is read record with the buffer's own length in the record length's place.
use Rattle.std.specs.Prelude.{ℕ, suc, ◌+◌, ◌-◌, ◌*◌, Bool, cond, List, [], ◌∷◌, ◌++◌, map, leb, ltb, eqb, length, drop}
use Rattle.meaning.specs.Lists.{count, all}
use Rattle.meaning.specs.Layout
use Rattle.meaning.specs.Entries
use Rattle.meaning.specs.Chain
use Rattle.meaning.specs.Refusals
use Rattle.meaning.specs.Handles
use Rattle.meaning.specs.declared.Geometry.{Geometry}
use Rattle.meaning.specs.declared.Handle.{Handle}
use Rattle.meaning.specs.declared.Answer.{Answer}
use Rattle.meaning.specs.declared.Part.{Part}

module _ (g : Geometry) (d : List ℕ) where
  -- n bytes of the file at slot s, from byte i on
  unfoldable pub fetch : ℕ → ℕ → ℕ → List ℕ
  fetch s i n = map (λ j. Layout.byte d (Chain.place g d s j)) (count i n)

  -- A read of n bytes. 12 also where the buffer is shorter than that, `room` being the buffer's length, or n is over the highest position, which
  -- no record length is. 10: read past the size.
  abbrev pub read_refusals : Handle → ℕ → ℕ → List (ℕ × Bool)
  read_refusals h n room =
      Refusals.handle_refusals g d h (all (Handles.in_range g h ∷ leb n (Layout.highest g) ∷ leb n room ∷ []))
      (Refusals.not_for_reading h ∷ (10, ltb (Entries.size_of g d h.slot) (h.at + n)) ∷ [])

  -- Position + length must not pass the size; the bytes go to the start of the buffer, the rest of it is untouched, the position advances.
  unfoldable pub read_of : Handle → ℕ → List ℕ → Answer × List ℕ
  read_of h n b =
      let no = Refusals.first (read_refusals h n (length b)) in (
        record { refusal = Refusals.refusal g d no; handle = cond (Refusals.accepted no) (Handles.moved_to h (h.at + n)) h },
        cond (Refusals.accepted no) (fetch h.slot h.at n ++ drop n b) b,
      )

  -- read record: as many bytes as the handle's record length
  abbrev pub read_record : Handle → List ℕ → Answer × List ℕ
  read_record h b = read_of h h.len b

  -- read bytes: as many as the buffer holds, none included
  abbrev pub read_bytes : Handle → List ℕ → Answer × List ℕ
  read_bytes h b = read_of h (length b) b

  -- 12 also where the sector is out of range (01: 0 to 7,679). 10: sector k not below n.
  abbrev pub sector_refusals : Handle → ℕ → List (ℕ × Bool)
  sector_refusals h k =
      Refusals.handle_refusals g d h (all (Handles.in_range g h ∷ ltb k (Layout.sector_numbers g) ∷ []))
      (Refusals.not_for_reading h ∷ (10, leb (Entries.sector_count g d h.slot) k) ∷ [])

  -- how many bytes of sector k are the file's: what the end byte says of the last one, else 256
  abbrev pub sector_bytes : ℕ → ℕ → ℕ
  sector_bytes s k = cond (eqb (suc k) (Entries.sector_count g d s)) (Entries.size_of g d s - 256 * k) 256

  -- The file's bytes in sector k are handed back as a part of the lent image, 1 to 256 bytes; a refused sector read hands back an empty
  -- part.
  unfoldable pub read_sector : Handle → ℕ → Part
  read_sector h k =
      let s = h.slot in let no = Refusals.first (sector_refusals h k) in
      let from = Chain.place g d s (256 * k) in
      record {
        refusal = Refusals.refusal g d no;
        from = cond (Refusals.accepted no) from 0;
        to = cond (Refusals.accepted no) (from + sector_bytes s k) 0;
      }
