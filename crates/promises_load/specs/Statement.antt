-- What is promised of the reader of program files (02 §12). Nothing is proved here.
use Rattle.std.specs.Prelude.{◌≡◌, List, [], ◌∷◌, cond, ℕ, zero, suc, eqb, leb, length, take, drop}
use Rattle.meaning.specs.Lists.{all}
use Rattle.meaning.specs.Refusals.{first, handle_refusals, not_for_reading}
use Rattle.meaning.specs.Handles.{in_range}
use Rattle.meaning.specs.Plain.{File, found, plain, file_at}
use Rattle.meaning.specs.declared.Geometry.{Geometry}
use Rattle.meaning.specs.declared.Handle.{Handle}
use Rattle.load.specs.Records.{data_code, start_code, file_ends, record_from}
use Rattle.load.specs.Cut.{Record, End, Pieces, starts, breaks, ending, onto, cut}
use Rattle.load.specs.Load.{most_bytes, load_record}
use Rattle.load.specs.declared.NextRecord.{NextRecord}

-- the record that is told, with its bytes, and the end that is told
abbrev pub record_of : List ℕ → NextRecord → Record
record_of bs r = record { address = r.address; bytes = take r.count (drop r.from bs) }

abbrev pub end_by : NextRecord → End
end_by r = cond (eqb r.kind start_code) (starts r.address) (breaks r.number r.position)

-- the file asked from place i on, n times at the most, each time at the place that the last answer gave, until no data record is told
unfoldable pub asked_from : List ℕ → ℕ → ℕ → Pieces
asked_from bs zero i = ending (breaks file_ends i)
asked_from bs (suc n) i = let r = record_from bs i in cond (eqb r.kind data_code) (onto (record_of bs r) (asked_from bs n r.next)) (ending (end_by r))

-- the reader asked n times at the most, by the handle and with the buffer that the last call left, until no data record is told
unfoldable pub read_from : Geometry → List ℕ → ℕ → Handle → List ℕ → Pieces
read_from g d zero h b = ending (breaks file_ends h.at)
read_from g d (suc n) h b =
    let r = load_record g d h b in let a = r.0 in
    cond (eqb a.kind data_code)
    (onto (record { address = a.address; bytes = take a.count r.1 }) (read_from g d n a.handle r.1))
    (ending (cond (eqb a.kind start_code) (starts a.address) (breaks a.refusal.number a.position)))

-- none of 1, 21 to 30, 12, 7 and 6 applies: what is told then is the file's own
abbrev pub Admitted : Geometry → List ℕ → Handle → List ℕ → Type 0
Admitted g d h b = first (handle_refusals g d h (all (in_range g h ∷ leb most_bytes (length b) ∷ [])) (not_for_reading h ∷ [])) ≡ 0

-- Asked from place 0 on, the reader hands out the records of the plain file, cut, and then tells its end. So what it tells hangs on the plain file
-- alone, wherever its granules lie.
abbrev pub EveryProgram : Type 0
EveryProgram =
    (g : Geometry) (d : List ℕ) (h : Handle) (b : List ℕ) (f : File) → Admitted g d h b → h.at ≡ 0 → plain g d h.name ≡ found f
    → read_from g d (suc (length f.bytes)) h b ≡ cut f.bytes

-- The union of records equals reading the file whole and cutting it.
abbrev pub Union : Type 0
Union = (bs : List ℕ) → asked_from bs (suc (length bs)) 0 ≡ cut bs
