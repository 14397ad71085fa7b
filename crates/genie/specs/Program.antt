-- What genie_load_record hands back (02 §12): its number first and the slot of a fault, then the other numbers that go out, then the bytes of what it
-- was lent.
use Rattle.std.specs.Prelude.{ℕ, cond, List, eqb}
use Rattle.meaning.specs.declared.Geometry.{Geometry}
use Rattle.load.specs.Records.{data_code}
use Rattle.load.specs.Load.{load_record}
use Rattle.load.specs.declared.Loaded.{Loaded}
use Rattle.genie_codec.specs.Codec.{handle_bytes, handle_of, stored}
use Rattle.genie.specs.Exports.{long, too_short}

-- kind, address, count, position, the handle's bytes and the buffer. The handle's bytes change where a data record is told; they are as they stood
-- where a start address is told, and under a refusal.
unfoldable pub tells_record : List ℕ → Loaded × List ℕ → ℕ × ℕ × ℕ × ℕ × ℕ × ℕ × List ℕ × List ℕ
tells_record b p =
    let a = p.0 in (
      a.refusal.number,
      a.refusal.at,
      a.kind,
      a.address,
      a.count,
      a.position,
      cond (eqb a.kind data_code) (stored b a.handle) b,
      p.1,
    )

-- A handle under 19 bytes is 12.
abbrev pub exported_load_record : Geometry → List ℕ → List ℕ → List ℕ → ℕ × ℕ × ℕ × ℕ × ℕ × ℕ × List ℕ × List ℕ
exported_load_record g d b buffer =
    long handle_bytes b ((too_short g d).number, (too_short g d).at, 0, 0, 0, 0, b, buffer) (tells_record b (load_record g d (handle_of b) buffer))
