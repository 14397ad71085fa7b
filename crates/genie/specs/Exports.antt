-- What each exported function hands back: its number first and the slot of a fault (02 §2), in calls by name the place of a bad byte (02 §7), then
-- the other numbers that go out, then the bytes of what it was lent.
use Rattle.std.specs.Prelude.{ℕ, Bool, true, cond, List, [], ◌∷◌, ltb, length}
use Rattle.std.proofs.lemmas.List.Edits.{sets}
use Rattle.meaning.specs.Names.{well_formed, comes_in, no_place}
use Rattle.meaning.specs.Refusal.{place_of, slot_told}
use Rattle.meaning.specs.Refusals.{first, accepted, disk_refusals, check, refusal}
use Rattle.meaning.specs.LookUp.{look_up}
use Rattle.meaning.specs.Open.{open'}
use Rattle.meaning.specs.Create.{create}
use Rattle.meaning.specs.Read.{read_record, read_bytes, read_sector}
use Rattle.meaning.specs.Write.{write_record, write_bytes}
use Rattle.meaning.specs.Allot.{allot}
use Rattle.meaning.specs.Trim.{trim}
use Rattle.meaning.specs.Kill.{kill}
use Rattle.meaning.specs.BringBack.{bring_back}
use Rattle.meaning.specs.Listing.{list, counts}
use Rattle.meaning.specs.FreeSpace.{free_space}
use Rattle.meaning.specs.declared.Geometry.{Geometry}
use Rattle.meaning.specs.declared.NewFile.{NewFile}
use Rattle.meaning.specs.declared.Refusal.{Refusal}
use Rattle.meaning.specs.declared.Answer.{Answer}
use Rattle.meaning.specs.declared.Created.{Created}
use Rattle.meaning.specs.declared.BroughtBack.{BroughtBack}
use Rattle.meaning.specs.declared.LookedUp.{LookedUp}
use Rattle.meaning.specs.declared.Part.{Part}
use Rattle.meaning.specs.declared.Listed.{Listed}
use Rattle.meaning.specs.declared.Counts.{Counts}
use Rattle.meaning.specs.declared.Space.{Space}
use Rattle.play_session.specs.Playing.{play}
use Rattle.play_session.specs.declared.Played.{Played}
use Rattle.genie_codec.specs.Codec.{handle_bytes, name_bytes, handle_of, stored}
use Rattle.genie_codec.specs.Words.{mode_of, told}

-- the six numbers that state a new file
abbrev pub new_file : ℕ → ℕ → ℕ → ℕ → ℕ → ℕ → NewFile
new_file day month year len main worker = record { day = day; month = month; year = year; len = len; main = main; worker = worker }

-- so for a slice of at least n bytes, and so for a shorter one
abbrev pub long : {A : Type 0} → ℕ → List ℕ → A → A → A
long n b under whole = cond (ltb (length b) n) under whole

-- a call that moves: the handle's bytes change where it was accepted ("under a refusal every lent buffer is as it stood")
unfoldable pub moves : List ℕ → Answer × List ℕ → ℕ × ℕ × List ℕ × List ℕ
moves b p = (p.0.refusal.number, p.0.refusal.at, cond (accepted p.0.refusal.number) (stored b p.0.handle) b, p.1)

-- a call that leaves the handle alone
abbrev pub leaves : Answer × List ℕ → ℕ × ℕ × List ℕ
leaves p = (p.0.refusal.number, p.0.refusal.at, p.1)

-- "a refused open or create leaves a handle of zeros": meaning's open and create hand it back
abbrev pub opens : List ℕ → Answer → ℕ × ℕ × ℕ × List ℕ
opens b a = (a.refusal.number, slot_told a.refusal, place_of a.refusal, stored b a.handle)

abbrev pub creates : List ℕ → Created × List ℕ → ℕ × ℕ × ℕ × ℕ × List ℕ × List ℕ
creates b p = (p.0.refusal.number, slot_told p.0.refusal, place_of p.0.refusal, told p.0.old, stored b p.0.handle, p.1)

abbrev pub brings : BroughtBack × List ℕ → ℕ × ℕ × ℕ × ℕ × List ℕ
brings p = (p.0.refusal.number, p.0.refusal.at, p.0.slots, p.0.granules, p.1)

abbrev pub plays : Played × List ℕ × List ℕ → ℕ × ℕ × ℕ × ℕ × ℕ × List ℕ × List ℕ
plays p = (p.0.refusal.number, p.0.refusal.at, p.0.calls, p.0.byte, p.0.bit, p.2, p.1)

abbrev pub looks : LookedUp → ℕ × ℕ × ℕ × ℕ × ℕ
looks l = (l.refusal.number, slot_told l.refusal, place_of l.refusal, l.slot, l.compared)

abbrev pub lies : Part → ℕ × ℕ × ℕ × ℕ
lies p = (p.refusal.number, p.refusal.at, p.from, p.to)

-- "No more" is accepted: more 0, size and granules 0, the name buffer as it stood; more is 1 where a file was told.
unfoldable pub tells : List ℕ → Listed → ℕ × ℕ × ℕ × ℕ × ℕ × List ℕ
tells b l = (l.refusal.number, l.refusal.at, l.size, l.granules, told l.more, cond l.more (sets b 0 l.name) b)

abbrev pub numbers : Counts → ℕ × ℕ × ℕ × ℕ
numbers c = (c.refusal.number, c.refusal.at, c.files, c.free)

-- free space alone has no slot to tell: it looks at no fault
abbrev pub spaces : Space → ℕ × ℕ × ℕ
spaces s = (s.refusal.number, s.free, s.longest)

-- "the name check now hands back the folded name, or the place of the first bad byte" (02 §7): the name is stored where it is accepted
unfoldable pub names : List ℕ → List ℕ → ℕ × ℕ × List ℕ
names b n = cond (well_formed (comes_in n).name) (0, no_place, sets b 0 (comes_in n).name) (3, (comes_in n).place, b)

-- the place, the buffer of the folded name: 12 where it is under 11 bytes. No disk is looked at, so there is no 1 and no fault.
abbrev pub exported_name : List ℕ → List ℕ → ℕ × ℕ × List ℕ
exported_name n b = long name_bytes b (12, no_place, b) (names b n)

module _ (g : Geometry) (d : List ℕ) where
  -- "A handle under 19 bytes is 12; so is the listing's outgoing name buffer under 11 bytes", in the table's order.
  unfoldable pub too_short : Refusal
  too_short = refusal g d (first (disk_refusals g d ((12, true) ∷ [])))

  abbrev pub exported_check : ℕ × ℕ
  exported_check = ((check g d).number, (check g d).at)

  -- the place, slot, compared. "look up's count apart": under 4 it is told, and 0 under 1, 2 (21 to 30) and 3.
  abbrev pub exported_look_up : List ℕ → ℕ × ℕ × ℕ × ℕ × ℕ
  exported_look_up n = looks (look_up g d n)

  -- the place, the handle's bytes
  abbrev pub exported_open : List ℕ → ℕ → Bool → ℕ → List ℕ → ℕ × ℕ × ℕ × List ℕ
  exported_open n len checking code b = long handle_bytes b (too_short.number, too_short.at, no_place, b) (opens b (open' g d n len checking code))

  -- the place, old, the handle's bytes, the image
  abbrev pub exported_create : List ℕ → NewFile → Bool → List ℕ → ℕ × ℕ × ℕ × ℕ × List ℕ × List ℕ
  exported_create n f checking b = long handle_bytes b (too_short.number, too_short.at, no_place, 0, b, d) (creates b (create g d n f checking))

  -- the handle's bytes, the buffer
  abbrev pub exported_read_record : List ℕ → List ℕ → ℕ × ℕ × List ℕ × List ℕ
  exported_read_record b buffer = long handle_bytes b (too_short.number, too_short.at, b, buffer) (moves b (read_record g d (handle_of b) buffer))

  abbrev pub exported_read_bytes : List ℕ → List ℕ → ℕ × ℕ × List ℕ × List ℕ
  exported_read_bytes b buffer = long handle_bytes b (too_short.number, too_short.at, b, buffer) (moves b (read_bytes g d (handle_of b) buffer))

  -- from, to
  abbrev pub exported_read_sector : List ℕ → ℕ → ℕ × ℕ × ℕ × ℕ
  exported_read_sector b k = long handle_bytes b (too_short.number, too_short.at, 0, 0) (lies (read_sector g d (handle_of b) k))

  -- the handle's bytes, the image
  abbrev pub exported_write_record : List ℕ → Bool → List ℕ → ℕ × ℕ × List ℕ × List ℕ
  exported_write_record b sequential buffer =
      long handle_bytes b (too_short.number, too_short.at, b, d) (moves b (write_record g d (mode_of sequential) (handle_of b) buffer))

  abbrev pub exported_write_bytes : List ℕ → Bool → List ℕ → ℕ × ℕ × List ℕ × List ℕ
  exported_write_bytes b sequential buffer =
      long handle_bytes b (too_short.number, too_short.at, b, d) (moves b (write_bytes g d (mode_of sequential) (handle_of b) buffer))

  -- the image
  abbrev pub exported_allot : List ℕ → ℕ → ℕ × ℕ × List ℕ
  exported_allot b k = long handle_bytes b (too_short.number, too_short.at, d) (leaves (allot g d (handle_of b) k))

  abbrev pub exported_trim : List ℕ → ℕ × ℕ × List ℕ
  exported_trim b = long handle_bytes b (too_short.number, too_short.at, d) (leaves (trim g d (handle_of b)))

  abbrev pub exported_kill : List ℕ → ℕ × ℕ × List ℕ
  exported_kill b = long handle_bytes b (too_short.number, too_short.at, d) (leaves (kill g d (handle_of b)))

  -- slots, granules, the image
  abbrev pub exported_bring_back : ℕ → ℕ × ℕ × ℕ × ℕ × List ℕ
  exported_bring_back s = brings (bring_back g d s)

  -- calls, byte, bit, the results, the image
  abbrev pub exported_play : List ℕ → List ℕ → ℕ × ℕ × ℕ × ℕ × ℕ × List ℕ × List ℕ
  exported_play t rs = plays (play g d t rs)

  -- size, granules, more, the name buffer
  abbrev pub exported_list : ℕ → List ℕ → ℕ × ℕ × ℕ × ℕ × ℕ × List ℕ
  exported_list i b = long name_bytes b (too_short.number, too_short.at, 0, 0, 0, b) (tells b (list g d i))

  -- files, free
  abbrev pub exported_count : ℕ × ℕ × ℕ × ℕ
  exported_count = numbers (counts g d)

  -- free, longest
  abbrev pub exported_free : ℕ × ℕ × ℕ
  exported_free = spaces (free_space g d)
