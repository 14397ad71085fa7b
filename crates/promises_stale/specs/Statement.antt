-- Nothing stale is read. Killed and trimmed granules "become free and are used again" (01), with the bytes that stood in them. In a list of
-- calls that created its file no call hands back any of those: every byte read is 0 or was written by that list before, whatever another list
-- does on the same disk in between. The same of load record (02 §12). Nothing is proved here: `Kept` has the theorem. Lists, turns and worlds are
-- those of demand 3 (`together`).
use Rattle.std.specs.Prelude.{◌≡◌, ◌≢◌, ◌⊎◌, List, [], ◌∷◌, ◌++◌, ℕ, T, ltb, length, take}
use Rattle.std.proofs.Math.Seq.{slice}
use Rattle.meaning.specs.Lists.{In}
use Rattle.meaning.specs.Names.{fold}
use Rattle.meaning.specs.Read.{read_of, read_sector}
use Rattle.meaning.specs.Plain.{nothing, plain}
use Rattle.meaning.specs.declared.Geometry.{Geometry}
use Rattle.meaning.specs.declared.Handle.{Handle}
use Rattle.load.specs.Load.{load_record}
use Rattle.promises.specs.Promises.{Good}
use Rattle.together.specs.Statement.{Name, Step, looks_up, opens, creates, moves, reads, reads_sector, writes, allots, trims, kills}
use Rattle.together.specs.Statement.{handle_at, many_by, Turn, one, two, Interleaving, World, start, next, Accepted, AllBring}

-- One call --------------------------------------------------------------------------------------------------------------------------

-- the bytes that a call of a list with these handles hands back: so many at the start of the buffer, or the part of the image
abbrev pub handed_back : Geometry → List ℕ → List Handle → Step → List ℕ
handed_back g d hs looks_up = []
handed_back g d hs (opens len checking code) = []
handed_back g d hs (creates f checking) = []
handed_back g d hs (moves i at) = []
handed_back g d hs (reads a i buffer) = let n = many_by hs a i buffer in take n (read_of g d (handle_at hs i) n buffer).1
handed_back g d hs (reads_sector i k) = let r = read_sector g d (handle_at hs i) k in slice r.from r.to d
handed_back g d hs (writes a m i bytes) = []
handed_back g d hs (allots i k) = []
handed_back g d hs (trims i) = []
handed_back g d hs (kills i) = []

-- the bytes that it writes: so many from the start of those brought
abbrev pub puts : List Handle → Step → List ℕ
puts hs looks_up = []
puts hs (opens len checking code) = []
puts hs (creates f checking) = []
puts hs (moves i at) = []
puts hs (reads a i buffer) = []
puts hs (reads_sector i k) = []
puts hs (writes a m i bytes) = take (many_by hs a i bytes) bytes
puts hs (allots i k) = []
puts hs (trims i) = []
puts hs (kills i) = []

-- A list ----------------------------------------------------------------------------------------------------------------------------

-- each of these bytes is 0, or is among those written
abbrev pub Own : List ℕ → List ℕ → Type 0
Own written bytes = (x : ℕ) → In x bytes → (x ≡ 0) ⊎ In x written

module _ (g : Geometry) (a b : Name) where
  -- A load read leaves the disk, and of its handle all but where it stands, which `moves` may set to any place: so one may stand before every turn and
  -- behind the last. Whichever it is, by a handle of the first list, the bytes that it hands back, so many at the start of the buffer, are such.
  abbrev pub LoadsOwn : List ℕ → World → Type 0
  LoadsOwn written w =
      let hs = w.first.handles in (i : ℕ) (buffer : List ℕ) → T (ltb i (length hs)) → let r = load_record g w.disk (handle_at hs i) buffer in
      Own written (take r.0.count r.1)

  -- turn by turn: what a call of the first list hands back is 0 or was written by that list before it
  abbrev pub NoneStale : List ℕ → World → List Turn → Type 0
  NoneStale written w [] = LoadsOwn written w
  NoneStale written w (one c ∷ zs) =
      LoadsOwn written w × Own written (handed_back g w.disk w.first.handles c)
      × NoneStale (written ++ puts w.first.handles c) (next g a b w (one c)) zs
  NoneStale written w (two c ∷ zs) = LoadsOwn written w × NoneStale written (next g a b w (two c)) zs

-- From a good disk that has no file of the first list's name: what stands under it from then on the list itself has created. In any
-- interleaving in which every call is accepted it reads nothing stale. (The second list is any one that is on another file; it may be empty.)
abbrev pub NothingStale : Type 0
NothingStale =
    (g : Geometry) (a b : Name) → fold a ≢ fold b → (d : List ℕ) → Good g d → plain g d (fold a) ≡ nothing
    → (xs ys : List Step) (zs : List Turn) → Interleaving xs ys zs → AllBring xs → AllBring ys → Accepted g a b (start d) zs
    → NoneStale g a b [] (start d) zs
