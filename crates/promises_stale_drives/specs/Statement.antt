-- Nothing stale is read (`promises_stale`), of two drives (02 §9): in a list of calls on a file that it created itself, on the drive of its number, every
-- byte read is 0 or was written by that list before, whatever another list does on that drive or on the other in between. Lists, turns and worlds are
-- those of demand 3 over two drives (`promises_drives`); of the other drive's disk nothing is asked. Nothing is proved here: `Kept` has the theorem.
use Rattle.std.specs.Prelude.{◌≡◌, ◌≢◌, List, [], ◌∷◌, ◌++◌, ℕ, take}
use Rattle.std.proofs.Math.Seq.{slice}
use Rattle.meaning.specs.Names.{fold}
use Rattle.meaning.specs.Amount.{how_many}
use Rattle.meaning.specs.Plain.{nothing, plain}
use Rattle.promises.specs.Promises.{Good}
use Rattle.together.specs.Statement.{Name, Step, looks_up, opens, creates, moves, reads, reads_sector, writes, allots, trims, kills}
use Rattle.together.specs.Statement.{Turn, one, two, Interleaving, AllBring}
use Rattle.drives.specs.Pair.{Pair, geometry, image}
use Rattle.drives.specs.ByHandle.{read_sector}
use Rattle.drives.specs.declared.DriveHandle.{DriveHandle}
use Rattle.promises_drives.specs.Statement.{IsDrive}
use Rattle.promises_drives.specs.Interleaved.{read_of, handle_at, DriveWorld, start, next, Accepted, bare}
use Rattle.promises_stale.specs.Statement.{puts, Own}

-- the bytes that a call of a list on drive k with these handles hands back: so many at the start of the buffer, or the part of the image that is told
abbrev pub handed_back : Pair → ℕ → List DriveHandle → Step → List ℕ
handed_back p k hs looks_up = []
handed_back p k hs (opens len checking code) = []
handed_back p k hs (creates f checking) = []
handed_back p k hs (moves i at) = []
handed_back p k hs (reads a i buffer) =
    let h = handle_at k hs i in let n = how_many a h.handle.len buffer in take n (read_of p h n buffer).1
handed_back p k hs (reads_sector i j) = let r = read_sector p (handle_at k hs i) j in slice r.from r.to (image p r.drive)
handed_back p k hs (writes a m i bytes) = []
handed_back p k hs (allots i j) = []
handed_back p k hs (trims i) = []
handed_back p k hs (kills i) = []

-- the first list is on the file of name a of drive k, the second on that of name b of drive l
module _ (k l : ℕ) (a b : Name) where
  abbrev pub NoneStaleOn : List ℕ → DriveWorld → List Turn → Type 0
  NoneStaleOn written w [] = Unit {0}
  NoneStaleOn written w (one c ∷ zs) =
      Own written (handed_back w.drives k w.first.handles c) × NoneStaleOn (written ++ puts (bare w.first.handles) c) (next k l a b w (one c)) zs
  NoneStaleOn written w (two c ∷ zs) = NoneStaleOn written (next k l a b w (two c)) zs

abbrev pub NothingStaleOn : Type 0
NothingStaleOn =
    (p : Pair) (k l : ℕ) → IsDrive k → IsDrive l → (a b : Name) → (k ≡ l → fold a ≢ fold b) → Good (geometry p k) (image p k)
    → plain (geometry p k) (image p k) (fold a) ≡ nothing → (xs ys : List Step) (zs : List Turn) → Interleaving xs ys zs → AllBring xs → AllBring ys
    → Accepted k l a b (start p) zs → NoneStaleOn k l a b [] (start p) zs
