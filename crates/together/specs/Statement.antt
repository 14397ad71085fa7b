-- Demand 3, as it is stated: two lists of calls, each on its own file, and one consistent disk. Any two interleavings of the lists in
-- which every call is accepted agree in what `Agree` says, at the end of this page. The proof is in Demand3.antt.
--
-- `answer` is all that this page knows of the calls, and it only names those of `meaning`, which answer as the program does: each
-- function's contract says so. Number and disk are those of the one `Call` that demand 2 speaks of too. The files are those that demand 2 speaks of, `plain`.
use Rattle.std.specs.Prelude.{ℕ, ◌≡◌, ◌≢◌, Bool, true, not, cond, List, [], ◌∷◌, ◌++◌, map, T, ltb, length, get_or, set}
use Rattle.std.proofs.Math.Seq.{slice}
use Rattle.meaning.specs.Lists.{each}
use Rattle.meaning.specs.Layout.{fits_geometry}
use Rattle.meaning.specs.Names.{fold}
use Rattle.meaning.specs.Chain.{chain, owned}
use Rattle.meaning.specs.Consistent.{consistent}
use Rattle.meaning.specs.Handles.{moved_to, no_handle}
use Rattle.meaning.specs.LookUp.{named}
use Rattle.meaning.specs.Open.{open'}
use Rattle.meaning.specs.Create.{create}
use Rattle.meaning.specs.Amount.{Amount, how_many}
use Rattle.meaning.specs.Read.{read_of, read_sector}
use Rattle.meaning.specs.Write.{write_of}
use Rattle.meaning.specs.Calls.{Call, number, leaves}
use Rattle.meaning.specs.Plain.{File, Found, found, nothing, plain, is_system}
use Rattle.promises_words.specs.Given.{AreBytes}
use Rattle.promises.specs.Promises
use Rattle.meaning.specs.declared.Geometry.{Geometry}
use Rattle.meaning.specs.declared.Handle.{Handle}
use Rattle.meaning.specs.declared.NewFile.{NewFile}
use Rattle.meaning.specs.declared.Mode.{Mode}

abbrev pub Name : Type 0
Name = List ℕ

-- 1. A list of calls on one file ----------------------------------------------------------------------------------------------

-- In a list of calls on one file each call uses a handle that the same list opened or created earlier: the first number of a call by a
-- handle is that handle's place among them, from 0. Its positions and the bytes it writes are the list's own, fixed beforehand. The name
-- is the list's, as the caller gives it, and no call repeats it; the list's file is the one under the folded name (02 §7). The geometry is
-- the same for all. So a list is of steps, and `asked` makes of each the call of `meaning` that it is. Bring back (02, §11) is not among
-- them: "Demand 3's interleavings leave this call out." What it finds hangs on what the other list has written since the kill.
pub data Step : Type 0 where
  looks_up : Step
  -- record length, whether codes are checked, the code
  opens : ℕ → Bool → ℕ → Step
  creates : NewFile → Bool → Step
  -- Between calls the caller may set the position; where it does not, the handle stays where its last call put it.
  moves : ℕ → ℕ → Step
  -- a record, or the buffer's length, into a buffer that holds these bytes
  reads : Amount → ℕ → List ℕ → Step
  reads_sector : ℕ → ℕ → Step
  -- a record, from the start of these bytes, or all of them
  writes : Amount → Mode → ℕ → List ℕ → Step
  allots : ℕ → ℕ → Step
  trims : ℕ → Step
  kills : ℕ → Step

-- what a list has by now: its handles in the order in which it opened or created them, and what its reads handed back, in their order
pub record Side : Type 0 where
  pub handles : List Handle
  pub heard : List (List ℕ)

-- the handle at that place; where the list has none, which `known` forbids, the handle of zeros
abbrev pub handle_at : List Handle → ℕ → Handle
handle_at hs i = get_or hs i no_handle

-- how many bytes a read or a write by that handle is of
abbrev pub many_by : List Handle → Amount → ℕ → List ℕ → ℕ
many_by hs a i bytes = how_many a (handle_at hs i).len bytes

-- a handle more
abbrev pub with_new : Side → Handle → Side
with_new s h = record { handles = s.handles ++ (h ∷ []); heard = s.heard }

-- the i-th handle as a call leaves it
abbrev pub with_moved : Side → ℕ → Handle → Side
with_moved s i h = record { handles = set s.handles i h; heard = s.heard }

-- some bytes more
abbrev pub hearing : Side → List ℕ → Side
hearing s bytes = record { handles = s.handles; heard = s.heard ++ (bytes ∷ []) }

-- the list has the handle that the call names
unfoldable pub known : List Handle → Step → Bool
known hs looks_up = true
known hs (opens len checking code) = true
known hs (creates f checking) = true
known hs (moves i at) = ltb i (length hs)
known hs (reads a i buffer) = ltb i (length hs)
known hs (reads_sector i k) = ltb i (length hs)
known hs (writes a m i bytes) = ltb i (length hs)
known hs (allots i k) = ltb i (length hs)
known hs (trims i) = ltb i (length hs)
known hs (kills i) = ltb i (length hs)

-- what is kept of bytes handed back from a file: of a system file none, for the directory may itself be a file
unfoldable pub kept : Found → List ℕ → List ℕ
kept nothing bytes = []
kept (found f) bytes = cond (is_system f) [] bytes

-- the call that a step asks for, with the list's name and its handle; to set a position is no call
abbrev pub asked : Name → List Handle → Step → List Call
asked n hs looks_up = Call.looks_up n ∷ []
asked n hs (opens len checking code) = Call.opens n len checking code ∷ []
asked n hs (creates f checking) = Call.creates n f checking ∷ []
asked n hs (moves i at) = []
asked n hs (reads a i buffer) = Call.reads a (handle_at hs i) buffer ∷ []
asked n hs (reads_sector i k) = Call.reads_sector (handle_at hs i) k ∷ []
asked n hs (writes a m i bytes) = Call.writes a m (handle_at hs i) bytes ∷ []
asked n hs (allots i k) = Call.allots (handle_at hs i) k ∷ []
asked n hs (trims i) = Call.trims (handle_at hs i) ∷ []
asked n hs (kills i) = Call.kills (handle_at hs i) ∷ []

-- what the list has after a step: its handles and what it heard
abbrev pub left_with : Geometry → Name → List ℕ → Side → Step → Side
left_with g n d s looks_up = s
left_with g n d s (opens len checking code) = with_new s (open' g d n len checking code).handle
left_with g n d s (creates f checking) = with_new s (create g d n f checking).0.handle
left_with g n d s (moves i at) = with_moved s i (moved_to (handle_at s.handles i) at)
left_with g n d s (reads a i buffer) =
    let r = read_of g d (handle_at s.handles i) (many_by s.handles a i buffer) buffer in
    hearing (with_moved s i r.0.handle) (kept (plain g d (fold n)) r.1)
left_with g n d s (reads_sector i k) = let r = read_sector g d (handle_at s.handles i) k in hearing s (kept (plain g d (fold n)) (slice r.from r.to d))
left_with g n d s (writes a m i bytes) = with_moved s i (write_of g d m (handle_at s.handles i) (many_by s.handles a i bytes) bytes).0.handle
left_with g n d s (allots i k) = s
left_with g n d s (trims i) = s
left_with g n d s (kills i) = s

-- the number that a step answers, and the disk and the list's side that it leaves
pub record Answered : Type 0 where
  pub number : ℕ
  pub disk : List ℕ
  pub side : Side

-- of no call: accepted, and the disk as it is
abbrev pub number_of : Geometry → List ℕ → List Call → ℕ
number_of g d [] = 0
number_of g d (c ∷ cs) = number g d c

abbrev pub leaves_all : Geometry → List ℕ → List Call → List ℕ
leaves_all g d [] = d
leaves_all g d (c ∷ cs) = leaves_all g (leaves g d c) cs

unfoldable pub answer : Geometry → Name → List ℕ → Side → Step → Answered
answer g n d s c = let asks = asked n s.handles c in record { number = number_of g d asks; disk = leaves_all g d asks; side = left_with g n d s c }

-- 2. Two lists, interleaved ---------------------------------------------------------------------------------------------------

-- a call of the first list, or of the second
pub data Turn : Type 0 where
  one : Step → Turn
  two : Step → Turn

-- the two lists, each in its own order, laid into one
pub data Interleaving : List Step → List Step → List Turn → Type 0 where
  none : Interleaving [] [] []
  left : {x : Step} {xs ys : List Step} {zs : List Turn} → Interleaving xs ys zs → Interleaving (x ∷ xs) ys (one x ∷ zs)
  right : {y : Step} {xs ys : List Step} {zs : List Turn} → Interleaving xs ys zs → Interleaving xs (y ∷ ys) (two y ∷ zs)

-- the disk, and what each list has
pub record World : Type 0 where
  pub disk : List ℕ
  pub first : Side
  pub second : Side

-- no handle is open yet
abbrev pub start : List ℕ → World
start d = record { disk = d; first = record { handles = []; heard = [] }; second = record { handles = []; heard = [] } }

-- no granule and no entry of the file of that name was taken or given back; a call takes and gives back none of another file's
pub record Quiet (g : Geometry) (n : Name) (d d' : List ℕ) : Type 0 where
  pub entries : each (chain g d') (named g d' n) ≡ each (chain g d) (named g d n)
  pub granules : each (owned g d') (named g d' n) ≡ each (owned g d) (named g d n)

-- the first list gives the name a, the second b
module _ (g : Geometry) (a b : Name) where
  abbrev pub answered : World → Turn → Answered
  answered w (one c) = answer g a w.disk w.first c
  answered w (two c) = answer g b w.disk w.second c

  -- what a turn leaves
  abbrev pub next : World → Turn → World
  next w (one c) = let r = answered w (one c) in record { disk = r.disk; first = r.side; second = w.second }
  next w (two c) = let r = answered w (two c) in record { disk = r.disk; first = w.first; second = r.side }

  abbrev pub after : World → List Turn → World
  after w [] = w
  after w (t ∷ ts) = after (next w t) ts

  -- the call names a handle that its list has, and is accepted
  abbrev pub Taken : World → Turn → Type 0
  Taken w (one c) = T (known w.first.handles c) × ((answered w (one c)).number ≡ 0)
  Taken w (two c) = T (known w.second.handles c) × ((answered w (two c)).number ≡ 0)

  -- every call is accepted
  abbrev pub Accepted : World → List Turn → Type 0
  Accepted w [] = Unit {0}
  Accepted w (t ∷ ts) = Taken w t × Accepted (next w t) ts

  -- no call takes or gives back a granule or an entry
  abbrev pub AllQuiet : World → List Turn → Type 0
  AllQuiet w [] = Unit {0}
  AllQuiet w (one c ∷ ts) = Quiet g (fold a) w.disk (next w (one c)).disk × AllQuiet (next w (one c)) ts
  AllQuiet w (two c ∷ ts) = Quiet g (fold b) w.disk (next w (two c)).disk × AllQuiet (next w (two c)) ts

-- 3. The same named files -----------------------------------------------------------------------------------------------------

-- the same attributes, sizes and granule counts and, system files apart, the same bytes
pub record Alike (f f' : File) : Type 0 where
  pub attributes : f.attributes ≡ f'.attributes
  pub size : length f.bytes ≡ length f'.bytes
  pub granules : f.granules ≡ f'.granules
  pub bytes : T (not (is_system f)) → f.bytes ≡ f'.bytes

-- under a name stands no file on either disk, or one on both and they are alike
pub data Same : Found → Found → Type 0 where
  neither : Same nothing nothing
  both : {f f' : File} → Alike f f' → Same (found f) (found f')

-- both disks hold the same named files
abbrev pub SameFiles : Geometry → List ℕ → List ℕ → Type 0
SameFiles g d d' = (n : Name) → Same (plain g d n) (plain g d' n)

-- the file under that name, if it is no system file, is as it was
abbrev pub AsItWas : Geometry → Name → List ℕ → List ℕ → Type 0
AsItWas g n d d' = (f : File) → plain g d n ≡ found f → T (not (is_system f)) → plain g d' n ≡ found f

-- 4. What is promised ---------------------------------------------------------------------------------------------------------

-- a handle, its slot apart
pub record Grip : Type 0 where
  pub name : Name
  pub at : ℕ
  pub len : ℕ
  pub level : ℕ

abbrev pub grip : Handle → Grip
grip h = record { name = h.name; at = h.at; len = h.len; level = h.level }

-- what a caller's types see to: a record to be written is of bytes, the codes of a new file have 16 bits
abbrev pub Brings : Step → Type 0
Brings c = (n : Name) (hs : List Handle) → Promises.AllBring (asked n hs c)

abbrev pub AllBring : List Step → Type 0
AllBring [] = Unit {0}
AllBring (c ∷ cs) = Brings c × AllBring cs

-- of the worlds w and w' at the end of two interleavings of xs and ys, the first of them zs, from the disk d
pub record Agree (g : Geometry) (a b : Name) (d : List ℕ) (xs ys : List Step) (zs : List Turn) (w w' : World) : Type 0 where
  -- Both disks hold the same named files with the same attributes, sizes and granule counts and, system files apart, the same bytes.
  pub files : SameFiles g w.disk w'.disk
  -- Every third file that is no system file is as it was; of a third system file all but its bytes, and no third name comes or goes.
  pub third : (n : Name) → n ≢ fold a → n ≢ fold b → AsItWas g n d w.disk × Same (plain g d n) (plain g w.disk n)
  -- If no call takes or gives back a granule or an entry, in one of the two interleavings, the images are equal byte for byte.
  pub image : AllQuiet g a b (start d) zs → w.disk ≡ w'.disk
  -- Both disks are consistent.
  pub consistent' : (consistent g w.disk ≡ true) × (consistent g w'.disk ≡ true)
  -- Each list ends with the same handles, slots apart.
  pub handles : (map grip w.first.handles ≡ map grip w'.first.handles) × (map grip w.second.handles ≡ map grip w'.second.handles)
  -- Each list was handed back the same bytes by its reads, if it is about bytes, as every image is.
  pub heard : AreBytes d → AllBring xs → AllBring ys → (w.first.heard ≡ w'.first.heard) × (w.second.heard ≡ w'.second.heard)

-- Two lists of calls on two files whose names differ, one consistent disk, and any two interleavings in which every call is accepted.
-- "'Different names' in the third demand means different after folding" (02 §7).
--
-- That neither file is a system file is no premise: it is not needed. The calls that write refuse a system file, so in an accepted list
-- on one there is none of them, and `Same` and `kept` leave a system file's bytes out by themselves.
-- Deliberately not promised, since 01 does not give it: slots, look up's count, the place of a sector, the order of the listing; that an
-- order of the calls is accepted because another one is; that the handle of a killed file stays dead.
abbrev pub Demand3 : Type 0
Demand3 =
    (g : Geometry) (a b : Name) → fold a ≢ fold b → (d : List ℕ) → fits_geometry g d ≡ true → consistent g d ≡ true
    → (xs ys : List Step) (zs zs' : List Turn) → Interleaving xs ys zs → Interleaving xs ys zs'
    → Accepted g a b (start d) zs → Accepted g a b (start d) zs'
    → Agree g a b d xs ys zs (after g a b (start d) zs) (after g a b (start d) zs')
