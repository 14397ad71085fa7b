-- Demand 3 of a host's bytes: two lists of exported calls, each on its own file by slices of 19 bytes and more that the same list had opened or created,
-- positions set in bytes 4 to 7 in between. It is stated by `together`'s own words (Statement.antt there), of the handles that the slices hold.
use Rattle.std.specs.Prelude.{ℕ, ◌%◌, ◌≡◌, ◌≢◌, Bool, true, List, [], ◌∷◌, ◌++◌, map, T, get_or, set, replicate}
use Rattle.std.proofs.Math.Seq.{slice}
use Rattle.meaning.specs.Layout.{fits_geometry}
use Rattle.meaning.specs.Names.{fold}
use Rattle.meaning.specs.Consistent.{consistent}
use Rattle.meaning.specs.Amount.{Amount}
use Rattle.meaning.specs.Plain.{plain}
use Rattle.meaning.specs.declared.Geometry.{Geometry}
use Rattle.meaning.specs.declared.NewFile.{NewFile}
use Rattle.together.specs.Statement as together
use Rattle.together.specs.Statement.{Name, Step, Turn, Side, World, Interleaving, Agree, known, kept}
use Rattle.genie_codec.specs.Codec.{handle_bytes, handle_of}
use Rattle.genie_codec.specs.Words.{mode_of}
use Rattle.promises_handles.specs.HandleBytes.{set_position, positions}
use Rattle.promises_exports.specs.Host.{HostCall, left_by}

-- 1. A list of exported calls on one file --------------------------------------------------------------------------------------------------------

-- as `together`'s steps; the first number of a call by a handle is the place of its slice among those of the list, from 0
pub data HostStep : Type 0 where
  looks_up : HostStep
  -- record length, whether codes are checked, the code; the slice that the handle goes to
  opens : ℕ → Bool → ℕ → List ℕ → HostStep
  creates : NewFile → Bool → List ℕ → HostStep
  -- the host sets the position, in the handle's bytes
  moves : ℕ → ℕ → HostStep
  reads : Amount → ℕ → List ℕ → HostStep
  reads_sector : ℕ → ℕ → HostStep
  -- whether it is sequential
  writes : Amount → Bool → ℕ → List ℕ → HostStep
  allots : ℕ → ℕ → HostStep
  trims : ℕ → HostStep
  kills : ℕ → HostStep

-- the slices of its handles, and the bytes that its reads handed back
pub record HostSide : Type 0 where
  pub handles : List (List ℕ)
  pub heard : List (List ℕ)

-- the slice at that place
abbrev pub slice_at : List (List ℕ) → ℕ → List ℕ
slice_at bs i = get_or bs i (replicate handle_bytes 0)

-- the exported call that a step makes; to set a position is none
abbrev pub called : Name → List (List ℕ) → HostStep → List HostCall
called n bs looks_up = HostCall.looks_up n ∷ []
called n bs (opens len checking code b) = HostCall.opens n len checking code b ∷ []
called n bs (creates f checking b) = HostCall.creates n f checking b ∷ []
called n bs (moves i at) = []
called n bs (reads a i x) = HostCall.reads a (slice_at bs i) x ∷ []
called n bs (reads_sector i k) = HostCall.reads_sector (slice_at bs i) k ∷ []
called n bs (writes a m i x) = HostCall.writes a m (slice_at bs i) x ∷ []
called n bs (allots i k) = HostCall.allots (slice_at bs i) k ∷ []
called n bs (trims i) = HostCall.trims (slice_at bs i) ∷ []
called n bs (kills i) = HostCall.kills (slice_at bs i) ∷ []

-- of no call: accepted, and the image as it is
abbrev pub number_of : Geometry → List ℕ → List HostCall → ℕ
number_of g d [] = 0
number_of g d (c ∷ cs) = (left_by g d c).number

abbrev pub image_of : Geometry → List ℕ → List HostCall → List ℕ
image_of g d [] = d
image_of g d (c ∷ cs) = image_of g (left_by g d c).image cs

abbrev pub with_new : HostSide → List ℕ → HostSide
with_new s b = record { handles = s.handles ++ (b ∷ []); heard = s.heard }

abbrev pub with_slice : HostSide → ℕ → List ℕ → HostSide
with_slice s i b = record { handles = set s.handles i b; heard = s.heard }

abbrev pub hearing : HostSide → List ℕ → HostSide
hearing s bytes = record { handles = s.handles; heard = s.heard ++ (bytes ∷ []) }

-- what the list has after a step. What is kept of bytes handed back is what `together` keeps: of a system file none.
abbrev pub left_with : Geometry → Name → List ℕ → HostSide → HostStep → HostSide
left_with g n d s looks_up = s
left_with g n d s (opens len checking code b) = with_new s (left_by g d (HostCall.opens n len checking code b)).handle
left_with g n d s (creates f checking b) = with_new s (left_by g d (HostCall.creates n f checking b)).handle
left_with g n d s (moves i at) = with_slice s i (set_position (slice_at s.handles i) at)
left_with g n d s (reads a i x) =
    let l = left_by g d (HostCall.reads a (slice_at s.handles i) x) in
    hearing (with_slice s i l.handle) (kept (plain g d (fold n)) l.buffer)
left_with g n d s (reads_sector i k) =
    let l = left_by g d (HostCall.reads_sector (slice_at s.handles i) k) in
    hearing s (kept (plain g d (fold n)) (slice (get_or l.told 1 0) (get_or l.told 2 0) d))
left_with g n d s (writes a m i x) = with_slice s i (left_by g d (HostCall.writes a m (slice_at s.handles i) x)).handle
left_with g n d s (allots i k) = s
left_with g n d s (trims i) = s
left_with g n d s (kills i) = s

pub record HostAnswered : Type 0 where
  pub number : ℕ
  pub disk : List ℕ
  pub side : HostSide

abbrev pub answer : Geometry → Name → List ℕ → HostSide → HostStep → HostAnswered
answer g n d s c = let cs = called n s.handles c in record { number = number_of g d cs; disk = image_of g d cs; side = left_with g n d s c }

-- 2. The same list as `together` has it -----------------------------------------------------------------------------------------------------------

-- four bytes hold the position's last four, and no more
abbrev pub step_of : HostStep → Step
step_of looks_up = Step.looks_up
step_of (opens len checking code b) = Step.opens len checking code
step_of (creates f checking b) = Step.creates f checking
step_of (moves i at) = Step.moves i (at % positions)
step_of (reads a i x) = Step.reads a i x
step_of (reads_sector i k) = Step.reads_sector i k
step_of (writes a m i x) = Step.writes a (mode_of m) i x
step_of (allots i k) = Step.allots i k
step_of (trims i) = Step.trims i
step_of (kills i) = Step.kills i

-- the handles that its slices hold
abbrev pub side_of : HostSide → Side
side_of s = record { handles = map handle_of s.handles; heard = s.heard }

-- 3. Two lists, interleaved ------------------------------------------------------------------------------------------------------------------------

pub data HostTurn : Type 0 where
  one : HostStep → HostTurn
  two : HostStep → HostTurn

abbrev pub turn_of : HostTurn → Turn
turn_of (one c) = Turn.one (step_of c)
turn_of (two c) = Turn.two (step_of c)

pub record HostWorld : Type 0 where
  pub disk : List ℕ
  pub first : HostSide
  pub second : HostSide

abbrev pub world_of : HostWorld → World
world_of w = record { disk = w.disk; first = side_of w.first; second = side_of w.second }

abbrev pub start : List ℕ → HostWorld
start d = record { disk = d; first = record { handles = []; heard = [] }; second = record { handles = []; heard = [] } }

module _ (g : Geometry) (a b : Name) where
  abbrev pub answered : HostWorld → HostTurn → HostAnswered
  answered w (one c) = answer g a w.disk w.first c
  answered w (two c) = answer g b w.disk w.second c

  abbrev pub next : HostWorld → HostTurn → HostWorld
  next w (one c) = let r = answered w (one c) in record { disk = r.disk; first = r.side; second = w.second }
  next w (two c) = let r = answered w (two c) in record { disk = r.disk; first = w.first; second = r.side }

  abbrev pub after : HostWorld → List HostTurn → HostWorld
  after w [] = w
  after w (t ∷ ts) = after (next w t) ts

  -- the call names a slice that its list has, and is accepted
  abbrev pub Taken : HostWorld → HostTurn → Type 0
  Taken w (one c) = T (known (side_of w.first).handles (step_of c)) × ((answered w (one c)).number ≡ 0)
  Taken w (two c) = T (known (side_of w.second).handles (step_of c)) × ((answered w (two c)).number ≡ 0)

  abbrev pub Accepted : HostWorld → List HostTurn → Type 0
  Accepted w [] = Unit {0}
  Accepted w (t ∷ ts) = Taken w t × Accepted (next w t) ts

-- 4. What is promised ----------------------------------------------------------------------------------------------------------------------------------

-- A list of exported calls runs as `together`'s list does, and leaves the same disk, handles and bytes heard.
pub record RunsAs (g : Geometry) (a b : Name) (d : List ℕ) (zs : List HostTurn) : Type 0 where
  pub accepted : together.Accepted g a b (together.start d) (map turn_of zs)
  pub world : together.after g a b (together.start d) (map turn_of zs) ≡ world_of (after g a b (start d) zs)

abbrev pub EveryRun : Type 0
EveryRun = (g : Geometry) (a b : Name) (d : List ℕ) (zs : List HostTurn) → Accepted g a b (start d) zs → RunsAs g a b d zs

-- Hence demand 3: any two interleavings in which every exported call is accepted agree. Each list is in its own order in both; which slice an opened
-- handle goes to may differ between them.
abbrev pub HostDemand3 : Type 0
HostDemand3 =
    (g : Geometry) (a b : Name) → fold a ≢ fold b → (d : List ℕ) → fits_geometry g d ≡ true → consistent g d ≡ true
    → (xs ys : List Step) (zs zs' : List HostTurn) → Interleaving xs ys (map turn_of zs) → Interleaving xs ys (map turn_of zs')
    → Accepted g a b (start d) zs → Accepted g a b (start d) zs'
    → Agree g a b d xs ys (map turn_of zs) (world_of (after g a b (start d) zs)) (world_of (after g a b (start d) zs'))
