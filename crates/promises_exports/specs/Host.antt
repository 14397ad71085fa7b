-- A call as a host makes it (host/include/genie.h): handles are bytes, and every slice is one that the host lends. `left_by` is what the exported function
-- leaves, its number first; the functions of this crate's src/lib.rt show of each export that it is so. Then what is promised of it: demands 1 and 2, of
-- the host's bytes.
use Rattle.std.specs.Prelude.{ℕ, ◌≤◌, ◌≡◌, ◌≢◌, Bool, true, false, cond, List, [], ◌∷◌, ◌++◌, ltb, length, get_or, take, drop, replicate}
use Rattle.meaning.specs.Amount.{Amount, one_record, whole_buffer, how_many}
use Rattle.meaning.specs.Lists.{In}
use Rattle.meaning.specs.Refusal.{placed}
use Rattle.meaning.specs.Refusals.{fault_numbers}
use Rattle.meaning.specs.Calls.{Call}
use Rattle.meaning.specs.declared.Geometry.{Geometry}
use Rattle.meaning.specs.declared.NewFile.{NewFile}
use Rattle.promises.specs.Said.{Said}
use Rattle.promises.specs.Promises.{Brings, Good, Stays, Promised, Table, Exactly, table, disk_cases}
use Rattle.promises_fault.specs.Statement.{FaultIs}
use Rattle.genie_codec.specs.Codec.{handle_bytes, name_bytes, handle_of}
use Rattle.genie_codec.specs.Words.{mode_of}
use Rattle.genie.specs.Exports as exports
use Rattle.genie.specs.Exports.{exported_check, exported_look_up, exported_open, exported_create, exported_read_record, exported_read_bytes}
use Rattle.genie.specs.Exports.{exported_read_sector}
use Rattle.genie.specs.Exports.{exported_write_record, exported_write_bytes, exported_allot, exported_trim, exported_kill, exported_list}
use Rattle.genie.specs.Exports.{exported_count, exported_free}

-- 1. What a host asks, and what it has afterwards ---------------------------------------------------------------------------------------------

-- a call with all that the host lends; `handle` is the slice that holds a handle or that an opened one goes to
pub data HostCall : Type 0 where
  checks : HostCall
  looks_up : (name : List ℕ) → HostCall
  opens : (name : List ℕ) (len : ℕ) (checking : Bool) (code : ℕ) (handle : List ℕ) → HostCall
  creates : (name : List ℕ) (f : NewFile) (checking : Bool) (handle : List ℕ) → HostCall
  reads : (a : Amount) (handle buffer : List ℕ) → HostCall
  reads_sector : (handle : List ℕ) (k : ℕ) → HostCall
  writes : (a : Amount) (sequential : Bool) (handle buffer : List ℕ) → HostCall
  allots : (handle : List ℕ) (k : ℕ) → HostCall
  trims : (handle : List ℕ) → HostCall
  kills : (handle : List ℕ) → HostCall
  -- the slice is that which the name goes to
  lists : (i : ℕ) (name : List ℕ) → HostCall
  counts : HostCall
  measures : HostCall

-- what the host has after it: the number, the image, the slice of the handle and the other slice as they are then ([] where none is lent), and the other
-- numbers that go out, the slot of a fault first (free space, which tells none, apart)
pub record LeftToHost : Type 0 where
  pub number : ℕ
  pub image : List ℕ
  pub handle : List ℕ
  pub buffer : List ℕ
  pub told : List ℕ

abbrev pub left : ℕ → List ℕ → List ℕ → List ℕ → List ℕ → LeftToHost
left n d b x ts = record { number = n; image = d; handle = b; buffer = x; told = ts }

-- the slice of the handle as it was lent, and the other
abbrev pub lent_handle : HostCall → List ℕ
lent_handle checks = []
lent_handle (looks_up n) = []
lent_handle (opens n len checking code b) = b
lent_handle (creates n f checking b) = b
lent_handle (reads a b x) = b
lent_handle (reads_sector b k) = b
lent_handle (writes a m b x) = b
lent_handle (allots b k) = b
lent_handle (trims b) = b
lent_handle (kills b) = b
lent_handle (lists i b) = []
lent_handle counts = []
lent_handle measures = []

abbrev pub lent_buffer : HostCall → List ℕ
lent_buffer checks = []
lent_buffer (looks_up n) = []
lent_buffer (opens n len checking code b) = []
lent_buffer (creates n f checking b) = []
lent_buffer (reads a b x) = x
lent_buffer (reads_sector b k) = []
lent_buffer (writes a m b x) = x
lent_buffer (allots b k) = []
lent_buffer (trims b) = []
lent_buffer (kills b) = []
lent_buffer (lists i b) = b
lent_buffer counts = []
lent_buffer measures = []

-- read record or read bytes, write record or write bytes
abbrev pub read_by : Amount → Geometry → List ℕ → List ℕ → List ℕ → ℕ × ℕ × List ℕ × List ℕ
read_by one_record g d b x = exported_read_record g d b x
read_by whole_buffer g d b x = exported_read_bytes g d b x

abbrev pub write_by : Amount → Geometry → List ℕ → List ℕ → Bool → List ℕ → ℕ × ℕ × List ℕ × List ℕ
write_by one_record g d b m x = exported_write_record g d b m x
write_by whole_buffer g d b m x = exported_write_bytes g d b m x

-- what the exported function leaves, as its contract has it
abbrev pub left_by : Geometry → List ℕ → HostCall → LeftToHost
left_by g d checks = let r = exported_check g d in left r.0 d [] [] (r.1 ∷ [])
left_by g d (looks_up n) = let r = exported_look_up g d n in left r.0 d [] [] (r.1 ∷ r.2 ∷ r.3 ∷ r.4 ∷ [])
left_by g d (opens n len checking code b) = let r = exported_open g d n len checking code b in left r.0 d r.3 [] (r.1 ∷ r.2 ∷ [])
left_by g d (creates n f checking b) = let r = exported_create g d n f checking b in left r.0 r.5 r.4 [] (r.1 ∷ r.2 ∷ r.3 ∷ [])
left_by g d (reads a b x) = let r = read_by a g d b x in left r.0 d r.2 r.3 (r.1 ∷ [])
left_by g d (reads_sector b k) = let r = exported_read_sector g d b k in left r.0 d b [] (r.1 ∷ r.2 ∷ r.3 ∷ [])
left_by g d (writes a m b x) = let r = write_by a g d b m x in left r.0 r.3 r.2 x (r.1 ∷ [])
left_by g d (allots b k) = let r = exported_allot g d b k in left r.0 r.2 b [] (r.1 ∷ [])
left_by g d (trims b) = let r = exported_trim g d b in left r.0 r.2 b [] (r.1 ∷ [])
left_by g d (kills b) = let r = exported_kill g d b in left r.0 r.2 b [] (r.1 ∷ [])
left_by g d (lists i b) = let r = exported_list g d i b in left r.0 d [] r.5 (r.1 ∷ r.2 ∷ r.3 ∷ r.4 ∷ [])
left_by g d counts = let r = exported_count g d in left r.0 d [] [] (r.1 ∷ r.2 ∷ r.3 ∷ [])
left_by g d measures = let r = exported_free g d in left r.0 d [] [] (r.1 ∷ r.2 ∷ [])

-- 2. The call of demand 2 that it is --------------------------------------------------------------------------------------------------------------

-- with the handle that the slice holds
abbrev pub call_of : HostCall → Call
call_of checks = Call.checks
call_of (looks_up n) = Call.looks_up n
call_of (opens n len checking code b) = Call.opens n len checking code
call_of (creates n f checking b) = Call.creates n f checking
call_of (reads a b x) = Call.reads a (handle_of b) x
call_of (reads_sector b k) = Call.reads_sector (handle_of b) k
call_of (writes a m b x) = Call.writes a (mode_of m) (handle_of b) x
call_of (allots b k) = Call.allots (handle_of b) k
call_of (trims b) = Call.trims (handle_of b)
call_of (kills b) = Call.kills (handle_of b)
call_of (lists i b) = Call.lists i
call_of counts = Call.counts
call_of measures = Call.measures

-- what is said of that call (promises: Said), as it goes out to the host
abbrev pub goes_out : (c : HostCall) → Said (call_of c) → LeftToHost
goes_out checks s = left s.number' s.image [] [] (s.answer.at ∷ [])
goes_out (looks_up n) s = let r = exports.looks s.answer in left s.number' s.image [] [] (r.1 ∷ r.2 ∷ r.3 ∷ r.4 ∷ [])
goes_out (opens n len checking code b) s = let r = exports.opens b s.answer in left s.number' s.image r.3 [] (r.1 ∷ r.2 ∷ [])
goes_out (creates n f checking b) s = let r = exports.creates b (s.answer, s.image) in left s.number' s.image r.4 [] (r.1 ∷ r.2 ∷ r.3 ∷ [])
goes_out (reads a b x) s = let r = exports.moves b s.answer in left s.number' s.image r.2 r.3 (r.1 ∷ [])
goes_out (reads_sector b k) s = let r = exports.lies s.answer in left s.number' s.image b [] (r.1 ∷ r.2 ∷ r.3 ∷ [])
goes_out (writes a m b x) s = let r = exports.moves b (s.answer, s.image) in left s.number' s.image r.2 x (r.1 ∷ [])
goes_out (allots b k) s = left s.number' s.image b [] (s.answer.refusal.at ∷ [])
goes_out (trims b) s = left s.number' s.image b [] (s.answer.refusal.at ∷ [])
goes_out (kills b) s = left s.number' s.image b [] (s.answer.refusal.at ∷ [])
goes_out (lists i b) s = let r = exports.tells b s.answer in left s.number' s.image [] r.5 (r.1 ∷ r.2 ∷ r.3 ∷ r.4 ∷ [])
goes_out counts s = let r = exports.numbers s.answer in left s.number' s.image [] [] (r.1 ∷ r.2 ∷ r.3 ∷ [])
goes_out measures s = let r = exports.spaces s.answer in left s.number' s.image [] [] (r.1 ∷ r.2 ∷ [])

-- "A handle under 19 bytes is 12; so is the listing's outgoing name buffer under 11 bytes": the slice is too short
abbrev pub too_short : HostCall → Bool
too_short checks = false
too_short (looks_up n) = false
too_short (opens n len checking code b) = ltb (length b) handle_bytes
too_short (creates n f checking b) = ltb (length b) handle_bytes
too_short (reads a b x) = ltb (length b) handle_bytes
too_short (reads_sector b k) = ltb (length b) handle_bytes
too_short (writes a m b x) = ltb (length b) handle_bytes
too_short (allots b k) = ltb (length b) handle_bytes
too_short (trims b) = ltb (length b) handle_bytes
too_short (kills b) = ltb (length b) handle_bytes
too_short (lists i b) = ltb (length b) name_bytes
too_short counts = false
too_short measures = false

-- 3. What is promised of it -------------------------------------------------------------------------------------------------------------------------

-- the slice of the handle after a refusal: as it stood; of a refused open or create 19 zeros, and behind them as it stood
abbrev pub zeroed : List ℕ → List ℕ
zeroed b = cond (ltb (length b) handle_bytes) b (replicate handle_bytes 0 ++ drop handle_bytes b)

abbrev pub handle_stood : HostCall → List ℕ
handle_stood checks = []
handle_stood (looks_up n) = []
handle_stood (opens n len checking code b) = zeroed b
handle_stood (creates n f checking b) = zeroed b
handle_stood (reads a b x) = b
handle_stood (reads_sector b k) = b
handle_stood (writes a m b x) = b
handle_stood (allots b k) = b
handle_stood (trims b) = b
handle_stood (kills b) = b
handle_stood (lists i b) = []
handle_stood counts = []
handle_stood measures = []

-- demand 1: "a refusal .. leaves image, buffer and handle as they stood"
pub record AsStoodForHost (d : List ℕ) (c : HostCall) (l : LeftToHost) : Type 0 where
  pub image : l.image ≡ d
  pub handle : l.handle ≡ handle_stood c
  pub buffer : l.buffer ≡ lent_buffer c

-- the table of a slice that is too short: 1 and the faults first, then 12
abbrev pub table_if : Bool → Geometry → List ℕ → Call → Table
table_if true g d c = disk_cases g d ((12, Unit {0}) ∷ [])
table_if false g d c = table g d c

abbrev pub table_for : Geometry → List ℕ → HostCall → Table
table_for g d c = table_if (too_short c) g d (call_of c)

-- of a host's call that left l, whoever serves it
pub record HostPromised (g : Geometry) (d : List ℕ) (c : HostCall) (l : LeftToHost) : Type 0 where
  -- each number exactly in its case, where no earlier one is; 0 in none
  pub exactly : Exactly l.number (table_for g d c)
  -- under any other than 0 every lent byte is as it stood
  pub refuses : l.number ≢ 0 → AsStoodForHost d c l
  -- accepted or refused, the disk stays good
  pub stays : Good g d → Brings (call_of c) → Stays g d l.image
  -- what goes out is said of the call of demand 2 with the handle that the bytes hold, and keeps what is promised of it
  pub said : too_short c ≡ false → (s : Said (call_of c)) × Promised g d (call_of c) s × (l ≡ goes_out c s)

-- of an exported function's: all that goes out is fixed as well
pub record HostPromise (g : Geometry) (d : List ℕ) (c : HostCall) (l : LeftToHost) : Type 0 where
  pub is : l ≡ left_by g d c
  pub promised : HostPromised g d c l
  -- with a fault's number goes its slot (02 §2)
  pub fault : In l.number fault_numbers → FaultIs g d (placed l.number (get_or l.told 0 0))

abbrev pub EveryHostCall : Type 0
EveryHostCall = (g : Geometry) (d : List ℕ) (c : HostCall) → HostPromise g d c (left_by g d c)

-- 4. Every state reached ------------------------------------------------------------------------------------------------------------------------------

abbrev pub AllBring : List HostCall → Type 0
AllBring [] = Unit {0}
AllBring (c ∷ cs) = Brings (call_of c) × AllBring cs

-- each call is promised on the image that those before it left; whatever handles the host lends, set or moved by it or not
abbrev pub Along : Geometry → List ℕ → List ℕ → List HostCall → Type 0
Along g d₀ d [] = Stays g d₀ d
Along g d₀ d (c ∷ cs) = Stays g d₀ d × HostPromise g d c (left_by g d c) × Along g d₀ (left_by g d c).image cs

abbrev pub EveryHostState : Type 0
EveryHostState = (g : Geometry) (d : List ℕ) → Good g d → (cs : List HostCall) → AllBring cs → Along g d d cs

-- 5. Read back -----------------------------------------------------------------------------------------------------------------------------------------

-- After an accepted write of n bytes, by the bytes of a handle as they were lent to it, a read of as many by the same bytes, into a slice that holds
-- them, is accepted on the image left, and its buffer is what was written and then as it stood.
pub record HostReadsBack (g : Geometry) (d : List ℕ) (a : Amount) (m : Bool) (b x x' : List ℕ) (n : ℕ) : Type 0 where
  pub accepted : (left_by g (left_by g d (writes a m b x)).image (reads a b x')).number ≡ 0
  pub bytes : (left_by g (left_by g d (writes a m b x)).image (reads a b x')).buffer ≡ take n x ++ drop n x'

abbrev pub EveryHostWrite : Type 0
EveryHostWrite =
    (g : Geometry) (d : List ℕ) (a : Amount) (m : Bool) (b x x' : List ℕ) → (left_by g d (writes a m b x)).number ≡ 0
    → let n = how_many a (handle_of b).len x in n ≤ length x' → how_many a (handle_of b).len x' ≡ n → HostReadsBack g d a m b x x' n
