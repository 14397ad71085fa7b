-- What a call does to its list's file and to its list's side, where slots and places play no part. That the calls do this is proved in
-- Effects.antt; since it hangs on the list alone, the interleavings agree.
use Rattle.std.specs.Prelude.{ℕ, ◌+◌, ◌*◌, ◌%◌, ◌≡◌, Bool, true, not, cond, List, [], ◌∷◌, ◌++◌, map, eqb, get_or, set, take}
use Rattle.meaning.specs.Lists.{any}
use Rattle.meaning.specs.Layout.{fits_geometry}
use Rattle.meaning.specs.Consistent.{consistent}
use Rattle.meaning.specs.Handles.{no_handle}
use Rattle.meaning.specs.Amount.{how_many}
use Rattle.meaning.specs.Plain.{File, Found, found, nothing, plain, born_as, written_to, allotted_to, trimmed}
use Rattle.promises_words.specs.Untouched.{hush}
use Rattle.meaning.specs.declared.Geometry.{Geometry}
use Rattle.meaning.specs.declared.Handle.{Handle}
use Rattle.meaning.specs.declared.NewFile.{NewFile}
use Rattle.together.specs.Statement.{Name, Step, looks_up, opens, creates, moves, reads, reads_sector, writes, allots, trims, kills, Grip, grip}

-- a list's file, a system file's bytes apart, and its handles, slots apart
pub record FileState : Type 0 where
  pub file : Found
  pub grips : List Grip

-- what stands under a name, a system file's bytes apart
unfoldable pub stands : Geometry → List ℕ → Name → Found
stands g d n = hush (plain g d n)

abbrev pub state_of : Geometry → Name → List ℕ → List Handle → FileState
state_of g n d hs = record { file = stands g d n; grips = map grip hs }

abbrev pub grip_at : FileState → ℕ → Grip
grip_at o i = get_or o.grips i (grip no_handle)

abbrev pub at_place : Grip → ℕ → Grip
at_place k at = record { name = k.name; at = at; len = k.len; level = k.level }

abbrev pub placed : FileState → ℕ → ℕ → List Grip
placed o i at = set o.grips i (at_place (grip_at o i) at)

unfoldable pub changed : (File → File) → Found → Found
changed u nothing = nothing
changed u (found f) = hush (found (u f))

unfoldable pub born : NewFile → Found → Found
born f nothing = hush (found (born_as f))
born f (found x) = found x

-- open's rule, by the file's attributes: 10 and 11 are the main code, the low three bits of 00 the level; 0 for a new file
unfoldable pub level_of : Geometry → Bool → ℕ → Found → ℕ
level_of g checking code nothing = 0
level_of g checking code (found f) =
    let main = get_or f.attributes 4 0 + 256 * get_or f.attributes 5 0 in
    cond (any (not checking ∷ eqb main g.noPassword ∷ eqb code main ∷ [])) 0 (get_or f.attributes 0 0 % 8)

abbrev pub opened : FileState → Name → ℕ → ℕ → List Grip
opened o n len level = o.grips ++ (record { name = n; at = 0; len = len; level = level } ∷ [])

unfoldable pub effect : Geometry → Name → Step → FileState → FileState
effect g n looks_up o = o
effect g n (opens len checking code) o =
    record { file = o.file; grips = opened o n len (level_of g checking code o.file) }
effect g n (creates f checking) o =
    record { file = born f o.file; grips = opened o n f.len (level_of g checking f.main o.file) }
effect g n (moves i at) o = record { file = o.file; grips = placed o i at }
effect g n (reads a i buffer) o =
    let k = grip_at o i in record { file = o.file; grips = placed o i (k.at + how_many a k.len buffer) }
effect g n (reads_sector i k) o = o
effect g n (writes a m i bytes) o =
    let k = grip_at o i in let many = how_many a k.len bytes in
    record { file = changed (written_to g m k.at (take many bytes)) o.file; grips = placed o i (k.at + many) }
effect g n (allots i k) o = record { file = changed (allotted_to g k) o.file; grips = o.grips }
effect g n (trims i) o = record { file = changed (trimmed g) o.file; grips = o.grips }
effect g n (kills i) o = record { file = nothing; grips = o.grips }

-- the calls of a list, one after another
abbrev pub effects : Geometry → Name → List Step → FileState → FileState
effects g n [] o = o
effects g n (c ∷ cs) o = effects g n cs (effect g n c o)

-- every handle of the list carries the list's name
unfoldable pub Held : Name → List Handle → Type 0
Held n [] = Unit {0}
Held n (h ∷ hs) = (h.name ≡ n) × Held n hs

-- one consistent disk, under the geometry that all calls state
unfoldable pub Good : Geometry → List ℕ → Type 0
Good g d = (fits_geometry g d ≡ true) × (consistent g d ≡ true)
