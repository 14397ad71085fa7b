-- What one entry says (01, Directory layout): flags, codes, size, runs, marker and link; and how it is made to say another thing.
use Rattle.std.specs.Prelude.{ℕ, zero, suc, ◌+◌, ◌-◌, ◌*◌, ◌/◌, ◌%◌, Bool, not, cond, ◌&&◌, List, map, eqb}
use Rattle.meaning.specs.Lists.{count, each}
use Rattle.meaning.specs.Bits.{bit}
use Rattle.meaning.specs.Layout.{field, set_field, round_up}
use Rattle.meaning.specs.declared.Geometry.{Geometry}

-- A pair by itself: block, then first unit (high three bits) and further granules (low five).
abbrev pub pair_unit : ℕ → ℕ
pair_unit pair_byte = pair_byte / 32

-- A run is 1 to 32 granules with consecutive numbers and may cross blocks.
abbrev pub pair_length : ℕ → ℕ
pair_length pair_byte = 1 + pair_byte % 32

abbrev pub pair_start : ℕ → ℕ → ℕ → ℕ
pair_start units block pair_byte = block * units + pair_unit pair_byte

-- Sector count n, end byte e. If e = 0 it is 256n, else 256(n − 1) + e with n at least 1. (Where n = 0 and e is not, no disk is
-- consistent: the number is of no account.)
abbrev pub size_from : ℕ → ℕ → ℕ
size_from n e = cond (eqb e 0) (256 * n) (256 * (n - 1) + e)

-- and back: the sector count and the end byte of a size
abbrev pub sectors_for : ℕ → ℕ
sectors_for size = round_up size 256

abbrev pub end_byte_for : ℕ → ℕ
end_byte_for size = size % 256

-- 02: year − 1980 high, month low
abbrev pub date_byte : ℕ → ℕ → ℕ
date_byte year month = year * 16 + month

module _ (g : Geometry) (d : List ℕ) where
  -- 00 flags: bit 7 extension, 6 system, 5 zero, 4 in use, 3 invisible, 2 to 0 access level
  abbrev pub in_use : ℕ → Bool
  in_use s = bit 4 (field g d s 0)

  abbrev pub extension : ℕ → Bool
  extension s = bit 7 (field g d s 0)

  abbrev pub system : ℕ → Bool
  system s = bit 6 (field g d s 0)

  -- an in-use primary entry: a file starts here
  abbrev pub in_use_primary : ℕ → Bool
  in_use_primary s = in_use s && not (extension s)

  abbrev pub access_level : ℕ → ℕ
  access_level s = field g d s 0 % 8

  -- 01: bit 7 F (keep space), bit 6 E (no growth); bit 5 is B (worked on), set by every write
  abbrev pub keeps_space : ℕ → Bool
  keeps_space s = bit 7 (field g d s 1)

  abbrev pub no_growth : ℕ → Bool
  no_growth s = bit 6 (field g d s 1)

  -- 05 to 0C name; 0D to 0F type
  unfoldable pub name_of : ℕ → List ℕ
  name_of s = map (field g d s) (count 5 11)

  -- Two-byte numbers are low byte first.
  abbrev pub word : ℕ → ℕ → ℕ
  word s k = field g d s k + 256 * field g d s (k + 1)

  abbrev pub set_word : ℕ → ℕ → ℕ → List ℕ
  set_word s k n = set_field g (set_field g d s k (n % 256)) s (k + 1) (n / 256)

  -- 10, 11 main code; 12, 13 worker code; 14, 15 sector count; 03 end byte
  abbrev pub main_code : ℕ → ℕ
  main_code s = word s 0x10

  abbrev pub worker_code : ℕ → ℕ
  worker_code s = word s 0x12

  abbrev pub sector_count : ℕ → ℕ
  sector_count s = word s 0x14

  abbrev pub end_byte : ℕ → ℕ
  end_byte s = field g d s 3

  unfoldable pub size_of : ℕ → ℕ
  size_of s = size_from (sector_count s) (end_byte s)

  -- 16 to 1D four pairs: block, and first unit with further granules in one byte
  abbrev pub block : ℕ → ℕ → ℕ
  block s k = field g d s (0x16 + 2 * k)

  abbrev pub pair_byte : ℕ → ℕ → ℕ
  pair_byte s k = field g d s (0x17 + 2 * k)

  abbrev pub set_pair_byte : ℕ → ℕ → ℕ → List ℕ
  set_pair_byte s k b = set_field g d s (0x17 + 2 * k) b

  abbrev pub set_pair : ℕ → ℕ → ℕ → ℕ → List ℕ
  set_pair s k a b = set_field g (set_field g d s (0x16 + 2 * k) a) s (0x17 + 2 * k) b

  abbrev pub first_unit : ℕ → ℕ → ℕ
  first_unit s k = pair_unit (pair_byte s k)

  abbrev pub run_length : ℕ → ℕ → ℕ
  run_length s k = pair_length (pair_byte s k)

  abbrev pub run_start : ℕ → ℕ → ℕ
  run_start s k = pair_start g.units (block s k) (pair_byte s k)

  -- Block FFH ends the list.
  unfoldable pub runs_from : ℕ → ℕ → ℕ → ℕ
  runs_from s zero k = k
  runs_from s (suc left) k = cond (eqb (block s k) 0xff) k (runs_from s left (k + 1))

  -- how many runs an entry holds
  unfoldable pub runs : ℕ → ℕ
  runs s = runs_from s 4 0

  abbrev pub run_granules : ℕ → ℕ → List ℕ
  run_granules s k = count (run_start s k) (run_length s k)

  -- the granules of an entry's runs, in order
  unfoldable pub entry_granules : ℕ → List ℕ
  entry_granules s = each (run_granules s) (count 0 (runs s))

  -- 1E marker; 1F link. Marker FFH: no extension. FEH: the link is its slot.
  abbrev pub marker : ℕ → ℕ
  marker s = field g d s 0x1e

  abbrev pub link : ℕ → ℕ
  link s = field g d s 0x1f

  abbrev pub set_link : ℕ → ℕ → ℕ → List ℕ
  set_link s m l = set_field g (set_field g d s 0x1e m) s 0x1f l
