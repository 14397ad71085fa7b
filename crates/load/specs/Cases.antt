-- Load files, computed: the next record from a place on, and the whole file cut.
use Rattle.std.specs.Prelude.{ℕ, ◌≡◌, refl, List, [], ◌∷◌, ◌++◌, replicate}
use Rattle.meaning.specs.Lists.{all, any, first}
use Rattle.load.specs.Records
use Rattle.load.specs.Records.{record_from, is_code, data_bytes, follows, bad_count, position_of, item_at, past, told_at}
use Rattle.load.specs.Cut.{Pieces, starts, breaks, ending, onto, cut_whole, cut_behind, cut_one, cut_from, cut}
use Rattle.load.specs.declared.NextRecord.{NextRecord}

-- all definitions of load files, opened by one name
unfoldable pub opened : ℕ
unfolding all any first is_code data_bytes follows bad_count position_of item_at past told_at record_from onto cut_whole cut_behind cut_one cut_from cut
opened = 0

-- a data record is told: its address, where its bytes stand and how many, the place behind it
abbrev data' : ℕ → ℕ → ℕ → ℕ → NextRecord
data' address from count next =
    record { number = 0; position = 0; kind = 1; address = address; from = from; count = count; next = next }

-- a start address is told, and a number, to who asked at place i
abbrev start : ℕ → ℕ → ℕ → NextRecord
start address from i = record { number = 0; position = 0; kind = 2; address = address; from = from; count = 0; next = i }

abbrev broken : ℕ → ℕ → ℕ → ℕ → NextRecord
broken number position from i =
    record { number = number; position = position; kind = 0; address = 0; from = from; count = 0; next = i }

-- a comment ABC; three bytes for 6000H; none for 7000H; the start address 6001H; two bytes behind it
abbrev program : List ℕ
program =
    0x05 ∷ 0x03 ∷ 0x41 ∷ 0x42 ∷ 0x43 ∷ 0x01 ∷ 0x05 ∷ 0x00 ∷ 0x60 ∷ 0x11 ∷ 0x22 ∷ 0x33 ∷ 0x01 ∷ 0x02 ∷ 0x00 ∷ 0x70
    ∷ 0x02 ∷ 0x02 ∷ 0x01 ∷ 0x60 ∷ 0xff ∷ 0xff ∷ []

-- the place is behind a data record, and stays where a start address is told
first-record : record_from program 0 ≡ data' 0x6000 9 3 12
unfolding opened
first-record = refl

second-record : record_from program 12 ≡ data' 0x7000 16 0 16
unfolding opened
second-record = refl

start-address : record_from program 16 ≡ start 0x6001 20 16
unfolding opened
start-address = refl

program-cut : cut program
    ≡ record {
      records = record { address = 0x6000; bytes = 0x11 ∷ 0x22 ∷ 0x33 ∷ [] } ∷ record { address = 0x7000; bytes = [] } ∷ [];
      end = starts 0x6001;
    }
unfolding opened
program-cut = refl

-- 32: before a start address
empty : record_from [] 0 ≡ broken 32 0 4 0
unfolding opened
empty = refl

comment-alone : record_from (0x05 ∷ 0x00 ∷ []) 0 ≡ broken 32 2 6 0
unfolding opened
comment-alone = refl

-- 31 behind a comment: the code's byte
unknown : record_from (0x05 ∷ 0x00 ∷ 0x09 ∷ []) 0 ≡ broken 31 2 6 0
unfolding opened
unknown = refl

-- 33: the count's byte, though the file ends behind it
bad-count : record_from (0x05 ∷ 0x00 ∷ 0x02 ∷ 0x03 ∷ 0x00 ∷ []) 0 ≡ broken 33 3 6 0
unfolding opened
bad-count = refl

bad-count-ends : record_from (0x02 ∷ 0x03 ∷ []) 0 ≡ broken 33 1 4 0
unfolding opened
bad-count-ends = refl

-- 32: the count is not there; the address is not; a data byte is not
no-count : record_from (0x02 ∷ []) 0 ≡ broken 32 1 4 0
unfolding opened
no-count = refl

half-address : record_from (0x02 ∷ 0x02 ∷ 0x00 ∷ []) 0 ≡ broken 32 3 4 0
unfolding opened
half-address = refl

no-data : record_from (0x01 ∷ 0x03 ∷ 0x00 ∷ 0x60 ∷ []) 0 ≡ broken 32 4 4 0
unfolding opened
no-data = refl

-- a record is handed out before the end is told
then-ends : cut (0x01 ∷ 0x03 ∷ 0x00 ∷ 0x60 ∷ 0x00 ∷ [])
    ≡ record { records = record { address = 0x6000; bytes = 0x00 ∷ [] } ∷ []; end = breaks 32 5 }
unfolding opened
then-ends = refl

-- counts 0 and 1 mean 254 and 255 data bytes
count-zero-short : record_from (0x01 ∷ 0x00 ∷ replicate 255 0x00) 0 ≡ broken 32 257 4 0
unfolding opened
count-zero-short = refl

count-zero : record_from (0x01 ∷ 0x00 ∷ replicate 256 0x00) 0 ≡ data' 0 4 254 258
unfolding opened
count-zero = refl

count-one : record_from (0x01 ∷ 0x01 ∷ replicate 257 0x00) 0 ≡ data' 0 4 255 259
unfolding opened
count-one = refl

-- behind the size: 32
behind : record_from program 30 ≡ broken 32 22 34 30
unfolding opened
behind = refl
