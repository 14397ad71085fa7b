-- Traces read and packed, computed: the place of each fault, and what is none.
use Rattle.std.specs.Prelude.{◌≡◌, refl, false, List, [], ◌∷◌, ◌++◌, ℕ, ◌+◌, take, drop, replicate}
use Rattle.play_trace.specs.Bits.{bits_of, number, bits, field, bytes_of}
use Rattle.play_trace.specs.Steps.{Field, fields, width_of, start_of, uses, allowed, good, first_bad, call_of}
use Rattle.play_trace.specs.Reading.{Trace, Reading, reads, bad_at, fields_from, names_from, numbers_at, read_calls, read_bits, read_trace, well_with}
use Rattle.play_trace.specs.Reading.{fault_at, tell}
use Rattle.play_trace.specs.Packing.{field_bits, steps_bits, names_bits, pack_bits, pack}
use Rattle.play_trace.specs.declared.CreateWith.{CreateWith}
use Rattle.play_trace.specs.declared.WriteWith.{WriteWith}
use Rattle.play_trace.specs.declared.Call.{Call}
use Rattle.play_trace.specs.declared.Call.TheVariants.{Create, SequentialWrite, RandomWrite, Allot, Trim, Kill, Read}
use Rattle.play_trace.specs.declared.Step.{Step}

-- every definition of a trace that is shut, opened by one name
unfoldable pub seen : ℕ
unfolding bits_of number bits field bytes_of uses allowed good first_bad call_of fields_from names_from numbers_at read_calls read_bits read_trace tell
    field_bits
    steps_bits names_bits pack_bits pack
seen = 0

-- The fields of a call stand one behind the other, and fill its 56 bits.
abbrev edges : ℕ → List Field → List ℕ
edges p [] = p ∷ []
edges p (f ∷ fs) = p ∷ edges (p + width_of f) fs

abbrev starts : List Field → List ℕ
starts [] = []
starts (f ∷ fs) = start_of f ∷ starts fs

one-behind-the-other : edges 0 fields ≡ starts fields ++ (56 ∷ [])
one-behind-the-other = refl

-- the name A
abbrev pub a : List ℕ
a = 0x41 ∷ replicate 10 0x20

-- one name
abbrev pub one : List ℕ
one = 0x01 ∷ a

abbrev pub end : List ℕ
end = replicate 7 0

-- create A with length 256; write the fill byte 41H three times
abbrev pub creating : List ℕ
creating = 0x20 ∷ 0x00 ∷ 0x00 ∷ 0x00 ∷ 0x80 ∷ 0x00 ∷ 0x00 ∷ []

abbrev pub writing : List ℕ
writing = 0x40 ∷ 0x00 ∷ 0x00 ∷ 0x00 ∷ 0x01 ∷ 0xa0 ∷ 0x80 ∷ []

abbrev session : Trace
session = record {
  names = a ∷ [];
  steps = record { file = 0; call = Create (record { length = 256 }) }
      ∷ record { file = 0; call = SequentialWrite (record { position = 0; length = 3; fill = 0x41 }) }
      ∷ [];
}

abbrev pub whole : List ℕ
whole = one ++ (creating ++ (writing ++ end))

reads_whole : read_trace whole ≡ reads session
unfolding seen
reads_whole = refl

packs-whole : pack session ≡ whole
unfolding seen
packs-whole = refl

cut-by-seven : read_trace (take 26 whole) ≡ bad_at 208
unfolding seen
cut-by-seven = refl

cut-by-one : read_trace (take 32 whole) ≡ bad_at 256
unfolding seen
cut-by-one = refl

-- later bytes are not read
later-bytes : read_trace (whole ++ (0xff ∷ 0xff ∷ [])) ≡ reads session
unfolding seen
later-bytes = refl

-- no trace at all breaks off at bit 0; a number of names of 0, or above 32, is bad at bit 0, whether names follow or not
nothing-there : read_trace [] ≡ bad_at 0
unfolding seen
nothing-there = refl

no_names : read_trace (0x00 ∷ end) ≡ bad_at 0
unfolding seen
no_names = refl

too-many-names : read_trace (0x21 ∷ []) ≡ bad_at 0
unfolding seen
too-many-names = refl

-- a number of names that is good, and no name; two names, of which one is there
no-name-there : read_trace (0x01 ∷ []) ≡ bad_at 8
unfolding seen
no-name-there = refl

a-name-missing : read_trace (0x02 ∷ a) ≡ bad_at 96
unfolding seen
a-name-missing = refl

-- One name, and a first call that is bad, with the end mark behind it.

-- trim of file 1 with all fields set: the file number; of file 0: the position
abbrev ones : List ℕ
ones = replicate 6 0xff

trim-other-file : read_trace (one ++ (0xa1 ∷ (ones ++ end))) ≡ bad_at 99
unfolding seen
trim-other-file = refl

trim-with-fields : read_trace (one ++ (0xa0 ∷ (ones ++ end))) ≡ bad_at 104
unfolding seen
trim-with-fields = refl

-- allot with a length
allot-with-length : read_trace (one ++ (0x80 ∷ 0x00 ∷ 0x00 ∷ 0x05 ∷ 0x80 ∷ 0x00 ∷ 0x00 ∷ end)) ≡ bad_at 128
unfolding seen
allot-with-length = refl

-- read with a fill byte
read-with-fill : read_trace (one ++ (0xe0 ∷ 0x00 ∷ 0x00 ∷ 0x00 ∷ 0x80 ∷ 0x20 ∷ 0x80 ∷ end)) ≡ bad_at 137
unfolding seen
read-with-fill = refl

-- write with something in the zero field
write-with-zero-field : read_trace (one ++ (0x60 ∷ 0x00 ∷ 0x00 ∷ 0x00 ∷ 0x80 ∷ 0x20 ∷ 0x81 ∷ end)) ≡ bad_at 145
unfolding seen
write-with-zero-field = refl

-- create with a position
create-with-position : read_trace (one ++ (0x20 ∷ 0x00 ∷ 0x00 ∷ 0x01 ∷ 0x80 ∷ 0x00 ∷ 0x00 ∷ end)) ≡ bad_at 104
unfolding seen
create-with-position = refl

-- an end mark with a fill byte; with a file number
end-mark-with-fill : read_trace (one ++ (0x00 ∷ 0x00 ∷ 0x00 ∷ 0x00 ∷ 0x00 ∷ 0x20 ∷ 0x80 ∷ [])) ≡ bad_at 137
unfolding seen
end-mark-with-fill = refl

end-mark-with-file : read_trace (one ++ (0x01 ∷ replicate 6 0)) ≡ bad_at 99
unfolding seen
end-mark-with-file = refl

-- trim of file 9, cut to 48 bits: its fields are not judged; whole, with no end mark behind it: the file number
trim-cut : read_trace (one ++ (0xa9 ∷ replicate 5 0)) ≡ bad_at 144
unfolding seen
trim-cut = refl

trim-no-end : read_trace (one ++ (0xa9 ∷ replicate 6 0)) ≡ bad_at 99
unfolding seen
trim-no-end = refl

-- the second call's fault, at its own place
second_call : read_trace (one ++ (creating ++ (0xa1 ∷ end))) ≡ bad_at 155
unfolding seen
second_call = refl

-- what the check tells: no call and no more; two calls; a fault at byte 12, bit 3
tells-none : tell (read_trace (one ++ end)) ≡ well_with 0
unfolding seen
tells-none = refl

tells-two : tell (read_trace whole) ≡ well_with 2
unfolding seen
tells-two = refl

tells-fault : tell (read_trace (one ++ (0xa1 ∷ (ones ++ end)))) ≡ record { well = false; calls = 0; byte = 12; bit = 3 }
unfolding seen
tells-fault = refl

-- Names A, B and eleven question marks; lengths 0 and 511, a name that is not well formed, the highest position: none is a bad field.
abbrev pub step : ℕ → Call → Step
step k c = record { file = k; call = c }

abbrev mixed : Trace
mixed = record {
  names = a ∷ (0x42 ∷ replicate 10 0x20) ∷ replicate 11 0x3f ∷ [];
  steps = step 0 (Read (record { position = 0; length = 256 }))
      ∷ step 0 (Create (record { length = 0 }))
      ∷ step 1 (Create (record { length = 511 }))
      ∷ step 2 (Create (record { length = 256 }))
      ∷ step 2 (Read (record { position = 0; length = 0 }))
      ∷ step 2 Kill
      ∷ step 1 Trim
      ∷ step 1 (Allot (record { sector = 7679 }))
      ∷ step 0 (Create (record { length = 256 }))
      ∷ step 0 (RandomWrite (record { position = 16777215; length = 256; fill = 0xff }))
      ∷ step 0 (Read (record { position = 1966080; length = 1 }))
      ∷ [];
}

reads-mixed : read_trace (pack mixed) ≡ reads mixed
unfolding seen
reads-mixed = refl

-- its second call: operation 1, file 0, length 0
second-of-mixed : take 7 (drop 41 (pack mixed)) ≡ 0x20 ∷ replicate 6 0
unfolding seen
second-of-mixed = refl
