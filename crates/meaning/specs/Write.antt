-- Write record, sequential and random (01, Calls); write bytes, which is write record with the buffer's own length in the record length's place.
use Rattle.std.specs.Prelude.{ℕ, ◌+◌, ◌-◌, max, Bool, cond, List, [], ◌∷◌, leb, length, replicate, take, set}
use Rattle.meaning.specs.Lists.{all}
use Rattle.meaning.specs.Bits.{with_bit}
use Rattle.meaning.specs.Layout
use Rattle.meaning.specs.Entries
use Rattle.meaning.specs.Chain
use Rattle.meaning.specs.Refusals
use Rattle.meaning.specs.Handles
use Rattle.meaning.specs.Growth
use Rattle.meaning.specs.declared.Geometry.{Geometry}
use Rattle.meaning.specs.declared.Handle.{Handle}
use Rattle.meaning.specs.declared.Answer.{Answer}
use Rattle.meaning.specs.declared.Mode.{Mode}
use Rattle.meaning.specs.declared.Mode.TheVariants.{Sequential, Random}

-- the bytes bs from byte i of a file on, whose places f tells
unfoldable pub store : (ℕ → ℕ) → List ℕ → ℕ → List ℕ → List ℕ
store f d i [] = d
store f d i (b ∷ bs) = store f (set d (f i) b) (i + 1) bs

-- Sequential: size becomes position + length, even if smaller. Random: the larger of both.
unfoldable pub size_after : Mode → ℕ → ℕ → ℕ
size_after Sequential old end = end
size_after Random old end = max old end

-- The directory's end of file is written with each write: end byte and sector count. B is set.
abbrev pub with_size : Geometry → List ℕ → ℕ → ℕ → List ℕ
with_size g d s size =
    let ended = Layout.set_field g d s 3 (Entries.end_byte_for size) in
    Layout.set_field g (Entries.set_word g ended s 0x14 (Entries.sectors_for size)) s 1 (with_bit 5 (Layout.field g d s 1))

module _ (g : Geometry) (d : List ℕ) where
  -- A write of n bytes takes exactly what the file lacks of ⌈new size / bytes of a granule⌉ granules (01: ⌈new size/1280⌉).
  abbrev pub to_write : Mode → Handle → ℕ → ℕ
  to_write m h n = Growth.lacking g d h.slot (Layout.granules_for g (size_after m (Entries.size_of g d h.slot) (h.at + n)))

  -- 12 also where position + length is over the highest position (01: 1,966,080) or the buffer shorter than the length; `room` is the
  -- buffer's length
  abbrev pub write_refusals : Mode → Handle → ℕ → ℕ → List (ℕ × Bool)
  write_refusals m h n room =
      Refusals.handle_refusals g d h (all (Handles.in_range g h ∷ leb (h.at + n) (Layout.highest g) ∷ leb n room ∷ []))
      (Refusals.protected g d 4 h ∷ Refusals.cannot_grow g d h.slot (to_write m h n))

  -- A write of n bytes, from the buffer's start: the file grows; bytes between the old size and the position become zero; the bytes; the
  -- size and B. The position advances.
  unfoldable pub write_of : Mode → Handle → ℕ → List ℕ → Answer × List ℕ
  write_of m h n b =
      let s = h.slot in let old = Entries.size_of g d s in let end = h.at + n in
      let no = Refusals.first (write_refusals m h n (length b)) in
      let d₁ = Growth.with_granules g d s (to_write m h n) in
      let f = Chain.place g d₁ s in
      let d₂ = store f d₁ old (replicate (h.at - old) 0) in
      let d₃ = store f d₂ h.at (take n b) in (
        record { refusal = Refusals.refusal g d no; handle = cond (Refusals.accepted no) (Handles.moved_to h end) h },
        cond (Refusals.accepted no) (with_size g d₃ s (size_after m old end)) d,
      )

  -- write record: as many bytes as the handle's record length
  abbrev pub write_record : Mode → Handle → List ℕ → Answer × List ℕ
  write_record m h b = write_of m h h.len b

  -- write bytes: as many as the buffer holds. One of none is a write too: the size is set, and B.
  abbrev pub write_bytes : Mode → Handle → List ℕ → Answer × List ℕ
  write_bytes m h b = write_of m h (length b) b
