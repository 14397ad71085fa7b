-- Granules are dropped one at a time, the last one first (01, Trim).
use Rattle.std.specs.Prelude.{ℕ, ◌-◌, cond, ◌&&◌, List, ltb, eqb, set}
use Rattle.meaning.specs.Layout
use Rattle.meaning.specs.Entries
use Rattle.meaning.specs.Chain.{last_pair}
use Rattle.meaning.specs.Growth.{after}
use Rattle.meaning.specs.declared.Geometry.{Geometry}

-- An emptied extension loses bit 4 (90H becomes 80H), its HIT byte becomes 0, its marker and link and those of the entry before it FFH.
unfoldable pub unhooked : Geometry → List ℕ → ℕ → ℕ → List ℕ
unhooked g d e before =
    let cleared = set (Layout.set_field g d e 0 0x80) (Layout.hit_at g e) 0 in
    Entries.set_link g (Entries.set_link g cleared e 0xff 0xff) before 0xff 0xff

-- one granule less of the file at slot p: the last. Emptied pairs become FFH FFH. (The file has a run: nothing is dropped of a file that has
-- none.)
unfoldable pub drop_one : Geometry → ℕ → List ℕ → List ℕ
drop_one g p d =
    let w = last_pair g p d in let e = w.0 in let k = w.1 in
    let shorter = Entries.set_pair_byte g d e k (Entries.pair_byte g d e k - 1) in
    let emptied = Entries.set_pair g d e k 0xff 0xff in
    Layout.free_granule g
    (cond (ltb 1 (Entries.run_length g d e k)) shorter
    (cond (Entries.extension g d e && eqb k 0) (unhooked g emptied e (Layout.field g d e 1)) emptied))
    (after g p d - 1)
