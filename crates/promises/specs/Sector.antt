-- Reads: bytes and a sector are the plain file's bytes
use Rattle.std.specs.Prelude.{◌≡◌, ◌≢◌, Bool, List, [], ◌∷◌, ℕ, suc, ◌+◌, ◌-◌, ◌*◌, ◌/◌, ◌%◌, ◌≤◌, ◌<◌, min, length, get_or, take, drop, eqb, leb, ltb}
use Rattle.std.proofs.Common.{ap, ap₂, sym, ◌∙◌, subst, arith, length-take, length-drop, get_or-take, get_or-drop, ext_get_or, nltb→le, eqb→eq}
use Rattle.std.proofs.Math.Seq.{slice, length-slice}
use Rattle.std.proofs.Math.Dec.{not_T, nleb→lt}
use Rattle.meaning.specs.Layout.{byte, entry_at, sector_numbers, highest}
use Rattle.lists.specs.Sizes
use Rattle.meaning.specs.Entries.{size_of, sector_count, end_byte}
use Rattle.meaning.specs.Chain.{place}
use Rattle.meaning.specs.Lists.{all}
use Rattle.meaning.specs.Refusals.{not_for_reading}
use Rattle.meaning.specs.Handles.{moved_to, in_range}
use Rattle.meaning.specs.Read.{read_of, read_sector, sector_bytes}
use Rattle.meaning.specs.Plain.{file_at}
use Rattle.promises_words.specs.Given.{AreBytes}
use Rattle.meaning.specs.declared.Geometry.{Geometry}
use Rattle.meaning.specs.declared.Handle.{Handle}
use Rattle.lists.specs.Members
use Rattle.laws.specs.Facts.{Sound, IsFile}
use Rattle.laws.specs.Places
use Rattle.laws.specs.Change
use Rattle.laws.specs.Named
use Rattle.laws.specs.Others
use Rattle.laws.specs.Store
use Rattle.laws.specs.Bytes
use Rattle.laws.specs.Tally
use Rattle.laws.specs.Passed.{passed}
use Rattle.laws.specs.Words.{words}
use Rattle.promises.specs.Promises.{Reads, ReadsSector, InRange}
use Rattle.promises.specs.Refusing
use Rattle.promises.specs.Passing
use Rattle.promises.specs.Passing.{Has}
use Rattle.promises.specs.Read

-- byte j of the plain file is the image's byte at its place
pub byte_at : (g : Geometry) (d : List ℕ) (p j : ℕ) → j < size_of g d p → get_or (file_at g d p).bytes j 0 ≡ byte d (place g d p j)
unfolding file_at words
byte_at g d p j h = Members.map-count (λ j. byte d (place g d p j)) 0 (size_of g d p) j h ∙ ap (λ (x : ℕ). byte d (place g d p x)) (omega arith)

-- the file of a live handle
called : (g : Geometry) (d : List ℕ) (h : Handle) → Has g d h → Rattle.meaning.specs.Plain.plain g d h.name ≡ Rattle.meaning.specs.Plain.found
    (file_at g d h.slot)
called g d h w = Named.plain-is g d w.sound h.slot h.name (Passing.live-file g d h w.live) w.live.name'

pub read_has : (g : Geometry) (d : List ℕ) (h : Handle) (n : ℕ) (b : List ℕ) → (read_of g d h n b).0.refusal.number ≡ 0
    → Has g d h × (h.at + n ≤ size_of g d h.slot) × InRange g h × (h.level ≤ 5)
unfolding read_of
read_has g d h n b e =
    let tests : List Bool = leb n (highest g) ∷ leb n (length b) ∷ [] in
    let w = Passing.handle-passed g d h (all (in_range g h ∷ tests))
    (not_for_reading h ∷ (10, ltb (size_of g d h.slot) (h.at + n)) ∷ []) e in
    let p₅ = passed 6 _ _ (omega arith) w.2 in let p₆ = passed 10 _ _ (omega arith) p₅.1 in (
      w.0,
      nltb→le (size_of g d h.slot) (h.at + n) (not_T (ltb (size_of g d h.slot) (h.at + n)) p₆.0),
      (Refusing.range-iff g h).0 (Passing.first_of (in_range g h) tests w.1),
      nltb→le 5 h.level (not_T (ltb 5 h.level) p₅.0),
    )

pub read-serves : (g : Geometry) (d : List ℕ) (h : Handle) (n : ℕ) (b : List ℕ) → (read_of g d h n b).0.refusal.number ≡ 0
    → Reads g d h n b (read_of g d h n b).0.handle (read_of g d h n b).1
read-serves g d h n b e =
    let w = read_has g d h n b e in
    record {
      file = file_at g d h.slot;
      called = called g d h w.0;
      inside = rw (Others.file-length g d h.slot) w.1;
      buffer = Read.read-means g d h n b e;
      handle' = moved e;
      ranged =
          let top = Tally.size-le g d w.0.sound (Places.fits g d w.0.fits) h.slot (Passing.live-file g d h w.0.live) in
          subst (InRange g) (sym (moved e)) (Passing.further g h (h.at + n) w.2 (omega (arith, w.1)));
    }
  where
    moved : (read_of g d h n b).0.refusal.number ≡ 0 → (read_of g d h n b).0.handle ≡ moved_to h (h.at + n)
    moved e = unfold read_of in rw e

-- the bytes of one sector lie one after the other
sector-places : (g : Geometry) (d : List ℕ) (p k j : ℕ) → j < 256 → place g d p (256 * k + j) ≡ place g d p (256 * k) + j
unfolding place
sector-places g d p k j h =
    rw (Sizes.sector-width g k j h, Sizes.sector-rest g k j h, Sizes.sector-start g k, Sizes.sector-begin g k) (omega arith)

-- how many bytes of sector k are the file's
record SectorHolds (size k n : ℕ) : Type 0 where
  some : 1 ≤ n
  most : n ≤ 256
  end : 256 * k + n ≤ size
  least : n ≡ min 256 (size - 256 * k)

module _ (g : Geometry) (d : List ℕ) (b : AreBytes d) (c : Sound g d) (fit : Places.Fits g d) (p : ℕ) (f : IsFile g d p) (k : ℕ) (in' : k < sector_count g d p)
  where
    abbrev n : ℕ
    n = sector_bytes g d p k

    sector-holds : SectorHolds (size_of g d p) k (sector_bytes g d p k)
    unfolding words
    sector-holds =
        let e = (Bytes.bytes_small d b).below (entry_at g p + 3) in
        go (Members.decide (eqb (end_byte g d p) 0)) (Members.decide (eqb (suc k) (sector_count g d p)))
      where
        low : end_byte g d p < 256
        low = (Bytes.bytes_small d b).below (entry_at g p + 3)

        go : Members.Test (eqb (end_byte g d p) 0) → Members.Test (eqb (suc k) (sector_count g d p)) → SectorHolds (size_of g d p) k (sector_bytes g d p k)
        go (Members.Test.holds t) (Members.Test.holds u) =
            let x = eqb→eq (suc k) (sector_count g d p) u in
            rw (Members.T_true {b = eqb (suc k) (sector_count g d p)} u, Members.T_true {b = eqb (end_byte g d p) 0} t)
            (record { some = omega arith; most = omega arith; end = omega arith; least = omega arith })
        go (Members.Test.holds t) (Members.Test.fails u) =
            let x : suc k ≢ sector_count g d p = λ q. u (Members.eq-T q) in
            rw (Members.no_false {b = eqb (suc k) (sector_count g d p)} u, Members.T_true {b = eqb (end_byte g d p) 0} t)
            (record { some = omega arith; most = omega arith; end = omega arith; least = omega arith })
        go (Members.Test.fails t) (Members.Test.holds u) =
            let x = eqb→eq (suc k) (sector_count g d p) u in let y : end_byte g d p ≢ 0 = λ q. t (Members.eq-T q) in let z = low in
            rw (Members.T_true {b = eqb (suc k) (sector_count g d p)} u, Members.no_false {b = eqb (end_byte g d p) 0} t)
            (record { some = omega arith; most = omega arith; end = omega arith; least = omega arith })
        go (Members.Test.fails t) (Members.Test.fails u) =
            let x : suc k ≢ sector_count g d p = λ q. u (Members.eq-T q) in let y : end_byte g d p ≢ 0 = λ q. t (Members.eq-T q) in
            rw (Members.no_false {b = eqb (suc k) (sector_count g d p)} u, Members.no_false {b = eqb (end_byte g d p) 0} t)
            (record { some = omega arith; most = omega arith; end = omega arith; least = omega arith })

    abbrev from : ℕ
    from = place g d p (256 * k)

    sector-inside : from + n ≤ length d
    sector-inside =
        let s = sector-holds in
        let last : place g d p (256 * k + (n - 1)) < length d = Store.place-lt g d c fit p f (256 * k + (n - 1))
        (omega (arith, (Change.filed-at g d c p f).fits)) in
        omega (arith, sector-places g d p k (n - 1) (omega arith))

    sector-part : slice from (from + n) d ≡ take 256 (drop (256 * k) (file_at g d p).bytes)
    sector-part = ext_get_or 0 (slice from (from + n) d) (take 256 (drop (256 * k) (file_at g d p).bytes)) (left ∙ sym right)
        (λ j h. point j (omega (arith, left)))
      where
        left : length (slice from (from + n) d) ≡ n
        left = length-slice from (from + n) d sector-inside ∙ omega arith

        right : length (take 256 (drop (256 * k) (file_at g d p).bytes)) ≡ n
        right = length-take 256 (drop (256 * k) (file_at g d p).bytes) ∙ ap (min 256)
            (length-drop (256 * k) (file_at g d p).bytes ∙ ap (λ (x : ℕ). x - 256 * k) (Others.file-length g d p)) ∙ sym sector-holds.least

        point : (j : ℕ) → j < n → get_or (slice from (from + n) d) j 0 ≡ get_or (take 256 (drop (256 * k) (file_at g d p).bytes)) j 0
        point j h =
            let s = sector-holds in
            get_or-drop from (take (from + n) d) j 0 ∙ get_or-take (from + n) d (from + j) 0 (omega arith) ∙ ap (byte d)
            (sym (sector-places g d p k j (omega arith)))
            ∙ sym (get_or-take 256 (drop (256 * k) (file_at g d p).bytes) j 0 (omega arith) ∙ get_or-drop (256 * k) (file_at g d p).bytes j 0 ∙ byte_at g d p
            (256 * k + j) (omega arith))

-- a sector read that is accepted: what it passed, and the part it hands back
record Handed (g : Geometry) (d : List ℕ) (h : Handle) (k : ℕ) : Type 0 where
  has : Has g d h
  below : k < sector_count g d h.slot
  from' : (read_sector g d h k).from ≡ place g d h.slot (256 * k)
  to' : (read_sector g d h k).to ≡ place g d h.slot (256 * k) + sector_bytes g d h.slot k

handed : (g : Geometry) (d : List ℕ) (h : Handle) (k : ℕ) → (read_sector g d h k).refusal.number ≡ 0 → Handed g d h k
unfolding read_sector
handed g d h k e =
    let w = Passing.handle-passed g d h (all (in_range g h ∷ ltb k (sector_numbers g) ∷ [])) (not_for_reading h ∷ (10, leb (sector_count g d h.slot) k) ∷ []) e
    in
    let p₅ = passed 6 _ _ (omega arith) w.2 in let p₆ = passed 10 _ _ (omega arith) p₅.1 in
    record {
      has = w.0;
      below = nleb→lt (sector_count g d h.slot) k (not_T (leb (sector_count g d h.slot) k) p₆.0);
      from' = rw e;
      to' = rw e;
    }

pub sector-serves : (g : Geometry) (d : List ℕ) → AreBytes d → (h : Handle) (k : ℕ) → (read_sector g d h k).refusal.number ≡ 0
    → ReadsSector g d h k (read_sector g d h k)
sector-serves g d b h k e =
    let w = handed g d h k e in
    let p = h.slot in let c = w.has.sound in let f = Passing.live-file g d h w.has.live in let fit = Places.fits g d w.has.fits in
    let s = sector-holds g d b c fit p f k w.below in
    record {
      file = file_at g d p;
      called = called g d h w.has;
      some = omega (arith, w.from', w.to', s.some);
      most = omega (arith, w.from', w.to', s.most);
      inside = rw w.to' (sector-inside g d b c fit p f k w.below);
      part = ap₂ (λ (x y : ℕ). slice x y d) w.from' w.to' ∙ sector-part g d b c fit p f k w.below;
    }
