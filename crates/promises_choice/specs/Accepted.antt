-- An accepted write, part by part: the disk grown, and then bytes and size stored in it.
use Rattle.std.specs.Prelude.{◌≡◌, Bool, ◌&&◌, List, [], ◌∷◌, ℕ, ◌+◌, ◌-◌, ◌*◌, ◌≤◌, length, take, replicate, T, leb}
use Rattle.std.proofs.Common.{ap, sym, ◌∙◌, subst, arith, length-append, length-take, leb→le}
use Rattle.meaning.specs.Lists.{all}
use Rattle.meaning.specs.Layout.{granule_bytes, granules_for, highest}
use Rattle.meaning.specs.Entries.{size_of}
use Rattle.meaning.specs.Chain.{owned, place}
use Rattle.meaning.specs.Growth.{with_granules, lacking}
use Rattle.meaning.specs.Refusals.{first, cannot_grow}
use Rattle.meaning.specs.Handles.{in_range}
use Rattle.meaning.specs.Write.{store, with_size, write_of, size_after, to_write}
use Rattle.meaning.specs.declared.Geometry.{Geometry}
use Rattle.meaning.specs.declared.Handle.{Handle}
use Rattle.meaning.specs.declared.Mode.{Mode}
use Rattle.lists.specs.Members
use Rattle.lists.specs.Sizes
use Rattle.laws.specs.Passed
use Rattle.laws.specs.Rewrite
use Rattle.laws.specs.Words.{words}
use Rattle.promises.specs.Grow
use Rattle.promises.specs.Grow.{Grew}
use Rattle.promises.specs.Write

-- bytes r at a position, on the disk d that is large enough, and the gap before them; then the size
abbrev pub stored : Geometry → List ℕ → ℕ → ℕ → List ℕ → ℕ → List ℕ
stored g d p at r size =
    with_size g (store (place g d p) (store (place g d p) d (size_of g d p) (replicate (at - size_of g d p) 0)) at r) p size

pub record WriteParts (g : Geometry) (d : List ℕ) (m : Mode) (h : Handle) (n : ℕ) (b : List ℕ) : Type 0 where
  pub holds : Passed.Holds g d h
  pub may : first (cannot_grow g d h.slot (to_write g d m h n)) ≡ 0
  pub grew : Grew g d (with_granules g d h.slot (to_write g d m h n)) h.slot (to_write g d m h n)
  pub same_size : size_of g (with_granules g d h.slot (to_write g d m h n)) h.slot ≡ size_of g d h.slot
  pub long : length (take n b) ≡ n
  pub fit : size_after m (size_of g d h.slot) (h.at + n) ≤ granule_bytes g * length (owned g (with_granules g d h.slot (to_write g d m h n)) h.slot)
  pub end : h.at + length (take n b) ≤ granule_bytes g * length (owned g (with_granules g d h.slot (to_write g d m h n)) h.slot)
  pub image : (write_of g d m h n b).1
      ≡ stored g (with_granules g d h.slot (to_write g d m h n)) h.slot h.at (take n b) (size_after m (size_of g d h.slot) (h.at + n))

pub accepted-write : (g : Geometry) (d : List ℕ) (m : Mode) (h : Handle) (n : ℕ) (b : List ℕ) → (write_of g d m h n b).0.refusal.number ≡ 0
    → WriteParts g d m h n b
unfolding write_of words
accepted-write g d m h n b e =
    let p = h.slot in
    let r = take n b in
    let size = size_after m (size_of g d p) (h.at + n) in
    let more = to_write g d m h n in
    let w = Passed.holds g d h _ 4 (cannot_grow g d p more) e in
    let p₂ = Passed.disk-passed g d _ e in
    let p₃ = Passed.passed 12 _ _ (omega arith) p₂.1 in
    let in_reach : Bool = all (leb (h.at + n) (highest g) ∷ leb n (length b) ∷ []) in
    let range : T (in_range g h && in_reach) = Passed.yes-T (in_range g h && in_reach) p₃.0 in
    let short = leb→le n (length b) (Members.all-second (leb (h.at + n) (highest g)) (leb n (length b)) (Members.and_r (in_range g h) in_reach range)) in
    let long : length r ≡ n = length-take n b ∙ omega arith in
    let d₁ = with_granules g d p more in
    let x : Grew g d d₁ p more = Grow.larger-grew g d h more w.0 w.1 in
    let same : size_of g d₁ p ≡ size_of g d p = rw (x.low 3 (omega arith), x.low 0x14 (omega arith), x.low 0x15 (omega arith)) in
    let many : length (owned g d₁ p) ≡ length (owned g d p) + more =
    ap length x.owned' ∙ length-append (owned g d p) x.new ∙ ap (λ (y : ℕ). length (owned g d p) + y) x.many in
    let fit : size ≤ granule_bytes g * length (owned g d₁ p) =
    Sizes.round-fits (Sizes.bytes_pos g) size (length (owned g d₁ p)) (omega (arith, many)) in
    let image : ℕ → List ℕ = λ o. with_size g (store (place g d₁ p) (store (place g d₁ p) d₁ o (replicate (h.at - o) 0)) h.at r) p size in
    record {
      holds = w.0;
      may = w.1;
      grew = x;
      same_size = same;
      long = long;
      fit = fit;
      end = omega (arith, fit, long, Rewrite.after-end m (size_of g d p) (h.at + n));
      image = rw e (ap image (sym same));
    }

-- only bytes of the file's granules and its size are rewritten
pub rewrites : (g : Geometry) (d : List ℕ) (m : Mode) (h : Handle) (n : ℕ) (b : List ℕ) → WriteParts g d m h n b
    → Rewrite.Rewrites g (with_granules g d h.slot (to_write g d m h n)) (write_of g d m h n b).1 h.slot
rewrites g d m h n b q =
    let x = q.grew in
    let d₁ = with_granules g d h.slot (to_write g d m h n) in
    subst (λ (l : List ℕ). Rewrite.Rewrites g d₁ l h.slot) (sym q.image)
    (Write.write-rewrites g d₁ x.kept.sound x.kept.fits h.slot x.kept.file x.kept.user h.at
    (size_after m (size_of g d h.slot) (h.at + n)) (take n b) q.end q.fit)
