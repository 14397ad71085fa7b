-- Granules of one block, taken or given back one by one, are one store of its GAT byte, and those of a run go block by block.
use mathlib.Core.Path.{◌≡◌, refl, sym, ap, ◌∙◌}
use mathlib.Core.List.{List}
use mathlib.Core.Bool.{Bool, true, false}
use Prim.Native.Nat.{ℕ, zero, suc, ◌+◌, ◌-◌, ◌*◌, ◌/◌, ◌%◌, ◌≤◌, ◌<◌}
use native.Mathlib.Omega.{arith}
use native.Mathlib.Nat.{div-add-mod'}
use lib.ListN.{length, set, length-set}
use lib.Seq.{get_or-set_same, set-set, set-get_or}
use Rattle.meaning.specs.Lists.{count, through}
use Rattle.meaning.specs.Layout.{granules, take_granule, free_granule, gat_at, byte}
use Rattle.meaning.specs.declared.Geometry.{Geometry}
use Rattle.layout.specs.Room.{Room}
use Rattle.space.specs.Marks.{put_bit, mark}
use Rattle.space.proofs.Folds.{through-append}
use Rattle.space.proofs.Blocks.{block_of, unit-of, Cut, cut-start, cut_inside, cut-count, cut_step}

-- One block --------------------------------------------------------------------------------------------------------------------

module _ (g : Geometry) (s : Bool) where
  mark-is : (d : List ℕ) (n : ℕ) → mark g s d n ≡ set d (gat_at g n) (put_bit s (byte d (gat_at g n)) (n % g.units))
  unfolding take_granule free_granule
  mark-is d n = by s
    where
      by : (t : Bool) → mark g t d n ≡ set d (gat_at g n) (put_bit t (byte d (gat_at g n)) (n % g.units))
      by true = refl
      by false = refl

  mark-at : (d : List ℕ) (b u : ℕ) → u < g.units → mark g s d (b * g.units + u) ≡ set d (256 * g.start + b) (put_bit s (byte d (256 * g.start + b)) u)
  mark-at d b u h =
      mark-is d (b * g.units + u)
      ∙ ap (λ (i : ℕ). set d (256 * g.start + i) (put_bit s (byte d (256 * g.start + i)) ((b * g.units + u) % g.units))) (block_of b u h)
      ∙ ap (λ (i : ℕ). set d (256 * g.start + b) (put_bit s (byte d (256 * g.start + b)) i)) (unit-of b u h)

  -- n granules of a block are n bits of its byte
  pub block-marks : (d : List ℕ) (b u n : ℕ) → 256 * g.start + b < length d → u + n ≤ g.units
      → through (mark g s) d (count (b * g.units + u) n)
      ≡ set d (256 * g.start + b) (through (put_bit s) (byte d (256 * g.start + b)) (count u n))
  block-marks d b u zero h k = sym (set-get_or d (256 * g.start + b) 0)
  block-marks d b u (suc n) h k =
      let at : ℕ = 256 * g.start + b in
      let x : ℕ = put_bit s (byte d at) u in
      let e : b * g.units + u + 1 ≡ b * g.units + (u + 1) = omega arith in
      let l : length (set d at x) ≡ length d = length-set d at x in
      ap (λ (z : List ℕ). through (mark g s) z (count (b * g.units + u + 1) n)) (mark-at d b u (omega arith))
      ∙ ap (λ (i : ℕ). through (mark g s) (set d at x) (count i n)) e
      ∙ block-marks (set d at x) b (u + 1) n (omega arith) (omega arith)
      ∙ set-set d at x (through (put_bit s) (byte (set d at x) at) (count (u + 1) n))
      ∙ ap (λ (y : ℕ). set d at (through (put_bit s) y (count (u + 1) n))) (get_or-set_same d at x 0 h)

  mark-long : (d : List ℕ) (n : ℕ) → length (mark g s d n) ≡ length d
  mark-long d n = ap length (mark-is d n) ∙ length-set d (gat_at g n) (put_bit s (byte d (gat_at g n)) (n % g.units))

  pub marks-long : (d : List ℕ) (a n : ℕ) → length (through (mark g s) d (count a n)) ≡ length d
  marks-long d a zero = refl
  marks-long d a (suc n) = marks-long (mark g s d a) (a + 1) n ∙ mark-long d a

  -- A run ----------------------------------------------------------------------------------------------------------------------

  -- some are done; d is the image at the start
  pub record Marking (d : List ℕ) (a n : ℕ) (d' : List ℕ) (b u left : ℕ) : Type 0 where
    pub rest : through (mark g s) d (count a n) ≡ through (mark g s) d' (count (b * g.units + u) left)
    pub long : length d' ≡ length d
    pub cut : Cut g a n b u left

  pub marking-start : (d : List ℕ) (a n : ℕ) → 1 ≤ g.units → Marking d a n d (a / g.units) (a % g.units) n
  marking-start d a n h =
      record {
        rest = ap (λ (i : ℕ). through (mark g s) d (count i n)) (sym (div-add-mod' a g.units));
        long = refl;
        cut = cut-start g a n h;
      }

  -- the block lies in the GAT
  pub marking-inside : {d d' : List ℕ} {a n b u left : ℕ} → Room g d → a + n ≤ granules g → Marking d a n d' b u left → 256 * g.start + b < length d'
  marking-inside {d} {d'} {a} {n} {b} {u} {left} r h m = let k = m.long in let i = cut_inside g r h m.cut in omega arith

  pub marking_step : {d d' d'' : List ℕ} {a n b u left : ℕ} → Marking d a n d' b u left → g.units < u + left
      → d'' ≡ through (mark g s) d' (count (b * g.units + u) (g.units - u)) → Marking d a n d'' (b + 1) 0 (left - (g.units - u))
  marking_step {d} {d'} {d''} {a} {n} {b} {u} {left} m h e =
      let k : ℕ = g.units - u in
      record {
        rest =
            m.rest ∙ ap (through (mark g s) d') (cut-count g m.cut h)
            ∙ through-append (mark g s) d' (count (b * g.units + u) k) (count ((b + 1) * g.units + 0) (left - k))
            ∙ ap (λ (z : List ℕ). through (mark g s) z (count ((b + 1) * g.units + 0) (left - k))) (sym e);
        long = ap length e ∙ marks-long d' (b * g.units + u) k ∙ m.long;
        cut = cut_step g m.cut h;
      }

  pub marking-long : {d d' d'' : List ℕ} {a n b u left : ℕ} → Marking d a n d' b u left → d'' ≡ through (mark g s) d' (count (b * g.units + u) left)
      → length d'' ≡ length d
  marking-long {d} {d'} {d''} {a} {n} {b} {u} {left} m e = ap length e ∙ marks-long d' (b * g.units + u) left ∙ m.long
