-- One granule less, in each of its three ways, and k granules less.
use Rattle.std.specs.Prelude.{◌≡◌, ◌≢◌, ◌⊎◌, Bool, true, false, not, cond, ◌&&◌, List, [], ◌∷◌, ◌++◌, length, set}
use Rattle.std.proofs.Math.Path.{refl, subst}
use Rattle.std.proofs.Common.{ap, sym, ◌∙◌, inl, inr, length-append, eqb→eq, ltb→lt}
use Prim.Native.Nat.{ℕ, zero, suc, ◌+◌, ◌-◌, ◌*◌, ◌/◌, ◌≤◌, ◌<◌}
use native.Mathlib.Omega.{arith}
use Rattle.std.proofs.Math.Decide.{dec_lt}
use Rattle.std.proofs.Math.ListN.{length-set}
use Rattle.std.proofs.Math.Seq.{get_or-set_other}
use Rattle.std.proofs.Math.Dec.{T, eqb, ltb, T_not, not_T, nltb→le}
use Rattle.meaning.specs.Lists.{count, times}
use Rattle.meaning.specs.Layout.{byte, field, taken, granules, granule_bytes, granule_sectors, round_up, directory_granules, gat_at, hit_at, entry_at}
use Rattle.meaning.specs.Layout.{is_slot, set_field, free_granule, above_ten, most_blocks}
use Rattle.meaning.specs.Entries.{extension, system, size_of, runs, run_start, run_length, pair_byte, set_pair, set_pair_byte}
use Rattle.meaning.specs.Chain.{chain, owned, tail}
use Rattle.meaning.specs.Drop.{drop_one, unhooked}
use Rattle.meaning.specs.declared.Geometry.{Geometry}
use Rattle.lists.specs.Members
use Rattle.lists.specs.Members.{In}
use Rattle.lists.specs.Sizes
use Rattle.laws.specs.Facts
use Rattle.laws.specs.Facts.{Sound, IsFile}
use Rattle.laws.specs.Entry
use Rattle.laws.specs.Places
use Rattle.laws.specs.Change
use Rattle.laws.specs.AtTail
use Rattle.laws.specs.Shrink
use Rattle.laws.specs.Unhook
use Rattle.laws.specs.Drop
use Rattle.laws.specs.DropLast
use Rattle.laws.specs.Words.{words}
use Rattle.promises.specs.Trim
use Rattle.promises.specs.Trim.{Shrank}
use Rattle.promises_bytes.specs.Statement
use Rattle.promises_bytes.specs.Statement.{Away, PutAndFreed, pair_at, second_at, unhooked_stores, last_pair, last_granule, DropsBy, OneLess, DropSteps}
use Rattle.promises_bytes.specs.Statement.{Stores}
use Rattle.promises_bytes.specs.Stores
use Rattle.promises_bytes.specs.Stores.{puts, Apart, Below}

-- The places of an emptied extension differ: E and B are where the two entries stand, H is the HIT byte ---------------------------------

apart-eight : (E B H k : ℕ) → k < 4 → H < E → H < B → ((x y : ℕ) → x < 32 → y < 32 → E + x ≢ B + y)
    → Apart ((E + (0x16 + 2 * k), 0xff) ∷ (E + (0x17 + 2 * k), 0xff) ∷ (E + 0, 0x80) ∷ (H, 0) ∷ (E + 0x1e, 0xff) ∷ (E + 0x1f, 0xff)
    ∷ (B + 0x1e, 0xff) ∷ (B + 0x1f, 0xff) ∷ [])
apart-eight E B H k l he hb far =
    let first : (x : ℕ) → x < 32 → E + x ≢ B + 0x1e = λ x b. far x 0x1e b (omega arith) in
    let second : (x : ℕ) → x < 32 → E + x ≢ B + 0x1f = λ x b. far x 0x1f b (omega arith) in
    let a = 0x16 + 2 * k in
    let b = 0x17 + 2 * k in
    let a_in : a < 32 = omega arith in
    let b-in : b < 32 = omega arith in (
      (omega arith, (omega arith, (omega arith, (omega arith, (omega arith, (first a a_in, (second a a_in, tt))))))),
      (
        (omega arith, (omega arith, (omega arith, (omega arith, (first b b-in, (second b b-in, tt)))))),
        (
          (omega arith, (omega arith, (omega arith, (first 0 (omega arith), (second 0 (omega arith), tt))))),
          (
            (omega arith, (omega arith, (omega arith, (omega arith, tt)))),
            (
              (omega arith, (first 0x1e (omega arith), (second 0x1e (omega arith), tt))),
              ((first 0x1f (omega arith), (second 0x1f (omega arith), tt)), ((omega arith, tt), (tt, tt))),
            ),
          ),
        ),
      ),
    )

module _ (g : Geometry) (d : List ℕ) (c : Sound g d) (k : Places.Fits g d) (p : ℕ) (f : IsFile g d p) (u : T (not (system g d p)))
    (size : size_of g d p + granule_bytes g ≤ granule_bytes g * length (owned g d p)) where
  abbrev e : ℕ
  e = tail g p d

  abbrev r : ℕ
  r = last_pair g p d

  abbrev n : ℕ
  n = last_granule g p d

  some-run : 1 ≤ runs g d e
  some-run = Drop.tail-run g d c p f (Sizes.some-width (Sizes.bytes_pos g) _ (omega (arith, size)))

  member : Change.Member g d p e
  member = Change.members g d c p e f (Change.tail-in g d c p f)

  se : Places.IsSlot g d e
  se = Places.slot g d e member.slot

  r-lt : r < 4
  r-lt = omega (arith, some-run, Entry.runs-le g d e)

  n-lt : n < granules g
  n-lt = omega (arith, ((Change.entry-at g d c e member.slot member.used).run r (omega (arith, some-run))).inside)

  block-n : n / g.units < most_blocks
  block-n = omega (arith, Places.block-lt g d n k n-lt, k.blocks-hi)

  room : (x : ℕ) → T (is_slot g d x) → entry_at g x + 32 ≤ length d
  room x t = let a = Places.dir g d c.dir in let b = Places.slot g d x t in omega (arith, k.long)

  -- stores at places that differ, and the granule freed
  put : (ss : Stores) → Apart ss → Below (length d) ss → Away (gat_at g n) ss → (T (taken g (free_granule g (puts d ss) n) n) → ⊥)
      → ((m : ℕ) → m < granules g → m ≢ n → taken g (free_granule g (puts d ss) n) m ≡ taken g d m)
      → PutAndFreed g d (free_granule g (puts d ss) n) n ss
  unfolding words
  put ss a b away freed keeps = record {
    long = length-set (puts d ss) (gat_at g n) _ ∙ Stores.puts-length ss d;
    named = Stores.at_after ss (puts d ss) (gat_at g n) _ away (Stores.puts-at ss d (length d) refl a b);
    rest = λ i h q. get_or-set_other (puts d ss) (gat_at g n) i _ 0 q ∙ Stores.puts-away ss d i h;
    freed = freed;
    others = keeps;
  }

  by-shorter : 1 < run_length g d e r → OneLess g p d (free_granule g (set_pair_byte g d e r (pair_byte g d e r - 1)) n)
  unfolding words
  by-shorter long =
      let d' = free_granule g (set_pair_byte g d e r (pair_byte g d e r - 1)) n in
      let w = Drop.shorter-shrinks g d c k p f some-run size long in
      let o = block-n in let l = r-lt in let s = se.low in let q = room e member.slot in
      record {
        last = Shrink.shrinks-owned g d d' c p f n w;
        way = Statement.DropsBy.shortens long
            (put ((second_at g e r, pair_byte g d e r - 1) ∷ []) (tt, tt) (omega arith, tt) (omega arith, tt) w.freed w.keeps)
            (AtTail.chain-stays g d d' c p f w.at);
      }

  by-emptied : run_length g d e r ≡ 1 → (T (extension g d e) → r ≢ 0) → OneLess g p d (free_granule g (set_pair g d e r 0xff 0xff) n)
  unfolding words
  by-emptied single kept =
      let d' = free_granule g (set_pair g d e r 0xff 0xff) n in
      let extends : e ≢ p → T (extension g d e) = λ z. Change.extends g d c p e f (Change.tail-in g d c p f) z in
      let w = Drop.emptied-shrinks g d c k p f some-run size single (λ z. over r (kept (extends z))) in
      let o = block-n in let l = r-lt in let s = se.low in let q = room e member.slot in
      record {
        last = Shrink.shrinks-owned g d d' c p f n w;
        way = Statement.DropsBy.empties single kept
            (put ((pair_at g e r, 0xff) ∷ (second_at g e r, 0xff) ∷ []) ((omega arith, tt), (tt, tt)) (omega arith, (omega arith, tt))
            (omega arith, (omega arith, tt)) w.freed w.keeps)
            (AtTail.chain-stays g d d' c p f w.at);
      }
    where
      over : (y : ℕ) → y ≢ 0 → 1 ≤ y
      over y z = omega arith

  -- the disk where pair j of the last entry, its only one, is emptied
  abbrev cut : ℕ → List ℕ
  cut j = free_granule g (unhooked g (set_pair g d e j 0xff 0xff) e (field g d e 1)) (run_start g d e j + run_length g d e j - 1)

  by-unhooked : run_length g d e r ≡ 1 → T (extension g d e) → r ≡ 0 → OneLess g p d (cut r)
  unfolding unhooked words
  by-unhooked single x z =
      let b = field g d e 1 in
      let later : e ≢ p = λ q. T_not (extension g d p) (Facts.file-first g d p f) (rw q at x) in
      let v = DropLast.before-tail g d c p f later in
      let tb = (Change.members g d c p b f v.0).slot in
      let one : runs g d e ≡ 1 = omega (arith, z, some-run) in
      let w₀ = DropLast.emptied-unhooks g d c k p f size later one (subst (λ (j : ℕ). run_length g d e j ≡ 1) z single) b refl tb v.1 in
      let w : Unhook.Unhooks g d (cut r) p b n =
      subst (λ (j : ℕ). Unhook.Unhooks g d (cut j) p b (run_start g d e j + run_length g d e j - 1)) (sym z) w₀ in
      let o = block-n in let l = r-lt in let s = se.low in let t = (Places.slot g d b tb).low in
      let q = room e member.slot in let q₂ = room b tb in
      record {
        last = Unhook.cut-owned g d (cut r) c p f b n w;
        way = Statement.DropsBy.unhooks single x z
            (put (unhooked_stores g e r b) (apart-eight (entry_at g e) (entry_at g b) (hit_at g e) r r-lt (omega arith) (omega arith) (far b s t v.1))
            (omega arith, (omega arith, (omega arith, (omega arith, (omega arith, (omega arith, (omega arith, (omega arith, tt))))))))
            (omega arith, (omega arith, (omega arith, (omega arith, (omega arith, (omega arith, (omega arith, (omega arith, tt))))))))
            w.freed w.keeps)
            (Unhook.cut-chain g d (cut r) c p f b n w);
      }
    where
      far : (b : ℕ) → e < 256 → b < 256 → b ≢ e → (x y : ℕ) → x < 32 → y < 32 → entry_at g e + x ≢ entry_at g b + y
      far b s t z x y i j = omega arith

  pub one_less : OneLess g p d (drop_one g p d)
  unfolding drop_one
  one_less = go (Members.decide (ltb 1 (run_length g d e r))) (Members.decide (extension g d e && eqb r 0))
    where
      go : Members.Test (ltb 1 (run_length g d e r)) → Members.Test (extension g d e && eqb r 0) → OneLess g p d (drop_one g p d)
      go (Members.Test.holds a) b = rw (Members.T_true {b = ltb 1 (run_length g d e r)} a) (by-shorter (ltb→lt 1 (run_length g d e r) a))
      go (Members.Test.fails a) (Members.Test.fails b) =
          let single : run_length g d e r ≡ 1 = omega (arith, nltb→le 1 (run_length g d e r) (not_T (ltb 1 (run_length g d e r)) a)) in
          rw (Members.no_false {b = ltb 1 (run_length g d e r)} a, Members.no_false {b = extension g d e && eqb r 0} b)
          (by-emptied single (λ x z. b (Members.and_i (extension g d e) (eqb r 0) x (Members.eq-T z))))
      go (Members.Test.fails a) (Members.Test.holds b) =
          let single : run_length g d e r ≡ 1 = omega (arith, nltb→le 1 (run_length g d e r) (not_T (ltb 1 (run_length g d e r)) a)) in
          rw (Members.no_false {b = ltb 1 (run_length g d e r)} a, Members.T_true {b = extension g d e && eqb r 0} b)
          (by-unhooked single (Members.and_l (extension g d e) (eqb r 0) b) (eqb→eq r 0 (Members.and_r (extension g d e) (eqb r 0) b)))

-- k granules --------------------------------------------------------------------------------------------------------------------------

module _ (g : Geometry) (p : ℕ) where
  -- what a granule less leaves room for
  less-room : (k : ℕ) (d d₁ : List ℕ) → Shrank g d d₁ p 1 → size_of g d p + granule_bytes g * suc k ≤ granule_bytes g * length (owned g d p)
      → size_of g d₁ p + granule_bytes g * k ≤ granule_bytes g * length (owned g d₁ p)
  less-room k d d₁ x room =
      let l = ap length x.owned' ∙ length-append (owned g d₁ p) x.old in
      omega (arith, x.size, ap (granule_bytes g *◌) (l ∙ ap (length (owned g d₁ p) +◌) x.many))

  pub drop-steps : (k : ℕ) (d : List ℕ) → Sound g d → Places.Fits g d → IsFile g d p → T (not (system g d p))
      → size_of g d p + granule_bytes g * k ≤ granule_bytes g * length (owned g d p) → DropSteps g p k d (times k (drop_one g p) d)
  drop-steps zero d c w f u room = Statement.DropSteps.none
  drop-steps (suc k) d c w f u room =
      let x = Trim.times-shrank g 1 d p c w f u (omega arith) in
      Statement.DropSteps.more (one_less g d c w p f u (omega arith))
      (drop-steps k (drop_one g p d) x.kept.sound x.kept.fits x.kept.file x.kept.user (less-room k d (drop_one g p d) x room))

  pub drops-outside : (k : ℕ) (d : List ℕ) → Sound g d → Places.Fits g d → IsFile g d p → T (not (system g d p))
      → size_of g d p + granule_bytes g * k ≤ granule_bytes g * length (owned g d p)
      → (i : ℕ) → (In (i / granule_bytes g) (directory_granules g d) → ⊥) → byte (times k (drop_one g p) d) i ≡ byte d i
  unfolding words
  drops-outside zero d c w f u room i o = refl
  drops-outside (suc k) d c w f u room i o =
      let d₁ = drop_one g p d in
      let x = Trim.times-shrank g 1 d p c w f u (omega arith) in
      let y = DropLast.drop-one g d c w p f u (omega arith) in
      drops-outside k d₁ x.kept.sound x.kept.fits x.kept.file x.kept.user (less-room k d d₁ x room) i
      (λ z. o (subst (λ (v : ℕ). In (i / granule_bytes g) (count (g.start / granule_sectors g) (round_up (10 + v) (granule_sectors g)))) y.change.above z))
      ∙ y.shorter.same i o
