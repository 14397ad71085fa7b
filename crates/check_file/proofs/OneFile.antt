-- One file, and the slot where it starts.
use mathlib.Core.Path.{◌≡◌, refl, sym, ap, ◌∙◌}
use mathlib.Core.List.{List, [], ◌∷◌}
use mathlib.Core.Bool.{Bool, true, false, not, ◌&&◌, and-true, beq}
use Prim.Native.Nat.{ℕ, ◌+◌, ◌-◌, ◌*◌}
use native.Mathlib.Omega.{arith}
use native.Mathlib.Nat.{zero-add}
use lib.Dec.{eqb, leb}
use lib.ListN.{length, take, drop}
use borrow.Author.Tests.{eq-eqb, ne_eqb}
use Rattle.meaning.specs.Lists.{all, any}
use Rattle.meaning.specs.Bits.{bit}
use Rattle.meaning.specs.Layout.{field, hit, slots, directory_sectors, granule_sectors}
use Rattle.meaning.specs.Entries.{in_use, extension, in_use_primary, name_of, sector_count, end_byte}
use Rattle.meaning.specs.Chain.{chain, chain_from, owned}
use Rattle.meaning.specs.Consistent.{hit_holds, count_holds}
use Rattle.meaning.specs.declared.Geometry.{Geometry}
use Rattle.layout.specs.Room.{Room}
use Rattle.layout.proofs.OneStep.{name-part}
use Rattle.lists.specs.Tests.{all_yes, all-no, all_one, any-skip, not_yes, not-no, any-one, not-both, all-out}
use Rattle.seek.proofs.SeekSteps.{slots_length}
use Rattle.check_map.specs.Marks.{marked, allows}
use Rattle.check_walk.specs.Walk.{Place, Walked, chain_holds}
use Rattle.meaning.specs.Names.{hash, well_formed}
use Rattle.lists.specs.Members
use Rattle.check_file.specs.Slots.{least_of, name_fits, file_fits, slot_fits, chain_of, owned_of, opens, slots_fit, FileSeen, Seen}

-- One file ------------------------------------------------------------------------------------------------------------------

shuffle : (c a b l : Bool) → all (c ∷ a ∷ b ∷ l ∷ []) ≡ all (all (c ∷ l ∷ []) ∷ a ∷ b ∷ [])
unfolding all
shuffle false a b l = refl
shuffle true false b true = refl
shuffle true false b false = refl
shuffle true true false true = refl
shuffle true true false false = refl
shuffle true true true true = refl
shuffle true true true false = refl

pub all_three : {a a' b b' c c' : Bool} → a ≡ a' → b ≡ b' → c ≡ c' → all (a ∷ b ∷ c ∷ []) ≡ all (a' ∷ b' ∷ c' ∷ [])
all_three p q r = rw (p, q, r)

module _ (g : Geometry) (d : List ℕ) (s : ℕ) where
  file-no : {low : ℕ} {m m' met met' : List ℕ} → file_fits g d s ≡ false → FileSeen g d s low m m' met met' false
  file-no h = record { answer = sym (all-no h _); map = λ q. not-both q refl; meets = λ q. not-both q refl }

  pub file-bit : {low : ℕ} {m m' met met' : List ℕ} {f : ℕ} → f ≡ field g d s 0 → bit 5 f ≡ true → FileSeen g d s low m m' met met' false
  unfolding file_fits
  file-bit e h = file-no (all-no (not_yes (ap (bit 5) (sym e) ∙ h)) _)

  pub file-name : {low : ℕ} {m m' met met' : List ℕ} {h : ℕ} → h ≡ hit g d s → name_fits g d h s ≡ false → FileSeen g d s low m m' met met' false
  unfolding file_fits
  file-name e n = file-no (all-out _ 1 (ap (λ (k : ℕ). name_fits g d k s) (sym e) ∙ n))

  pub file-count : {low : ℕ} {m m' met met' : List ℕ} {n : ℕ} → n ≡ sector_count g d s → count_holds n (end_byte g d s) ≡ false → FileSeen g d s low m m' met
      met' false
  unfolding file_fits
  file-count e n = file-no (all-out _ 2 (ap (λ (k : ℕ). count_holds k (end_byte g d s)) (sym e) ∙ n))

  pub two : {x y : ℕ} → x ≡ field g d s 0x14 → y ≡ field g d s 0x15 → x + 256 * y ≡ sector_count g d s
  two {x} {y} e f = ap (λ (k : ℕ). k + 256 * y) e ∙ ap (λ (k : ℕ). field g d s 0x14 + 256 * k) f

  pub file-walk : {m m' met met' : List ℕ} {f h n left : ℕ} {r : Bool} → Room g d → f ≡ field g d s 0 → bit 5 f ≡ false → h ≡ hit g d s
      → name_fits g d h s ≡ true → n ≡ sector_count g d s → count_holds n (end_byte g d s) ≡ true → left ≡ 8 * (directory_sectors g d - 2)
      → Walked g d 1 n 0 (chain_holds g d h left s) (chain_from g d left s) m m' met met' r → FileSeen g d s 1 m m' met met' r
  unfolding file_fits chain owned
  file-walk {m} {m'} {met} {met'} {f} {h} {n} {left} {r} room e b i a c q l w =
      let len : left ≡ length (slots g d) = l ∙ sym (slots_length g d room.ten room.thirty) in
      let w' : Walked g d 1 (sector_count g d s) 0 (chain_holds g d (hit g d s) (length (slots g d)) s) (chain g d s) m m' met met' r = rw (c, i, len) at w in
      let fit : file_fits g d s ≡ all (chain_holds g d (hit g d s) (length (slots g d)) s
      ∷ leb (sector_count g d s) (granule_sectors g * length (owned g d s)) ∷
      [])
      = all_yes (not-no (ap (bit 5) (sym e) ∙ b)) _ ∙ all_yes (ap (λ (j : ℕ). name_fits g d j s) (sym i) ∙ a) _
      ∙ all_yes (ap (λ (j : ℕ). count_holds j (end_byte g d s)) (sym c) ∙ q) _ in
      record {
        answer =
            w'.answer ∙ ap (λ (j : ℕ). all (chain_holds g d (hit g d s) (length (slots g d)) s ∷ allows m 1 0 (owned g d s) ∷ allows met 1 0 (chain g d s) ∷
            leb (sector_count g d s) (granule_sectors g * j) ∷ [])) (zero-add (length (owned g d s)))
            ∙ shuffle (chain_holds g d (hit g d s) (length (slots g d)) s) (allows m 1 0 (owned g d s)) (allows met 1 0 (chain g d s))
            (leb (sector_count g d s) (granule_sectors g * length (owned g d s)))
            ∙ all_three (sym fit) refl refl;
        map = w'.map;
        meets = w'.meets;
      }

  -- One slot ------------------------------------------------------------------------------------------------------------------

  seen_no : {m m' met met' : List ℕ} → slot_fits g d s ≡ false → Seen g d (s ∷ []) m m' met met' false
  unfolding slots_fit
  seen_no h =
      record { answer = sym (all-no (ap (λ (b : Bool). b && true) h) _); map = λ q. not-both q refl; meets = λ q. not-both q refl }

  -- no file starts here
  seen_plain : {m met : List ℕ} {r : Bool} → in_use_primary g d s ≡ false → r ≡ hit_holds g d s → Seen g d (s ∷ []) m m met met r
  unfolding slots_fit slot_fits opens owned_of chain_of allows marked all any
  seen_plain h e = record { answer = rw (h, e, and-true, and-true, and-true); map = λ q. rw h; meets = λ q. rw h }

  -- of what was read: h is the HIT byte, f the flags
  module _ {h f : ℕ} (e : h ≡ hit g d s) (q : f ≡ field g d s 0) where
    hit-is : {a b : Bool} → eqb h 0 ≡ a → in_use g d s ≡ b → hit_holds g d s ≡ beq (not a) b
    unfolding hit_holds
    hit-is {a} {b} p u = ap (λ (k : ℕ). beq (not (eqb k 0)) (in_use g d s)) (sym e) ∙ rw (p, u)

    used : {u : Bool} → u ≡ bit 4 f → in_use g d s ≡ u
    used v = sym (v ∙ ap (bit 4) q)

    -- a HIT byte of 0
    pub seen-free : {m met : List ℕ} (u : Bool) → h ≡ 0 → u ≡ bit 4 f → Seen g d (s ∷ []) m m met met (not u)
    unfolding slot_fits
    seen-free true z v = seen_no (all-no (hit-is (eq-eqb _ _ z) (used v)) _)
    seen-free false z v = seen_plain (ap (λ (b : Bool). b && not (extension g d s)) (used v)) (sym (hit-is (eq-eqb _ _ z) (used v)))

    pub seen-unused : {m m' met met' : List ℕ} {r : Bool} → (h ≡ 0 → ⊥) → bit 4 f ≡ false → r ≡ false → Seen g d (s ∷ []) m m' met met' r
    unfolding slot_fits
    seen-unused z u t = rw t (seen_no (all-no (hit-is (ne_eqb _ _ z) (used (sym u))) _))

    pub seen-extension : {m met : List ℕ} {r : Bool} → (h ≡ 0 → ⊥) → bit 4 f ≡ true → bit 7 f ≡ true → r ≡ true → Seen g d (s ∷ []) m m met met r
    seen-extension z u x t =
        seen_plain (rw (used (sym u), sym (ap (bit 7) q) ∙ x)) (t ∙ sym (hit-is (ne_eqb _ _ z) (used (sym u))))

    pub seen-file : {m m' met met' : List ℕ} {r : Bool} → (h ≡ 0 → ⊥) → bit 4 f ≡ true → bit 7 f ≡ false
        → FileSeen g d s (least_of g d s) m m' met met' r → Seen g d (s ∷ []) m m' met met' r
    unfolding slots_fit slot_fits opens owned_of chain_of
    seen-file {m} {m'} {met} {met'} z u x w =
        let p : in_use_primary g d s ≡ true = rw (used (sym u), sym (ap (bit 7) q) ∙ x) in
        let k : slot_fits g d s ≡ file_fits g d s
        = all_yes (hit-is (ne_eqb _ _ z) (used (sym u))) _ ∙ all_one _ ∙ any-skip (not_yes p) _ ∙ any-one (file_fits g d s) in
        let own : owned_of g d s ≡ owned g d s = rw p in
        let cha : chain_of g d s ≡ chain g d s = rw p in
        record {
          answer =
              w.answer
              ∙ all_three (sym k ∙ sym (and-true (slot_fits g d s)))
              (ap (allows m (least_of g d s) 0) (sym own) ∙ sym (and-true (allows m (least_of g d s) 0 (owned_of g d s))))
              (ap (allows met 1 0) (sym cha) ∙ sym (and-true (allows met 1 0 (chain_of g d s))));
          map = λ t. w.map t ∙ ap (marked m 0) (sym own ∙ sym (Members.each-one (owned_of g d) s));
          meets = λ t. w.meets t ∙ ap (marked met 0) (sym cha ∙ sym (Members.each-one (chain_of g d) s));
        }

-- The name of an entry, as a part of the image: n is 11
name-is : (g : Geometry) (d : List ℕ) {s at n : ℕ} → Room g d → Place g d s at → n ≡ 11 → take n (drop (at + 5) d) ≡ name_of g d s
name-is g d {s} {at} {n} r p e =
    let l = p.slot.low in
    let h = p.slot.held in
    let w = r.long in
    let t = r.directory in
    ap (λ (k : ℕ). take k (drop (at + 5) d)) e ∙ ap (λ (k : ℕ). take 11 (drop (k + 5) d)) p.is ∙ sym (name-part g d s (omega arith))

-- what the tests of the hash and of the name say: b and f
pub name-no : (g : Geometry) (d : List ℕ) (h : ℕ) {s at n : ℕ} {b : Bool} → Room g d → Place g d s at → n ≡ 11 → b ≡ eqb h (hash (take n (drop (at + 5) d)))
    → b ≡ false → b ≡ name_fits g d h s
unfolding name_fits
name-no g d h r p e w t = t ∙ sym (all-out _ 1 (ap (λ (l : List ℕ). eqb h (hash l)) (sym (name-is g d r p e)) ∙ sym w ∙ t))

pub name-yes : (g : Geometry) (d : List ℕ) (h : ℕ) {s at n : ℕ} {b f : Bool} → Room g d → Place g d s at → n ≡ 11
    → b ≡ eqb h (hash (take n (drop (at + 5) d))) → b ≡ true → f ≡ well_formed (take n (drop (at + 5) d)) → f ≡ name_fits g d h s
unfolding name_fits all
name-yes g d h r p e w t q = rw (← name-is g d r p e, ← w, t, ← q, and-true)
