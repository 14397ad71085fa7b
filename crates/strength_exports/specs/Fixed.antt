-- What the promises at the exports fix by themselves: any two that keep them of one call on one disk leave the same number, the same plain files, a
-- system file's bytes apart, the same lent bytes, a handle's first byte apart, which is its slot, and the same numbers told but where things stand. So
-- a host has what `strength: Fixed.any-two` says of calls.
use Rattle.std.specs.Prelude.{◌≡◌, refl, Bool, true, false, List, [], ◌∷◌, ◌++◌, ℕ, suc, get_or, drop, set}
use Rattle.std.proofs.Math.Path.{sym, ap}
use Rattle.std.proofs.Common.{subst, ◌∙◌}
use Rattle.std.proofs.Math.Bool.{cond}
use Rattle.std.proofs.Math.Seq.{slice}
use Rattle.std.proofs.lemmas.List.Edits.{sets}
use Rattle.meaning.specs.Refusals.{accepted}
use Rattle.meaning.specs.declared.Geometry.{Geometry}
use Rattle.meaning.specs.declared.Handle.{Handle}
use Rattle.promises_words.specs.Given.{AreBytes}
use Rattle.together.specs.Statement.{Grip, grip}
use Rattle.promises.specs.Said.{Said}
use Rattle.promises.specs.Promises.{Promised, Exactly, disk_cases}
use Rattle.genie_codec.specs.Codec.{low_first, bytes_of, stored}
use Rattle.genie_codec.specs.Words.{told}
use Rattle.genie.specs.Exports.{moves, tells}
use Rattle.promises_exports.specs.Host.{HostCall, LeftToHost, call_of, goes_out, too_short, table_if, HostPromised}
use Rattle.promises_exports.specs.Host.{checks, looks_up, opens, creates, reads, reads_sector, writes, allots, trims, kills, lists, counts, measures}
use Rattle.promises_exports.specs.Proved.{no_truth, turned, turned-exactly, never-accepted}
use Rattle.strength.specs.Fixed.{one_number, any-two, Fixed, SamePlain, as-stood}

-- What is compared ------------------------------------------------------------------------------------------------------------------------

-- the numbers told: look up's slot, whether the file was old, the bytes of a sector, the file told, the counts
abbrev pub SameTold : List ℕ → HostCall → List ℕ → List ℕ → Type 0
SameTold d checks t t' = Unit {0}
SameTold d (looks_up n) t t' = get_or t 2 0 ≡ get_or t' 2 0
SameTold d (opens n len checking code b) t t' = Unit {0}
SameTold d (creates n f checking b) t t' = get_or t 2 0 ≡ get_or t' 2 0
SameTold d (reads a b x) t t' = Unit {0}
SameTold d (reads_sector b k) t t' = slice (get_or t 1 0) (get_or t 2 0) d ≡ slice (get_or t' 1 0) (get_or t' 2 0) d
SameTold d (writes a m b x) t t' = Unit {0}
SameTold d (allots b k) t t' = Unit {0}
SameTold d (trims b) t t' = Unit {0}
SameTold d (kills b) t t' = Unit {0}
SameTold d (lists i b) t t' = (get_or t 1 0 ≡ get_or t' 1 0) × (get_or t 2 0 ≡ get_or t' 2 0) × (get_or t 3 0 ≡ get_or t' 3 0)
SameTold d counts t t' = (get_or t 1 0 ≡ get_or t' 1 0) × (get_or t 2 0 ≡ get_or t' 2 0)
SameTold d measures t t' = (get_or t 0 0 ≡ get_or t' 0 0) × (get_or t 1 0 ≡ get_or t' 1 0)

pub record HostFixed (g : Geometry) (d : List ℕ) (c : HostCall) (l l' : LeftToHost) : Type 0 where
  pub number : l.number ≡ l'.number
  pub files : SamePlain g l.image l'.image
  -- byte 0 of a handle is its slot
  pub handle : drop 1 l.handle ≡ drop 1 l'.handle
  pub buffer : l.buffer ≡ l'.buffer
  pub numbers : too_short c ≡ false → SameTold d c l.told l'.told

-- Handles that are alike but for their slots ------------------------------------------------------------------------------------------------

none-set : (i : ℕ) (vs : List ℕ) → sets [] i vs ≡ []
none-set i [] = refl
none-set i (v ∷ vs) = none-set (suc i) vs

behind-first : (x : ℕ) (xs : List ℕ) (i : ℕ) (vs : List ℕ) → drop 1 (sets (x ∷ xs) (suc i) vs) ≡ sets xs i vs
behind-first x xs i [] = refl
behind-first x xs i (v ∷ vs) = behind-first x (set xs i v) (suc i) vs

-- the bytes behind the first
grip_bytes : Grip → List ℕ
grip_bytes k = low_first 1 k.level ++ (low_first 2 k.len ++ (low_first 4 k.at ++ k.name))

-- stored in the same slice, they differ in its first byte at the most
stored-alike : (b : List ℕ) (h h' : Handle) → grip h ≡ grip h' → drop 1 (stored b h) ≡ drop 1 (stored b h')
unfolding stored bytes_of grip_bytes
stored-alike [] h h' e = ap (drop 1) (none-set 0 (bytes_of h) ∙ sym (none-set 0 (bytes_of h')))
stored-alike (x ∷ xs) h h' e =
    behind-first _ xs 0 (grip_bytes (grip h)) ∙ ap (λ (k : Grip). sets xs 0 (grip_bytes k)) e ∙ sym (behind-first _ xs 0 (grip_bytes (grip h')))

-- What goes out of two that are alike -------------------------------------------------------------------------------------------------------

module _ (g : Geometry) (d : List ℕ) where
  -- of a read or write, accepted or not: the handle's bytes
  moved : (b : List ℕ) {n n' : ℕ} {h h' : Handle} → n ≡ n' → h ≡ h' → drop 1 (cond (accepted n) (stored b h) b) ≡ drop 1 (cond (accepted n') (stored b h') b)
  moved b e q = λ i. drop 1 (cond (accepted (e i)) (stored b (q i)) b)

  alike : (c : HostCall) (s s' : Said (call_of c)) → Promised g d (call_of c) s → Promised g d (call_of c) s' → Fixed g d (call_of c) s s'
      → HostFixed g d c (goes_out c s) (goes_out c s')
  unfolding moves tells
  alike checks s s' p p' f = record { number = f.number; files = f.files; handle = refl; buffer = refl; numbers = λ e. tt }
  alike (looks_up n) s s' p p' f = record { number = f.number; files = f.files; handle = refl; buffer = refl; numbers = λ e. f.answer }
  alike (opens n len checking code b) s s' p p' f =
      record { number = f.number; files = f.files; handle = stored-alike b _ _ f.answer; buffer = refl; numbers = λ e. tt }
  alike (creates n x checking b) s s' p p' f =
      record {
        number = f.number;
        files = f.files;
        handle = stored-alike b _ _ f.answer.1;
        buffer = refl;
        numbers = λ e. ap told f.answer.0;
      }
  alike (reads a b x) s s' p p' f =
      record {
        number = f.number;
        files = f.files;
        handle = moved b (p.told ∙ f.number ∙ sym p'.told) f.answer.0;
        buffer = f.answer.1;
        numbers = λ e. tt;
      }
  alike (reads_sector b k) s s' p p' f = record { number = f.number; files = f.files; handle = refl; buffer = refl; numbers = λ e. f.answer }
  alike (writes a m b x) s s' p p' f =
      record {
        number = f.number;
        files = f.files;
        handle = moved b (p.told ∙ f.number ∙ sym p'.told) f.answer;
        buffer = refl;
        numbers = λ e. tt;
      }
  alike (allots b k) s s' p p' f = record { number = f.number; files = f.files; handle = refl; buffer = refl; numbers = λ e. tt }
  alike (trims b) s s' p p' f = record { number = f.number; files = f.files; handle = refl; buffer = refl; numbers = λ e. tt }
  alike (kills b) s s' p p' f = record { number = f.number; files = f.files; handle = refl; buffer = refl; numbers = λ e. tt }
  alike (lists i b) s s' p p' f =
      let more = f.answer.0 in
      let name = f.answer.1 in
      record {
        number = f.number;
        files = f.files;
        handle = refl;
        buffer = λ i. cond (more i) (sets b 0 (name i)) b;
        numbers = λ e. (f.answer.2, f.answer.3, ap told more);
      }
  alike counts s s' p p' f = record { number = f.number; files = f.files; handle = refl; buffer = refl; numbers = λ e. f.answer }
  alike measures s s' p p' f = record { number = f.number; files = f.files; handle = refl; buffer = refl; numbers = λ e. f.answer }

  -- a slice that is too short is turned away by both
  refused : (c : HostCall) (l : LeftToHost) → too_short c ≡ true → HostPromised g d c l → l.number ≡ turned g d
  refused c l e x =
      one_number (disk_cases g d ((12, Unit {0}) ∷ [])) (Unit {0}) tt l.number (turned g d)
      (subst (λ (t : Bool). Exactly l.number (table_if t g d (call_of c))) e x.exactly) (turned-exactly g d)

  -- Any two that keep the promises at the exports agree.
  pub host-two : AreBytes d → (c : HostCall) (l l' : LeftToHost) → HostPromised g d c l → HostPromised g d c l' → HostFixed g d c l l'
  host-two u c l l' x y = by (too_short c) refl
    where
      by : (t : Bool) → too_short c ≡ t → HostFixed g d c l l'
      by false e =
          let v = x.said e in
          let w = y.said e in
          subst (λ (k : LeftToHost). HostFixed g d c k l') (sym v.2) (subst (HostFixed g d c (goes_out c v.0)) (sym w.2)
          (alike c v.0 w.0 v.1 w.1 (any-two g d u (call_of c) v.0 w.0 v.1 w.1)))
      by true e =
          let n = refused c l e x in
          let n' = refused c l' e y in
          let v = x.refuses (λ z. never-accepted g d (sym n ∙ z)) in
          let w = y.refuses (λ z. never-accepted g d (sym n' ∙ z)) in
          record {
            number = n ∙ sym n';
            files = as-stood g d l.image l'.image v.image w.image;
            handle = ap (drop 1) (v.handle ∙ sym w.handle);
            buffer = v.buffer ∙ sym w.buffer;
            numbers = λ f. absurd (no_truth (sym f ∙ e));
          }
