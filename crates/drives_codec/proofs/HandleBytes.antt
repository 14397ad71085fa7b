-- The bytes of a handle, where there are enough of them and where there are not.
use mathlib.Core.Path.{◌≡◌, sym, ap, ◌∙◌}
use mathlib.Core.List.{List}
use mathlib.Core.Bool.{Bool, cond}
use Prim.Native.Nat.{ℕ, ◌≤◌, ◌<◌, ◌%◌}
use lib.ListN.{length, set}
use borrow.Author.Tests.{lt-ltb, le-ltb}
use Rattle.meaning.specs.Layout.{byte}
use Rattle.meaning.specs.Handles.{no_handle}
use Rattle.meaning.specs.declared.Handle.{Handle}
use Rattle.genie_codec.specs.Codec as one
use Rattle.drives.specs.Pair.{handle_on}
use Rattle.drives.specs.declared.DriveHandle.{DriveHandle}
use Rattle.drives_codec.specs.Codec.{handle_bytes, long, handle_of, stored, length_for}

module _ {A : Type 0} (b : List ℕ) (x y : A) where
  pub short : length b < handle_bytes → x ≡ long b x y
  short h = ap (λ (t : Bool). cond t x y) (sym (lt-ltb (length b) handle_bytes h))

  pub whole : handle_bytes ≤ length b → y ≡ long b x y
  whole h = ap (λ (t : Bool). cond t x y) (sym (le-ltb (length b) handle_bytes h))

module _ (b : List ℕ) where
  pub handle-none : {r : DriveHandle} {h : Handle} → length b < handle_bytes → h ≡ no_handle → r ≡ handle_on 0 h → r ≡ handle_of b
  unfolding handle_of
  handle-none s e q = q ∙ ap (handle_on 0) e ∙ short b _ _ s

  pub handle-is : {r : DriveHandle} {n : ℕ} {h : Handle} → handle_bytes ≤ length b → n ≡ byte b 19 → h ≡ one.handle_of b → r ≡ handle_on n h → r ≡ handle_of b
  unfolding handle_of
  handle-is s m e q = q ∙ (λ i. handle_on (m i) (e i)) ∙ whole b _ _ s

  module _ (h : DriveHandle) where
    pub put-none : length b < handle_bytes → b ≡ stored b h
    unfolding stored
    put-none s = short b _ _ s

    pub put_is : {c : List ℕ} → handle_bytes ≤ length b → c ≡ one.stored b h.handle → set c 19 (h.drive % 256) ≡ stored b h
    unfolding stored
    put_is s e = ap (λ (r : List ℕ). set r 19 (h.drive % 256)) e ∙ whole b _ _ s

  pub length_none : (len : ℕ) → length b < handle_bytes → 0 ≡ length_for b len
  unfolding length_for
  length_none len s = short b _ _ s

  pub length-is : (len : ℕ) → handle_bytes ≤ length b → len ≡ length_for b len
  unfolding length_for
  length-is len s = whole b _ _ s
