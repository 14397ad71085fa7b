-- The record length plays no part in a read or a write of n bytes but for its test
use Rattle.std.specs.Prelude.{◌≡◌, refl, Bool, true, false, cond, List, ℕ, ◌+◌, length}
use Rattle.meaning.specs.Handles.{in_range, good_length, fresh, moved_to}
use Rattle.meaning.specs.Refusals.{first, accepted, refusal}
use Rattle.meaning.specs.Read.{read_refusals, read_of}
use Rattle.meaning.specs.Write.{write_refusals, write_of}
use Rattle.meaning.specs.declared.Geometry.{Geometry}
use Rattle.meaning.specs.declared.Handle.{Handle}
use Rattle.meaning.specs.declared.Answer.{Answer}
use Rattle.meaning.specs.declared.Refusal.{Refusal}
use Rattle.meaning.specs.declared.Mode.{Mode}
use Rattle.lists.specs.Members
use Rattle.promises.specs.Promises.{LengthInRange}
use Rattle.promises.specs.Refusing
use Rattle.promises_parts.specs.Statement.{with_length, of_length, LengthApart}

either-length : (r : Refusal) (t : Bool) (h h' : Handle) (len : ℕ) (x : List ℕ)
    → ◌≡◌ {A = Answer × List ℕ} (record { refusal = r; handle = cond t (with_length h len) (with_length h' len) }, x)
    (of_length len (record { refusal = r; handle = cond t h h' }, x))
either-length r true h h' len x = refl
either-length r false h h' len x = refl

good : (len : ℕ) → LengthInRange len → good_length len ≡ true
good len r = Members.T_true ((Refusing.length-iff len).1 r)

module _ (g : Geometry) (d : List ℕ) (h : Handle) (len n : ℕ) (b : List ℕ) (r : LengthInRange h.len) (s : LengthInRange len) where
  range_same : in_range g (with_length h len) ≡ in_range g h
  unfolding in_range
  range_same = rw (good len s, good h.len r)

  read_length : read_of g d (with_length h len) n b ≡ of_length len (read_of g d h n b)
  unfolding read_of fresh
  read_length =
      let no = first (read_refusals g d h n (length b)) in
      rw range_same (either-length (refusal g d no) (accepted no) (moved_to h (h.at + n)) h len (read_of g d h n b).1)

  write-length : (m : Mode) → write_of g d m (with_length h len) n b ≡ of_length len (write_of g d m h n b)
  unfolding write_of fresh
  write-length m =
      let no = first (write_refusals g d m h n (length b)) in
      rw range_same (either-length (refusal g d no) (accepted no) (moved_to h (h.at + n)) h len (write_of g d m h n b).1)

  pub length-apart : LengthApart g d h len n b
  length-apart = record { reads' = read_length; writes' = write-length }
