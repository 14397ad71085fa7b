-- A read and a write of a record are of the handle's record length, those of bytes of the whole buffer; `Calls` asks for each as it is meant.
use Rattle.std.specs.Prelude.{ℕ, ◌+◌, ◌≡◌, refl, List, [], ◌∷◌}
use Rattle.meaning.specs.Amount.{one_record, whole_buffer, how_many}
use Rattle.meaning.specs.Calls.{leaves}
use Rattle.meaning.specs.Calls.Call.{writes}
use Rattle.meaning_table.specs.Samples.{changed, held, leer, three, sample, e80, opened}
use Rattle.meaning.specs.declared.Mode.TheVariants.{Random}

one-record : how_many one_record 1 (7 ∷ 8 ∷ []) ≡ 1
one-record = refl

whole-buffer : how_many whole_buffer 1 (7 ∷ 8 ∷ []) ≡ 2
whole-buffer = refl

record-written : leaves three sample (writes one_record Random (held 0x80 leer 0 1 4) (7 ∷ 8 ∷ [])) ≡ changed sample ((e80 + 1, 0x29) ∷ (10240, 7) ∷ [])
unfolding opened leaves
record-written = refl

buffer-written : leaves three sample (writes whole_buffer Random (held 0x80 leer 0 1 4) (7 ∷ 8 ∷ []))
    ≡ changed sample ((e80 + 1, 0x29) ∷ (10240, 7) ∷ (10241, 8) ∷ [])
unfolding opened leaves
buffer-written = refl
