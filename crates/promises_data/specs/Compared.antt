-- Compare under other flags (`Alike.EveryPair`): the plain lists of both disks are the same, and so is what compare tells of them.
use Rattle.std.specs.Prelude.{◌≡◌, Bool, ℕ, drop}
use Rattle.std.proofs.Math.Path.{refl}
use Rattle.std.proofs.Common.{◌∙◌}
use Rattle.std.proofs.Math.Bool.{cond}
use mathlib.Core.List.{List, [], ◌∷◌, ◌++◌, map}
use Rattle.std.proofs.Math.ListN.{length}
use Rattle.meaning.specs.Lists.{count, keep}
use Rattle.meaning.specs.Layout.{field}
use Rattle.meaning.specs.Entries.{name_of, size_of}
use Rattle.meaning.specs.Refusal.{naming}
use Rattle.meaning.specs.Refusals.{accepted}
use Rattle.meaning.specs.Plain.{file_at, found, found_in, plain}
use Rattle.meaning.specs.declared.Geometry.{Geometry}
use Rattle.differences.specs.Compare.{rising, difference, is_one, tells_none, tell_first, names, merged, differences, compare}
use Rattle.promises_data.specs.Alike.{stated, EveryPair}
use Rattle.promises_data.specs.Flag.{owned-same, files-same, check-same}
use Rattle.promises_data.specs.Kept.{named-same, fetch-same, alike_is}

module _ (g : Geometry) (b : Bool) (d : List ℕ) where
  file_at-same : file_at g d ≡ file_at (stated b g) d
  unfolding file_at size_of field
  file_at-same =
      λ i p. record {
        attributes = map (field g d p) (0 ∷ 1 ∷ 2 ∷ 4 ∷ count 0x10 4);
        granules = length (owned-same g b d i p);
        bytes = fetch-same g b d i p 0 (size_of g d p);
      }

  found_in-same : (ps : List ℕ) → found_in g d ps ≡ found_in (stated b g) d ps
  unfolding found_in
  found_in-same [] = refl
  found_in-same (p ∷ ps) = λ i. found (file_at-same i p)

  plain-same : plain g d ≡ plain (stated b g) d
  unfolding plain
  plain-same = λ i n. found_in-same (named-same g b d i n) i

  names_same : names g d ≡ names (stated b g) d
  unfolding names name_of field
  names_same = λ i. map (name_of g d) (files-same g b d i)

module _ (g g' : Geometry) (b b' : Bool) (d d' : List ℕ) where
  differences-same : differences g d g' d' ≡ differences (stated b g) d (stated b' g') d'
  unfolding differences merged
  differences-same =
      λ i. keep is_one (map (λ n. difference n (plain-same g b d i n) (plain-same g' b' d' i n))
      (rising (names_same g b d i ++ names_same g' b' d' i)))

  compare_same : (k : ℕ) → compare g d g' d' k ≡ compare (stated b g) d (stated b' g') d' k
  unfolding compare
  compare_same k =
      λ i. let c = check-same g b d i in let c' = check-same g' b' d' i in
      cond (accepted c.number) (cond (accepted c'.number) (tell_first (drop k (differences-same i))) (tells_none (naming 2 c')))
      (tells_none (naming 1 c))

pub every-pair : EveryPair
every-pair g h g' h' e e' d d' k =
    compare_same g g' h.system h'.system d d' k ∙ (λ i. compare (alike_is g h e i) d (alike_is g' h' e' i) d' k)
