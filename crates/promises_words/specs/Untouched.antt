-- What a change of one file leaves alone, as the promises say it: another file's bytes, and the places of the image that are no part of it.
use Rattle.std.specs.Prelude.{ℕ, ◌+◌, ◌*◌, ◌/◌, ◌≤◌, ◌<◌, ◌≢◌, ◌⊎◌, cond, List, [], ◌∷◌, map, T, length, replicate}
use Rattle.meaning.specs.Lists.{count, has}
use Rattle.meaning.specs.Layout
use Rattle.meaning.specs.Entries
use Rattle.meaning.specs.Chain
use Rattle.meaning.specs.LookUp
use Rattle.meaning.specs.Plain.{File, Found, found, nothing, Plain, file_at, is_system}
use Rattle.meaning.specs.declared.Geometry.{Geometry}

-- Reporting system files' bytes as untouched would be a slip: the directory may itself be a file. So a system file's bytes are not
-- compared; how many they are is.
unfoldable pub hush : Found → Found
hush nothing = nothing
hush (found f) =
    found (record {
      attributes = f.attributes;
      granules = f.granules;
      bytes = cond (is_system f) (replicate (length f.bytes) 0) f.bytes;
    })

-- The file at slot p with its bytes that lie in a granule of the directory put to 0: what a change of another file leaves alone even of
-- a system file.
unfoldable pub beyond_at : Geometry → List ℕ → ℕ → File
beyond_at g d p =
    record {
      attributes = (file_at g d p).attributes;
      granules = (file_at g d p).granules;
      bytes =
          map (λ j. cond (has (Layout.directory_granules g d) (Chain.place g d p j / Layout.granule_bytes g)) 0 (Layout.byte d (Chain.place g d p j)))
          (count 0 (Entries.size_of g d p));
    }

unfoldable pub beyond_in : Geometry → List ℕ → List ℕ → Found
beyond_in g d [] = nothing
beyond_in g d (p ∷ ps) = found (beyond_at g d p)

-- the plain list of named files, told so
unfoldable pub beyond : Geometry → List ℕ → Plain
beyond g d n = beyond_in g d (LookUp.named g d n)

-- Only the file's own sectors, entries and the GAT and HIT change. So a place stays that is no GAT byte of a block, no HIT byte and no
-- entry of the slots xs, and in none of the granules ns.
pub record Aside (g : Geometry) (xs ns : List ℕ) (i : ℕ) : Type 0 where
  pub gat : (i < 256 * g.start) ⊎ (256 * g.start + g.blocks ≤ i)
  pub hits : (x : ℕ) → T (has xs x) → i ≢ Layout.hit_at g x
  pub entries : (x : ℕ) → T (has xs x) → (i < Layout.entry_at g x) ⊎ (Layout.entry_at g x + 32 ≤ i)
  pub bytes : T (has ns (i / Layout.granule_bytes g)) → ⊥
