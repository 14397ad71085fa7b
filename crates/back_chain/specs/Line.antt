-- What the entries of a killed file give, one by one, as a chain and as a whole.
use Rattle.std.specs.Prelude.{◌≡◌, List, [], ◌∷◌, ℕ, ◌≤◌, length, Option, is_some, IfSome}
use Rattle.meaning.specs.Lists.{every, each, distinct, all}
use Rattle.meaning.specs.Entries.{entry_granules}
use Rattle.meaning.specs.Chain.{chain_from, chain}
use Rattle.meaning.specs.BringBack
use Rattle.meaning.specs.declared.Geometry.{Geometry}
use Rattle.check_map.specs.Marks.{marked, allows}
use Rattle.back_chain.specs.declared.Walked.{Walked}
use Rattle.back_taken.specs.Listed.{first_of, Listed}

-- one entry that was met: its granules, so many, have left the map m, and its slot the map met
pub record Visited (g : Geometry) (d : List ℕ) (s : ℕ) (m m' met met' : List ℕ) (n : ℕ) : Type 0 where
  pub few : n ≤ 128
  pub granules-is : n ≡ length (entry_granules g d s)
  pub map : m' ≡ marked m 0 (entry_granules g d s)
  pub meets : met' ≡ marked met 0 (s ∷ [])

-- One entry: it holds, its granules are on the map m and its slot on the map met; if so, both have left the maps.
pub record Visits (g : Geometry) (d : List ℕ) (s : ℕ) (m m' met met' : List ℕ) (r : Option ℕ) : Type 0 where
  pub answer : is_some r ≡ all (BringBack.killed_entry_holds g d s ∷ allows m 1 0 (entry_granules g d s) ∷ allows met 1 0 (s ∷ []) ∷ [])
  pub visited : IfSome r (Visited g d s m m' met met')

-- the entries cs stand in es, n of them, with so many granules
pub record Written (g : Geometry) (d cs es : List ℕ) (n size : ℕ) : Type 0 where
  pub entries-are : cs ≡ first_of es n
  pub granules-are : size ≡ length (each (entry_granules g d) cs)
  pub listed : Listed g d es n

-- The chain: every entry holds, none stands twice, and no granule does; if so, it is written down.
pub record Lined (g : Geometry) (d : List ℕ) (most s : ℕ) (es : List ℕ) (r : Option Walked) : Type 0 where
  pub few : IfSome r (λ w. w.granules ≤ 32768)
  pub answer : is_some r ≡ all (every (BringBack.killed_entry_holds g d) (chain_from g d most s) ∷ distinct (chain_from g d most s)
      ∷ distinct (each (entry_granules g d) (chain_from g d most s)) ∷ [])
  pub written : IfSome r (λ w. Written g d (chain_from g d most s) es w.slots w.granules)

-- The killed file at slot s: whether it is whole, and if so its entries.
pub record Wholly (g : Geometry) (d : List ℕ) (s : ℕ) (es : List ℕ) (r : Option Walked) : Type 0 where
  pub answer : is_some r ≡ BringBack.whole g d s
  pub written : IfSome r (λ w. Written g d (chain g d s) es w.slots w.granules)
