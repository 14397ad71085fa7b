-- The rules that take granules one at a time, over what a choice sees of a disk (meaning: Choice): which granules are taken, the file's last
-- run, and how many further runs there is place for. `limit` is the most granules that a run may have (32), `granules` how many the disk has.
-- No definition here knows of an algorithm but `Second`, the last one.
use Rattle.std.specs.Prelude.{◌≡◌, true, false, ℕ, ◌+◌, ◌≤◌, ◌<◌}
use Rattle.meaning.specs.Choice.{Run, State, last_run, after, spare, Free}

-- One granule at a time --------------------------------------------------------------------------------------------------

module _ (granules : ℕ) where
  -- granule m is taken, and no other
  pub record Takes (v v' : State) (m : ℕ) : Type 0 where
    pub free : Free granules v m
    pub now : v'.taken m ≡ true
    pub keeps : (n : ℕ) → n < granules → (n ≡ m → ⊥) → v'.taken n ≡ v.taken n

  -- granules m to m + n − 1 are free
  abbrev pub Stretch : State → ℕ → ℕ → Type 0
  Stretch v m n = (i : ℕ) → m ≤ i → i < m + n → Free granules v i

  -- m is the lowest granule of the longest free stretch, the lower of two as long
  pub record LowEnd (v : State) (m : ℕ) : Type 0 where
    pub long : ℕ
    pub free : Stretch v m long
    pub longest : (i n : ℕ) → Stretch v i n → n ≤ long
    pub lower : (i : ℕ) → Stretch v i long → m ≤ i

  -- the granules of the last run are not free, and it has one at least: so it is on a consistent disk
  pub record Stands (v : State) : Type 0 where
    pub some' : (r : Run) → v.last ≡ last_run r → 1 ≤ r.many
    pub own : (r : Run) → v.last ≡ last_run r → (n : ℕ) → r.first ≤ n → n < r.first + r.many → Free granules v n → ⊥

module _ (limit granules : ℕ) where
  -- the last run has fewer than limit granules, and gets the one just after it
  pub record Lengthens (v v' : State) : Type 0 where
    pub run : Run
    pub had : v.last ≡ last_run run
    pub fewer : run.many < limit
    pub takes : Takes granules v v' (run.first + run.many)
    pub has : v'.last ≡ last_run (record { first = run.first; many = run.many + 1 })
    pub place : v'.room ≡ v.room

  -- there is place for a further run, and free granule m starts it
  pub record Starts (v v' : State) (m : ℕ) : Type 0 where
    pub takes : Takes granules v v' m
    pub has : v'.last ≡ last_run (record { first = m; many = 1 })
    pub place : v.room ≡ v'.room + 1

  -- one granule more, whichever
  pub data Step (v v' : State) : Type 0 where
    longer : Lengthens v v' → Step v v'
    starts : (m : ℕ) → Starts v v' m → Step v v'

  -- the last run can be lengthened: there is one, it has fewer than limit, and the granule just after it exists and is free
  pub record CanLengthen (v : State) : Type 0 where
    pub fewer : 0 < spare limit v.last
    pub free : Free granules v (after v.last)

  -- one granule more by the second rule: the one just after the last run if it exists, is free and the run has fewer than limit; else the lowest
  -- one of the longest free stretch, the lower of two as long, as a new run
  pub data Second (v v' : State) : Type 0 where
    longer : Lengthens v v' → Second v v'
    starts : (m : ℕ) → (CanLengthen v → ⊥) → LowEnd granules v m → Starts v v' m → Second v v'
