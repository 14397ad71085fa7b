-- The calls of an interleaving are demand 2's: with their handles filled in they are calls that demand 2 promises, each is accepted on the
-- disk that those before it left, and the disk at the end is the one that they leave. So demand 3 speaks of disks and files that demand 2
-- has fixed.
use Rattle.std.specs.Prelude.{ℕ, ◌≡◌, refl, List, [], ◌∷◌, ◌++◌}
use Rattle.meaning.specs.declared.Geometry.{Geometry}
use Rattle.meaning.specs.Calls.{Call, number, leaves}
use Rattle.together.specs.Statement.{Name, Step, asked, leaves_all, looks_up, opens, creates, moves, reads, reads_sector, writes, allots, trims, kills}
use Rattle.together.specs.Statement.{Side, answer, Turn, one, two, World, next, after, Accepted}

-- the calls of an interleaving
abbrev pub asked_in : Geometry → Name → Name → World → List Turn → List Call
asked_in g a b w [] = []
asked_in g a b w (one c ∷ zs) = asked a w.first.handles c ++ asked_in g a b (next g a b w (one c)) zs
asked_in g a b w (two c ∷ zs) = asked b w.second.handles c ++ asked_in g a b (next g a b w (two c)) zs

-- each is accepted on the disk that those before it left
abbrev pub Served : Geometry → List ℕ → List Call → Type 0
Served g d [] = Unit {0}
Served g d (c ∷ cs) = (number g d c ≡ 0) × Served g (leaves g d c) cs

-- that calls cs are served from d on and end with the disk e
abbrev Ends : Geometry → List ℕ → List Call → List ℕ → Type 0
Ends g d cs e = Served g d cs × (leaves_all g d cs ≡ e)

call-asked : (g : Geometry) (n : Name) (d : List ℕ) (s : Side) (c : Step) → (answer g n d s c).number ≡ 0 → (cs : List Call) (e : List ℕ)
    → Ends g (answer g n d s c).disk cs e → Ends g d (asked n s.handles c ++ cs) e
unfolding answer number leaves
call-asked g n d s looks_up z cs e r = ((z, r.0), r.1)
call-asked g n d s (opens len checking code) z cs e r = ((z, r.0), r.1)
call-asked g n d s (creates f checking) z cs e r = ((z, r.0), r.1)
call-asked g n d s (moves i at) z cs e r = r
call-asked g n d s (reads a i buffer) z cs e r = ((z, r.0), r.1)
call-asked g n d s (reads_sector i k) z cs e r = ((z, r.0), r.1)
call-asked g n d s (writes a m i bytes) z cs e r = ((z, r.0), r.1)
call-asked g n d s (allots i k) z cs e r = ((z, r.0), r.1)
call-asked g n d s (trims i) z cs e r = ((z, r.0), r.1)
call-asked g n d s (kills i) z cs e r = ((z, r.0), r.1)

pub interleaving-asked : (g : Geometry) (a b : Name) (zs : List Turn) (w : World) → Accepted g a b w zs
    → Served g w.disk (asked_in g a b w zs) × (leaves_all g w.disk (asked_in g a b w zs) ≡ (after g a b w zs).disk)
interleaving-asked g a b [] w t = (tt, refl)
interleaving-asked g a b (one c ∷ zs) w t = call-asked g a w.disk w.first c t.0.1 _ _ (interleaving-asked g a b zs (next g a b w (one c)) t.1)
interleaving-asked g a b (two c ∷ zs) w t = call-asked g b w.disk w.second c t.0.1 _ _ (interleaving-asked g a b zs (next g a b w (two c)) t.1)
