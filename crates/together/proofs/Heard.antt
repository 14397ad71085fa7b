-- What a list's reads hand back hangs on that list alone
use Rattle.std.specs.Prelude.{ℕ, ◌*◌, ◌≡◌, refl, ◌≢◌, Bool, true, false, cond, List, [], ◌∷◌, ◌++◌, map, T, ltb, length, get_or, take, drop, replicate}
use Rattle.std.proofs.Math.Path.{ap, ap₂}
use Rattle.std.proofs.Common.{sym, ◌∙◌, append-nil, append_assoc}
use Rattle.std.proofs.Math.ListN.{get_or-map}
use Rattle.std.proofs.Math.Seq.{slice}
use Rattle.meaning.specs.Names.{fold}
use Rattle.meaning.specs.Handles.{no_handle}
use Rattle.meaning.specs.Calls.{Call, number, leaves}
use Rattle.meaning.specs.Amount.{Amount, how_many}
use Rattle.meaning.specs.Read.{read_of, read_sector}
use Rattle.meaning.specs.Plain.{File, Found, found, nothing, plain, is_system}
use Rattle.promises_words.specs.Untouched.{hush}
use Rattle.promises_words.specs.Given.{AreBytes}
use Rattle.meaning.specs.declared.Geometry.{Geometry}
use Rattle.meaning.specs.declared.Handle.{Handle}
use Rattle.promises.specs.Promises
use Rattle.promises.specs.Sector
use Rattle.promises.specs.Staying
use Rattle.together.specs.Statement.{asked, leaves_all}
use Rattle.together.specs.Statement.{Name, Step, looks_up, opens, creates, moves, reads, reads_sector, writes, allots, trims, kills, Side, Brings}
use Rattle.together.specs.Statement.{AllBring, known, answer, kept, handle_at, many_by, Grip, grip, Turn, one, two, Interleaving, none, left, right}
use Rattle.together.specs.Statement.{World, next, after, Accepted}
use Rattle.together.specs.State.{FileState, state_of, grip_at, stands, effect, Held, Good}
use Rattle.together.proofs.Effects
use Rattle.together.proofs.Interleavings
use Rattle.together.proofs.Interleavings.{Fine, state_in}

-- a part of the file's bytes, as it is kept
unfoldable part_of : (List ℕ → List ℕ) → Found → List ℕ
part_of part nothing = []
part_of part (found f) = cond (is_system f) [] (part f.bytes)

-- a system file's bytes do not count
part-kept : (part : List ℕ → List ℕ) (f : File) (bytes : List ℕ) → bytes ≡ part f.bytes → kept (found f) bytes ≡ part_of part (hush (found f))
unfolding kept part_of hush
part-kept part f bytes e = go (is_system f)
  where
    go : (b : Bool) → cond b [] bytes ≡ cond b [] (part (cond b (replicate (length f.bytes) 0) f.bytes))
    go true = refl
    go false = e

-- the buffer after so many bytes are read; the bytes of a sector
abbrev read_to : Amount → Grip → List ℕ → List ℕ → List ℕ
read_to a k buffer bytes = let many = how_many a k.len buffer in take many (drop k.at bytes) ++ drop many buffer

abbrev sector_of : ℕ → List ℕ → List ℕ
sector_of k bytes = take 256 (drop (256 * k) bytes)

-- what a call hands back
pub hears : Step → FileState → List (List ℕ)
hears looks_up o = []
hears (opens len checking code) o = []
hears (creates f checking) o = []
hears (moves i at) o = []
hears (reads a i buffer) o = part_of (read_to a (grip_at o i) buffer) o.file ∷ []
hears (reads_sector i k) o = part_of (sector_of k) o.file ∷ []
hears (writes a m i bytes) o = []
hears (allots i k) o = []
hears (trims i) o = []
hears (kills i) o = []

-- what the calls of a list hand back, one after another
abbrev pub hears_all : Geometry → Name → List Step → FileState → List (List ℕ)
hears_all g n [] o = []
hears_all g n (c ∷ cs) o = hears c o ++ hears_all g n cs (effect g n c o)

module _ (g : Geometry) (n : Name) (d : List ℕ) (s : Side) (held : Held n s.handles) where
  abbrev hs : List Handle
  hs = s.handles

  read_kept : (a : Amount) (i : ℕ) (b : List ℕ) → T (ltb i (length hs)) → (read_of g d (handle_at hs i) (many_by hs a i b) b).0.refusal.number ≡ 0
      → kept (plain g d n) (read_of g d (handle_at hs i) (many_by hs a i b) b).1
      ≡ part_of (read_to a (get_or (map grip hs) i (grip no_handle)) b) (stands g d n)
  unfolding stands
  read_kept a i b t e =
      let r = Sector.read-serves g d (handle_at hs i) (many_by hs a i b) b e in
      let c : plain g d n ≡ found r.file = ap (plain g d) (sym (Effects.held_at n hs i held t)) ∙ r.called in
      ap (λ (x : Found). kept x (read_of g d (handle_at hs i) (many_by hs a i b) b).1) c
      ∙ part-kept (read_to a (grip (handle_at hs i)) b) r.file (read_of g d (handle_at hs i) (many_by hs a i b) b).1 r.buffer
      ∙ ap₂ (λ (k : Grip) (x : Found). part_of (read_to a k b) (hush x)) (sym (get_or-map grip hs i no_handle)) (sym c)

  sector-kept : AreBytes d → (i k : ℕ) → T (ltb i (length hs)) → (read_sector g d (handle_at hs i) k).refusal.number ≡ 0
      → kept (plain g d n) (slice (read_sector g d (handle_at hs i) k).from (read_sector g d (handle_at hs i) k).to d) ≡ part_of (sector_of k) (stands g d n)
  unfolding stands
  sector-kept u i k t e =
      let r = Sector.sector-serves g d u (handle_at hs i) k e in
      let c : plain g d n ≡ found r.file = ap (plain g d) (sym (Effects.held_at n hs i held t)) ∙ r.called in
      ap (λ (x : Found). kept x (slice (read_sector g d (handle_at hs i) k).from (read_sector g d (handle_at hs i) k).to d)) c
      ∙ part-kept (sector_of k) r.file (slice (read_sector g d (handle_at hs i) k).from (read_sector g d (handle_at hs i) k).to d) r.part
      ∙ ap (λ (x : Found). part_of (sector_of k) (hush x)) (sym c)

call-heard : (g : Geometry) (n : Name) (d : List ℕ) (s : Side) (c : Step) → Held (fold n) s.handles → AreBytes d → T (known s.handles c) → (answer g n d
    s c).number ≡ 0
    → (answer g n d s c).side.heard ≡ s.heard ++ hears c (state_of g (fold n) d s.handles)
unfolding answer number leaves known hears
call-heard g n d s looks_up h u t e = sym (append-nil s.heard)
call-heard g n d s (opens len checking code) h u t e = sym (append-nil s.heard)
call-heard g n d s (creates f checking) h u t e = sym (append-nil s.heard)
call-heard g n d s (moves i at) h u t e = sym (append-nil s.heard)
call-heard g n d s (reads a i b) h u t e = ap (λ (x : List ℕ). s.heard ++ (x ∷ [])) (read_kept g (fold n) d s h a i b t e)
call-heard g n d s (reads_sector i k) h u t e = ap (λ (x : List ℕ). s.heard ++ (x ∷ [])) (sector-kept g (fold n) d s h u i k t e)
call-heard g n d s (writes a m i b) h u t e = sym (append-nil s.heard)
call-heard g n d s (allots i k) h u t e = sym (append-nil s.heard)
call-heard g n d s (trims i) h u t e = sym (append-nil s.heard)
call-heard g n d s (kills i) h u t e = sym (append-nil s.heard)

-- bytes stay bytes
bytes_after : (g : Geometry) (d : List ℕ) (cs : List Call) → Promises.Good g d → Promises.AllBring cs → AreBytes (leaves_all g d cs)
bytes_after g d [] k b = k.bytes
bytes_after g d (c ∷ cs) k b = bytes_after g (leaves g d c) cs (Staying.stays g d k c b.0).good b.1

pub call-bytes : (g : Geometry) (n : Name) (d : List ℕ) (s : Side) (c : Step) → Good g d → AreBytes d → Brings c → AreBytes (answer g n d s c).disk
unfolding answer Good
call-bytes g n d s c k u b = bytes_after g d (asked n s.handles c) (record { fits = k.0; sound = k.1; bytes = u }) (b n s.handles)

-- by its own list alone
pub end-heard : (g : Geometry) (a b : Name) → fold a ≢ fold b → {xs ys : List Step} {zs : List Turn} → Interleaving xs ys zs → (w : World) → Fine g a b w →
    Accepted g a b w zs
    → AreBytes w.disk → AllBring xs → AllBring ys → (after g a b w zs).first.heard ≡ w.first.heard ++ hears_all g (fold a) xs (state_in g a w)
end-heard g a b ab none w k t u p q = sym (append-nil w.first.heard)
end-heard g a b ab (left {x = c} {xs = xs} i) w k t u p q =
    let v = next g a b w (one c) in
    end-heard g a b ab i v (Interleavings.fine-next g a b w (one c) k t.0) t.1 (call-bytes g a w.disk w.first c k.good u p.0) p.1 q
    ∙ ap₂ (λ (x : List (List ℕ)) (o : FileState). x ++ hears_all g (fold a) xs o) (call-heard g a w.disk w.first c k.first' u t.0.0 t.0.1)
    (Interleavings.own_turn g a b w c k t.0)
    ∙ append_assoc w.first.heard (hears c (state_in g a w)) (hears_all g (fold a) xs (effect g (fold a) c (state_in g a w)))
end-heard g a b ab (right {y = c} {xs = xs} i) w k t u p q =
    let v = next g a b w (two c) in
    end-heard g a b ab i v (Interleavings.fine-next g a b w (two c) k t.0) t.1 (call-bytes g b w.disk w.second c k.good u q.0) p q.1
    ∙ ap (λ (o : FileState). w.first.heard ++ hears_all g (fold a) xs o) (Interleavings.other-turn g a b ab w c k t.0)
