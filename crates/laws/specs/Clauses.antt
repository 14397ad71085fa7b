-- A consistent disk clause by clause, in the order and the words of document 01. The test `consistent` says this, no more and no less.
use Rattle.std.specs.Prelude.{◌≡◌, ◌≢◌, ◌↔◌, ◌⊎◌, Bool, true, false, not, List, [], ◌∷◌, ℕ, ◌+◌, ◌*◌, ◌≤◌, ◌<◌, length, T, eqb}
use Rattle.std.proofs.Common.{subst, inl, inr, arith, T_not, eqb→eq, le→leb}
use Rattle.std.specs.Bool.{beq}
use Rattle.std.proofs.Math.Decide.{ℕ_discrete}
use Rattle.std.proofs.Math.Dec.{leb, not_T, leb→le}
use Rattle.meaning.specs.Lists.{has, all}
use Rattle.meaning.specs.Bits.{bit}
use Rattle.meaning.specs.Layout.{is_slot, above_ten, directory_sectors, sectors, hit, field, taken, granule_bytes, directory_granules}
use Rattle.meaning.specs.Names.{hash, well_formed}
use Rattle.meaning.specs.Entries.{in_use, extension, system, name_of, block, runs, entry_granules, marker, link, sector_count, end_byte, size_of}
use Rattle.meaning.specs.Chain.{chain, owned}
use Rattle.meaning.specs.Consistent.{length_holds, hit_holds, consistent}
use Rattle.meaning.specs.declared.Geometry.{Geometry}
use Rattle.lists.specs.Members
use Rattle.lists.specs.Members.{In, Distinct}
use Rattle.laws.specs.Facts
use Rattle.laws.specs.Facts.{IsFile, Sound}
use Rattle.laws.specs.Entry
use Rattle.laws.specs.Entry.{Follows, Linked, OnDisk}
use Rattle.laws.specs.Change

-- s is a slot of the directory whose entry is in use
pub record IsUsed (g : Geometry) (d : List ℕ) (s : ℕ) : Type 0 where
  pub slot : T (is_slot g d s)
  pub used : T (in_use g d s)

pub record Clauses (g : Geometry) (d : List ℕ) : Type 0 where
  -- The 1FH byte is allowed and the directory fits the image.
  pub allowed : In (above_ten g d) (0 ∷ 5 ∷ 10 ∷ 15 ∷ 20 ∷ [])
  pub directory-fits : g.start + directory_sectors g d ≤ sectors g
  -- A slot's HIT byte is nonzero exactly if its entry is in use.
  pub hits : (s : ℕ) → T (is_slot g d s) → (hit g d s ≢ 0) ↔ T (in_use g d s)
  -- Names of in-use primary entries are well formed and differ; bit 5 is zero; HIT bytes equal the hashes.
  pub well-formed : (p : ℕ) → IsFile g d p → T (well_formed (name_of g d p))
  pub differ : (p q : ℕ) → IsFile g d p → IsFile g d q → name_of g d p ≡ name_of g d q → p ≡ q
  pub bit-five : (p : ℕ) → IsFile g d p → T (not (bit 5 (field g d p 0)))
  pub hashes : (p s : ℕ) → IsFile g d p → In s (chain g d p) → hit g d s ≡ hash (name_of g d p)
  -- Each in-use extension belongs to exactly one file's chain,
  pub belongs : (s : ℕ) → IsUsed g d s → (p : ℕ) × IsFile g d p × In s (chain g d p)
  pub one-chain : (p q s : ℕ) → IsFile g d p → IsFile g d q → In s (chain g d p) → In s (chain g d q) → p ≡ q
  pub once : (p : ℕ) → IsFile g d p → Distinct (chain g d p)
  -- has byte 00 equal to 90H, points back correctly and has at least one run.
  pub extensions : (s : ℕ) → IsUsed g d s → T (extension g d s) → (b : ℕ) × IsUsed g d b × (link g d b ≡ s) × Follows g d b s
  -- Each FEH link leads to such an extension. Each entry before the last of a chain has four runs; markers are FEH or FFH.
  pub links : (s : ℕ) → IsUsed g d s → (marker g d s ≡ 0xff) ⊎ Linked g d s
  -- After an FFH block every later pair of that entry starts with FFH.
  pub pairs : (s k : ℕ) → IsUsed g d s → k < 4 → runs g d s ≤ k → block g d s k ≡ 0xff
  -- Runs lie on the disk, their first unit is below units per block, their GAT bits are set, and no granule is in two runs.
  pub run : (s k : ℕ) → IsUsed g d s → k < runs g d s → OnDisk g d s k
  pub gat : (s n : ℕ) → IsUsed g d s → In n (entry_granules g d s) → T (taken g d n)
  pub one-file : (p q n : ℕ) → IsFile g d p → IsFile g d q → In n (owned g d p) → In n (owned g d q) → p ≡ q
  pub one-run : (p : ℕ) → IsFile g d p → Distinct (owned g d p)
  -- n = 0 only with e = 0; the size fits the granules owned.
  pub no-sector : (p : ℕ) → IsFile g d p → sector_count g d p ≡ 0 → end_byte g d p ≡ 0
  pub size_fits : (p : ℕ) → IsFile g d p → size_of g d p ≤ granule_bytes g * length (owned g d p)
  -- Directory granules are set in the GAT and in no run of a file without the system flag.
  pub directory-set : (n : ℕ) → In n (directory_granules g d) → T (taken g d n)
  pub directory-kept : (p n : ℕ) → IsFile g d p → T (not (system g d p)) → In n (owned g d p) → In n (directory_granules g d) → ⊥

beq-over : (a b : Bool) → T (beq a b) → T a → T b
beq-over true true t u = tt
beq-over true false t u = absurd t
beq-over false b t u = absurd u

module _ (g : Geometry) (d : List ℕ) where
  length-says : T (length_holds g d) → In (above_ten g d) (0 ∷ 5 ∷ 10 ∷ 15 ∷ 20 ∷ []) × (g.start + directory_sectors g d ≤ sectors g)
  unfolding length_holds all
  length-says t =
      let a = has (0 ∷ 5 ∷ 10 ∷ 15 ∷ 20 ∷ []) (above_ten g d) in let b = leb (g.start + directory_sectors g d) (sectors g) in
      (Members.has_in _ _ (Members.and_l a (all (b ∷ [])) t), leb→le _ _ (Members.all-second a b t))

  says-length : In (above_ten g d) (0 ∷ 5 ∷ 10 ∷ 15 ∷ 20 ∷ []) → g.start + directory_sectors g d ≤ sectors g → T (length_holds g d)
  unfolding length_holds
  says-length i l =
      Members.all_two (has (0 ∷ 5 ∷ 10 ∷ 15 ∷ 20 ∷ []) (above_ten g d)) (leb (g.start + directory_sectors g d) (sectors g)) (Members.in-has i) (le→leb _ _ l)

  hit-says : (s : ℕ) → T (hit_holds g d s) → hit g d s ≢ 0 → T (in_use g d s)
  unfolding hit_holds
  hit-says s t n = beq-over (not (eqb (hit g d s) 0)) (in_use g d s) t (not_T (eqb (hit g d s) 0) (λ u. n (eqb→eq _ _ u)))

  module _ (c : Sound g d) where
    entry : (s : ℕ) → IsUsed g d s → Entry.Entry g d s
    entry s u = Change.entry-at g d c s u.slot u.used

    -- the entry before an extension
    before : (s : ℕ) → IsUsed g d s → T (extension g d s) → (b : ℕ) × IsUsed g d b × (link g d b ≡ s) × Follows g d b s
    before s u x = let w = c.covered s u.slot u.used in go w.0 w.1 w.2 (Entry.chain-pred g d w.0 s w.2)
      where
        at : (b : ℕ) → IsUsed g d b → marker g d b ≡ 0xfe → link g d b ≡ s → (marker g d b ≡ 0xff) ⊎ Linked g d b → (b : ℕ) × IsUsed g d b × (link g d b ≡ s)
            × Follows g d b s
        at b v m l (inl q) = absurd (omega arith)
        at b v m l (inr q) = (b, v, l, subst (Follows g d b) l q.next)

        go : (p : ℕ) → IsFile g d p → In s (chain g d p) → Entry.Pred g d p s (chain g d p) → (b : ℕ) × IsUsed g d b × (link g d b ≡ s) × Follows g d b s
        go p f i (Entry.Pred.first e) = absurd (T_not (extension g d p) (Facts.file-first g d p f) (subst (λ (y : ℕ). T (extension g d y)) e x))
        go p f i (Entry.Pred.after b j m l) =
            let k = Change.members g d c p b f (Members.front-in p i j) in
            let v : IsUsed g d b = record { slot = k.slot; used = k.used } in
            at b v m l (entry b v).linked

    clauses-of : Clauses g d
    clauses-of = record {
      allowed = (length-says c.dir).0;
      directory-fits = (length-says c.dir).1;
      hits = λ s t. (hit-says s (c.hits s t), λ u. Change.used-hit g d c s t u);
      well-formed = λ p f. (Change.filed-at g d c p f).name;
      differ = c.names;
      bit-five = λ p f. (Change.filed-at g d c p f).zero';
      hashes = λ p s f i. (Change.filed-at g d c p f).hashes s i;
      belongs = λ s u. c.covered s u.slot u.used;
      one-chain = c.chains;
      once = c.once;
      extensions = before;
      links = λ s u. (entry s u).linked;
      pairs = λ s k u. (entry s u).pairs k;
      run = λ s k u. (entry s u).run k;
      gat = λ s n u. (entry s u).gat n;
      one-file = c.granules;
      one-run = c.single;
      no-sector = λ p f. (Change.filed-at g d c p f).count';
      size_fits = λ p f. (Change.filed-at g d c p f).fits;
      directory-set = c.directory;
      directory-kept = λ p n f t. (Change.filed-at g d c p f).off t n;
    }

  sound-of : Clauses g d → Sound g d
  sound-of k = record {
    dir = says-length k.allowed k.directory-fits;
    hits = λ s t. hit-of s t (Members.decide (in_use g d s));
    entries = λ s t u. let v : IsUsed g d s = record { slot = t; used = u } in
        Entry.says-entry g d s (record { pairs = λ j. k.pairs s j v; linked = k.links s v; run = λ j. k.run s j v; gat = λ n. k.gat s n v });
    file = λ p f. Entry.says-filed g d p (record {
      name = k.well-formed p f;
      zero' = k.bit-five p f;
      hashes = λ s. k.hashes p s f;
      count' = k.no-sector p f;
      fits = k.size_fits p f;
      off = λ t n. k.directory-kept p n f t;
    });
    names = k.differ;
    chains = k.one-chain;
    once = k.once;
    covered = λ s t u. k.belongs s (record { slot = t; used = u });
    granules = k.one-file;
    single = k.one-run;
    directory = k.directory-set;
  }
    where
      zero_of : (s : ℕ) → T (is_slot g d s) → (T (in_use g d s) → ⊥) → Dec (hit g d s ≡ 0) → hit g d s ≡ 0
      zero_of s t n (yes e) = e
      zero_of s t n (no e) = absurd (n ((k.hits s t).0 e))

      hit-of : (s : ℕ) → T (is_slot g d s) → Members.Test (in_use g d s) → T (hit_holds g d s)
      hit-of s t (Members.Test.holds u) = Change.hit-yes g d s ((k.hits s t).1 u) u
      hit-of s t (Members.Test.fails u) = Change.hit-no g d s (zero_of s t u (ℕ_discrete (hit g d s) 0)) u

  pub clauses : (consistent g d ≡ true) ↔ Clauses g d
  clauses = (λ e. clauses-of (Facts.sound g d e), λ k. Facts.back g d (sound-of k))
