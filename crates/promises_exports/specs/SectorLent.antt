-- Read sector as a program in Rattle has it (calls: read_sector), whose answer is a part of the lent image itself: what the part holds, of a consistent disk
-- and under a refusal. (A host gets the part's places instead: genie_read_sector.)
use Rattle.std.specs.Prelude.{ℕ, zero, suc, ◌-◌, ◌*◌, ◌≡◌, refl, ◌≢◌, List, [], ◌∷◌, take, drop}
use Rattle.std.proofs.Common.{ap, ◌∙◌, arith}
use Rattle.std.proofs.Math.Seq.{slice}
use Rattle.meaning.specs.Read.{read_sector}
use Rattle.meaning.specs.Calls.{Call, number}
use Rattle.meaning.specs.Plain.{File, found, plain}
use Rattle.meaning.specs.declared.Geometry.{Geometry}
use Rattle.meaning.specs.declared.Handle.{Handle}
use Rattle.promises_words.specs.Given.{AreBytes}
use Rattle.promises.proofs.Kept.{every_call}
use Rattle.read.specs.Part.{part_of}

-- the plain file's bytes 256k and on, 256 of them or as many as there are
pub record SectorOf (g : Geometry) (d : List ℕ) (h : Handle) (k : ℕ) (bytes : List ℕ) : Type 0 where
  pub file : File
  pub called : plain g d h.name ≡ found file
  pub part : bytes ≡ take 256 (drop (256 * k) file.bytes)

-- number, what goes with it, and the part's bytes
pub record SectorLent (g : Geometry) (d : List ℕ) (h : Handle) (k : ℕ) (x : ℕ × ℕ × List ℕ) : Type 0 where
  pub is : x ≡ part_of d (read_sector g d h k)
  pub serves : AreBytes d → x.0 ≡ 0 → SectorOf g d h k x.2
  pub refuses : x.0 ≢ 0 → x.2 ≡ []

none_of : (n : ℕ) → take {A = ℕ} n [] ≡ []
none_of zero = refl
none_of (suc n) = refl

slice_is : (f t : ℕ) (l : List ℕ) → take (t - f) (drop f l) ≡ slice f t l
slice_is zero t l = ap (λ (n : ℕ). take n l) (let e : t - zero ≡ t = omega arith in e)
slice_is (suc f) zero l = ap (λ (n : ℕ). take n (drop (suc f) l)) (let e : zero - suc f ≡ 0 = omega arith in e)
slice_is (suc f) (suc t) [] = none_of (suc t - suc f)
slice_is (suc f) (suc t) (x ∷ l) = ap (λ (n : ℕ). take n (drop f l)) (let e : suc t - suc f ≡ t - f = omega arith in e) ∙ slice_is f t l

pub sector-lent : (g : Geometry) (d : List ℕ) (h : Handle) (k : ℕ) → SectorLent g d h k (part_of d (read_sector g d h k))
unfolding part_of number
sector-lent g d h k =
    let p = read_sector g d h k in
    let c = every_call g d (Call.reads_sector h k) in
    record {
      is = refl;
      serves = λ a z. let s = (c.serves z).1 a in record { file = s.file; called = s.called; part = slice_is p.from p.to d ∙ s.part };
      refuses = λ z. let q = (c.refuses z).1 in λ i. take (q.1 i - q.0 i) (drop (q.0 i) d);
    }
