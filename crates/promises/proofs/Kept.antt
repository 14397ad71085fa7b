-- The promises are kept: a theorem for each type of `Promises`
use Rattle.std.specs.Prelude.{◌≡◌, ◌≢◌, ℕ}
use Rattle.std.proofs.Math.Path.{refl}
use Rattle.std.proofs.Common.{sym, ◌∙◌}
use mathlib.Core.List.{List, [], ◌∷◌}
use Rattle.meaning.specs.Refusals.{check}
use Rattle.meaning.specs.Listing
use Rattle.meaning.specs.Amount.{how_many}
use Rattle.meaning.specs.Calls.{Call, refusal_in, does, number, leaves}
use Rattle.meaning.specs.declared.Geometry.{Geometry}
use Rattle.lists.specs.Members
use Rattle.laws.specs.Facts
use Rattle.laws.specs.Fault
use Rattle.promises.specs.Said.{says}
use Rattle.promises.specs.Promises.{AllBring, Stays, Serves, Refuses, Lists, Counted, EveryCall, Along, EveryState, GatAlone}
use Rattle.promises.specs.Promises.{EveryWrite, OldTwo, EveryName}
use Rattle.promises.specs.Refusing
use Rattle.promises.specs.Passing
use Rattle.promises.specs.Staying
use Rattle.promises.specs.Changing
use Rattle.promises.proofs.Finding
use Rattle.promises.specs.Sector
use Rattle.promises.specs.Telling
use Rattle.promises.specs.Measuring
use Rattle.promises.specs.ReadBack
use Rattle.promises.specs.Spelling

module _ (g : Geometry) (d : List ℕ) where
  checked : (check g d).number ≡ 0 → Passing.Served g d
  unfolding check
  checked e = (Passing.disk-passed g d [] e).0

  list-serves : (i : ℕ) → (Listing.list g d i).refusal.number ≡ 0 → Lists g d i (Listing.list g d i)
  list-serves i e = Telling.list-serves g d i e (checked (sym (Refusing.list-number g d i) ∙ e)).sound

  counts-serves : (Listing.counts g d).refusal.number ≡ 0 → Counted g d (Listing.counts g d)
  counts-serves e = Telling.counts-serves g d e (checked (counted e)).sound
    where
      counted : (Listing.counts g d).refusal.number ≡ 0 → (check g d).number ≡ 0
      counted e = unfold Listing.counts in e

  pub serves : (c : Call) → number g d c ≡ 0 → Serves g d c (says g d c)
  unfolding number leaves
  serves Call.checks e = let w = checked e in (refl, Members.T_true w.fits, Facts.back g d w.sound)
  serves (Call.looks_up n) e = (refl, Finding.look-serves g d n e)
  serves (Call.opens n len checking code) e = (refl, Finding.open-serves g d n len checking code e)
  serves (Call.creates n f checking) e = Finding.create-serves g d n f checking e
  serves (Call.reads a h x) e = (refl, Sector.read-serves g d h (how_many a h.len x) x e)
  serves (Call.reads_sector h k) e = (refl, λ b. Sector.sector-serves g d b h k e)
  serves (Call.writes a m h x) e = Changing.write-serves g d m h (how_many a h.len x) x e
  serves (Call.allots h k) e = Changing.allot-serves g d h k e
  serves (Call.trims h) e = Changing.trim-serves g d h e
  serves (Call.kills h) e = Changing.kill-serves g d h e
  serves (Call.lists i) e = (refl, list-serves i e)
  serves Call.counts e = (refl, counts-serves e)
  serves Call.measures e = (refl, Measuring.measure-serves g d e)

  pub told : (c : Call) → (refusal_in c (does g d c).0).number ≡ number g d c
  unfolding number
  told c = refl

  pub refuses : (c : Call) → number g d c ≢ 0 → Refuses g d c (says g d c)
  unfolding number
  refuses Call.checks k = tt
  refuses (Call.looks_up n) k = Finding.look-refuses g d n k
  refuses (Call.opens n len checking code) k = Passing.open-refuses g d n len checking code k
  refuses (Call.creates n f checking) k = Passing.create-refuses g d n f checking k
  refuses (Call.reads a h x) k = Passing.read-refuses g d h (how_many a h.len x) x k
  refuses (Call.reads_sector h i) k = Passing.sector-refuses g d h i k
  refuses (Call.writes a m h x) k = Passing.write-refuses g d m h (how_many a h.len x) x k
  refuses (Call.allots h i) k = Passing.allot-refuses g d h i
  refuses (Call.trims h) k = Passing.trim-refuses g d h
  refuses (Call.kills h) k = Passing.kill-refuses g d h
  refuses (Call.lists i) k = Passing.list-refuses g d i k
  refuses Call.counts k = Passing.counts-refuses g d k
  refuses Call.measures k = Measuring.measure-refuses g d k

-- whatever the disk, whatever the call
pub every_call : EveryCall
every_call g d c = record {
  told = told g d c;
  stays = λ k b. Staying.stays g d k c b;
  serves = serves g d c;
  refuses = λ k. (Passing.as-stood g d c k, refuses g d c k);
  numbers = Refusing.numbers g d c;
}

pub stays_after : (g : Geometry) (a b c : List ℕ) → Stays g a b → Stays g b c → Stays g a c
stays_after g a b c x y = record { long = y.long ∙ x.long; good = y.good; reserved' = y.reserved' ∙ x.reserved'; tally = y.tally }

along : (g : Geometry) (d₀ d : List ℕ) → Stays g d₀ d → (cs : List Call) → AllBring cs → Along g d₀ d cs
along g d₀ d s [] b = s
along g d₀ d s (c ∷ cs) b =
    (s, every_call g d c, along g d₀ (leaves g d c) (stays_after g d₀ d (leaves g d c) s (Staying.stays g d s.good c b.0)) cs b.1)

-- from each state reached
pub every-state : EveryState
every-state g d k cs b = along g d d (Staying.stays_same g d k) cs b

-- free space hangs on the GAT's bits in range and on nothing else
pub gat-alone : GatAlone
gat-alone g d d' e same = Measuring.alone g d d' e same

-- write, then read
pub every-write : EveryWrite
every-write g d m h n b e = ReadBack.reads-back g d m h n b e

-- the numbers 21 to 30 and the old 2
pub old-two : OldTwo
old-two = Fault.no-fault

-- names in small letters
pub every-name : EveryName
every-name n = (Spelling.comes-in n, λ g d. Spelling.by-name g d n)
