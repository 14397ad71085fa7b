-- Whatever call answers a fault's number hands on what the check tells.
use Rattle.std.specs.Prelude.{◌≡◌, ◌⊎◌, Bool, true, false, not, cond, List, [], ◌∷◌, T, eqb, length, drop}
use Rattle.std.proofs.Math.Path.{refl}
use Rattle.std.proofs.Common.{sym, ◌∙◌, subst, inl, inr, arith, eqb→eq, T_not}
use Prim.Native.Nat.{ℕ, ◌+◌, ◌≤◌, ◌<◌}
use Rattle.meaning.specs.Lists.{every, has}
use Rattle.meaning.specs.Layout.{fits_geometry}
use Rattle.meaning.specs.Fault.{fault}
use Rattle.meaning.specs.Refusals.{first, fault_numbers, disk_refusals, check, bad_at}
use Rattle.meaning.specs.LookUp.{look_up, look_up_refusals}
use Rattle.meaning.specs.Open.{open', open_refusals}
use Rattle.meaning.specs.Create.{create, create_refusals}
use Rattle.meaning.specs.Amount.{how_many}
use Rattle.meaning.specs.Read.{read_of, read_sector, read_refusals, sector_refusals}
use Rattle.meaning.specs.Write.{write_of, write_refusals}
use Rattle.meaning.specs.Allot.{allot, allot_refusals}
use Rattle.meaning.specs.Trim.{trim, trim_refusals}
use Rattle.meaning.specs.Kill.{kill, kill_refusals}
use Rattle.meaning.specs.Listing
use Rattle.meaning.specs.FreeSpace.{free_space, space_refusals}
use Rattle.meaning.specs.BringBack.{bring_back, bring_back_refusals}
use Rattle.meaning.specs.Calls.{Call, number, refusal_in}
use Rattle.meaning.specs.declared.Geometry.{Geometry}
use Rattle.meaning.specs.declared.Refusal.{Refusal}
use Rattle.lists.specs.Members
use Rattle.lists.specs.Members.{In}
use Rattle.lists.specs.First
use Rattle.lists.specs.First.{numbers_of}
use Rattle.laws.specs.Fault
use Rattle.laws.specs.Passed
use Rattle.laws.specs.Carried.{carried-own, carried_first}
use Rattle.promises.specs.Said.{says}
use Rattle.promises.specs.Refusing.{own_rows, list-number}

module _ (g : Geometry) (d : List ℕ) where
  low : (m : ℕ) → In m fault_numbers → 21 ≤ m
  low m j = (Members.count-in m 21 10 j).0

  -- Of a list of refusals after the disk's, none of which has a fault's number, such a number is the check's.
  disk-first : (cs : List (ℕ × Bool)) → T (every (λ n. not (has fault_numbers n)) (numbers_of cs)) → In (first (disk_refusals g d cs)) fault_numbers
      → (check g d).number ≡ first (disk_refusals g d cs)
  unfolding first
  disk-first cs o i = go (fits_geometry g d) refl (Members.in-cons (Fault.numbered g d))
    where
      n : ℕ
      n = (fault g d).number

      rest : In (first cs) fault_numbers → (first cs ≡ 0) ⊎ In (first cs) (numbers_of cs) → ⊥
      rest j (inl e) = omega (arith, e, low (first cs) j)
      rest j (inr k) =
          T_not (has fault_numbers (first cs)) (Members.every-all (λ n. not (has fault_numbers n)) o k) (Members.in-has j)

      go : (b : Bool) → fits_geometry g d ≡ b → (n ≡ 0) ⊎ In n fault_numbers → (check g d).number ≡ first (disk_refusals g d cs)
      go false f k =
          let e : first (disk_refusals g d cs) ≡ 1 = rw f refl in absurd (omega (arith, e, low (first (disk_refusals g d cs)) i))
      go true f (inl z) =
          let e : first (disk_refusals g d cs) ≡ first cs = rw f (First.number-miss n fault_numbers cs (λ j. omega (arith, z, low n j))) in
          absurd (rest (subst (λ (m : ℕ). In m fault_numbers) e i) (Members.in-cons (First.first-in cs)))
      go true f (inr k) =
          let e : first (disk_refusals g d cs) ≡ n = rw f (First.number-hit n fault_numbers cs k) in Passed.check-number g d f ∙ sym e

  -- where the check answers one, it is the fault's
  check-is : In (check g d).number fault_numbers → check g d ≡ fault g d
  check-is i = go (fits_geometry g d) refl
    where
      go : (b : Bool) → fits_geometry g d ≡ b → check g d ≡ fault g d
      go true f = Passed.check-fault g d f
      go false f =
          let z : (check g d).number ≡ 1 = rw (Passed.check-one g d f) refl in absurd (omega (arith, z, low (check g d).number i))

  -- a call whose refusals begin with the disk's, and that hands on what goes with its number
  pub hands-on : (cs : List (ℕ × Bool)) → T (every (λ n. not (has fault_numbers n)) (numbers_of cs)) → In (first (disk_refusals g d cs)) fault_numbers
      → (r : Refusal) → (first (disk_refusals g d cs) ≡ (check g d).number → r ≡ check g d) → r ≡ fault g d
  hands-on cs o i r f = let e = disk-first cs o i in f (sym e) ∙ check-is (subst (λ (m : ℕ). In m fault_numbers) (sym e) i)

  by-list : (j : ℕ) → In (check g d).number fault_numbers → (Listing.list g d j).refusal ≡ fault g d
  unfolding Listing.list
  by-list j i = go (Members.decide (eqb (check g d).number 0))
    where
      n : ℕ
      n = (check g d).number

      go : Members.Test (eqb n 0) → (cond (eqb n 0) (Listing.tell_first g d (drop j (Listing.listed g d))) (Listing.no_file (check g d))).refusal ≡ fault g d
      go (Members.Test.holds t) = absurd (omega (arith, eqb→eq n 0 t, low n i))
      go (Members.Test.fails t) = rw (Members.no_false {b = eqb n 0} t) (check-is i)

  -- 1 alone is none of them
  by-space : In (first (space_refusals g d)) fault_numbers → ⊥
  by-space i = go (Members.in-cons (First.first-in (space_refusals g d)))
    where
      n : ℕ
      n = first (space_refusals g d)

      one : (n ≡ 1) ⊎ In n [] → ⊥
      one (inl e) = omega (arith, low n i, e)
      one (inr j) = Members.none_in j

      go : (n ≡ 0) ⊎ In n (1 ∷ []) → ⊥
      go (inl e) = omega (arith, low n i, e)
      go (inr j) = one (Members.in-cons j)

  pub handed : (c : Call) → In (number g d c) fault_numbers → refusal_in c (says g d c).answer ≡ fault g d
  unfolding number look_up open' create read_of read_sector write_of allot trim kill Listing.counts free_space
  handed Call.checks i = check-is i
  handed (Call.looks_up n) i = hands-on (own_rows (look_up_refusals g d n)) tt i _ (λ e. carried_first (check g d) (bad_at n) e)
  handed (Call.opens n len checking code) i =
      hands-on (own_rows (open_refusals g d n len checking code)) tt i _ (λ e. carried_first (check g d) (bad_at n) e)
  handed (Call.creates n f checking) i = hands-on (own_rows (create_refusals g d n f checking)) tt i _ (λ e. carried_first (check g d) (bad_at n) e)
  handed (Call.reads a h b) i =
      hands-on (own_rows (read_refusals g d h (how_many a h.len b) (length b))) tt i _ (λ e. carried-own (check g d) e)
  handed (Call.reads_sector h k) i = hands-on (own_rows (sector_refusals g d h k)) tt i _ (λ e. carried-own (check g d) e)
  handed (Call.writes a m h b) i =
      hands-on (own_rows (write_refusals g d m h (how_many a h.len b) (length b))) tt i _ (λ e. carried-own (check g d) e)
  handed (Call.allots h k) i = hands-on (own_rows (allot_refusals g d h k)) tt i _ (λ e. carried-own (check g d) e)
  handed (Call.trims h) i = hands-on (own_rows (trim_refusals g d h)) tt i _ (λ e. carried-own (check g d) e)
  handed (Call.kills h) i = hands-on (own_rows (kill_refusals g d h)) tt i _ (λ e. carried-own (check g d) e)
  handed (Call.lists j) i = by-list j (subst (λ (m : ℕ). In m fault_numbers) (list-number g d j) i)
  handed Call.counts i = check-is i
  handed Call.measures i = absurd (by-space i)

  pub back : (s : ℕ) → In (bring_back g d s).0.refusal.number fault_numbers → (bring_back g d s).0.refusal ≡ fault g d
  unfolding bring_back
  back s i = hands-on (own_rows (bring_back_refusals g d s)) tt i _ (λ e. carried-own (check g d) e)
