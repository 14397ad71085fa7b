-- `Becomes`: the file of that name was this and is that, and nothing else changed.
use Rattle.std.specs.Prelude.{ℕ, ◌+◌, ◌*◌, ◌/◌, ◌≤◌, ◌<◌, ◌≡◌, refl, ◌≢◌, ◌⊎◌, List, [], ◌∷◌, ◌++◌, T, length, get_or, replicate}
use Rattle.std.proofs.Common.{sym, ap, subst, ◌∙◌, inl, inr, arith}
use Rattle.meaning.specs.Lists.{has, first_or}
use Rattle.meaning.specs.Layout
use Rattle.meaning.specs.Plain.{File, Found, found, nothing}
use Rattle.meaning_table.specs.Samples.{changed, written, puls, leer, hits, e80, e81, e82, opened}
use Rattle.lists.specs.Members
use Rattle.lists.specs.Members.{In}
use Rattle.promises_words.specs.Untouched.{hush, beyond, beyond_in, beyond_at, Aside}
use Rattle.promises.specs.Promises.{Becomes, own_entries, own_granules}
use Rattle.promises_controls.specs.Disks.{six, entry, base, but, of_leer, attributes_of, differ, first_in, told_in}

-- LEER goes from this to that, and the disk from the one to the other
abbrev Leer : List ℕ → List ℕ → File → File → Type 0
Leer d d' was is = Becomes six d d' leer (found was) (found is)

other : puls ≢ leer
other e = differ 0x50 0x4c refl (ap (λ (n : List ℕ). get_or n 0 0) e)

-- before: LEER was not so
bare : File
bare = record { attributes = []; granules = 1; bytes = 0x63 ∷ 0x64 ∷ [] }

before : Leer base base bare of_leer → ⊥
unfolding opened bare
before b = differ 8 0 refl (ap told_in b.before)

-- after: a system file, whose bytes are not compared in the list
blank : File
blank = record { attributes = 0x50 ∷ []; granules = 1; bytes = 0 ∷ 0 ∷ [] }

after : Leer (but ((e81, 0x50) ∷ [])) (but ((e81, 0x50) ∷ [])) blank blank → ⊥
unfolding opened blank
after b = differ 0x63 0 refl (ap first_in b.after)

-- list: a byte of PULS01/DAT is another
list : Leer base (but ((2560, 0x99) ∷ [])) of_leer of_leer → ⊥
unfolding opened hush
list b = differ 0x99 0x61 refl (ap first_in (b.list puls))

-- others: the same, PULS01/DAT a system file
others : Leer (but ((e80, 0x50) ∷ [])) (but ((e80, 0x50) ∷ (2560, 0x99) ∷ [])) of_leer of_leer → ⊥
unfolding opened beyond beyond_in beyond_at
others b = differ 0x99 0x61 refl (ap first_in (b.others puls other))

-- slots': PULS01/DAT stands in slot 82H now
slots : Leer base (written (but ((hits + 0x80, 0x00) ∷ (hits + 0x82, 0xc1) ∷ (e80, 0x05) ∷ [])) e82 (entry 0x15 puls 0x00)) of_leer of_leer → ⊥
unfolding opened
slots b = differ 0x82 0x80 refl (ap (first_or 0) (b.slots' puls other))

-- untouched: a place that is no part of LEER
just : (x a : ℕ) → In x (a ∷ []) → x ≡ a
just x a In.here = refl
just x a (In.there i) = elim i [ ]

only : (x a : ℕ) → In x (a ∷ a ∷ []) → x ≡ a
only x a In.here = refl
only x a (In.there i) = just x a i

aside : (i : ℕ) → 3 ≤ i → i ≢ 385 → (i < 896) ⊎ (928 ≤ i) → (i < 3840) ⊎ (5120 ≤ i) → Aside six (0x81 ∷ 0x81 ∷ []) (3 ∷ []) i
unfolding opened
aside i a b c e = record {
  gat = inr (omega (arith, a));
  hits = λ x t q. b (q ∙ ap (λ (y : ℕ). 256 + y) (only x 0x81 (Members.has_in x _ t)));
  entries = λ x t. subst (λ (y : ℕ). (i < Layout.entry_at six y) ⊎ (Layout.entry_at six y + 32 ≤ i)) (sym (only x 0x81 (Members.has_in x _ t))) c;
  bytes = λ t. away e (just (i / 1280) 3 (Members.has_in (i / 1280) (3 ∷ []) t));
}
  where
    away : (i < 3840) ⊎ (5120 ≤ i) → i / 1280 ≡ 3 → ⊥
    away (inl l) q = omega (arith, l, q)
    away (inr l) q = omega (arith, l, q)

-- a byte of a dead entry
dead-entry : Leer base (but ((e82 + 7, 0x99) ∷ [])) of_leer of_leer → ⊥
unfolding opened
dead-entry b = differ 0x99 0 refl (b.untouched (e82 + 7) (aside (e82 + 7) (omega arith) (differ (e82 + 7) 385 refl) (inr (omega arith)) (inl (omega arith))))

-- a byte of a reserved granule
reserved-byte : Leer base (but ((5120, 0x99) ∷ [])) of_leer of_leer → ⊥
unfolding opened
reserved-byte b = differ 0x99 0 refl (b.untouched 5120 (aside 5120 (omega arith) (differ 5120 385 refl) (inr (omega arith)) (inr (omega arith))))

-- a GAT byte of no block
gat-byte : Leer base (but ((3, 0x99) ∷ [])) of_leer of_leer → ⊥
unfolding opened
gat-byte b = differ 0x99 0x55 refl (b.untouched 3 (aside 3 (omega arith) (differ 3 385 refl) (inl (omega arith)) (inl (omega arith))))

-- a HIT place of no slot
hit-byte : Leer base (but ((hits + 0x28, 0x99) ∷ [])) of_leer of_leer → ⊥
unfolding opened
hit-byte b =
    differ 0x99 0 refl (b.untouched (hits + 0x28)
    (aside (hits + 0x28) (omega arith) (differ (hits + 0x28) 385 refl) (inl (omega arith)) (inl (omega arith))))

-- spare: a bit of the GAT past the last unit
spare : Leer base (but ((0, 0x83) ∷ [])) of_leer of_leer → ⊥
unfolding opened
spare b = differ 1 0 refl (b.spare 0 7 (omega arith) (omega arith))

-- free: granule 5 is taken, and by no file
free : Leer base (but ((2, 0x03) ∷ [])) of_leer of_leer → ⊥
unfolding opened
free b = differ 2 1 refl b.free
