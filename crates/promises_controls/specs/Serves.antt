-- What an accepted call answers: `LooksUp`, `Opened`, `Creates`, `Reads`, `ReadsSector`, `Lists`, `Counted`, `Measured`, `Changes`.
use Rattle.std.specs.Prelude.{ℕ, ◌+◌, ◌<◌, ◌≤◌, ◌≡◌, refl, ◌⊎◌, Bool, true, false, List, [], ◌∷◌, ◌++◌, length, get_or, take, drop}
use Rattle.std.proofs.Common.{sym, ap, ◌∙◌, inl, inr, arith}
use Rattle.meaning.specs.Lists.{first_or}
use Rattle.meaning.specs.Layout.{taken}
use Rattle.meaning.specs.Refusal.{unplaced}
use Rattle.meaning.specs.Plain.{File, Found, found, nothing, plain}
use Rattle.meaning.specs.declared.Handle.{Handle}
use Rattle.meaning.specs.declared.NewFile.{NewFile}
use Rattle.meaning.specs.declared.LookedUp.{LookedUp}
use Rattle.meaning.specs.declared.Created.{Created}
use Rattle.meaning.specs.declared.Part.{Part}
use Rattle.meaning.specs.declared.Listed.{Listed}
use Rattle.meaning.specs.declared.Counts.{Counts}
use Rattle.meaning.specs.declared.Space.{Space}
use Rattle.meaning_table.specs.Samples.{written, held, puls, leer, hits, e81, e82, opened}
use Rattle.promises.specs.Promises.{LooksUp, Opened, Creates, Reads, ReadsSector, Lists, Counted, Measured, Changes, main_code, stored_level}
use Rattle.differences.specs.Order.{never}
use Rattle.promises_controls.specs.Disks.{six, entry, base, but, attributes_of, hold, neu, differ, there_in, first_in}

-- Look up ---------------------------------------------------------------------------------------------------------------------------

abbrev Looked : List ℕ → ℕ → ℕ → Type 0
Looked d slot compared = LooksUp six d leer (record { refusal = unplaced 0; slot = slot; compared = compared })

-- another file's slot
file : Looked base 0x80 1 → ⊥
unfolding opened
file r = differ 0x63 0x61 refl (ap first_in r.file)

-- the slot of a file that is LEER's equal but for its name
name : Looked (but ((3840, 0x61) ∷ (3841, 0x62) ∷ [])) 0x80 0 → ⊥
unfolding opened
name r = differ 0x50 0x4c refl (ap (λ (n : List ℕ). get_or n 0 0) r.name')

-- the slot of an entry that is LEER's byte for byte, and is no file: its HIT byte is 0
here : Looked (written base e82 (entry 0x15 leer 0x20)) 0x82 1 → ⊥
unfolding opened
here r = differ 0x81 0x82 refl (ap (first_or 0) r.here)

-- another count
compared : Looked base 0x81 2 → ⊥
unfolding opened
compared r = differ 2 1 refl r.compared

-- Open ------------------------------------------------------------------------------------------------------------------------------

-- by the main code, and by the worker code
abbrev ByMain : List ℕ → ℕ → Handle → Type 0
ByMain n len h = Opened six base n len true 0x1234 h

abbrev ByWorker : Handle → Type 0
ByWorker h = Opened six base leer 256 true 0x5678 h

called : ByMain neu 256 (held 0x81 neu 0 256 0) → ⊥
unfolding opened
called r = differ 0 1 refl (ap there_in r.called)

live : ByMain leer 256 (held 0x80 leer 0 256 0) → ⊥
unfolding opened
live r = differ 0x50 0x4c refl (ap (λ (n : List ℕ). get_or n 0 0) r.live.name')

dead : ByMain leer 256 (held 0x82 leer 0 256 0) → ⊥
unfolding opened
dead r = r.live.used

no_slot : ByMain leer 256 (held 0x28 leer 0 256 0) → ⊥
unfolding opened
no_slot r = r.live.slot

ranged : ByMain leer 0 (hold 0 0 0) → ⊥
ranged r = omega (arith, r.ranged.length'.0)

other_name : ByMain leer 256 (held 0x81 puls 0 256 0) → ⊥
other_name r = differ 0x50 0x4c refl (ap (λ (n : List ℕ). get_or n 0 0) r.name'')

start : ByMain leer 256 (hold 1 256 0) → ⊥
start r = differ 1 0 refl r.start

long : ByMain leer 256 (hold 0 255 0) → ⊥
long r = differ 255 256 refl r.length'

-- the main code gives level 0, the worker code alone the stored level
code_of : Found → ℕ
code_of nothing = 0
code_of (found f) = main_code f

code : (f : File) → plain six base leer ≡ found f → main_code f ≡ 0x1234
unfolding opened code_of
code f e = sym (ap code_of e)

full : ByMain leer 256 (hold 0 256 5) → ⊥
full r = differ 5 0 refl (r.full (inr (inr (sym (code r.file r.called)))))

worker : ByWorker (hold 0 256 0) → ⊥
unfolding opened
worker r = differ 0 5 refl ((r.worker none).1 ∙ sym (ap level_of r.called))
  where
    level_of : Found → ℕ
    level_of nothing = 0
    level_of (found f) = stored_level f

    none : (true ≡ false) ⊎ ((main_code r.file ≡ 0x9999) ⊎ (0x5678 ≡ main_code r.file)) → ⊥
    none (inl e) = never e
    none (inr (inl e)) = differ 0x1234 0x9999 refl (sym (code r.file r.called) ∙ e)
    none (inr (inr e)) = differ 0x5678 0x1234 refl (e ∙ code r.file r.called)

-- Create ----------------------------------------------------------------------------------------------------------------------------

abbrev new : NewFile
new = record { day = 9; month = 10; year = 3; len = 256; main = 0x1234; worker = 0x5678 }

abbrev Made : List ℕ → Bool → Handle → List ℕ → Type 0
Made n old h d' = Creates six base n new true (record { refusal = unplaced 0; old = old; handle = h }) d'

-- an old file is opened, and the disk is another
old-stands : Made leer true (hold 0 256 0) (but ((e82 + 7, 0x99) ∷ [])) → ⊥
old-stands r = differ 0x99 0 refl (ap (λ (d : List ℕ). get_or d (e82 + 7) 0) (r.old refl).1)

-- a file that is there is told as new
told-as-new : Made leer false (held 0x82 leer 0 256 0) base → ⊥
unfolding opened
told-as-new r = differ 1 0 refl (ap there_in (r.new refl).0.before)

new-level : Made neu false (held 0x82 neu 0 256 1) base → ⊥
new-level r = differ 1 0 refl (ap (λ (h : Handle). h.level) (r.handle' refl))

new-slot : Made neu false (held 0x83 neu 0 256 0) base → ⊥
unfolding opened
new-slot r = differ 0x83 0x82 refl (ap (λ (h : Handle). h.slot) (r.handle' refl))

-- Reads -----------------------------------------------------------------------------------------------------------------------------

-- n bytes at the start of LEER
abbrev Got : ℕ → Handle → List ℕ → Handle → List ℕ → Type 0
Got n h b h' b' = Reads six base h n b h' b'

size_in : Found → ℕ
size_in nothing = 0
size_in (found f) = length f.bytes

bytes_in : Found → List ℕ
bytes_in nothing = []
bytes_in (found f) = f.bytes

no-file : Got 1 (held 0x81 neu 0 1 0) (0 ∷ []) (held 0x81 neu 1 1 0) (0x63 ∷ []) → ⊥
unfolding opened
no-file r = differ 0 1 refl (ap there_in r.called)

inside : Got 3 (hold 0 3 0) (0 ∷ 0 ∷ 0 ∷ []) (hold 3 3 0) (0x63 ∷ 0x64 ∷ 0 ∷ []) → ⊥
unfolding opened size_in
inside r = let z : 2 ≡ length r.file.bytes = ap size_in r.called in omega (arith, z, r.inside)

other_byte : Got 1 (hold 0 1 0) (0 ∷ []) (hold 1 1 0) (0x64 ∷ []) → ⊥
unfolding opened bytes_in
other_byte r =
    let e : (0x63 ∷ 0x64 ∷ []) ≡ r.file.bytes = ap bytes_in r.called in
    differ 0x64 0x63 refl (ap (λ (b : List ℕ). get_or b 0 0) r.buffer ∙ ap (λ (b : List ℕ). get_or (take 1 (drop 0 b) ++ []) 0 0) (sym e))

stands : Got 1 (hold 0 1 0) (0 ∷ []) (hold 0 1 0) (0x63 ∷ []) → ⊥
stands r = differ 0 1 refl (ap (λ (h : Handle). h.at) r.handle')

over-level : Got 1 (hold 0 1 8) (0 ∷ []) (hold 1 1 8) (0x63 ∷ []) → ⊥
over-level r = omega (arith, r.ranged.level)

-- Read sector -----------------------------------------------------------------------------------------------------------------------

abbrev Lent : ℕ → ℕ → Type 0
Lent from to = ReadsSector six base (hold 0 256 0) 0 (record { refusal = unplaced 0; from = from; to = to })

empty : Lent 3840 3840 → ⊥
empty r = omega (arith, r.some)

too_many : Lent 3840 4097 → ⊥
too_many r = omega (arith, r.most)

past_the_end : Lent 7679 7681 → ⊥
unfolding opened
past_the_end r = omega (arith, r.inside)

elsewhere : Lent 2560 2562 → ⊥
unfolding opened bytes_in
elsewhere r =
    let e : (0x63 ∷ 0x64 ∷ []) ≡ r.file.bytes = ap bytes_in r.called in
    differ 0x61 0x63 refl (ap (λ (b : List ℕ). get_or b 0 0) r.part ∙ ap (λ (b : List ℕ). get_or (take 256 (drop 0 b)) 0 0) (sym e))

-- Listing, counts, free space -------------------------------------------------------------------------------------------------------

abbrev Told : ℕ → Listed → Type 0
Told i r = Lists six base i r

other-size : Told 1 (record { refusal = unplaced 0; more = true; name = leer; size = 3; granules = 1 }) → ⊥
unfolding opened
other-size r = differ 3 2 refl (ap (λ (x : Listed). x.size) (r.tells (omega arith)))

one_more : Told 2 (record { refusal = unplaced 0; more = true; name = leer; size = 2; granules = 1 }) → ⊥
unfolding opened
one_more r = differ 2 0 refl (ap (λ (x : Listed). x.size) (r.ends (omega arith)))

-- two files of one name, LEER's called PULS01/DAT too: the second stands in no list, and is told twice
abbrev twins : List ℕ
twins = written (but ((hits + 0x81, 0xc1) ∷ [])) (e81 + 5) puls

second-of-two : Lists six twins 1 (record { refusal = unplaced 0; more = true; name = puls; size = 2; granules = 1 }) → ⊥
unfolding opened
second-of-two r = differ 0x61 0x63 refl (ap first_in (r.file (omega arith)))

told-twice : Counted six twins (record { refusal = unplaced 0; files = 2; free = 1 }) → ⊥
unfolding opened
told-twice r =
    let w = r.told puls (record { attributes = attributes_of; granules = 1; bytes = 0x61 ∷ 0x62 ∷ [] }) refl tt in
    differ 0 1 refl (w.3 0 (omega arith) refl ∙ sym (w.3 1 (omega arith) refl))

files : Counted six base (record { refusal = unplaced 0; files = 3; free = 1 }) → ⊥
unfolding opened
files r = differ 3 2 refl r.files'

free : Counted six base (record { refusal = unplaced 0; files = 2; free = 2 }) → ⊥
unfolding opened
free r = differ 2 1 refl r.free

clear : Measured six base (record { refusal = unplaced 0; free = 2; longest = 1 }) → ⊥
unfolding opened
clear r = differ 2 1 refl r.clear

tally : Measured six base (record { refusal = unplaced 0; free = 2; longest = 1 }) → ⊥
unfolding opened
tally r = differ 7 6 refl (r.tally refl)

as-listed : Measured six base (record { refusal = unplaced 0; free = 2; longest = 1 }) → ⊥
unfolding opened
as-listed r = differ 1 2 refl (r.listing refl)

too_long : Measured six base (record { refusal = unplaced 0; free = 1; longest = 7 }) → ⊥
unfolding opened
too_long r = omega (arith, r.stretch.inside)

too_short : Measured six base (record { refusal = unplaced 0; free = 1; longest = 0 }) → ⊥
unfolding opened
too_short r = omega (arith, r.none-longer 5 1 (record { inside = omega arith; clear = λ k a b. at k (omega (arith, a, b)) }))
  where
    at : (k : ℕ) → k ≡ 5 → taken six base k ≡ false
    at k e = ap (taken six base) e

-- Calls that change a file ------------------------------------------------------------------------------------------------------------

-- nothing is done, by this handle, which becomes that one and should become the third
abbrev Done : Handle → Handle → Handle → Type 0
Done h h' moved = Changes six base base h h' (λ f. found f) moved

-- the handle's slot is another file's
mine : Done (held 0x80 leer 0 256 0) (held 0x80 leer 0 256 0) (held 0x80 leer 0 256 0) → ⊥
unfolding opened
mine r = differ 0x61 0x63 refl (ap (λ (f : File). get_or f.bytes 0 0) r.mine ∙ sym (ap first_in r.becomes.before))

becomes : Done (held 0x81 neu 0 256 0) (held 0x81 neu 0 256 0) (held 0x81 neu 0 256 0) → ⊥
unfolding opened
becomes r = differ 0 1 refl (ap there_in r.becomes.before)

moved : Done (hold 0 256 0) (hold 1 256 0) (hold 0 256 0) → ⊥
moved r = differ 1 0 refl (ap (λ (h : Handle). h.at) r.handle')

left-live : Done (hold 0 256 0) (held 0x82 leer 0 256 0) (held 0x82 leer 0 256 0) → ⊥
unfolding opened
left-live r = (r.live r.file refl).used

left-in-range : Done (hold 0 256 0) (hold 0 257 0) (hold 0 257 0) → ⊥
left-in-range r = omega (arith, r.ranged.length'.1)
