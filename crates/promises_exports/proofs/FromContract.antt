-- From what an export's contract says of its answer to what is promised of the call: one law an export.
use Prim.Native.Nat.{ℕ}
use mathlib.Core.Path.{◌≡◌, sym, ap, subst}
use mathlib.Core.Bool.{Bool}
use mathlib.Core.List.{List, [], ◌∷◌}
use Rattle.meaning.specs.Amount.{one_record, whole_buffer}
use Rattle.meaning.specs.declared.Geometry.{Geometry}
use Rattle.meaning.specs.declared.NewFile.{NewFile}
use Rattle.genie.specs.Exports.{exported_check, exported_look_up, exported_open, exported_create, exported_read_record, exported_read_bytes}
use Rattle.genie.specs.Exports.{exported_read_sector}
use Rattle.genie.specs.Exports.{exported_write_record, exported_write_bytes, exported_allot, exported_trim, exported_kill, exported_list}
use Rattle.genie.specs.Exports.{exported_count, exported_free}
use Rattle.promises_exports.specs.Host.{left, HostPromise}
use Rattle.promises_exports.specs.Host.{checks, looks_up, opens, creates, reads, reads_sector, writes, allots, trims, kills, lists, counts, measures}
use Rattle.promises_exports.specs.Proved.{promise-by}

-- of a call whose answer is said as one value of another type: what holds of what the contract says holds of the answer
pub of-answer : {A : Type 0} (P : A → Type 0) {x y : A} → x ≡ y → P y → P x
of-answer P e q = subst P (sym e) q

module _ (g : Geometry) (d : List ℕ) where
  pub checked : {t : ℕ × ℕ} → t ≡ exported_check g d → HostPromise g d checks (left t.0 d [] [] (t.1 ∷ []))
  checked e = promise-by g d checks (ap (λ (t : ℕ × ℕ). left t.0 d [] [] (t.1 ∷ [])) e)

  pub looked-up : (n : List ℕ) {t : ℕ × ℕ × ℕ × ℕ × ℕ} → t ≡ exported_look_up g d n
      → HostPromise g d (looks_up n) (left t.0 d [] [] (t.1 ∷ t.2 ∷ t.3 ∷ t.4 ∷ []))
  looked-up n e = promise-by g d (looks_up n) (ap (λ (t : ℕ × ℕ × ℕ × ℕ × ℕ). left t.0 d [] [] (t.1 ∷ t.2 ∷ t.3 ∷ t.4 ∷ [])) e)

  pub opened : (n : List ℕ) (len : ℕ) (checking : Bool) (code : ℕ) (b : List ℕ) {t : ℕ × ℕ × ℕ × List ℕ} → t ≡ exported_open g d n len checking code b
      → HostPromise g d (opens n len checking code b) (left t.0 d t.3 [] (t.1 ∷ t.2 ∷ []))
  opened n len checking code b e = promise-by g d (opens n len checking code b)
      (ap (λ (t : ℕ × ℕ × ℕ × List ℕ). left t.0 d t.3 [] (t.1 ∷ t.2 ∷ [])) e)

  pub created : (n : List ℕ) (f : NewFile) (checking : Bool) (b : List ℕ) {t : ℕ × ℕ × ℕ × ℕ × List ℕ × List ℕ} → t ≡ exported_create g d n f checking b
      → HostPromise g d (creates n f checking b) (left t.0 t.5 t.4 [] (t.1 ∷ t.2 ∷ t.3 ∷ []))
  created n f checking b e = promise-by g d (creates n f checking b)
      (ap (λ (t : ℕ × ℕ × ℕ × ℕ × List ℕ × List ℕ). left t.0 t.5 t.4 [] (t.1 ∷ t.2 ∷ t.3 ∷ [])) e)

  pub record-read : (b : List ℕ) (x : List ℕ) {t : ℕ × ℕ × List ℕ × List ℕ} → t ≡ exported_read_record g d b x
      → HostPromise g d (reads one_record b x) (left t.0 d t.2 t.3 (t.1 ∷ []))
  record-read b x e = promise-by g d (reads one_record b x) (ap (λ (t : ℕ × ℕ × List ℕ × List ℕ). left t.0 d t.2 t.3 (t.1 ∷ [])) e)

  pub bytes_read : (b : List ℕ) (x : List ℕ) {t : ℕ × ℕ × List ℕ × List ℕ} → t ≡ exported_read_bytes g d b x
      → HostPromise g d (reads whole_buffer b x) (left t.0 d t.2 t.3 (t.1 ∷ []))
  bytes_read b x e = promise-by g d (reads whole_buffer b x) (ap (λ (t : ℕ × ℕ × List ℕ × List ℕ). left t.0 d t.2 t.3 (t.1 ∷ [])) e)

  pub sector-read : (b : List ℕ) (k : ℕ) {t : ℕ × ℕ × ℕ × ℕ} → t ≡ exported_read_sector g d b k
      → HostPromise g d (reads_sector b k) (left t.0 d b [] (t.1 ∷ t.2 ∷ t.3 ∷ []))
  sector-read b k e = promise-by g d (reads_sector b k) (ap (λ (t : ℕ × ℕ × ℕ × ℕ). left t.0 d b [] (t.1 ∷ t.2 ∷ t.3 ∷ [])) e)

  pub record-written : (b : List ℕ) (m : Bool) (x : List ℕ) {t : ℕ × ℕ × List ℕ × List ℕ} → t ≡ exported_write_record g d b m x
      → HostPromise g d (writes one_record m b x) (left t.0 t.3 t.2 x (t.1 ∷ []))
  record-written b m x e = promise-by g d (writes one_record m b x) (ap (λ (t : ℕ × ℕ × List ℕ × List ℕ). left t.0 t.3 t.2 x (t.1 ∷ [])) e)

  pub bytes-written : (b : List ℕ) (m : Bool) (x : List ℕ) {t : ℕ × ℕ × List ℕ × List ℕ} → t ≡ exported_write_bytes g d b m x
      → HostPromise g d (writes whole_buffer m b x) (left t.0 t.3 t.2 x (t.1 ∷ []))
  bytes-written b m x e = promise-by g d (writes whole_buffer m b x) (ap (λ (t : ℕ × ℕ × List ℕ × List ℕ). left t.0 t.3 t.2 x (t.1 ∷ [])) e)

  pub allotted : (b : List ℕ) (k : ℕ) {t : ℕ × ℕ × List ℕ} → t ≡ exported_allot g d b k → HostPromise g d (allots b k) (left t.0 t.2 b [] (t.1 ∷ []))
  allotted b k e = promise-by g d (allots b k) (ap (λ (t : ℕ × ℕ × List ℕ). left t.0 t.2 b [] (t.1 ∷ [])) e)

  pub trimmed : (b : List ℕ) {t : ℕ × ℕ × List ℕ} → t ≡ exported_trim g d b → HostPromise g d (trims b) (left t.0 t.2 b [] (t.1 ∷ []))
  trimmed b e = promise-by g d (trims b) (ap (λ (t : ℕ × ℕ × List ℕ). left t.0 t.2 b [] (t.1 ∷ [])) e)

  pub killed : (b : List ℕ) {t : ℕ × ℕ × List ℕ} → t ≡ exported_kill g d b → HostPromise g d (kills b) (left t.0 t.2 b [] (t.1 ∷ []))
  killed b e = promise-by g d (kills b) (ap (λ (t : ℕ × ℕ × List ℕ). left t.0 t.2 b [] (t.1 ∷ [])) e)

  pub listed : (i : ℕ) (b : List ℕ) {t : ℕ × ℕ × ℕ × ℕ × ℕ × List ℕ} → t ≡ exported_list g d i b
      → HostPromise g d (lists i b) (left t.0 d [] t.5 (t.1 ∷ t.2 ∷ t.3 ∷ t.4 ∷ []))
  listed i b e = promise-by g d (lists i b) (ap (λ (t : ℕ × ℕ × ℕ × ℕ × ℕ × List ℕ). left t.0 d [] t.5 (t.1 ∷ t.2 ∷ t.3 ∷ t.4 ∷ [])) e)

  pub counted : {t : ℕ × ℕ × ℕ × ℕ} → t ≡ exported_count g d → HostPromise g d counts (left t.0 d [] [] (t.1 ∷ t.2 ∷ t.3 ∷ []))
  counted e = promise-by g d counts (ap (λ (t : ℕ × ℕ × ℕ × ℕ). left t.0 d [] [] (t.1 ∷ t.2 ∷ t.3 ∷ [])) e)

  pub measured : {t : ℕ × ℕ × ℕ} → t ≡ exported_free g d → HostPromise g d measures (left t.0 d [] [] (t.1 ∷ t.2 ∷ []))
  measured e = promise-by g d measures (ap (λ (t : ℕ × ℕ × ℕ). left t.0 d [] [] (t.1 ∷ t.2 ∷ [])) e)
