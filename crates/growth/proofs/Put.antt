-- What the stores of a growth leave.
use mathlib.Core.Path.{◌≡◌, refl, ap, ap₂, sym, ◌∙◌}
use mathlib.Core.Bool.{Bool, true, false, not, cond}
use mathlib.Core.List.{List, ◌++◌}
use Prim.Native.Nat.{ℕ, ◌+◌, ◌-◌, ◌*◌, ◌≤◌}
use native.Mathlib.Omega.{arith}
use lib.ListN.{length, set, take, drop, length-set, take-append-drop}
use lib.Seq.{sets, length-sets, drop-drop}
use Rattle.meaning.specs.Layout.{byte, entry_at, hit_at, hit, set_field}
use Rattle.meaning.specs.Entries.{set_link}
use Rattle.meaning.specs.Growth.{new_extension, with_extension}
use Rattle.meaning.specs.declared.Geometry.{Geometry}
use Rattle.growth.specs.Choose.{OnlyGat}

pub extension-put : (g : Geometry) (p : ℕ) (d : List ℕ) (e x : ℕ) {d₁ d₂ : List ℕ} {hash : ℕ} → hash ≡ byte d (hit_at g p) → d₁ ≡ set_link g d e 0xfe x
    → d₂ ≡ set (sets d₁ (entry_at g x) (new_extension e)) (hit_at g x) hash → d₂ ≡ with_extension g p d e x
unfolding hit
extension-put g p d e x h l q = q ∙ ap₂ (λ (y : List ℕ) (v : ℕ). set (sets y (entry_at g x) (new_extension e)) (hit_at g x) v) l h

pub extended-long : (g : Geometry) (p : ℕ) (d : List ℕ) (e x : ℕ) → length (with_extension g p d e x) ≡ length d
unfolding set_field
extended-long g p d e x = simp (length-sets, length-set)

-- a store that is made, and one that is not
pub stored : (f : List ℕ → List ℕ) (b : Bool) (x y d : List ℕ) → not b ≡ false → x ≡ f y → x ≡ f (cond b y d)
stored f true x y d e q = q
stored f false x y d e q = absurd (let z : ◌≡◌ {A = ℕ} 0 1 = ap (λ (b : Bool). cond b 1 0) (sym e) in let w : ⊥ = omega arith in w)

pub not-stored : (f : List ℕ → List ℕ) (b : Bool) (x y d : List ℕ) → not b ≡ true → x ≡ f d → x ≡ f (cond b y d)
not-stored f false x y d e q = q
not-stored f true x y d e q = absurd (let z : ◌≡◌ {A = ℕ} 0 1 = ap (λ (b : Bool). cond b 1 0) e in let w : ⊥ = omega arith in w)

pub writes-yes : (b : Bool) → not b ≡ false → b ≡ true
writes-yes true e = refl
writes-yes false e = sym e

-- The GAT put back as it was: s is what was kept of it, d₃ the image with s in its place
pub put_back : (g : Geometry) (d d₂ : List ℕ) {d₃ s : List ℕ} {at : ℕ} → OnlyGat g d d₂ → 256 * g.start + 192 ≤ length d → at ≡ 256 * g.start + 0
    → s ≡ take (at + 192 - at) (drop at d) → d₃ ≡ take at d₂ ++ (s ++ drop (at + 192 - at) (drop at d₂)) → d₃ ≡ d
put_back g d d₂ {d₃} {s} {at} o h t e q =
    let n : at + 192 - at ≡ 192 = omega arith in
    let a : at ≡ 256 * g.start = omega arith in
    let kept : s ≡ take 192 (drop at d) = e ∙ ap (λ (m : ℕ). take m (drop at d)) n in
    let below : take at d₂ ≡ take at d = ap (λ (i : ℕ). take i d₂) a ∙ o.below ∙ ap (λ (i : ℕ). take i d) (sym a) in
    let behind : drop 192 (drop at d₂) ≡ drop 192 (drop at d) =
    drop-drop 192 at d₂ ∙ ap (λ (i : ℕ). drop (i + 192) d₂) a ∙ o.behind ∙ ap (λ (i : ℕ). drop (i + 192) d) (sym a) ∙ sym (drop-drop 192 at d) in
    q ∙ ap (λ (m : ℕ). take at d₂ ++ (s ++ drop m (drop at d₂))) n ∙ ap₂ (λ (x y : List ℕ). x ++ (y ++ drop 192 (drop at d₂))) below kept
    ∙ ap (λ (y : List ℕ). take at d ++ (take 192 (drop at d) ++ y)) behind ∙ ap (λ (y : List ℕ). take at d ++ y) (take-append-drop 192 (drop at d)) ∙
    take-append-drop at d
