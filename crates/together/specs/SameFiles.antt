-- Files that are told alike, a system file's bytes apart, are the same
use Rattle.std.specs.Prelude.{◌≡◌, refl, Bool, true, false, not, cond, List, [], ℕ, length, get_or, replicate, T}
use Rattle.std.proofs.Common.{ap, sym, ◌∙◌, subst, arith, T_not}
use Rattle.std.proofs.lemmas.List.{length-replicate}
use Rattle.meaning.specs.Bits.{bit}
use Rattle.meaning.specs.Plain.{File, Found, found, nothing, is_system}
use Rattle.promises_words.specs.Untouched.{hush}
use Rattle.lists.specs.Members
use Rattle.laws.specs.Named
use Rattle.together.specs.Statement.{Alike, Same, neither, both}

attributes_of : Found → List ℕ
attributes_of nothing = []
attributes_of (found f) = f.attributes

granules_of : Found → ℕ
granules_of nothing = 0
granules_of (found f) = f.granules

bytes_of : Found → List ℕ
bytes_of nothing = []
bytes_of (found f) = f.bytes

present : Found → ℕ
present nothing = 0
present (found f) = 1

hush-length : (f : File) → length (bytes_of (hush (found f))) ≡ length f.bytes
unfolding hush bytes_of
hush-length f = go (is_system f)
  where
    go : (b : Bool) → length (cond b (replicate (length f.bytes) 0) f.bytes) ≡ length f.bytes
    go true = length-replicate (length f.bytes) 0
    go false = refl

user-bytes : (f : File) → T (not (is_system f)) → bytes_of (hush (found f)) ≡ f.bytes
unfolding hush bytes_of
user-bytes f u = rw (Members.no_false {b = is_system f} (T_not (is_system f) u))

-- what is told alike is the same
pub hushed-same : (x y : Found) → hush x ≡ hush y → Same x y
unfolding attributes_of granules_of present hush
hushed-same nothing nothing e = neither
hushed-same nothing (found f) e = absurd (let z : 0 ≡ 1 = ap present e in omega arith)
hushed-same (found f) nothing e = absurd (let z : 1 ≡ 0 = ap present e in omega arith)
hushed-same (found f) (found f') e =
    let a : f.attributes ≡ f'.attributes = ap attributes_of e in
    both (record {
      attributes = a;
      size = sym (hush-length f) ∙ ap (λ (x : Found). length (bytes_of x)) e ∙ hush-length f';
      granules = ap granules_of e;
      bytes = λ u. sym (user-bytes f u) ∙ ap bytes_of e ∙ user-bytes f' (subst (λ (l : List ℕ). T (not (bit 6 (get_or l 0 0)))) a u);
    })

-- a file that is the same as one that is no system file is equal to it
alike-eq : (f f' : File) → Alike f f' → T (not (is_system f)) → f' ≡ f
alike-eq f f' a u = λ i. record { attributes = sym a.attributes i; granules = sym a.granules i; bytes = sym (a.bytes u) i }

pub same_whole : (x y : Found) → Same x y → (f : File) → x ≡ found f → T (not (is_system f)) → y ≡ found f
unfolding present
same_whole nothing nothing neither f e u = absurd (let z : 0 ≡ 1 = ap present e in omega arith)
same_whole (found f₀) (found f') (both a) f e u =
    let z = Named.found-inj f₀ f e in ap {B = Found} found (alike-eq f₀ f' a (subst (λ (y : File). T (not (is_system y))) (sym z) u) ∙ z)
same_whole (found f₀) nothing x f e u = elim x [ ]
same_whole nothing (found f') x f e u = elim x [ ]
