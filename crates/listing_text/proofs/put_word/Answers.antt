use lib.Seq.{sets, take-length}
use mathlib.Core.List.{List}
use mathlib.Core.Path.{refl, ap, ◌∙◌}
use native.Mathlib.Omega.{arith}
use Rattle.listing_text.proofs.put_word.Goals as goal

pub returns : goal.returns
returns c = let a = c.args in record {
  is = c.put_part.ensures ∙ ap (λ (bs : List _). sets a.to.now a.at bs) (take-length a.word.now);
  past = refl;
  fits =
      omega arith;
}
