use Rattle.name_hash.proofs.Turning.{both-start, both-more, one_more, type-last, short-last, name-bytes, short-bytes}
use lib.ListN.{get_or}
use lib.Bits.{bit_xor}
use Prim.Native.Nat.{ℕ, ◌<◌}
use mathlib.Core.Path.{sym, ap, ◌∙◌}
use Rattle.name_hash.proofs.name_mixed.Goals as goal

pub returns-then-four_blanks : goal.returns-then-four_blanks
returns-then-four_blanks c = let turned3 = c.turned-h-3 in let turned2 = c.turned-h-2 in let turned = c.turned-h in
    let shared-slice-known = c.shared_slice_known-1 in let a = c.args in let p = c.requires in let n = a.name.now in
    let k : (i : ℕ) → get_or n i 0 < 256 = λ i. (shared-slice-known.given i).fits in
    let w1 = both-start (get_or n 0 0) (get_or n 8 0) (k 0) (k 8) turned.ensures in
    let w2 = both-more (get_or n 1 0) (get_or n 9 0) w1 (k 1) (k 9) turned2.ensures in
    let w3 = both-more (get_or n 2 0) (get_or n 10 0) w2 (k 2) (k 10) turned3.ensures in
    let w4 = one_more (get_or n 3 0) w3 (k 3) c.turned-h-4.ensures in
    ap (λ (j : ℕ). bit_xor j 0x1e) c.rotate_right.ensures ∙ short-last (get_or n 8 0) (get_or n 9 0) (get_or n 10 0) (k 8) (k 9) (k 10) w4 ∙
    short-bytes n p (sym c.four_blanks.ensures ∙ c.if-four_blanks.true)

pub returns : goal.returns
returns c = let turned6 = c.turned-h-6 in let turned5 = c.turned-h-5 in let turned4 = c.turned-h-4 in let turned3 = c.turned-h-3 in
    let turned2 = c.turned-h-2 in let turned = c.turned-h in let shared-slice-known = c.shared_slice_known-1 in let a = c.args in let p = c.requires in
    let n = a.name.now in
    let k : (i : ℕ) → get_or n i 0 < 256 = λ i. (shared-slice-known.given i).fits in
    let w1 = both-start (get_or n 0 0) (get_or n 8 0) (k 0) (k 8) turned.ensures in
    let w2 = both-more (get_or n 1 0) (get_or n 9 0) w1 (k 1) (k 9) turned2.ensures in
    let w3 = both-more (get_or n 2 0) (get_or n 10 0) w2 (k 2) (k 10) turned3.ensures in
    let w4 = one_more (get_or n 3 0) w3 (k 3) turned4.ensures in
    let w5 = one_more (get_or n 4 0) w4 (k 4) turned5.ensures in
    let w6 = one_more (get_or n 5 0) w5 (k 5) turned6.ensures in
    let w7 = one_more (get_or n 6 0) w6 (k 6) c.turned-h-7.ensures in
    let w8 = one_more (get_or n 7 0) w7 (k 7) c.turned-h-8.ensures in
    c.rotate_left.ensures ∙ type-last (get_or n 8 0) (get_or n 9 0) (get_or n 10 0) (k 8) (k 9) (k 10) w8 ∙ sym (name-bytes n p)
