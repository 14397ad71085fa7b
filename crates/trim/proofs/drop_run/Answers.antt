use mathlib.Core.Path.{sym, ◌∙◌}
use Rattle.trim.proofs.Runs.{length-read, start-read, one_of, on-disk, short-fits, gone-fits, hook-fits, run-stays, run-goes, entry-goes, fewer-left}
use Rattle.trim.proofs.Trimming.{last-reads, last-run, not_first, is-first}
use Rattle.meaning.specs.Entries.{extension}
use native.Mathlib.Omega.{arith}
use Prim.Native.Nat.{◌-◌}
use Rattle.trim.proofs.drop_run.Goals as goal
use Rattle.trim.proofs.drop_run.Goals.{else-extension-via-then-extension+else-k-eq0, else-extension-via-else-extension}

pub invariant_of-disk : goal.invariant_of-disk
invariant_of-disk c = record { room = (last-reads _ _ _ _ (one_of c.requires.0 c.requires.1)).0 }

pub runs-k-requires : goal.runs-k-requires
runs-k-requires c = (last-reads _ _ _ _ (one_of c.requires.0 c.requires.1)).1

pub overflow_sub-k : goal.overflow_sub-k
overflow_sub-k c = let a = c.args in omega (
  arith,
  c.runs-k.ensures.is,
  (last-run a.g a.image.now a.p a.e
      (one_of c.requires.0 c.requires.1)).0,
)

pub field-block-requires : goal.field-block-requires
field-block-requires c = let a = c.args in let o = one_of c.requires.0 c.requires.1 in
    let l = last-reads a.g a.image.now a.p a.e o in let w = last-run a.g a.image.now a.p a.e o in
    (l.1, omega (arith, c.runs-k.ensures.is))

pub field-second-requires : goal.field-second-requires
field-second-requires c = let a = c.args in let o = one_of c.requires.0 c.requires.1 in
    let l = last-reads a.g a.image.now a.p a.e o in let w = last-run a.g a.image.now a.p a.e o in
    (l.1, omega (arith, c.runs-k.ensures.is))

pub free_run-requires : goal.free_run-requires
free_run-requires c =
    let q = c.field-second.ensures.is in let length-is = length-read _ _ _ _ q in let start-is = start-read _ _ _ _ q c.field-block.ensures.is in
    let h = on-disk _ _ _ _ _ c.requires.0
    c.requires.1 c.runs-k.ensures.is
    length-is start-is in (
      (last-reads _ _ _ _ (one_of c.requires.0
          c.requires.1)).0,
      omega arith,
    )

pub shorten-requires : goal.shorten-requires
shorten-requires c =
    let q = c.field-second.ensures.is in let length-is = length-read _ _ _ _ q in let start-is = start-read _ _ _ _ q c.field-block.ensures.is in
    let free-run = c.free_run in let if1 = c.if-n-len in
    let runs = c.runs-k in let p = c.requires in
    short-fits _ _ _ _ _ p.0 p.1 runs.ensures.is length-is start-is if1.true free-run.ensures

pub returns-then-n-len : goal.returns-then-n-len
returns-then-n-len c =
    let q = c.field-second.ensures.is in let length-is = length-read _ _ _ _ q in let start-is = start-read _ _ _ _ q c.field-block.ensures.is in
    let free-run = c.free_run in let if1 = c.if-n-len in
    let runs = c.runs-k in let p = c.requires in (
      run-stays _ _ _ _ _ p.0 p.1 runs.ensures.is length-is start-is if1.true free-run.ensures
          c.shorten.ensures,
      p.1,
    )

pub flag-extension-requires : goal.flag-extension-requires
flag-extension-requires c = let l = last-reads _ _ _ _ (one_of c.requires.0 c.requires.1) in (l.1, omega arith)

pub field-before-requires : goal.field-before-requires
field-before-requires c = let l = last-reads _ _ _ _
    (one_of c.requires.0
    c.requires.1) in
    (l.1, omega arith)

pub free_run-requires-2 : goal.free_run-requires-2
free_run-requires-2 c =
    let q = c.field-second.ensures.is in let length-is = length-read _ _ _ _ q in let start-is = start-read _ _ _ _ q c.field-block.ensures.is in
    let runs = c.runs-k in let p = c.requires in
    ((last-reads _ _ _ _ (one_of p.0 p.1)).0, on-disk _ _ _ _ _ p.0 p.1 runs.ensures.is length-is start-is)

pub empty_pair-requires : goal.empty_pair-requires
empty_pair-requires c =
    let q = c.field-second.ensures.is in let length-is = length-read _ _ _ _ q in let start-is = start-read _ _ _ _ q c.field-block.ensures.is in
    let free-run2 = c.free_run-2 in let runs = c.runs-k in
    let p = c.requires in gone-fits _ _ _ _ _ p.0 p.1 runs.ensures.is length-is start-is free-run2.ensures

pub unhook-requires : goal.unhook-requires
unhook-requires c =
    let q = c.field-second.ensures.is in let length-is = length-read _ _ _ _ q in let start-is = start-read _ _ _ _ q c.field-block.ensures.is in
    let empty-pair = c.empty_pair in let free-run2 = c.free_run-2 in let field2 = c.field-before in let flag = c.flag-extension in
    let a = c.args in hook-fits _ _ _ _ _ c.requires.0
    c.requires.1
    c.runs-k.ensures.is length-is
    start-is free-run2.ensures
    empty-pair.ensures
    (sym flag.ensures ∙ c.if-extension.true) field2.ensures.is

pub returns-then-k-eq0 : goal.returns-then-k-eq0
returns-then-k-eq0 c =
    let q = c.field-second.ensures.is in let length-is = length-read _ _ _ _ q in let start-is = start-read _ _ _ _ q c.field-block.ensures.is in
    let if3 = c.if-k-eq0 in let if2 = c.if-extension in let empty-pair = c.empty_pair in let free-run2 = c.free_run-2 in
    let field2 = c.field-before in let flag = c.flag-extension in let if1 = c.if-n-len in
    let runs = c.runs-k in let a = c.args in let p = c.requires in (
      entry-goes _ _ _ _ _ p.0 p.1 runs.ensures.is length-is start-is if1.false free-run2.ensures
          empty-pair.ensures c.unhook.ensures (sym flag.ensures ∙ c.if-extension.true)
          if3.true field2.ensures.is,
      fewer-left _ _ _ _ _ p.0 p.1 runs.ensures.is length-is start-is
          if1.false,
    )

pub returns : goal.returns
returns c =
    let q = c.field-second.ensures.is in let length-is = length-read _ _ _ _ q in let start-is = start-read _ _ _ _ q c.field-block.ensures.is in
    let empty-pair = c.empty_pair in let free-run2 = c.free_run-2 in let flag = c.flag-extension in let if1 = c.if-n-len in
    let runs = c.runs-k in let a = c.args in let p = c.requires in (
      run-goes _ _ _ _ _ p.0 p.1 runs.ensures.is length-is start-is if1.false free-run2.ensures
          empty-pair.ensures (elim c.else-extension.branch [
            | else-extension-via-then-extension+else-k-eq0 w ↦ not_first (extension a.g a.image.now a.e) (runs.result - 1) w.if-k-eq0.false
            | else-extension-via-else-extension w ↦ is-first (sym flag.ensures ∙ w.if-extension.false) (runs.result - 1)
          ]),
      fewer-left _ _ _ _ _
          p.0 p.1 runs.ensures.is length-is start-is if1.false,
    )
