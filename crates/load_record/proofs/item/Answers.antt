use Rattle.load_record.proofs.Items.{no_code, unknown, no-count, bad-one, cut_off, there}
use Rattle.load_record.proofs.Bytes.{long}
use mathlib.Core.Path.{ap}
use mathlib.Core.Bool.{not}
use Rattle.load_record.proofs.item.Goals as goal

pub returns-then-size-i : goal.returns-then-size-i
returns-then-size-i c = no_code _ _ (long _ _ _ c.requires.0) c.if-size-i.true c.broken.ensures

pub returns-then-not-is_code : goal.returns-then-not-is_code
returns-then-not-is_code c = let byte_at = c.byte_at-code in let if1 = c.if-size-i in let p = c.requires in
    unknown _ _ (long _ _ _ p.0) if1.false byte_at.ensures.is c.is_code.ensures (ap not c.if-not-is_code.true) c.broken-then-not-is_code.ensures

pub returns-then-size-i-2 : goal.returns-then-size-i-2
returns-then-size-i-2 c = let is_code = c.is_code in let byte_at = c.byte_at-code in let if1 = c.if-size-i in let p = c.requires in
    no-count _ _ (long _ _ _ p.0) if1.false byte_at.ensures.is is_code.ensures (ap not c.if-not-is_code.false) c.if-size-i-2.true
    c.broken-then-size-i-2.ensures

pub returns-then-bad_count : goal.returns-then-bad_count
returns-then-bad_count c = let byte-at2 = c.byte_at-count in let if3 = c.if-size-i-2 in let if2 = c.if-not-is_code in let is_code = c.is_code in
    let byte_at = c.byte_at-code in let if1 = c.if-size-i in let p = c.requires in
    bad-one _ _ (long _ _ _ p.0) if1.false byte_at.ensures.is is_code.ensures (ap not if2.false) if3.false byte-at2.ensures.is
    c.bad_count.ensures c.if-bad_count.true c.broken-then-bad_count.ensures

pub returns-then-size-i-3 : goal.returns-then-size-i-3
returns-then-size-i-3 c = let if4 = c.if-bad_count in let bad-count = c.bad_count in let byte-at2 = c.byte_at-count in let if3 = c.if-size-i-2 in
    let if2 = c.if-not-is_code in let is_code = c.is_code in let byte_at = c.byte_at-code in let if1 = c.if-size-i in let p = c.requires in
    cut_off _ _ (long _ _ _ p.0) if1.false byte_at.ensures.is is_code.ensures (ap not if2.false) if3.false byte-at2.ensures.is bad-count.ensures
    if4.false c.follows-rest.ensures.0 c.if-size-i-3.true c.broken-then-size-i-3.ensures

pub returns : goal.returns
returns c = let bad-count = c.bad_count in let byte-at2 = c.byte_at-count in let if3 = c.if-size-i-2 in let if2 = c.if-not-is_code in
    let is_code = c.is_code in let byte_at = c.byte_at-code in let if1 = c.if-size-i in let p = c.requires in
    there _ _ (long _ _ _ p.0) if1.false byte_at.ensures.is is_code.ensures (ap not if2.false) if3.false byte-at2.ensures.is bad-count.ensures
    c.if-bad_count.false c.follows-rest.ensures.0 c.if-size-i-3.false c.follows-rest.ensures.1
