use Rattle.play_trace.proofs.NumbersTell.{file-is, position-is, length-is, fill_is, zero_is, zero-not, bad-file, bad-position, bad-length, bad-fill}
use Rattle.play_trace.proofs.NumbersTell.{bad-zero, no-bad}
use Rattle.play_trace.proofs.bad_field.Goals as goal

-- src/lib.rt:166:9
pub returns-then-not-fine_file : goal.returns-then-not-fine_file
returns-then-not-fine_file c = let n = c.args.names in let m = c.args.m in bad-file n m (file-is n m c.fine_file.ensures c.if-not-fine_file.true)

-- src/lib.rt:169:9
pub returns-then-not-fine : goal.returns-then-not-fine
returns-then-not-fine c = let if1 = c.if-not-fine_file in let fine-file = c.fine_file in let a = c.args in let n = a.names in let m = a.m in
    bad-position n m (file-is n m fine-file.ensures if1.false)
    (position-is n m c.uses_position.ensures c.fine.ensures c.if-not-fine.true)

-- src/lib.rt:172:9
pub returns-then-not-fine-2 : goal.returns-then-not-fine-2
returns-then-not-fine-2 c = let if2 = c.if-not-fine in let fine = c.fine in let uses-position = c.uses_position in let if1 = c.if-not-fine_file in
    let fine-file = c.fine_file in let a = c.args in let n = a.names in let m = a.m in
    bad-length n m (file-is n m fine-file.ensures if1.false)
    (position-is n m uses-position.ensures fine.ensures if2.false)
    (length-is n m c.uses_length.ensures c.fine-2.ensures c.if-not-fine-2.true)

-- src/lib.rt:175:9
pub returns-then-not-fine-3 : goal.returns-then-not-fine-3
returns-then-not-fine-3 c = let uses-fill = c.uses_fill in let if3 = c.if-not-fine-2 in let fine2 = c.fine-2 in let uses-length = c.uses_length in
    let if2 = c.if-not-fine in let fine = c.fine in let uses-position = c.uses_position in let if1 = c.if-not-fine_file in
    let fine-file = c.fine_file in let a = c.args in let n = a.names in let m = a.m in
    bad-fill n m (file-is n m fine-file.ensures if1.false)
    (position-is n m uses-position.ensures fine.ensures if2.false)
    (length-is n m uses-length.ensures fine2.ensures if3.false)
    (fill_is n m uses-fill.ensures c.from.ensures c.fine-3.ensures c.if-not-fine-3.true)

-- src/lib.rt:178:9
pub returns-then-m-ne0 : goal.returns-then-m-ne0
returns-then-m-ne0 c = let fine3 = c.fine-3 in let from = c.from in let uses-fill = c.uses_fill in let if3 = c.if-not-fine-2 in
    let fine2 = c.fine-2 in let uses-length = c.uses_length in let if2 = c.if-not-fine in let fine = c.fine in let uses-position = c.uses_position in
    let if1 = c.if-not-fine_file in let fine-file = c.fine_file in let a = c.args in let n = a.names in let m = a.m in
    bad-zero n m (file-is n m fine-file.ensures if1.false)
    (position-is n m uses-position.ensures fine.ensures if2.false)
    (length-is n m uses-length.ensures fine2.ensures if3.false)
    (fill_is n m uses-fill.ensures from.ensures fine3.ensures c.if-not-fine-3.false)
    (zero-not n m c.if-m-ne0.true)

-- src/lib.rt:161:1
pub returns : goal.returns
returns c = let fine3 = c.fine-3 in let from = c.from in let uses-fill = c.uses_fill in let if3 = c.if-not-fine-2 in let fine2 = c.fine-2 in
    let uses-length = c.uses_length in let if2 = c.if-not-fine in let fine = c.fine in let uses-position = c.uses_position in
    let if1 = c.if-not-fine_file in let fine-file = c.fine_file in let a = c.args in let n = a.names in let m = a.m in
    no-bad n m (file-is n m fine-file.ensures if1.false)
    (position-is n m uses-position.ensures fine.ensures if2.false)
    (length-is n m uses-length.ensures fine2.ensures if3.false)
    (fill_is n m uses-fill.ensures from.ensures fine3.ensures c.if-not-fine-3.false)
    (zero_is n m c.if-m-ne0.false)
