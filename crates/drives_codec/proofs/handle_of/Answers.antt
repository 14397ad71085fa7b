use Rattle.drives_codec.proofs.HandleBytes.{handle-none, handle-is}
use Rattle.drives_codec.proofs.handle_of.Goals as goal

-- src/lib.rt:13:9
pub returns-then-b-lt-HANDLE_BYTES : goal.returns-then-b-lt-HANDLE_BYTES
returns-then-b-lt-HANDLE_BYTES c = handle-none _ c.if-b-lt-HANDLE_BYTES.true c.no_handle.ensures c.handle_on.ensures

-- src/lib.rt:9:1
pub returns : goal.returns
returns c = let the-if1 = c.if-b-lt-HANDLE_BYTES in
    handle-is _ the-if1.false c.from.ensures c.handle_of.ensures c.handle_on-2.ensures
