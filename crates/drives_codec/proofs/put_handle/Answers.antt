use Rattle.drives_codec.proofs.HandleBytes.{put-none, put_is}
use Rattle.drives_codec.proofs.put_handle.Goals as goal

-- src/lib.rt:24:9
pub returns-then-b-lt-HANDLE_BYTES : goal.returns-then-b-lt-HANDLE_BYTES
returns-then-b-lt-HANDLE_BYTES c = put-none _ _ c.if-b-lt-HANDLE_BYTES.true

-- src/lib.rt:20:1
pub returns : goal.returns
returns c = let put-handle = c.put_handle in let if1 = c.if-b-lt-HANDLE_BYTES in put_is _ _ if1.false put-handle.ensures
