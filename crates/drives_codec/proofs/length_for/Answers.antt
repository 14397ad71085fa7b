use Rattle.drives_codec.proofs.HandleBytes.{length_none, length-is}
use Rattle.drives_codec.proofs.length_for.Goals as goal

-- src/lib.rt:36:9
pub returns-then-b-lt-HANDLE_BYTES : goal.returns-then-b-lt-HANDLE_BYTES
returns-then-b-lt-HANDLE_BYTES c = length_none _ _ c.if-b-lt-HANDLE_BYTES.true

-- src/lib.rt:32:1
pub returns-else-b-lt-HANDLE_BYTES : goal.returns-else-b-lt-HANDLE_BYTES
returns-else-b-lt-HANDLE_BYTES c = length-is _ _ c.if-b-lt-HANDLE_BYTES.false
