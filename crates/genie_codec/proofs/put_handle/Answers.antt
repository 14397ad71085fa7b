use Rattle.genie_codec.proofs.WholeSlice.{numbers-then-name}
use Rattle.genie_codec.proofs.put_handle.Goals as goal

pub returns : goal.returns
returns c = let put-part = c.put_part in let a = c.args in numbers-then-name a.b.now a.h put-part.ensures c.put_name.ensures
