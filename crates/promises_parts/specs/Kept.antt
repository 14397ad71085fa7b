-- A theorem for each promise
use Rattle.promises_parts.specs.Statement.{EveryRead, EveryQuietWrite, EveryLength}
use Rattle.promises_parts.specs.Reads
use Rattle.promises_parts.specs.Writes
use Rattle.promises_parts.specs.Length

pub every-read : EveryRead
every-read g d h ns b e = Reads.read-in-parts g d h ns b e

pub every-quiet-write : EveryQuietWrite
every-quiet-write g d m h n ns b e z = Writes.written-in-parts g d m h n ns b e z

pub every-length : EveryLength
every-length g d h len n b r s = Length.length-apart g d h len n b r s
