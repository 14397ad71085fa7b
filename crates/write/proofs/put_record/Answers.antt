use lib.ListN.{take}
use Rattle.write.proofs.Parts.{gap-file, gap-apart, gap-then, recorded}
use Rattle.write.proofs.put_record.Goals as goal

pub write_bytes-requires : goal.write_bytes-requires
write_bytes-requires c = let pre = c.requires in let the-gap = c.saturating_sub in let the-clear-bytes = c.clear_bytes in let p = pre in (
  gap-file _ _ _ p.0 p.1 p.2 p.3 p.4 the-gap.ensures the-clear-bytes.ensures,
  gap-apart _ _ _ p.0 p.1 p.2 p.3 p.4
      the-gap.ensures the-clear-bytes.ensures,
  gap-then _ _ _ p.0 p.1 p.2 p.3 p.4 the-gap.ensures the-clear-bytes.ensures,
  p.5,
)

pub returns : goal.returns
returns c = let pre = c.requires in let the-gap = c.saturating_sub in let the-clear-bytes = c.clear_bytes in let a = c.args in let p = pre in
    recorded _ _ _ p.0 p.1 p.2 p.3 p.4 the-gap.ensures the-clear-bytes.ensures (take a.n a.src.now)
    c.write_bytes.ensures
