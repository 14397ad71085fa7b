use Rattle.meaning.specs.Layout.{hit, directory_sectors}
use Rattle.layout.proofs.Disk.directory_sectors.Goals as goal

pub returns : goal.returns
unfolding hit directory_sectors
returns c = cc
