-- The words of `meaning` that the theorems look through, opened by one name: `unfolding words` opens them all.
use Rattle.std.specs.Prelude.{Bool, true}
use Rattle.meaning.specs.Lists.{all, any}
use Rattle.meaning.specs.Layout.{granules, taken, take_granule, free_granule, hit, directory_sectors, is_slot, field, set_field}
use Rattle.meaning.specs.Entries.{size_of}
use Rattle.meaning.specs.Consistent.{length_holds, hit_holds, hash_holds, name_holds, pairs_hold, follows_by, link_holds_by, runs_hold, gat_holds, size_holds}
use Rattle.meaning.specs.Consistent.{off_directory, slot_holds, file_holds}
use Rattle.meaning.specs.Kill.{kill_entry}
use Rattle.meaning.specs.BringBack.{back_entry}
use Rattle.meaning.specs.Free.{permitted, free_slot}
use Rattle.meaning.specs.Growth.{lengthens}
use Rattle.meaning.specs.Refusals.{new_in_range}
use Rattle.meaning.specs.Handles.{in_range, fresh}
use Rattle.meaning.specs.Open.{full, admits}
use Rattle.meaning.specs.LookUp.{candidates, carries, named}
use Rattle.meaning.specs.Read.{fetch}

unfoldable pub words : Bool
unfolding all any granules taken take_granule free_granule hit directory_sectors is_slot field set_field size_of length_holds hit_holds hash_holds
    name_holds pairs_hold follows_by link_holds_by runs_hold gat_holds size_holds off_directory slot_holds file_holds kill_entry back_entry permitted
    free_slot lengthens in_range new_in_range full admits fresh candidates carries named fetch
words = true
