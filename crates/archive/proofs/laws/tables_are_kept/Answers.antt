use Rattle.archive.proofs.Tables.{table_is_shown, table_stays}
use Rattle.archive.proofs.laws.tables_are_kept.Goals as goal

pub returns : goal.returns
returns c = record { stays = table_stays; shown = table_is_shown }
