use Rattle.records.proofs.Logs.{log_one_way}
use Rattle.records.proofs.Maps.{maplog_one_way}
use Rattle.records.proofs.laws.lists_are_read_one_way.Goals as goal

pub returns : goal.returns
returns c = record { log = log_one_way; maplog = maplog_one_way }
