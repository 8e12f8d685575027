use Rattle.records.proofs.Short.{bases_are_short, records_are_short}
use Rattle.records.proofs.Spelling.{one_entry}
use Rattle.records.proofs.laws.laws_of_records.Goals as goal

pub returns : goal.returns
returns c = record { one_entry = one_entry; short = records_are_short; bases = bases_are_short }
