use Rattle.gate_log.proofs.Unique.{read_one_way}
use Rattle.gate_log.proofs.laws.records_are_read_one_way.Goals as goal

pub returns : goal.returns
returns c = read_one_way
