use Rattle.std.proofs.Common.{arith}
use Rattle.records.proofs.Fields.{number_there}
use Rattle.records.proofs.decoding.u64_of.Goals as goal

pub returns : goal.returns
returns c = number_there 8 _ c.args.bytes.now (omega arith) c.get_u64.ensures
