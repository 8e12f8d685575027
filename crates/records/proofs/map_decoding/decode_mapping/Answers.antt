use Rattle.std.proofs.Common.{arith}
use Rattle.records.proofs.MapSpelling.{is_found}
use Rattle.records.proofs.map_decoding.decode_mapping.Goals as goal

pub returns : goal.returns
returns c = is_found c.args.version c.args.bytes.now c.whole.result (λ i. omega (arith, c.type_inv.bytes i)) c.whole.ensures
