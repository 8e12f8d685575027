use Rattle.std.proofs.Common.{sym, arith}
use Rattle.std.proofs.lemmas.List.{take_all}
use Rattle.script.proofs.reading.first_bytes.Goals as goal

pub returns-else-bytes-gt-SCRIPT_BYTES : goal.returns-else-bytes-gt-SCRIPT_BYTES
returns-else-bytes-gt-SCRIPT_BYTES c = sym (take_all 4194305 c.args.bytes.now (omega arith))
