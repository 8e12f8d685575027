use Rattle.std.proofs.Common.{arith}
use Rattle.std.proofs.lemmas.List.{take_rest}
use Rattle.row_codec.proofs.Codes.{no_more}
use Rattle.row_codec.proofs.reading.first_values.Goals as goal

pub returns-in-None-clause-found : goal.returns-in-None-clause-found
returns-in-None-clause-found c = λ row rest long lawful e.
    let bytes = c.args.bytes.now in
    let none = rw (take_rest bytes c.values.end, c.in-None.is) at c.in_ok-value.ensures.found in
    no_more bytes rest c.args.count c.values.end c.values.row row (omega arith) c.values.invariant.lawful c.values.invariant.read none long lawful e
