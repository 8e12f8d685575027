use Rattle.std.proofs.Common.{arith}
use Rattle.std.proofs.lemmas.List.{take_rest}
use Rattle.index_page.proofs.Packing.{no_more}
use Rattle.index_page.proofs.reading.first_entries.Goals as goal

pub returns-in-None-clause-found : goal.returns-in-None-clause-found
returns-in-None-clause-found c = λ entries behind long lawful e.
    let bytes = c.args.bytes.now in
    let none = rw (take_rest bytes c.read.end, c.in-None.is) at c.in_ok-entry.ensures.found in
    no_more bytes behind c.args.count c.read.end c.read.entries entries (omega arith) c.read.invariant.lawful c.read.invariant.read none long lawful e
