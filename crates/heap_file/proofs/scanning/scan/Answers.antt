use Rattle.pager.specs.Draft.{drafted}
use Rattle.heap_file.specs.Chain.{scanned}
use Rattle.heap_file.specs.Sieving.{sifted}
use Rattle.std.proofs.Common.{Ok, true}
use Rattle.heap_file.proofs.Sifts.{every-row}
use Rattle.heap_file.proofs.Ways.{allowed_on}
use Rattle.heap_file.proofs.scanning.scan.Goals as goal

pub returns-clause-scanned : goal.returns-clause-scanned
returns-clause-scanned g c = λ base shown told.
    let size = c.args.draft.now.size in
    let pages = drafted shown c.args.draft.now.list in
    allowed_on (λ rows. rows.items) (sifted (λ row. Ok true) size pages c.args.first) (scanned size pages c.args.first) c.scan_by.result (every-row size pages c.args.first) (c.scan_by.ensures.sifted base shown told)
