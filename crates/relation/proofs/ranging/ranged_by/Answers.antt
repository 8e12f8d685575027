use Rattle.pager.specs.Draft.{drafted}
use Rattle.heap_file.proofs.Ways.{allowed_on}
use Rattle.relation.specs.Each.{each_some}
use Rattle.relation.specs.Sieving.{fitting}
use Rattle.relation.specs.Work.{ranged_by, row_found}
use Rattle.relation.proofs.Reached.{ranged-by}
use Rattle.relation.proofs.ranging.ranged_by.Goals as goal

pub returns-clause-ranged : goal.returns-clause-ranged
returns-clause-ranged g c = λ base shown told.
    let size = c.args.draft.now.size in
    let pages = drafted shown c.args.draft.now.list in
    let table = c.args.table.now in
    let passes = g.S.Sieve.passes c.args.sieve in
    let before = c.rows_found.ensures.only_reads.narrows base shown told in
    let found = c.in_ok-found.found.items in
    let sorted = c.in_ok-sorted.sorted.items in
    allowed_on (λ rows. rows.items) (each_some (row_found (fitting table.columns passes) size pages) sorted) (ranged_by passes g.I.Index.ranged size pages table c.args.index.now c.args.low.now c.args.high.now) c.rows_found.result
    (ranged-by passes g.I.Index.ranged size pages table c.args.index.now c.args.low.now c.args.high.now found sorted (rw c.at.ensures at (c.in_ok-found.ensures.ranged base shown before)) (c.in_ok-sorted.ensures.sorted, c.in_ok-sorted.ensures.rising))
    (rw (c.deref.ensures.value, c.as_slice-columns.ensures) at (c.rows_found.ensures.told base shown told))
