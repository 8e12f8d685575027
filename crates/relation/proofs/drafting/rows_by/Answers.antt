use Rattle.std.proofs.Common.{List, [], refl, subst}
use Rattle.heap_file.specs.Chain.{rows_of}
use Rattle.sql_tree.specs.declared.statement.Column.{Column}
use Rattle.relation.specs.Work.{AllPlacedFit}
use Rattle.relation.proofs.drafting.rows_by.Goals as goal

pub returns-clause-met : goal.returns-clause-met
returns-clause-met g c = λ start met base shown told.
    let h = c.in_ok-rows.ensures.met (record { columns = c.as_slice-columns.result; sieve = start }) [] ((refl, tt), met) base shown told in
    (h.0, h.1, (subst (λ (columns : List Column). AllPlacedFit columns (rows_of h.0)) c.as_slice-columns.ensures h.2.0.1, h.2.1))
