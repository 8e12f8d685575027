use Rattle.std.proofs.Common.{◌∙◌, map}
use Rattle.pager.specs.Draft.{drafted}
use Rattle.heap_file.specs.Work.{made}
use Rattle.heap_file.proofs.Ways.{allowed_on}
use Rattle.relation.specs.declared.catalog.TheConstants.{CATALOG}
use Rattle.relation.specs.CatalogRow.{row_values}
use Rattle.relation.specs.Work.{all_added, created, rows_of_table}
use Rattle.relation.proofs.Steps.{added_at, next_step}
use Rattle.relation.proofs.drafting.create_table.Goals as goal

pub returns-clause-created : goal.returns-clause-created
returns-clause-created g c = λ base shown told.
    let size = c.args.draft.now.size in
    let pages = drafted shown c.args.draft.now.list in
    let after = drafted shown c.make.new.draft.list in
    let first = c.in_ok-first.first in
    let name = c.args.name.now in
    let columns = c.args.columns.now in
    allowed_on (λ u. (u, drafted shown c.add_to_catalog.new.draft.list)) (all_added c.make.new.draft.size CATALOG c.deref.result.now after) (created size pages name columns) c.add_to_catalog.result
    (λ a h. next_step (made size pages) (λ table. all_added size CATALOG (map row_values (rows_of_table name table.0 columns)) table.1) (first, after) (c.in_ok-first.ensures.made base shown (c.add_to_catalog.ensures.only_drafts.narrows base shown told)) a
    (added_at size c.make.new.draft.size CATALOG (map row_values (rows_of_table name first columns)) c.deref.result.now after a c.in_ok-first.ensures.size (c.deref.ensures.value ∙ c.in_ok-rows.ensures.rows) h))
    (c.add_to_catalog.ensures.added base shown told)
