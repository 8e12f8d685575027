use Rattle.std.proofs.lemmas.Result.{err_from_is_err_and}
use Rattle.pager.specs.Draft.{drafted}
use Rattle.heap_file.proofs.Ways.{allowed_on, allowed_stop}
use Rattle.relation.specs.Entries.{entries_edited}
use Rattle.relation.specs.Work.{table_indexed}
use Rattle.relation.proofs.Listed.{indexed-by, indexed-untold}
use Rattle.relation.proofs.drafting.create_index.Goals as goal

pub returns-in_err-add_to_catalog-clause-indexed : goal.returns-in_err-add_to_catalog-clause-indexed
returns-in_err-add_to_catalog-clause-indexed g c = λ base shown told.
    let p = err_from_is_err_and c.from_residual-in_err-add_to_catalog.result c.from_residual-in_err-add_to_catalog.ensures.1 in
    let second = c.in_err-add_to_catalog.ensures.only_drafts.narrows base shown told in
    let first = c.in_ok-root.ensures.only_drafts.narrows base shown second in
    rw (p.1, p.2)
    (allowed_stop c.in_err-add_to_catalog.field-0.0
    (λ why h. indexed-untold g.I.Index.made g.I.Index.added c.args.draft.now.size c.args.name.now c.args.table.now c.args.place (drafted shown c.args.draft.now.list) c.in_ok-entries.entries.items c.in_ok-root.root _ why (c.in_ok-entries.ensures.entries base shown first) (c.in_ok-root.ensures.made base shown second) h)
    (rw (c.in_ok-root.ensures.size, c.in_ok-row.ensures.values) at (c.in_err-add_to_catalog.ensures.added base shown told)))

pub returns-clause-indexed : goal.returns-clause-indexed
returns-clause-indexed g c = λ base shown told.
    let size = c.args.draft.now.size in
    let pages = drafted shown c.args.draft.now.list in
    let with_row = drafted shown c.add_to_catalog.new.draft.list in
    let entries = c.in_ok-entries.entries.items in
    let third = c.edit_entries.ensures.only_drafts.narrows base shown told in
    let second = c.in_ok-add_to_catalog.ensures.only_drafts.narrows base shown third in
    let first = c.in_ok-root.ensures.only_drafts.narrows base shown second in
    let told_row = rw (c.in_ok-root.ensures.size, c.in_ok-row.ensures.values) at (c.in_ok-add_to_catalog.ensures.added base shown third) in
    let listed = rw (c.in_ok-add_to_catalog.ensures.size, c.in_ok-root.ensures.size, c.deref.ensures.value) at (c.edit_entries.ensures.edited base shown told) in
    allowed_on (λ u. (u, drafted shown c.edit_entries.new.draft.list)) (entries_edited g.I.Index.added size c.in_ok-root.root entries with_row) (table_indexed g.I.Index.made g.I.Index.added size c.args.name.now c.args.table.now c.args.place pages) c.edit_entries.result
    (indexed-by g.I.Index.made g.I.Index.added size c.args.name.now c.args.table.now c.args.place pages entries c.in_ok-root.root _ with_row (c.in_ok-entries.ensures.entries base shown first) (c.in_ok-root.ensures.made base shown second) told_row)
    listed
