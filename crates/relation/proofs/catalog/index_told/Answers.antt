use Rattle.std.proofs.Common.{Err, ap, sym, inr, refl, length, ◌∙◌}
use Rattle.std.proofs.lemmas.Option.{slice_get_past, slice_get_read}
use Rattle.relation.proofs.Finding.{named-found, named-none}
use Rattle.relation.proofs.catalog.index_told.Goals as goal

pub returns-in_default : goal.returns-in_default
returns-in_default c =
    let none = named-none c.args.row.now.table c.args.tables.now (sym (c.requires c.args.row.now.table) ∙ sym c.in_default.ensures.value) in
    inr (rw none (ap (λ why. Err why) (sym c.broken.ensures)), (c.args.page, c.broken.ensures))

pub returns-in_default-get : goal.returns-in_default-get
returns-in_default-get c =
    let place = sym (c.requires c.args.row.now.table) ∙ sym c.in-Some.ensures.value in
    let found = named-found c.args.row.now.table c.args.tables.now c.in-Some.table.now c.index-tables-table.result place in
    let none = rw c.as_slice.ensures at (slice_get_past c.as_slice.result.now c.args.row.now.place c.in_default-get.ensures.lookup.3) in
    inr (rw (found, none) (ap (λ why. Err why) (sym c.broken-in_default-get.ensures)), (c.args.page, c.broken-in_default-get.ensures))

pub returns : goal.returns
returns c =
    let place = sym (c.requires c.args.row.now.table) ∙ sym c.in-Some.ensures.value in
    let found = named-found c.args.row.now.table c.args.tables.now c.in-Some.table.now c.index-tables-table.result place in
    let lookup = c.in-Some-get.ensures.lookup in
    let there = rw c.as_slice.ensures at (slice_get_read c.as_slice.result.now (length c.as_slice.result.now) c.args.row.now.place c.in-Some-get.column.now refl lookup.3.0 lookup.1) in
    rw (found, there, c.in_ok-copy.ensures, c.in_ok-copy-2.ensures, c.in_ok-copy-3.ensures) refl
