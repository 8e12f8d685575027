use Rattle.std.proofs.Common.{◌∙◌, Some, ap, sym}
use Rattle.relation.proofs.Finding.{named-found, named-none}
use Rattle.relation.proofs.catalog.Catalog.table.Goals as goal

pub returns-in-Some : goal.returns-in-Some
returns-in-Some c =
    named-found c.args.name.now c.args.self.now.tables c.in-Some.place c.index-tables-place.result (rw (c.as_slice-tables.ensures, c.in-Some.is) at (sym c.find.ensures))
    ∙ ap (λ t. Some t) (sym (rw c.as_slice-tables.ensures at c.index-tables-place.is))

pub returns-in-None : goal.returns-in-None
returns-in-None c =
    named-none c.args.name.now c.args.self.now.tables (rw (c.as_slice-tables.ensures, c.in-None.is) at (sym c.find.ensures))
