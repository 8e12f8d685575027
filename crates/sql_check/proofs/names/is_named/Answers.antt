use Rattle.std.proofs.Common.{◌∙◌, sym}
use Rattle.sql_kinds.proofs.Truths.{or_from_false}
use Rattle.sql_check.proofs.names.is_named.Goals as goal

pub returns-else-names_table : goal.returns-else-names_table
returns-else-names_table c =
    let tables = rw c.as_slice.ensures at c.has_name-names_table.ensures in
    let indexes = rw c.as_slice-2.ensures at c.has_name-names_index.ensures in
    or_from_false _ _ _ (sym tables ∙ c.if-names_table.false) indexes
