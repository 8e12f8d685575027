use Rattle.tables.proofs.Finding.{table_sound}
use Rattle.tables.proofs.tables.Tables.create_table.Goals as goal

pub invariant_of-self-2 : goal.invariant_of-self-2
invariant_of-self-2 c = rw (c.in_ok-push_table.ensures.tables, c.in_ok-push_table.ensures.contents) (table_sound _ (record { schema = c.self.inside.schema; contents = c.self.inside.contents.items }) c.self.invariant (rw c.in_ok-copy-2.ensures c.requires))
