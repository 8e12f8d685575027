use Rattle.history.proofs.Items.{open_where_last_begins, open_by_a_line}
use Rattle.history.proofs.laws.laws_of_open_items.Goals as goal

pub returns : goal.returns
returns c = record { last = open_where_last_begins; no_line = open_by_a_line }
