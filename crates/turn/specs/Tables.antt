-- The table of the two locks.
use Rattle.atomic_table.specs.Seated.{TableId}
use Rattle.turn.specs.declared.turn.Turn.{Turn}

abbrev pub table_of : {A B O W : Type 0} → Turn A B O W → TableId
table_of turn = turn.table.shared.table_id
