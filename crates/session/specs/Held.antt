-- The result tables that a session holds, of each name the last.
use Rattle.std.specs.Prelude.{◌≡◌, ℕ, List, map}
use Rattle.std.specs.BTreeMap.{BTreeMap}
use Rattle.sql_select.specs.declared.answer.Answer.{Answer}
use Rattle.sql_tree.specs.declared.select.Select.{Select}
use Rattle.session.specs.OverSnapshots.{results_asked}
use Rattle.session.specs.declared.result_table.ResultTable.{ResultTable}

-- each, in the order of their names
abbrev pub held : BTreeMap (List ℕ) Answer → List ResultTable
held tables = map (λ entry. record { name = entry.0; answer = entry.1 }) tables.entries

-- every query has the same answer of these as of those
abbrev pub GiveAlike : List ResultTable → List ResultTable → Type 0
GiveAlike one other = (query : Select) → results_asked query one ≡ results_asked query other
