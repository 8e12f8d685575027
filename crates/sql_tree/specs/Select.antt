-- The outputs of a select, and whether it is of groups.
use Rattle.std.specs.Prelude.{◌||◌, ◌==◌, Bool, true, false, not, List, [], length}
use Rattle.std.specs.List.{list_any}
use Rattle.sql_tree.specs.declared.select.Output.{Output}
use Rattle.sql_tree.specs.declared.select.OutputValue.{OutputValue}
use Rattle.sql_tree.specs.declared.select.OutputValue.TheVariants as output
use Rattle.sql_tree.specs.declared.select.Select.{Select}
use Rattle.sql_tree.specs.declared.select.SelectList.{SelectList}
use Rattle.sql_tree.specs.declared.select.SelectList.TheVariants.{All, Outputs}

abbrev pub is_aggregate : OutputValue → Bool
is_aggregate (output.Expression of) = false
is_aggregate (output.Aggregate of) = true

-- the outputs that a list writes out; `*` writes out none
abbrev pub outputs_of : SelectList → List Output
outputs_of All = []
outputs_of (Outputs outputs) = outputs

abbrev pub has_aggregate : SelectList → Bool
has_aggregate list = list_any (λ (output : Output). is_aggregate output.value) (outputs_of list)

-- whether a select gives a row for each group, or one for all rows
abbrev pub is_grouped : Select → Bool
is_grouped select = has_aggregate select.list || not (length select.group_by == 0)
