use Rattle.std.proofs.Common.{◌++◌, List, Option, take}
use Rattle.values.specs.declared.value.Value.{Value}
use Rattle.rql.specs.Groups.{AreGroups}
use Rattle.rql.specs.declared.function.Function.{Function}
use Rattle.rql.proofs.table.PairedRowsTakes.add.Given as goal

abbrev pub invariant-loop-row : goal.invariant-loop-row
invariant-loop-row g l = (functions : List (Option Function)) (rows : List (List Value)) → AreGroups functions l.fn.groups rows
    → AreGroups functions l.groups (rows ++ take l.row-index l.row-items)
