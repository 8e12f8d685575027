use Rattle.std.proofs.Common.{◌≤◌, ◌∙◌, length, sym, arith}
use Rattle.std.proofs.lemmas.List.{at_drop_all}
use Rattle.sql_exec.proofs.Ranged.{best_behind, best_is}
use Rattle.sql_exec.proofs.ranges.plan.Goals as goal

pub returns : goal.returns
returns c =
    let ended : length c.args.indexes.now ≤ c.loop-index.index-index = omega arith in
    sym (at_drop_all (best_behind c.args.table.now c.args.condition.now c.loop-index.best) c.args.indexes.now c.loop-index.index-index ended)
    ∙ c.loop-index.invariant
    ∙ best_is c.args.table.now c.args.condition.now c.args.indexes.now
