use Rattle.std.proofs.Common.{◌∙◌, ◌++◌, ap, sym, append_assoc}
use Rattle.sql_select.proofs.InGroups.{distinct_more}
use Rattle.sql_select.proofs.grouping.distinct.Goals as goal

pub loop-row-preserved : goal.loop-row-preserved
loop-row-preserved c =
    let before = c.loop-row.invariant in
    record {
      split = append_assoc c.loop-row.yielded _ _ ∙ ap (λ l. c.loop-row.yielded ++ l) (sym c.in-Some.ensures.steps.0) ∙ before.split;
      firsts = rw (c.in_ok-insert.ensures.keys, before.firsts) (distinct_more c.loop-row.yielded c.in-Some.row);
    }
