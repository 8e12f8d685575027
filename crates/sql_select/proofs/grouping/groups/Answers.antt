use Rattle.std.proofs.Common.{◌∙◌, ◌++◌, ap, sym, append_assoc}
use Rattle.sql_select.proofs.InGroups.{keys_of-more, groups_more}
use Rattle.sql_select.proofs.grouping.groups.Goals as goal

pub loop-keyed-preserved : goal.loop-keyed-preserved
loop-keyed-preserved c =
    let before = c.loop-keyed.invariant in
    let key = c.new.ensures in
    record {
      split = append_assoc c.loop-keyed.yielded _ _ ∙ ap (λ l. c.loop-keyed.yielded ++ l) (sym c.in-Some.ensures.steps.0) ∙ before.split;
      met = rw (c.in_ok-place.ensures.keys, before.met, key) (keys_of-more c.loop-keyed.yielded c.in-Some.keyed);
      apart = c.in_ok-place.ensures.unique;
      grouped = rw (c.in_ok-add_member.ensures.rows, before.grouped, c.in_ok-place.ensures.index, before.met, key) (groups_more c.loop-keyed.yielded c.in-Some.keyed (rw before.met at before.apart));
    }
