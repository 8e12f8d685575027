use Rattle.std.proofs.Common.{arith}
use Rattle.sql_select.proofs.InGroups.{joins_at, begins}
use Rattle.sql_select.proofs.grouping.add_member.Goals as goal

pub returns-in_ok-push-clause-rows : goal.returns-in_ok-push-clause-rows
returns-in_ok-push-clause-rows c =
    rw c.in_ok-push.ensures.ok (joins_at c.args.groups.now.items c.args.place c.args.row c.index_mut-group.result.now (omega arith) c.index_mut-group.ensures.value)

pub returns-in_ok-push-3-clause-rows : goal.returns-in_ok-push-3-clause-rows
returns-in_ok-push-3-clause-rows c =
    rw (c.in_ok-push-3.ensures.items, c.in_ok-push-2.ensures.ok, c.new-group.ensures) (begins c.args.groups.now.items c.args.place c.args.row (omega arith))
