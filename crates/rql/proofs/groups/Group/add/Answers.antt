use Rattle.std.proofs.Common.{arith}
use Rattle.rql.proofs.GroupFolds.{added_all, added_more}
use Rattle.rql.proofs.groups.Group.add.Goals as goal

pub loop-place-preserved : goal.loop-place-preserved
loop-place-preserved g c =
    let so_far = c.loop-place.invariant in
    added_more c.loop-place.place c.args.row.now c.args.self.now.cells.items c.loop-place.self.cells.items c.index_mut.result.now c.add.new.self (omega arith) c.index_mut.ensures.value c.in_ok-add.ensures so_far

pub returns : goal.returns
returns g c = added_all c.loop-place.place c.args.row.now c.args.self.now c.loop-place.self (omega arith) c.loop-place.invariant
