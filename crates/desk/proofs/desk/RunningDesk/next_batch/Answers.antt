use Rattle.std.proofs.Common.{length, rules}
use Rattle.desk.proofs.Told.{none_there, some_there, takes, takes_none}
use Rattle.desk.proofs.desk.RunningDesk.next_batch.Goals as goal

pub returns-then-is_empty-clause-all : goal.returns-then-is_empty-clause-all
returns-then-is_empty-clause-all g c = λ desk is f none.
    takes_none g.D.Disk.is_honest g.D.Disk.state c.args.self.now desk is f (none_there (length c.args.self.now.queue.images) c.is_empty.result c.is_empty.ensures c.if-is_empty.true)

pub returns-clause-takes : goal.returns-clause-takes
returns-clause-takes g c = λ desk is f told some.
    takes g.D.Disk.is_honest g.D.Disk.state c.args.self.now desk is f told (some_there (length c.args.self.now.queue.images) c.is_empty.result c.is_empty.ensures c.if-is_empty.false) c.fill.new.batch (search rules)
