use Rattle.std.proofs.Common.{◌∙◌, length, sym, arith}
use Rattle.std.proofs.lemmas.Bool.{both_ways}
use Rattle.desk.proofs.Sent.{cannot_cut, may_cut}
use Rattle.desk.proofs.Told.{none_there, some_there}
use Rattle.desk.proofs.desk.RunningDesk.is_clean.Goals as goal

pub returns-then-is_unsettled-clause-soiled : goal.returns-then-is_unsettled-clause-soiled
returns-then-is_unsettled-clause-soiled g c = λ desk is f same can.
    both_ways c.is_unsettled.result (c.is_unsettled.ensures ∙ (cannot_cut g.D.Disk.is_honest g.D.Disk.state c.args.self.now desk is f can).0) c.if-is_unsettled.true

pub returns-then-dirty-gt0-clause-soiled : goal.returns-then-dirty-gt0-clause-soiled
returns-then-dirty-gt0-clause-soiled g c = λ desk is f same can.
    omega (arith, c.if-dirty-gt0.true, c.dirty.ensures, (cannot_cut g.D.Disk.is_honest g.D.Disk.state c.args.self.now desk is f can).1)

pub returns-clause-clean : goal.returns-clause-clean
returns-clause-clean g c = λ desk is f goes empty.
    may_cut g.D.Disk.is_honest g.D.Disk.state c.args.self.now desk is f goes (sym c.is_unsettled.ensures ∙ c.if-is_unsettled.false) (omega (arith, c.if-dirty-gt0.false, c.dirty.ensures))
    (none_there (length c.args.self.now.queue.images) c.is_empty.result c.is_empty.ensures empty)

pub returns-clause-soiled : goal.returns-clause-soiled
returns-clause-soiled g c = λ desk is f some can.
    omega (arith, some_there (length c.args.self.now.queue.images) c.is_empty.result c.is_empty.ensures some, (cannot_cut g.D.Disk.is_honest g.D.Disk.state c.args.self.now desk is f can).2)
