use Rattle.std.proofs.Common.{sym}
use Rattle.copy_queue.proofs.Finding.{none_past, one_past}
use Rattle.copy_queue.proofs.queue.CopyQueue.find.Goals as goal

pub overflow_sub-result : goal.overflow_sub-result
overflow_sub-result c = (one_past c.self.inside.first c.args.from c.args.page c.self.inside.images.items c.self.inside.places c.self.invariant c.in-Some.number c.in-Some.ensures).0

pub returns-in-Some : goal.returns-in-Some
returns-in-Some c = rw (← c.self.view_is) (sym (one_past c.self.inside.first c.args.from c.args.page c.self.inside.images.items c.self.inside.places c.self.invariant c.in-Some.number c.in-Some.ensures).1)

pub returns-in-None : goal.returns-in-None
returns-in-None c = rw (← c.self.view_is) (sym (none_past c.self.inside.first c.args.from c.args.page c.self.inside.images.items c.self.inside.places c.self.invariant c.in-None.ensures))
