use Rattle.copy_queue.proofs.Finding.{first_there, none_there, other_there}
use Rattle.copy_queue.proofs.queue.first_past.Goals as goal

pub returns-in-Some : goal.returns-in-Some
returns-in-Some c = first_there c.args.places.now c.args.page c.args.from c.range.result (c.range.ensures.in_range tt) c.in-Some.field-0.now c.next.new.self c.in-Some.ensures.steps c.if-found-page.true

pub returns-in_default : goal.returns-in_default
returns-in_default c = other_there c.args.places.now c.args.page c.args.from c.range.result (c.range.ensures.in_range tt) c.in-Some.field-0.now c.next.new.self c.in-Some.ensures.steps c.if-found-page.false

pub returns-in_default-2 : goal.returns-in_default-2
returns-in_default-2 c = none_there c.args.places.now c.args.page c.args.from c.range.result (c.range.ensures.in_range tt) (rw c.in_default.is at c.next.ensures.steps).0
