use Rattle.std.proofs.Common.{◌∙◌, sym}
use Rattle.turn.specs.Seats.{held, mine}
use Rattle.store.proofs.Entering.{page_there}
use Rattle.store.proofs.shared.Store.told.Goals as goal

pub peek-answer-requires-clause-inside : goal.peek-answer-requires-clause-inside
peek-answer-requires-clause-inside g c = page_there g.D.Disk.is_honest g.D.Disk.state g.D.Disk.faults _ c.args.seat.now c.enter-side.new.seat c.enter-side.result c.enter-side.ensures c.args.page c.requires.inside

pub peek-answer-requires-clause-pinned : goal.peek-answer-requires-clause-pinned
peek-answer-requires-clause-pinned g c = let p = c.requires.pinned in record { session = c.args.seat.now.number; look = p.look; there = sym c.enter-side.ensures.work ∙ p.there; pinned = p.pinned }

pub leave-requires : goal.leave-requires
leave-requires g c = (c.args.seat.now, c.enter-side.result, c.enter-side.ensures, c.peek-answer.ensures.glance (held c.enter-side.new.seat) (mine c.args.seat.now) c.enter-side.ensures.keeps c.enter-side.ensures.acked)

pub returns-clause-visits : goal.returns-clause-visits
returns-clause-visits g c = record { before = c.enter-side.result; after = c.peek-answer.new.self; visited = c.leave.ensures c.args.seat.now c.enter-side.result c.enter-side.ensures; does = c.peek-answer.ensures.does }
