use Rattle.session.specs.Singles.{AsksMarks}
use Rattle.session.proofs.Ends.{ends_at_once, may_end}
use Rattle.session.proofs.Lists.{concludes_listed}
use Rattle.session.proofs.listing.list_up.Goals as goal

pub finish-requires-clause-may_end : goal.finish-requires-clause-may_end
finish-requires-clause-may_end g c =
    may_end (AsksMarks c.args.query.now c.args.marks.now) (g.S.Seat.view c.args.seat) c.listed-text.result
    (concludes_listed c.args.query.now c.args.marks.now (g.S.Seat.view c.args.seat) c.listed-text.result c.listed-text.ensures)

pub returns-clause-ends : goal.returns-clause-ends
returns-clause-ends g c =
    ends_at_once c.args.names.now (AsksMarks c.args.query.now c.args.marks.now) (g.S.Seat.view c.args.seat) (g.S.Seat.view c.finish.result.0) c.listed-text.result c.finish.result.1
    (concludes_listed c.args.query.now c.args.marks.now (g.S.Seat.view c.args.seat) c.listed-text.result c.listed-text.ensures) c.finish.ensures.ends c.finish.ensures.tells
